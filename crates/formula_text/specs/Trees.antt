-- Trees of formulas, without where they lie in memory, and their values.
use Rattle.std.specs.Prelude.{◌≡◌, ℕ, zero, suc, ◌<◌, ◌⊎◌, ℤ, pos, negsuc, List, slice_index_or, Option, Some, None, max, min, int_rem}
use Rattle.std.specs.Int.{w64, int_wrapping_add, int_wrapping_sub, int_wrapping_mul, int_wrapping_neg, int_wrapping_div, int_min, int_max}
use Rattle.formula_text.specs.declared.node.Op.{Op}
use Rattle.formula_text.specs.declared.node.Op.TheVariants.{Plus, Less, Times, Over, Rest, Min, Max}
use Rattle.formula_text.specs.declared.node.Node.{Node}
use Rattle.formula_text.specs.declared.node.Node.TheVariants as nodes

-- a number, input i of the task, a unary minus, or an operator of two operands
pub data Tree : Type 0 where
  Number : (value : ℤ) → Tree
  Input : (index : ℕ) → Tree
  Minus : (of : Tree) → Tree
  Two : (op : Op) (left right : Tree) → Tree

-- the tree of what lies in memory
abbrev pub tree_of : Node → Tree
tree_of (nodes.Number n) = Number n
tree_of (nodes.Input i) = Input i
tree_of (nodes.Minus' p a) = Minus (tree_of a)
tree_of (nodes.Two' op p a q b) = Two op (tree_of a) (tree_of b)

-- ---- values, which wrap at 64 bits

-- towards zero, and 0 where the divisor is 0
abbrev pub quotient : ℤ → ℤ → ℤ
quotient x (pos zero) = pos 0
quotient x (pos (suc n)) = int_wrapping_div w64 x (pos (suc n))
quotient x (negsuc n) = int_wrapping_div w64 x (negsuc n)

-- the remainder of that division, and 0 where the divisor is 0
abbrev pub remainder : ℤ → ℤ → ℤ
remainder x (pos zero) = pos 0
remainder x (pos (suc n)) = int_rem x (pos (suc n))
remainder x (negsuc n) = int_rem x (negsuc n)

-- an operator's value
abbrev pub applied : Op → ℤ → ℤ → ℤ
applied Plus x y = int_wrapping_add w64 x y
applied Less x y = int_wrapping_sub w64 x y
applied Times x y = int_wrapping_mul w64 x y
applied Over x y = quotient x y
applied Rest x y = remainder x y
applied Min x y = int_min x y
applied Max x y = int_max x y

-- a tree's value where input i is the i-th of these
abbrev pub value_of : Tree → List ℤ → ℤ
value_of (Number n) inputs = n
value_of (Input i) inputs = slice_index_or inputs i (pos 0)
value_of (Minus a) inputs = int_wrapping_neg w64 (value_of a inputs)
value_of (Two op a b) inputs = applied op (value_of a inputs) (value_of b inputs)

-- ---- the inputs that are used

-- some `$k` stands in the tree
abbrev pub Uses : Tree → ℕ → Type 0
Uses (Number n) k = ⊥
Uses (Input i) k = i ≡ k
Uses (Minus a) k = Uses a k
Uses (Two op a b) k = Uses a k ⊎ Uses b k

-- the larger of what is there
abbrev pub larger_of : Option ℕ → Option ℕ → Option ℕ
larger_of None b = b
larger_of (Some x) None = Some x
larger_of (Some x) (Some y) = Some (max x y)

-- the smaller of what is there
abbrev pub smaller_of : Option ℕ → Option ℕ → Option ℕ
smaller_of None b = b
smaller_of (Some x) None = Some x
smaller_of (Some x) (Some y) = Some (min x y)

-- each input that is used is among the first n
abbrev pub HasInputs : Tree → ℕ → Type 0
HasInputs (Number k) n = Unit {0}
HasInputs (Input i) n = i < n
HasInputs (Minus a) n = HasInputs a n
HasInputs (Two op a b) n = HasInputs a n × HasInputs b n
