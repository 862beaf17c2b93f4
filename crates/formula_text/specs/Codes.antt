-- Trees as bytes, each operator before its operands.
use Rattle.std.specs.Prelude.{ℕ, ◌+◌, ◌*◌, ◌-◌, ◌==◌, nat_lt, if◌then◌else◌, pos, negsuc, List, [], ◌∷◌}
use Rattle.formula_text.specs.declared.node.Op.{Op}
use Rattle.formula_text.specs.declared.node.Op.TheVariants as ops
use Rattle.formula_text.specs.declared.code.Head.{Head}
use Rattle.formula_text.specs.declared.code.Head.TheVariants as heads
use Rattle.formula_text.specs.Trees.{Tree, Number, Input, Minus, Two}

-- the byte of an operator
abbrev pub op_byte : Op → ℕ
op_byte ops.Plus = 0
op_byte ops.Less = 1
op_byte ops.Times = 2
op_byte ops.Over = 3
op_byte ops.Rest = 4
op_byte ops.Min = 5
op_byte ops.Max = 6

-- an input, a small number, or one digit to base 128
abbrev pub leaf_of : ℕ → Head
leaf_of b = if nat_lt b 48 then heads.Input (b - 8) else if nat_lt b 128 then heads.Number (b - 48) else heads.Digit (b - 128)

-- what a byte says
abbrev pub head_of : ℕ → Head
head_of b =
    if b == 0 then heads.Two ops.Plus
    else if b == 1 then heads.Two ops.Less
    else if b == 2 then heads.Two ops.Times
    else if b == 3 then heads.Two ops.Over
    else if b == 4 then heads.Two ops.Rest
    else if b == 5 then heads.Two ops.Min
    else if b == 6 then heads.Two ops.Max
    else if b == 7 then heads.Minus
    else leaf_of b

-- the first of some trees, and the others
abbrev pub top : List Tree → Tree
top [] = Number (pos 0)
top (t ∷ s) = t

abbrev pub below : List Tree → List Tree
below [] = []
below (t ∷ s) = s

-- a number with one more digit; of another tree none that can be written
abbrev pub with_digit : Tree → ℕ → Tree
with_digit (Number (pos n)) d = Number (pos (n * 128 + d))
with_digit t d = Number (negsuc 0)

-- what a byte makes of the trees that stand behind it
abbrev pub made : Head → List Tree → List Tree
made (heads.Two op) s = Two op (top s) (top (below s)) ∷ below (below s)
made heads.Minus s = Minus (top s) ∷ below s
made (heads.Input i) s = Input i ∷ s
made (heads.Number n) s = Number (pos n) ∷ s
made (heads.Digit d) s = with_digit (top s) d ∷ below s

-- the trees of a code that others follow
abbrev pub trees_before : List ℕ → List Tree → List Tree
trees_before [] s = s
trees_before (b ∷ code) s = made (head_of b) (trees_before code s)

-- the trees of a code
abbrev pub trees : List ℕ → List Tree
trees code = trees_before code []

-- the first of them
abbrev pub tree_in : List ℕ → Tree
tree_in code = top (trees code)
