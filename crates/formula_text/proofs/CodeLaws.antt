-- What bytes say, and how a tree's bytes are put behind others.
use Rattle.std.proofs.Common.{◌≡◌, ℕ, ◌+◌, ◌*◌, ◌/◌, ◌%◌, ◌<◌, ◌≤◌, pos, List, [], ◌∷◌, ◌++◌, refl, ap, ◌∙◌, arith}
use Rattle.std.proofs.lemmas.Bool.Decides.{nat_tests}
use Rattle.formula_text.specs.declared.node.Op.{Op}
use Rattle.formula_text.specs.declared.node.Op.TheVariants as ops
use Rattle.formula_text.specs.declared.code.Head.{Head}
use Rattle.formula_text.specs.declared.code.Head.TheVariants as heads
use Rattle.formula_text.specs.Trees.{Tree, Number, Input, Minus, Two}
use Rattle.formula_text.specs.Codes.{op_byte, leaf_of, head_of, made, top, trees_before, tree_in}

-- ---- what a byte says

leaf_head : (b : ℕ) → 8 ≤ b → head_of b ≡ leaf_of b
leaf_head b h = grind (arith, nat_tests)

op_head : (op : Op) → head_of (op_byte op) ≡ heads.Two op
op_head ops.Plus = refl
op_head ops.Less = refl
op_head ops.Times = refl
op_head ops.Over = refl
op_head ops.Rest = refl
op_head ops.Min = refl
op_head ops.Max = refl

input_leaf : (b i : ℕ) → i < 40 → b ≡ 8 + i → leaf_of b ≡ heads.Input i
input_leaf b i h e = grind (arith, nat_tests)

number_leaf : (b n : ℕ) → n < 80 → b ≡ 48 + n → leaf_of b ≡ heads.Number n
number_leaf b n h e = grind (arith, nat_tests)

digit_leaf : (b d : ℕ) → b ≡ 128 + d → leaf_of b ≡ heads.Digit d
digit_leaf b d e = grind (arith, nat_tests)

-- ---- bytes behind others

before_append : (a b : List ℕ) (s : List Tree) → trees_before (a ++ b) s ≡ trees_before a (trees_before b s)
before_append [] b s = refl
before_append (x ∷ a) b s = ap (made (head_of x)) (before_append a b s)

before_byte : (old new : List ℕ) (b : ℕ) (h : Head) (s : List Tree) → new ≡ old ++ b ∷ [] → head_of b ≡ h → trees_before new s ≡ trees_before old (made h s)
before_byte old new b h s e is = ap (λ (z : List ℕ). trees_before z s) e ∙ before_append old (b ∷ []) s ∙ ap (λ (z : Head). trees_before old (made z s)) is

pub put_small : (old new : List ℕ) (b n : ℕ) → new ≡ old ++ b ∷ [] → b ≡ 48 + n → n < 80 → (s : List Tree) → trees_before new s ≡ trees_before old (Number (pos n) ∷ s)
put_small old new b n e is small s = before_byte old new b (heads.Number n) s e (leaf_head b (omega arith) ∙ number_leaf b n small is)

pub put_digit : (old mid new : List ℕ) (b n : ℕ) → mid ≡ old ++ b ∷ [] → b ≡ 128 + n % 128 → ((s : List Tree) → trees_before new s ≡ trees_before mid (Number (pos (n / 128)) ∷ s)) → (s : List Tree) → trees_before new s ≡ trees_before old (Number (pos n) ∷ s)
put_digit old mid new b n e is more s =
    let whole : n / 128 * 128 + n % 128 ≡ n = omega arith in
    more s ∙ before_byte old mid b (heads.Digit (n % 128)) (Number (pos (n / 128)) ∷ s) e (leaf_head b (omega arith) ∙ digit_leaf b (n % 128) is) ∙ ap (λ (z : ℕ). trees_before old (Number (pos z) ∷ s)) whole

pub put_input : (old new : List ℕ) (b i : ℕ) → new ≡ old ++ b ∷ [] → b ≡ 8 + i → i < 40 → (s : List Tree) → trees_before new s ≡ trees_before old (Input i ∷ s)
put_input old new b i e is small s = before_byte old new b (heads.Input i) s e (leaf_head b (omega arith) ∙ input_leaf b i small is)

pub put_minus : (old mid new : List ℕ) (a : Tree) → mid ≡ old ++ 7 ∷ [] → ((s : List Tree) → trees_before new s ≡ trees_before mid (a ∷ s)) → (s : List Tree) → trees_before new s ≡ trees_before old (Minus a ∷ s)
put_minus old mid new a e more s = more s ∙ before_byte old mid 7 heads.Minus (a ∷ s) e refl

pub put_operands : (old mid after new : List ℕ) (x : ℕ) (op : Op) (a b : Tree) → mid ≡ old ++ x ∷ [] → x ≡ op_byte op → ((s : List Tree) → trees_before after s ≡ trees_before mid (a ∷ s)) → ((s : List Tree) → trees_before new s ≡ trees_before after (b ∷ s)) → (s : List Tree) → trees_before new s ≡ trees_before old (Two op a b ∷ s)
put_operands old mid after new x op a b e is left right s =
    right s ∙ left (b ∷ s) ∙ before_byte old mid x (heads.Two op) (a ∷ b ∷ s) e (ap head_of is ∙ op_head op)

-- what is put behind nothing is the whole code
pub whole_code : (old new kept : List ℕ) (t : Tree) → old ≡ [] → ((s : List Tree) → trees_before new s ≡ trees_before old (t ∷ s)) → kept ≡ new → tree_in kept ≡ t
whole_code old new kept t empty put same = ap tree_in same ∙ ap top (put []) ∙ ap (λ (z : List ℕ). top (trees_before z (t ∷ []))) empty
