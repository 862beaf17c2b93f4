-- The trees of a code by its first byte: what is made of the trees behind it.
use Rattle.std.proofs.Common.{◌≡◌, ℕ, ◌+◌, ◌*◌, ◌-◌, ◌^◌, ◌<◌, ◌≤◌, ℤ, pos, negsuc, ◌+ℤ◌, ◌*ℤ◌, List, [], ◌∷◌, ◌++◌, length, get_or, take, drop, refl, ap, subst, sym, ◌∙◌, arith, w64}
use Rattle.std.specs.Int.{int_wrapping_neg}
use Rattle.std.proofs.lemmas.List.{take_rest}
use Rattle.formula_text.specs.declared.node.Op.{Op}
use Rattle.formula_text.specs.declared.code.Head.{Head}
use Rattle.formula_text.specs.declared.code.Head.TheVariants as heads
use Rattle.formula_text.specs.declared.writing.Line.{Line}
use Rattle.formula_text.specs.Trees.{Tree, Number, Input, Minus, Two, value_of, applied}
use Rattle.formula_text.specs.Codes.{head_of, made, top, below, with_digit, trees, tree_in}
use Rattle.formula_text.specs.Writing.{IsWritable, line_of, left_of, right_of, around, text_of, before, sign, behind}
use Rattle.formula_text.proofs.PartsLaws.{put_two}

-- what stands behind the first byte
abbrev pub behind_first : List ℕ → List ℕ
behind_first code = take (length code - 1) (drop 1 code)

pub trees_by : (code : List ℕ) (h found : Head) → 1 ≤ length code → found ≡ head_of (get_or code 0 0) → found ≡ h → trees code ≡ made h (trees (behind_first code))
trees_by [] h found some is same = absurd (omega arith)
trees_by (b ∷ rest) h found some is same = ap (λ (z : Head). made z (trees rest)) (sym is ∙ same) ∙ ap (λ (z : List ℕ). made h (trees z)) (sym (take_rest (b ∷ rest) 1))

-- ---- values

pub two_value : (code rest after : List ℕ) (op : Op) (inputs : List ℤ) (x y z : ℤ) → trees code ≡ made (heads.Two op) (trees rest) → trees after ≡ below (trees rest)
    → x ≡ value_of (tree_in rest) inputs → y ≡ value_of (tree_in after) inputs → z ≡ applied op x y → z ≡ value_of (tree_in code) inputs
two_value code rest after op inputs x y z whole next left right is = rw (whole, is, left, right, next) refl

pub minus_value : (code rest : List ℕ) (inputs : List ℤ) (x z : ℤ) → trees code ≡ made heads.Minus (trees rest)
    → x ≡ value_of (tree_in rest) inputs → z ≡ int_wrapping_neg w64 x → z ≡ value_of (tree_in code) inputs
minus_value code rest inputs x z whole of is = rw (whole, is, of) refl

-- the number before the last digit, and with it
record InDigits (t : Tree) (d : ℕ) : Type 0 where
  before : ℕ
  is : t ≡ Number (pos before)
  small : before * 128 + d < 2 ^ 63

in_digits : (t : Tree) (d : ℕ) → IsWritable (with_digit t d) → InDigits t d
in_digits (Number (pos n)) d w = record { before = n; is = refl; small = w }
in_digits (Number (negsuc n)) d w = absurd w
in_digits (Input i) d w = absurd w
in_digits (Minus a) d w = absurd w
in_digits (Two op a b) d w = absurd w

-- what a sum and a product come to that are kept in words
in_words : (word : ℤ → ℤ) (k d : ℕ) (x y : ℤ) → ((m : ℕ) → m < 2 ^ 63 → word (pos m) ≡ pos m) → k * 128 + d < 2 ^ 63 → x ≡ pos k → y ≡ pos d
    → word (word (word x *ℤ pos 128) +ℤ word y) ≡ pos (k * 128 + d)
in_words word k d x y keeps small is_x is_y =
    let first = keeps k (omega arith) in
    let last = keeps d (omega arith) in
    let product = keeps (k * 128) (omega arith) in
    rw (is_x, is_y, first, last, product, keeps (k * 128 + d) small) refl

pub digit_value : (word : ℤ → ℤ) (code rest : List ℕ) (d : ℕ) (inputs : List ℤ) (x y : ℤ) → ((m : ℕ) → m < 2 ^ 63 → word (pos m) ≡ pos m) → trees code ≡ made (heads.Digit d) (trees rest)
    → IsWritable (tree_in code) → x ≡ value_of (tree_in rest) inputs → y ≡ pos d → word (word (word x *ℤ pos 128) +ℤ word y) ≡ value_of (tree_in code) inputs
digit_value word code rest d inputs x y keeps whole writable is_x is_y =
    let p = in_digits (tree_in rest) d (subst (λ (z : List Tree). IsWritable (top z)) whole writable) in
    in_words word p.before d x y keeps p.small (is_x ∙ ap (λ (t : Tree). value_of t inputs) p.is) is_y
    ∙ sym (ap (λ (z : List Tree). value_of (top z) inputs) whole ∙ ap (λ (t : Tree). value_of (with_digit t d) inputs) p.is)

-- ---- the text of two operands

pub two_text : (code rest after : List ℕ) (op : Op) (wanted left right : Line) (o o1 o2 o3 o4 o5 x z : List ℕ) (s : ℕ) → trees code ≡ made (heads.Two op) (trees rest) → trees after ≡ below (trees rest)
    → x ≡ before wanted op → o1 ≡ o ++ x → left ≡ left_of op → o2 ≡ o1 ++ around left (line_of (tree_in rest)) (text_of (tree_in rest)) → s ≡ sign op → o3 ≡ o2 ++ s ∷ []
    → right ≡ right_of op → o4 ≡ o3 ++ around right (line_of (tree_in after)) (text_of (tree_in after)) → z ≡ behind wanted op → o5 ≡ o4 ++ z
    → o5 ≡ o ++ around wanted (line_of (tree_in code)) (text_of (tree_in code))
two_text code rest after op wanted left right o o1 o2 o3 o4 o5 x z s whole next is_x e1 is_left e2 is_s e3 is_right e4 is_z e5 =
    let a : Tree = tree_in rest in
    let b : Tree = top (below (trees rest)) in
    let e4_next = subst (λ (t : List Tree). o4 ≡ o3 ++ around right (line_of (top t)) (text_of (top t))) next e4 in
    e5
    ∙ put_two wanted op o o1 o2 o3 o4 x (around (left_of op) (line_of a) (text_of a)) (around (right_of op) (line_of b) (text_of b)) z s is_x e1
    (subst (λ (q : Line). o2 ≡ o1 ++ around q (line_of a) (text_of a)) is_left e2) is_s e3
    (subst (λ (q : Line). o4 ≡ o3 ++ around q (line_of b) (text_of b)) is_right e4_next) is_z
    ∙ ap (λ (t : List Tree). o ++ around wanted (line_of (top t)) (text_of (top t))) (sym whole)
