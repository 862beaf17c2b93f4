-- What is written is in the grammar, and nothing shorter or less nested is.
use Rattle.std.proofs.Common.{◌≡◌, ℕ, zero, suc, ◌+◌, ◌*◌, ◌/◌, ◌%◌, ◌^◌, ◌<◌, ◌≤◌, List, [], ◌∷◌, ◌++◌, subst, arith, pos, negsuc}
use Rattle.std.specs.Prelude.{max}
use Rattle.std.specs.Fmt.{decimal}
use Rattle.std.proofs.lemmas.Fmt.{decimal_by_steps}
use Rattle.formula_text.specs.declared.node.Op.{Op}
use Rattle.formula_text.specs.declared.node.Op.TheVariants.{Plus, Less, Times, Over, Rest, Min, Max}
use Rattle.formula_text.specs.declared.writing.Line.{Line}
use Rattle.formula_text.specs.declared.writing.Line.TheVariants as lines
use Rattle.formula_text.specs.Trees.{Tree, Number, Input, Minus, Two}
use Rattle.formula_text.specs.Writing.{line_of_op, line_of, around, joined, left_of, right_of, text_of, room_of, room_around, room_joined, IsWritable, IsWithin}
use Rattle.formula_text.specs.Grammar.{Level, Expression, Term, Factor, IsSumSign, plus, less, IsProductSign, times, over, rest, IsName, IsNumeral, one, more, IsText, sum, term, product, factor, minus, brackets, number, input, call, IsFormula}
use Rattle.formula_text.specs.Grammar as grammar

last_digit : (n : ℕ) → 10 * (n / 10) + n % 10 ≡ n
last_digit n = omega arith

pub decimal_stands : (n : ℕ) → n < 2 ^ 64 → IsNumeral (decimal n) n
decimal_stands n small = decimal_by_steps (λ n ds. IsNumeral ds n) (λ n h. one h) (λ n ds h p. subst (IsNumeral (ds ++ (48 + n % 10) ∷ [])) (last_digit n) (more p (omega arith))) n small

abbrev level : Line → Level
level lines.Expression = Expression
level lines.Term = Term
level lines.Factor = Factor

around_stands : (wanted line : Line) (base : ℕ) (text : List ℕ) (t : Tree) → ((r : ℕ) → base ≤ r → IsText (level line) r text t) → (room : ℕ) → room_around wanted line base ≤ room → IsText (level wanted) room (around wanted line text) t
around_stands lines.Expression lines.Expression base text t h room low = h room low
around_stands lines.Expression lines.Term base text t h room low = term (h room low)
around_stands lines.Expression lines.Factor base text t h room low = term (factor (h room low))
around_stands lines.Term lines.Term base text t h room low = h room low
around_stands lines.Term lines.Factor base text t h room low = factor (h room low)
around_stands lines.Factor lines.Factor base text t h room low = h room low
around_stands lines.Term lines.Expression base text t h zero low = absurd (omega arith)
around_stands lines.Term lines.Expression base text t h (suc room) low = factor (brackets (h room (omega arith)))
around_stands lines.Factor lines.Expression base text t h zero low = absurd (omega arith)
around_stands lines.Factor lines.Expression base text t h (suc room) low = brackets (h room (omega arith))
around_stands lines.Factor lines.Term base text t h zero low = absurd (omega arith)
around_stands lines.Factor lines.Term base text t h (suc room) low = brackets (term (h room (omega arith)))

joined_stands : (op : Op) (a b : List ℕ) (x y : Tree) (i j : ℕ) → ((r : ℕ) → i ≤ r → IsText (level (left_of op)) r a x) → ((r : ℕ) → j ≤ r → IsText (level (right_of op)) r b y) → (room : ℕ) → room_joined op (max i j) ≤ room → IsText (level (line_of_op op)) room (joined op a b) (Two op x y)
joined_stands Plus a b x y i j h k room low = sum (h room (omega arith)) plus (k room (omega arith))
joined_stands Less a b x y i j h k room low = sum (h room (omega arith)) less (k room (omega arith))
joined_stands Times a b x y i j h k room low = product (h room (omega arith)) times (k room (omega arith))
joined_stands Over a b x y i j h k room low = product (h room (omega arith)) over (k room (omega arith))
joined_stands Rest a b x y i j h k room low = product (h room (omega arith)) rest (k room (omega arith))
joined_stands Min a b x y i j h k zero low = absurd (omega arith)
joined_stands Min a b x y i j h k (suc room) low = call 0 grammar.min (h room (omega arith)) (k room (omega arith))
joined_stands Max a b x y i j h k zero low = absurd (omega arith)
joined_stands Max a b x y i j h k (suc room) low = call 0 grammar.max (h room (omega arith)) (k room (omega arith))

minus_stands : (text : List ℕ) (x : Tree) (i : ℕ) → ((r : ℕ) → i ≤ r → IsText Factor r text x) → (room : ℕ) → suc i ≤ room → IsText Factor room (45 ∷ text) (Minus x)
minus_stands text x i h zero low = absurd (omega arith)
minus_stands text x i h (suc room) low = minus (h room (omega arith))

pub text_stands : (t : Tree) → IsWritable t → (room : ℕ) → room_of t ≤ room → IsText (level (line_of t)) room (text_of t) t
text_stands (Number (pos n)) w room low = number (decimal_stands n (omega arith)) w
text_stands (Number (negsuc n)) w room low = absurd w
text_stands (Input i) w room low = input (decimal_stands i (omega arith)) w
text_stands (Minus a) w room low = minus_stands (around lines.Factor (line_of a) (text_of a)) a (room_around lines.Factor (line_of a) (room_of a)) (around_stands lines.Factor (line_of a) (room_of a) (text_of a) a (text_stands a w)) room low
text_stands (Two op a b) w room low =
    joined_stands op (around (left_of op) (line_of a) (text_of a)) (around (right_of op) (line_of b) (text_of b)) a b (room_around (left_of op) (line_of a) (room_of a)) (room_around (right_of op) (line_of b) (room_of b))
    (around_stands (left_of op) (line_of a) (room_of a) (text_of a) a (text_stands a w.0))
    (around_stands (right_of op) (line_of b) (room_of b) (text_of b) b (text_stands b w.1))
    room low

whole : (line : Line) (room : ℕ) (text : List ℕ) (t : Tree) → IsText (level line) room text t → IsText Expression room text t
whole lines.Expression room text t h = h
whole lines.Term room text t h = term h
whole lines.Factor room text t h = term (factor h)

pub text_is_whole : (t : Tree) → IsWritable t → room_of t ≤ 64 → IsText Expression 64 (text_of t) t
text_is_whole t w low = whole (line_of t) 64 (text_of t) t (text_stands t w 64 low)

pub text_is_formula : (t : Tree) → IsWithin t → IsFormula (text_of t) t
text_is_formula t w = record { size = w.long; whole = text_is_whole t w.writable w.deep }
