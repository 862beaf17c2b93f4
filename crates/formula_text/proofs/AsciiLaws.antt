-- What is written is ASCII.
use Rattle.std.proofs.Common.{ℕ, ◌<◌, List, [], ◌∷◌, ◌++◌, arith, pos, negsuc}
use Rattle.std.specs.Str.{IsAscii}
use Rattle.std.proofs.lemmas.Fmt.{IsAscii-decimal}
use Rattle.std.proofs.lemmas.Str.{IsAscii-append}
use Rattle.std.proofs.lemmas.Str.Ascii.{IsAscii-nil, IsAscii-cons}
use Rattle.formula_text.specs.declared.node.Op.{Op}
use Rattle.formula_text.specs.declared.node.Op.TheVariants.{Plus, Less, Times, Over, Rest, Min, Max}
use Rattle.formula_text.specs.declared.writing.Line.{Line}
use Rattle.formula_text.specs.declared.writing.Line.TheVariants as lines
use Rattle.formula_text.specs.Trees.{Tree, Number, Input, Minus, Two}
use Rattle.formula_text.specs.Writing.{line_of, around, joined, left_of, right_of, text_of, IsWritable}

behind : (a : List ℕ) (s : ℕ) (b : List ℕ) → IsAscii a → s < 128 → IsAscii b → IsAscii (a ++ s ∷ b)
behind a s b p small q = IsAscii-append a (s ∷ b) p (IsAscii-cons s b small q)

closed : (a : List ℕ) → IsAscii a → IsAscii (a ++ 41 ∷ [])
closed a p = behind a 41 [] p (omega arith) IsAscii-nil

bracketed : (a : List ℕ) → IsAscii a → IsAscii (40 ∷ (a ++ 41 ∷ []))
bracketed a p = IsAscii-cons 40 _ (omega arith) (closed a p)

around_ascii : (wanted line : Line) (a : List ℕ) → IsAscii a → IsAscii (around wanted line a)
around_ascii lines.Term lines.Expression a p = bracketed a p
around_ascii lines.Factor lines.Expression a p = bracketed a p
around_ascii lines.Factor lines.Term a p = bracketed a p
around_ascii wanted line a p = p

called : (x y z : ℕ) (a b : List ℕ) → x < 128 → y < 128 → z < 128 → IsAscii a → IsAscii b → IsAscii ((x ∷ y ∷ z ∷ 40 ∷ []) ++ (a ++ 44 ∷ (b ++ 41 ∷ [])))
called x y z a b i j k p q =
    let rest = a ++ 44 ∷ (b ++ 41 ∷ []) in
    IsAscii-cons x (y ∷ z ∷ 40 ∷ rest) i (IsAscii-cons y (z ∷ 40 ∷ rest) j (IsAscii-cons z (40 ∷ rest) k (IsAscii-cons 40 rest (omega arith) (behind a 44 (b ++ 41 ∷ []) p (omega arith) (closed b q)))))

joined_ascii : (op : Op) (a b : List ℕ) → IsAscii a → IsAscii b → IsAscii (joined op a b)
joined_ascii Plus a b p q = behind a 43 b p (omega arith) q
joined_ascii Less a b p q = behind a 45 b p (omega arith) q
joined_ascii Times a b p q = behind a 42 b p (omega arith) q
joined_ascii Over a b p q = behind a 47 b p (omega arith) q
joined_ascii Rest a b p q = behind a 37 b p (omega arith) q
joined_ascii Min a b p q = called 109 105 110 a b (omega arith) (omega arith) (omega arith) p q
joined_ascii Max a b p q = called 109 97 120 a b (omega arith) (omega arith) (omega arith) p q

pub text_is_ascii : (t : Tree) → IsWritable t → IsAscii (text_of t)
text_is_ascii (Number (pos n)) w = IsAscii-decimal n (omega arith)
text_is_ascii (Number (negsuc n)) w = absurd w
text_is_ascii (Input i) w = IsAscii-cons 36 _ (omega arith) (IsAscii-decimal i (omega arith))
text_is_ascii (Minus a) w = IsAscii-cons 45 _ (omega arith) (around_ascii lines.Factor (line_of a) (text_of a) (text_is_ascii a w))
text_is_ascii (Two op a b) w =
    joined_ascii op _ _ (around_ascii (left_of op) (line_of a) (text_of a) (text_is_ascii a w.0)) (around_ascii (right_of op) (line_of b) (text_of b) (text_is_ascii b w.1))
