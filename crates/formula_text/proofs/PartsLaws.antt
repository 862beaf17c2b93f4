-- What is written, in parts.
use Rattle.std.proofs.Common.{◌≡◌, ℕ, List, [], ◌∷◌, ◌++◌, refl, append_assoc, append-nil}
use Rattle.formula_text.specs.declared.node.Op.{Op}
use Rattle.formula_text.specs.declared.node.Op.TheVariants.{Plus, Less, Times, Over, Rest, Min, Max}
use Rattle.formula_text.specs.declared.writing.Line.{Line}
use Rattle.formula_text.specs.declared.writing.Line.TheVariants.{Expression, Term, Factor}
use Rattle.formula_text.specs.Writing.{line_of_op, around, joined, before, sign, behind}

-- two operands with a sign between them, and with brackets round these
bare : (s : ℕ) (a b : List ℕ) → a ++ s ∷ b ≡ a ++ s ∷ (b ++ [])
bare s a b = rw append-nil refl

inside : (s : ℕ) (a b : List ℕ) → 40 ∷ ((a ++ s ∷ b) ++ 41 ∷ []) ≡ 40 ∷ (a ++ s ∷ (b ++ 41 ∷ []))
inside s a b = rw append_assoc refl

pub in_parts : (wanted : Line) (op : Op) (a b : List ℕ) → around wanted (line_of_op op) (joined op a b) ≡ before wanted op ++ (a ++ sign op ∷ (b ++ behind wanted op))
in_parts Expression Plus a b = bare 43 a b
in_parts Expression Less a b = bare 45 a b
in_parts Expression Times a b = bare 42 a b
in_parts Expression Over a b = bare 47 a b
in_parts Expression Rest a b = bare 37 a b
in_parts Expression Min a b = refl
in_parts Expression Max a b = refl
in_parts Term Plus a b = inside 43 a b
in_parts Term Less a b = inside 45 a b
in_parts Term Times a b = bare 42 a b
in_parts Term Over a b = bare 47 a b
in_parts Term Rest a b = bare 37 a b
in_parts Term Min a b = refl
in_parts Term Max a b = refl
in_parts Factor Plus a b = inside 43 a b
in_parts Factor Less a b = inside 45 a b
in_parts Factor Times a b = inside 42 a b
in_parts Factor Over a b = inside 47 a b
in_parts Factor Rest a b = inside 37 a b
in_parts Factor Min a b = refl
in_parts Factor Max a b = refl

-- the five parts, put behind a text one after the other
pub put_two : (wanted : Line) (op : Op) (o o1 o2 o3 o4 x a b z : List ℕ) (s : ℕ) → x ≡ before wanted op → o1 ≡ o ++ x → o2 ≡ o1 ++ a → s ≡ sign op → o3 ≡ o2 ++ s ∷ []
    → o4 ≡ o3 ++ b → z ≡ behind wanted op → o4 ++ z ≡ o ++ around wanted (line_of_op op) (joined op a b)
put_two wanted op o o1 o2 o3 o4 x a b z s is_x e1 e2 is_s e3 e4 is_z =
    rw (e4, e3, e2, e1, is_x, is_s, is_z, in_parts wanted op a b) (simp append_assoc)
