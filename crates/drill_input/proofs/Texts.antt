-- The texts of the formulas.
use Rattle.std.proofs.Common.{◌≡◌, ℕ, ◌≤◌, ◌<◌, ◌^◌, pos, List, [], ◌∷◌, ◌++◌, length, refl, ap, arith, Result, Ok, Err, IfOk}
use Rattle.std.specs.Fmt.{decimal}
use Rattle.std.proofs.lemmas.Fmt.{length-decimal-le, decimal_digit}
use Rattle.std.proofs.lemmas.List.{length-append}
use Rattle.formula_text.specs.declared.formula.Formula.{Formula}
use Rattle.formula_text.specs.Formulas.{tree}
use Rattle.formula_text.specs.Trees.{Tree, Number}
use Rattle.formula_text.specs.Writing.{text_of, IsWithin}
use Rattle.drill_input.specs.Drill.{later_tree, next_tree, last_tree}

zero_digit : decimal 0 ≡ 48 ∷ []
zero_digit = decimal_digit 0 (omega arith)

one_digit : decimal 1 ≡ 49 ∷ []
one_digit = decimal_digit 1 (omega arith)

two_digit : decimal 2 ≡ 50 ∷ []
two_digit = decimal_digit 2 (omega arith)

pub number_within : (n : ℕ) → n < 2 ^ 63 → IsWithin (Number (pos n))
number_within n small = record { writable = small; deep = omega arith; long = omega (arith, length-decimal-le 20 n) }

pub later_text : (d e : ℕ) → text_of (later_tree d e) ≡ 36 ∷ 48 ∷ 43 ∷ 36 ∷ 49 ∷ 45 ∷ 36 ∷ 50 ∷ 43 ∷ 49 ∷ 43 ∷ (decimal d ++ 45 ∷ decimal e)
later_text d e = rw (zero_digit, one_digit, two_digit) refl

pub later_within : (d e : ℕ) → d ≤ 64 → e ≤ 64 → IsWithin (later_tree d e)
later_within d e near far = record {
  writable = (((((omega arith, omega arith), omega arith), omega arith), omega arith), omega arith);
  deep = omega arith;
  long = omega (arith, ap length (later_text d e), length-append (decimal d) (45 ∷ decimal e), length-decimal-le 2 d, length-decimal-le 2 e);
}

pub next_text : text_of next_tree ≡ 36 ∷ 48 ∷ 43 ∷ 49 ∷ []
next_text = rw (zero_digit, one_digit) refl

pub next_within : IsWithin next_tree
next_within = record { writable = (omega arith, omega arith); deep = omega arith; long = omega (arith, ap length next_text) }

pub last_text : text_of last_tree ≡ 36 ∷ 48 ∷ 43 ∷ 36 ∷ 49 ∷ []
last_text = rw (zero_digit, one_digit) refl

pub last_within : IsWithin last_tree
last_within = record { writable = (omega arith, omega arith); deep = omega arith; long = omega (arith, ap length last_text) }

-- the tree of what was read, where the text is that of a known one
pub known : {E : Type 0} (r : Result Formula E) (text : List ℕ) (t : Tree) → IfOk r (λ f. (t : Tree) → IsWithin t → text ≡ text_of t → tree f ≡ t) → IsWithin t → text ≡ text_of t → IfOk r (λ f. tree f ≡ t)
known (Ok f) text t reads within is = reads t within is
known (Err e) text t reads within is = tt
