-- Where the things with one number stand, in a list that ascends by these numbers.
use Rattle.std.proofs.Common.{◌≡◌, ℕ, zero, suc, ◌<◌, ◌≤◌, ◌==◌, List, [], ◌∷◌, filter, slice_get, cond, Bool, true, false, Option, None, Some, refl, arith}
use Rattle.std.proofs.lemmas.Bool.Decides.{nat_tests}
use Rattle.std.specs.List.{AllByRecursion}

abbrev pub IsUp : {X : Type 0} → (X → ℕ) → List X → Type 0
IsUp n [] = Unit {0}
IsUp n (y ∷ ys) = AllByRecursion (λ z. n y ≤ n z) ys × IsUp n ys

-- what is there, if it has the number
abbrev pub only : {X : Type 0} → (X → ℕ) → ℕ → Option X → Option X
only n c None = None
only n c (Some y) = cond (n y == c) (Some y) None

pub other_number : (x c : ℕ) → (x ≡ c → ⊥) → (x == c) ≡ false
other_number x c apart = grind (arith, nat_tests)

not_less : (x c : ℕ) → c ≤ x → (x == c) ≡ false → c < x
not_less x c above apart = grind (arith, nat_tests)

above_all : {X : Type 0} (n : X → ℕ) (c d : ℕ) (ys : List X) → c < d → AllByRecursion (λ z. d ≤ n z) ys → AllByRecursion (λ z. c < n z) ys
above_all n c d [] less all = tt
above_all n c d (y ∷ ys) less all = (omega (arith, all.0), above_all n c d ys less all.1)

pub none_above : {X : Type 0} (n : X → ℕ) (c : ℕ) (ys : List X) → AllByRecursion (λ z. c < n z) ys → filter (λ y. n y == c) ys ≡ []
none_above n c [] all = refl
none_above n c (y ∷ ys) all = rw (other_number (n y) c (λ e. omega (arith, all.0))) (none_above n c ys all.1)

only_above : {X : Type 0} (n : X → ℕ) (c : ℕ) (ys : List X) (i : ℕ) → AllByRecursion (λ z. c < n z) ys → only n c (slice_get ys i) ≡ None
only_above n c [] i all = refl
only_above n c (y ∷ ys) zero all = rw (other_number (n y) c (λ e. omega (arith, all.0))) refl
only_above n c (y ∷ ys) (suc i) all = only_above n c ys i all.1

hits_here : {X : Type 0} (n : X → ℕ) (c : ℕ) (y : X) (ys : List X) (i : ℕ) (b : Bool) → (n y == c) ≡ b → IsUp n (y ∷ ys)
    → AllByRecursion (λ z. c ≤ n z) (y ∷ ys) → ((j : ℕ) → slice_get (filter (λ y. n y == c) ys) j ≡ only n c (slice_get ys j))
    → slice_get (filter (λ y. n y == c) (y ∷ ys)) i ≡ only n c (slice_get (y ∷ ys) i)
hits_here n c y ys zero true e up all later = rw e refl
hits_here n c y ys (suc i) true e up all later = rw e (later i)
hits_here n c y ys i false e up all later =
    let above = above_all n c (n y) ys (not_less (n y) c all.0 e) up.0 in
    rw (e, none_above n c ys above, only_above n c (y ∷ ys) i (not_less (n y) c all.0 e, above)) refl

-- from the first place at which a number is no less, those with it stand in a row
pub hits_from : {X : Type 0} (n : X → ℕ) (c : ℕ) (ys : List X) (i : ℕ) → IsUp n ys → AllByRecursion (λ z. c ≤ n z) ys
    → slice_get (filter (λ y. n y == c) ys) i ≡ only n c (slice_get ys i)
hits_from n c [] i up all = refl
hits_from n c (y ∷ ys) i up all = hits_here n c y ys i (n y == c) refl up all (λ j. hits_from n c ys j up.1 all.1)
