-- Lists of which one member is set, and sums over their members.
use Rattle.std.proofs.Common.{◌≡◌, ◌≢◌, ◌⊎◌, ℕ, zero, suc, ◌+◌, ◌<◌, ◌≤◌, List, [], ◌∷◌, length, set, Some, slice_get, ⊎_elim, inl, inr, arith, refl, sym, ap, ◌∙◌}
use mathlib.Core.Logic.{dite}
use native.Mathlib.Decide.{ℕ_discrete}
use Rattle.std.specs.List.{sum_by}
use Rattle.std.proofs.lemmas.List.Sums.{sum_by-cons}
use Rattle.std.proofs.lemmas.Option.{none-some, same_Some, slice_get_within}

-- who stands where after one was set
pub set_here : {X : Type 0} (xs : List X) (i : ℕ) (x y : X) → slice_get xs i ≡ Some x → slice_get (set xs i y) i ≡ Some y
set_here [] i x y at = absurd (none-some x at)
set_here (z ∷ xs) zero x y at = refl
set_here (z ∷ xs) (suc i) x y at = set_here xs i x y at

pub set_else : {X : Type 0} (xs : List X) (i j : ℕ) (y : X) → j ≢ i → slice_get (set xs i y) j ≡ slice_get xs j
set_else [] i j y ne = refl
set_else (z ∷ xs) zero zero y ne = absurd (ne refl)
set_else (z ∷ xs) zero (suc j) y ne = refl
set_else (z ∷ xs) (suc i) zero y ne = refl
set_else (z ∷ xs) (suc i) (suc j) y ne = set_else xs i j y (λ is. ne (ap suc is))

pub set_tells : {X : Type 0} (xs : List X) (i j : ℕ) (x y : X) → slice_get (set xs i x) j ≡ Some y → ((j ≡ i) × (y ≡ x)) ⊎ ((j ≢ i) × (slice_get xs j ≡ Some y))
set_tells [] i j x y is = absurd (none-some y is)
set_tells (z ∷ xs) zero zero x y is = inl (refl, sym (same_Some x y is))
set_tells (z ∷ xs) zero (suc j) x y is = inr ((λ e. omega (arith, e)), is)
set_tells (z ∷ xs) (suc i) zero x y is = inr ((λ e. omega (arith, e)), is)
set_tells (z ∷ xs) (suc i) (suc j) x y is = ⊎_elim
    (λ h. inl (ap suc h.0, h.1))
    (λ o. inr ((λ e. o.0 (omega (arith, e))), o.1))
    (set_tells xs i j x y is)

pub set_sums : {X : Type 0} (f : X → ℕ) (xs : List X) (i : ℕ) (x y : X) → slice_get xs i ≡ Some x → sum_by f (set xs i y) + f x ≡ sum_by f xs + f y
set_sums f [] i x y at = absurd (none-some x at)
set_sums f (z ∷ xs) zero x y at = let a = sum_by-cons f z xs in let b = sum_by-cons f y xs in let c = ap f (same_Some z x at) in omega (arith, a, b, c)
set_sums f (z ∷ xs) (suc i) x y at = let a = sum_by-cons f z xs in let b = sum_by-cons f z (set xs i y) in let c = set_sums f xs i x y at in omega (arith, a, b, c)

-- one place has one element
pub same_member : {X : Type 0} (xs : List X) (i j : ℕ) (x y : X) → i ≡ j → slice_get xs i ≡ Some x → slice_get xs j ≡ Some y → x ≡ y
same_member xs i j x y same at there = same_Some x y (sym at ∙ ap (slice_get xs) same ∙ there)

-- a list of one has one place
pub alone : {X : Type 0} (xs : List X) (i j : ℕ) (x y : X) → length xs ≡ 1 → slice_get xs i ≡ Some x → slice_get xs j ≡ Some y → i ≡ j
alone xs i j x y one at there = let a = slice_get_within xs i x at in let b = slice_get_within xs j y there in omega (arith, a, b, one)

-- an element that adds to a sum
pub some_member : {X : Type 0} (f : X → ℕ) (xs : List X) → 0 < sum_by f xs → (i : ℕ) × (x : X) × (slice_get xs i ≡ Some x) × (0 < f x)
some_member f [] some = absurd (omega (arith, some))
some_member f (x ∷ xs) some = let a = sum_by-cons f x xs in dite (ℕ_discrete (f x) 0)
    (λ z. let it = some_member f xs (omega (arith, some, a, z)) in (suc it.0, it.1, it.2, it.3))
    (λ ne. (zero, x, refl, omega (arith, ne)))

-- each adds no more than the sum, and where each is nothing the sum is
pub member_low : {X : Type 0} (f : X → ℕ) (xs : List X) (i : ℕ) (x : X) → slice_get xs i ≡ Some x → f x ≤ sum_by f xs
member_low f [] i x at = absurd (none-some x at)
member_low f (y ∷ xs) zero x at = let a = sum_by-cons f y xs in let b = ap f (same_Some y x at) in omega (arith, a, b)
member_low f (y ∷ xs) (suc i) x at = let a = sum_by-cons f y xs in let b = member_low f xs i x at in omega (arith, a, b)

pub none_sum : {X : Type 0} (f : X → ℕ) (xs : List X) → ((i : ℕ) (x : X) → slice_get xs i ≡ Some x → f x ≡ 0) → sum_by f xs ≡ 0
none_sum f [] all = refl
none_sum f (x ∷ xs) all = let a = sum_by-cons f x xs in let b = all zero x refl in let c = none_sum f xs (λ i y at. all (suc i) y at) in omega (arith, a, b, c)

-- a sum to which the first alone adds
pub first_sum : {X : Type 0} (f : X → ℕ) (xs : List X) (x : X) → slice_get xs 0 ≡ Some x → ((i : ℕ) (y : X) → 0 < i → slice_get xs i ≡ Some y → f y ≡ 0) → sum_by f xs ≡ f x
first_sum f [] x at none = absurd (none-some x at)
first_sum f (y ∷ xs) x at none = let a = none_sum f xs (λ i z here. none (suc i) z (omega arith) here) in let b = sum_by-cons f y xs in let c = ap f (same_Some y x at) in omega (arith, a, b, c)
