-- Counts of lists: of two lists together, of a weaker test, and where there is an element that passes.
use Rattle.std.proofs.Common.{◌≡◌, ℕ, zero, suc, ◌+◌, ◌<◌, ◌≤◌, Bool, true, false, cond, eqb, List, [], ◌∷◌, ◌++◌, length, Contains, slice_index_or, arith, refl, ap, sym}
use Rattle.std.specs.List.{AllByRecursion, sum_by}
use Rattle.std.proofs.lemmas.Bool.{eq-eqb}
use Rattle.std.proofs.lemmas.List.Sums.{sum_by-cons}
use Rattle.core_state.specs.Counts.{bump, count, hit}
use Rattle.core_state.proofs.Base.Counting.{bump_is}

pub count_both : {X : Type 0} (p : X → Bool) (xs ys : List X) → count p (xs ++ ys) ≡ count p xs + count p ys
count_both p [] ys = omega arith
count_both p (x ∷ xs) ys = let a = count_both p xs ys in let b = bump_is (p x) (count p (xs ++ ys)) in let c = bump_is (p x) (count p xs) in omega (arith, a, b, c)

-- what passes one test passes the other
pub count_weaker : {X : Type 0} (p q : X → Bool) → ((x : X) → p x ≡ true → q x ≡ true) → (xs : List X) → count p xs ≤ count q xs
count_weaker p q all [] = omega arith
count_weaker p q all (x ∷ xs) = by (p x) refl (count_weaker p q all xs)
  where
    by : (b : Bool) → p x ≡ b → count p xs ≤ count q xs → bump b (count p xs) ≤ bump (q x) (count q xs)
    by true is h = let a = ap hit (all x is) in let b = bump_is (q x) (count q xs) in omega (arith, h, a, b)
    by false is h = let b = bump_is (q x) (count q xs) in omega (arith, h, b)

-- no element, nothing counted
pub none_counted : {X : Type 0} (p : X → Bool) (xs : List X) → length xs ≡ 0 → count p xs ≡ 0
none_counted p [] none = refl
none_counted p (x ∷ xs) none = absurd (omega (arith, none))

-- where none passes any of these tests, none passes another that asks for one of them
pub none_of_each : {I X : Type 0} (any : X → Bool) (test : I → X → Bool) → ((x : X) → any x ≡ true → (i : I) × (test i x ≡ true)) → (xs : List X) → ((i : I) → count (test i) xs ≡ 0) → count any xs ≡ 0
none_of_each any test one [] none = refl
none_of_each any test one (x ∷ xs) none = by (any x) refl (none_of_each any test one xs (λ i. let a = none i in let b = bump_is (test i x) (count (test i) xs) in omega (arith, a, b)))
  where
    by : (b : Bool) → any x ≡ b → count any xs ≡ 0 → bump b (count any xs) ≡ 0
    by true is rest = let it = one x is in let a = none it.0 in let b = bump_is (test it.0 x) (count (test it.0) xs) in let c = ap hit it.1 in absurd (omega (arith, a, b, c))
    by false is rest = rest

-- a number that a list contains is counted in it
pub counted_in : (k : ℕ) (xs : List ℕ) → Contains xs k → 0 < count (eqb k) xs
counted_in k xs has = at xs has.0 has.1 has.2
  where
    at : (xs : List ℕ) (i : ℕ) → i < length xs → slice_index_or xs i k ≡ k → 0 < count (eqb k) xs
    at [] i low is = absurd (omega (arith, low))
    at (x ∷ xs) zero low is = let a = ap hit (eq-eqb k x (sym is)) in let b = bump_is (eqb k x) (count (eqb k) xs) in omega (arith, a, b)
    at (x ∷ xs) (suc i) low is = let a = at xs i (omega (arith, low)) is in let b = bump_is (eqb k x) (count (eqb k) xs) in omega (arith, a, b)

-- a count as a sum, and a length
pub count_sum : {X : Type 0} (p : X → Bool) (xs : List X) → sum_by (λ x. cond (p x) 1 0) xs ≡ count p xs
count_sum p [] = refl
count_sum p (x ∷ xs) = let h = count_sum p xs in let a = sum_by-cons (λ y. cond (p y) 1 0) x xs in by (p x) h a
  where
    by : (b : Bool) → sum_by (λ y. cond (p y) 1 0) xs ≡ count p xs → sum_by (λ y. cond (p y) 1 0) (x ∷ xs) ≡ cond b 1 0 + sum_by (λ y. cond (p y) 1 0) xs → sum_by (λ y. cond (p y) 1 0) (x ∷ xs) ≡ bump b (count p xs)
    by true h a = omega (arith, h, a)
    by false h a = omega (arith, h, a)

pub length_sum : {X : Type 0} (xs : List X) → sum_by (λ x. 1) xs ≡ length xs
length_sum [] = refl
length_sum (x ∷ xs) = let h = length_sum xs in let a = sum_by-cons (λ y. 1) x xs in omega (arith, h, a)

-- what holds of each that is counted
pub each_counted : {X : Type 0} (P : X → Type 0) (same : X → X → Bool) → ((x : X) → same x x ≡ true) → (xs : List X) → ((x : X) → 0 < count (same x) xs → P x) → AllByRecursion P xs
each_counted P same here [] all = tt
each_counted P same here (x ∷ xs) all = (
  all x (let a = ap hit (here x) in let b = bump_is (same x x) (count (same x) xs) in omega (arith, a, b)),
  each_counted P same here xs (λ y some. all y (let b = bump_is (same y x) (count (same y) xs) in omega (arith, some, b))),
)
