-- Counting, and reading by place.
use Rattle.std.proofs.Common.{◌≡◌, ◌∙◌, ℕ, zero, suc, ◌+◌, ◌<◌, ◌≤◌, Bool, true, false, cond, List, [], ◌∷◌, ◌++◌, length, refl, ap, arith, count_by, Some, slice_get, inl, inr, ◌⊎◌}
use Rattle.std.proofs.lemmas.Bool.{cases_Bool}
use Rattle.std.proofs.lemmas.List.Sums.{sum_by-cons}

pub count_yes : {X : Type 0} (p : X → Bool) (x : X) (xs : List X) → p x ≡ true → count_by p (x ∷ xs) ≡ 1 + count_by p xs
count_yes {X} p x xs e = rw (sum_by-cons (λ (y : X). cond (p y) 1 0) x xs, e)

pub count_no : {X : Type 0} (p : X → Bool) (x : X) (xs : List X) → p x ≡ false → count_by p (x ∷ xs) ≡ count_by p xs
count_no {X} p x xs e = rw (sum_by-cons (λ (y : X). cond (p y) 1 0) x xs, e) (omega arith)

pub count_more : {X : Type 0} (p : X → Bool) (x : X) (xs : List X) → count_by p xs ≤ count_by p (x ∷ xs)
count_more p x xs = elim (cases_Bool (p x)) [ inl e ↦ omega (arith, count_yes p x xs e) | inr e ↦ omega (arith, count_no p x xs e) ]

pub count_some : {X : Type 0} (p : X → Bool) (xs : List X) (j : ℕ) (x : X) → slice_get xs j ≡ Some x → p x ≡ true → 0 < count_by p xs
count_some p [] j x here passes = absurd (cc)
count_some p (y ∷ ys) zero x here passes = let e : p y ≡ true = cc in omega (arith, count_yes p y ys e)
count_some p (y ∷ ys) (suc j) x here passes = omega (arith, count_more p y ys, count_some p ys j x here passes)

pub count_twice : {X : Type 0} (p : X → Bool) (xs : List X) (i j : ℕ) (x z : X) → i < j → slice_get xs i ≡ Some x → slice_get xs j ≡ Some z → p x ≡ true → p z ≡ true → 1 < count_by p xs
count_twice p [] i j x z less here there passes too = absurd (cc)
count_twice p (y ∷ ys) i zero x z less here there passes too = absurd (omega arith)
count_twice p (y ∷ ys) zero (suc j) x z less here there passes too =
    let e : p y ≡ true = cc in omega (arith, count_yes p y ys e, count_some p ys j z there too)
count_twice p (y ∷ ys) (suc i) (suc j) x z less here there passes too =
    omega (arith, count_more p y ys, count_twice p ys i j x z (omega arith) here there passes too)

pub count_none : {X : Type 0} (p : X → Bool) (xs : List X) → ((j : ℕ) (x : X) → slice_get xs j ≡ Some x → p x ≡ true → ⊥) → count_by p xs ≡ 0
count_none p [] apart = refl
count_none p (y ∷ ys) apart = elim (cases_Bool (p y)) [
  | inl e ↦ absurd (apart 0 y refl e)
  | inr e ↦ count_no p y ys e ∙ count_none p ys (λ j x here. apart (suc j) x here)
]

pub count_once : {X : Type 0} (p : X → Bool) (xs : List X)
    → ((i j : ℕ) (x z : X) → i < j → slice_get xs i ≡ Some x → slice_get xs j ≡ Some z → p x ≡ true → p z ≡ true → ⊥) → count_by p xs ≤ 1
count_once p [] apart = omega arith
count_once p (y ∷ ys) apart = elim (cases_Bool (p y)) [
  | inl e ↦ omega (arith, count_yes p y ys e, count_none p ys (λ j x here passes. apart 0 (suc j) y x (omega arith) refl here e passes))
  | inr e ↦ omega (arith, count_no p y ys e, count_once p ys (λ i j x z less here there. apart (suc i) (suc j) x z (omega arith) here there))
]

pub get_push : {X : Type 0} (xs : List X) (x : X) → slice_get (xs ++ x ∷ []) (length xs) ≡ Some x
get_push [] x = refl
get_push (y ∷ ys) x = get_push ys x

pub get_left : {X : Type 0} (xs ys : List X) (i : ℕ) (x : X) → slice_get xs i ≡ Some x → slice_get (xs ++ ys) i ≡ Some x
get_left [] ys i x here = absurd (cc)
get_left (z ∷ zs) ys zero x here = here
get_left (z ∷ zs) ys (suc i) x here = get_left zs ys i x here

pub get_push_cases : {X : Type 0} (xs : List X) (y : X) (i : ℕ) (x : X) → slice_get (xs ++ y ∷ []) i ≡ Some x → (slice_get xs i ≡ Some x) ⊎ ((i ≡ length xs) × (y ≡ x))
get_push_cases [] y zero x here = inr (refl, cc)
get_push_cases [] y (suc i) x here = absurd (cc)
get_push_cases (z ∷ zs) y zero x here = inl here
get_push_cases (z ∷ zs) y (suc i) x here = elim (get_push_cases zs y i x here) [ inl old ↦ inl old | inr new ↦ inr (ap suc new.0, new.1) ]

pub same_pair : (p q : ℕ × ℕ) → Some p ≡ Some q → (p.0 ≡ q.0) × (p.1 ≡ q.1)
same_pair p q both = let pair : p ≡ q = cc in (ap (λ (x : ℕ × ℕ). x.0) pair, ap (λ (x : ℕ × ℕ). x.1) pair)
