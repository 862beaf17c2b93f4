-- Ascending keys, and the search among them.
use Rattle.std.proofs.Common.{◌≡◌, ◌∙◌, ℕ, zero, suc, ◌+◌, ◌<◌, ◌≤◌, ◌≢◌, ◌-◌, inl, inr, true, false, cond, List, [], ◌∷◌, length, get_or, map, refl, ap, arith, Contains, count_by, take}
use Rattle.std.proofs.lemmas.Bool.{eq-eqb, ne_eqb, cases_eq, cases_lt}
use Rattle.std.proofs.lemmas.List.{get_or_default}
use Rattle.std.proofs.lemmas.List.Sorted.{searched}
use Rattle.std.specs.Ordering.{nat_cmp}
use Rattle.std.specs.List.Sorted.{IsBinarySearchResult, IsNonDecreasing}
use Rattle.std.specs.Prelude.{Ok, Err, ◌==◌}
use Rattle.std.proofs.lemmas.List.Sums.{sum_by-cons, count_by_more_yes, count_by_more_no}
use Rattle.audit_checks.specs.Tasks.{IsAscending}

pub ascending-≤ : (xs : List ℕ) → IsAscending xs → (i j : ℕ) → i ≤ j → j < length xs → get_or xs i 0 ≤ get_or xs j 0
ascending-≤ xs up i j le inside = grind (arith, up.rises i j)

pub found : (xs : List ℕ) (x i : ℕ) → IsAscending xs → IsBinarySearchResult (λ y. nat_cmp y x) xs (Ok i) → (i < length xs) × (get_or xs i 0 ≡ x)
found xs x i up at = searched xs x (Ok i) at (ascending-≤ xs up)

pub missing : (xs : List ℕ) (x i : ℕ) → IsAscending xs → IsBinarySearchResult (λ y. nat_cmp y x) xs (Err i) → ¬ Contains xs x
missing xs x i up at has =
    let around = searched xs x (Err i) at (ascending-≤ xs up) in
    let same : get_or xs has.0 0 ≡ x = get_or_default xs has.0 0 x has.1 ∙ has.2 in
    elim (cases_lt has.0 i) [ inl early ↦ omega (arith, around.1 has.0 early) | inr late ↦ omega (arith, around.2 has.0 late has.1) ]

-- ---- how often a key stands

abbrev pub times : ℕ → List ℕ → ℕ
times k xs = count_by (λ x. x == k) xs

pub times_yes : (k x : ℕ) (xs : List ℕ) → x ≡ k → times k (x ∷ xs) ≡ 1 + times k xs
times_yes k x xs here = let e : (x == k) ≡ true = eq-eqb x k here in rw (sum_by-cons (λ y. cond (y == k) 1 0) x xs, e)

pub times_no : (k x : ℕ) (xs : List ℕ) → (x ≡ k → ⊥) → times k (x ∷ xs) ≡ times k xs
times_no k x xs other =
    let e : (x == k) ≡ false = ne_eqb x k other in rw (sum_by-cons (λ y. cond (y == k) 1 0) x xs, e) (omega arith)

pub times_map : {X : Type 0} (f : X → ℕ) (k : ℕ) (xs : List X) → count_by (λ x. f x == k) xs ≡ times k (map f xs)
times_map f k [] = refl
times_map {X} f k (x ∷ xs) =
    rw (sum_by-cons (λ (y : X). cond (f y == k) 1 0) x xs, sum_by-cons (λ y. cond (y == k) 1 0) (f x) (map f xs)) (ap (λ n. cond (f x == k) 1 0 + n) (times_map f k xs))

pub times_some : (k : ℕ) (xs : List ℕ) (j : ℕ) → j < length xs → get_or xs j 0 ≡ k → 0 < times k xs
times_some k [] j inside here = absurd (omega arith)
times_some k (x ∷ xs) zero inside here = omega (arith, times_yes k x xs here)
times_some k (x ∷ xs) (suc j) inside here =
    let more : times k xs ≤ times k (x ∷ xs) = elim (cases_eq x k) [ inl e ↦ omega (arith, times_yes k x xs e) | inr n ↦ omega (arith, times_no k x xs n) ] in
    omega (arith, more, times_some k xs j (omega arith) here)

pub times_twice : (k : ℕ) (xs : List ℕ) (i j : ℕ) → i < j → j < length xs → get_or xs i 0 ≡ k → get_or xs j 0 ≡ k → 1 < times k xs
times_twice k [] i j less inside here there = absurd (omega arith)
times_twice k (x ∷ xs) i zero less inside here there = absurd (omega arith)
times_twice k (x ∷ xs) zero (suc j) less inside here there =
    omega (arith, times_yes k x xs here, times_some k xs j (omega arith) there)
times_twice k (x ∷ xs) (suc i) (suc j) less inside here there =
    let more : times k xs ≤ times k (x ∷ xs) = elim (cases_eq x k) [ inl e ↦ omega (arith, times_yes k x xs e) | inr n ↦ omega (arith, times_no k x xs n) ] in
    omega (arith, more, times_twice k xs i j (omega arith) (omega arith) here there)

pub times_none : (k : ℕ) (xs : List ℕ) → ((j : ℕ) → j < length xs → get_or xs j 0 ≡ k → ⊥) → times k xs ≡ 0
times_none k [] apart = refl
times_none k (x ∷ xs) apart =
    omega (arith, times_no k x xs (apart 0 (omega arith)), times_none k xs (λ j h. apart (suc j) (omega arith)))

pub times_once : (k : ℕ) (xs : List ℕ) → ((i j : ℕ) → i < j → j < length xs → get_or xs i 0 ≡ k → get_or xs j 0 ≡ k → ⊥) → times k xs ≤ 1
times_once k [] apart = omega arith
times_once k (x ∷ xs) apart = elim (cases_eq x k) [
  | inl here ↦ omega (arith, times_yes k x xs here, times_none k xs (λ j h there. apart 0 (suc j) (omega arith) (omega arith) here there))
  | inr other ↦ omega (arith, times_no k x xs other, times_once k xs (λ i j h l. apart (suc i) (suc j) (omega arith) (omega arith)))
]

pub once_ascending : (k : ℕ) (xs : List ℕ) → IsAscending xs → times k xs ≤ 1
once_ascending k xs up = times_once k xs (λ i j h l a b. omega (arith, up.rises i j h l))

-- no two neighbours up to place i are equal
pub record IsApart (xs : List ℕ) (i : ℕ) : Type 0 where
  pub apart : (j : ℕ) → 0 < j → j < i → get_or xs (j - 1) 0 ≢ get_or xs j 0

pub apart_rises : (xs : List ℕ) (n : ℕ) → IsNonDecreasing xs → IsApart xs n → (i j : ℕ) → i < j → j < n → j < length xs → get_or xs i 0 < get_or xs j 0
apart_rises xs n up apart i j less early inside =
    omega (arith, up i (j - 1) 0 (omega arith) (omega arith), up (j - 1) j 0 (omega arith) inside, apart.apart j (omega arith) early)

pub ascending_from : (xs : List ℕ) (n : ℕ) → IsNonDecreasing xs → length xs ≤ n → IsApart xs n → IsAscending xs
ascending_from xs n up all apart = record { rises = λ i j less inside. apart_rises xs n up apart i j less (omega arith) inside }

-- what stands at the first two equal neighbours is the least that stands twice
pub twice_here : (xs : List ℕ) (i : ℕ) → 0 < i → i < length xs → get_or xs (i - 1) 0 ≡ get_or xs i 0 → 1 < times (get_or xs i 0) xs
twice_here xs i some inside same = times_twice (get_or xs i 0) xs (i - 1) i (omega arith) inside same refl

pub once_below : (xs : List ℕ) (i : ℕ) → IsNonDecreasing xs → IsApart xs i → 0 < i → i < length xs → (m : ℕ) → m < get_or xs i 0 → times m xs ≤ 1
once_below xs i up apart some inside m low = times_once m xs (λ a b less in' here there. elim (cases_lt b i) [
  | inl early ↦ omega (arith, apart_rises xs i up apart a b less early in')
  | inr late ↦ omega (arith, up i b 0 late in')
])

-- a key stands at one place
pub same_key : (keys : List ℕ) → IsAscending keys → (i j : ℕ) → i < length keys → j < length keys → get_or keys i 0 ≡ get_or keys j 0 → i ≡ j
same_key keys up i j i_in j_in same = elim (cases_lt i j) [
  | inl less ↦ absurd (omega (arith, up.rises i j less j_in))
  | inr late ↦ elim (cases_lt j i) [ inl more ↦ absurd (omega (arith, up.rises j i more i_in)) | inr early ↦ omega arith ]
]

pub times_take_yes : (k : ℕ) (xs : List ℕ) (j : ℕ) → j < length xs → get_or xs j 0 ≡ k → times k (take (j + 1) xs) ≡ times k (take j xs) + 1
times_take_yes k xs j inside here = count_by_more_yes (λ x. x == k) xs j 0 inside (eq-eqb (get_or xs j 0) k here)

pub times_take_no : (k : ℕ) (xs : List ℕ) (j : ℕ) → j < length xs → (get_or xs j 0 ≡ k → ⊥) → times k (take (j + 1) xs) ≡ times k (take j xs)
times_take_no k xs j inside other = count_by_more_no (λ x. x == k) xs j 0 inside (ne_eqb (get_or xs j 0) k other)
