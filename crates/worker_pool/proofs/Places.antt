-- Numbers below a bound that a list does not have, and how many different ones it can have.
use Rattle.std.proofs.Common.{◌≡◌, ◌≢◌, ◌⊎◌, ℕ, zero, suc, ◌+◌, ◌<◌, ◌≤◌, Bool, true, false, cond, eqb, ne_eqb, List, [], ◌∷◌, length, ⊎_elim, ap, sym, refl, ◌∙◌, arith}
use Rattle.std.proofs.lemmas.Bool.{eqb-true}
use mathlib.Core.Logic.{dite}
use native.Mathlib.Decide.{ℕ_discrete}
use Rattle.core_state.specs.Counts.{bump, count, hit}
use Rattle.core_state.proofs.Base.Counting.{bump_is, eqb_here, hit_le}

-- what passes one test passes one of two others
pub count_or : {A : Type 0} (p q r : A → Bool) → ((x : A) → p x ≡ true → (q x ≡ true) ⊎ (r x ≡ true)) → (xs : List A) → count p xs ≤ count q xs + count r xs
count_or p q r h [] = omega arith
count_or p q r h (x ∷ xs) = let a = bump_is (p x) (count p xs) in let b = bump_is (q x) (count q xs) in let c = bump_is (r x) (count r xs) in let d = count_or p q r h xs in let e = by (p x) refl in omega (arith, a, b, c, d, e)
  where
    by : (t : Bool) → p x ≡ t → hit (p x) ≤ hit (q x) + hit (r x)
    by true z = let a = hit_le (p x) in ⊎_elim (λ y. let b = ap hit y in omega (arith, a, b)) (λ y. let b = ap hit y in omega (arith, a, b)) (h x z)
    by false z = let a = ap hit z in omega (arith, a)

-- what passes one of two tests that exclude each other passes a third
pub count_two : {A : Type 0} (p q r : A → Bool) → ((x : A) → q x ≡ true → p x ≡ true) → ((x : A) → r x ≡ true → (p x ≡ true) × (q x ≡ false)) → (xs : List A) → count q xs + count r xs ≤ count p xs
count_two p q r f h [] = omega arith
count_two p q r f h (x ∷ xs) = let a = bump_is (p x) (count p xs) in let b = bump_is (q x) (count q xs) in let c = bump_is (r x) (count r xs) in let d = count_two p q r f h xs in let e = by (q x) (r x) refl refl in omega (arith, a, b, c, d, e)
  where
    by : (t u : Bool) → q x ≡ t → r x ≡ u → hit (q x) + hit (r x) ≤ hit (p x)
    by t true z y = let o = h x y in let a = ap hit o.0 in let b = ap hit o.1 in let c = ap hit y in omega (arith, a, b, c)
    by true false z y = let a = ap hit (f x z) in let b = ap hit z in let c = ap hit y in omega (arith, a, b, c)
    by false false z y = let b = ap hit z in let c = ap hit y in omega (arith, b, c)

-- how many numbers below n pass a test
abbrev pub below : (ℕ → Bool) → ℕ → ℕ
below p zero = 0
below p (suc n) = below p n + hit (p n)

-- the list without a number
without : ℕ → List ℕ → List ℕ
without n [] = []
without n (x ∷ xs) = cond (eqb n x) (without n xs) (x ∷ without n xs)

without_count : (p : ℕ → Bool) (n : ℕ) (xs : List ℕ) → p n ≡ true → count p (without n xs) + count (eqb n) xs ≡ count p xs
unfolding without
without_count p n [] z = refl
without_count p n (x ∷ xs) z = by (without_count p n xs z) (eqb n x) refl
  where
    by : count p (without n xs) + count (eqb n) xs ≡ count p xs → (t : Bool) → eqb n x ≡ t → count p (cond t (without n xs) (x ∷ without n xs)) + bump t (count (eqb n) xs) ≡ bump (p x) (count p xs)
    by o true y = let a = bump_is (p x) (count p xs) in let b = ap hit (ap p (sym (eqb-true n x y)) ∙ z) in omega (arith, o, a, b)
    by o false y = let a = bump_is (p x) (count p xs) in let b = bump_is (p x) (count p (without n xs)) in omega (arith, o, a, b)

without_other : (m n : ℕ) (xs : List ℕ) → m ≢ n → count (eqb m) (without n xs) ≡ count (eqb m) xs
unfolding without
without_other m n [] ne = refl
without_other m n (x ∷ xs) ne = by (without_other m n xs ne) (eqb n x) refl
  where
    by : count (eqb m) (without n xs) ≡ count (eqb m) xs → (t : Bool) → eqb n x ≡ t → count (eqb m) (cond t (without n xs) (x ∷ without n xs)) ≡ bump (eqb m x) (count (eqb m) xs)
    by o true y = o ∙ ap (λ b. bump b (count (eqb m) xs)) (sym (ne_eqb m x (λ q. ne (q ∙ sym (eqb-true n x y)))))
    by o false y = ap (bump (eqb m x)) o

without_none : (n : ℕ) (xs : List ℕ) → count (eqb n) (without n xs) ≡ 0
without_none n xs = let a = without_count (eqb n) n xs (eqb_here n) in omega (arith, a)

-- where fewer entries of a list pass a test than numbers below a bound, one of these numbers is not in the list
pub fresh : (p : ℕ → Bool) (n : ℕ) (xs : List ℕ) → count p xs < below p n → (i : ℕ) × (i < n) × (p i ≡ true) × (count (eqb i) xs ≡ 0)
fresh p zero xs less = absurd (omega (arith, less))
fresh p (suc n) xs less = by (λ ys low. fresh p n ys low) (p n) refl
  where
    by : ((ys : List ℕ) → count p ys < below p n → (i : ℕ) × (i < n) × (p i ≡ true) × (count (eqb i) ys ≡ 0)) → (t : Bool) → p n ≡ t → (i : ℕ) × (i < suc n) × (p i ≡ true) × (count (eqb i) xs ≡ 0)
    by r false z = let o = r xs (let a = ap hit z in omega (arith, a, less)) in (o.0, (let a = o.1 in omega (arith, a)), o.2, o.3)
    by r true z = dite (ℕ_discrete (count (eqb n) xs) 0) (λ none. (n, omega arith, z, none))
        (λ some. let o = r (without n xs) (let a = without_count p n xs z in let b = ap hit z in omega (arith, a, b, less, some)) in
        (o.0, (let a = o.1 in omega (arith, a)), o.2, sym (without_other o.0 n xs (λ q. let a = o.1 in omega (arith, a, q))) ∙ o.3))

any_number : ℕ → Bool
any_number x = true

count_any : (xs : List ℕ) → count any_number xs ≡ length xs
unfolding any_number
count_any [] = refl
count_any (x ∷ xs) = let a = count_any xs in omega (arith, a)

-- different numbers below a bound are at most as many
pub few_below : (n : ℕ) (xs : List ℕ) → ((i : ℕ) → count (eqb i) xs ≤ 1) → ((i : ℕ) → 0 < count (eqb i) xs → i < n) → length xs ≤ n
unfolding any_number
few_below zero [] once low = omega arith
few_below zero (x ∷ xs) once low = absurd (let a = bump_is (eqb x x) (count (eqb x) xs) in let b = ap hit (eqb_here x) in let c = low x (omega (arith, a, b)) in omega (arith, c))
few_below (suc n) xs once low =
    let rest = few_below n (without n xs)
    (λ i. dite (ℕ_discrete i n) (λ q. let a = ap (λ j. count (eqb j) (without n xs)) q in let b = without_none n xs in omega (arith, a, b)) (λ ne. let a = without_other i n xs ne in let b = once i in omega (arith, a, b)))
    (λ i some. dite (ℕ_discrete i n) (λ q. absurd (let a = ap (λ j. count (eqb j) (without n xs)) q in let b = without_none n xs in omega (arith, a, b, some)))
    (λ ne. let a = without_other i n xs ne in let b = low i (omega (arith, a, some)) in omega (arith, b, ne))) in
    let a = without_count any_number n xs refl in let b = count_any xs in let c = count_any (without n xs) in let d = once n in omega (arith, a, b, c, d, rest)
