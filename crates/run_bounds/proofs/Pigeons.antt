-- A pigeonhole lemma with weights: what is met weighs at least as much, and each is met at most once.
use Rattle.std.proofs.Common.{◌≡◌, ℕ, ◌+◌, ◌≤◌, Bool, true, false, cond, List, [], ◌∷◌, arith, refl, sym}
use Rattle.std.specs.List.{AllByRecursion, sum_by}
use Rattle.std.proofs.lemmas.List.Sums.{sum_by-cons}
use Rattle.core_state.specs.Counts.{bump, count}

-- a sum of two numbers, and one of nothing
sums_add : {Y : Type 0} (f g : Y → ℕ) (ys : List Y) → sum_by (λ y. f y + g y) ys ≡ sum_by f ys + sum_by g ys
sums_add f g [] = refl
sums_add f g (y ∷ ys) = let h = sums_add f g ys in let a = sum_by-cons (λ z. f z + g z) y ys in let b = sum_by-cons f y ys in let c = sum_by-cons g y ys in omega (arith, h, a, b, c)

sums_none : {Y : Type 0} (f : Y → ℕ) (ys : List Y) → ((y : Y) → f y ≡ 0) → sum_by f ys ≡ 0
sums_none f [] z = refl
sums_none f (y ∷ ys) z = let h = sums_none f ys z in let a = sum_by-cons f y ys in let b = z y in omega (arith, h, a, b)

sums_below : {Y : Type 0} (f g : Y → ℕ) (ys : List Y) → ((y : Y) → f y ≤ g y) → sum_by f ys ≤ sum_by g ys
sums_below f g [] z = omega arith
sums_below f g (y ∷ ys) z = let h = sums_below f g ys z in let a = sum_by-cons f y ys in let b = sum_by-cons g y ys in let c = z y in omega (arith, h, a, b, c)

module _ {X Y : Type 0} (meets : X → Y → Bool) (weight : Y → ℕ) where
  -- what one weighs to another that it meets
  abbrev pair : X → Y → ℕ
  pair x y = cond (meets x y) (weight y) 0

  -- all that one meets
  abbrev pub met : X → List Y → ℕ
  met x ys = sum_by (pair x) ys

  -- who meets one, together
  abbrev meeting : List X → Y → ℕ
  meeting xs y = sum_by (λ x. pair x y) xs

  swapped : (xs : List X) (ys : List Y) → sum_by (λ x. met x ys) xs ≡ sum_by (meeting xs) ys
  swapped [] ys = sym (sums_none (meeting []) ys (λ y. refl))
  swapped (x ∷ xs) ys = let h = swapped xs ys in let a = sum_by-cons (λ z. met z ys) x xs in let b = sums_add (pair x) (meeting xs) ys in
      let c : sum_by (meeting (x ∷ xs)) ys ≤ sum_by (λ y. pair x y + meeting xs y) ys = sums_below (meeting (x ∷ xs)) (λ y. pair x y + meeting xs y) ys (λ y. let q = sum_by-cons (λ z. pair z y) x xs in omega (arith, q)) in
      let d : sum_by (λ y. pair x y + meeting xs y) ys ≤ sum_by (meeting (x ∷ xs)) ys = sums_below (λ y. pair x y + meeting xs y) (meeting (x ∷ xs)) ys (λ y. let q = sum_by-cons (λ z. pair z y) x xs in omega (arith, q)) in
      omega (arith, h, a, b, c, d)

  meets_none : (xs : List X) (y : Y) → count (λ x. meets x y) xs ≡ 0 → meeting xs y ≡ 0
  meets_none [] y z = refl
  meets_none (x ∷ xs) y z = let a = sum_by-cons (λ u. pair u y) x xs in by (meets x y) (meets_none xs y) z a
    where
      by : (b : Bool) → (count (λ u. meets u y) xs ≡ 0 → meeting xs y ≡ 0) → bump b (count (λ u. meets u y) xs) ≡ 0 → meeting (x ∷ xs) y ≡ cond b (weight y) 0 + meeting xs y → meeting (x ∷ xs) y ≡ 0
      by true h q a = absurd (omega (arith, q))
      by false h q a = let r = h q in omega (arith, a, r)

  meets_one : (xs : List X) (y : Y) → count (λ x. meets x y) xs ≤ 1 → meeting xs y ≤ weight y
  meets_one [] y z = omega arith
  meets_one (x ∷ xs) y z = let a = sum_by-cons (λ u. pair u y) x xs in by (meets x y) (meets_one xs y) z a
    where
      by : (b : Bool) → (count (λ u. meets u y) xs ≤ 1 → meeting xs y ≤ weight y) → bump b (count (λ u. meets u y) xs) ≤ 1 → meeting (x ∷ xs) y ≡ cond b (weight y) 0 + meeting xs y → meeting (x ∷ xs) y ≤ weight y
      by true h q a = let none : count (λ u. meets u y) xs ≡ 0 = omega (arith, q) in let r = meets_none xs y none in omega (arith, a, r)
      by false h q a = let r = h q in omega (arith, a, r)

  each_below : (own : X → ℕ) (xs : List X) (ys : List Y) → AllByRecursion (λ x. own x ≤ met x ys) xs → sum_by own xs ≤ sum_by (λ x. met x ys) xs
  each_below own [] ys all = omega arith
  each_below own (x ∷ xs) ys all = let h = each_below own xs ys all.1 in let a = sum_by-cons own x xs in let b = sum_by-cons (λ u. met u ys) x xs in let c = all.0 in omega (arith, h, a, b, c)

  pub pigeons : (own : X → ℕ) (xs : List X) (ys : List Y) → AllByRecursion (λ x. own x ≤ met x ys) xs → ((y : Y) → count (λ x. meets x y) xs ≤ 1) → sum_by own xs ≤ sum_by weight ys
  pigeons own xs ys all once = let a = each_below own xs ys all in let b = swapped xs ys in let c = sums_below (meeting xs) weight ys (λ y. meets_one xs y (once y)) in omega (arith, a, b, c)
