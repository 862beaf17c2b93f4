-- Which target of a list is next, when it is sought one by one.
use Rattle.std.proofs.Common.{◌≡◌, ◌∙◌, ℕ, zero, suc, ◌+◌, ◌≤◌, Bool, true, false, cond, List, [], ◌∷◌, length, map, filter, drop, slice_get, Option, Some, None, ap, sym, refl, arith, add-one}
use Rattle.std.proofs.lemmas.List.{drop_all}
use Rattle.graph_model.specs.Plans.{hits, waits_for}
use Rattle.graph_model.specs.declared.key.Key.{Key}
use Rattle.graph_model.specs.declared.plan.Point.{Point}
use Rattle.graph_model.specs.declared.plan.Strike.{Strike}
use Rattle.graph_model.specs.declared.plan.Target.{Target}
use Rattle.compute_notify.specs.Striking.{has_target, next_hit}
use Rattle.compute_notify.specs.declared.strikes.Next.{Next}

-- nothing stands behind the end of a list
pub drop_none : {X : Type 0} (xs : List X) (n : ℕ) → slice_get xs n ≡ None → drop n xs ≡ []
drop_none [] zero at = refl
drop_none [] (suc n) at = refl
drop_none (x ∷ xs) zero at = absurd cc
drop_none (x ∷ xs) (suc n) at = drop_none xs n at

-- what stands at a place, and what stands behind it
drop_one : {X : Type 0} (xs : List X) (n : ℕ) (y : X) → slice_get xs n ≡ Some y → drop n xs ≡ y ∷ drop (suc n) xs
drop_one [] zero y at = absurd cc
drop_one [] (suc n) y at = absurd cc
drop_one (x ∷ xs) zero y at = let same : x ≡ y = cc in ap (λ z. z ∷ xs) same
drop_one (x ∷ xs) (suc n) y at = drop_one xs n y at

pub drop_some : {X : Type 0} (xs : List X) (n : ℕ) (y : X) → slice_get xs n ≡ Some y → drop n xs ≡ y ∷ drop (n + 1) xs
drop_some xs n y at = drop_one xs n y at ∙ ap (λ m. y ∷ drop m xs) (sym (add-one n))

-- a part of a list is no longer than the list
few_of : {X Y : Type 0} (p : X → Bool) (f : X → Y) (xs : List X) → length (map f (filter p xs)) ≤ length xs
few_of p f [] = omega arith
few_of p f (x ∷ xs) = by (few_of p f xs) (p x)
  where
    by : length (map f (filter p xs)) ≤ length xs → (b : Bool) → length (map f (cond b (x ∷ filter p xs) (filter p xs))) ≤ length (x ∷ xs)
    by rest true = omega (arith, rest)
    by rest false = omega (arith, rest)

pub few_hits : (at : Point) (key : Key) (life : ℕ) (plan : List Strike) → length (hits at key life plan) ≤ length plan
few_hits at key life plan = few_of (waits_for at key life) (λ s. s.target) plan

module _ (words at : ℕ) (ts : List Target) (o : Option Next) (sought : o ≡ next_hit words at (drop at ts)) where
  -- nothing is left
  pub hit_none : slice_get ts at ≡ None → o ≡ None
  hit_none end = sought ∙ ap (next_hit words at) (drop_none ts at end)

  -- so many were looked at, and there are no more
  pub hit_all : (most : ℕ) → length ts ≤ most → most ≤ at → o ≡ None
  hit_all most few all = sought ∙ ap (next_hit words at) (drop_all at ts (omega (arith, few, all)))

  -- the target at the place is one that the task has
  pub hit_here : (t : Target) → slice_get ts at ≡ Some t → has_target words t ≡ true → o ≡ Some (record { target = t; made = at + 1 })
  hit_here t is has = sought ∙ ap (next_hit words at) (drop_some ts at t is) ∙ ap (λ (b : Bool). cond b (Some (record { target = t; made = at + 1 })) (next_hit words (at + 1) (drop (at + 1) ts))) has

  -- or one that it has not, and is passed over
  pub hit_past : (t : Target) → slice_get ts at ≡ Some t → has_target words t ≡ false → o ≡ next_hit words (at + 1) (drop (at + 1) ts)
  hit_past t is has = sought ∙ ap (next_hit words at) (drop_some ts at t is) ∙ ap (λ (b : Bool). cond b (Some (record { target = t; made = at + 1 })) (next_hit words (at + 1) (drop (at + 1) ts))) has
