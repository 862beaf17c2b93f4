-- What Floyd-Warshall gives is the weight of a walk, and no walk weighs less.
use Rattle.std.proofs.Common.{◌≡◌, ◌≢◌, ℕ, zero, suc, ◌+◌, ◌*◌, ◌<◌, ◌≤◌, ℤ, pos, ◌≤ℤ◌, List, [], ◌∷◌, ◌++◌, Option, Some, None, slice_index_or, inl, inr, refl, sym, ap, subst, ◌∙◌, arith}
use Rattle.std.proofs.lemmas.Int.{ints}
use Rattle.lane_kernels.specs.MinPlus.{none as no_way, plus, IsWeight}
use Rattle.apsp_graph.specs.Blocked.{as_weight, edge}
use Rattle.walks.specs.Floyd.{floyd, AreEdges}
use Rattle.walks.specs.Walks.{edge_weight, weight_or_zero, LeadsTo, walk_weight}
use Rattle.walks.proofs.Edges.{Found, within, itself, missing, found, step_within, step_is}
use Rattle.walks.proofs.Sums.{at_most_itself, at_most_both, plus_grows}
use Rattle.walks.proofs.Floyds.{floyd_start, floyd_self, floyd_weight, floyd_falls, over_done}
use Rattle.walks.proofs.Blocks.{next_is}

-- ---- sums that stop at none
pub sum_exact : (x y : ℕ) → plus (pos x) (pos y) ≢ no_way → plus (pos x) (pos y) ≡ pos (x + y)
sum_exact x y ne = grind (arith, ints)

sum_first : (a b : ℤ) → IsWeight a → IsWeight b → plus a b ≢ no_way → a ≢ no_way
sum_first a b p q ne e = ne (grind (arith, ints, p.from_zero, p.to_none, q.from_zero, q.to_none, e))

sum_second : (a b : ℤ) → IsWeight a → IsWeight b → plus a b ≢ no_way → b ≢ no_way
sum_second a b p q ne e = ne (grind (arith, ints, p.from_zero, p.to_none, q.from_zero, q.to_none, e))

sum_low : (x y : ℕ) → plus (pos x) (pos y) ≤ℤ pos (x + y)
sum_low x y = grind (arith, ints)

-- ---- walks one after the other
pub joined : (n : ℕ) (ws : List (Option ℕ)) (u m v : ℕ) (xs ys : List ℕ) → LeadsTo n ws u xs m → LeadsTo n ws m ys v → LeadsTo n ws u (xs ++ ys) v
joined n ws u m v [] ys first second = subst (λ x. LeadsTo n ws x ys v) (sym first) second
joined n ws u m v (x ∷ xs) ys first second = (first.0, joined n ws x m v xs ys first.1 second)

joined_weight : (n : ℕ) (ws : List (Option ℕ)) (u m v : ℕ) (xs ys : List ℕ) → LeadsTo n ws u xs m → walk_weight n ws u (xs ++ ys) ≡ walk_weight n ws u xs + walk_weight n ws m ys
joined_weight n ws u m v [] ys first = ap (λ x. walk_weight n ws x ys) first ∙ (let e : walk_weight n ws m ys ≡ 0 + walk_weight n ws m ys = omega arith in e)
joined_weight n ws u m v (x ∷ xs) ys first = let e = joined_weight n ws x m v xs ys first.1 in omega (arith, e)

-- ---- a walk for each number
abbrev IsReached : ℕ → List (Option ℕ) → ℕ → ℕ → ℤ → Type 0
IsReached n ws u v z = (xs : List ℕ) × LeadsTo n ws u xs v × (z ≡ pos (walk_weight n ws u xs))

one_step : (n : ℕ) (ws : List (Option ℕ)) (u v : ℕ) (o : Option ℕ) (z : ℤ) → edge_weight n ws u v ≡ o → z ≡ as_weight o → z ≢ no_way → IsReached n ws u v z
one_step n ws u v None z e f ne = absurd (ne f)
one_step n ws u v (Some w) z e f ne =
    let weight : walk_weight n ws u (v ∷ []) ≡ w = ap (λ o. weight_or_zero o + 0) e ∙ omega arith in
    (v ∷ [], ((w, e), refl), f ∙ ap pos (sym weight))

edge_reached : (n : ℕ) (ws : List (Option ℕ)) (u v : ℕ) → Found n ws u v → edge n ws u v ≢ no_way → IsReached n ws u v (edge n ws u v)
edge_reached n ws u v (within lu lv e) ne = one_step n ws u v (slice_index_or ws (u * n + v) None) (edge n ws u v) (step_within n ws u v lu lv) e ne
edge_reached n ws u v (itself e f) ne = ([], e, f)
edge_reached n ws u v (missing e) ne = absurd (ne e)

both_ways : (n : ℕ) (ws : List (Option ℕ)) (u m v : ℕ) (a b z : ℤ) → z ≡ plus a b → z ≢ no_way → IsReached n ws u m a → IsReached n ws m v b → IsReached n ws u v z
both_ways n ws u m v a b z e ne (xs, first, f) (ys, second, g) =
    let x = walk_weight n ws u xs in
    let y = walk_weight n ws m ys in
    let sum : z ≡ plus (pos x) (pos y) = e ∙ ap (λ c. plus c b) f ∙ ap (plus (pos x)) g in
    (xs ++ ys, joined n ws u m v xs ys first second, sum ∙ sum_exact x y (λ h. ne (sum ∙ h)) ∙ ap pos (sym (joined_weight n ws u m v xs ys first)))

pub reached : (n : ℕ) (ws : List (Option ℕ)) (m u v : ℕ) → AreEdges (edge n ws) → floyd (edge n ws) m u v ≢ no_way
    → (xs : List ℕ) × LeadsTo n ws u xs v × (floyd (edge n ws) m u v ≡ pos (walk_weight n ws u xs))
reached n ws zero u v h ne =
    let start = floyd_start (edge n ws) u v in
    let way = edge_reached n ws u v (found n ws u v) (λ e. ne (start ∙ e)) in
    (way.0, way.1, start ∙ way.2)
reached n ws (suc m) u v h ne =
    let f = floyd (edge n ws) m in
    let z = floyd (edge n ws) (suc m) u v in
    elim (next_is (edge n ws) m u v) [
      | inl same ↦ let way = reached n ws m u v h (λ e. ne (same ∙ e)) in (way.0, way.1, same ∙ way.2)
      | inr sum ↦
          let p = floyd_weight (edge n ws) m u m h in
          let q = floyd_weight (edge n ws) m m v h in
          let stands : plus (f u m) (f m v) ≢ no_way = λ e. ne (sum ∙ e) in
          both_ways n ws u m v (f u m) (f m v) z sum ne (reached n ws m u m h (sum_first (f u m) (f m v) p q stands)) (reached n ws m m v h (sum_second (f u m) (f m v) p q stands))
    ]

-- ---- no walk weighs less
pub no_longer : (n : ℕ) (ws : List (Option ℕ)) (m u v : ℕ) (xs : List ℕ) → AreEdges (edge n ws) → n ≤ m → LeadsTo n ws u xs v → floyd (edge n ws) m u v ≤ℤ pos (walk_weight n ws u xs)
no_longer n ws m u v [] h wide leads =
    subst (λ x. floyd (edge n ws) m u x ≤ℤ pos 0) leads (subst (λ z. z ≤ℤ pos 0) (sym (floyd_self (edge n ws) m u h)) (at_most_itself (pos 0)))
no_longer n ws m u v (x ∷ xs) h wide ((w, e), leads) =
    let f = floyd (edge n ws) m in
    let step = step_is n ws u x w e in
    let rest = walk_weight n ws x xs in
    let near : f u x ≤ℤ pos w =
    subst (λ z. f u x ≤ℤ z) (floyd_start (edge n ws) u x ∙ step.edge_is)
    (subst (λ s. floyd (edge n ws) s u x ≤ℤ floyd (edge n ws) 0 u x) (let same : 0 + m ≡ m = omega arith in same) (floyd_falls (edge n ws) 0 m u x)) in
    let inside : x < m = omega (arith, step.to) in
    let weight : walk_weight n ws u (x ∷ xs) ≡ w + rest = ap (λ o. weight_or_zero o + rest) e in
    subst (λ s. f u v ≤ℤ pos s) (sym weight)
    (at_most_both (f u v) (plus (f u x) (f x v)) (pos (w + rest)) (over_done (edge n ws) m x u v h inside)
    (at_most_both (plus (f u x) (f x v)) (plus (pos w) (pos rest)) (pos (w + rest))
    (plus_grows (f u x) (f x v) (pos w) (pos rest) near (no_longer n ws m x v xs h wide leads)) (sum_low w rest)))
