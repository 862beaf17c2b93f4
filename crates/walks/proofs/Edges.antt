-- Edges of a matrix as weights, and as steps of walks.
use Rattle.std.proofs.Common.{◌≡◌, ℕ, ◌+◌, ◌*◌, ◌<◌, ◌≤◌, pos, List, Option, Some, None, slice_index_or, inl, inr, refl, sym, ap, subst, ◌∙◌, arith, ◌⊎◌}
use Rattle.std.proofs.lemmas.Bool.{cases_lt, cases_eq, lt-ltb, le-ltb}
use Rattle.std.proofs.lemmas.Int.{ints}
use Rattle.lane_kernels.specs.MinPlus.{none as no_way, IsWeight}
use Rattle.apsp_graph.specs.Blocked.{as_weight, edge}
use Rattle.apsp_graph.proofs.CellLemmas.{edge_within, edge_self, edge_none}
use Rattle.walks.specs.Floyd.{AreEdges}
use Rattle.walks.specs.Walks.{edge_weight}

-- weights of at most 2^31 - 1, which are 0 on the diagonal
pub record AreItems (n : ℕ) (ws : List (Option ℕ)) : Type 0 where
  pub light : (p w : ℕ) → slice_index_or ws p None ≡ Some w → w ≤ 2147483647
  pub diagonal : (u : ℕ) → u < n → slice_index_or ws (u * n + u) None ≡ Some 0

light_weight : (o : Option ℕ) → ((w : ℕ) → o ≡ Some w → w ≤ 2147483647) → IsWeight (as_weight o)
light_weight None light = record { from_zero = omega (arith, ints); to_none = omega (arith, ints) }
light_weight (Some w) light =
    let small : w ≤ 2147483647 = light w refl in
    record { from_zero = omega (arith, ints); to_none = omega (arith, ints) }

zero_weight : IsWeight (pos 0)
zero_weight = record { from_zero = omega (arith, ints); to_none = omega (arith, ints) }

-- an edge stands among the n vertices, or is one to itself of weight 0, or there is none
pub data Found (n : ℕ) (ws : List (Option ℕ)) (u v : ℕ) : Type 0 where
  within : u < n → v < n → edge n ws u v ≡ as_weight (slice_index_or ws (u * n + v) None) → Found n ws u v
  itself : u ≡ v → edge n ws u v ≡ pos 0 → Found n ws u v
  missing : edge n ws u v ≡ no_way → Found n ws u v

found_outside : (n : ℕ) (ws : List (Option ℕ)) (u v : ℕ) → (n ≤ u) ⊎ (n ≤ v) → Found n ws u v
found_outside n ws u v outside = elim (cases_eq u v) [
  | inl e ↦ itself e (edge_self n ws u v outside e)
  | inr ne ↦ missing (edge_none n ws u v outside ne)
]

pub found : (n : ℕ) (ws : List (Option ℕ)) (u v : ℕ) → Found n ws u v
found n ws u v = elim (cases_lt u n) [
  | inl lu ↦ elim (cases_lt v n) [
    | inl lv ↦ within lu lv (edge_within n ws u v lu lv)
    | inr far ↦ found_outside n ws u v (inr far)
  ]
  | inr far ↦ found_outside n ws u v (inl far)
]

edge_light : (n : ℕ) (ws : List (Option ℕ)) (u v : ℕ) → AreItems n ws → Found n ws u v → IsWeight (edge n ws u v)
edge_light n ws u v items (within lu lv e) = subst IsWeight (sym e) (light_weight (slice_index_or ws (u * n + v) None) (items.light (u * n + v)))
edge_light n ws u v items (itself e f) = subst IsWeight (sym f) zero_weight
edge_light n ws u v items (missing e) = subst IsWeight (sym e) (light_weight None (λ w h. absurd (cc)))

edge_itself : (n : ℕ) (ws : List (Option ℕ)) (u : ℕ) → AreItems n ws → edge n ws u u ≡ pos 0
edge_itself n ws u items = elim (cases_lt u n) [
  | inl lt ↦ edge_within n ws u u lt lt ∙ ap as_weight (items.diagonal u lt)
  | inr far ↦ edge_self n ws u u (inl far) refl
]

pub edges_are : (n : ℕ) (ws : List (Option ℕ)) → AreItems n ws → AreEdges (edge n ws)
edges_are n ws items = record { weights = λ u v. edge_light n ws u v items (found n ws u v); itself = λ u. edge_itself n ws u items }

-- ---- a step of a walk
pub step_within : (n : ℕ) (ws : List (Option ℕ)) (u v : ℕ) → u < n → v < n → edge_weight n ws u v ≡ slice_index_or ws (u * n + v) None
step_within n ws u v lu lv = rw (lt-ltb u n lu, lt-ltb v n lv) refl

step_outside : (n : ℕ) (ws : List (Option ℕ)) (u v : ℕ) → (n ≤ u) ⊎ (n ≤ v) → edge_weight n ws u v ≡ None
step_outside n ws u v (inl far) = rw (le-ltb u n far) refl
step_outside n ws u v (inr far) = elim (cases_lt u n) [
  | inl lu ↦ rw (lt-ltb u n lu, le-ltb v n far) refl
  | inr out ↦ rw (le-ltb u n out) refl
]

pub record IsStep (n : ℕ) (ws : List (Option ℕ)) (u v w : ℕ) : Type 0 where
  pub from : u < n
  pub to : v < n
  pub item : slice_index_or ws (u * n + v) None ≡ Some w
  pub edge_is : edge n ws u v ≡ pos w

no_step : {A : Type 0} (o : Option ℕ) (w : ℕ) → o ≡ None → o ≡ Some w → A
no_step o w e f = absurd (cc)

pub step_is : (n : ℕ) (ws : List (Option ℕ)) (u v w : ℕ) → edge_weight n ws u v ≡ Some w → IsStep n ws u v w
step_is n ws u v w h = elim (cases_lt u n) [
  | inl lu ↦ elim (cases_lt v n) [
    | inl lv ↦
        let item : slice_index_or ws (u * n + v) None ≡ Some w = sym (step_within n ws u v lu lv) ∙ h in
        record { from = lu; to = lv; item = item; edge_is = edge_within n ws u v lu lv ∙ ap as_weight item }
    | inr far ↦ no_step (edge_weight n ws u v) w (step_outside n ws u v (inr far)) h
  ]
  | inr far ↦ no_step (edge_weight n ws u v) w (step_outside n ws u v (inl far)) h
]
