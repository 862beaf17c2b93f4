-- The edges by keys, as callers of a graph see them.
use Rattle.std.specs.Prelude.{◌≡◌, ◌==◌, ℕ, suc, List, [], ◌∷◌, map, slice_index, slice_get, Some, Contains, if◌then◌else◌}
use Rattle.audit_checks.specs.Rows.{row}

-- where a key stands
abbrev pub number_in : List ℕ → ℕ → ℕ
number_in [] k = 0
number_in (x ∷ xs) k = if x == k then 0 else suc (number_in xs k)

-- a row with keys in place of numbers
abbrev pub keyed : List ℕ → List (ℕ × ℕ) → List (ℕ × ℕ)
keyed keys es = map (λ e. (slice_index keys e.0, e.1)) es

abbrev pub row_by : List ℕ → List (List (ℕ × ℕ)) → ℕ → List (ℕ × ℕ)
row_by keys rows k = keyed keys (row rows (number_in keys k))

-- place j of task k names p at port q, exactly where port q of task p names k at place j
pub record IsReverseByKey (keys : List ℕ) (preds succs : ℕ → List (ℕ × ℕ)) : Type 0 where
  pub forth : (k j p q : ℕ) → Contains keys k → slice_get (preds k) j ≡ Some (p, q) → slice_get (succs p) q ≡ Some (k, j)
  pub back : (p q k j : ℕ) → Contains keys p → slice_get (succs p) q ≡ Some (k, j) → slice_get (preds k) j ≡ Some (p, q)
