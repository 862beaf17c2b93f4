-- The edges, seen from both ends.
use Rattle.std.specs.Prelude.{◌≡◌, ℕ, ◌<◌, ◌≤◌, List, Some, length, slice_index, slice_index_or}
use Rattle.audit_checks.specs.Rows.{rows_of, row, cell}
use Rattle.audit_checks.specs.declared.links.Links.{Links}

-- each entry (a, b) at (c, d) of one stands as (c, d) at (a, b) of the other
abbrev pub IsMirrored : List (List (ℕ × ℕ)) → List (List (ℕ × ℕ)) → Type 0
IsMirrored rows others = (c d a b : ℕ) → cell rows c d ≡ Some (a, b) → cell others a b ≡ Some (c, d)

-- place j of k names p at port q, exactly where port q of p names k at place j
pub record IsReverse (places succs : List (List (ℕ × ℕ))) : Type 0 where
  pub forth : IsMirrored places succs
  pub back : IsMirrored succs places

-- the predecessors stand at the numbers of the keys that are named
pub record Tells (keys names : List ℕ) (es : List (ℕ × ℕ)) : Type 0 where
  pub long : length es ≡ length names
  pub inside : (j : ℕ) → j < length names → (slice_index_or es j (0, 0)).0 < length keys
  pub named : (j : ℕ) → j < length names → slice_index keys (slice_index_or es j (0, 0)).0 ≡ slice_index names j

abbrev pub places_in : Links → List (List (ℕ × ℕ))
places_in links = rows_of links.places.items

abbrev pub succs_in : Links → List (List (ℕ × ℕ))
succs_in links = rows_of links.succs.items

abbrev pub Reverse : Links → Type 0
Reverse links = IsReverse (places_in links) (succs_in links)

-- no task has more than n ports
abbrev pub HasFewPorts : ℕ → Links → Type 0
HasFewPorts n links = (p : ℕ) → length (row (succs_in links) p) ≤ n
