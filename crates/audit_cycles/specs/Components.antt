-- Numbers that show of tasks that they are on no cycle, and the walks that find such numbers.
use Rattle.std.specs.Prelude.{◌≡◌, ℕ, ◌+◌, ◌*◌, ◌-◌, ◌<◌, ◌≤◌, List, Bool, Vec, length, sum_by, slice_index, All, Contains}
use Rattle.std.specs.declared.alloc.Global.{Global}
use Rattle.audit_checks.specs.Rows.{rows_of, row, Names, IsWithin}
use Rattle.audit_cycles.specs.Searching.{unseen}
use Rattle.audit_cycles.specs.declared.components.Walk.{Walk}
use Rattle.audit_cycles.specs.declared.search.Search.{Search}

-- no predecessor has a greater number than its task
abbrev pub NeverRises : List ℕ → List (List (ℕ × ℕ)) → Type 0
NeverRises numbers places = (k p : ℕ) → Names (row places k) p → slice_index numbers p ≤ slice_index numbers k

-- n rows, which name tasks below n
pub record AreRows (n : ℕ) (rows : List (Vec (ℕ × ℕ) Global)) : Type 0 where
  pub long : length rows ≡ n
  pub within : All (IsWithin n) (rows_of rows)

-- what the path and the order name is below n
pub record IsWalk (n : ℕ) (path : List (ℕ × ℕ)) (order : List ℕ) : Type 0 where
  pub ahead : IsWithin n path
  pub done : (k : ℕ) → Contains order k → k < n

abbrev pub Walks : Walk → Type 0
Walks walk = IsWalk (length walk.seen.items) walk.path.items walk.order.items

-- the steps that a walk may still take where no row is longer than `most`
abbrev pub walk_left : ℕ → Walk → ℕ
walk_left most walk = sum_by (λ e. most - e.1 + 1) walk.path.items + unseen walk.seen.items * (most + 2)

-- there are n flags, and what is still to be looked at is below n
pub record IsSearching (n : ℕ) (seen : List Bool) (left : List ℕ) : Type 0 where
  pub long : length seen ≡ n
  pub inside : (k : ℕ) → Contains left k → k < n

abbrev pub Searches : ℕ → Search → Type 0
Searches n search = IsSearching n search.seen.items search.left.items
