-- That the ports of the tasks are their successor edges.
use Rattle.std.specs.Prelude.{◌≡◌, ℕ, ◌<◌, List, Vec, length, slice_index}
use Rattle.std.specs.declared.alloc.Global.{Global}
use Rattle.raw_graph.specs.declared.raw.RawTask.{RawTask}
use Rattle.audit_checks.specs.Rows.{rows_of, row}
use Rattle.audit_checks.specs.Tasks.{keys_of, edge_count}

-- the rows of ports have the lengths that the tasks ask for
pub record AreCounted (ts : List RawTask) (keys : List ℕ) (succs : List (Vec (ℕ × ℕ) Global)) : Type 0 where
  pub is : keys_of ts ≡ keys
  pub counted : (r : ℕ) → r < length keys → length (row (rows_of succs) r) ≡ edge_count ts (slice_index keys r)
