-- What the checks found out of tasks that stand in ascending order of keys.
use Rattle.std.specs.Prelude.{◌≡◌, ◌-◌, ℕ, ◌<◌, List, length, slice_index, slice_index_or, vec_len}
use Rattle.raw_graph.specs.declared.raw.RawTask.{RawTask}
use Rattle.audit_checks.specs.Tasks.{IsAscending, keys_of, places_of, edge_count}
use Rattle.audit_checks.specs.Accepted.{IsAccepted}
use Rattle.audit_checks.specs.Rows.{row}
use Rattle.audit_cycles.specs.Levels.{level}
use Rattle.audit_checks.specs.Links.{Tells, Reverse, places_in, succs_in}
use Rattle.audit_cycles.specs.Chains.{HasRank}
use Rattle.audit_checks.specs.ByKey.{row_by, IsReverseByKey}
use Rattle.audit_checks.specs.Ports.{AreAscending}
use Rattle.audit_blocks.specs.Numbering.{AreNumbered}
use Rattle.audit_blocks.specs.Laws.{HasBlockLaws}
use Rattle.acyclic_audit.specs.declared.findings.Findings.{Findings}
use Rattle.acyclic_audit.specs.FileGraphs.{inputs_in}
use Rattle.acyclic_audit.specs.Meaning.{IsInLimits}

-- the graph is accepted, and the findings are its edges, levels and blocks
pub record IsFound (keys : List ℕ) (ts : List RawTask) (sink : ℕ) (x : Findings) : Type 0 where
  pub limits : IsInLimits ts sink
  pub accepted : IsAccepted ts sink
  pub keys_are : keys_of ts ≡ keys
  pub ascending : IsAscending keys
  pub sink_inside : x.sink < length keys
  pub sink_is : slice_index keys x.sink ≡ sink
  pub places_len : vec_len x.links.places ≡ length ts
  pub succs_len : vec_len x.links.succs ≡ length ts
  pub named : (i : ℕ) (d : RawTask) → i < length ts → Tells keys (places_of (slice_index_or ts i d)) (row (places_in x.links) i)
  pub counted : (r : ℕ) → r < length keys → length (row (succs_in x.links) r) ≡ edge_count ts (slice_index keys r)
  pub mirror : Reverse x.links
  pub reverse : IsReverseByKey keys (row_by keys (places_in x.links)) (row_by keys (succs_in x.links))
  pub ascending_ports : (k : ℕ) → AreAscending (row_by keys (succs_in x.links) k)
  pub levels_long : length x.levels.items ≡ length keys
  pub levels : (k : ℕ) → k < length keys → (0 < level x.levels.items k) × HasRank (places_in x.links) k (level x.levels.items k - 1)
  pub numbered : AreNumbered ts x.blocks.places.items x.blocks.count
  pub laws : HasBlockLaws keys x.blocks.places.items x.blocks.count (row_by keys (places_in x.links)) (row_by keys (succs_in x.links)) (inputs_in keys ts)
