use Rattle.std.proofs.Common.{◌≡◌, ℕ, ◌*◌, ◌<◌, ◌≤◌, length, get_or, vec_len, [], take}
use Rattle.raw_graph.specs.declared.raw.RawTask.{RawTask}
use Rattle.audit_checks.specs.Rows.{row}
use Rattle.audit_checks.specs.Tasks.{places_of, edge_count}
use Rattle.audit_checks.specs.Links.{Reverse, HasFewPorts, Tells, places_in, succs_in}
use Rattle.audit_checks.specs.Ports.{StandBefore}
use Rattle.audit_checks.proofs.links.links_of.Given as goal

abbrev pub invariant-loop-k : goal.invariant-loop-k
invariant-loop-k l = Reverse l.links × HasFewPorts (40 * l.k) l.links × (vec_len l.links.places ≡ length l.tasks) × (vec_len l.links.succs ≡ length l.tasks)
    × ((i : ℕ) → l.k ≤ i → row (places_in l.links) i ≡ [])
    × ((r : ℕ) → r < length l.keys → length (row (succs_in l.links) r) ≡ edge_count (take l.k l.tasks) (get_or l.keys r 0))
    × ((i : ℕ) (d : RawTask) → i < l.k → Tells l.keys (places_of (get_or l.tasks i d)) (row (places_in l.links) i))
    × StandBefore (succs_in l.links) l.k 0
