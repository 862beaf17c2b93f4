use Rattle.std.proofs.Common.{◌≡◌, ◌+◌, length}
use Rattle.audit_cycles.specs.Searching.{unseen}
use Rattle.audit_cycles.specs.Components.{Searches}
use Rattle.audit_cycles.proofs.components.spread.Given as goal

abbrev pub invariant-loop-k : goal.invariant-loop-k
invariant-loop-k l = Searches (length l.succs) l.search × (length l.numbers.items ≡ length l.succs)

abbrev pub decreases-loop-k : goal.decreases-loop-k
decreases-loop-k l = unseen l.search.seen.items + length l.search.left.items
