use Rattle.std.proofs.Common.{◌+◌, length}
use Rattle.audit_checks.specs.Rows.{rows_of}
use Rattle.audit_cycles.specs.Searching.{unseen}
use Rattle.audit_cycles.proofs.Searching.{IsSearch}
use Rattle.audit_cycles.proofs.search.ancestors.Given as goal

abbrev pub invariant-loop-k : goal.invariant-loop-k
invariant-loop-k l = IsSearch (rows_of l.places) l.from l.search.seen.items l.search.left.items

abbrev pub decreases-loop-k : goal.decreases-loop-k
decreases-loop-k l = unseen l.search.seen.items + length l.search.left.items
