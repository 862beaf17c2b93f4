use Rattle.audit_cycles.proofs.Searching.{IsSeeing}
use Rattle.audit_cycles.proofs.search.Search.see_all.Given as goal

abbrev pub invariant-loop-p : goal.invariant-loop-p
invariant-loop-p l = IsSeeing l.named l.initial.self.seen.items l.initial.self.left.items l.self.seen.items l.self.left.items l.p-index
