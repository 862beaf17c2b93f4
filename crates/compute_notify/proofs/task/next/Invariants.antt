use Rattle.std.proofs.Common.{◌≡◌, length, vec_capacity}
use Rattle.compute_notify.specs.Tasks.{AllMayBeOver}
use Rattle.compute_notify.proofs.Popping.{IsPopped}
use Rattle.compute_notify.proofs.task.next.Given as goal

abbrev pub invariant-loop-items : goal.invariant-loop-items
invariant-loop-items g l = (vec_capacity l.items ≡ vec_capacity l.initial.items) × AllMayBeOver (g.G.TaskGraph.graph l.terms.graph.now) l.items.items × IsPopped (g.G.TaskGraph.graph l.terms.graph.now) l.terms.plan.now l.initial.items.items l.items.items

abbrev pub decreases-loop-items : goal.decreases-loop-items
decreases-loop-items g l = length l.items.items
