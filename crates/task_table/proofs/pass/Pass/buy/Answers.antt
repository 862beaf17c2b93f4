use Rattle.std.proofs.Common.{None, refl, subst}
use Rattle.core_state.specs.Events.Event.{buy}
use Rattle.task_table.specs.Passes.{Passing}
use Rattle.task_table.proofs.Counting.{buy_leaves}
use Rattle.task_table.proofs.Passing.{noted_pass}
use Rattle.task_table.proofs.pass.Pass.buy.Goals as goal

pub add-found-requires-clause-leaves : goal.add-found-requires-clause-leaves
add-found-requires-clause-leaves g c n seen = buy_leaves g.C.Course.setting c.args.self.now.view n c.requires.can (subst (λ (o : Passing). Rattle.task_table.specs.Moments.Glance g.C.Course.setting 0 o.view n) c.self.view_is seen)

pub invariant_of-self : goal.invariant_of-self
invariant_of-self g c = noted_pass g.C.Course.setting _ buy c.add-found.result c.self.inside.seat.me.1 c.add-found.new.seat.me c.add-found.ensures.did None refl c.self.invariant refl _ _ _
