use Rattle.std.proofs.Common.{None, refl, subst}
use Rattle.core_state.specs.Events.Event.{drop_credit}
use Rattle.task_table.specs.Passes.{Passing}
use Rattle.task_table.proofs.Counting.{drop_credit_leaves}
use Rattle.task_table.proofs.Passing.{noted_pass, step_by}
use Rattle.task_table.proofs.pass.Pass.drop_credit.Goals as goal

pub sub-found-requires-clause-leaves : goal.sub-found-requires-clause-leaves
sub-found-requires-clause-leaves g c n seen = drop_credit_leaves g.C.Course.setting c.args.self.now.view n c.requires.can (subst (λ (o : Passing). Rattle.task_table.specs.Moments.Glance g.C.Course.setting 0 o.view n) c.self.view_is seen)

pub invariant_of-self : goal.invariant_of-self
invariant_of-self g c = noted_pass g.C.Course.setting _ drop_credit c.sub-found.result c.self.inside.seat.me.1 c.sub-found.new.seat.me c.sub-found.ensures.did None refl c.self.invariant refl _ _ _

pub returns-clause-step : goal.returns-clause-step
returns-clause-step g c = let o = c.sub-found.ensures in step_by g.C.Course.setting drop_credit _ _ _ _ c.self.view_is c.requires.can refl o.did.view_is o.did.moment o.same.0 o.same.1
