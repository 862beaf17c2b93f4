use Rattle.std.proofs.Common.{arith, subst, sym}
use Rattle.core_state.specs.Asked.{IsGraphOf}
use Rattle.compute_notify.proofs.Computing.Needs.{wide_all, wide_more}
use Rattle.compute_notify.proofs.scratch.Need.widest.Goals as goal

pub loop-i-preserved : goal.loop-i-preserved
loop-i-preserved g c = λ outcome r is. wide_more _ r c.loop-i.i c.task.result.0 c.loop-i.need c.in_ok-of.field-0 c.or-need.result (c.loop-i.invariant outcome r is) c.task.ensures (c.in_ok-of.ensures outcome r (subst (λ h. IsGraphOf (g.G.TaskGraph.graph h) outcome r) (sym c.of-rooted.ensures) is)) c.or-need.ensures

pub returns : goal.returns
returns g c = λ outcome r is. wide_all _ r c.loop-i.i c.loop-i.need (c.loop-i.invariant outcome r is) (let past = c.loop-i-test.false in let all = c.task_count-i-end.ensures in let high = c.loop-i.auto.i-end in omega (arith, past, all, high))
