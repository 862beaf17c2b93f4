use Rattle.std.proofs.Common.{◌≡◌, ◌∙◌, ap, sym, subst, arith}
use Rattle.core_state.specs.Guards.{AtWork}
use Rattle.core_state.specs.declared.job.Job.TheVariants.{Explore}
use Rattle.core_state.specs.declared.views.Item.TheVariants as item
use Rattle.core_steps.specs.Seat.{known_of}
use Rattle.core_steps.specs.Table.{view_at}
use Rattle.core_steps.proofs.Others.{seated}
use Rattle.core_steps.proofs.Working.{bought_can_post}
use Rattle.core_tests.specs.OneTask.{one_task}
use Rattle.core_tests.proofs.one_task.post_job.Goals as goal

pub post-requires-clause-can : goal.post-requires-clause-can
post-requires-clause-can g c =
    let seat = c.seat-seat.ensures in
    let owes = c.requires.owes in
    let opens : view_at c.reserve.new.self.table.now c.reserve.new.self.worker ≡ view_at c.args.table.now 0 = c.reserve.ensures.view ∙ seated c.args.table.now _ _ _ seat.table seat.worker in
    bought_can_post one_task _ _ 1 1 1 0 Explore (omega arith) (ap (λ v. known_of v 1) opens ∙ owes.row) (subst (λ v. AtWork v (item.Owe 1 Explore 1)) (sym opens) owes.at_work) c.buy.ensures.step.view_is
