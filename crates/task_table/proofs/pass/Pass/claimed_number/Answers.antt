use Rattle.core_steps.proofs.AnyCore.{claimed_small}
use Rattle.task_table.proofs.Passing.{seat_viewed}
use Rattle.task_table.proofs.pass.Pass.claimed_number.Goals as goal

pub overflow_add-result : goal.overflow_add-result
overflow_add-result g c = record { fits = claimed_small (seat_viewed g.C.Course.setting c.args.self.now.view c.is_pass.ensures.seated) c.args.row c.args.key.0 c.requires.can }
