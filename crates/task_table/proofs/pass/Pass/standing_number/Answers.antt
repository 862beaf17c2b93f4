use Rattle.core_state.specs.Counts.{known_key}
use Rattle.core_steps.specs.Serving.{work_waits}
use Rattle.core_steps.proofs.Numbers.{elect_life}
use Rattle.task_table.proofs.Passing.{seat_viewed}
use Rattle.task_table.proofs.pass.Pass.standing_number.Goals as goal

pub overflow_sub-life : goal.overflow_sub-life
overflow_sub-life g c = let v = c.args.self.now.view in (elect_life (seat_viewed g.C.Course.setting v c.is_pass.ensures.seated) c.args.row (known_key c.args.row v) c.args.life c.args.cause (work_waits v) c.requires.can).0

pub returns-clause-life : goal.returns-clause-life
returns-clause-life g c = let v = c.args.self.now.view in elect_life (seat_viewed g.C.Course.setting v c.is_pass.ensures.seated) c.args.row (known_key c.args.row v) c.args.life c.args.cause (work_waits v) c.requires.can
