use Rattle.core_steps.proofs.Telling.{rules_of}
use Rattle.task_table.proofs.Passing.{seat_viewed}
use Rattle.task_table.proofs.seat.TableSeatKeyWords.rows.Goals as goal

pub returns-clause-rules : goal.returns-clause-rules
returns-clause-rules g c = rules_of (seat_viewed g.C.Course.setting c.args.self.now.pass.view c.is_pass.ensures.seated)
