use Rattle.core_steps.proofs.AtPlain.{at_plain}
use Rattle.core_steps.proofs.Telling.{rules_of}
use Rattle.core_steps.proofs.seat.PlainSeatKeyWords.rows.Goals as goal

pub returns-clause-rules : goal.returns-clause-rules
returns-clause-rules g c = rules_of (at_plain g.C.Course.setting c.args.self.now.table.now c.args.self.now.worker c.args.self.now.inside c.rows.ensures.sound)
