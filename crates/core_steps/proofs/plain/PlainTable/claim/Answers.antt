use Rattle.core_steps.proofs.AnyCore.{claimed_small}
use Rattle.core_steps.proofs.AtPlain.{at_plain}
use Rattle.core_steps.proofs.plain.PlainTable.claim.Goals as goal

pub overflow_add-key : goal.overflow_add-key
overflow_add-key g c = record { fits = claimed_small (at_plain g.C.Course.setting c.args.self.now c.args.worker c.requires.worker c.key_word-word.ensures.sound) c.args.row c.args.key.0 c.requires.can }
