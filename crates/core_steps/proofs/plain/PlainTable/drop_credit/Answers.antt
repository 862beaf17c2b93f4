use Rattle.std.proofs.Common.{refl, arith}
use Rattle.core_state.specs.Words.{pending}
use Rattle.core_steps.proofs.AtPlain.{at_plain, found_here}
use Rattle.core_steps.proofs.Few.{some_credit}
use Rattle.core_steps.proofs.plain.PlainTable.drop_credit.Goals as goal

pub overflow_sub-word : goal.overflow_sub-word
overflow_sub-word g c = let p = c.args.self.now in let a = found_here p pending c.pending_word-word.result refl c.pending_word-word.ensures.word in
    let b = some_credit (at_plain g.C.Course.setting p c.args.worker c.requires.worker c.pending_word-word.ensures.sound) c.requires.can in omega (arith, a, b)
