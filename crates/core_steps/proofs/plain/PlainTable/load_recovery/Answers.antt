use Rattle.std.proofs.Common.{ℕ, ◌<◌, ◌^◌, sym, subst}
use Rattle.core_state.specs.Counts.{known_key}
use Rattle.core_state.specs.Words.{recovery}
use Rattle.core_steps.specs.Table.{view_at}
use Rattle.core_steps.proofs.AtPlain.{at_plain, found_here}
use Rattle.core_steps.proofs.Inside.{row_inside}
use Rattle.core_steps.proofs.Numbers.{recovery_few}
use Rattle.core_steps.proofs.plain.PlainTable.load_recovery.Goals as goal

pub returns-clause-life : goal.returns-clause-life
returns-clause-life g c = let p = c.args.self.now in let k : ℕ = known_key c.args.row (view_at p c.args.worker) in let s = c.recovery_word-word.ensures.sound in
    c.of_word.ensures.life (subst (λ n. n < 2 ^ 17) (sym (found_here p (recovery c.args.row) c.recovery_word-word.result (row_inside g.C.Course.setting p c.args.row s c.requires.can.low) c.recovery_word-word.ensures.word)) (recovery_few (at_plain g.C.Course.setting p c.args.worker c.requires.worker s) c.args.row k c.requires.can))
