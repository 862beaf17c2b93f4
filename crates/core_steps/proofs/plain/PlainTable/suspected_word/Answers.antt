use Rattle.std.proofs.Common.{ℕ, ◌<◌, ◌^◌, sym, subst}
use Rattle.core_state.specs.Counts.{known_key}
use Rattle.core_state.specs.Words.{recovery}
use Rattle.core_steps.specs.Serving.{work_waits}
use Rattle.core_steps.specs.Table.{view_at}
use Rattle.core_steps.proofs.AtPlain.{at_plain, found_here}
use Rattle.core_steps.proofs.Inside.{row_inside}
use Rattle.core_steps.proofs.Numbers.{elect_life, recovery_few}
use Rattle.core_steps.proofs.plain.PlainTable.suspected_word.Goals as goal

pub returns-clause-few : goal.returns-clause-few
returns-clause-few g c = let p = c.args.self.now in let k : ℕ = known_key c.args.row (view_at p c.args.worker) in let s = c.recovery_word.ensures.sound in
    subst (λ n. n < 2 ^ 17) (sym (found_here p (recovery c.args.row) c.recovery_word.result (row_inside g.C.Course.setting p c.args.row s c.requires.can.row.low) c.recovery_word.ensures.word)) (recovery_few (at_plain g.C.Course.setting p c.args.worker c.requires.worker s) c.args.row k c.requires.can.row)

pub returns-clause-life : goal.returns-clause-life
returns-clause-life g c = let p = c.args.self.now in let k : ℕ = known_key c.args.row (view_at p c.args.worker) in elect_life (at_plain g.C.Course.setting p c.args.worker c.requires.worker c.recovery_word.ensures.sound) c.args.row k c.args.life c.args.cause (work_waits (view_at p c.args.worker)) c.requires.can
