use Rattle.std.proofs.Common.{◌+◌, ◌<◌, ◌^◌, arith, ap, sym, ◌∙◌, subst}
use Rattle.core_state.specs.Counts.{known_key}
use Rattle.core_state.specs.Words.{recovery, standing_life}
use Rattle.core_steps.specs.Serving.{work_life}
use Rattle.core_steps.specs.Table.{view_at}
use Rattle.core_steps.proofs.AtPlain.{at_plain, found_here}
use Rattle.core_steps.proofs.Inside.{row_inside}
use Rattle.core_steps.proofs.Numbers.{renewed_life}
use Rattle.core_steps.proofs.plain.PlainTable.next_life.Goals as goal

pub returns-clause-life : goal.returns-clause-life
returns-clause-life g c = let p = c.args.self.now in let s = c.recovery_word.ensures.sound in let at = found_here p (recovery c.args.row) c.recovery_word.result (row_inside g.C.Course.setting p c.args.row s c.requires.renews.row.low) c.recovery_word.ensures.word in
    let read = renewed_life (at_plain g.C.Course.setting p c.args.worker c.requires.worker s) c.args.row (known_key c.args.row (view_at p c.args.worker)) (work_life (view_at p c.args.worker)) c.requires.renews in
    ap (λ n. n + 1) (c.of_word.ensures.life (subst (λ n. n < 2 ^ 17) (sym at) read.2) ∙ ap standing_life at ∙ read.0)

pub returns-clause-few : goal.returns-clause-few
returns-clause-few g c = let p = c.args.self.now in let s = c.recovery_word.ensures.sound in let at = found_here p (recovery c.args.row) c.recovery_word.result (row_inside g.C.Course.setting p c.args.row s c.requires.renews.row.low) c.recovery_word.ensures.word in
    let read = renewed_life (at_plain g.C.Course.setting p c.args.worker c.requires.worker s) c.args.row (known_key c.args.row (view_at p c.args.worker)) (work_life (view_at p c.args.worker)) c.requires.renews in
    let life = c.of_word.ensures.life (subst (λ n. n < 2 ^ 17) (sym at) read.2) ∙ ap standing_life at ∙ read.0 in let less = read.1 in omega (arith, life, less)
