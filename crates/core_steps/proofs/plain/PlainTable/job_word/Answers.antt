use Rattle.std.proofs.Common.{◌≤◌, length, get_or, ap, sym, subst, ◌∙◌}
use Rattle.core_state.specs.Words.{Shape, place_of, posted}
use Rattle.core_state.specs.Counts.{known_key}
use Rattle.core_state.proofs.Base.Words.{read_at}
use Rattle.core_steps.specs.Table.{view_at}
use Rattle.core_steps.proofs.Inside.{row_inside}
use Rattle.core_steps.proofs.AtPlain.{at_plain}
use Rattle.core_steps.proofs.Few.{posted_few}
use Rattle.core_steps.proofs.TableSteps.{place_within, word_at}
use Rattle.core_steps.proofs.plain.PlainTable.job_word.Goals as goal

pub touched-requires : goal.touched-requires
touched-requires g c = let p = c.args.self.now in let s = c.places-places.ensures.sound in
    place_within g.C.Course.setting p (posted c.args.job c.args.row) _ c.job.result s (row_inside g.C.Course.setting p c.args.row s c.requires.can.low) c.places-places.ensures.shape (c.job.ensures (length p.blocks))

pub returns-clause-word : goal.returns-clause-word
returns-clause-word g c = let p = c.args.self.now in let s = c.places-places.ensures.sound in
    word_at p (posted c.args.job c.args.row) c.touched.result _ c.job.result (place_within g.C.Course.setting p (posted c.args.job c.args.row) _ c.job.result s (row_inside g.C.Course.setting p c.args.row s c.requires.can.low) c.places-places.ensures.shape (c.job.ensures (length p.blocks))) c.places-places.ensures.shape (c.job.ensures (length p.blocks)) c.touched.ensures.place c.touched.ensures.found

pub returns-clause-few : goal.returns-clause-few
returns-clause-few g c = let p = c.args.self.now in let s = c.places-places.ensures.sound in
    subst (λ n. n ≤ 65535) (sym (c.touched.ensures.found ∙ ap (λ m. get_or p.words m 0) (c.job.ensures (length p.blocks) ∙ ap (λ (h : Shape). place_of h (posted c.args.job c.args.row)) c.places-places.ensures.shape)
    ∙ sym (read_at p.shape p.words (posted c.args.job c.args.row) (row_inside g.C.Course.setting p c.args.row s c.requires.can.low))))
    (posted_few (at_plain g.C.Course.setting p c.args.worker c.requires.worker s) c.args.row (known_key c.args.row (view_at p c.args.worker)) c.args.job c.requires.can)
