use Rattle.std.proofs.Common.{◌<◌, ◌^◌, refl, sym, subst, ◌∙◌}
use Rattle.core_state.specs.Words.{pending}
use Rattle.core_state.proofs.Base.Words.{read_at}
use Rattle.core_steps.proofs.AtPlain.{core_at}
use Rattle.core_steps.proofs.Bound.{pending_few}
use Rattle.core_steps.proofs.Sounding.{sums_of}
use Rattle.core_steps.proofs.TableSteps.{place_within, word_at}
use Rattle.core_steps.proofs.plain.PlainTable.pending_word.Goals as goal

pub touched-requires : goal.touched-requires
touched-requires g c = let p = c.args.self.now in place_within g.C.Course.setting p pending p.shape 0 c.rows.ensures.sound refl refl refl

pub returns-clause-word : goal.returns-clause-word
returns-clause-word g c = let p = c.args.self.now in word_at p pending c.touched.result p.shape 0 (place_within g.C.Course.setting p pending p.shape 0 c.rows.ensures.sound refl refl refl) refl refl c.touched.ensures.place c.touched.ensures.found

pub returns-clause-few : goal.returns-clause-few
returns-clause-few g c = let p = c.args.self.now in let s = c.rows.ensures.sound in
    subst (λ n. n < 2 ^ 63) (read_at p.shape p.words pending refl ∙ sym c.touched.ensures.found) (pending_few g.C.Course.setting s.setting (core_at p) (sums_of p) s.holds)
