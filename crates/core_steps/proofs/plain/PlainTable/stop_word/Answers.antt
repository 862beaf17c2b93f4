use Rattle.std.proofs.Common.{refl}
use Rattle.core_state.specs.Words.{stop}
use Rattle.core_steps.proofs.TableSteps.{place_within, word_at}
use Rattle.core_steps.proofs.plain.PlainTable.stop_word.Goals as goal

pub touched-requires : goal.touched-requires
touched-requires g c = let p = c.args.self.now in place_within g.C.Course.setting p stop p.shape 1 c.rows.ensures.sound refl refl refl

pub returns-clause-word : goal.returns-clause-word
returns-clause-word g c = let p = c.args.self.now in word_at p stop c.touched.result p.shape 1 (place_within g.C.Course.setting p stop p.shape 1 c.rows.ensures.sound refl refl refl) refl refl c.touched.ensures.place c.touched.ensures.found
