use Rattle.std.proofs.Common.{◌<◌, length, sym, subst}
use Rattle.std.proofs.lemmas.Bool.{lt-ltb}
use Rattle.core_state.specs.Words.{Shape, turn}
use Rattle.core_steps.proofs.TableSteps.{place_within, word_at}
use Rattle.core_steps.proofs.plain.PlainTable.turn_word.Goals as goal

pub touched-requires : goal.touched-requires
touched-requires g c = let p = c.args.self.now in let s = c.places-places.ensures.sound in
    place_within g.C.Course.setting p (turn c.args.block) _ c.turn.result s (lt-ltb c.args.block p.shape.blocks (subst (λ (h : Shape). c.args.block < h.blocks) (sym s.shape_is) c.requires)) c.places-places.ensures.shape (c.turn.ensures (length p.blocks))

pub returns-clause-word : goal.returns-clause-word
returns-clause-word g c = let p = c.args.self.now in let s = c.places-places.ensures.sound in
    word_at p (turn c.args.block) c.touched.result _ c.turn.result (place_within g.C.Course.setting p (turn c.args.block) _ c.turn.result s (lt-ltb c.args.block p.shape.blocks (subst (λ (h : Shape). c.args.block < h.blocks) (sym s.shape_is) c.requires)) c.places-places.ensures.shape (c.turn.ensures (length p.blocks))) c.places-places.ensures.shape (c.turn.ensures (length p.blocks)) c.touched.ensures.place c.touched.ensures.found
