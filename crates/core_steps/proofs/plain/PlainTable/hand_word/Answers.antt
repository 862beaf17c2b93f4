use Rattle.std.proofs.Common.{length}
use Rattle.std.proofs.lemmas.Bool.{lt-ltb}
use Rattle.core_state.specs.Words.{turn}
use Rattle.core_steps.proofs.Inside.{held_low}
use Rattle.core_steps.proofs.TableSteps.{place_within, word_at}
use Rattle.core_steps.proofs.plain.PlainTable.hand_word.Goals as goal

pub touched-requires : goal.touched-requires
touched-requires g c = let p = c.args.self.now in let s = c.places-places.ensures.sound in
    place_within g.C.Course.setting p (turn c.args.block) _ c.turn.result s (lt-ltb c.args.block p.shape.blocks (held_low g.C.Course.setting p c.args.worker c.args.block c.requires.worker s c.requires.hand)) c.places-places.ensures.shape (c.turn.ensures (length p.blocks))

pub returns-clause-word : goal.returns-clause-word
returns-clause-word g c = let p = c.args.self.now in let s = c.places-places.ensures.sound in
    word_at p (turn c.args.block) c.touched.result _ c.turn.result (place_within g.C.Course.setting p (turn c.args.block) _ c.turn.result s (lt-ltb c.args.block p.shape.blocks (held_low g.C.Course.setting p c.args.worker c.args.block c.requires.worker s c.requires.hand)) c.places-places.ensures.shape (c.turn.ensures (length p.blocks))) c.places-places.ensures.shape (c.turn.ensures (length p.blocks)) c.touched.ensures.place c.touched.ensures.found

pub returns-clause-low : goal.returns-clause-low
returns-clause-low g c = held_low g.C.Course.setting c.args.self.now c.args.worker c.args.block c.requires.worker c.places-places.ensures.sound c.requires.hand
