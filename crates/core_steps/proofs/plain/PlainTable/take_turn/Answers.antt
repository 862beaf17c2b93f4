-- The block is at home where its turn word is 0.
use Rattle.std.proofs.Common.{◌≡◌, ◌<◌, false, sym, ap, subst, ◌∙◌, get_or, length, IfSome}
use Rattle.std.proofs.lemmas.Bool.{lt-ltb}
use Rattle.core_state.specs.Words.{turn}
use Rattle.core_state.specs.declared.block.BlockCells.{BlockCells}
use Rattle.core_steps.proofs.AnyBlock.{turn_one}
use Rattle.core_steps.proofs.AtPlain.{core_at, found_here}
use Rattle.core_steps.proofs.BlocksTaken.{home_good, home_is, home_sized, in_table, sound_taken, taken_step}
use Rattle.core_steps.proofs.plain.PlainTable.take_turn.Goals as goal

pub change_taking-requires-clause-home : goal.change_taking-requires-clause-home
change_taking-requires-clause-home g c = let p = c.args.self.now in let e = g.C.Course.setting in let w = c.turn_word-word.ensures.word in let s = c.turn_word-word.ensures.sound in let n = sym (w.found_is ∙ ap (λ m. get_or p.words m 0) w.at_is) in
    home_is e p c.args.worker c.requires.worker s c.args.block c.requires.can (n ∙ c.if-word-eq0.true)

pub change_taking-requires-clause-sound : goal.change_taking-requires-clause-sound
change_taking-requires-clause-sound g c = let p = c.args.self.now in let e = g.C.Course.setting in let w = c.turn_word-word.ensures.word in let s = c.turn_word-word.ensures.sound in let n = sym (w.found_is ∙ ap (λ m. get_or p.words m 0) w.at_is) in
    sound_taken e p c.args.worker c.requires.worker s c.args.block c.requires.can (n ∙ c.if-word-eq0.true)

pub returns-then-word-eq0-clause-cells : goal.returns-then-word-eq0-clause-cells
returns-then-word-eq0-clause-cells g c = let p = c.args.self.now in let e = g.C.Course.setting in let w = c.turn_word-word.ensures.word in let s = c.turn_word-word.ensures.sound in let n = sym (w.found_is ∙ ap (λ m. get_or p.words m 0) w.at_is) in
    subst (λ y. IfSome y (λ (x : BlockCells). length x.cells ≡ e.graph.cells c.args.block)) (sym c.change_taking.ensures.taken) (home_sized e p c.args.worker c.requires.worker s c.args.block c.requires.can (n ∙ c.if-word-eq0.true))

pub returns-then-word-eq0-clause-value : goal.returns-then-word-eq0-clause-value
returns-then-word-eq0-clause-value g c = let p = c.args.self.now in let e = g.C.Course.setting in let w = c.turn_word-word.ensures.word in let s = c.turn_word-word.ensures.sound in let n = sym (w.found_is ∙ ap (λ m. get_or p.words m 0) w.at_is) in
    subst (λ y. IfSome y (λ (x : BlockCells). x.struck ≡ false → 0 < x.tag → x.cells ≡ e.graph.value (e.graph.writer c.args.block x.tag))) (sym c.change_taking.ensures.taken) (home_good e p c.args.worker c.requires.worker s c.args.block c.requires.can (n ∙ c.if-word-eq0.true))

pub returns-then-word-eq0-clause-step : goal.returns-then-word-eq0-clause-step
returns-then-word-eq0-clause-step g c = let p = c.args.self.now in let e = g.C.Course.setting in let w = c.turn_word-word.ensures.word in let s = c.turn_word-word.ensures.sound in let n = sym (w.found_is ∙ ap (λ m. get_or p.words m 0) w.at_is) in
    rw (c.change_taking.ensures.taken, c.change_taking.ensures.table) (taken_step e p c.args.worker c.requires.worker s c.args.block c.requires.can c.turn_word-word.result w c.if-word-eq0.true (sound_taken e p c.args.worker c.requires.worker s c.args.block c.requires.can (n ∙ c.if-word-eq0.true)))

pub returns-clause-tells : goal.returns-clause-tells
returns-clause-tells g c = let p = c.args.self.now in let e = g.C.Course.setting in let s = c.turn_word-word.ensures.sound in
    let is = found_here p (turn c.args.block) c.turn_word-word.result (lt-ltb c.args.block p.shape.blocks (in_table e p c.args.worker c.requires.worker s c.args.block c.requires.can)) c.turn_word-word.ensures.word in
    is ∙ turn_one e (core_at p) s.holds c.args.block c.requires.can.low (λ z. c.if-word-eq0.false (is ∙ z))
