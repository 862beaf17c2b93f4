use Rattle.std.proofs.Common.{ap, sym, ◌∙◌, get_or}
use Rattle.core_state.specs.Outcome.{entries}
use Rattle.core_steps.specs.Kinds.{block_event}
use Rattle.core_steps.specs.Table.{view_at}
use Rattle.core_steps.proofs.BlocksGiven.{given_step, sound_given}
use Rattle.core_steps.proofs.plain.PlainTable.step_giving.Goals as goal

pub change_giving-requires-clause-sound : goal.change_giving-requires-clause-sound
change_giving-requires-clause-sound g c = let p = c.args.self.now in let e = g.C.Course.setting in let s = c.rows.ensures.sound in let w = c.requires.word in let n = w.found_is ∙ ap (λ m. get_or p.words m 0) w.at_is in
    let sound = sound_given e p c.args.worker c.requires.worker s c.args.kind c.args.block c.args.cells c.args.entry c.requires.gives c.requires.can (ap (entries e (block_event (view_at p c.args.worker) c.args.kind c.args.block c.args.cells)) (sym n) ∙ c.requires.entry) in
    sound

pub returns-clause-step : goal.returns-clause-step
returns-clause-step g c = let p = c.args.self.now in let e = g.C.Course.setting in let s = c.rows.ensures.sound in let w = c.requires.word in let n = w.found_is ∙ ap (λ m. get_or p.words m 0) w.at_is in
    let sound = sound_given e p c.args.worker c.requires.worker s c.args.kind c.args.block c.args.cells c.args.entry c.requires.gives c.requires.can (ap (entries e (block_event (view_at p c.args.worker) c.args.kind c.args.block c.args.cells)) (sym n) ∙ c.requires.entry) in
    rw (c.change_giving.ensures.table) (given_step e p c.args.worker c.args.kind c.args.block c.args.cells c.args.entry c.args.word c.requires.gives c.requires.worker c.requires.can w s sound)
