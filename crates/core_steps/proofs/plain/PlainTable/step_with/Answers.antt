use Rattle.std.proofs.Common.{ap, refl, set}
use Rattle.core_steps.specs.Kinds.{event_of}
use Rattle.core_steps.specs.Table.{view_at}
use Rattle.core_steps.proofs.Sounding.{sound_touched}
use Rattle.core_steps.proofs.TableSteps.{table_step}
use Rattle.core_steps.proofs.plain.PlainTable.step_with.Goals as goal

pub change_with-requires-clause-sound : goal.change_with-requires-clause-sound
change_with-requires-clause-sound g c = sound_touched g.C.Course.setting c.args.self.now c.args.worker c.requires.worker c.rows.ensures.sound c.args.kind c.args.word c.args.left c.requires.can c.requires.word c.requires.left c.requires.calm c.args.entry c.requires.entry

pub returns-clause-step : goal.returns-clause-step
returns-clause-step g c = let p = c.args.self.now in let e = g.C.Course.setting in let w = c.args.word in rw (c.change_with.ensures.table)
    (table_step e c.args.worker (event_of (view_at p c.args.worker) c.args.kind) w p _ c.requires.worker c.requires.can c.requires.word c.rows.ensures.sound
    (sound_touched e p c.args.worker c.requires.worker c.rows.ensures.sound c.args.kind w c.args.left c.requires.can c.requires.word c.requires.left c.requires.calm c.args.entry c.requires.entry) (ap (set p.words w.at) c.requires.left) refl)
