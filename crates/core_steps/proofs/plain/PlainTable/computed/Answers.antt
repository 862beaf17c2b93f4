use Rattle.std.proofs.Common.{refl, Some}
use Rattle.graph_model.specs.declared.record.Record.TheVariants as record_of
use Rattle.core_steps.proofs.Resulting.{sound_computed}
use Rattle.core_steps.proofs.plain.PlainTable.computed.Goals as goal

pub note_computed-requires-clause-sound : goal.note_computed-requires-clause-sound
note_computed-requires-clause-sound g c = sound_computed g.C.Course.setting c.args.self.now c.args.worker c.requires.worker c.rows.ensures.sound c.args.key.0 c.args.life c.requires.can (Some (record_of.Computed c.args.key c.args.life)) refl

pub returns-clause-sound : goal.returns-clause-sound
returns-clause-sound g c = rw (c.note_computed.ensures.table) (sound_computed g.C.Course.setting c.args.self.now c.args.worker c.requires.worker c.rows.ensures.sound c.args.key.0 c.args.life c.requires.can (Some (record_of.Computed c.args.key c.args.life)) refl)
