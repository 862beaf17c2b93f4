use Rattle.std.proofs.Common.{ap, refl, sym, subst, ◌∙◌}
use Rattle.core_state.specs.Counts.{known_key}
use Rattle.core_state.specs.Effects.{told_of}
use Rattle.core_state.specs.Guards.{CanSpend}
use Rattle.core_state.specs.Outcome.{told_entries}
use Rattle.core_steps.specs.declared.kinds.Kind.TheVariants.{Spend}
use Rattle.task_table.specs.Passes.{Passing}
use Rattle.task_table.proofs.Passing.{did_by, noted_by, ready_by, room_by}
use Rattle.task_table.proofs.pass.Pass.spend.Goals as goal

pub place_bit-bit-requires-clause-can : goal.place_bit-bit-requires-clause-can
place_bit-bit-requires-clause-can g c = subst (λ (o : Passing). CanSpend g.C.Course.setting o.view c.args.row (known_key c.args.row o.view) c.args.place) (sym c.key_of-key.ensures.same) c.requires.can

pub or-found-requires-clause-ready : goal.or-found-requires-clause-ready
or-found-requires-clause-ready g c = ready_by g.C.Course.setting _ _ (c.self.view_is ∙ c.key_of-key.ensures.same) (Spend c.args.row c.args.place) _ c.args.table.now _ c.words.ensures.table c.words.ensures.wide c.self.invariant.1 c.requires.can c.descriptor_place-at.ensures

pub invariant_of-self : goal.invariant_of-self
invariant_of-self g c = noted_by g.C.Course.setting _ c.args.self.now (c.self.view_is ∙ c.key_of-key.ensures.same) (Spend c.args.row c.args.place) c.or-found.result c.self.inside.seat.me.1 c.or-found.new.seat.me c.or-found.ensures.did c.self.invariant refl _ ((λ j. told_entries (sym c.key_of-key.ensures.key j) c.args.place (sym (c.of_word-told.ensures ∙ ap (λ m. told_of m c.args.place c.or-found.result) c.requires.preds) j)) ∙ c.spent_entry.ensures) c.keep.new.store c.keep.new.root_replaced.items c.keep.ensures.store c.keep.ensures.list _ _ _

pub returns-clause-step : goal.returns-clause-step
returns-clause-step g c = did_by g.C.Course.setting _ c.args.self.now (c.self.view_is ∙ c.key_of-key.ensures.same) (Spend c.args.row c.args.place) c.or-found.result c.self.inside.seat.me.1 c.or-found.new.seat.me c.or-found.ensures.did c.descriptor_place-at.result _ c.requires.can c.descriptor_place-at.ensures refl c.or-found.ensures.same.0 c.or-found.ensures.same.1

pub returns-clause-room : goal.returns-clause-room
returns-clause-room g c = room_by _ _ (c.self.view_is ∙ c.key_of-key.ensures.same) c.spent_entry.result c.keep.new.store _ c.keep.ensures.store c.keep.ensures.room
