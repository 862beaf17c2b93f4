use Rattle.std.proofs.Common.{ap, refl, sym, subst, ◌∙◌}
use Rattle.core_state.specs.Counts.{known_key}
use Rattle.core_state.specs.Effects.{closing_of}
use Rattle.core_state.specs.Events.Event.{close}
use Rattle.core_state.specs.Guards.{CanClose}
use Rattle.core_state.specs.Outcome.{closed_entries}
use Rattle.core_state.specs.Packed.{notify_word}
use Rattle.core_steps.specs.declared.kinds.Kind.TheVariants.{Close}
use Rattle.task_table.proofs.Counting.{close_leaves}
use Rattle.task_table.specs.Passes.{Passing}
use Rattle.task_table.proofs.Passing.{as_event, did_by, noted_by, ready_by, room_by}
use Rattle.task_table.proofs.pass.Pass.close_word.Goals as goal

pub seen_number-seen-requires-clause-can : goal.seen_number-seen-requires-clause-can
seen_number-seen-requires-clause-can g c = subst (λ (o : Passing). CanClose g.C.Course.setting o.view c.args.row (known_key c.args.row o.view) c.args.life c.args.word (notify_word c.args.seen)) (sym c.key_of-key.ensures.same) c.requires.can

pub exchange-found-requires-clause-ready : goal.exchange-found-requires-clause-ready
exchange-found-requires-clause-ready g c = ready_by g.C.Course.setting _ _ (c.self.view_is ∙ c.key_of-key.ensures.same) (Close c.args.row c.args.life c.args.word c.seen_number-seen.result) _ c.args.table.now _ c.words.ensures.table c.words.ensures.wide c.self.invariant.1 (subst (CanClose g.C.Course.setting c.args.self.now.view c.args.row (known_key c.args.row c.args.self.now.view) c.args.life c.args.word) (sym c.seen_number-seen.ensures) c.requires.can) c.notify_place-at.ensures.place

pub exchange-found-requires-clause-leaves : goal.exchange-found-requires-clause-leaves
exchange-found-requires-clause-leaves g c n = close_leaves c.seen_number-seen.result c.closing_bit.result n c.closing_bit.ensures

pub invariant_of-self : goal.invariant_of-self
invariant_of-self g c = noted_by g.C.Course.setting _ c.args.self.now (c.self.view_is ∙ c.key_of-key.ensures.same) (Close c.args.row c.args.life c.args.word c.seen_number-seen.result) c.exchange-found.result c.self.inside.seat.me.1 c.exchange-found.new.seat.me c.exchange-found.ensures.did c.self.invariant refl _
    ((λ j. closed_entries (sym c.key_of-key.ensures.key j) c.args.life c.args.word (sym c.of_words-told.ensures j)) ∙ c.closed_entry.ensures) c.keep.new.store c.keep.new.root_replaced.items c.keep.ensures.store c.keep.ensures.list _ _ _

pub returns-clause-step : goal.returns-clause-step
returns-clause-step g c = as_event (ap (close c.args.row (known_key c.args.row c.args.self.now.view) c.args.life c.args.word) c.seen_number-seen.ensures)
    (did_by g.C.Course.setting _ c.args.self.now (c.self.view_is ∙ c.key_of-key.ensures.same) (Close c.args.row c.args.life c.args.word c.seen_number-seen.result) c.exchange-found.result c.self.inside.seat.me.1 c.exchange-found.new.seat.me c.exchange-found.ensures.did c.notify_place-at.result _ (subst (CanClose g.C.Course.setting c.args.self.now.view c.args.row (known_key c.args.row c.args.self.now.view) c.args.life c.args.word) (sym c.seen_number-seen.ensures) c.requires.can) c.notify_place-at.ensures.place refl c.exchange-found.ensures.same.0 c.exchange-found.ensures.same.1)

pub returns-clause-told : goal.returns-clause-told
returns-clause-told g c = c.of_words-told.ensures ∙ ap (λ m. closing_of c.args.life m c.exchange-found.result) c.seen_number-seen.ensures

pub returns-clause-room : goal.returns-clause-room
returns-clause-room g c = room_by _ _ (c.self.view_is ∙ c.key_of-key.ensures.same) c.closed_entry.result c.keep.new.store _ c.keep.ensures.store c.keep.ensures.room
