use Rattle.std.proofs.Common.{refl, sym, subst, ◌∙◌}
use Rattle.core_state.specs.Counts.{known_key}
use Rattle.core_state.specs.Guards.{CanElect}
use Rattle.core_state.specs.Outcome.{elected_entries}
use Rattle.core_steps.specs.Serving.{work_waits}
use Rattle.core_steps.specs.declared.kinds.Kind.TheVariants.{Elect}
use Rattle.task_table.proofs.Counting.{elect_leaves, recovery_found}
use Rattle.task_table.specs.Passes.{Passing}
use Rattle.task_table.proofs.Passing.{did_by, noted_by, ready_by, room_by}
use Rattle.task_table.proofs.pass.Pass.elect.Goals as goal

pub standing_number-stands-requires : goal.standing_number-stands-requires
standing_number-stands-requires g c = record { can = subst (λ (o : Passing). CanElect g.C.Course.setting o.view c.args.row (known_key c.args.row o.view) c.args.life c.args.cause (work_waits o.view)) (sym c.key_of-key.ensures.same) c.requires.can }

pub exchange-found-requires-clause-ready : goal.exchange-found-requires-clause-ready
exchange-found-requires-clause-ready g c = ready_by g.C.Course.setting _ _ (c.self.view_is ∙ c.key_of-key.ensures.same) (Elect c.args.row c.args.life c.args.cause) _ c.args.table.now _ c.words.ensures.table c.words.ensures.wide c.self.invariant.1 c.requires.can c.recovery_place-at.ensures

pub exchange-found-requires-clause-leaves : goal.exchange-found-requires-clause-leaves
exchange-found-requires-clause-leaves g c n = elect_leaves c.args.life c.standing_number-stands.result n c.standing_number-stands.ensures.number

pub of_word-told-requires-clause-word : goal.of_word-told-requires-clause-word
of_word-told-requires-clause-word g c = recovery_found g.C.Course.setting c.self.inside.seat.me.0 _ c.args.row c.args.life c.args.cause c.exchange-found.result c.exchange-found.ensures.did.moment
    (subst (λ (o : Passing). CanElect g.C.Course.setting o.view c.args.row (known_key c.args.row o.view) c.args.life c.args.cause (work_waits o.view)) (sym (c.self.view_is ∙ c.key_of-key.ensures.same)) c.requires.can)

pub invariant_of-self : goal.invariant_of-self
invariant_of-self g c = noted_by g.C.Course.setting _ c.args.self.now (c.self.view_is ∙ c.key_of-key.ensures.same) (Elect c.args.row c.args.life c.args.cause) c.exchange-found.result c.self.inside.seat.me.1 c.exchange-found.new.seat.me c.exchange-found.ensures.did c.self.invariant refl _
    ((λ j. elected_entries (sym c.key_of-key.ensures.key j) c.args.life c.args.cause (sym c.of_word-told.ensures j)) ∙ c.elected_entry.ensures) c.keep.new.store c.keep.new.root_replaced.items c.keep.ensures.store c.keep.ensures.list _ _ _

pub returns-clause-step : goal.returns-clause-step
returns-clause-step g c = did_by g.C.Course.setting _ c.args.self.now (c.self.view_is ∙ c.key_of-key.ensures.same) (Elect c.args.row c.args.life c.args.cause) c.exchange-found.result c.self.inside.seat.me.1 c.exchange-found.new.seat.me c.exchange-found.ensures.did c.recovery_place-at.result _ c.requires.can c.recovery_place-at.ensures refl c.exchange-found.ensures.same.0 c.exchange-found.ensures.same.1

pub returns-clause-room : goal.returns-clause-room
returns-clause-room g c = room_by _ _ (c.self.view_is ∙ c.key_of-key.ensures.same) c.elected_entry.result c.keep.new.store _ c.keep.ensures.store c.keep.ensures.room
