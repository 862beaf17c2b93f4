use Rattle.std.proofs.Common.{ap, refl}
use Rattle.std.proofs.Common.{Some, None}
use Rattle.core_state.specs.Effects.{claim_of}
use Rattle.core_state.specs.Outcome.{claimed_entries}
use Rattle.graph_model.specs.declared.record.Record.TheVariants as record_of
use Rattle.core_steps.specs.declared.kinds.Kind.TheVariants.{Claim}
use Rattle.task_table.proofs.Counting.{none_claimed}
use Rattle.task_table.proofs.Passing.{did_by, noted_by, ready_by, room_by}
use Rattle.task_table.proofs.pass.Pass.claim.Goals as goal

pub exchange-found-requires-clause-ready : goal.exchange-found-requires-clause-ready
exchange-found-requires-clause-ready g c = ready_by g.C.Course.setting _ _ c.self.view_is (Claim c.args.row c.args.key.0) _ c.args.table.now _ c.words.ensures.table c.words.ensures.wide c.self.invariant.1 c.requires.can c.key_place-at.ensures

pub invariant_of-self : goal.invariant_of-self
invariant_of-self g c = noted_by g.C.Course.setting _ c.args.self.now c.self.view_is (Claim c.args.row c.args.key.0) c.exchange-found.result c.self.inside.seat.me.1 c.exchange-found.new.seat.me c.exchange-found.ensures.did c.self.invariant refl (Some (record_of.Created c.args.key)) (ap (λ n. claimed_entries c.args.key.0 (claim_of c.args.key.0 n)) c.if-found-eq0.true) c.keep.new.store c.keep.new.root_replaced.items c.keep.ensures.store c.keep.ensures.list _ _ _

pub returns-then-found-eq0-clause-step : goal.returns-then-found-eq0-clause-step
returns-then-found-eq0-clause-step g c = did_by g.C.Course.setting _ c.args.self.now c.self.view_is (Claim c.args.row c.args.key.0) c.exchange-found.result c.self.inside.seat.me.1 c.exchange-found.new.seat.me c.exchange-found.ensures.did c.key_place-at.result _ c.requires.can c.key_place-at.ensures refl c.exchange-found.ensures.same.0 c.exchange-found.ensures.same.1

pub returns-then-found-eq0-clause-room : goal.returns-then-found-eq0-clause-room
returns-then-found-eq0-clause-room g c = room_by _ _ c.self.view_is (Some (record_of.Created c.args.key)) c.keep.new.store _ c.keep.ensures.store c.keep.ensures.room

pub invariant_of-self-else-found-eq0 : goal.invariant_of-self-else-found-eq0
invariant_of-self-else-found-eq0 g c = noted_by g.C.Course.setting _ c.args.self.now c.self.view_is (Claim c.args.row c.args.key.0) c.exchange-found.result c.self.inside.seat.me.1 c.exchange-found.new.seat.me c.exchange-found.ensures.did c.self.invariant refl None (none_claimed c.args.key.0 c.exchange-found.result c.if-found-eq0.false) c.self.inside.store c.self.inside.root_replaced.items refl refl _ _ _

pub returns-then-eq-clause-step : goal.returns-then-eq-clause-step
returns-then-eq-clause-step g c = did_by g.C.Course.setting _ c.args.self.now c.self.view_is (Claim c.args.row c.args.key.0) c.exchange-found.result c.self.inside.seat.me.1 c.exchange-found.new.seat.me c.exchange-found.ensures.did c.key_place-at.result _ c.requires.can c.key_place-at.ensures refl c.exchange-found.ensures.same.0 c.exchange-found.ensures.same.1

pub returns-else-eq-clause-step : goal.returns-else-eq-clause-step
returns-else-eq-clause-step g c = did_by g.C.Course.setting _ c.args.self.now c.self.view_is (Claim c.args.row c.args.key.0) c.exchange-found.result c.self.inside.seat.me.1 c.exchange-found.new.seat.me c.exchange-found.ensures.did c.key_place-at.result _ c.requires.can c.key_place-at.ensures refl c.exchange-found.ensures.same.0 c.exchange-found.ensures.same.1
