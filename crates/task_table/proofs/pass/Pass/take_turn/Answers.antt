use Rattle.std.proofs.Common.{◌≡◌, ap, ne_eqb, refl, sym, ◌∙◌, None}
use Rattle.core_steps.specs.declared.kinds.Kind.TheVariants.{RefuseTurn}
use Rattle.task_table.specs.Moments.{first_block}
use Rattle.task_table.proofs.Handing.{lies_first, taken_pass, taken_step}
use Rattle.task_table.proofs.Passing.{did_by, noted_by}
use Rattle.task_table.proofs.pass.Pass.take_turn.Goals as goal

pub invariant_of-self : goal.invariant_of-self
invariant_of-self g c = let ne = c.if-found-ne0.true in noted_by g.C.Course.setting _ c.args.self.now c.self.view_is (RefuseTurn c.args.block) c.take-found.result c.self.inside.seat.me.1 c.take-found.new.seat.me (c.take-found.ensures.took.refused ne).1 c.self.invariant
    (ne_eqb c.take-found.result 0 ne) None refl c.self.inside.store c.self.inside.root_replaced.items refl refl _ _ _

pub returns-then-found-ne0-clause-step : goal.returns-then-found-ne0-clause-step
returns-then-found-ne0-clause-step g c = let ne = c.if-found-ne0.true in did_by g.C.Course.setting _ c.args.self.now c.self.view_is (RefuseTurn c.args.block) c.take-found.result c.self.inside.seat.me.1 c.take-found.new.seat.me (c.take-found.ensures.took.refused ne).1
    c.turn_place-at.result _ c.requires.can c.turn_place-at.ensures refl c.take-found.ensures.same.0 c.take-found.ensures.same.1

pub exchange-cells-requires : goal.exchange-cells-requires
exchange-cells-requires g c = let t = c.take-found.ensures.took.taken c.if-found-ne0.false in
    (c.take-found.ensures.same.0 ∙ ap (λ (p : Rattle.task_table.specs.Passes.Passing). p.table) c.self.view_is ∙ c.requires.table ∙ sym c.words-2.ensures.table, (Rattle.std.proofs.Common.Some t.block, lies_first c.take-found.new.seat.me.1 _ c.args.block _ t.did.slots_are))

pub invariant_of-self-2 : goal.invariant_of-self-2
invariant_of-self-2 g c = let t = c.take-found.ensures.took.taken c.if-found-ne0.false in
    taken_pass g.C.Course.setting _ c.self.inside.seat.me.1 c.self.invariant c.args.block t.block c.take-found.new.seat.me c.exchange-cells.new.seat.me t.did c.exchange-cells.ensures.3 _ _ _

pub returns-clause-step : goal.returns-clause-step
returns-clause-step g c = let t = c.take-found.ensures.took.taken c.if-found-ne0.false in let x = c.exchange-cells.ensures in
    taken_step g.C.Course.setting _ c.args.self.now c.self.view_is c.args.block t.block _ (ap first_block (sym x.2 ∙ t.did.slots_are)) _ c.take-found.new.seat.me t.did c.take-found.result c.turn_place-at.result c.if-found-ne0.false _ c.requires.can c.turn_place-at.ensures
    (ap (λ (o : Rattle.task_table.specs.Moments.Mine). o.0) x.3) (x.0 ∙ c.take-found.ensures.same.0) (x.1 ∙ c.take-found.ensures.same.1)
