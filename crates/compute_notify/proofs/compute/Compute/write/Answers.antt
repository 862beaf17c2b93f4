use Rattle.std.proofs.Common.{◌≡◌, ◌≤◌, refl, sym, ◌∙◌, subst}
use Rattle.core_state.specs.Asked.{IsCoreKey, IsGraphOf}
use Rattle.compute_notify.proofs.Computing.Lines.{free_here, took_hand}
use Rattle.compute_notify.proofs.Computing.Writes.{give_step, may_take, next_written, take_falls, take_goes, took_top}
use Rattle.compute_notify.proofs.compute.Compute.write.Goals as goal

pub block-place-requires-after_bounds : goal.block-place-requires-after_bounds
block-place-requires-after_bounds g c κs within = subst (λ h. IsCoreKey (g.G.TaskGraph.graph h) c.args.self.duty.key.0) (sym c.of-graph.ensures) c.requires.stands.fits.duty.is_key

pub take_turn-requires-clause-can : goal.take_turn-requires-clause-can
take_turn-requires-clause-can g c =
    let serves = c.requires.runs.serves in let e = g.T.Steps.setting c.args.steps.now in
    let asked = subst (λ h. IsGraphOf (g.G.TaskGraph.graph h) serves.outcome e.graph) (sym c.of-graph.ensures) serves.graph in
    let here : c.block-place.result.block ≡ e.graph.block c.args.self.duty.key.0 = c.block-place.ensures.block serves.outcome e.graph asked in
    may_take _ e _ c.args.self _ _ c.requires.runs c.requires.stands c.block-place.result.block here
    (subst (λ h. c.block-place.result.block ≤ (g.G.TaskGraph.graph h).block_count) c.of-graph.ensures c.block-place.ensures.inside) (free_here e _ _ c.args.hand.now (sym c.take.ensures.value ∙ c.in_default.is) c.requires.top)

pub returns-in_default-clause-goes : goal.returns-in_default-clause-goes
returns-in_default-clause-goes g c = take_goes _ _ _ c.args.self _ _ c.requires.runs c.requires.stands _ _ _ c.take_turn.result _ c.take_turn.ensures.step.view_is refl

pub returns-in_default-clause-top : goal.returns-in_default-clause-top
returns-in_default-clause-top g c =
    let serves = c.requires.runs.serves in let e = g.T.Steps.setting c.args.steps.now in
    let asked = subst (λ h. IsGraphOf (g.G.TaskGraph.graph h) serves.outcome e.graph) (sym c.of-graph.ensures) serves.graph in
    let here : c.block-place.result.block ≡ e.graph.block c.args.self.duty.key.0 = c.block-place.ensures.block serves.outcome e.graph asked in
    took_top _ e _ c.args.self _ _ c.requires.runs c.requires.stands _ c.block-place.result.block c.take_turn.result _ refl here
    (took_hand e _ _ (g.T.Steps.shown c.take_turn.new.self).1 c.block-place.result.block c.take_turn.result c.take_turn.ensures.step.view_is c.take_turn.ensures.tells c.take_turn.ensures.cells c.take_turn.ensures.value (free_here e _ _ c.args.hand.now (sym c.take.ensures.value ∙ c.in_default.is) c.requires.top))

pub returns-in_default-clause-rest : goal.returns-in_default-clause-rest
returns-in_default-clause-rest g c =
    let serves = c.requires.runs.serves in let e = g.T.Steps.setting c.args.steps.now in
    let asked = subst (λ h. IsGraphOf (g.G.TaskGraph.graph h) serves.outcome e.graph) (sym c.of-graph.ensures) serves.graph in
    let here : c.block-place.result.block ≡ e.graph.block c.args.self.duty.key.0 = c.block-place.ensures.block serves.outcome e.graph asked in
    take_falls e _ c.args.self _ c.block-place.result.block c.args.hand.now c.take_turn.result _ (sym c.take.ensures.value ∙ c.in_default.is) here refl c.take_turn.ensures.tells

pub end_write-requires-clause-writes : goal.end_write-requires-clause-writes
end_write-requires-clause-writes g c =
    let serves = c.requires.runs.serves in let e = g.T.Steps.setting c.args.steps.now in
    let asked = subst (λ h. IsGraphOf (g.G.TaskGraph.graph h) serves.outcome e.graph) (sym c.of-graph.ensures) serves.graph in
    let here : c.block-place.result.block ≡ e.graph.block c.args.self.duty.key.0 = c.block-place.ensures.block serves.outcome e.graph asked in
    next_written _ e _ c.args.self _ _ c.requires.runs c.requires.stands c.block-place.result.block c.block-place.result.version here (c.block-place.ensures.version serves.outcome e.graph asked)

pub returns-clause-goes : goal.returns-clause-goes
returns-clause-goes g c = give_step _ (g.T.Steps.setting c.args.steps.now) _ c.args.self _ _ c.requires.runs c.requires.stands c.end_write.ensures.step refl refl _
    refl

pub returns-in_default-clause-spent : goal.returns-in_default-clause-spent
returns-in_default-clause-spent g c = refl

pub returns-clause-spent : goal.returns-clause-spent
returns-clause-spent g c = refl
