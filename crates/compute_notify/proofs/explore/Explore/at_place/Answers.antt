use Rattle.std.proofs.Common.{ℕ, ap, refl, subst, sym, ◌∙◌, false, ◌≡◌}
use Rattle.core_state.specs.Asked.{IsCoreKey, IsGraphOf}
use Rattle.core_state.specs.Counts.{known_key}
use Rattle.core_state.specs.Effects.{told_of}
use Rattle.core_state.specs.Graph.{Edge}
use Rattle.core_state.specs.Events.Event.{spend}
use Rattle.core_state.proofs.Lines.Outcomes.{leaves}
use Rattle.recovery.proofs.Knowing.{known_is, remembers_apart}
use Rattle.recovery.proofs.Phases.{credits_kept}
use Rattle.compute_notify.specs.Eventing.{explore_event}
use Rattle.core_state.proofs.Lines.Remembers.{names_row}
use Rattle.compute_notify.proofs.Plain.{told_plain}
use Rattle.compute_notify.proofs.BelowStrikes.{same_knows, stepped_knows}
use Rattle.compute_notify.proofs.Coming.{falls_as}
use Rattle.compute_notify.proofs.ExploreRests.{falls_spent}
use Rattle.compute_notify.proofs.Exploring.{goes_spent, may_spend, start_event}
use Rattle.compute_notify.proofs.Running.{limit_is}
use Rattle.compute_notify.proofs.Stepped.{stepped_as}
use Rattle.compute_notify.proofs.explore.Explore.at_place.Goals as goal

pub pred-edge-requires-clause-key : goal.pred-edge-requires-clause-key
pred-edge-requires-clause-key g c κs within = subst (λ h. IsCoreKey (g.G.TaskGraph.graph h) c.args.self.duty.key.0) (sym c.of-graph.ensures) c.requires.stands.fits.duty.is_key

pub spend-told-requires-clause-can : goal.spend-told-requires-clause-can
spend-told-requires-clause-can g c = may_spend _ _ (g.T.Steps.view c.args.steps.now) c.args.self c.requires.stands.fits c.requires.stands.top _ _ c.requires.runs c.requires.place c.in-Spend.is

pub spend-told-requires-clause-preds : goal.spend-told-requires-clause-preds
spend-told-requires-clause-preds g c = let serves = c.requires.runs.serves in let e = g.T.Steps.setting c.args.steps.now in let x = c.args.self in
    c.pred_count.ensures serves.outcome e.graph (subst (λ h. IsGraphOf (g.G.TaskGraph.graph h) serves.outcome e.graph) (sym c.of-graph.ensures) serves.graph) ∙ ap e.graph.places (sym (known_is e (g.T.Steps.view c.args.steps.now) x.duty.row x.duty.key.0 c.requires.stands.fits.duty.known))

pub returns-in-Start-clause-step : goal.returns-in-Start-clause-step
returns-in-Start-clause-step g c = let serves = c.requires.runs.serves in let e = g.T.Steps.setting c.args.steps.now in let x = c.args.self in
    stepped_as g.T.KeyWords.spare c.seek.ensures.step _ (start_event e (g.T.Steps.view c.args.steps.now) x x.way c.make-search.result c.pred-edge.result.key.0 c.rows.result c.in-Start.is c.make-search.ensures (c.rows.ensures.rows ∙ g.met.T.Steps.rows_are c.args.steps.now)
    (ap (λ (y : Edge). y.task) (c.pred-edge.ensures.pred serves.outcome e.graph (subst (λ h. IsGraphOf (g.G.TaskGraph.graph h) serves.outcome e.graph) (sym c.of-graph.ensures) serves.graph))))

pub returns-in-Start-clause-rest : goal.returns-in-Start-clause-rest
returns-in-Start-clause-rest g c = let serves = c.requires.runs.serves in let e = g.T.Steps.setting c.args.steps.now in let x = c.args.self in
    falls_as e _ _ _ _ (start_event e (g.T.Steps.view c.args.steps.now) x x.way c.make-search.result c.pred-edge.result.key.0 c.rows.result c.in-Start.is c.make-search.ensures (c.rows.ensures.rows ∙ g.met.T.Steps.rows_are c.args.steps.now)
    (ap (λ (y : Edge). y.task) (c.pred-edge.ensures.pred serves.outcome e.graph (subst (λ h. IsGraphOf (g.G.TaskGraph.graph h) serves.outcome e.graph) (sym c.of-graph.ensures) serves.graph)))) c.seek.ensures.rest

pub returns-in-Seek-clause-rest : goal.returns-in-Seek-clause-rest
returns-in-Seek-clause-rest g c = falls_as (g.T.Steps.setting c.args.steps.now) _ _ _ _ (ap (explore_event (g.T.Steps.setting c.args.steps.now) (g.T.Steps.view c.args.steps.now) c.args.self) (sym c.in-Seek.is)) c.seek-in-Seek.ensures.rest

pub returns-in-Spend-clause-goes : goal.returns-in-Spend-clause-goes
returns-in-Spend-clause-goes g c = let serves = c.requires.runs.serves in let e = g.T.Steps.setting c.args.steps.now in let v = g.T.Steps.view c.args.steps.now in let x = c.args.self in let told = c.spend-told in let w = g.T.Steps.view told.new.self in
    let m : ℕ = (g.T.Steps.shown told.new.self).1 in let step = told.ensures.step.view_is in
    goes_spent _ e v x c.requires.stands.fits w (remembers_apart e (spend x.duty.row (known_key x.duty.row v) x.place) m v w refl step) (leaves e (spend x.duty.row (known_key x.duty.row v) x.place) m v w step).strikes_are
    (credits_kept e (spend x.duty.row (known_key x.duty.row v) x.place) m 0 v w step refl c.requires.stands.credits) c.requires.place m c.args.terms.now.lives told.result _
    (told.ensures.told ∙ ap (λ z. told_of z x.place m) (c.pred_count.ensures serves.outcome e.graph (subst (λ h. IsGraphOf (g.G.TaskGraph.graph h) serves.outcome e.graph) (sym c.of-graph.ensures) serves.graph)))
    step (limit_is _ _ _ e c.requires.runs) refl

pub returns-in-Spend-clause-rest : goal.returns-in-Spend-clause-rest
returns-in-Spend-clause-rest g c = let serves = c.requires.runs.serves in let e = g.T.Steps.setting c.args.steps.now in let v = g.T.Steps.view c.args.steps.now in let x = c.args.self in let told = c.spend-told in
    let m : ℕ = (g.T.Steps.shown told.new.self).1 in
    falls_as e _ _ _ _ (ap (explore_event e v x) (sym c.in-Spend.is))
    (falls_spent e c.args.terms.now.plan.now x c.requires.place v m c.args.terms.now.lives told.result _ c.in-Spend.is
    (told.ensures.told ∙ ap (λ z. told_of z x.place m) (c.pred_count.ensures serves.outcome e.graph (subst (λ h. IsGraphOf (g.G.TaskGraph.graph h) serves.outcome e.graph) (sym c.of-graph.ensures) serves.graph)))
    (known_is e v x.duty.row x.duty.key.0 c.requires.stands.fits.duty.known) refl)

pub pred_count-requires-after_bounds : goal.pred_count-requires-after_bounds
pred_count-requires-after_bounds g c κs within = subst (λ h. IsCoreKey (g.G.TaskGraph.graph h) c.args.self.duty.key.0) (sym c.of-graph.ensures) c.requires.stands.fits.duty.is_key

pub returns-in-Register-clause-knows : goal.returns-in-Register-clause-knows
returns-in-Register-clause-knows g c = let e = g.T.Steps.setting c.args.steps.now in let v = g.T.Steps.view c.args.steps.now in let x = c.args.self in
    stepped_knows g.T.KeyWords.spare c.register.ensures.step (subst (λ y. names_row (explore_event e v x y) ≡ false) (sym c.in-Register.is) refl) (same_knows v)

pub returns-in-Spend-clause-knows : goal.returns-in-Spend-clause-knows
returns-in-Spend-clause-knows g c = let e = g.T.Steps.setting c.args.steps.now in let v = g.T.Steps.view c.args.steps.now in let x = c.args.self in
    remembers_apart e (spend x.duty.row (known_key x.duty.row v) x.place) (g.T.Steps.shown c.spend-told.new.self).1 v (g.T.Steps.view c.spend-told.new.self) refl c.spend-told.ensures.step.view_is

pub returns-in-Spend-clause-plain : goal.returns-in-Spend-clause-plain
returns-in-Spend-clause-plain g c = told_plain c.spend-told.result c.args.self.duty.row c.args.self.duty.key c.args.terms.now.lives
