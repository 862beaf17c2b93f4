use Rattle.std.proofs.Common.{ℕ, ap, refl, subst, sym, ◌∙◌}
use Rattle.core_state.specs.Asked.{IsCoreKey, IsGraphOf}
use Rattle.core_state.specs.Counts.{known_key}
use Rattle.core_state.specs.Effects.{told_of}
use Rattle.core_state.specs.Events.Event.{spend}
use Rattle.core_state.proofs.Lines.Outcomes.{leaves}
use Rattle.recovery.proofs.Knowing.{known_is, remembers_apart}
use Rattle.recovery.proofs.Phases.{credits_kept}
use Rattle.compute_notify.proofs.Plain.{told_plain}
use Rattle.compute_notify.proofs.ExploreRests.{falls_ended}
use Rattle.compute_notify.proofs.Exploring.{goes_ended, may_end}
use Rattle.compute_notify.proofs.Running.{limit_is}
use Rattle.compute_notify.proofs.explore.Explore.spend_self.Goals as goal

pub spend-told-requires-clause-can : goal.spend-told-requires-clause-can
spend-told-requires-clause-can g c = may_end _ _ (g.T.Steps.view c.args.steps.now) c.args.self c.requires.stands.fits c.requires.stands.top _ _ c.requires.runs c.requires.past c.requires.none

pub spend-told-requires-clause-preds : goal.spend-told-requires-clause-preds
spend-told-requires-clause-preds g c = let serves = c.requires.runs.serves in let e = g.T.Steps.setting c.args.steps.now in let x = c.args.self in
    c.pred_count-preds.ensures serves.outcome e.graph (subst (λ h. IsGraphOf (g.G.TaskGraph.graph h) serves.outcome e.graph) (sym c.of.ensures) serves.graph) ∙ ap e.graph.places (sym (known_is e (g.T.Steps.view c.args.steps.now) x.duty.row x.duty.key.0 c.requires.stands.fits.duty.known))

pub returns-clause-goes : goal.returns-clause-goes
returns-clause-goes g c = let serves = c.requires.runs.serves in let e = g.T.Steps.setting c.args.steps.now in let v = g.T.Steps.view c.args.steps.now in let x = c.args.self in let told = c.spend-told in let w = g.T.Steps.view told.new.self in
    let m : ℕ = (g.T.Steps.shown told.new.self).1 in let step = told.ensures.step.view_is in
    goes_ended _ e v x c.requires.stands.fits w (remembers_apart e (spend x.duty.row (known_key x.duty.row v) 40) m v w refl step) (leaves e (spend x.duty.row (known_key x.duty.row v) 40) m v w step).strikes_are
    (credits_kept e (spend x.duty.row (known_key x.duty.row v) 40) m 0 v w step refl c.requires.stands.credits) c.requires.past m c.args.terms.now.lives told.result _
    (told.ensures.told ∙ ap (λ z. told_of z 40 m) (c.pred_count-preds.ensures serves.outcome e.graph (subst (λ h. IsGraphOf (g.G.TaskGraph.graph h) serves.outcome e.graph) (sym c.of.ensures) serves.graph)))
    step (limit_is _ _ _ e c.requires.runs) refl

pub returns-clause-rest : goal.returns-clause-rest
returns-clause-rest g c = let serves = c.requires.runs.serves in let e = g.T.Steps.setting c.args.steps.now in let v = g.T.Steps.view c.args.steps.now in let x = c.args.self in let told = c.spend-told in
    let m : ℕ = (g.T.Steps.shown told.new.self).1 in
    falls_ended e c.args.terms.now.plan.now x v m c.args.terms.now.lives told.result _
    (told.ensures.told ∙ ap (λ z. told_of z 40 m) (c.pred_count-preds.ensures serves.outcome e.graph (subst (λ h. IsGraphOf (g.G.TaskGraph.graph h) serves.outcome e.graph) (sym c.of.ensures) serves.graph)))
    (known_is e v x.duty.row x.duty.key.0 c.requires.stands.fits.duty.known) refl

pub pred_count-preds-requires-after_bounds : goal.pred_count-preds-requires-after_bounds
pred_count-preds-requires-after_bounds g c κs within = subst (λ h. IsCoreKey (g.G.TaskGraph.graph h) c.args.self.duty.key.0) (sym c.of.ensures) c.requires.stands.fits.duty.is_key

pub returns-clause-plain : goal.returns-clause-plain
returns-clause-plain g c = told_plain c.spend-told.result c.args.self.duty.row c.args.self.duty.key c.args.terms.now.lives
