use Rattle.std.proofs.Common.{◌≡◌, ap, inr, subst, sym, ◌∙◌, refl, false}
use Rattle.graph_model.specs.Graph.{IsTask}
use Rattle.core_state.specs.Asked.{IsCoreKey, IsGraphOf}
use Rattle.core_state.specs.Graph.{Edge}
use Rattle.core_state.proofs.Lines.Remembers.{names_row}
use Rattle.compute_notify.specs.Eventing.{look_event}
use Rattle.compute_notify.proofs.BelowStrikes.{same_knows, stepped_knows}
use Rattle.compute_notify.proofs.Coming.{falls_as}
use Rattle.compute_notify.proofs.Looking.{start_event, writer_of}
use Rattle.compute_notify.proofs.Stepped.{stepped_as}
use Rattle.compute_notify.proofs.look.Look.turn.Goals as goal

pub pred-edge-requires-clause-key : goal.pred-edge-requires-clause-key
pred-edge-requires-clause-key g c κs within = subst (λ h. IsCoreKey (g.G.TaskGraph.graph h) c.args.self.duty.key.0) (sym c.of.ensures) c.requires.stands.fits.duty.is_key

pub seek-requires-clause-key : goal.seek-requires-clause-key
seek-requires-clause-key g c κs within = let serves = c.requires.runs.serves in let e = g.T.Steps.setting c.args.steps.now in
    let task : writer_of e.graph c.args.self ≡ c.pred-edge.result.key.0 = ap (λ (y : Edge). y.task) (c.pred-edge.ensures.pred serves.outcome e.graph (subst (λ h. IsGraphOf (g.G.TaskGraph.graph h) serves.outcome e.graph) (sym c.of.ensures) serves.graph)) in
    subst (IsCoreKey (g.G.TaskGraph.graph c.args.terms.now.graph.now)) (sym task) (inr (subst (λ h. IsTask (g.G.TaskGraph.graph h) c.pred-edge.result.key.0) c.of.ensures c.pred-edge.ensures.task))

pub seek-requires-in-Seek-clause-key : goal.seek-requires-in-Seek-clause-key
seek-requires-in-Seek-clause-key g c κs within = let serves = c.requires.runs.serves in let e = g.T.Steps.setting c.args.steps.now in
    let task : writer_of e.graph c.args.self ≡ c.pred-edge.result.key.0 = ap (λ (y : Edge). y.task) (c.pred-edge.ensures.pred serves.outcome e.graph (subst (λ h. IsGraphOf (g.G.TaskGraph.graph h) serves.outcome e.graph) (sym c.of.ensures) serves.graph)) in
    subst (IsCoreKey (g.G.TaskGraph.graph c.args.terms.now.graph.now)) (sym task) (inr (subst (λ h. IsTask (g.G.TaskGraph.graph h) c.pred-edge.result.key.0) c.of.ensures c.pred-edge.ensures.task))

pub returns-in-Start-clause-step : goal.returns-in-Start-clause-step
returns-in-Start-clause-step g c = let serves = c.requires.runs.serves in let e = g.T.Steps.setting c.args.steps.now in let x = c.args.self in
    let task : writer_of e.graph x ≡ c.pred-edge.result.key.0 = ap (λ (y : Edge). y.task) (c.pred-edge.ensures.pred serves.outcome e.graph (subst (λ h. IsGraphOf (g.G.TaskGraph.graph h) serves.outcome e.graph) (sym c.of.ensures) serves.graph)) in
    stepped_as g.T.KeyWords.spare c.seek.ensures.step _ (start_event e (g.T.Steps.view c.args.steps.now) x x.way c.find-search.result c.pred-edge.result.key.0 c.rows.result c.in-Start.is c.find-search.ensures (c.rows.ensures.rows ∙ g.met.T.Steps.rows_are c.args.steps.now) task)

pub returns-in-Start-clause-rest : goal.returns-in-Start-clause-rest
returns-in-Start-clause-rest g c = let serves = c.requires.runs.serves in let e = g.T.Steps.setting c.args.steps.now in let x = c.args.self in
    let task : writer_of e.graph x ≡ c.pred-edge.result.key.0 = ap (λ (y : Edge). y.task) (c.pred-edge.ensures.pred serves.outcome e.graph (subst (λ h. IsGraphOf (g.G.TaskGraph.graph h) serves.outcome e.graph) (sym c.of.ensures) serves.graph)) in
    falls_as e _ _ _ _ (start_event e (g.T.Steps.view c.args.steps.now) x x.way c.find-search.result c.pred-edge.result.key.0 c.rows.result c.in-Start.is c.find-search.ensures (c.rows.ensures.rows ∙ g.met.T.Steps.rows_are c.args.steps.now) task) c.seek.ensures.rest

pub returns-in-Load-clause-knows : goal.returns-in-Load-clause-knows
returns-in-Load-clause-knows g c = let e = g.T.Steps.setting c.args.steps.now in let v = g.T.Steps.view c.args.steps.now in let x = c.args.self in
    stepped_knows g.T.KeyWords.spare c.load.ensures.step (subst (λ y. names_row (look_event e v x y) ≡ false) (sym c.in-Load.is) refl) (same_knows v)
