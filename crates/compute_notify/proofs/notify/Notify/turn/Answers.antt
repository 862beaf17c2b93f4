use Rattle.std.proofs.Common.{◌≡◌, ℕ, None, Some, ap, refl, subst, sym, ◌∙◌, ◌<◌}
use Rattle.core_state.specs.Asked.{IsCoreKey, IsGraphOf}
use Rattle.core_state.specs.Effects.{told_of}
use Rattle.core_state.specs.Graph.{Successor}
use Rattle.core_state.specs.Events.Event.{spend}
use Rattle.core_state.specs.Counts.{known_key}
use Rattle.recovery.specs.Memory.{KnowsKey}
use Rattle.recovery.proofs.Knowing.{key_stays, known_is, remembers_apart}
use Rattle.recovery.proofs.Phases.{credits_kept}
use Rattle.compute_notify.specs.Eventing.{notify_event}
use Rattle.compute_notify.specs.Items.{first_port, next_ports, notify_of, told_came}
use Rattle.compute_notify.specs.Resting.{item_rest}
use Rattle.compute_notify.specs.declared.item.Item.TheVariants as item
use Rattle.compute_notify.proofs.Plain.{plain_over, told_plain}
use Rattle.compute_notify.proofs.Coming.{falls_as, told_falls}
use Rattle.compute_notify.proofs.Running.{limit_is}
use Rattle.compute_notify.proofs.Stepped.{steps_once, stepped_as}
use Rattle.compute_notify.proofs.Telling.{behind_rest, knows_successor, may_spend, port_there, spend_event, spends, start_event}
use Rattle.compute_notify.proofs.notify.Notify.turn.Goals as goal

pub succ-place-requires-clause-key : goal.succ-place-requires-clause-key
succ-place-requires-clause-key g c κs within = subst (λ h. IsCoreKey (g.G.TaskGraph.graph h) c.args.self.key.0) (sym c.of-graph.ensures) c.requires.stands.fits.is_key

pub succ-place-requires-clause-port : goal.succ-place-requires-clause-port
succ-place-requires-clause-port g c κs within = let serves = c.requires.runs.serves in let e = g.T.Steps.setting c.args.steps.now in (
  serves.outcome,
  e.graph,
  subst (λ h. IsGraphOf (g.G.TaskGraph.graph h) serves.outcome e.graph) (sym c.of-graph.ensures) serves.graph,
  subst (λ q. q < e.graph.ports c.args.self.key.0) (sym c.port.ensures) (port_there _ e (g.T.Steps.view c.args.steps.now) c.args.self c.requires.left c.requires.stands.fits),
)

pub spend-told-requires-clause-can : goal.spend-told-requires-clause-can
spend-told-requires-clause-can g c = let serves = c.requires.runs.serves in let e = g.T.Steps.setting c.args.steps.now in let v = g.T.Steps.view c.args.steps.now in let n = c.args.self in
    let at : e.graph.succ n.key.0 (first_port n) ≡ record { task = c.succ-place.result.0.0; place = c.succ-place.result.1 } = ap (e.graph.succ n.key.0) (sym c.port.ensures) ∙ c.succ-place.ensures.succ serves.outcome e.graph (subst (λ h. IsGraphOf (g.G.TaskGraph.graph h) serves.outcome e.graph) (sym c.of-graph.ensures) serves.graph) in
    may_spend _ e v n c.requires.left c.requires.stands.fits c.requires.stands.top c.in-Spend.row c.succ-place.result.0.0 c.succ-place.result.1 at
    (knows_successor e v n c.in-Spend.row c.succ-place.result.0.0 c.succ-place.result.1 at c.in-Spend.is c.requires.stands.fits.telling)

pub spend-told-requires-clause-preds : goal.spend-told-requires-clause-preds
spend-told-requires-clause-preds g c = let serves = c.requires.runs.serves in let e = g.T.Steps.setting c.args.steps.now in let v = g.T.Steps.view c.args.steps.now in let n = c.args.self in
    let asked = subst (λ h. IsGraphOf (g.G.TaskGraph.graph h) serves.outcome e.graph) (sym c.of-graph.ensures) serves.graph in
    let at : e.graph.succ n.key.0 (first_port n) ≡ record { task = c.succ-place.result.0.0; place = c.succ-place.result.1 } = ap (e.graph.succ n.key.0) (sym c.port.ensures) ∙ c.succ-place.ensures.succ serves.outcome e.graph asked in
    c.pred_count.ensures serves.outcome e.graph asked ∙ ap e.graph.places (sym (known_is e v c.in-Spend.row c.succ-place.result.0.0 (knows_successor e v n c.in-Spend.row c.succ-place.result.0.0 c.succ-place.result.1 at c.in-Spend.is c.requires.stands.fits.telling)))

pub returns-in-Start-clause-step : goal.returns-in-Start-clause-step
returns-in-Start-clause-step g c = let serves = c.requires.runs.serves in let e = g.T.Steps.setting c.args.steps.now in let n = c.args.self in
    let at : e.graph.succ n.key.0 (first_port n) ≡ record { task = c.succ-place.result.0.0; place = c.succ-place.result.1 } = ap (e.graph.succ n.key.0) (sym c.port.ensures) ∙ c.succ-place.ensures.succ serves.outcome e.graph (subst (λ h. IsGraphOf (g.G.TaskGraph.graph h) serves.outcome e.graph) (sym c.of-graph.ensures) serves.graph) in
    stepped_as g.T.KeyWords.spare c.seek.ensures.step _ (start_event e (g.T.Steps.view c.args.steps.now) n n.way c.find-search.result c.succ-place.result.0.0 c.rows.result c.in-Start.is c.find-search.ensures (c.rows.ensures.rows ∙ g.met.T.Steps.rows_are c.args.steps.now) (ap (λ (s : Successor). s.task) at))

pub returns-in-Start-clause-rest : goal.returns-in-Start-clause-rest
returns-in-Start-clause-rest g c = let serves = c.requires.runs.serves in let e = g.T.Steps.setting c.args.steps.now in let n = c.args.self in
    let at : e.graph.succ n.key.0 (first_port n) ≡ record { task = c.succ-place.result.0.0; place = c.succ-place.result.1 } = ap (e.graph.succ n.key.0) (sym c.port.ensures) ∙ c.succ-place.ensures.succ serves.outcome e.graph (subst (λ h. IsGraphOf (g.G.TaskGraph.graph h) serves.outcome e.graph) (sym c.of-graph.ensures) serves.graph) in
    falls_as e _ _ _ _ (start_event e (g.T.Steps.view c.args.steps.now) n n.way c.find-search.result c.succ-place.result.0.0 c.rows.result c.in-Start.is c.find-search.ensures (c.rows.ensures.rows ∙ g.met.T.Steps.rows_are c.args.steps.now) (ap (λ (s : Successor). s.task) at)) c.seek.ensures.rest

pub returns-in-Seek-clause-rest : goal.returns-in-Seek-clause-rest
returns-in-Seek-clause-rest g c = let e = g.T.Steps.setting c.args.steps.now in
    falls_as e _ _ _ _ (ap (notify_event e (g.T.Steps.view c.args.steps.now) c.args.self) (sym c.in-Seek.is)) c.seek-in-Seek.ensures.rest

pub returns-in-Spend-clause-goes : goal.returns-in-Spend-clause-goes
returns-in-Spend-clause-goes g c = let serves = c.requires.runs.serves in let e = g.T.Steps.setting c.args.steps.now in let v = g.T.Steps.view c.args.steps.now in let n = c.args.self in let w = g.T.Steps.view c.spend-told.new.self in
    let asked = subst (λ h. IsGraphOf (g.G.TaskGraph.graph h) serves.outcome e.graph) (sym c.of-graph.ensures) serves.graph in
    let k = c.succ-place.result.0 in let row = c.in-Spend.row in let place = c.succ-place.result.1 in
    let at : e.graph.succ n.key.0 (first_port n) ≡ record { task = k.0; place = place } = ap (e.graph.succ n.key.0) (sym c.port.ensures) ∙ c.succ-place.ensures.succ serves.outcome e.graph asked in
    let knows : KnowsKey e v row k.0 = knows_successor e v n row k.0 place at c.in-Spend.is c.requires.stands.fits.telling in
    let m : ℕ = (g.T.Steps.shown c.spend-told.new.self).1 in
    let more = remembers_apart e (spend row (known_key row v) place) m v w refl c.spend-told.ensures.step.view_is in
    spends _ e v n c.requires.left c.requires.stands.fits w more (credits_kept e (spend row (known_key row v) place) m 0 v w c.spend-told.ensures.step.view_is refl c.requires.stands.credits)
    m place row k c.args.terms.now.lives c.spend-told.result _ _ refl refl
    (c.spend-told.ensures.told ∙ ap (λ x. told_of x place m) (c.pred_count.ensures serves.outcome e.graph asked))
    c.spend-told.ensures.step.view_is knows (record { is_key = subst (λ h. IsCoreKey (g.G.TaskGraph.graph h) k.0) c.of-graph.ensures c.succ-place.ensures.key; known = key_stays e v w row k.0 more knows })
    (limit_is _ _ _ e c.requires.runs k.0)

pub returns-in-Spend-clause-step : goal.returns-in-Spend-clause-step
returns-in-Spend-clause-step g c = let serves = c.requires.runs.serves in let e = g.T.Steps.setting c.args.steps.now in let v = g.T.Steps.view c.args.steps.now in let n = c.args.self in
    let at : e.graph.succ n.key.0 (first_port n) ≡ record { task = c.succ-place.result.0.0; place = c.succ-place.result.1 } = ap (e.graph.succ n.key.0) (sym c.port.ensures) ∙ c.succ-place.ensures.succ serves.outcome e.graph (subst (λ h. IsGraphOf (g.G.TaskGraph.graph h) serves.outcome e.graph) (sym c.of-graph.ensures) serves.graph) in
    steps_once g.T.KeyWords.spare c.spend-told.ensures.step c.spend-told.ensures.room _ (spend_event e v n n.way c.in-Spend.row c.succ-place.result.0.0 c.succ-place.result.1 c.in-Spend.is at)

pub returns-in-Spend-clause-rest : goal.returns-in-Spend-clause-rest
returns-in-Spend-clause-rest g c = let serves = c.requires.runs.serves in let e = g.T.Steps.setting c.args.steps.now in let v = g.T.Steps.view c.args.steps.now in let n = c.args.self in
    let asked = subst (λ h. IsGraphOf (g.G.TaskGraph.graph h) serves.outcome e.graph) (sym c.of-graph.ensures) serves.graph in
    let k = c.succ-place.result.0 in let row = c.in-Spend.row in let place = c.succ-place.result.1 in
    let at : e.graph.succ n.key.0 (first_port n) ≡ record { task = k.0; place = place } = ap (e.graph.succ n.key.0) (sym c.port.ensures) ∙ c.succ-place.ensures.succ serves.outcome e.graph asked in
    let knows : KnowsKey e v row k.0 = knows_successor e v n row k.0 place at c.in-Spend.is c.requires.stands.fits.telling in
    let m : ℕ = (g.T.Steps.shown c.spend-told.new.self).1 in
    falls_as e _ m _ _ (spend_event e v n n.way row k.0 place c.in-Spend.is at)
    (told_falls e c.args.terms.now.plan.now v (e.graph.places k.0) place m c.spend-told.result row k c.args.terms.now.lives (Some (item.Notify (notify_of n.key n.life n.word (next_ports n.ports)))) (item_rest e c.args.terms.now.plan.now None (item.Notify n))
    (c.spend-told.ensures.told ∙ ap (λ x. told_of x place m) (c.pred_count.ensures serves.outcome e.graph asked)) (known_is e v row k.0 knows)
    (behind_rest _ e v n (notify_of n.key n.life n.word (next_ports n.ports)) row c.requires.left c.requires.stands.fits c.in-Spend.is refl))

pub returns-in-Spend-clause-knows : goal.returns-in-Spend-clause-knows
returns-in-Spend-clause-knows g c = let e = g.T.Steps.setting c.args.steps.now in let v = g.T.Steps.view c.args.steps.now in
    remembers_apart e (spend c.in-Spend.row (known_key c.in-Spend.row v) c.succ-place.result.1) (g.T.Steps.shown c.spend-told.new.self).1 v (g.T.Steps.view c.spend-told.new.self) refl c.spend-told.ensures.step.view_is

pub returns-in-Spend-clause-plain : goal.returns-in-Spend-clause-plain
returns-in-Spend-clause-plain g c = let n = c.args.self in
    plain_over (item.Notify (notify_of n.key n.life n.word (next_ports n.ports))) (told_came c.spend-told.result c.in-Spend.row c.succ-place.result.0 c.args.terms.now.lives) _ refl refl
    (told_plain c.spend-told.result c.in-Spend.row c.succ-place.result.0 c.args.terms.now.lives)
