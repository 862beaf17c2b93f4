use Rattle.std.proofs.Common.{◌≡◌, refl, ◌∙◌, subst, sym}
use Rattle.core_state.specs.Asked.{IsCoreKey, IsGraphOf}
use Rattle.compute_notify.specs.Items.{computed_after}
use Rattle.compute_notify.specs.Striking.{strike_left}
use Rattle.compute_notify.specs.declared.item.Item.TheVariants as item
use Rattle.compute_notify.proofs.Coming.{falls_as}
use Rattle.compute_notify.proofs.Computing.Lines.{free_after}
use Rattle.compute_notify.proofs.Computing.Ready.{free_ready, loaded_falls, sought_is}
use Rattle.compute_notify.proofs.Computing.Strikes.{strike_is}
use Rattle.compute_notify.proofs.compute.Compute.ready.Goals as goal

pub notify_words-words-requires-after_bounds : goal.notify_words-words-requires-after_bounds
notify_words-words-requires-after_bounds g c κs within = subst (λ h. IsCoreKey (g.G.TaskGraph.graph h) c.args.self.duty.key.0) (sym c.of.ensures) c.requires.stands.fits.duty.is_key

pub load-requires-clause-hand : goal.load-requires-clause-hand
load-requires-clause-hand g c κs within =
    let e = g.T.Steps.setting c.args.steps.now in let runs = c.requires.runs in
    let asked = subst (λ h. IsGraphOf (g.G.TaskGraph.graph h) runs.serves.outcome e.graph) (sym c.of.ensures) runs.serves.graph in
    let many : c.notify_words-words.result ≡ e.graph.notify_words c.args.self.duty.key.0 = c.notify_words-words.ensures runs.serves.outcome e.graph asked in
    let sought : strike_left e.graph c.args.terms.now.plan.now (item.Compute c.args.self) ≡ c.next_strike.result = sought_is e.graph c.args.terms.now.plan.now c.args.self c.args.made c.notify_words-words.result c.next_strike.result c.requires.phase many c.next_strike.ensures in
    (free_ready (g.G.TaskGraph.graph c.args.terms.now.graph.now) e (g.T.Steps.view c.args.steps.now) c.args.self c.args.made c.args.terms.now.plan.now c.args.terms.now.lives runs c.requires.stands c.requires.phase (sought ∙ c.in-None.is) c.args.hand.now c.requires.top).0

pub returns-in-Some-clause-rest : goal.returns-in-Some-clause-rest
returns-in-Some-clause-rest g c =
    let e = g.T.Steps.setting c.args.steps.now in let runs = c.requires.runs in
    let asked = subst (λ h. IsGraphOf (g.G.TaskGraph.graph h) runs.serves.outcome e.graph) (sym c.of.ensures) runs.serves.graph in
    let many : c.notify_words-words.result ≡ e.graph.notify_words c.args.self.duty.key.0 = c.notify_words-words.ensures runs.serves.outcome e.graph asked in
    let sought : strike_left e.graph c.args.terms.now.plan.now (item.Compute c.args.self) ≡ c.next_strike.result = sought_is e.graph c.args.terms.now.plan.now c.args.self c.args.made c.notify_words-words.result c.next_strike.result c.requires.phase many c.next_strike.ensures in
    falls_as e _ _ _ _ (strike_is (g.G.TaskGraph.graph c.args.terms.now.graph.now) c.args.terms.now.plan.now c.args.terms.now.lives e (g.T.Steps.view c.args.steps.now) runs c.args.self c.requires.stands c.in-Some.next (sought ∙ c.in-Some.is) c.args.hand.now c.strike.new.hand) c.strike.ensures.rest

pub returns-in-None-clause-top : goal.returns-in-None-clause-top
returns-in-None-clause-top g c =
    let e = g.T.Steps.setting c.args.steps.now in let runs = c.requires.runs in
    let asked = subst (λ h. IsGraphOf (g.G.TaskGraph.graph h) runs.serves.outcome e.graph) (sym c.of.ensures) runs.serves.graph in
    let many : c.notify_words-words.result ≡ e.graph.notify_words c.args.self.duty.key.0 = c.notify_words-words.ensures runs.serves.outcome e.graph asked in
    let sought : strike_left e.graph c.args.terms.now.plan.now (item.Compute c.args.self) ≡ c.next_strike.result = sought_is e.graph c.args.terms.now.plan.now c.args.self c.args.made c.notify_words-words.result c.next_strike.result c.requires.phase many c.next_strike.ensures in
    free_after e (g.T.Steps.view c.load.new.steps) c.load.ensures.hand c.args.hand.now (computed_after c.args.self c.args.terms.now.lives c.load.result) (free_ready (g.G.TaskGraph.graph c.args.terms.now.graph.now) e (g.T.Steps.view c.args.steps.now) c.args.self c.args.made c.args.terms.now.plan.now c.args.terms.now.lives runs c.requires.stands c.requires.phase (sought ∙ c.in-None.is) c.args.hand.now c.requires.top).1

pub returns-in-None-clause-rest : goal.returns-in-None-clause-rest
returns-in-None-clause-rest g c =
    let e = g.T.Steps.setting c.args.steps.now in let runs = c.requires.runs in
    let asked = subst (λ h. IsGraphOf (g.G.TaskGraph.graph h) runs.serves.outcome e.graph) (sym c.of.ensures) runs.serves.graph in
    let many : c.notify_words-words.result ≡ e.graph.notify_words c.args.self.duty.key.0 = c.notify_words-words.ensures runs.serves.outcome e.graph asked in
    let sought : strike_left e.graph c.args.terms.now.plan.now (item.Compute c.args.self) ≡ c.next_strike.result = sought_is e.graph c.args.terms.now.plan.now c.args.self c.args.made c.notify_words-words.result c.next_strike.result c.requires.phase many c.next_strike.ensures in
    loaded_falls (g.G.TaskGraph.graph c.args.terms.now.graph.now) e (g.T.Steps.view c.args.steps.now) c.args.self c.args.made c.args.terms.now.plan.now c.args.terms.now.lives runs c.requires.stands c.requires.phase (sought ∙ c.in-None.is) c.args.hand.now c.requires.top
    (g.T.Steps.shown c.load.new.steps).1 c.args.hand.now (computed_after c.args.self c.args.terms.now.lives c.load.result) refl c.load.ensures.rest
