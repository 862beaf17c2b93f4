use Rattle.std.proofs.Common.{◌≡◌, ◌<◌, ◌≤◌, None, arith, subst, sym, ◌∙◌, refl}
use Rattle.core_state.specs.Asked.{IsCoreKey, IsGraphOf}
use Rattle.compute_notify.specs.Items.{explored_after}
use Rattle.compute_notify.specs.Striking.{explore_left}
use Rattle.compute_notify.proofs.BelowStrikes.{same_knows, stepped_knows, struck_row}
use Rattle.compute_notify.proofs.Coming.{falls_as}
use Rattle.compute_notify.proofs.ExploreTurns.{ended_event, falls_free, left_is, place_event, struck_event}
use Rattle.compute_notify.proofs.Exploring.{ended_free, place_free}
use Rattle.compute_notify.proofs.HandsFree.{after_free}
use Rattle.compute_notify.proofs.Stepped.{stepped_as}
use Rattle.compute_notify.proofs.explore.Explore.turn.Goals as goal

pub pred_count-requires-after_bounds : goal.pred_count-requires-after_bounds
pred_count-requires-after_bounds g c κs within = subst (λ h. IsCoreKey (g.G.TaskGraph.graph h) c.args.self.duty.key.0) (sym c.of-graph.ensures) c.requires.stands.fits.duty.is_key

pub notify_words-words-requires-after_bounds : goal.notify_words-words-requires-after_bounds
notify_words-words-requires-after_bounds g c κs within = subst (λ h. IsCoreKey (g.G.TaskGraph.graph h) c.args.self.duty.key.0) (sym c.of-graph.ensures) c.requires.stands.fits.duty.is_key

pub at_place-requires-clause-hand : goal.at_place-requires-clause-hand
at_place-requires-clause-hand g c κs within = let serves = c.requires.runs.serves in let e = g.T.Steps.setting c.args.steps.now in let x = c.args.self in
    let places : c.pred_count.result ≡ e.graph.places x.duty.key.0 = c.pred_count.ensures serves.outcome e.graph (subst (λ h. IsGraphOf (g.G.TaskGraph.graph h) serves.outcome e.graph) (sym c.of-graph.ensures) serves.graph) in
    let low : x.place < e.graph.places x.duty.key.0 = subst (λ m. x.place < m) places c.if-self-pred_count.true in
    (place_free _ e (g.T.Steps.view c.args.steps.now) x c.requires.stands.fits c.requires.stands.top _ _ c.requires.runs c.args.hand.now low c.requires.top).0

pub strike-requires-clause-next : goal.strike-requires-clause-next
strike-requires-clause-next g c κs within = let serves = c.requires.runs.serves in let e = g.T.Steps.setting c.args.steps.now in let x = c.args.self in let asked = subst (λ h. IsGraphOf (g.G.TaskGraph.graph h) serves.outcome e.graph) (sym c.of-graph.ensures) serves.graph in
    let past : e.graph.places x.duty.key.0 ≤ x.place = (let a = c.pred_count.ensures serves.outcome e.graph asked in let b = c.if-self-pred_count.false in omega (arith, a, b)) in
    left_is e (g.T.Steps.view c.args.steps.now) c.args.terms.now.plan.now x c.next_strike.result c.notify_words-words.result past (c.notify_words-words.ensures serves.outcome e.graph asked) c.next_strike.ensures ∙ c.in-Some.is

pub spend_self-requires-clause-hand : goal.spend_self-requires-clause-hand
spend_self-requires-clause-hand g c κs within = let serves = c.requires.runs.serves in let e = g.T.Steps.setting c.args.steps.now in let x = c.args.self in let asked = subst (λ h. IsGraphOf (g.G.TaskGraph.graph h) serves.outcome e.graph) (sym c.of-graph.ensures) serves.graph in
    let past : e.graph.places x.duty.key.0 ≤ x.place = (let a = c.pred_count.ensures serves.outcome e.graph asked in let b = c.if-self-pred_count.false in omega (arith, a, b)) in
    let none_left : explore_left e.graph c.args.terms.now.plan.now x ≡ None = left_is e (g.T.Steps.view c.args.steps.now) c.args.terms.now.plan.now x c.next_strike.result c.notify_words-words.result past (c.notify_words-words.ensures serves.outcome e.graph asked) c.next_strike.ensures ∙ c.in-None.is in
    (ended_free _ e (g.T.Steps.view c.args.steps.now) x c.requires.stands.fits c.requires.stands.top _ _ c.requires.runs c.args.hand.now past none_left c.requires.top).0

pub spend_self-requires-clause-none : goal.spend_self-requires-clause-none
spend_self-requires-clause-none g c κs within = let serves = c.requires.runs.serves in let e = g.T.Steps.setting c.args.steps.now in let x = c.args.self in let asked = subst (λ h. IsGraphOf (g.G.TaskGraph.graph h) serves.outcome e.graph) (sym c.of-graph.ensures) serves.graph in
    let past : e.graph.places x.duty.key.0 ≤ x.place = (let a = c.pred_count.ensures serves.outcome e.graph asked in let b = c.if-self-pred_count.false in omega (arith, a, b)) in
    left_is e (g.T.Steps.view c.args.steps.now) c.args.terms.now.plan.now x c.next_strike.result c.notify_words-words.result past (c.notify_words-words.ensures serves.outcome e.graph asked) c.next_strike.ensures ∙ c.in-None.is

pub returns-then-self-pred_count-clause-top : goal.returns-then-self-pred_count-clause-top
returns-then-self-pred_count-clause-top g c = let serves = c.requires.runs.serves in let e = g.T.Steps.setting c.args.steps.now in let x = c.args.self in
    let places : c.pred_count.result ≡ e.graph.places x.duty.key.0 = c.pred_count.ensures serves.outcome e.graph (subst (λ h. IsGraphOf (g.G.TaskGraph.graph h) serves.outcome e.graph) (sym c.of-graph.ensures) serves.graph) in
    let low : x.place < e.graph.places x.duty.key.0 = subst (λ m. x.place < m) places c.if-self-pred_count.true in
    after_free e (g.T.Steps.view c.at_place.new.steps) c.at_place.ensures.hand c.args.hand.now (explored_after c.args.self c.args.terms.now.lives c.at_place.result)
    (place_free _ e (g.T.Steps.view c.args.steps.now) x c.requires.stands.fits c.requires.stands.top _ _ c.requires.runs c.args.hand.now low c.requires.top).1

pub returns-then-self-pred_count-clause-step : goal.returns-then-self-pred_count-clause-step
returns-then-self-pred_count-clause-step g c = let serves = c.requires.runs.serves in let e = g.T.Steps.setting c.args.steps.now in let x = c.args.self in
    let places : c.pred_count.result ≡ e.graph.places x.duty.key.0 = c.pred_count.ensures serves.outcome e.graph (subst (λ h. IsGraphOf (g.G.TaskGraph.graph h) serves.outcome e.graph) (sym c.of-graph.ensures) serves.graph) in
    let low : x.place < e.graph.places x.duty.key.0 = subst (λ m. x.place < m) places c.if-self-pred_count.true in
    stepped_as g.T.KeyWords.spare c.at_place.ensures.step _ (place_event e (g.T.Steps.view c.args.steps.now) c.args.terms.now.plan.now x c.args.hand.now c.args.hand.now low)

pub returns-then-self-pred_count-clause-rest : goal.returns-then-self-pred_count-clause-rest
returns-then-self-pred_count-clause-rest g c = let serves = c.requires.runs.serves in let e = g.T.Steps.setting c.args.steps.now in let v = g.T.Steps.view c.args.steps.now in let x = c.args.self in
    let places : c.pred_count.result ≡ e.graph.places x.duty.key.0 = c.pred_count.ensures serves.outcome e.graph (subst (λ h. IsGraphOf (g.G.TaskGraph.graph h) serves.outcome e.graph) (sym c.of-graph.ensures) serves.graph) in
    let low : x.place < e.graph.places x.duty.key.0 = subst (λ m. x.place < m) places c.if-self-pred_count.true in
    falls_free e v c.args.terms.now.plan.now x (g.T.Steps.shown c.at_place.new.steps).1 _ (explored_after c.args.self c.args.terms.now.lives c.at_place.result) c.args.hand.now
    (place_free _ e v x c.requires.stands.fits c.requires.stands.top _ _ c.requires.runs c.args.hand.now low c.requires.top).1
    (place_event e v c.args.terms.now.plan.now x c.args.hand.now c.args.hand.now low) c.at_place.ensures.rest

pub returns-in-Some-clause-step : goal.returns-in-Some-clause-step
returns-in-Some-clause-step g c = let serves = c.requires.runs.serves in let e = g.T.Steps.setting c.args.steps.now in let x = c.args.self in let asked = subst (λ h. IsGraphOf (g.G.TaskGraph.graph h) serves.outcome e.graph) (sym c.of-graph.ensures) serves.graph in
    let past : e.graph.places x.duty.key.0 ≤ x.place = (let a = c.pred_count.ensures serves.outcome e.graph asked in let b = c.if-self-pred_count.false in omega (arith, a, b)) in
    stepped_as g.T.KeyWords.spare c.strike.ensures.step _ (struck_event e (g.T.Steps.view c.args.steps.now) c.args.terms.now.plan.now x c.args.hand.now c.strike.new.hand c.in-Some.next
    (left_is e (g.T.Steps.view c.args.steps.now) c.args.terms.now.plan.now x c.next_strike.result c.notify_words-words.result past (c.notify_words-words.ensures serves.outcome e.graph asked) c.next_strike.ensures ∙ c.in-Some.is))

pub returns-in-Some-clause-rest : goal.returns-in-Some-clause-rest
returns-in-Some-clause-rest g c = let serves = c.requires.runs.serves in let e = g.T.Steps.setting c.args.steps.now in let x = c.args.self in let asked = subst (λ h. IsGraphOf (g.G.TaskGraph.graph h) serves.outcome e.graph) (sym c.of-graph.ensures) serves.graph in
    let past : e.graph.places x.duty.key.0 ≤ x.place = (let a = c.pred_count.ensures serves.outcome e.graph asked in let b = c.if-self-pred_count.false in omega (arith, a, b)) in
    falls_as e _ _ _ _ (struck_event e (g.T.Steps.view c.args.steps.now) c.args.terms.now.plan.now x c.args.hand.now c.strike.new.hand c.in-Some.next
    (left_is e (g.T.Steps.view c.args.steps.now) c.args.terms.now.plan.now x c.next_strike.result c.notify_words-words.result past (c.notify_words-words.ensures serves.outcome e.graph asked) c.next_strike.ensures ∙ c.in-Some.is)) c.strike.ensures.rest

pub returns-in-None-clause-top : goal.returns-in-None-clause-top
returns-in-None-clause-top g c = let serves = c.requires.runs.serves in let e = g.T.Steps.setting c.args.steps.now in let x = c.args.self in let asked = subst (λ h. IsGraphOf (g.G.TaskGraph.graph h) serves.outcome e.graph) (sym c.of-graph.ensures) serves.graph in
    let past : e.graph.places x.duty.key.0 ≤ x.place = (let a = c.pred_count.ensures serves.outcome e.graph asked in let b = c.if-self-pred_count.false in omega (arith, a, b)) in
    let none_left : explore_left e.graph c.args.terms.now.plan.now x ≡ None = left_is e (g.T.Steps.view c.args.steps.now) c.args.terms.now.plan.now x c.next_strike.result c.notify_words-words.result past (c.notify_words-words.ensures serves.outcome e.graph asked) c.next_strike.ensures ∙ c.in-None.is in
    after_free e (g.T.Steps.view c.spend_self.new.steps) c.spend_self.ensures.hand c.args.hand.now (explored_after c.args.self c.args.terms.now.lives c.spend_self.result)
    (ended_free _ e (g.T.Steps.view c.args.steps.now) x c.requires.stands.fits c.requires.stands.top _ _ c.requires.runs c.args.hand.now past none_left c.requires.top).1

pub returns-in-None-clause-step : goal.returns-in-None-clause-step
returns-in-None-clause-step g c = let serves = c.requires.runs.serves in let e = g.T.Steps.setting c.args.steps.now in let x = c.args.self in let asked = subst (λ h. IsGraphOf (g.G.TaskGraph.graph h) serves.outcome e.graph) (sym c.of-graph.ensures) serves.graph in
    let past : e.graph.places x.duty.key.0 ≤ x.place = (let a = c.pred_count.ensures serves.outcome e.graph asked in let b = c.if-self-pred_count.false in omega (arith, a, b)) in
    let none_left : explore_left e.graph c.args.terms.now.plan.now x ≡ None = left_is e (g.T.Steps.view c.args.steps.now) c.args.terms.now.plan.now x c.next_strike.result c.notify_words-words.result past (c.notify_words-words.ensures serves.outcome e.graph asked) c.next_strike.ensures ∙ c.in-None.is in
    stepped_as g.T.KeyWords.spare c.spend_self.ensures.step _ (ended_event e (g.T.Steps.view c.args.steps.now) c.args.terms.now.plan.now x c.args.hand.now c.args.hand.now past none_left)

pub returns-in-None-clause-rest : goal.returns-in-None-clause-rest
returns-in-None-clause-rest g c = let serves = c.requires.runs.serves in let e = g.T.Steps.setting c.args.steps.now in let v = g.T.Steps.view c.args.steps.now in let x = c.args.self in let asked = subst (λ h. IsGraphOf (g.G.TaskGraph.graph h) serves.outcome e.graph) (sym c.of-graph.ensures) serves.graph in
    let past : e.graph.places x.duty.key.0 ≤ x.place = (let a = c.pred_count.ensures serves.outcome e.graph asked in let b = c.if-self-pred_count.false in omega (arith, a, b)) in
    let none_left : explore_left e.graph c.args.terms.now.plan.now x ≡ None = left_is e v c.args.terms.now.plan.now x c.next_strike.result c.notify_words-words.result past (c.notify_words-words.ensures serves.outcome e.graph asked) c.next_strike.ensures ∙ c.in-None.is in
    falls_free e v c.args.terms.now.plan.now x (g.T.Steps.shown c.spend_self.new.steps).1 _ (explored_after c.args.self c.args.terms.now.lives c.spend_self.result) c.args.hand.now
    (ended_free _ e v x c.requires.stands.fits c.requires.stands.top _ _ c.requires.runs c.args.hand.now past none_left c.requires.top).1
    (ended_event e v c.args.terms.now.plan.now x c.args.hand.now c.args.hand.now past none_left) c.spend_self.ensures.rest

pub returns-in-Some-clause-knows : goal.returns-in-Some-clause-knows
returns-in-Some-clause-knows g c = let e = g.T.Steps.setting c.args.steps.now in let v = g.T.Steps.view c.args.steps.now in
    stepped_knows g.T.KeyWords.spare c.strike.ensures.step (struck_row e v c.args.self.duty c.in-Some.next.target c.args.hand.now c.strike.new.hand) (same_knows v)

pub returns-in-None-clause-knows : goal.returns-in-None-clause-knows
returns-in-None-clause-knows g c = stepped_knows g.T.KeyWords.spare c.spend_self.ensures.step refl (same_knows (g.T.Steps.view c.args.steps.now))
