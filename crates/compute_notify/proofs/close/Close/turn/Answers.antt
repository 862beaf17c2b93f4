use Rattle.std.proofs.Common.{◌≡◌, None, Some, ap, subst, sym, ◌∙◌}
use Rattle.compute_notify.specs.Eventing.{item_event, with_strike}
use Rattle.compute_notify.specs.Resting.{LetsFall, after_rest, item_rest}
use Rattle.compute_notify.specs.Striking.{strike_left}
use Rattle.compute_notify.specs.declared.item.Item.TheVariants as item
use Rattle.compute_notify.proofs.Closing.{free_hand, word_there}
use Rattle.compute_notify.proofs.Coming.{falls_as}
use Rattle.compute_notify.proofs.HandsFree.{after_free}
use Rattle.compute_notify.proofs.close.Close.turn.Goals as goal

pub close_word-requires-clause-hand : goal.close_word-requires-clause-hand
close_word-requires-clause-hand g c κs within = let e = g.T.Steps.setting c.args.steps.now in let v = g.T.Steps.view c.args.steps.now in let p = c.args.terms.now.plan.now in let runs = c.requires.runs in
    let none : strike_left e.graph p (item.Close c.args.self) ≡ None = sym (c.strike_left.ensures runs.serves.outcome e.graph runs.serves.graph) ∙ c.in-None.is in
    (free_hand _ e v c.args.self c.requires.stands.fits (word_there e.graph p c.args.self c.requires.left none) p _ runs c.requires.stands.top none c.args.hand.now c.requires.top).0

pub returns-in-Some-clause-rest : goal.returns-in-Some-clause-rest
returns-in-Some-clause-rest g c = let e = g.T.Steps.setting c.args.steps.now in let v = g.T.Steps.view c.args.steps.now in let p = c.args.terms.now.plan.now in let runs = c.requires.runs in
    let some : strike_left e.graph p (item.Close c.args.self) ≡ Some c.in-Some.next = sym (c.strike_left.ensures runs.serves.outcome e.graph runs.serves.graph) ∙ c.in-Some.is in
    falls_as e p _ _ _ (ap (with_strike e v c.args.hand.now c.strike.new.hand (item.Close c.args.self)) (sym some)) c.strike.ensures.rest

pub returns-in-None-clause-top : goal.returns-in-None-clause-top
returns-in-None-clause-top g c = let e = g.T.Steps.setting c.args.steps.now in let v = g.T.Steps.view c.args.steps.now in let p = c.args.terms.now.plan.now in let runs = c.requires.runs in
    let none : strike_left e.graph p (item.Close c.args.self) ≡ None = sym (c.strike_left.ensures runs.serves.outcome e.graph runs.serves.graph) ∙ c.in-None.is in
    after_free e (g.T.Steps.view c.close_word.new.steps) c.close_word.ensures.hand c.args.hand.now c.close_word.result (free_hand _ e v c.args.self c.requires.stands.fits (word_there e.graph p c.args.self c.requires.left none) p _ runs c.requires.stands.top none c.args.hand.now c.requires.top).1

pub returns-in-None-clause-rest : goal.returns-in-None-clause-rest
returns-in-None-clause-rest g c = let e = g.T.Steps.setting c.args.steps.now in let v = g.T.Steps.view c.args.steps.now in let p = c.args.terms.now.plan.now in let runs = c.requires.runs in
    let none : strike_left e.graph p (item.Close c.args.self) ≡ None = sym (c.strike_left.ensures runs.serves.outcome e.graph runs.serves.graph) ∙ c.in-None.is in
    let free = (free_hand _ e v c.args.self c.requires.stands.fits (word_there e.graph p c.args.self c.requires.left none) p _ runs c.requires.stands.top none c.args.hand.now c.requires.top).1 in
    subst (λ h. LetsFall e p (item_event e v p h h (item.Close c.args.self)) (g.T.Steps.shown c.close_word.new.steps).1 (item_rest e p h (item.Close c.args.self)) (after_rest e p h c.close_word.result)) (sym free)
    (falls_as e p _ _ _ (ap (with_strike e v None None (item.Close c.args.self)) (sym none)) c.close_word.ensures.rest)
