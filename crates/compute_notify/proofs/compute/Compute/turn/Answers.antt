use Rattle.std.proofs.Common.{◌≡◌, ℕ, ◌≤◌, arith, ap, ◌∙◌, subst, sym}
use mathlib.Core.Bool.{true≢false}
use mathlib.Core.Logic.{dite}
use native.Mathlib.Decide.{dec_lt}
use Rattle.core_state.specs.Asked.{IsCoreKey, IsGraphOf}
use Rattle.core_state.specs.Graph.{Setting}
use Rattle.compute_notify.specs.Eventing.{writing_event}
use Rattle.compute_notify.specs.Items.{FitsPhase, Goes, computed_after, item_lines}
use Rattle.compute_notify.specs.Resting.{LetsFall, after_rest, item_rest}
use Rattle.compute_notify.specs.declared.compute.Phase.TheVariants as phase
use Rattle.compute_notify.specs.declared.item.Item.TheVariants as item
use Rattle.compute_notify.proofs.Coming.{falls_as}
use Rattle.compute_notify.proofs.Computing.Turns.{all_read, goes_from, made_rest, writes_later, writes_now}
use Rattle.compute_notify.proofs.Computing.Writes.{computes_lines, made_of}
use Rattle.compute_notify.proofs.compute.Compute.turn.Goals as goal

pub is_input-requires-after_bounds : goal.is_input-requires-after_bounds
is_input-requires-after_bounds g c κs within = subst (λ h. IsCoreKey (g.G.TaskGraph.graph h) c.args.self.duty.key.0) (sym c.of.ensures) c.requires.stands.fits.duty.is_key

pub returns-else-is_input-clause-goes : goal.returns-else-is_input-clause-goes
returns-else-is_input-clause-goes g c =
    let e = g.T.Steps.setting c.args.steps.now in let v = g.T.Steps.view c.args.steps.now in let self = c.args.self in let runs = c.requires.runs in let task = g.G.TaskGraph.graph c.args.terms.now.graph.now in
    let asked = subst (λ h. IsGraphOf (g.G.TaskGraph.graph h) runs.serves.outcome e.graph) (sym c.of.ensures) runs.serves.graph in
    let few : c.in-Reading.input ≤ e.graph.inputs self.duty.key.0 = subst (FitsPhase e v self.duty.key.0 self.duty.life) c.in-Reading.is c.requires.stands.fits.in_phase in
    let all : e.graph.inputs self.duty.key.0 ≤ c.in-Reading.input = dite (dec_lt c.in-Reading.input (e.graph.inputs self.duty.key.0)) (λ low. absurd (true≢false (sym ((c.is_input.ensures runs.serves.outcome e.graph asked).1 low) ∙ c.if-is_input.false))) (λ past. omega (arith, past)) in
    let reading : self.phase ≡ phase.Reading (e.graph.inputs self.duty.key.0) = c.in-Reading.is ∙ ap phase.Reading (all_read c.in-Reading.input (e.graph.inputs self.duty.key.0) few all) in
    let w = g.T.Steps.view c.write.new.steps in let middle = g.T.Steps.view c.compute.new.steps in
    goes_from task e v middle w (item_lines e.graph (item.Compute self)) (item_lines e.graph (item.Compute (made_of self))) (computed_after c.args.self c.args.terms.now.lives c.write.result)
    (computes_lines task e v self c.requires.stands reading middle c.compute.ensures.view)
    (subst (λ (s : Setting). Goes task s middle w (item_lines s.graph (item.Compute (made_of self))) (computed_after c.args.self c.args.terms.now.lives c.write.result)) c.compute.ensures.table.same_setting c.write.ensures.goes)

pub returns-else-is_input-clause-rest : goal.returns-else-is_input-clause-rest
returns-else-is_input-clause-rest g c =
    let e = g.T.Steps.setting c.args.steps.now in let v = g.T.Steps.view c.args.steps.now in let self = c.args.self in let runs = c.requires.runs in let p = c.args.terms.now.plan.now in
    let asked = subst (λ h. IsGraphOf (g.G.TaskGraph.graph h) runs.serves.outcome e.graph) (sym c.of.ensures) runs.serves.graph in
    let few : c.in-Reading.input ≤ e.graph.inputs self.duty.key.0 = subst (FitsPhase e v self.duty.key.0 self.duty.life) c.in-Reading.is c.requires.stands.fits.in_phase in
    let all : e.graph.inputs self.duty.key.0 ≤ c.in-Reading.input = dite (dec_lt c.in-Reading.input (e.graph.inputs self.duty.key.0)) (λ low. absurd (true≢false (sym ((c.is_input.ensures runs.serves.outcome e.graph asked).1 low) ∙ c.if-is_input.false))) (λ past. omega (arith, past)) in
    let reading : self.phase ≡ phase.Reading (e.graph.inputs self.duty.key.0) = c.in-Reading.is ∙ ap phase.Reading (all_read c.in-Reading.input (e.graph.inputs self.duty.key.0) few all) in
    let n : ℕ = (g.T.Steps.shown c.write.new.steps).1 in let h = c.args.hand.now in let now = c.write.new.hand in let a = (computed_after c.args.self c.args.terms.now.lives c.write.result) in
    falls_as e p n (item_rest e p h (item.Compute self)) (after_rest e p now a) (writes_now e v p self c.in-Reading.input h now c.in-Reading.is all)
    (subst (λ m. LetsFall e p (writing_event e h now self.duty) n m (after_rest e p now a)) (sym (made_rest e v p self h reading))
    (subst (λ (s : Setting). LetsFall s p (writing_event s h now self.duty) n (item_rest s p h (item.Compute (made_of self))) (after_rest s p now a)) c.compute.ensures.table.same_setting c.write.ensures.rest))

pub returns-in-Writing-clause-rest : goal.returns-in-Writing-clause-rest
returns-in-Writing-clause-rest g c =
    let e = g.T.Steps.setting c.args.steps.now in let v = g.T.Steps.view c.args.steps.now in let self = c.args.self in let p = c.args.terms.now.plan.now in
    let n : ℕ = (g.T.Steps.shown c.write-in-Writing.new.steps).1 in let h = c.args.hand.now in let now = c.write-in-Writing.new.hand in let a = (computed_after c.args.self c.args.terms.now.lives c.write-in-Writing.result) in
    falls_as e p n (item_rest e p h (item.Compute self)) (after_rest e p now a) (writes_later e v p self h now c.in-Writing.is)
    (subst (λ q. LetsFall e p (writing_event e h now self.duty) n (item_rest e p h (item.Compute (record self { phase = q }))) (after_rest e p now a)) (sym c.in-Writing.is) c.write-in-Writing.ensures.rest)
