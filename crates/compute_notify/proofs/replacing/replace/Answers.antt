use Rattle.std.proofs.Common.{◌≡◌, ◌&&◌, not, eqb, [], ◌∷◌, Some, ap, refl, ◌∙◌, subst, sym}
use Rattle.core_state.specs.Words.{mark_of}
use Rattle.compute_notify.specs.declared.item.Item.TheVariants as item
use Rattle.compute_notify.specs.Rooms.{bare_came}
use Rattle.compute_notify.specs.Items.{is_spent, SpentTells, turn_came}
use Rattle.compute_notify.specs.Tasks.{after_items, came_items}
use Rattle.compute_notify.specs.declared.item.After.{After}
use Rattle.recovery.specs.Memory.{Remembers}
use Rattle.recovery.specs.Recovering.{makes_step, posts, sees_mark}
use Rattle.recovery.specs.declared.recover.Recover.{Recover}
use Rattle.compute_notify.proofs.Plain.{bare_over, turn_bare}
use Rattle.compute_notify.proofs.BelowStrikes.{by_truth, same_knows}
use Rattle.compute_notify.proofs.Replacements.{falls_turned, goes_turned, came_spent, came_tells, nothing_came}
use Rattle.compute_notify.proofs.Running.{limit_is}
use Rattle.compute_notify.proofs.Stepped.{steps_once}
use Rattle.compute_notify.proofs.replacing.replace.Goals as goal

pub returns-clause-goes : goal.returns-clause-goes
returns-clause-goes g c = goes_turned _ _ (g.T.Steps.view c.turn-told.new.steps) c.turn-told.new.self c.args.terms.now.lives (limit_is _ _ _ (g.T.Steps.setting c.args.steps.now) c.requires.runs) (g.T.Steps.view c.args.steps.now) c.args.recover c.turn-told.result c.over.result
    (c.over.ensures ∙ ap (λ x. record { left = Some (item.Recover c.turn-told.new.self); came = x }) c.came_of.ensures) c.turn-told.ensures.goes

pub returns-clause-step : goal.returns-clause-step
returns-clause-step g c = λ makes. let step = c.turn-told.ensures.step makes in steps_once g.T.KeyWords.spare step.step step.room _ refl

pub returns-clause-rest : goal.returns-clause-rest
returns-clause-rest g c = λ makes. let t = c.turn-told in falls_turned _ _ c.args.terms.now.plan.now (g.T.Steps.view c.args.steps.now) (g.T.Steps.view t.new.steps) c.args.recover t.new.self (g.T.Steps.shown t.new.steps).1 c.args.terms.now.lives c.requires.stands.fits makes c.requires.stands.top (t.ensures.step makes).step.view_is t.result c.over.result
    (c.over.ensures ∙ ap (λ x. record { left = Some (item.Recover t.new.self); came = x }) c.came_of.ensures) t.ensures.goes t.ensures.spent t.ensures.met t.ensures.given t.ensures.rest

pub returns-clause-bare : goal.returns-clause-bare
returns-clause-bare g c = bare_over (item.Recover c.turn-told.new.self) c.came_of.result c.over.result c.over.ensures refl (ap bare_came c.came_of.ensures ∙ turn_bare c.turn-told.result c.args.terms.now.lives)

pub returns-clause-spent : goal.returns-clause-spent
returns-clause-spent g c = ap (λ (a : After). is_spent a.came) c.over.ensures ∙ ap is_spent c.came_of.ensures ∙ came_spent c.turn-told.result c.args.terms.now.lives ∙ c.turn-told.ensures.spent

pub returns-clause-cause : goal.returns-clause-cause
returns-clause-cause g c = subst (λ x. SpentTells x c.args.recover) (sym (ap (λ (a : After). a.came) c.over.ensures ∙ c.came_of.ensures)) (came_tells c.turn-told.result c.args.terms.now.lives c.args.recover c.turn-told.ensures.life)

pub returns-clause-knows : goal.returns-clause-knows
returns-clause-knows g c = let v = g.T.Steps.view c.args.steps.now in by_truth (makes_step c.args.recover) (λ makes. (c.turn-told.ensures.step makes).knows)
    (λ stops. subst (λ s. Remembers v (g.T.Steps.view s)) (sym (c.turn-told.ensures.still stops)) (same_knows v))

pub returns-clause-again : goal.returns-clause-again
returns-clause-again g c at makes goes = let t = c.turn-told in let n = (g.T.Steps.shown t.new.steps).1 in let lives = c.args.terms.now.lives in
    let over = t.ensures.lost at makes goes in
    let none : came_items (turn_came t.result lives) ≡ [] = nothing_came _ _ (g.T.Steps.view t.new.steps) t.new.self.phase t.result lives (ap (λ (r : Recover). r.phase) over) t.ensures.goes.tells
    (t.ensures.met ∙ ap (λ x. sees_mark x && eqb (mark_of n) 1) at) (t.ensures.given ∙ ap (λ x. posts x && not (eqb n 0)) at) in
    ap after_items (c.over.ensures ∙ ap (λ x. record { left = Some (item.Recover t.new.self); came = x }) c.came_of.ensures) ∙ ap (λ xs. item.Recover t.new.self ∷ xs) none ∙ ap (λ r. item.Recover r ∷ []) over
