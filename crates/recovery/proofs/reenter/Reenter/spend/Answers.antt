use Rattle.recovery.proofs.Noting.{low_plain, makes_as}
use Rattle.std.proofs.Common.{ap, refl, sym, ◌∙◌, ⊎_elim}
use Rattle.recovery.proofs.Knowing.{known_is}
use Rattle.recovery.proofs.Entering.{may_spend, goes_told, goes_already, goes_last, goes_mark}
use Rattle.recovery.proofs.reenter.Reenter.spend.Goals as goal

pub spend-told-requires-clause-can : goal.spend-told-requires-clause-can
spend-told-requires-clause-can g c = may_spend _ _ c.args.self.now.port c.args.at c.args.successor.0 c.args.place c.requires.at c.requires.may

pub spend-told-requires-clause-preds : goal.spend-told-requires-clause-preds
spend-told-requires-clause-preds g c = let e = g.T.Steps.setting c.args.steps.now in c.requires.preds ∙ ap e.graph.places (sym (known_is e (g.T.Steps.view c.args.steps.now) c.args.at c.args.successor.0 c.requires.at))

pub returns-in-Spent-clause-goes : goal.returns-in-Spent-clause-goes
returns-in-Spent-clause-goes g c = λ p port. let step = c.spend-told in ⊎_elim
    (λ x. goes_told _ _ _ (g.T.Steps.shown step.new.self).1 p c.args.place c.args.preds c.args.at c.args.successor c.args.self.now c.leave.new.self c.leave.ensures port c.requires.at step.result c.requires.preds step.ensures.told step.ensures.step.view_is x.0 x.1)
    (λ x. goes_already _ _ _ (g.T.Steps.shown step.new.self).1 p c.args.place c.args.preds c.args.at c.args.successor c.args.self.now c.leave.new.self c.leave.ensures port c.requires.at step.result c.requires.preds step.ensures.told step.ensures.step.view_is x.0 x.1)
    c.in-Spent.is

pub returns-in-Last-clause-goes : goal.returns-in-Last-clause-goes
returns-in-Last-clause-goes g c = λ p port. let step = c.spend-told in
    goes_last _ _ _ (g.T.Steps.shown step.new.self).1 p c.args.place c.args.preds c.args.at c.args.successor c.args.self.now c.leave.new.self c.leave.ensures port c.requires.at step.result c.requires.preds step.ensures.told step.ensures.step.view_is c.in-Last.life c.in-Last.is

pub returns-in-Struck-clause-goes : goal.returns-in-Struck-clause-goes
returns-in-Struck-clause-goes g c = λ p port. let step = c.spend-told in
    goes_mark _ _ _ (g.T.Steps.shown step.new.self).1 p c.args.place c.args.preds c.args.at c.args.successor c.args.self.now c.leave.new.self c.leave.ensures port c.requires.at step.result c.requires.preds step.ensures.told step.ensures.step.view_is c.in-Struck.life c.in-Struck.is

pub returns-in-Spent-clause-step : goal.returns-in-Spent-clause-step
returns-in-Spent-clause-step g c = makes_as g.T.KeyWords.spare c.spend-told.ensures.step c.spend-told.ensures.room (low_plain c.args.place c.requires.place) refl refl _ refl refl

pub returns-in-Last-clause-step : goal.returns-in-Last-clause-step
returns-in-Last-clause-step g c = makes_as g.T.KeyWords.spare c.spend-told.ensures.step c.spend-told.ensures.room (low_plain c.args.place c.requires.place) refl refl _ refl refl

pub returns-in-Struck-clause-step : goal.returns-in-Struck-clause-step
returns-in-Struck-clause-step g c = makes_as g.T.KeyWords.spare c.spend-told.ensures.step c.spend-told.ensures.room (low_plain c.args.place c.requires.place) refl refl _ refl refl
