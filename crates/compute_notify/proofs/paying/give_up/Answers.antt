use Rattle.std.proofs.Common.{refl}
use Rattle.core_state.proofs.Lines.Top.{can_drop}
use Rattle.compute_notify.proofs.Payments.{falls_up, goes_up}
use Rattle.compute_notify.proofs.Stepped.{steps_once}
use Rattle.compute_notify.proofs.paying.give_up.Goals as goal

pub drop_credit-requires-clause-can : goal.drop_credit-requires-clause-can
drop_credit-requires-clause-can g c = let top = c.requires.stands.top in can_drop _ _ top.below top.lines_are.lines_are

pub returns-clause-goes : goal.returns-clause-goes
returns-clause-goes g c = goes_up _ _ _ _ (g.T.Steps.shown c.drop_credit.new.self).1 c.requires.stands.top c.requires.stands.credits c.drop_credit.ensures.step.view_is c.leaves.result c.leaves.ensures

pub returns-clause-step : goal.returns-clause-step
returns-clause-step g c = steps_once g.T.KeyWords.spare c.drop_credit.ensures.step c.drop_credit.ensures.room _ refl

pub returns-clause-rest : goal.returns-clause-rest
returns-clause-rest g c = falls_up _ c.args.terms.now.plan.now (g.T.Steps.shown c.drop_credit.new.self).1 c.leaves.result c.leaves.ensures
