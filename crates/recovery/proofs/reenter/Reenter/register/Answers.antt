use Rattle.std.proofs.Common.{refl}
use Rattle.recovery.proofs.Noting.{makes_as}
use Rattle.recovery.proofs.Entering.{may_register, goes_waiting, goes_closed, goes_struck}
use Rattle.recovery.proofs.reenter.Reenter.register.Goals as goal

pub register-requires-clause-can : goal.register-requires-clause-can
register-requires-clause-can g c = may_register _ _ c.args.key.0 c.args.self.now.port c.args.row c.args.at c.requires.port c.requires.row c.requires.at c.requires.work

pub returns-in-Waiting-clause-goes : goal.returns-in-Waiting-clause-goes
returns-in-Waiting-clause-goes g c = goes_waiting _ _ _ (g.T.Steps.shown c.register.new.self).1 c.args.row c.args.at c.args.key c.args.self.now c.requires.port c.requires.row c.register.result c.register.ensures.told c.register.ensures.step.view_is c.in-Waiting.life c.leave.new.self c.leave.ensures c.in-Waiting.is

pub returns-in-Closed-clause-goes : goal.returns-in-Closed-clause-goes
returns-in-Closed-clause-goes g c = goes_closed _ _ _ (g.T.Steps.shown c.register.new.self).1 c.args.row c.args.at c.args.key c.args.self.now c.requires.port c.requires.row c.register.result c.register.ensures.told c.register.ensures.step.view_is c.in-Closed.life c.requires.at c.in-Closed.is

pub returns-in-Struck-clause-goes : goal.returns-in-Struck-clause-goes
returns-in-Struck-clause-goes g c = goes_struck _ _ _ (g.T.Steps.shown c.register.new.self).1 c.args.row c.args.at c.args.key c.args.self.now c.requires.port c.requires.row c.register.result c.register.ensures.told c.register.ensures.step.view_is c.in-Struck.life c.requires.way c.requires.at c.in-Struck.is

pub returns-in-Waiting-clause-step : goal.returns-in-Waiting-clause-step
returns-in-Waiting-clause-step g c = makes_as g.T.KeyWords.spare c.register.ensures.step c.register.ensures.room refl refl refl _ refl refl

pub returns-in-Closed-clause-step : goal.returns-in-Closed-clause-step
returns-in-Closed-clause-step g c = makes_as g.T.KeyWords.spare c.register.ensures.step c.register.ensures.room refl refl refl _ refl refl

pub returns-in-Struck-clause-step : goal.returns-in-Struck-clause-step
returns-in-Struck-clause-step g c = makes_as g.T.KeyWords.spare c.register.ensures.step c.register.ensures.room refl refl refl _ refl refl
