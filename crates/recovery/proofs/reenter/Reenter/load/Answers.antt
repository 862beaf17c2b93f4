use Rattle.std.proofs.Common.{refl}
use Rattle.recovery.proofs.Knowing.{row_here}
use Rattle.recovery.proofs.Noting.{makes_as}
use Rattle.recovery.proofs.Entering.{goes_marked, goes_spent, goes_unspent}
use Rattle.recovery.proofs.reenter.Reenter.load.Goals as goal

pub load_descriptor-word-requires-clause-can : goal.load_descriptor-word-requires-clause-can
load_descriptor-word-requires-clause-can g c = row_here _ _ c.args.at c.args.successor.0 c.requires.at

pub returns-then-word-clause-goes : goal.returns-then-word-clause-goes
returns-then-word-clause-goes g c = λ p port. let load = c.load_descriptor-word in
    goes_marked _ _ _ (g.T.Steps.shown load.new.self).1 p c.args.place c.args.at c.args.successor c.args.self.now port c.requires.at load.result load.ensures.shows load.ensures.step.view_is c.leave.new.self c.leave.ensures c.if-word.true

pub returns-then-has-clause-goes : goal.returns-then-has-clause-goes
returns-then-has-clause-goes g c = λ p port. let load = c.load_descriptor-word in
    goes_spent _ _ _ (g.T.Steps.shown load.new.self).1 p c.args.place c.args.at c.args.successor c.args.self.now port c.requires.at load.result load.ensures.shows load.ensures.step.view_is c.leave-then-has.new.self c.has.result c.leave-then-has.ensures c.if-word.false c.requires.place c.has.ensures c.if-has.true

pub returns-else-has-clause-goes : goal.returns-else-has-clause-goes
returns-else-has-clause-goes g c = λ p port. let load = c.load_descriptor-word in
    goes_unspent _ _ _ (g.T.Steps.shown load.new.self).1 p c.args.place c.args.at c.args.successor c.args.self.now port c.requires.at load.result load.ensures.shows load.ensures.step.view_is c.has.result c.if-word.false c.requires.place c.has.ensures c.if-has.false

pub returns-then-word-clause-step : goal.returns-then-word-clause-step
returns-then-word-clause-step g c = makes_as g.T.KeyWords.spare c.load_descriptor-word.ensures.step c.load_descriptor-word.ensures.room refl refl refl _ refl refl

pub returns-then-has-clause-step : goal.returns-then-has-clause-step
returns-then-has-clause-step g c = makes_as g.T.KeyWords.spare c.load_descriptor-word.ensures.step c.load_descriptor-word.ensures.room refl refl refl _ refl refl

pub returns-else-has-clause-step : goal.returns-else-has-clause-step
returns-else-has-clause-step g c = makes_as g.T.KeyWords.spare c.load_descriptor-word.ensures.step c.load_descriptor-word.ensures.room refl refl refl _ refl refl
