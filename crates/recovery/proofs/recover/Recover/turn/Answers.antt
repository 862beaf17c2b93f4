use Rattle.std.proofs.Common.{arith, inl, inr, refl, ap}
use Rattle.recovery.specs.declared.turn.Turn.TheVariants as turn
use Rattle.recovery.proofs.Phases.{goes_nowhere}
use Rattle.recovery.proofs.Noting.{same_results}
use Rattle.recovery.proofs.Renewing.{life_low}
use Rattle.recovery.proofs.recover.Recover.turn.Goals as goal

pub renew-requires-clause-fits : goal.renew-requires-clause-fits
renew-requires-clause-fits g c = λ lifetimes outlive. rw (c.of-rooted.ensures) c.requires.fits

pub pay-requires-clause-fits : goal.pay-requires-clause-fits
pay-requires-clause-fits g c = λ lifetimes outlive. rw (c.of-rooted.ensures) c.requires.fits

pub reenter-requires-clause-fits : goal.reenter-requires-clause-fits
reenter-requires-clause-fits g c = λ lifetimes outlive. rw (c.of-rooted.ensures) c.requires.fits

pub returns-else-self-clause-goes : goal.returns-else-self-clause-goes
returns-else-self-clause-goes g c = c.elect.ensures.goes _ c.requires.fits

pub returns-in-Finish-clause-goes : goal.returns-in-Finish-clause-goes
returns-in-Finish-clause-goes g c = c.finish.ensures.goes _ c.requires.fits

pub returns-in-Passed-clause-goes : goal.returns-in-Passed-clause-goes
returns-in-Passed-clause-goes g c = goes_nowhere _ _ _ c.args.self.now c.go.new.self c.go.result c.requires.fits (inl c.in-Passed.is) c.requires.credit c.go.ensures.same c.go.ensures.turn

pub returns-in-Over-clause-goes : goal.returns-in-Over-clause-goes
returns-in-Over-clause-goes g c = goes_nowhere _ _ _ c.args.self.now c.args.self.now turn.Done c.requires.fits (inr c.in-Over.is) c.requires.credit (ap (λ p. record c.args.self.now { phase = p }) c.in-Over.is) refl

pub elect-requires-clause-life : goal.elect-requires-clause-life
elect-requires-clause-life g c = let low = life_low (g.T.Steps.setting c.args.steps.now) (g.T.Steps.view c.args.steps.now) c.args.self.now c.requires.sure c.in-Suspect.is c.requires.fits.lives_are c.requires.top in let ne = c.if-self.false in omega (arith, low, ne)

pub returns-else-self-clause-results : goal.returns-else-self-clause-results
returns-else-self-clause-results g c = same_results c.elect.ensures.step

pub returns-in-Renew-clause-results : goal.returns-in-Renew-clause-results
returns-in-Renew-clause-results g c = same_results c.renew.ensures.step

pub returns-in-Finish-clause-results : goal.returns-in-Finish-clause-results
returns-in-Finish-clause-results g c = same_results c.finish.ensures.step

pub returns-in-Owe-clause-results : goal.returns-in-Owe-clause-results
returns-in-Owe-clause-results g c = same_results c.pay.ensures.step

pub returns-in-Reenter-clause-results : goal.returns-in-Reenter-clause-results
returns-in-Reenter-clause-results g c = same_results c.reenter.ensures.step
