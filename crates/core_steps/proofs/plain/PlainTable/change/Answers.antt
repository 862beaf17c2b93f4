-- The new fields are the table after the step.
use Rattle.std.proofs.Common.{sym, subst}
use Rattle.core_steps.specs.Table.{IsSound, stepped_by}
use Rattle.core_steps.proofs.plain.PlainTable.change.Goals as goal

pub invariant_of-self : goal.invariant_of-self
invariant_of-self g c = let e = g.C.Course.setting in
    rw (c.of-views.ensures) (subst (λ p. IsSound e (stepped_by e p c.args.worker c.args.kind c.args.word.at c.args.word.found c.args.left)) (sym c.self.view_is) c.requires.sound)
