use Rattle.std.proofs.Common.{arith, refl, length}
use Rattle.std.proofs.lemmas.List.{take_all}
use Rattle.graph_model.proofs.Index.{hits_by_code}
use Rattle.graph_model.proofs.plan.FaultPlan.strikes_at.Goals as goal

pub returns : goal.returns
returns c =
    let plan = c.self.inside.strikes.items in
    let lives = rw (take_all (length plan) plan (omega arith)) at c.self.invariant.2.lives in
    rw (c.target_at.ensures, c.as_slice.ensures.value, c.code_of-code.ensures.code, ← c.self.view_is, hits_by_code c.args.point c.args.key c.args.life plan c.ranges.life.fits lives) refl
