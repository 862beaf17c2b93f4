use Rattle.std.proofs.Common.{length}
use Rattle.formula_text.proofs.evaluation.+greatest.Given as goal

abbrev pub decreases-greatest : goal.decreases-greatest
decreases-greatest l = length l.code.now
