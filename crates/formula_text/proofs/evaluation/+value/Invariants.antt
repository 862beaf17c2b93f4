use Rattle.std.proofs.Common.{length}
use Rattle.formula_text.proofs.evaluation.+value.Given as goal

abbrev pub decreases-value : goal.decreases-value
decreases-value l = length l.code.now
