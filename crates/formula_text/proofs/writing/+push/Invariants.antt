use Rattle.std.proofs.Common.{length}
use Rattle.formula_text.proofs.writing.+push.Given as goal

abbrev pub decreases-push : goal.decreases-push
decreases-push l = length l.code.now
