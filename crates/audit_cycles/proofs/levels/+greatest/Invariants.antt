use Rattle.std.proofs.Common.{length}
use Rattle.audit_cycles.proofs.levels.+greatest.Given as goal

abbrev pub decreases-greatest : goal.decreases-greatest
decreases-greatest l = length l.places.now
