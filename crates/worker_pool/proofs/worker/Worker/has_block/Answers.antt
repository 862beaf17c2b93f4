use Rattle.std.proofs.Common.{subst}
use Rattle.worker_pool.specs.Working.{WorkHolds}
use Rattle.worker_pool.proofs.worker.Worker.has_block.Goals as goal

pub returns-in-Busy : goal.returns-in-Busy
returns-in-Busy c = record { none = λ none g e v holds. c.has_block.ensures.none none g e v (subst (WorkHolds g e v) c.in-Busy.is holds.work).0; some = λ some g e v holds. c.has_block.ensures.some some g e v (subst (WorkHolds g e v) c.in-Busy.is holds.work).0 }
