use Rattle.std.proofs.Common.{◌≡◌, All, length}
use Rattle.worker_pool.specs.Working.{IsNewWorker}
use Rattle.worker_pool.proofs.pool.new_workers.Given as goal

-- so many workers are new
abbrev pub invariant-loop : goal.invariant-loop
invariant-loop g l = record { count : length l.workers.items ≡ l.counter; new : All (IsNewWorker (g.G.TaskGraph.graph l.graph)) l.workers.items }
