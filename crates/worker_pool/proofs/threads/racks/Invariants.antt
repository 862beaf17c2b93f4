use Rattle.std.proofs.Common.{◌≡◌, All, [], length}
use Rattle.worker_pool.proofs.threads.racks.Given as goal

-- so many racks have no posted hint
abbrev pub invariant-loop-number : goal.invariant-loop-number
invariant-loop-number l = record { count : length l.racks.items ≡ l.number; posted : All (λ r. r.posted ≡ []) l.racks.items }
