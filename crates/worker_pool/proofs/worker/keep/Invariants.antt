use Rattle.std.proofs.Common.{ℕ, ◌+◌, ◌<◌, ◌≤◌, All, length}
use Rattle.std.specs.VecDeque.{deque_capacity, deque_len}
use Rattle.worker_pool.proofs.Sharing.Hints.{IsKeeping}
use Rattle.worker_pool.proofs.worker.keep.Given as goal

-- all that is kept and all that is left to keep are rows, where they were at the beginning; no row is lost, and there is room for those that are left
abbrev pub invariant-loop-row : goal.invariant-loop-row
invariant-loop-row l = record {
  are_rows : (rows : ℕ) → All (λ row. row < rows) l.initial.hints.items → All (λ row. row < rows) l.initial.posted → All (λ row. row < rows) l.hints.items × All (λ row. row < rows) l.posted;
  keeping : IsKeeping l.initial.hints.items l.initial.posted l.hints.items l.posted;
  room : deque_len l.hints + length l.posted ≤ deque_capacity l.hints;
}

abbrev pub decreases-loop-row : goal.decreases-loop-row
decreases-loop-row l = length l.posted
