use Rattle.worker_pool.specs.Threads.{SameStation}
use Rattle.worker_pool.proofs.slot.Station.hint.Given as goal

-- no more than hints have changed
abbrev pub invariant-loop-i : goal.invariant-loop-i
invariant-loop-i l = SameStation l.fn.self l.self
