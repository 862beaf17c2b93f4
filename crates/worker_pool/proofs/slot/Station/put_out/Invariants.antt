use Rattle.worker_pool.specs.Threads.{SameStation}
use Rattle.worker_pool.proofs.slot.Station.put_out.Given as goal

-- no more than hints have changed
abbrev pub invariant-loop : goal.invariant-loop
invariant-loop l = SameStation l.fn.self l.self
