use Rattle.std.proofs.Common.{◌≤◌, ◌<◌}
use Rattle.io_edge.specs.Causes.{Rose}
use Rattle.io_edge.proofs.standard.StdSink.flush.Given as goal

-- the count has not fallen, and has risen once a call has failed
abbrev pub invariant-loop-call : goal.invariant-loop-call
invariant-loop-call g l =
    (l.initial.self-inside.faults ≤ l.self-inside.faults)
    × (0 < l._call → Rose l.initial.self-inside.faults l.self-inside.faults)
