use Rattle.std.proofs.Common.{◌≤◌, ◌<◌, ◌-◌, length}
use Rattle.io_edge.specs.Bytes.{Took}
use Rattle.io_edge.proofs.whole.read_all.Given as goal

-- the bytes so far were the next ones, and the count of faults has not fallen
abbrev pub invariant-pieces : goal.invariant-pieces
invariant-pieces g l =
    Took (g.S.Source.left l.fn.source) (g.S.Source.left l.source) l.bytes.items
    × (length l.bytes.items ≤ l.limit)
    × (0 < length l.buf.items)
    × (g.S.Source.faults l.fn.source ≤ g.S.Source.faults l.source)

abbrev pub decreases-pieces : goal.decreases-pieces
decreases-pieces g l = l.limit - length l.bytes.items
