use Rattle.std.proofs.Common.{arith}
use Rattle.graph_reader.specs.Faults.{range}
use Rattle.graph_reader.specs.Format.{strike_check, is_among}
use Rattle.graph_reader.proofs.Counted.{counted_few}
use Rattle.graph_reader.proofs.strikes.strikes.Goals as goal

pub returns-in-Some : goal.returns-in-Some
returns-in-Some c =
    let each = rw c.as_slice.ensures.value at c.each_strike.ensures in
    rw (← c.in-Some.ensures, counted_few 4096 range (strike_check (is_among c.args.keys.now)) c.in-Some.items.now.items (omega arith)) each
