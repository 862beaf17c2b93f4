use Rattle.std.proofs.Common.{rules}
use Rattle.drill_input.specs.Draws.{state}
use Rattle.drill_input.proofs.draws.Draws.of.Goals as goal

pub returns : goal.returns
unfolding state
returns c = search rules
