use Rattle.drill_input.proofs.Reaching.{count_reached}
use Rattle.drill_input.proofs.law.needed.Goals as goal

pub returns : goal.returns
returns c = record { count = λ number g outcome n drill counted. count_reached number g outcome drill n counted }
