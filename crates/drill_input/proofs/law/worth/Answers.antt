use Rattle.std.proofs.Common.{◌∙◌, ◌∷◌, [], ℤ, ap, arith}
use Rattle.std.proofs.lemmas.Int.{ints}
use Rattle.drill_input.proofs.Serially.{serial_sink, serial_numbered, serial_version}
use Rattle.drill_input.proofs.law.worth.Goals as goal

pub returns-clause-sink : goal.returns-clause-sink
returns-clause-sink c = λ g outcome drill. serial_sink c.args.number g outcome drill (omega arith) ∙ ap (λ (z : ℤ). z ∷ []) (omega (arith, ints, c.from.ensures))

pub returns-clause-numbered : goal.returns-clause-numbered
returns-clause-numbered c = λ g outcome k drill. serial_numbered c.args.number g outcome drill (omega arith) k

pub returns-clause-versions : goal.returns-clause-versions
returns-clause-versions c = λ g outcome i drill. serial_version c.args.number g outcome drill (omega arith) i
