use Rattle.std.proofs.Common.{◌∙◌, ap, sym}
use Rattle.drill_input.specs.Draws.{moved, given}
use Rattle.drill_input.proofs.Listed.{state_more, moves}
use Rattle.drill_input.proofs.draws.Draws.next.Goals as goal

pub returns-clause-state : goal.returns-clause-state
returns-clause-state c = λ number n before. moves c.args.self.now.state ∙ (ap moved before ∙ sym (state_more number n))

pub returns-clause-draw : goal.returns-clause-draw
returns-clause-draw c = λ number n before. ap given (moves c.args.self.now.state ∙ (ap moved before ∙ sym (state_more number n)))
