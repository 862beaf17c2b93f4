use Rattle.drill_input.proofs.Accepting.{accepted}
use Rattle.drill_input.proofs.Limits.{in_limits}
use Rattle.drill_input.proofs.whole.generated.Goals as goal

pub returns-clause-limits : goal.returns-clause-limits
returns-clause-limits c = in_limits c.args.number c.in_ok-tasks.tasks.items c.in_ok-tasks.ensures.tasks

pub returns-clause-accepted : goal.returns-clause-accepted
returns-clause-accepted c = accepted c.args.number c.in_ok-tasks.tasks.items c.in_ok-tasks.ensures.tasks
