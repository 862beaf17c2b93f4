use Rattle.std.proofs.Common.{arith}
use Rattle.core_steps.proofs.Recording.{one_at_most}
use Rattle.core_steps.proofs.plain.PlainTable.strike_notify.Goals as goal

pub returns-clause-room : goal.returns-clause-room
returns-clause-room g c = let a = c.step_with.ensures.room in let b = one_at_most c.struck_entry-entry.result in omega (arith, a, b)
