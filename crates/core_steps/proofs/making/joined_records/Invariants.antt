use Rattle.core_steps.proofs.Growing.{IsJoined}
use Rattle.core_steps.proofs.making.joined_records.Given as goal

-- the records of the stores so far
abbrev pub invariant-loop-i : goal.invariant-loop-i
invariant-loop-i l = IsJoined l.fn.stores.items l.rest.items l.i l.all
