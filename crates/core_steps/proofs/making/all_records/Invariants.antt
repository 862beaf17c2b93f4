use Rattle.std.proofs.Common.{◌≡◌, Bool, take}
use Rattle.core_state.specs.Counts.{count}
use Rattle.core_steps.specs.Table.{stored}
use Rattle.graph_model.specs.declared.record.Record.{Record}
use Rattle.core_steps.proofs.making.all_records.Given as goal

-- the records of the stores so far
abbrev pub invariant-loop-worker : goal.invariant-loop-worker
invariant-loop-worker l = (p : Record → Bool) → count p l.all.items ≡ stored p (take l.worker l.stores)
