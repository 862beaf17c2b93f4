use Rattle.std.proofs.Common.{◌≡◌, length}
use Rattle.core_steps.specs.Table.{IsBare}
use Rattle.core_steps.proofs.making.new_stores.Given as goal

-- the stores so far
abbrev pub invariant-loop-worker : goal.invariant-loop-worker
invariant-loop-worker l = (length l.stores.items ≡ l._worker) × IsBare l.stores.items
