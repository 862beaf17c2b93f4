use Rattle.std.proofs.Common.{◌≡◌, ℕ, ◌+◌, ◌*◌, length}
use Rattle.graph_model.specs.Plans.{HasTaskKeys}
use Rattle.drill_input.specs.Draws.{state}
use Rattle.drill_input.specs.Drill.{each, drawn_strike}
use Rattle.drill_input.proofs.strikes.plan.Given as goal

abbrev pub invariant-loop : goal.invariant-loop
invariant-loop l = (length l.strikes.items ≡ l.counter) × HasTaskKeys l.strikes.items × ((number : ℕ) → l.fn.draws.state ≡ state number 16256
    → (l.strikes.items ≡ each (drawn_strike number) 0 l.counter) × (l.draws.state ≡ state number (16256 + 3 * l.counter)))
