use Rattle.std.proofs.Common.{◌≡◌, ℕ, ◌+◌, ◌-◌, ◌<◌, ◌≤◌, cond, eqb, false, get_or, length, None}
use Rattle.std.specs.Prelude.{vec_capacity}
use Rattle.std.specs.Mem.Slots.{slots_filled, slots_items, slots_len}
use Rattle.std.specs.Mem.Slots.Ownership.{Filled}
use Rattle.task_table.proofs.ending.home_blocks.Given as goal

-- the blocks so far, and the slots that are left
abbrev pub invariant-loop-i : goal.invariant-loop-i
invariant-loop-i l = record {
  left : Filled (slots_filled l.closed.slots) l.i (slots_len l.closed.slots);
  gone : (k : ℕ) → k < l.i → get_or (slots_filled l.closed.slots) k false ≡ false;
  same : (slots_items l.closed.slots ≡ slots_items l.fn.closed.slots) × (slots_len l.closed.slots ≡ slots_len l.fn.closed.slots);
  room : (length l.blocks.items ≡ l.i) × (slots_len l.closed.slots ≤ vec_capacity l.blocks) × (l.i ≤ slots_len l.closed.slots);
  home : (b : ℕ) → b < l.i → get_or l.blocks.items b None ≡ cond (eqb (get_or l.words (l.turns + b) 0) 0) (get_or (slots_items l.closed.slots) b None) None;
}

abbrev pub decreases-loop-i : goal.decreases-loop-i
decreases-loop-i l = slots_len l.closed.slots - l.i
