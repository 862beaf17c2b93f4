use Rattle.std.proofs.Common.{◌≡◌, ℕ, ◌<◌, get_or, length}
use Rattle.std.specs.Mem.Slots.{slots_items}
use Rattle.task_table.proofs.ending.copied_words.Given as goal

-- the words so far
abbrev pub invariant-loop-i : goal.invariant-loop-i
invariant-loop-i l = (length l.words.items ≡ length l.fn.room.items) × ((k : ℕ) → k < l.i → get_or l.words.items k 0 ≡ get_or (slots_items l.closed.words) k 0)
