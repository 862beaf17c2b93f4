-- A worker that is to move: a schedule names it again within its length, and few of its turns before are in vain.
use Rattle.std.specs.Prelude.{◌≡◌, ℕ, ◌+◌, ◌*◌, ◌%◌, ◌<◌, ◌≤◌, List, length, slice_index}

-- the worker has the turn after so many others, where the schedule is dealt again and again
pub record IsNamed (schedule : List ℕ) (turns worker others : ℕ) : Type 0 where
  pub within : others < length schedule
  pub named : slice_index schedule ((turns + others) % length schedule) ≡ worker

-- Of so many turns so many were moves, and the worker moves after at most so many turns of its own in vain: a move comes within three turns of each entry of the schedule.
pub record IsDue (schedule : List ℕ) (turns moves worker vain : ℕ) : Type 0 where
  pub others : ℕ
  pub named : IsNamed schedule turns worker others
  pub in_time : turns + others + vain * length schedule + 1 ≤ 3 * length schedule * (moves + 1)

-- the schedule names the worker
abbrev pub IsListed : List ℕ → ℕ → Type 0
IsListed schedule worker = (i : ℕ) × (i < length schedule) × (slice_index schedule i ≡ worker)
