-- A word whose bits between the mark and the life are 0 is the packed word of what it shows.
use Rattle.std.proofs.Common.{◌≡◌, ℕ, ◌+◌, ◌%◌, ◌^◌, ◌<◌, arith}
use Rattle.core_state.specs.Words.{life_of, mark_of, closed_bit, empty_word}

-- an unmarked open notify word of a life is the life's empty word with the ports
pub open_word : (n l : ℕ) → n % 2 ^ 48 < 2 ^ 42 → mark_of n ≡ 0 → closed_bit n ≡ 0 → life_of n ≡ l → n ≡ empty_word l + n % 2 ^ 40
open_word n l low unmarked opened life = omega (arith, low, unmarked, opened, life)
