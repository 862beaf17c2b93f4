-- Numbers in decimal digits, of any length.
use Rattle.std.specs.Prelude.{ℕ, ◌+◌, ◌-◌, ◌*◌, Bool, nat_le, ◌&&◌, List, [], ◌∷◌, Option, Some, None, min, if◌then◌else◌}

-- whether a byte is a decimal digit
abbrev pub is_digit : ℕ → Bool
is_digit b = nat_le 48 b && nat_le b 57

-- the number whose first digits write n
unfoldable pub number_after : ℕ → List ℕ → Option ℕ
number_after n [] = Some n
number_after n (b ∷ bs) = if is_digit b then number_after (n * 10 + (b - 48)) bs else None

-- the number that a word writes, if it is one or more digits
unfoldable pub number_of : List ℕ → Option ℕ
number_of [] = None
number_of (b ∷ bs) = number_after 0 (b ∷ bs)

-- what the code keeps of a number
abbrev pub capped : ℕ → ℕ
capped n = min n 4294967296
