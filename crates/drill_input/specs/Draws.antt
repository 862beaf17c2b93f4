-- The numbers that are drawn out of a number.
use Rattle.std.specs.Prelude.{ℕ, zero, suc, ◌+◌, ◌*◌, ◌/◌, ◌%◌, ◌^◌}

-- a draw moves the state on
abbrev pub moved : ℕ → ℕ
moved x = (x * 6364136223846793005 + 1442695040888963407) % 2 ^ 64

-- and gives the upper part of the new state
abbrev pub given : ℕ → ℕ
given x = x / 2 ^ 33

-- the state after n draws: it begins as the number
unfoldable pub state : ℕ → ℕ → ℕ
state number zero = number
state number (suc n) = moved (state number n)

-- what the n-th draw gives, counted from 0
abbrev pub draw : ℕ → ℕ → ℕ
draw number n = given (state number (n + 1))
