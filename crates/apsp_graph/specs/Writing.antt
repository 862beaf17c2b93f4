-- The text of the least weights.
use Rattle.std.specs.Prelude.{ℕ, zero, suc, ◌*◌, ◌==◌, ℤ, pos, negsuc, List, [], ◌∷◌, ◌++◌, take, drop, if◌then◌else◌}
use Rattle.std.specs.Fmt.{decimal, signed_decimal}

-- a weight, or `-` for the greatest number, which stands for no walk
abbrev pub item_of : ℤ → List ℕ
item_of (pos n) = if n == 9223372036854775807 then 45 ∷ [] else decimal n
item_of (negsuc n) = signed_decimal (negsuc n)

-- weights with a space before each
unfoldable pub spaced : List ℤ → List ℕ
spaced [] = []
spaced (w ∷ ws) = 32 ∷ (item_of w ++ spaced ws)

-- weights with one space between them, and a newline
unfoldable pub line_of : List ℤ → List ℕ
line_of [] = 10 ∷ []
line_of (w ∷ ws) = item_of w ++ spaced ws ++ 10 ∷ []

-- the first n cells of the first rows, a line each, of rows that are so wide
unfoldable pub lines_to : ℕ → ℕ → List ℤ → ℕ → List ℕ
lines_to wide n cells zero = []
lines_to wide n cells (suc i) = lines_to wide n cells i ++ line_of (take n (drop (i * wide) cells))

-- the first n cells of the first n rows, a line each, of rows that are so wide
abbrev pub text_of : ℕ → ℕ → List ℤ → List ℕ
text_of wide n cells = lines_to wide n cells n
