-- Names of a file, as a path shows them.
use Rattle.std.specs.Prelude.{ℕ, false, ◌==◌, ◌||◌, ◌/◌, ◌%◌, List, [], ◌∷◌, if◌then◌else◌, flat_map, encode_utf8}
use Rattle.std.specs.Char.{is_control}
use Rattle.std.specs.Fmt.{digit_glyph}
use Rattle.std.specs.Str.{chars, NoCharPasses}

-- `\u` and the four lower-case hex digits of a control character, which is below 256
abbrev pub escape_of : ℕ → List ℕ
escape_of c = 92 ∷ 117 ∷ 48 ∷ 48 ∷ digit_glyph false (c / 16) ∷ digit_glyph false (c % 16) ∷ []

-- a control character (below U+0020, and U+007F to U+009F) as its escape, `"` and `\` behind a `\`, and all others as they are
abbrev pub shown_char : ℕ → List ℕ
shown_char c = if is_control c then escape_of c else (if c == 34 || c == 92 then 92 ∷ c ∷ [] else encode_utf8 c)

-- a name, character by character
abbrev pub shown_name : List ℕ → List ℕ
shown_name name = flat_map shown_char (chars name)

-- one line of printable text: no character of it is a control character
abbrev pub IsOneLine : List ℕ → Type 0
IsOneLine text = NoCharPasses is_control text
