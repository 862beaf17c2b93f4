-- What a path shows of a name is one line of printable text.
use Rattle.std.proofs.Common.{◌≡◌, ℕ, ◌<◌, Bool, true, false, cond, List, [], ◌∷◌, refl, arith}
use Rattle.std.proofs.lemmas.Bool.Decides.{nat_tests}
use Rattle.std.proofs.lemmas.List.{append-nil}
use Rattle.std.proofs.lemmas.Str.{encodes-IsAscii, NoCharPasses-nil, NoCharPasses-append}
use Rattle.std.proofs.lemmas.Str.Ascii.{IsAscii-nil, IsAscii-cons}
use Rattle.std.specs.Prelude.{◌==◌, ◌||◌, ◌/◌, ◌%◌, flat_map, encode_utf8}
use Rattle.std.specs.Char.{is_control}
use Rattle.std.specs.Fmt.{digit_glyph}
use Rattle.std.specs.Str.{chars}
use Rattle.graph_reader.specs.Shown.{escape_of, shown_char, shown_name, IsOneLine}
use Rattle.graph_reader.proofs.Escapes.{control_small}

-- an ASCII character that is no control character, before a line
pub one_more : (c : ℕ) (text : List ℕ) → c < 128 → is_control c ≡ false → IsOneLine text → IsOneLine (c ∷ text)
one_more c text small plain line = NoCharPasses-append is_control (c ∷ []) text (c ∷ [], encodes-IsAscii (c ∷ []) (IsAscii-cons c [] small IsAscii-nil), (plain, tt)) line

no_more : IsOneLine []
no_more = NoCharPasses-nil is_control

glyph_low : (d : ℕ) → d < 16 → digit_glyph false d < 128
glyph_low d small = grind (arith, nat_tests)

glyph_plain : (d : ℕ) → d < 16 → is_control (digit_glyph false d) ≡ false
glyph_plain d small = grind (arith, nat_tests)

escape_line : (c : ℕ) → c < 256 → IsOneLine (escape_of c)
escape_line c small =
    let high : c / 16 < 16 = omega arith in
    let low : c % 16 < 16 = omega arith in
    let glyphs : IsOneLine (digit_glyph false (c / 16) ∷ digit_glyph false (c % 16) ∷ []) =
    one_more (digit_glyph false (c / 16)) (digit_glyph false (c % 16) ∷ []) (glyph_low (c / 16) high) (glyph_plain (c / 16) high)
    (one_more (digit_glyph false (c % 16)) [] (glyph_low (c % 16) low) (glyph_plain (c % 16) low) no_more) in
    one_more 92 _ (omega arith) refl (one_more 117 _ (omega arith) refl (one_more 48 _ (omega arith) refl (one_more 48 _ (omega arith) refl glyphs)))

marked_line : (c : ℕ) → (c == 34 || c == 92) ≡ true → is_control c ≡ false → IsOneLine (92 ∷ c ∷ [])
marked_line c mark plain =
    let small : c < 128 = grind (arith, nat_tests) in
    one_more 92 (c ∷ []) (omega arith) refl (one_more c [] small plain no_more)

char_line : (c : ℕ) (control mark : Bool) → is_control c ≡ control → (c == 34 || c == 92) ≡ mark
    → IsOneLine (cond control (escape_of c) (cond mark (92 ∷ c ∷ []) (encode_utf8 c)))
char_line c true mark control is = escape_line c (control_small c control)
char_line c false true plain mark = marked_line c mark plain
char_line c false false plain no_mark = (c ∷ [], append-nil (encode_utf8 c), (plain, tt))

chars_line : (cs : List ℕ) → IsOneLine (flat_map shown_char cs)
chars_line [] = no_more
chars_line (c ∷ cs) =
    NoCharPasses-append is_control (shown_char c) (flat_map shown_char cs) (char_line c (is_control c) (c == 34 || c == 92) refl refl) (chars_line cs)

pub name_line : (name : List ℕ) → IsOneLine (shown_name name)
name_line name = chars_line (chars name)
