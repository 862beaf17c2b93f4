-- What a path shows of a character.
use Rattle.std.proofs.Common.{arith, ◌≡◌, ℕ, ◌<◌, ◌^◌, ◌-◌, List, [], ◌∷◌, ◌++◌, true, false, cond, Result, Ok, Err, is_ok, OnOk, refl}
use Rattle.std.specs.Char.{is_control}
use Rattle.std.specs.Fmt.{digits, padded_integral, format_spec}
use Rattle.std.proofs.lemmas.Fmt.{hex_byte}
use Rattle.graph_reader.specs.Shown.{shown_char}

pub control_small : (c : ℕ) → is_control c ≡ true → c < 256
control_small c is = grind arith

-- a control character is shown by its escape, with the digits that are written
pub shown_control : (c : ℕ) → is_control c ≡ true
    → 92 ∷ 117 ∷ 48 ∷ 48 ∷ padded_integral (format_spec 32 0 4 2 (2 ^ 64 - 1)) false [] (digits 16 false c) ≡ shown_char c
shown_control c is = rw (is, hex_byte false c (control_small c is)) refl

-- text that was appended, where it was
pub appended : {X E : Type 0} (r : Result X E) (new old more : List ℕ) → new ≡ cond (is_ok r) (old ++ more) old → OnOk r (new ≡ old ++ more)
appended (Ok x) new old more is = is
appended (Err e) new old more is = tt
