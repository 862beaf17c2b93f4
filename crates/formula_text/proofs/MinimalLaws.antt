-- A written text is no longer and no deeper than any other text of its tree.
use Rattle.std.proofs.Common.{◌≡◌, ℕ, suc, ◌+◌, ◌*◌, ◌/◌, ◌%◌, ◌^◌, ◌<◌, ◌≤◌, List, [], ◌∷◌, ◌++◌, length, replicate, refl, ap, arith, inl, inr}
use Rattle.std.specs.Fmt.{decimal}
use Rattle.std.proofs.lemmas.Bool.{cases_lt}
use Rattle.std.proofs.lemmas.Fmt.{decimal_digit, decimal_step}
use Rattle.std.proofs.lemmas.List.{length-append}
use Rattle.formula_text.specs.declared.writing.Line.{Line}
use Rattle.formula_text.specs.declared.writing.Line.TheVariants as lines
use Rattle.formula_text.specs.Trees.{Tree}
use Rattle.formula_text.specs.Writing.{line_of, around, text_of, room_of, room_around, IsWritable, IsWithin}
use Rattle.formula_text.specs.Grammar.{Level, Expression, Term, Factor, plus, less, times, over, rest, IsNumeral, one, more, IsText, sum, term, product, factor, minus, brackets, number, input, call, before, behind, IsFormula}
use Rattle.formula_text.specs.Grammar as grammar

abbrev line : Level → Line
line Expression = lines.Expression
line Term = lines.Term
line Factor = lines.Factor

-- the written text of a tree where a level is wanted
pub record IsMinimal (level : Level) (room : ℕ) (text : List ℕ) (t : Tree) : Type 0 where
  pub writable : IsWritable t
  pub room_fits : room_around (line level) (line_of t) (room_of t) ≤ room
  pub size : length (around (line level) (line_of t) (text_of t)) ≤ length text

more_size : (digits : List ℕ) (n d : ℕ) → length (decimal n) ≤ length digits → d < 10 → 10 * n + d < 2 ^ 63 → length (decimal (10 * n + d)) ≤ length (digits ++ (48 + d) ∷ [])
more_size digits n d h below small =
    elim (cases_lt (10 * n + d) 10) [
      | inl lt ↦ omega (arith, ap length (decimal_digit (10 * n + d) lt), length-append digits ((48 + d) ∷ []))
      | inr le ↦
          let q : (10 * n + d) / 10 ≡ n = omega arith in
          let front : length (decimal ((10 * n + d) / 10)) ≡ length (decimal n) = ap (λ (k : ℕ). length (decimal k)) q in
          omega (arith, front, ap length (decimal_step (10 * n + d) le (omega arith)), length-append (decimal ((10 * n + d) / 10)) ((48 + (10 * n + d) % 10) ∷ []), length-append digits ((48 + d) ∷ []))
    ]

numeral_size : {digits : List ℕ} {n : ℕ} → IsNumeral digits n → n < 2 ^ 63 → length (decimal n) ≤ length digits
numeral_size (one {d} below) small = omega (arith, ap length (decimal_digit d below))
numeral_size (more {digits} {n} {d} h below) small = more_size digits n d (numeral_size h (omega arith)) below small

-- ---- a lower line needs no bracket that a higher one does without

lower_term : (of : Line) (text : List ℕ) → length (around lines.Expression of text) ≤ length (around lines.Term of text)
lower_term lines.Expression text = omega (arith, length-append text (41 ∷ []))
lower_term lines.Term text = omega arith
lower_term lines.Factor text = omega arith

lower_factor : (of : Line) (text : List ℕ) → length (around lines.Term of text) ≤ length (around lines.Factor of text)
lower_factor lines.Expression text = omega arith
lower_factor lines.Term text = omega (arith, length-append text (41 ∷ []))
lower_factor lines.Factor text = omega arith

lower_room_term : (of : Line) (n : ℕ) → room_around lines.Expression of n ≤ room_around lines.Term of n
lower_room_term lines.Expression n = omega arith
lower_room_term lines.Term n = omega arith
lower_room_term lines.Factor n = omega arith

lower_room_factor : (of : Line) (n : ℕ) → room_around lines.Term of n ≤ room_around lines.Factor of n
lower_room_factor lines.Expression n = omega arith
lower_room_factor lines.Term n = omega arith
lower_room_factor lines.Factor n = omega arith

in_brackets : (of : Line) (text : List ℕ) → length (around lines.Factor of text) ≤ length (around lines.Expression of text) + 2
in_brackets lines.Expression text = omega (arith, length-append text (41 ∷ []))
in_brackets lines.Term text = omega (arith, length-append text (41 ∷ []))
in_brackets lines.Factor text = omega arith

room_in_brackets : (of : Line) (n : ℕ) → room_around lines.Factor of n ≤ suc (room_around lines.Expression of n)
room_in_brackets lines.Expression n = omega arith
room_in_brackets lines.Term n = omega arith
room_in_brackets lines.Factor n = omega arith

sign_size : (a b u v : List ℕ) (sign : ℕ) → length u ≤ length a → length v ≤ length b → length (u ++ sign ∷ v) ≤ length (a ++ sign ∷ b)
sign_size a b u v sign h k = omega (arith, length-append u (sign ∷ v), length-append a (sign ∷ b))

call_size : (name a b u v : List ℕ) (n : ℕ) → length u ≤ length a → length v ≤ length b → length (name ++ 40 ∷ (u ++ 44 ∷ (v ++ 41 ∷ []))) ≤ length (name ++ (replicate n 32 ++ 40 ∷ (a ++ 44 ∷ (b ++ 41 ∷ []))))
call_size name a b u v n h k = omega (arith, length-append name (40 ∷ (u ++ 44 ∷ (v ++ 41 ∷ []))), length-append name (replicate n 32 ++ 40 ∷ (a ++ 44 ∷ (b ++ 41 ∷ []))), length-append (replicate n 32) (40 ∷ (a ++ 44 ∷ (b ++ 41 ∷ []))), length-append u (44 ∷ (v ++ 41 ∷ [])), length-append v (41 ∷ []), length-append a (44 ∷ (b ++ 41 ∷ [])), length-append b (41 ∷ []))

-- ---- each rule

pub minimal : {level : Level} {room : ℕ} {text : List ℕ} {t : Tree} → IsText level room text t → IsMinimal level room text t
minimal (sum {room} {a} {b} {x} {y} ha plus hb) =
    let l = minimal ha in let r = minimal hb in
    record { writable = (l.writable, r.writable); room_fits = omega (arith, l.room_fits, r.room_fits); size = sign_size a b (around lines.Expression (line_of x) (text_of x)) (around lines.Term (line_of y) (text_of y)) 43 l.size r.size }
minimal (sum {room} {a} {b} {x} {y} ha less hb) =
    let l = minimal ha in let r = minimal hb in
    record { writable = (l.writable, r.writable); room_fits = omega (arith, l.room_fits, r.room_fits); size = sign_size a b (around lines.Expression (line_of x) (text_of x)) (around lines.Term (line_of y) (text_of y)) 45 l.size r.size }
minimal (term {room} {a} {x} h) =
    let l = minimal h in
    record { writable = l.writable; room_fits = omega (arith, l.room_fits, lower_room_term (line_of x) (room_of x)); size = omega (arith, l.size, lower_term (line_of x) (text_of x)) }
minimal (product {room} {a} {b} {x} {y} ha times hb) =
    let l = minimal ha in let r = minimal hb in
    record { writable = (l.writable, r.writable); room_fits = omega (arith, l.room_fits, r.room_fits); size = sign_size a b (around lines.Term (line_of x) (text_of x)) (around lines.Factor (line_of y) (text_of y)) 42 l.size r.size }
minimal (product {room} {a} {b} {x} {y} ha over hb) =
    let l = minimal ha in let r = minimal hb in
    record { writable = (l.writable, r.writable); room_fits = omega (arith, l.room_fits, r.room_fits); size = sign_size a b (around lines.Term (line_of x) (text_of x)) (around lines.Factor (line_of y) (text_of y)) 47 l.size r.size }
minimal (product {room} {a} {b} {x} {y} ha rest hb) =
    let l = minimal ha in let r = minimal hb in
    record { writable = (l.writable, r.writable); room_fits = omega (arith, l.room_fits, r.room_fits); size = sign_size a b (around lines.Term (line_of x) (text_of x)) (around lines.Factor (line_of y) (text_of y)) 37 l.size r.size }
minimal (factor {room} {a} {x} h) =
    let l = minimal h in
    record { writable = l.writable; room_fits = omega (arith, l.room_fits, lower_room_factor (line_of x) (room_of x)); size = omega (arith, l.size, lower_factor (line_of x) (text_of x)) }
minimal (minus {room} {a} {x} h) =
    let l = minimal h in
    record { writable = l.writable; room_fits = omega (arith, l.room_fits); size = omega (arith, l.size) }
minimal (brackets {room} {a} {x} h) =
    let l = minimal h in
    record { writable = l.writable; room_fits = omega (arith, l.room_fits, room_in_brackets (line_of x) (room_of x)); size = omega (arith, l.size, in_brackets (line_of x) (text_of x), length-append a (41 ∷ [])) }
minimal (number h small) = record { writable = small; room_fits = omega arith; size = numeral_size h small }
minimal (input {room} {digits} {n} h small) = record { writable = small; room_fits = omega arith; size = omega (arith, numeral_size h (omega arith)) }
minimal (call {room} {name} {a} {b} {x} {y} n grammar.min ha hb) =
    let l = minimal ha in let r = minimal hb in
    record { writable = (l.writable, r.writable); room_fits = omega (arith, l.room_fits, r.room_fits); size = call_size (109 ∷ 105 ∷ 110 ∷ []) a b (around lines.Expression (line_of x) (text_of x)) (around lines.Expression (line_of y) (text_of y)) n l.size r.size }
minimal (call {room} {name} {a} {b} {x} {y} n grammar.max ha hb) =
    let l = minimal ha in let r = minimal hb in
    record { writable = (l.writable, r.writable); room_fits = omega (arith, l.room_fits, r.room_fits); size = call_size (109 ∷ 97 ∷ 120 ∷ []) a b (around lines.Expression (line_of x) (text_of x)) (around lines.Expression (line_of y) (text_of y)) n l.size r.size }
minimal (before {level} {room} {a} {x} h) =
    let l = minimal h in
    record { writable = l.writable; room_fits = l.room_fits; size = omega (arith, l.size) }
minimal (behind {level} {room} {a} {x} h) =
    let l = minimal h in
    record { writable = l.writable; room_fits = l.room_fits; size = omega (arith, l.size, length-append a (32 ∷ [])) }

room_whole : (of : Line) (n : ℕ) → room_around lines.Expression of n ≡ n
room_whole lines.Expression n = refl
room_whole lines.Term n = refl
room_whole lines.Factor n = refl

text_whole : (of : Line) (text : List ℕ) → around lines.Expression of text ≡ text
text_whole lines.Expression text = refl
text_whole lines.Term text = refl
text_whole lines.Factor text = refl

-- the tree of each text within the limits can be written within them
pub is_within : (text : List ℕ) (t : Tree) → IsFormula text t → IsWithin t
is_within text t f =
    let m = minimal f.whole in
    record {
      writable = m.writable;
      deep = omega (arith, m.room_fits, room_whole (line_of t) (room_of t));
      long = omega (arith, m.size, f.size, ap length (text_whole (line_of t) (text_of t)));
    }
