-- The first line of a text, and the first word of a line.
use Rattle.std.proofs.Common.{◌≡◌, ◌≢◌, ℕ, zero, suc, ◌-◌, ◌<◌, ◌≤◌, List, [], ◌∷◌, length, get_or, take, drop, true, false, refl, ap, sym, ◌∙◌, arith, inl, inr, length-drop}
use Rattle.std.proofs.lemmas.Bool.{cases_eq, eq-eqb, ne_eqb}
use Rattle.apsp_graph.specs.Lines.{lines_of, words_of, without_return, onto, starts_with_newline, ends_word}

-- ---- one byte of a line
newline_first : (b : ℕ) (bs : List ℕ) → b ≡ 10 → lines_of (b ∷ bs) ≡ [] ∷ lines_of bs
unfolding lines_of
newline_first b bs e = rw (eq-eqb b 10 e) refl

return_dropped : (b : ℕ) (bs : List ℕ) → b ≡ 13 → starts_with_newline bs ≡ true → lines_of (b ∷ bs) ≡ lines_of bs
unfolding lines_of
return_dropped b bs e h = let ne : b ≢ 10 = omega arith in rw (ne_eqb b 10 ne, eq-eqb b 13 e, h) refl

return_kept : (b : ℕ) (bs : List ℕ) → b ≢ 10 → starts_with_newline bs ≡ false → lines_of (b ∷ bs) ≡ onto b (lines_of bs)
unfolding lines_of
return_kept b bs ne h = elim (cases_eq b 13) [
  | inl e ↦ rw (ne_eqb b 10 ne, eq-eqb b 13 e, h) refl
  | inr ne' ↦ rw (ne_eqb b 10 ne, ne_eqb b 13 ne') refl
]

other_kept : (b : ℕ) (bs : List ℕ) → b ≢ 10 → b ≢ 13 → lines_of (b ∷ bs) ≡ onto b (lines_of bs)
unfolding lines_of
other_kept b bs ne ne' = rw (ne_eqb b 10 ne, ne_eqb b 13 ne') refl

pub no_lines : (bs : List ℕ) → length bs ≡ 0 → lines_of bs ≡ []
unfolding lines_of
no_lines [] e = refl
no_lines (b ∷ bs) e = absurd (omega arith)

no_more : lines_of [] ≡ []
unfolding lines_of
no_more = refl

-- ---- the last line
pub last_line : (bs : List ℕ) → 0 < length bs → ((k : ℕ) → k < length bs → get_or bs k 0 ≢ 10) → lines_of bs ≡ bs ∷ []
last_line [] some h = absurd (omega arith)
last_line (b ∷ []) some h = return_kept b [] (h 0 (omega arith)) refl ∙ ap (onto b) no_more
last_line (b ∷ c ∷ bs) some h =
    return_kept b (c ∷ bs) (h 0 (omega arith)) (ne_eqb c 10 (h 1 (omega arith)))
    ∙ ap (onto b) (last_line (c ∷ bs) (omega arith) (λ k lt. h (suc k) (omega arith)))

-- ---- a line with its newline
lone_return : (b : ℕ) → b ≡ 13 → without_return (b ∷ []) ≡ []
unfolding without_return
lone_return b e = rw (eq-eqb b 13 e) refl

lone_byte : (b : ℕ) → b ≢ 13 → without_return (b ∷ []) ≡ b ∷ []
unfolding without_return
lone_byte b ne = rw (ne_eqb b 13 ne) refl

longer : (b c : ℕ) (bs : List ℕ) → without_return (b ∷ c ∷ bs) ≡ b ∷ without_return (c ∷ bs)
unfolding without_return
longer b c bs = refl

without_nothing : without_return [] ≡ []
unfolding without_return
without_nothing = refl

pub line_first : (bs : List ℕ) (end : ℕ) → end < length bs → ((k : ℕ) → k < end → get_or bs k 0 ≢ 10) → get_or bs end 0 ≡ 10
    → lines_of bs ≡ without_return (take end bs) ∷ lines_of (drop (suc end) bs)
line_first [] end lt before at = absurd (omega arith)
line_first (b ∷ bs) zero lt before at = newline_first b bs at ∙ ap (λ l. l ∷ lines_of bs) (sym without_nothing)
line_first (b ∷ []) (suc end) lt before at = absurd (omega arith)
line_first (b ∷ c ∷ bs) (suc zero) lt before at = elim (cases_eq b 13) [
  | inl e ↦ return_dropped b (c ∷ bs) e (eq-eqb c 10 at) ∙ newline_first c bs at ∙ ap (λ l. l ∷ lines_of bs) (sym (lone_return b e))
  | inr ne ↦ other_kept b (c ∷ bs) (before 0 (omega arith)) ne ∙ ap (onto b) (newline_first c bs at) ∙ ap (λ l. l ∷ lines_of bs) (sym (lone_byte b ne))
]
line_first (b ∷ c ∷ bs) (suc (suc end)) lt before at =
    return_kept b (c ∷ bs) (before 0 (omega arith)) (ne_eqb c 10 (before 1 (omega arith)))
    ∙ ap (onto b) (line_first (c ∷ bs) (suc end) (omega arith) (λ k h. before (suc k) (omega arith)) at)
    ∙ ap (λ l. l ∷ lines_of (drop (suc end) bs)) (sym (longer b c (take end bs)))

pub line_first_at : (bs : List ℕ) (end next : ℕ) → next ≡ suc end → end < length bs → ((k : ℕ) → k < end → get_or bs k 0 ≢ 10) → get_or bs end 0 ≡ 10
    → lines_of bs ≡ without_return (take end bs) ∷ lines_of (drop next bs)
line_first_at bs end next e lt before at = line_first bs end lt before at ∙ ap (λ v. without_return (take end bs) ∷ lines_of (drop v bs)) (sym e)

-- ---- what without_return is, by the last byte
return_ends_at : (bs : List ℕ) (n : ℕ) → length bs ≡ suc n → get_or bs n 0 ≡ 13 → without_return bs ≡ take n bs
return_ends_at [] n e at = absurd (omega arith)
return_ends_at (b ∷ []) zero e at = lone_return b at
return_ends_at (b ∷ []) (suc n) e at = absurd (omega arith)
return_ends_at (b ∷ c ∷ bs) zero e at = absurd (omega arith)
return_ends_at (b ∷ c ∷ bs) (suc n) e at = longer b c bs ∙ ap (λ l. b ∷ l) (return_ends_at (c ∷ bs) n (omega arith) at)

pub return_ends : (bs : List ℕ) → 0 < length bs → get_or bs (length bs - 1) 0 ≡ 13 → without_return bs ≡ take (length bs - 1) bs
return_ends bs some at = return_ends_at bs (length bs - 1) (omega arith) at

no_return_at : (bs : List ℕ) (n : ℕ) → length bs ≡ suc n → get_or bs n 0 ≢ 13 → without_return bs ≡ bs
no_return_at [] n e at = absurd (omega arith)
no_return_at (b ∷ []) zero e at = lone_byte b at
no_return_at (b ∷ []) (suc n) e at = absurd (omega arith)
no_return_at (b ∷ c ∷ bs) zero e at = absurd (omega arith)
no_return_at (b ∷ c ∷ bs) (suc n) e at = longer b c bs ∙ ap (λ l. b ∷ l) (no_return_at (c ∷ bs) n (omega arith) at)

pub nothing_dropped : (bs : List ℕ) → length bs ≡ 0 → without_return bs ≡ bs
nothing_dropped [] e = without_nothing
nothing_dropped (b ∷ bs) e = absurd (omega arith)

pub no_return : (bs : List ℕ) → 0 < length bs → get_or bs (length bs - 1) 0 ≢ 13 → without_return bs ≡ bs
no_return bs some at = no_return_at bs (length bs - 1) (omega arith) at

-- ---- the rest of a list
take_all : (bs : List ℕ) (m : ℕ) → length bs ≤ m → take m bs ≡ bs
take_all [] zero h = refl
take_all [] (suc m) h = refl
take_all (b ∷ bs) zero h = absurd (omega arith)
take_all (b ∷ bs) (suc m) h = ap (λ l. b ∷ l) (take_all bs m (omega arith))

pub rest_is : (bs : List ℕ) (n : ℕ) → take (length bs - n) (drop n bs) ≡ drop n bs
rest_is bs n = let e = length-drop n bs in take_all (drop n bs) (length bs - n) (omega (arith, e))

pub nothing_left : (bs : List ℕ) (n : ℕ) → n ≡ length bs → drop n bs ≡ []
nothing_left [] zero e = refl
nothing_left [] (suc n) e = refl
nothing_left (b ∷ bs) zero e = absurd (omega arith)
nothing_left (b ∷ bs) (suc n) e = nothing_left bs n (omega arith)

pub last_cut : (bs : List ℕ) (n : ℕ) → n ≡ length bs → 0 < length bs → ((k : ℕ) → k < n → get_or bs k 0 ≢ 10) → lines_of bs ≡ bs ∷ lines_of (drop n bs)
last_cut bs n e some h = last_line bs some (λ k lt. h k (omega arith)) ∙ ap (λ l. bs ∷ l) (sym (ap lines_of (nothing_left bs n e) ∙ no_more))

-- ---- words
space_first : (b : ℕ) (bs : List ℕ) → b ≡ 32 → words_of (b ∷ bs) ≡ words_of bs
unfolding words_of
space_first b bs e = rw (eq-eqb b 32 e) refl

word_ends : (b : ℕ) (bs : List ℕ) → b ≢ 32 → ends_word bs ≡ true → words_of (b ∷ bs) ≡ (b ∷ []) ∷ words_of bs
unfolding words_of
word_ends b bs ne h = rw (ne_eqb b 32 ne, h) refl

word_goes_on : (b : ℕ) (bs : List ℕ) → b ≢ 32 → ends_word bs ≡ false → words_of (b ∷ bs) ≡ onto b (words_of bs)
unfolding words_of
word_goes_on b bs ne h = rw (ne_eqb b 32 ne, h) refl

pub no_words : (bs : List ℕ) → length bs ≡ 0 → words_of bs ≡ []
unfolding words_of
no_words [] e = refl
no_words (b ∷ bs) e = absurd (omega arith)

pub spaces_skipped : (bs : List ℕ) (n : ℕ) → n ≤ length bs → ((k : ℕ) → k < n → get_or bs k 0 ≡ 32) → words_of bs ≡ words_of (drop n bs)
spaces_skipped bs zero le h = refl
spaces_skipped [] (suc n) le h = refl
spaces_skipped (b ∷ bs) (suc n) le h = space_first b bs (h 0 (omega arith)) ∙ spaces_skipped bs n (omega arith) (λ k lt. h (suc k) (omega arith))

pub word_first : (bs : List ℕ) (end : ℕ) → 0 < end → end ≤ length bs → ((k : ℕ) → k < end → get_or bs k 0 ≢ 32) → (end < length bs → get_or bs end 0 ≡ 32)
    → words_of bs ≡ take end bs ∷ words_of (drop end bs)
word_first bs zero some le before at = absurd (omega arith)
word_first [] (suc end) some le before at = absurd (omega arith)
word_first (b ∷ []) (suc zero) some le before at = word_ends b [] (before 0 (omega arith)) refl
word_first (b ∷ []) (suc (suc end)) some le before at = absurd (omega arith)
word_first (b ∷ c ∷ bs) (suc zero) some le before at = word_ends b (c ∷ bs) (before 0 (omega arith)) (eq-eqb c 32 (at (omega arith)))
word_first (b ∷ c ∷ bs) (suc (suc end)) some le before at =
    word_goes_on b (c ∷ bs) (before 0 (omega arith)) (ne_eqb c 32 (before 1 (omega arith)))
    ∙ ap (onto b) (word_first (c ∷ bs) (suc end) (omega arith) (omega arith) (λ k h. before (suc k) (omega arith)) (λ h. at (omega arith)))

-- a word that doesn't begin with a space isn't empty
pub word_here : (bs : List ℕ) (end : ℕ) → 0 < length bs → get_or bs 0 0 ≢ 32 → end ≤ length bs → ((k : ℕ) → k < end → get_or bs k 0 ≢ 32) → (end < length bs → get_or bs end 0 ≡ 32)
    → words_of bs ≡ take end bs ∷ words_of (drop end bs)
word_here bs zero some first le before at = absurd (first (at some))
word_here bs (suc end) some first le before at = word_first bs (suc end) (omega arith) le before at

dropped_first : (bs : List ℕ) (n : ℕ) → get_or (drop n bs) 0 0 ≡ get_or bs n 0
dropped_first bs zero = refl
dropped_first [] (suc n) = refl
dropped_first (b ∷ bs) (suc n) = dropped_first bs n

pub first_byte : (bs : List ℕ) (n : ℕ) → n ≤ length bs → length (take (length bs - n) (drop n bs)) ≢ 0 → (n < length bs → get_or bs n 0 ≢ 32) → get_or (take (length bs - n) (drop n bs)) 0 0 ≢ 32
first_byte bs n le some h =
    let e = rest_is bs n in
    let l = length-drop n bs in
    let m = ap length e in
    let lt : n < length bs = omega (arith, l, m, some) in
    let at = ap (λ (x : List ℕ). get_or x 0 0) e ∙ dropped_first bs n in
    λ k. h lt (sym at ∙ k)
