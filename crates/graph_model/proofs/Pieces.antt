-- The pieces of a list of cells, by the places where they end.
use Rattle.std.proofs.Common.{◌≡◌, ℕ, zero, suc, ◌+◌, ◌-◌, ◌<◌, ◌≤◌, ℤ, List, [], ◌∷◌, ◌++◌, length, take, drop, get_or, slice_get, slice_range, Some, refl, sym, ap, ◌∙◌, arith, length-drop, length-take}
use Rattle.std.proofs.lemmas.List.{drop_at, drop-append-le, drop-drop, take-append-le, take_all}
use Rattle.std.specs.List.{flat_map}
use Rattle.graph_model.specs.Gathered.{pieces, cells_in, IsRising}

pub length_pieces : (from : ℕ) (ends : List ℕ) (cells : List ℤ) → length (pieces from ends cells) ≡ length ends
length_pieces from [] cells = refl
length_pieces from (end ∷ ends) cells = ap suc (length_pieces end ends cells)

pub rising_below : (from : ℕ) (ends : List ℕ) (last : ℕ) → IsRising from ends last → from ≤ last
rising_below from [] last up = omega (arith, up)
rising_below from (end ∷ ends) last up = omega (arith, up.0, rising_below end ends last up.1)

pub start_below : (from : ℕ) (ends : List ℕ) (last i : ℕ) → IsRising from ends last → i < length ends → get_or (from ∷ ends) i 0 ≤ get_or ends i 0
start_below from [] last i up inside = absurd (omega arith)
start_below from (end ∷ ends) last zero up inside = up.0
start_below from (end ∷ ends) last (suc i) up inside = start_below end ends last i up.1 (omega arith)

pub end_below : (from : ℕ) (ends : List ℕ) (last i : ℕ) → IsRising from ends last → i < length ends → get_or ends i 0 ≤ last
end_below from [] last i up inside = absurd (omega arith)
end_below from (end ∷ ends) last zero up inside = rising_below end ends last up.1
end_below from (end ∷ ends) last (suc i) up inside = end_below end ends last i up.1 (omega arith)

pub piece : (from : ℕ) (ends : List ℕ) (cells : List ℤ) (i : ℕ) → i < length ends
    → slice_get (pieces from ends cells) i ≡ Some (slice_range cells (get_or (from ∷ ends) i 0) (get_or ends i 0))
piece from [] cells i inside = absurd (omega arith)
piece from (end ∷ ends) cells zero inside = refl
piece from (end ∷ ends) cells (suc i) inside = piece end ends cells i (omega arith)

length_piece : (cells : List ℤ) (from end : ℕ) → from ≤ end → end ≤ length cells → length (slice_range cells from end) + from ≡ end
length_piece cells from end up inside = omega (arith, length-take (end - from) (drop from cells), length-drop from cells)

-- the pieces have all cells from the first place to the last
pub held : (from : ℕ) (ends : List ℕ) (last : ℕ) (cells : List ℤ) → IsRising from ends last → last ≤ length cells → cells_in (pieces from ends cells) + from ≡ last
held from [] last cells up inside = omega (arith, up)
held from (end ∷ ends) last cells up inside =
    omega (arith, held end ends last cells up.1 inside, length_piece cells from end up.0 (omega (arith, rising_below end ends last up.1)))

last_piece : (cells more : List ℤ) (from : ℕ) → from ≡ length cells → slice_range (cells ++ more) from (length cells + length more) ≡ more
last_piece cells more from at = rw (drop_at cells more from (sym at)) (take_all _ more (omega arith))

same_piece : (cells more : List ℤ) (from end : ℕ) → from ≤ end → end ≤ length cells → slice_range (cells ++ more) from end ≡ slice_range cells from end
same_piece cells more from end up inside =
    let low : from ≤ length cells = omega arith in
    rw (drop-append-le from cells more low) (take-append-le (end - from) (drop from cells) more (omega (arith, length-drop from cells)))

-- one more list behind the others
pub pieces-push : (from : ℕ) (ends : List ℕ) (cells more : List ℤ) → IsRising from ends (length cells)
    → pieces from (ends ++ (length cells + length more) ∷ []) (cells ++ more) ≡ pieces from ends cells ++ more ∷ []
pieces-push from [] cells more up = ap (λ x. x ∷ []) (last_piece cells more from up)
pieces-push from (end ∷ ends) cells more up =
    rw (same_piece cells more from end up.0 (rising_below end ends (length cells) up.1), pieces-push end ends cells more up.1) refl

pub rising-push : (from : ℕ) (ends : List ℕ) (last more : ℕ) → IsRising from ends last → IsRising from (ends ++ (last + more) ∷ []) (last + more)
rising-push from [] last more up = (omega (arith, up), refl)
rising-push from (end ∷ ends) last more up = (up.0, rising-push end ends last more up.1)

drop_all : (cells : List ℤ) (n : ℕ) → n ≡ length cells → drop n cells ≡ []
drop_all [] zero all = refl
drop_all [] (suc n) all = refl
drop_all (z ∷ cells) zero all = absurd (omega arith)
drop_all (z ∷ cells) (suc n) all = drop_all cells n (omega arith)

parts : (cells : List ℤ) (n : ℕ) → take n cells ++ drop n cells ≡ cells
parts [] zero = refl
parts [] (suc n) = refl
parts (z ∷ cells) zero = refl
parts (z ∷ cells) (suc n) = ap (λ zs. z ∷ zs) (parts cells n)

two_parts : (cells : List ℤ) (n m : ℕ) → n ≤ m → take (m - n) (drop n cells) ++ drop m cells ≡ drop n cells
two_parts cells n m up =
    let at : n + (m - n) ≡ m = omega arith in
    let rest : drop (m - n) (drop n cells) ≡ drop m cells = drop-drop (m - n) n cells ∙ ap (λ k. drop k cells) at in
    ap (λ zs. take (m - n) (drop n cells) ++ zs) (sym rest) ∙ parts (drop n cells) (m - n)

-- the pieces, one behind the other, are all cells from the first place on
pub joined : (from : ℕ) (ends : List ℕ) (cells : List ℤ) → IsRising from ends (length cells) → flat_map (λ piece. piece) (pieces from ends cells) ≡ drop from cells
joined from [] cells up = sym (drop_all cells from up)
joined from (end ∷ ends) cells up =
    ap (λ rest. slice_range cells from end ++ rest) (joined end ends cells up.1) ∙ two_parts cells from end up.0
