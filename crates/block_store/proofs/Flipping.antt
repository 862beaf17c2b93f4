-- A list of cells of which the first ones were complemented.
use Rattle.std.proofs.Common.{◌≡◌, ◌∙◌, ℕ, zero, suc, ℤ, pos, ◌+◌, ◌<◌, ◌≤◌, List, [], ◌∷◌, length, map, slice_index_or, slice_set, sym, ap, subst, refl, add-one, arith, take, drop, ◌++◌}
use Rattle.std.proofs.Math.Seq.{take-append_seam}
use Rattle.core_state.specs.Guards.{flipped}

abbrev pub flipped_to : ℕ → List ℤ → List ℤ
flipped_to zero xs = xs
flipped_to (suc i) [] = []
flipped_to (suc i) (x ∷ xs) = flipped x ∷ flipped_to i xs

-- one more is complemented
next_flipped : (i : ℕ) (xs : List ℤ) → i < length xs → slice_set (flipped_to i xs) i (flipped (slice_index_or (flipped_to i xs) i (pos 0))) ≡ flipped_to (suc i) xs
next_flipped zero [] low = absurd (omega (arith, low))
next_flipped zero (x ∷ xs) low = refl
next_flipped (suc i) [] low = absurd (omega (arith, low))
next_flipped (suc i) (x ∷ xs) low = let rest : i < length xs = omega (arith, low) in ap (λ (ys : List ℤ). flipped x ∷ ys) (next_flipped i xs rest)

pub one_flipped : (i : ℕ) (xs ys zs : List ℤ) (cell : ℤ) → ys ≡ flipped_to i xs → zs ≡ xs → i < length zs → cell ≡ flipped (slice_index_or ys i (pos 0)) → slice_set ys i cell ≡ flipped_to (i + 1) xs
one_flipped i xs ys zs cell h z low c =
    let within : i < length xs = let P : List ℤ → Type 0 = λ l. i < length l in subst P z low in
    ap (slice_set ys i) c ∙ ap (λ (l : List ℤ). slice_set l i (flipped (slice_index_or l i (pos 0)))) h ∙ next_flipped i xs within ∙ ap (λ (n : ℕ). flipped_to n xs) (sym (add-one i))

-- then all are
pub all_flipped : (i : ℕ) (xs : List ℤ) → length xs ≤ i → flipped_to i xs ≡ map flipped xs
all_flipped zero [] h = refl
all_flipped zero (x ∷ xs) h = absurd (omega (arith, h))
all_flipped (suc i) [] h = refl
all_flipped (suc i) (x ∷ xs) h = let rest : length xs ≤ i = omega (arith, h) in ap (λ (ys : List ℤ). flipped x ∷ ys) (all_flipped i xs rest)

-- a list that was written over one of the same length is the whole of what then stands there
pub whole : (n : ℕ) (xs ys : List ℤ) → n ≡ length xs → take n (xs ++ drop (length xs) ys) ≡ xs
whole n xs ys h = ap (λ (i : ℕ). take i (xs ++ drop (length xs) ys)) h ∙ take-append_seam xs (drop (length xs) ys)
