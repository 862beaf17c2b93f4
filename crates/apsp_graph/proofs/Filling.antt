-- Lists of cells that are written a piece at a time, from the front.
use Rattle.std.proofs.Common.{◌≡◌, ℕ, ◌+◌, ◌-◌, ◌<◌, ◌≤◌, ℤ, pos, List, ◌++◌, length, take, drop, get_or, inl, inr, ap, ◌∙◌, arith}
use Rattle.std.proofs.lemmas.Bool.{cases_lt}
use Rattle.std.proofs.lemmas.List.{get_or_append_left, get_or-append_right, length-take-le, get_or-take}
use borrow.Rule.Slice.PartMut.{put_mid}

-- the first n cells are those of a function of the place
abbrev pub FilledTo : (ℕ → ℤ) → List ℤ → ℕ → Type 0
FilledTo f out n = (k : ℕ) → k < n → get_or out k (pos 0) ≡ f k

pub none_filled : (f : ℕ → ℤ) (out : List ℤ) → FilledTo f out 0
none_filled f out k lt = absurd (omega arith)

put_below : (base size : ℕ) (out ys : List ℤ) (k : ℕ) → base ≤ length out → k < base → get_or (put_mid base size out ys) k (pos 0) ≡ get_or out k (pos 0)
put_below base size out ys k within lt =
    let front = length-take-le base out within in
    get_or_append_left (take base out) (ys ++ drop size (drop base out)) (pos 0) k (omega (arith, front)) ∙ get_or-take base out k (pos 0) lt

put_there : (base size : ℕ) (out ys : List ℤ) (k : ℕ) → base ≤ length out → base ≤ k → k < base + length ys → get_or (put_mid base size out ys) k (pos 0) ≡ get_or ys (k - base) (pos 0)
put_there base size out ys k within ge lt =
    get_or-append_right (take base out) (ys ++ drop size (drop base out)) base k (pos 0) (length-take-le base out within) ge
    ∙ get_or_append_left ys (drop size (drop base out)) (pos 0) (k - base) (omega arith)

-- one more piece is written
pub filled_more : (f : ℕ → ℤ) (out ys : List ℤ) (base size n m : ℕ) → base ≡ n → base + length ys ≡ m → m ≤ length out → FilledTo f out n
    → ((q : ℕ) → q < length ys → get_or ys q (pos 0) ≡ f (base + q)) → FilledTo f (put_mid base size out ys) m
filled_more f out ys base size n m e e' within so_far piece k lt = elim (cases_lt k base) [
  | inl near ↦ put_below base size out ys k (omega arith) near ∙ so_far k (omega arith)
  | inr far ↦
      let here : base + (k - base) ≡ k = omega arith in
      put_there base size out ys k (omega arith) far (omega arith) ∙ piece (k - base) (omega arith) ∙ ap f here
]
