-- The cells of tiles, and of products of tiles.
use Rattle.std.proofs.Common.{◌≡◌, ℕ, zero, suc, ◌+◌, ◌*◌, ◌/◌, ◌%◌, ◌<◌, ◌≤◌, ℤ, pos, ◌≤ℤ◌, List, inl, inr, sym, ap, subst, ◌∙◌, arith}
use Rattle.std.specs.Int.{int_min}
use Rattle.std.proofs.lemmas.Bool.{cases_lt}
use Rattle.std.proofs.lemmas.Nat.{mul-add-lt, div-mul-add, mod-mul-add}
use Rattle.std.proofs.lemmas.List.FromFn.{get_or-map-range_with_len}
use Rattle.lane_kernels.specs.MinPlus.{plus, cell, over, least, tile, min_plus_of, closed_over}
use Rattle.walks.specs.Floyd.{floyd}
use Rattle.walks.proofs.Sums.{at_most_itself, at_most_both, same_from_both, min_first, min_second, min_greatest}
use Rattle.walks.proofs.Floyds.{floyd_step}
use Rattle.walks.proofs.Blocks.{more, more_is, Reaches}

pub cell_is : (side : ℕ) (f : ℕ → ℕ → ℤ) (i j : ℕ) → i < side → j < side → cell (tile side f) side i j ≡ f i j
cell_is side f i j li lj =
    let within = mul-add-lt i side j side li lj in
    get_or-map-range_with_len (λ p. f (p / side) (p % side)) 0 (side * side) (i * side + j) (i * side + j) (pos 0) within (omega arith)
    ∙ ap (λ v. f v ((i * side + j) % side)) (div-mul-add i side j lj)
    ∙ ap (f i) (mod-mul-add i side j lj)

-- ---- the least of several ways
least_old : (a b : List ℤ) (side i j : ℕ) (old : ℤ) (n : ℕ) → least a b side i j old n ≤ℤ old
least_old a b side i j old zero = at_most_itself old
least_old a b side i j old (suc n) =
    at_most_both (least a b side i j old (suc n)) (least a b side i j old n) old (min_first (least a b side i j old n) (over a b side i j n)) (least_old a b side i j old n)

least_way : (a b : List ℤ) (side i j : ℕ) (old : ℤ) (n k : ℕ) → k < n → least a b side i j old n ≤ℤ over a b side i j k
least_way a b side i j old zero k lt = absurd (omega arith)
least_way a b side i j old (suc n) k lt = elim (cases_lt k n) [
  | inl before ↦
      at_most_both (least a b side i j old (suc n)) (least a b side i j old n) (over a b side i j k) (min_first (least a b side i j old n) (over a b side i j n))
      (least_way a b side i j old n k before)
  | inr last ↦
      let e : n ≡ k = omega arith in
      subst (λ v. least a b side i j old (suc n) ≤ℤ over a b side i j v) e (min_second (least a b side i j old n) (over a b side i j n))
]

least_lower : (a b : List ℤ) (side i j : ℕ) (old z : ℤ) (n : ℕ) → z ≤ℤ old → ((k : ℕ) → k < n → z ≤ℤ over a b side i j k) → z ≤ℤ least a b side i j old n
least_lower a b side i j old z zero low each = low
least_lower a b side i j old z (suc n) low each =
    min_greatest (least a b side i j old n) (over a b side i j n) z (least_lower a b side i j old z n low (λ k lt. each k (omega arith))) (each n (omega arith))

-- a cell of a product, by the ways over each vertex of the block
pub product_cell : (side : ℕ) (out a b : List ℤ) (i j : ℕ) (old z : ℤ) (way : ℕ → ℤ) → i < side → j < side → cell out side i j ≡ old
    → ((k : ℕ) → k < side → over a b side i j k ≡ way k) → z ≤ℤ old → ((k : ℕ) → k < side → z ≤ℤ way k) → Reaches way old side z
    → cell (min_plus_of side out a b) side i j ≡ z
product_cell side out a b i j old z way li lj here ways low each reached =
    let x = least a b side i j (cell out side i j) side in
    let up : z ≤ℤ x = least_lower a b side i j (cell out side i j) z side (subst (λ v. z ≤ℤ v) (sym here) low) (λ k lt. subst (λ v. z ≤ℤ v) (sym (ways k lt)) (each k lt)) in
    let down : x ≤ℤ z = elim reached [
      | inl direct ↦ at_most_both x (cell out side i j) z (least_old a b side i j (cell out side i j) side) (subst (λ v. v ≤ℤ z) (sym here) direct)
      | inr (k, lt, on) ↦ at_most_both x (over a b side i j k) z (least_way a b side i j (cell out side i j) side k lt) (subst (λ v. v ≤ℤ z) (sym (ways k lt)) on)
    ] in
    cell_is side (λ p q. least a b side p q (cell out side p q) side) i j li lj ∙ same_from_both x z down up

-- a tile that is closed, whose cells are those of a block of vertices
pub closed_cell : (e : ℕ → ℕ → ℤ) (side m : ℕ) (t : List ℤ) → ((p q : ℕ) → p < side → q < side → cell t side p q ≡ floyd e m (m + p) (m + q))
    → (k p q : ℕ) → k ≤ side → p < side → q < side → cell (closed_over side t k) side p q ≡ floyd e (more m k) (m + p) (m + q)
closed_cell e side m t start zero p q le lp lq = start p q lp lq
closed_cell e side m t start (suc k) p q le lp lq =
    let s = closed_over side t k in
    let f = floyd e (more m k) in
    let before : (i j : ℕ) → i < side → j < side → cell s side i j ≡ f (m + i) (m + j) = λ i j li lj. closed_cell e side m t start k i j (omega arith) li lj in
    let next = more_is m k in
    cell_is side (λ i j. int_min (cell s side i j) (over s s side i j k)) p q lp lq
    ∙ ap (λ v. int_min v (over s s side p q k)) (before p q lp lq)
    ∙ ap (λ v. int_min (f (m + p) (m + q)) (plus v (cell s side k q))) (before p k lp (omega arith))
    ∙ ap (λ v. int_min (f (m + p) (m + q)) (plus (f (m + p) (m + k)) v)) (before k q (omega arith) lq)
    ∙ ap (λ v. int_min (f (m + p) (m + q)) (plus (f (m + p) v) (f v (m + q)))) (sym next)
    ∙ sym (floyd_step e (more m k) (m + p) (m + q))
