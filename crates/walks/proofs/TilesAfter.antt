-- The tiles after so many rounds are Floyd-Warshall over the vertices of as many blocks.
use Rattle.std.proofs.Common.{◌≡◌, ℕ, zero, suc, ◌+◌, ◌*◌, ◌<◌, ℤ, ◌≤ℤ◌, List, Option, refl, sym, ap, subst, ◌∙◌, arith}
use Rattle.lane_kernels.specs.MinPlus.{plus, cell, min_plus_of, closed}
use Rattle.path_tasks.specs.declared.Part.{Part}
use Rattle.path_tasks.specs.declared.Part.TheVariants.{Load, Pivot, Row, Column, Rest}
use Rattle.path_tasks.specs.Tasks.{part}
use Rattle.path_tasks.proofs.Parts.{PartIs, pivot, row, column, rest, is_part}
use Rattle.apsp_graph.specs.Blocked.{edge, tile_after, next_tile}
use Rattle.apsp_graph.proofs.Rounds.{after_as}
use Rattle.walks.specs.Floyd.{floyd, AreEdges}
use Rattle.walks.proofs.Sums.{at_most_itself, at_most_both, plus_grows}
use Rattle.walks.proofs.Floyds.{floyd_start, floyd_falls, over_done}
use Rattle.walks.proofs.Blocks.{more, more_is, last_in, first_in, some_in}
use Rattle.walks.proofs.Products.{cell_is, product_cell, closed_cell}

-- the cells of a tile are the ways over the vertices below m
abbrev pub IsTileOf : (ℕ → ℕ → ℤ) → ℕ → ℕ → List ℤ → ℕ → ℕ → Type 0
IsTileOf e side m t i j = (p q : ℕ) → p < side → q < side → cell t side p q ≡ floyd e m (i * side + p) (j * side + q)

falls_on : (e : ℕ → ℕ → ℤ) (m n u v : ℕ) → floyd e (more m n) u v ≤ℤ floyd e m u v
falls_on e m n u v = subst (λ s. floyd e s u v ≤ℤ floyd e m u v) (sym (more_is m n)) (floyd_falls e m n u v)

done_on : (e : ℕ → ℕ → ℤ) (m n k u v : ℕ) → AreEdges e → k < n → floyd e (more m n) u v ≤ℤ plus (floyd e (more m n) u (more m k)) (floyd e (more m n) (more m k) v)
done_on e m n k u v h lt = over_done e (more m n) (more m k) u v h (let a = more_is m n in let b = more_is m k in omega (arith, a, b))

same_sum : (a b x y : ℤ) → a ≡ x → b ≡ y → plus a b ≡ plus x y
same_sum a b x y f g = ap (λ v. plus v b) f ∙ ap (plus x) g

vertex : (r side k : ℕ) → r * side + k ≡ more (r * side) k
vertex r side k = sym (more_is (r * side) k)

pivot_tile : (e : ℕ → ℕ → ℤ) (side r : ℕ) (t : List ℤ) → IsTileOf e side (r * side) t r r → IsTileOf e side (more (r * side) side) (closed side t) r r
pivot_tile e side r t h p q lp lq = closed_cell e side (r * side) t h side p q (omega arith) lp lq

-- a tile of the pivot's row
row_tile : (e : ℕ → ℕ → ℤ) (side r j : ℕ) (own centre : List ℤ) → AreEdges e → IsTileOf e side (r * side) own r j → IsTileOf e side (more (r * side) side) centre r r
    → IsTileOf e side (more (r * side) side) (min_plus_of side own centre own) r j
row_tile e side r j own centre h mine done p q lp lq =
    let m = r * side in
    let b = floyd e (more m side) in
    let a = floyd e m in
    let u = r * side + p in
    let v = j * side + q in
    product_cell side own centre own p q (a u v) (b u v) (λ k. plus (b u (more m k)) (a (more m k) v)) lp lq (mine p q lp lq)
    (λ k lt. same_sum _ _ _ _ (done p k lp lt ∙ ap (b u) (vertex r side k)) (mine k q lt lq ∙ ap (λ x. a x v) (vertex r side k)))
    (falls_on e m side u v)
    (λ k lt. at_most_both (b u v) (plus (b u (more m k)) (b (more m k) v)) (plus (b u (more m k)) (a (more m k) v)) (done_on e m side k u v h lt)
    (plus_grows (b u (more m k)) (b (more m k) v) (b u (more m k)) (a (more m k) v) (at_most_itself (b u (more m k))) (falls_on e m side (more m k) v)))
    (last_in e m side u v h)

-- a tile of the pivot's column
column_tile : (e : ℕ → ℕ → ℤ) (side r i : ℕ) (own centre : List ℤ) → AreEdges e → IsTileOf e side (r * side) own i r → IsTileOf e side (more (r * side) side) centre r r
    → IsTileOf e side (more (r * side) side) (min_plus_of side own own centre) i r
column_tile e side r i own centre h mine done p q lp lq =
    let m = r * side in
    let b = floyd e (more m side) in
    let a = floyd e m in
    let u = i * side + p in
    let v = r * side + q in
    product_cell side own own centre p q (a u v) (b u v) (λ k. plus (a u (more m k)) (b (more m k) v)) lp lq (mine p q lp lq)
    (λ k lt. same_sum _ _ _ _ (mine p k lp lt ∙ ap (a u) (vertex r side k)) (done k q lt lq ∙ ap (λ x. b x v) (vertex r side k)))
    (falls_on e m side u v)
    (λ k lt. at_most_both (b u v) (plus (b u (more m k)) (b (more m k) v)) (plus (a u (more m k)) (b (more m k) v)) (done_on e m side k u v h lt)
    (plus_grows (b u (more m k)) (b (more m k) v) (a u (more m k)) (b (more m k) v) (falls_on e m side u (more m k)) (at_most_itself (b (more m k) v))))
    (first_in e m side u v h)

-- another tile
rest_tile : (e : ℕ → ℕ → ℤ) (side r i j : ℕ) (own left above : List ℤ) → AreEdges e → IsTileOf e side (r * side) own i j
    → IsTileOf e side (more (r * side) side) left i r → IsTileOf e side (more (r * side) side) above r j
    → IsTileOf e side (more (r * side) side) (min_plus_of side own left above) i j
rest_tile e side r i j own left above h mine to from p q lp lq =
    let m = r * side in
    let b = floyd e (more m side) in
    let a = floyd e m in
    let u = i * side + p in
    let v = j * side + q in
    product_cell side own left above p q (a u v) (b u v) (λ k. plus (b u (more m k)) (b (more m k) v)) lp lq (mine p q lp lq)
    (λ k lt. same_sum _ _ _ _ (to p k lp lt ∙ ap (b u) (vertex r side k)) (from k q lt lq ∙ ap (λ x. b x v) (vertex r side k)))
    (falls_on e m side u v)
    (λ k lt. done_on e m side k u v h lt)
    (some_in e m side u v)

-- ---- a round
round_tile : (e : ℕ → ℕ → ℤ) (side r i j : ℕ) (p : Part) (at : ℕ → ℕ → List ℤ) → AreEdges e → PartIs r i j p → ((x y : ℕ) → IsTileOf e side (r * side) (at x y) x y)
    → IsTileOf e side (more (r * side) side) (next_tile side p (at i j) (closed side (at r r)) (at i r) (at r j)) i j
round_tile e side r i j Load at h is before = elim is [ ]
round_tile e side r i j Pivot at h (pivot f g) before =
    let done = pivot_tile e side r (at r r) (before r r) in
    subst (λ x. IsTileOf e side (more (r * side) side) (closed side (at r r)) x j) (sym f) (subst (λ y. IsTileOf e side (more (r * side) side) (closed side (at r r)) r y) (sym g) done)
round_tile e side r i j Row at h (row f g) before =
    let done = row_tile e side r j (at r j) (closed side (at r r)) h (before r j) (pivot_tile e side r (at r r) (before r r)) in
    subst (λ x. IsTileOf e side (more (r * side) side) (min_plus_of side (at x j) (closed side (at r r)) (at x j)) x j) (sym f) done
round_tile e side r i j Column at h (column f g) before =
    let done = column_tile e side r i (at i r) (closed side (at r r)) h (before i r) (pivot_tile e side r (at r r) (before r r)) in
    subst (λ y. IsTileOf e side (more (r * side) side) (min_plus_of side (at i y) (at i y) (closed side (at r r))) i y) (sym g) done
round_tile e side r i j Rest at h (rest f g) before =
    let done = pivot_tile e side r (at r r) (before r r) in
    rest_tile e side r i j (at i j) (min_plus_of side (at i r) (at i r) (closed side (at r r))) (min_plus_of side (at r j) (closed side (at r r)) (at r j)) h (before i j)
    (column_tile e side r i (at i r) (closed side (at r r)) h (before i r) done)
    (row_tile e side r j (at r j) (closed side (at r r)) h (before r j) done)

start_tile : (n side : ℕ) (ws : List (Option ℕ)) (i j : ℕ) → IsTileOf (edge n ws) side (0 * side) (tile_after n side ws 0 i j) i j
unfolding tile_after
start_tile n side ws i j p q lp lq =
    cell_is side (λ x y. edge n ws (i * side + x) (j * side + y)) p q lp lq
    ∙ sym (floyd_start (edge n ws) (i * side + p) (j * side + q))
    ∙ ap (λ m. floyd (edge n ws) m (i * side + p) (j * side + q)) (let none : 0 ≡ 0 * side = omega arith in none)

pub tiles_are : (n side : ℕ) (ws : List (Option ℕ)) (t i j : ℕ) → AreEdges (edge n ws) → IsTileOf (edge n ws) side (t * side) (tile_after n side ws t i j) i j
tiles_are n side ws zero i j h p q lp lq = start_tile n side ws i j p q lp lq
tiles_are n side ws (suc r) i j h p q lp lq =
    let m = r * side in
    let next : more m side ≡ suc r * side = more_is m side ∙ omega arith in
    ap (λ (t : List ℤ). cell t side p q) (after_as n side ws r i j (part (suc r) i j) refl)
    ∙ round_tile (edge n ws) side r i j (part (suc r) i j) (tile_after n side ws r) h (is_part r i j) (λ x y. tiles_are n side ws r x y h) p q lp lq
    ∙ ap (λ s. floyd (edge n ws) s (i * side + p) (j * side + q)) next
