-- A cell of all tiles side by side and one below the other.
use Rattle.std.proofs.Common.{◌≡◌, ℕ, zero, suc, ◌+◌, ◌-◌, ◌*◌, ◌/◌, ◌%◌, ◌<◌, ◌≤◌, ℤ, pos, List, [], ◌++◌, length, map, Option, sym, ap, ◌∙◌, arith}
use Rattle.std.specs.List.{range_with_len}
use Rattle.std.proofs.lemmas.Nat.{mul-add-lt, div-add-mod'}
use Rattle.std.proofs.Math.Nat.{div-lt_iff_lt-mul}
use Rattle.std.proofs.lemmas.List.{get_or_append_left, get_or-append_right}
use Rattle.std.proofs.lemmas.List.FromFn.{get_or-map-range_with_len}
use Rattle.lane_kernels.specs.MinPlus.{at, cell}
use Rattle.path_tasks.specs.Paths.{tiles_of}
use Rattle.apsp_graph.specs.Blocked.{edge, beside_at, below, tile_after, gathered, closure}
use Rattle.apsp_graph.proofs.CellLemmas.{beside_place}
use Rattle.apsp_graph.proofs.Runs.{gathered_size}
use Rattle.walks.specs.Floyd.{floyd, AreEdges}
use Rattle.walks.proofs.TilesAfter.{tiles_are}

-- lists of one length, one below the other
below_at : (f : ℕ → List ℤ) (a n m k q : ℕ) → ((x : ℕ) → length (f x) ≡ m) → k < n → q < m → at (below (map f (range_with_len a n))) (k * m + q) ≡ at (f (a + k)) q
below_at f a zero m k q each lt inside = absurd (omega arith)
below_at f a (suc n) m zero q each lt inside =
    let long = each a in
    let rest = below (map f (range_with_len (a + 1) n)) in
    ap (at (f a ++ rest)) (let e : 0 * m + q ≡ q = omega arith in e)
    ∙ get_or_append_left (f a) rest (pos 0) q (omega (arith, long))
    ∙ ap (λ x. at (f x) q) (let e : a ≡ a + 0 = omega arith in e)
below_at f a (suc n) m (suc k) q each lt inside =
    let long = each a in
    let rest = below (map f (range_with_len (a + 1) n)) in
    get_or-append_right (f a) rest m (suc k * m + q) (pos 0) long (omega arith)
    ∙ ap (at rest) (let e : suc k * m + q - m ≡ k * m + q = omega arith in e)
    ∙ below_at f (a + 1) n m k q each (omega arith) inside
    ∙ ap (λ x. at (f x) q) (let e : a + 1 + k ≡ a + suc k = omega arith in e)

gathered_at : (n side : ℕ) (ws : List (Option ℕ)) (i p j q : ℕ) → p < side → j < tiles_of n side → q < side
    → at (gathered n side ws i) (p * (tiles_of n side * side) + j * side + q) ≡ cell (tile_after n side ws (tiles_of n side) i j) side p q
unfolding gathered
gathered_at n side ws i p j q lp lj lq =
    let b = tiles_of n side in
    let tiles = map (tile_after n side ws b i) (range_with_len 0 b) in
    let place = p * (b * side) + j * side + q in
    let inside : j * side + q < b * side = omega (arith, mul-add-lt j side q b lj lq) in
    let within : place < side * (b * side) = omega (arith, mul-add-lt p (b * side) (j * side + q) side lp inside) in
    get_or-map-range_with_len (beside_at b side tiles) 0 (side * (b * side)) place place (pos 0) within (omega arith)
    ∙ beside_place b side tiles p j q lj lq
    ∙ ap (λ (t : List ℤ). at t (p * side + q)) (get_or-map-range_with_len (tile_after n side ws b i) 0 b j j [] lj (omega arith))

closure_at : (n side : ℕ) (ws : List (Option ℕ)) (i p : ℕ) (x : ℕ) → i < tiles_of n side → p < side → x < tiles_of n side * side
    → at (closure n side ws) ((i * side + p) * (tiles_of n side * side) + x) ≡ at (gathered n side ws i) (p * (tiles_of n side * side) + x)
unfolding closure
closure_at n side ws i p x li lp lx =
    let b = tiles_of n side in
    let wide = b * side in
    let inside : p * wide + x < side * wide = omega (arith, mul-add-lt p wide x side lp lx) in
    ap (at (below (map (gathered n side ws) (range_with_len 0 b)))) (let e : (i * side + p) * wide + x ≡ i * (side * wide) + (p * wide + x) = omega arith in e)
    ∙ below_at (gathered n side ws) 0 b (side * wide) i (p * wide + x) (gathered_size n side ws) li inside
    ∙ ap (λ k. at (gathered n side ws k) (p * wide + x)) (let e : 0 + i ≡ i = omega arith in e)

-- in row u, column v is what Floyd-Warshall makes of the way from u to v
pub closure_is : (n side : ℕ) (ws : List (Option ℕ)) (u v : ℕ) → 1 ≤ side → AreEdges (edge n ws) → u < tiles_of n side * side → v < tiles_of n side * side
    → at (closure n side ws) (u * (tiles_of n side * side) + v) ≡ floyd (edge n ws) (tiles_of n side * side) u v
closure_is n side ws u v some h lu lv =
    let b = tiles_of n side in
    let i = u / side in
    let p = u % side in
    let j = v / side in
    let q = v % side in
    let ui : i * side + p ≡ u = div-add-mod' u side in
    let vj : j * side + q ≡ v = div-add-mod' v side in
    let li : i < b = (div-lt_iff_lt-mul {k = side} {x = u} {y = b} some).1 lu in
    let lj : j < b = (div-lt_iff_lt-mul {k = side} {x = v} {y = b} some).1 lv in
    let lp : p < side = omega (arith, some) in
    let lq : q < side = omega (arith, some) in
    let place : u * (b * side) + v ≡ (i * side + p) * (b * side) + v = ap (λ x. x * (b * side) + v) (sym ui) in
    let column : p * (b * side) + v ≡ p * (b * side) + j * side + q = omega (arith, vj) in
    ap (at (closure n side ws)) place
    ∙ closure_at n side ws i p v li lp lv
    ∙ ap (at (gathered n side ws i)) column
    ∙ gathered_at n side ws i p j q lp lj lq
    ∙ tiles_are n side ws b i j h p q lp lq
    ∙ ap (λ x. floyd (edge n ws) (b * side) x (j * side + q)) ui
    ∙ ap (λ x. floyd (edge n ws) (b * side) u x) vj
