-- Tiles by their cells: how many there are, and where a cell stands.
use Rattle.std.proofs.Common.{◌≡◌, ◌≢◌, ℕ, zero, suc, ◌+◌, ◌*◌, ◌/◌, ◌%◌, ◌<◌, ◌≤◌, ℤ, pos, List, length, Option, None, slice_index_or, cond, eqb, refl, ap, ◌∙◌, arith, inl, inr, ◌⊎◌, eq-eqb}
use Rattle.std.proofs.lemmas.Bool.{lt-ltb, le-ltb, ne_eqb, cases_lt}
use Rattle.std.proofs.lemmas.Nat.{mul-add-lt, div-mul-add, mod-mul-add}
use Rattle.std.proofs.lemmas.List.FromFn.{length-map-range_with_len}
use Rattle.lane_kernels.specs.MinPlus.{none, at, cell, tile, least, min_plus_of, closed_over, closed}
use Rattle.path_tasks.specs.declared.Part.{Part}
use Rattle.path_tasks.specs.declared.Part.TheVariants.{Load, Pivot, Row, Column, Rest}
use Rattle.apsp_graph.specs.Blocked.{as_weight, edge, nth, tile_made, beside_at, beside}

-- ---- edges
pub edge_within : (n : ℕ) (ws : List (Option ℕ)) (u v : ℕ) → u < n → v < n → edge n ws u v ≡ as_weight (slice_index_or ws (u * n + v) None)
unfolding edge
edge_within n ws u v lt lt' = rw (lt-ltb u n lt, lt-ltb v n lt') refl

pub edge_outside : (n : ℕ) (ws : List (Option ℕ)) (u v : ℕ) → (n ≤ u) ⊎ (n ≤ v) → edge n ws u v ≡ cond (eqb u v) (pos 0) none
unfolding edge
edge_outside n ws u v (inl ge) = rw (le-ltb u n ge) refl
edge_outside n ws u v (inr ge) = elim (cases_lt u n) [
  | inl lt ↦ rw (lt-ltb u n lt, le-ltb v n ge) refl
  | inr far ↦ rw (le-ltb u n far) refl
]

pub edge_self : (n : ℕ) (ws : List (Option ℕ)) (u v : ℕ) → (n ≤ u) ⊎ (n ≤ v) → u ≡ v → edge n ws u v ≡ pos 0
edge_self n ws u v outside e = edge_outside n ws u v outside ∙ rw (eq-eqb u v e) refl

pub edge_none : (n : ℕ) (ws : List (Option ℕ)) (u v : ℕ) → (n ≤ u) ⊎ (n ≤ v) → u ≢ v → edge n ws u v ≡ none
edge_none n ws u v outside ne = edge_outside n ws u v outside ∙ rw (ne_eqb u v ne) refl

-- ---- how many cells there are
pub tile_long : (side : ℕ) (f : ℕ → ℕ → ℤ) → length (tile side f) ≡ side * side
tile_long side f = length-map-range_with_len (λ p. f (p / side) (p % side)) 0 (side * side)

pub product_long : (side : ℕ) (out a b : List ℤ) → length (min_plus_of side out a b) ≡ side * side
product_long side out a b = tile_long side (λ i j. least a b side i j (cell out side i j) side)

over_long : (side : ℕ) (t : List ℤ) (n : ℕ) → 1 ≤ n → length (closed_over side t n) ≡ side * side
over_long side t zero some = absurd (omega arith)
over_long side t (suc n) some = length-map-range_with_len (λ p. _) 0 (side * side)

pub closed_long : (side : ℕ) (t : List ℤ) → 1 ≤ side → length (closed side t) ≡ side * side
closed_long side t some = over_long side t side some

pub made_long : (n side : ℕ) (ws : List (Option ℕ)) (i j : ℕ) (p : Part) (lists : List (List ℤ)) → 1 ≤ side → length (tile_made n side ws i j p lists) ≡ side * side
made_long n side ws i j Load lists some = tile_long side (λ p q. edge n ws (i * side + p) (j * side + q))
made_long n side ws i j Pivot lists some = closed_long side (nth lists 0) some
made_long n side ws i j Row lists some = product_long side (nth lists 0) (nth lists 1) (nth lists 0)
made_long n side ws i j Column lists some = product_long side (nth lists 0) (nth lists 0) (nth lists 1)
made_long n side ws i j Rest lists some = product_long side (nth lists 0) (nth lists 1) (nth lists 2)

pub beside_long : (b side : ℕ) (tiles : List (List ℤ)) → length (beside b side tiles) ≡ side * (b * side)
beside_long b side tiles = length-map-range_with_len (beside_at b side tiles) 0 (side * (b * side))

-- ---- where a cell stands in tiles side by side
pub beside_place : (b side : ℕ) (tiles : List (List ℤ)) (row place q : ℕ) → place < b → q < side
    → beside_at b side tiles (row * (b * side) + place * side + q) ≡ at (nth tiles place) (row * side + q)
beside_place b side tiles row place q lt near =
    let p = row * (b * side) + place * side + q in
    let inside : place * side + q < b * side = omega (arith, mul-add-lt place side q b lt near) in
    let sum : p ≡ row * (b * side) + (place * side + q) = omega arith in
    let quotient : p / (b * side) ≡ row = ap (λ v. v / (b * side)) sum ∙ div-mul-add row (b * side) (place * side + q) inside in
    let rest : p % (b * side) ≡ place * side + q = ap (λ v. v % (b * side)) sum ∙ mod-mul-add row (b * side) (place * side + q) inside in
    let tile_is : p % (b * side) / side ≡ place = ap (λ v. v / side) rest ∙ div-mul-add place side q near in
    let column : p % (b * side) % side ≡ q = ap (λ v. v % side) rest ∙ mod-mul-add place side q near in
    ap (λ v. cell (nth tiles v) side (p / (b * side)) (p % (b * side) % side)) tile_is
    ∙ ap (λ v. cell (nth tiles place) side v (p % (b * side) % side)) quotient
    ∙ ap (λ v. cell (nth tiles place) side row v) column
