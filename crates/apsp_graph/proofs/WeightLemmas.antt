-- No cell of a tile is below 0.
use Rattle.std.proofs.Common.{ℕ, zero, suc, ◌+◌, ◌-◌, ◌*◌, ◌/◌, ◌%◌, ◌≤ℤ◌, ℤ, pos, List, [], ◌++◌, length, map, Option, Some, None, slice_index_or, All, cond, ltb, eqb, ◌&&◌, Bool, true, false, refl, sym, subst, arith, inl, inr}
use Rattle.std.specs.Int.{int_min}
use Rattle.std.specs.List.{range_with_len}
use Rattle.std.proofs.lemmas.Bool.{cases_lt}
use Rattle.std.proofs.lemmas.Int.{ints}
use Rattle.std.proofs.lemmas.List.{get_or_past, get_or_append_left, get_or-append_right}
use Rattle.std.proofs.lemmas.List.FromFn.{length-map-range_with_len, get_or-map-range_with_len}
use Rattle.lane_kernels.specs.MinPlus.{none, plus, cell, over, least, tile, min_plus_of, closed_over, closed, IsNonNegative}
use Rattle.apsp_graph.specs.Blocked.{as_weight, edge, loaded, nth, beside_at, beside, below}

zero_least : pos 0 ≤ℤ pos 0
zero_least = omega (arith, ints)

min_from_zero : (x y : ℤ) → pos 0 ≤ℤ x → pos 0 ≤ℤ y → pos 0 ≤ℤ int_min x y
min_from_zero x y p q = grind (arith, ints)

plus_from_zero : (x y : ℤ) → pos 0 ≤ℤ x → pos 0 ≤ℤ y → pos 0 ≤ℤ plus x y
plus_from_zero x y p q = grind (arith, ints)

-- past the end 0 is read
pub listed_from_zero : (f : ℕ → ℤ) (n : ℕ) → ((k : ℕ) → pos 0 ≤ℤ f k) → IsNonNegative (map f (range_with_len 0 n))
listed_from_zero f n each p = elim (cases_lt p n) [
  | inl lt ↦ subst (λ z. pos 0 ≤ℤ z) (sym (get_or-map-range_with_len f 0 n p p (pos 0) lt (omega arith))) (each p)
  | inr ge ↦ subst (λ z. pos 0 ≤ℤ z) (sym (get_or_past (map f (range_with_len 0 n)) p (pos 0) (let e = length-map-range_with_len f 0 n in omega (arith, e)))) zero_least
]

tile_from_zero : (side : ℕ) (f : ℕ → ℕ → ℤ) → ((i j : ℕ) → pos 0 ≤ℤ f i j) → IsNonNegative (tile side f)
tile_from_zero side f each = listed_from_zero (λ p. f (p / side) (p % side)) (side * side) (λ p. each (p / side) (p % side))

least_from_zero : (a b : List ℤ) (side i j : ℕ) (old : ℤ) (n : ℕ) → IsNonNegative a → IsNonNegative b → pos 0 ≤ℤ old → pos 0 ≤ℤ least a b side i j old n
least_from_zero a b side i j old zero ha hb h = h
least_from_zero a b side i j old (suc n) ha hb h =
    min_from_zero (least a b side i j old n) (over a b side i j n) (least_from_zero a b side i j old n ha hb h)
    (plus_from_zero (cell a side i n) (cell b side n j) (ha (i * side + n)) (hb (n * side + j)))

pub product_from_zero : (side : ℕ) (out a b : List ℤ) → IsNonNegative out → IsNonNegative a → IsNonNegative b → IsNonNegative (min_plus_of side out a b)
product_from_zero side out a b ho ha hb =
    tile_from_zero side (λ i j. least a b side i j (cell out side i j) side) (λ i j. least_from_zero a b side i j (cell out side i j) side ha hb (ho (i * side + j)))

over_from_zero : (side : ℕ) (t : List ℤ) (n : ℕ) → IsNonNegative t → IsNonNegative (closed_over side t n)
over_from_zero side t zero h = h
over_from_zero side t (suc n) h =
    let s = closed_over side t n in
    let hs = over_from_zero side t n h in
    tile_from_zero side (λ i j. int_min (cell s side i j) (over s s side i j n))
    (λ i j. min_from_zero (cell s side i j) (over s s side i j n) (hs (i * side + j)) (plus_from_zero (cell s side i n) (cell s side n j) (hs (i * side + n)) (hs (n * side + j))))

pub closed_from_zero : (side : ℕ) (t : List ℤ) → IsNonNegative t → IsNonNegative (closed side t)
closed_from_zero side t h = over_from_zero side t side h

item_from_zero : (w : Option ℕ) → pos 0 ≤ℤ as_weight w
item_from_zero None = omega (arith, ints)
item_from_zero (Some w) = omega (arith, ints)

either_from_zero : (b : Bool) (x y : ℤ) → pos 0 ≤ℤ x → pos 0 ≤ℤ y → pos 0 ≤ℤ cond b x y
either_from_zero true x y p q = p
either_from_zero false x y p q = q

edge_from_zero : (n : ℕ) (ws : List (Option ℕ)) (u v : ℕ) → pos 0 ≤ℤ edge n ws u v
unfolding edge
edge_from_zero n ws u v =
    either_from_zero (ltb u n && ltb v n) (as_weight (slice_index_or ws (u * n + v) None)) (cond (eqb u v) (pos 0) none)
    (item_from_zero (slice_index_or ws (u * n + v) None)) (either_from_zero (eqb u v) (pos 0) none zero_least (item_from_zero None))

pub loaded_from_zero : (n side : ℕ) (ws : List (Option ℕ)) (i j : ℕ) → IsNonNegative (loaded n side ws i j)
loaded_from_zero n side ws i j = tile_from_zero side (λ p q. edge n ws (i * side + p) (j * side + q)) (λ p q. edge_from_zero n ws (i * side + p) (j * side + q))

nothing_from_zero : IsNonNegative []
nothing_from_zero p = zero_least

nth_from_zero : (lists : List (List ℤ)) (i : ℕ) → All IsNonNegative lists → IsNonNegative (nth lists i)
nth_from_zero lists i all = elim (cases_lt i (length lists)) [
  | inl lt ↦ all i [] lt
  | inr ge ↦ subst IsNonNegative (sym (get_or_past lists i [] ge)) nothing_from_zero
]

pub beside_from_zero : (b side : ℕ) (tiles : List (List ℤ)) → All IsNonNegative tiles → IsNonNegative (beside b side tiles)
beside_from_zero b side tiles all =
    listed_from_zero (beside_at b side tiles) (side * (b * side)) (λ p. nth_from_zero tiles (p % (b * side) / side) all (p / (b * side) * side + p % (b * side) % side))

joined_from_zero : (xs ys : List ℤ) → IsNonNegative xs → IsNonNegative ys → IsNonNegative (xs ++ ys)
joined_from_zero xs ys hx hy p = elim (cases_lt p (length xs)) [
  | inl lt ↦ subst (λ z. pos 0 ≤ℤ z) (sym (get_or_append_left xs ys (pos 0) p lt)) (hx p)
  | inr ge ↦ subst (λ z. pos 0 ≤ℤ z) (sym (get_or-append_right xs ys (length xs) p (pos 0) refl ge)) (hy (p - length xs))
]

pub below_from_zero : (f : ℕ → List ℤ) (a n : ℕ) → ((k : ℕ) → IsNonNegative (f k)) → IsNonNegative (below (map f (range_with_len a n)))
below_from_zero f a zero each = nothing_from_zero
below_from_zero f a (suc n) each = joined_from_zero (f a) (below (map f (range_with_len (a + 1) n))) (each a) (below_from_zero f (a + 1) n each)
