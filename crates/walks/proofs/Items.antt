-- The items of a matrix that a text stands for.
use Rattle.std.proofs.Common.{◌≡◌, ℕ, zero, suc, ◌+◌, ◌-◌, ◌*◌, ◌<◌, ◌≤◌, List, [], ◌++◌, length, Option, Some, None, Bool, true, false, cond, eqb, slice_index_or, inl, inr, refl, sym, ap, ◌∙◌, arith, eq-eqb}
use Rattle.std.proofs.lemmas.Bool.{cases_lt, and_parts, leb-true}
use Rattle.std.proofs.lemmas.List.{get_or_append_left, get_or-append_right}
use Rattle.apsp_graph.specs.Matrices.{Words, Matrix, IsMatrix, IsWeight, IsRow, AreRows, is_size}
use Rattle.apsp_graph.specs.Matrices as matrices
use Rattle.walks.proofs.Edges.{AreItems}

-- every item is at most 2^31 - 1
abbrev AreLight : List (Option ℕ) → Type 0
AreLight xs = (p w : ℕ) → slice_index_or xs p None ≡ Some w → w ≤ 2147483647

none_light : AreLight []
none_light p w e = absurd (cc)

zero_light : (w : ℕ) → Some 0 ≡ Some w → w ≤ 2147483647
zero_light w e = let z : 0 ≡ w = cc in omega arith

some_light : (v w : ℕ) → v ≤ 2147483647 → Some v ≡ Some w → w ≤ 2147483647
some_light v w le e = let same : v ≡ w = cc in omega arith

item_light : (word : List ℕ) (x : Option ℕ) (w : ℕ) → IsWeight word x → x ≡ Some w → w ≤ 2147483647
item_light _ _ w matrices.none e = absurd (cc)
item_light _ _ w (matrices.some {v = v} number le) e = some_light v w le e

choice_light : (b : Bool) (x : Option ℕ) (w : ℕ) → ((w : ℕ) → x ≡ Some w → w ≤ 2147483647) → cond b (Some 0) x ≡ Some w → w ≤ 2147483647
choice_light true x w light e = zero_light w e
choice_light false x w light e = light w e

row_light : (i j : ℕ) (ws : Words) (xs : List (Option ℕ)) → IsRow i j ws xs → AreLight xs
row_light i j _ _ matrices.end p w e = absurd (cc)
row_light i j _ _ (matrices.item {w = word} {x = x} weight rest) zero w e = choice_light (eqb i j) x w (λ w' h. item_light word x w' weight h) e
row_light i j _ _ (matrices.item {ws = ws} {xs = xs} weight rest) (suc p) w e = row_light i (j + 1) ws xs rest p w e

joined_light : (xs ys : List (Option ℕ)) → AreLight xs → AreLight ys → AreLight (xs ++ ys)
joined_light xs ys light light' p w e = elim (cases_lt p (length xs)) [
  | inl lt ↦ light p w (sym (get_or_append_left xs ys None p lt) ∙ e)
  | inr ge ↦ light' (p - length xs) w (sym (get_or-append_right xs ys (length xs) p None refl ge) ∙ e)
]

rows_light : (n i : ℕ) (ls : List Words) (ws : List (Option ℕ)) → AreRows n i ls ws → AreLight ws
rows_light n i _ _ matrices.end p w e = absurd (cc)
rows_light n i _ _ (matrices.row {l = l} {ls = ls} {xs = xs} {ys = ys} row long rest) p w e = joined_light xs ys (row_light i 0 l xs row) (rows_light n (i + 1) ls ys rest) p w e

-- ---- the diagonal
row_long : (i j : ℕ) (ws : Words) (xs : List (Option ℕ)) → IsRow i j ws xs → length xs ≡ length ws
row_long i j _ _ matrices.end = refl
row_long i j _ _ (matrices.item {ws = ws} {xs = xs} weight rest) = let e = row_long i (j + 1) ws xs rest in omega (arith, e)

row_diagonal : (i j : ℕ) (ws : Words) (xs : List (Option ℕ)) (k : ℕ) → IsRow i j ws xs → k < length xs → j + k ≡ i → slice_index_or xs k None ≡ Some 0
row_diagonal i j _ _ k matrices.end lt e = absurd (omega arith)
row_diagonal i j _ _ zero (matrices.item {x = x} weight rest) lt e = ap (λ b. cond b (Some 0) x) (eq-eqb i j (omega arith))
row_diagonal i j _ _ (suc k) (matrices.item {ws = ws} {xs = xs} weight rest) lt e = row_diagonal i (j + 1) ws xs k rest (omega arith) (omega arith)

rows_diagonal : (n i : ℕ) (ls : List Words) (ws : List (Option ℕ)) (k : ℕ) → AreRows n i ls ws → k < length ls → i + k < n → slice_index_or ws (k * n + (i + k)) None ≡ Some 0
rows_diagonal n i _ _ k matrices.end lt inside = absurd (omega arith)
rows_diagonal n i _ _ zero (matrices.row {l = l} {ls = ls} {xs = xs} {ys = ys} row long rest) lt inside =
    let wide = row_long i 0 l xs row in
    let place : 0 * n + (i + 0) ≡ i = omega arith in
    ap (λ p. slice_index_or (xs ++ ys) p None) place
    ∙ get_or_append_left xs ys None i (omega (arith, wide, long))
    ∙ row_diagonal i 0 l xs i row (omega (arith, wide, long)) (omega arith)
rows_diagonal n i _ _ (suc k) (matrices.row {l = l} {ls = ls} {xs = xs} {ys = ys} row long rest) lt inside =
    let wide = row_long i 0 l xs row in
    let first : length xs ≡ n = wide ∙ long in
    get_or-append_right xs ys n (suc k * n + (i + suc k)) None first (omega arith)
    ∙ ap (λ p. slice_index_or ys p None) (let e : suc k * n + (i + suc k) - n ≡ k * n + (i + 1 + k) = omega arith in e)
    ∙ rows_diagonal n (i + 1) ls ys k rest (omega arith) (omega arith)

-- ---- the whole matrix
pub items_are : (text : List ℕ) (m : Matrix) → IsMatrix text m → AreItems m.n m.weights
items_are text m is = record {
  light = rows_light m.n 0 is.rows m.weights is.each;
  diagonal = λ u lt.
      let long = is.count in
      ap (λ p. slice_index_or m.weights p None) (let e : u * m.n + u ≡ u * m.n + (0 + u) = omega arith in e)
      ∙ rows_diagonal m.n 0 is.rows m.weights u is.each (omega (arith, long)) (omega arith);
}

pub record IsSized (n side : ℕ) : Type 0 where
  pub few : n ≤ 512
  pub wide : 1 ≤ side

pub sized : (n side : ℕ) → is_size n side ≡ true → IsSized n side
unfolding is_size
sized n side h =
    let a = and_parts _ _ h in
    let b = and_parts _ _ a.1 in
    let c = and_parts _ _ b.1 in
    let d = and_parts _ _ c.1 in
    record { few = leb-true n 512 a.0; wide = leb-true 1 side d.0 }
