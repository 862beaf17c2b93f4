-- One vector of a min-plus step, whose lanes are held with 2 ^ 63 added.
use Rattle.std.proofs.Common.{◌≡◌, ℕ, zero, suc, ◌+◌, ◌-◌, ◌*◌, ◌<◌, ◌≤◌, ◌%◌, ◌^◌, ℤ, pos, ◌+ℤ◌, List, map, Bool, cond, false, length, get_or, replicate, ap, sym, ◌∙◌, arith, w64}
use Rattle.std.proofs.lemmas.Int.{ints, clamps}
use Rattle.std.specs.Int.{int_min}
use Rattle.std.proofs.lemmas.Simd.{tops_compared, length-zip2, length-sel_l, get_or-sel_l, get_or-zip2, length-replicate, get_or-replicate, length-chunk, get_or-chunk}
use Rattle.std.proofs.lemmas.List.{length-map, get_or-map}
use lib.Lanes.{zip2, sel_l, chunk, top}
use lib.Signed.{lt_z}
use mir.Val.{to_z, of_z}
use Rattle.lane_kernels.specs.MinPlus.{plus, at, IsWeight, AllWeights, least}

-- the sum and the comparison of two lanes
abbrev pub add : ℕ → ℕ → ℕ
add x y = (x + y) % 2 ^ 64

abbrev pub below : ℕ → ℕ → Bool
below x y = lt_z (to_z w64 x) (to_z w64 y)

pub length-min : (xs ys : List ℕ) → length xs ≡ length ys → length (sel_l (zip2 below xs ys) xs ys) ≡ length xs
length-min xs ys e =
    let l = length-zip2 below xs ys e in
    length-sel_l (zip2 below xs ys) xs ys (omega arith) (omega arith) ∙ l

pub min_lane : (xs ys : List ℕ) (q : ℕ) → length xs ≡ length ys → q < length xs
    → get_or (sel_l (zip2 below xs ys) xs ys) q 0 ≡ cond (below (get_or xs q 0) (get_or ys q 0)) (get_or xs q 0) (get_or ys q 0)
min_lane xs ys q e lt =
    let l = length-zip2 below xs ys e in
    get_or-sel_l (zip2 below xs ys) xs ys q 0 (omega arith) (omega arith) (omega arith)
    ∙ ap (λ t. cond t (get_or xs q 0) (get_or ys q 0)) (get_or-zip2 below xs ys q 0 0 false (omega arith) (omega arith))

pub step_weight : (m x y : ℤ) → IsWeight m → IsWeight x → IsWeight y → IsWeight (int_min m (plus x y))
step_weight m x y p q r = record { from_zero = omega (arith, ints, clamps); to_none = omega (arith, ints, clamps) }

pub least_weight : (a b : List ℤ) (side i j : ℕ) (old : ℤ) (n : ℕ) → AllWeights a → AllWeights b → IsWeight old → IsWeight (least a b side i j old n)
least_weight a b side i j old zero p q r = r
least_weight a b side i j old (suc n) p q r = step_weight _ _ _ (least_weight a b side i j old n p q r) (p (i * side + n)) (q (n * side + j))

loaded : (n p : ℕ) (xs : List ℤ) (q : ℕ) → p + n ≤ length xs → q < n → get_or (map (of_z w64) (chunk p n xs)) q 0 ≡ of_z w64 (at xs (p + q))
loaded n p xs q room lt =
    let l = length-chunk p n xs room in
    get_or-map (of_z w64) (chunk p n xs) q (pos 0) 0 (omega arith) ∙ ap (of_z w64) (get_or-chunk p n xs q (pos 0) lt)

length-loaded : (n p : ℕ) (xs : List ℤ) → p + n ≤ length xs → length (map (of_z w64) (chunk p n xs)) ≡ n
length-loaded n p xs room = length-map (chunk p n xs) (of_z w64) ∙ length-chunk p n xs room

-- ---- the start: a load, raised
abbrev pub raised : ℕ → ℕ → List ℤ → List ℕ
raised n p xs = zip2 add (map (of_z w64) (chunk p n xs)) (replicate n (2 ^ 63))

pub length-raised : (n p : ℕ) (xs : List ℤ) → p + n ≤ length xs → length (raised n p xs) ≡ n
length-raised n p xs room =
    let l = length-loaded n p xs room in
    let r = length-replicate n (2 ^ 63) in
    length-zip2 add (map (of_z w64) (chunk p n xs)) (replicate n (2 ^ 63)) (l ∙ sym r) ∙ l

raise : (m : ℤ) → IsWeight m → pos (add (of_z w64 m) (2 ^ 63)) ≡ m +ℤ pos (2 ^ 63)
raise m w = grind (arith, ints)

pub held-raised : (n p : ℕ) (xs : List ℤ) (q : ℕ) → p + n ≤ length xs → IsWeight (at xs (p + q)) → q < n → pos (get_or (raised n p xs) q 0) ≡ at xs (p + q) +ℤ pos (2 ^ 63)
held-raised n p xs q room w lt =
    let l = length-loaded n p xs room in
    let r = length-replicate n (2 ^ 63) in
    ap pos (get_or-zip2 add (map (of_z w64) (chunk p n xs)) (replicate n (2 ^ 63)) q 0 0 0 (omega arith) (omega arith))
    ∙ ap pos (ap (λ u. add u (get_or (replicate n (2 ^ 63)) q 0)) (loaded n p xs q room lt))
    ∙ ap pos (ap (λ u. add (of_z w64 (at xs (p + q))) u) (get_or-replicate n q (2 ^ 63) 0 lt))
    ∙ raise (at xs (p + q)) w

-- ---- a step: the ways from one weight, and the lesser of each lane
abbrev pub ways : ℕ → ℕ → ℤ → List ℤ → List ℕ
ways n p x ys = zip2 add (replicate n ((of_z w64 x + 2 ^ 63) % 2 ^ 64)) (map (of_z w64) (chunk p n ys))

abbrev pub stepped : ℕ → ℕ → ℤ → List ℤ → List ℕ → List ℕ
stepped n p x ys lanes = sel_l (map (top 63) (zip2 (λ s t. cond (below s t) (2 ^ 64 - 1) 0) (ways n p x ys) lanes)) (ways n p x ys) lanes

length-ways : (n p : ℕ) (x : ℤ) (ys : List ℤ) → p + n ≤ length ys → length (ways n p x ys) ≡ n
length-ways n p x ys room =
    let l = length-loaded n p ys room in
    let v = (of_z w64 x + 2 ^ 63) % 2 ^ 64 in
    let r = length-replicate n v in
    length-zip2 add (replicate n v) (map (of_z w64) (chunk p n ys)) (r ∙ sym l) ∙ r

get_or-ways : (n p : ℕ) (x : ℤ) (ys : List ℤ) (q : ℕ) → p + n ≤ length ys → q < n → get_or (ways n p x ys) q 0 ≡ add ((of_z w64 x + 2 ^ 63) % 2 ^ 64) (of_z w64 (at ys (p + q)))
get_or-ways n p x ys q room lt =
    let l = length-loaded n p ys room in
    let v = (of_z w64 x + 2 ^ 63) % 2 ^ 64 in
    let r = length-replicate n v in
    get_or-zip2 add (replicate n v) (map (of_z w64) (chunk p n ys)) q 0 0 0 (omega arith) (omega arith)
    ∙ ap (λ u. add u (get_or (map (of_z w64) (chunk p n ys)) q 0)) (get_or-replicate n q v 0 lt)
    ∙ ap (add v) (loaded n p ys q room lt)

as_tests : (n p : ℕ) (x : ℤ) (ys : List ℤ) (lanes : List ℕ) → stepped n p x ys lanes ≡ sel_l (zip2 below (ways n p x ys) lanes) (ways n p x ys) lanes
as_tests n p x ys lanes = ap (λ ms. sel_l ms (ways n p x ys) lanes) (tops_compared w64 below (ways n p x ys) lanes)

pub length-stepped : (n p : ℕ) (x : ℤ) (ys : List ℤ) (lanes : List ℕ) → p + n ≤ length ys → length lanes ≡ n → length (stepped n p x ys lanes) ≡ n
length-stepped n p x ys lanes room wide =
    let l = length-ways n p x ys room in
    ap length (as_tests n p x ys lanes) ∙ length-min (ways n p x ys) lanes (l ∙ sym wide) ∙ l

step_held : (m x y : ℤ) (lane : ℕ) → IsWeight m → IsWeight x → IsWeight y → pos lane ≡ m +ℤ pos (2 ^ 63)
    → pos (cond (below (add ((of_z w64 x + 2 ^ 63) % 2 ^ 64) (of_z w64 y)) lane) (add ((of_z w64 x + 2 ^ 63) % 2 ^ 64) (of_z w64 y)) lane) ≡ int_min m (plus x y) +ℤ pos (2 ^ 63)
step_held m x y lane p q r e = grind (arith, ints)

pub held-stepped : (n p : ℕ) (x : ℤ) (ys : List ℤ) (lanes : List ℕ) (q : ℕ) (m : ℤ) → p + n ≤ length ys → length lanes ≡ n → IsWeight x → IsWeight (at ys (p + q)) → IsWeight m → q < n
    → pos (get_or lanes q 0) ≡ m +ℤ pos (2 ^ 63) → pos (get_or (stepped n p x ys lanes) q 0) ≡ int_min m (plus x (at ys (p + q))) +ℤ pos (2 ^ 63)
held-stepped n p x ys lanes q m room wide wx wy wm lt e =
    let l = length-ways n p x ys room in
    ap (λ v. pos (get_or v q 0)) (as_tests n p x ys lanes)
    ∙ ap pos (min_lane (ways n p x ys) lanes q (l ∙ sym wide) (omega arith))
    ∙ ap (λ s. pos (cond (below s (get_or lanes q 0)) s (get_or lanes q 0))) (get_or-ways n p x ys q room lt)
    ∙ step_held m x (at ys (p + q)) (get_or lanes q 0) wm wx wy e

-- ---- the end: lowered again
abbrev pub lowered : ℕ → List ℕ → List ℤ
lowered n lanes = map (to_z w64) (zip2 add lanes (replicate n (2 ^ 63)))

pub length-lowered : (n : ℕ) (lanes : List ℕ) → length lanes ≡ n → length (lowered n lanes) ≡ n
length-lowered n lanes wide =
    let r = length-replicate n (2 ^ 63) in
    length-map (zip2 add lanes (replicate n (2 ^ 63))) (to_z w64) ∙ length-zip2 add lanes (replicate n (2 ^ 63)) (wide ∙ sym r) ∙ wide

lower : (m : ℤ) (lane : ℕ) → IsWeight m → pos lane ≡ m +ℤ pos (2 ^ 63) → to_z w64 (add lane (2 ^ 63)) ≡ m
lower m lane w e = grind (arith, ints)

pub get_or-lowered : (n : ℕ) (lanes : List ℕ) (q : ℕ) (m : ℤ) → length lanes ≡ n → q < n → IsWeight m → pos (get_or lanes q 0) ≡ m +ℤ pos (2 ^ 63) → at (lowered n lanes) q ≡ m
get_or-lowered n lanes q m wide lt w e =
    let r = length-replicate n (2 ^ 63) in
    let z = length-zip2 add lanes (replicate n (2 ^ 63)) (wide ∙ sym r) in
    get_or-map (to_z w64) (zip2 add lanes (replicate n (2 ^ 63))) q 0 (pos 0) (omega arith)
    ∙ ap (to_z w64) (get_or-zip2 add lanes (replicate n (2 ^ 63)) q 0 0 0 (omega arith) (omega arith))
    ∙ ap (λ u. to_z w64 (add (get_or lanes q 0) u)) (get_or-replicate n q (2 ^ 63) 0 lt)
    ∙ lower m (get_or lanes q 0) w e

-- ---- a load, one step and a store
abbrev pub relaxed : ℕ → ℕ → ℕ → ℤ → List ℤ → List ℤ → List ℤ
relaxed n base p x ys xs = lowered n (stepped n p x ys (raised n base xs))

pub length-relaxed : (n base p : ℕ) (x : ℤ) (ys xs : List ℤ) → p + n ≤ length ys → base + n ≤ length xs → length (relaxed n base p x ys xs) ≡ n
length-relaxed n base p x ys xs room room' =
    length-lowered n (stepped n p x ys (raised n base xs)) (length-stepped n p x ys (raised n base xs) room (length-raised n base xs room'))

pub get_or-relaxed : (n base p : ℕ) (x : ℤ) (ys xs : List ℤ) (q : ℕ) → p + n ≤ length ys → base + n ≤ length xs → q < n → IsWeight x → IsWeight (at ys (p + q)) → IsWeight (at xs (base + q))
    → at (relaxed n base p x ys xs) q ≡ int_min (at xs (base + q)) (plus x (at ys (p + q)))
get_or-relaxed n base p x ys xs q room room' lt wx wy wm =
    let wide = length-raised n base xs room' in
    let m = at xs (base + q) in
    get_or-lowered n (stepped n p x ys (raised n base xs)) q (int_min m (plus x (at ys (p + q)))) (length-stepped n p x ys (raised n base xs) room wide) lt (step_weight m x (at ys (p + q)) wm wx wy)
    (held-stepped n p x ys (raised n base xs) q m room wide wx wy wm lt (held-raised n base xs q room' wm lt))

-- the plain loop's sum
pub plus_read : (x y : ℤ) → IsWeight x → IsWeight y → plus (to_z w64 (of_z w64 x)) (to_z w64 (of_z w64 y)) ≡ plus x y
plus_read x y p q = grind (arith, ints)
