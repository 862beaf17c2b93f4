-- A line item by item, and a text line by line.
use Rattle.std.proofs.Common.{◌≡◌, ◌≢◌, ℕ, zero, suc, ◌+◌, ◌-◌, ◌*◌, ◌<◌, ◌≤◌, ℤ, pos, negsuc, List, [], ◌∷◌, ◌++◌, length, take, drop, get_or, refl, ap, sym, ◌∙◌, arith, add-one, append_assoc, drop-cons}
use Rattle.std.proofs.lemmas.Bool.{ne_eqb, le-ltb}
use Rattle.std.proofs.lemmas.List.{append-nil}
use Rattle.std.proofs.lemmas.Nat.{div-add-mod'}
use Rattle.std.proofs.Math.Nat.{mul-le-mul_right}
use Rattle.std.specs.Fmt.{signed_decimal}
use Rattle.path_tasks.specs.declared.Task.TheVariants.{Sink}
use Rattle.path_tasks.specs.Tasks.{block_of, key_of}
use Rattle.path_tasks.specs.Keys.{task_of}
use Rattle.path_tasks.specs.Paths.{tiles_of, cells_of}
use Rattle.path_tasks.proofs.KeyLemmas.{task_of_key}
use Rattle.apsp_graph.specs.Writing.{item_of, spaced, line_of, lines_to}

pub item_some : (w : ℤ) → w ≢ pos 9223372036854775807 → item_of w ≡ signed_decimal w
item_some (pos n) ne = rw (ne_eqb n 9223372036854775807 (λ e. ne (ap pos e))) refl
item_some (negsuc n) ne = refl

pub no_lines_to : (wide n : ℕ) (cells : List ℤ) → lines_to wide n cells 0 ≡ []
unfolding lines_to
no_lines_to wide n cells = refl

pub one_more_line : (wide n : ℕ) (cells : List ℤ) (i : ℕ) → lines_to wide n cells (i + 1) ≡ lines_to wide n cells i ++ line_of (take n (drop (i * wide) cells))
unfolding lines_to
one_more_line wide n cells i = rw add-one refl

-- the sink's block is the last one, and has all tiles
last_cells : (b side : ℕ) → cells_of b side (b * b + b) ≡ b * b * (side * side)
last_cells b side = rw (le-ltb (b * b + b) (b * b) (omega arith), le-ltb (b * b + b) (b * b + b) (omega arith)) refl

pub whole_cells : (b side : ℕ) → cells_of b side (block_of b (task_of b (key_of b Sink))) ≡ b * b * (side * side)
whole_cells b side = ap (λ x. cells_of b side (block_of b x)) (task_of_key b Sink tt) ∙ last_cells b side

-- a row lies inside the cells
pub wide_enough : (n side : ℕ) → 1 ≤ side → n ≤ tiles_of n side * side
wide_enough n side h = let e = div-add-mod' (n + side - 1) side in omega (arith, e)

pub same_width : (b t side s : ℕ) → b ≡ t → side ≡ s → b * side ≡ t * s
same_width b t side s e f = ap (λ v. v * side) e ∙ ap (λ v. t * v) f

pub row_inside : (n side i m wide total : ℕ) → 1 ≤ side → i < m → m ≡ n → wide ≡ tiles_of n side * side → total ≡ tiles_of n side * tiles_of n side * (side * side) → i * wide + m ≤ total
row_inside n side i m wide total h lt k e f =
    let b = tiles_of n side in
    let w = wide_enough n side h in
    let square : total ≡ (b * side) * (b * side) = omega (arith, f) in
    let rows : (i + 1) * (b * side) ≤ (b * side) * (b * side) = mul-le-mul_right (b * side) (omega (arith, w, k, lt)) in
    let here : i * wide ≡ i * (b * side) = ap (λ v. i * v) e in
    omega (arith, square, rows, here, w, k)

pub spaced_step : (text next before : List ℕ) (ws : List ℤ) (i : ℕ) (x : ℤ) (total : List ℕ) → drop i ws ≡ x ∷ drop (i + 1) ws → before ≡ text ++ 32 ∷ [] → next ≡ before ++ item_of x
    → text ++ spaced (drop i ws) ≡ total → next ++ spaced (drop (i + 1) ws) ≡ total
unfolding spaced
spaced_step text next before ws i x total cut e f so_far =
    ap (λ l. l ++ spaced (drop (i + 1) ws)) (f ∙ ap (λ l. l ++ item_of x) e)
    ∙ append_assoc (text ++ 32 ∷ []) (item_of x) (spaced (drop (i + 1) ws))
    ∙ append_assoc text (32 ∷ []) (item_of x ++ spaced (drop (i + 1) ws))
    ∙ ap (λ l. text ++ spaced l) (sym cut)
    ∙ so_far

pub cut_at : (ws : List ℤ) (i : ℕ) (d : ℤ) → i < length ws → drop i ws ≡ get_or ws i d ∷ drop (i + 1) ws
cut_at ws i d lt = rw add-one (drop-cons ws i d lt)

nothing : (ws : List ℤ) (i : ℕ) → length ws ≤ i → drop i ws ≡ []
nothing [] zero h = refl
nothing [] (suc i) h = refl
nothing (w ∷ ws) zero h = absurd (omega arith)
nothing (w ∷ ws) (suc i) h = nothing ws i (omega arith)

pub spaced_end : (text : List ℕ) (ws : List ℤ) (i : ℕ) (total : List ℕ) → length ws ≤ i → text ++ spaced (drop i ws) ≡ total → text ≡ total
unfolding spaced
spaced_end text ws i total le so_far = sym (append-nil text) ∙ ap (λ l. text ++ spaced l) (sym (nothing ws i le)) ∙ so_far

pub empty_line : (row : List ℤ) (old : List ℕ) → length row ≡ 0 → old ++ 10 ∷ [] ≡ old ++ line_of row
unfolding line_of
empty_line [] old e = refl
empty_line (w ∷ ws) old e = absurd (omega arith)

-- a row's first item, the others and the newline
pub whole_line : (row rest : List ℤ) (d : ℤ) (old one two new : List ℕ) → 0 < length row → rest ≡ drop 1 row → one ≡ old ++ item_of (get_or row 0 d) → two ≡ one ++ spaced rest → new ≡ two ++ 10 ∷ [] → new ≡ old ++ line_of row
unfolding line_of
whole_line [] rest d old one two new some e f g h = absurd (omega arith)
whole_line (w ∷ ws) rest d old one two new some e f g h =
    h ∙ ap (λ l. l ++ 10 ∷ []) (g ∙ ap (λ (l : List ℤ). one ++ spaced l) e ∙ ap (λ l. l ++ spaced ws) f)
    ∙ ap (λ l. l ++ 10 ∷ []) (append_assoc old (item_of w) (spaced ws))
    ∙ append_assoc old (item_of w ++ spaced ws) (10 ∷ [])

take_whole : (ws : List ℤ) (m : ℕ) → length ws ≤ m → take m ws ≡ ws
take_whole [] zero h = refl
take_whole [] (suc m) h = refl
take_whole (w ∷ ws) zero h = absurd (omega arith)
take_whole (w ∷ ws) (suc m) h = ap (λ l. w ∷ l) (take_whole ws m (omega arith))

pub all_of_rest : (row : List ℤ) (m : ℕ) → m ≡ length row - 1 → take m (drop 1 row) ≡ drop 1 row
all_of_rest [] m e = take_whole [] m (omega arith)
all_of_rest (w ∷ ws) m e = take_whole ws m (omega arith)
