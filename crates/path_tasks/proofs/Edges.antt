-- Ranks fall, and each edge is the other's reverse.
use Rattle.std.proofs.Common.{◌≡◌, ◌≢◌, ◌⊎◌, ℕ, zero, suc, pred, ◌+◌, ◌-◌, ◌*◌, ◌<◌, ◌≤◌, Bool, true, false, cond, eqb, ltb, refl, ap, sym, ◌∙◌, arith, inl, inr, subst, add-one, sub-one}
use Rattle.std.proofs.lemmas.Bool.{cases_eq, cases_lt, eq-eqb, ne_eqb, lt-ltb, le-ltb}
use Rattle.path_tasks.specs.declared.Part.{Part}
use Rattle.path_tasks.specs.declared.Part.TheVariants.{Load, Pivot, Row, Column, Rest}
use Rattle.path_tasks.specs.declared.Task.TheVariants.{Tile, Gather, Sink}
use Rattle.path_tasks.specs.declared.End.{End}
use Rattle.path_tasks.specs.Tasks.{part, inputs, source_row, source_column, readers, reader_row, reader_column, reader_at, read_place, waits, wait_row, wait_column, wait_at, IsTask, rank_in, rank_of, pred_count_of, pred_of, succ_count_of, succ_of, RankFalls, PredIsSucc, SuccIsPred, PortInRange, PlaceInRange, OverwritesLast}
use Rattle.path_tasks.proofs.Parts.{PartIs, pivot, row, column, rest, is_part, part_is, reader_reads, IsSource, source_is, source_row_first, source_column_first, source_row_second, source_column_second}
use Rattle.path_tasks.proofs.Waiting.{WaitsFor, load_waits, own_waits, source_waits, itself, source, wait_is}

-- ---- ranks
rank_at_most : (t : ℕ) (p : Part) → rank_in t p ≤ 3 * t
rank_at_most t Load = omega arith
rank_at_most t Pivot = omega arith
rank_at_most t Row = omega arith
rank_at_most t Column = omega arith
rank_at_most t Rest = omega arith

rank_at_least : (r i j : ℕ) (p : Part) → PartIs r i j p → 3 * r < rank_in (suc r) p
rank_at_least r i j Load h = elim h [ ]
rank_at_least r i j Pivot h = omega arith
rank_at_least r i j Row h = omega arith
rank_at_least r i j Column h = omega arith
rank_at_least r i j Rest h = omega arith

source_rank : (r i j n : ℕ) (p : Part) → PartIs r i j p → 0 < n → n < inputs p → rank_in (suc r) (part (suc r) (source_row r p i n) (source_column r p j n)) < rank_in (suc r) p
source_rank r i j n Load h pn lt = elim h [ ]
source_rank r i j n Pivot h pn lt = absurd (omega arith)
source_rank r i j n Row h pn lt = rw (part_is r r r (pivot refl refl)) (omega arith)
source_rank r i j n Column h pn lt = rw (part_is r r r (pivot refl refl)) (omega arith)
source_rank r i j n Rest (rest e f) pn lt = elim (cases_eq n 1) [
  | inl one ↦ rw (source_row_first r i n one, source_column_first r j n one, part_is r i r (column e refl)) (omega arith)
  | inr ne ↦ rw (source_row_second r i n ne, source_column_second r j n ne, part_is r r j (row refl f)) (omega arith)
]

-- ---- the edges, case by case
on_true : {X : Type 0} (b : Bool) (x y : X) → b ≡ true → cond b x y ≡ x
on_true b x y e = ap (λ v. cond v x y) e

on_false : {X : Type 0} (b : Bool) (x y : X) → b ≡ false → cond b x y ≡ y
on_false b x y e = ap (λ v. cond v x y) e

abbrev pub end : ℕ → ℕ → ℕ → ℕ → End
end t i j n = record { task = Tile t i j; at = n }

same_end : (t i j n i' j' n' : ℕ) → i ≡ i' → j ≡ j' → n ≡ n' → end t i j n ≡ end t i' j' n'
same_end t i j n i' j' n' e f g = ap (λ v. end t v j n) e ∙ ap (λ v. end t i' v n) f ∙ ap (end t i' j') g

pub pred_data : (b r i j n : ℕ) → n ≢ 0 → n < inputs (part (suc r) i j)
    → pred_of b (Tile (suc r) i j) n
    ≡ end (suc r) (source_row r (part (suc r) i j) i n) (source_column r (part (suc r) i j) j n)
    (reader_at b r (part (suc r) (source_row r (part (suc r) i j) i n) (source_column r (part (suc r) i j) j n)) i j)
pred_data b r i j n ne lt = on_false (eqb n 0) _ _ (ne_eqb n 0 ne) ∙ on_true (ltb n (inputs (part (suc r) i j))) _ _ (lt-ltb n (inputs (part (suc r) i j)) lt)

pub pred_order : (b r i j n x y : ℕ) → n ≢ 0 → inputs (part (suc r) i j) ≤ n
    → reader_row b (pred r) (part r i j) i (n - inputs (part (suc r) i j)) ≡ x → reader_column b (pred r) (part r i j) j (n - inputs (part (suc r) i j)) ≡ y
    → pred_of b (Tile (suc r) i j) n ≡ end r x y (readers b (part r x y) + wait_at (pred r) (part r x y) x y i j)
pred_order b r i j n x y ne le ex ey =
    on_false (eqb n 0) _ _ (ne_eqb n 0 ne)
    ∙ on_false (ltb n (inputs (part (suc r) i j))) _ _ (le-ltb n (inputs (part (suc r) i j)) le)
    ∙ ap (λ v. end r v (reader_column b (pred r) (part r i j) j (n - inputs (part (suc r) i j))) (readers b (part r v (reader_column b (pred r) (part r i j) j (n - inputs (part (suc r) i j)))) + wait_at (pred r) (part r v (reader_column b (pred r) (part r i j) j (n - inputs (part (suc r) i j)))) v (reader_column b (pred r) (part r i j) j (n - inputs (part (suc r) i j))) i j)) ex
    ∙ ap (λ v. end r x v (readers b (part r x v) + wait_at (pred r) (part r x v) x v i j)) ey

pub succ_near : (b t i j n : ℕ) → n < readers b (part t i j) → succ_of b (Tile t i j) n ≡ end t (reader_row b (pred t) (part t i j) i n) (reader_column b (pred t) (part t i j) j n) (read_place (part t i j))
succ_near b t i j n lt = on_true (ltb n (readers b (part t i j))) _ _ (lt-ltb n (readers b (part t i j)) lt)

order_place : ℕ → ℕ → ℕ → ℕ → ℕ → ℕ → ℕ
order_place b t i j x y = inputs (part (suc t) x y) + reader_at b (pred t) (part t x y) i j

succ_next : (b t i j n x y : ℕ) → readers b (part t i j) ≤ n → t < b
    → wait_row (pred t) (part t i j) i (n - readers b (part t i j)) ≡ x → wait_column (pred t) (part t i j) i j (n - readers b (part t i j)) ≡ y
    → succ_of b (Tile t i j) n ≡ end (suc t) x y (cond (eqb x i) (cond (eqb y j) 0 (order_place b t i j x y)) (order_place b t i j x y))
unfolding order_place
succ_next b t i j n x y le lt ex ey =
    on_false (ltb n (readers b (part t i j))) _ _ (le-ltb n (readers b (part t i j)) le)
    ∙ on_true (ltb t b) _ _ (lt-ltb t b lt)
    ∙ ap (λ v. end (suc t) v (wait_column (pred t) (part t i j) i j (n - readers b (part t i j))) (cond (eqb v i) (cond (eqb (wait_column (pred t) (part t i j) i j (n - readers b (part t i j))) j) 0 (order_place b t i j v (wait_column (pred t) (part t i j) i j (n - readers b (part t i j))))) (order_place b t i j v (wait_column (pred t) (part t i j) i j (n - readers b (part t i j)))))) ex
    ∙ ap (λ v. end (suc t) x v (cond (eqb x i) (cond (eqb v j) 0 (order_place b t i j x v)) (order_place b t i j x v))) ey

pub next_task : (b t i j n : ℕ) → readers b (part t i j) ≤ n → t < b
    → (succ_of b (Tile t i j) n).task ≡ Tile (suc t) (wait_row (pred t) (part t i j) i (n - readers b (part t i j))) (wait_column (pred t) (part t i j) i j (n - readers b (part t i j)))
next_task b t i j n le lt = ap (λ (e : End). e.task) (succ_next b t i j n _ _ le lt refl refl)

succ_itself : (b t i j n : ℕ) → readers b (part t i j) ≤ n → t < b
    → wait_row (pred t) (part t i j) i (n - readers b (part t i j)) ≡ i → wait_column (pred t) (part t i j) i j (n - readers b (part t i j)) ≡ j → succ_of b (Tile t i j) n ≡ end (suc t) i j 0
succ_itself b t i j n le lt ex ey = succ_next b t i j n i j le lt ex ey ∙ ap (end (suc t) i j) (on_true (eqb i i) _ _ (eq-eqb i i refl) ∙ on_true (eqb j j) _ _ (eq-eqb j j refl))

not_itself : (x y i j p : ℕ) → (x ≢ i) ⊎ (y ≢ j) → cond (eqb x i) (cond (eqb y j) 0 p) p ≡ p
not_itself x y i j p (inl ne) = on_false (eqb x i) _ _ (ne_eqb x i ne)
not_itself x y i j p (inr ne) = elim (cases_eq x i) [
  | inl e ↦ on_true (eqb x i) _ _ (eq-eqb x i e) ∙ on_false (eqb y j) _ _ (ne_eqb y j ne)
  | inr ne' ↦ on_false (eqb x i) _ _ (ne_eqb x i ne')
]

succ_other : (b t i j n x y : ℕ) → readers b (part t i j) ≤ n → t < b
    → wait_row (pred t) (part t i j) i (n - readers b (part t i j)) ≡ x → wait_column (pred t) (part t i j) i j (n - readers b (part t i j)) ≡ y → (x ≢ i) ⊎ (y ≢ j)
    → succ_of b (Tile t i j) n ≡ end (suc t) x y (inputs (part (suc t) x y) + reader_at b (pred t) (part t x y) i j)
unfolding order_place
succ_other b t i j n x y le lt ex ey ne = succ_next b t i j n x y le lt ex ey ∙ ap (end (suc t) x y) (not_itself x y i j (order_place b t i j x y) ne)

pub succ_last : (b t i j n : ℕ) → readers b (part t i j) ≤ n → b ≤ t → succ_of b (Tile t i j) n ≡ record { task = Gather i; at = j }
succ_last b t i j n le ge = on_false (ltb n (readers b (part t i j))) _ _ (le-ltb n (readers b (part t i j)) le) ∙ on_false (ltb t b) _ _ (le-ltb t b ge)

-- ---- ranks fall
pub rank_falls : (b : ℕ) → RankFalls b
rank_falls b (Tile zero i j) n task lt = absurd (omega arith)
rank_falls b (Tile (suc r) i j) n task lt =
    let p = part (suc r) i j in
    let h = rank_at_least r i j p (is_part r i j) in
    elim (cases_eq n 0) [
      | inl e ↦ let k = rank_at_most r (part r i j) in subst (λ (m : ℕ). rank_of b (pred_of b (Tile (suc r) i j) m).task < rank_in (suc r) p) (sym e) (omega arith)
      | inr ne ↦ elim (cases_lt n (inputs p)) [
        | inl near ↦ rw (pred_data b r i j n ne near) (source_rank r i j n p (is_part r i j) (omega arith) near)
        | inr far ↦
            let x = reader_row b (pred r) (part r i j) i (n - inputs p) in
            let y = reader_column b (pred r) (part r i j) j (n - inputs p) in
            let k = rank_at_most r (part r x y) in
            rw (pred_order b r i j n x y ne far refl refl) (omega arith)
      ]
    ]
rank_falls b (Gather i) n task lt = let h = rank_at_most b (part b i n) in omega arith
rank_falls b Sink n task lt = omega arith

-- ---- each edge is the other's reverse
pub read_some : (b r i j m : ℕ) (p : Part) → PartIs r i j p → m < readers b p → 0 < read_place p
read_some b r i j m Load h lt = elim h [ ]
read_some b r i j m Pivot h lt = omega arith
read_some b r i j m Row h lt = omega arith
read_some b r i j m Column h lt = omega arith
read_some b r i j m Rest h lt = absurd (omega arith)

pub input_some : (r i j : ℕ) (p : Part) → PartIs r i j p → 0 < inputs p
input_some r i j Load h = elim h [ ]
input_some r i j Pivot h = omega arith
input_some r i j Row h = omega arith
input_some r i j Column h = omega arith
input_some r i j Rest h = omega arith

own_any : (r i j : ℕ) → WaitsFor (pred r) i j i j (part r i j)
own_any zero i j = load_waits zero i j
own_any (suc r) i j = own_waits r i j (part (suc r) i j) (is_part r i j)

order_reversed : (b r i j n : ℕ) → suc r ≤ b → i < b → j < b → n ≢ 0 → inputs (part (suc r) i j) ≤ n → n < inputs (part (suc r) i j) + readers b (part r i j)
    → succ_of b (pred_of b (Tile (suc r) i j) n).task (pred_of b (Tile (suc r) i j) n).at ≡ end (suc r) i j n
order_reversed b zero i j n lr li lj ne far lt = absurd (omega arith)
order_reversed b (suc r) i j n lr li lj ne far lt =
    let q = part (suc r) i j in
    let m = n - inputs (part (suc (suc r)) i j) in
    let x = reader_row b r q i m in
    let y = reader_column b r q j m in
    let s = part (suc r) x y in
    let reads = reader_reads b r i j m q (is_part r i j) li lj (omega arith) (omega arith) in
    let waiting = source_waits r x y (read_place q) s (is_part r x y) (read_some b r i j m q (is_part r i j) (omega arith)) reads.within in
    let for : WaitsFor r x y i j s = subst (λ (v : ℕ). WaitsFor r x y i v s) reads.source_column_is (subst (λ (v : ℕ). WaitsFor r x y v (source_column r s y (read_place q)) s) reads.source_row_is waiting) in
    let e : readers b s + wait_at r s x y i j - readers b s ≡ wait_at r s x y i j = omega arith in
    let flipped : (i ≢ x) ⊎ (j ≢ y) = elim reads.other [ inl h ↦ inl (λ h'. h (sym h')) | inr h ↦ inr (λ h'. h (sym h')) ] in
    rw (pred_order b (suc r) i j n x y ne far refl refl)
    (succ_other b (suc r) x y (readers b s + wait_at r s x y i j) i j (omega arith) (omega arith)
    (ap (wait_row r s x) e ∙ for.row_is) (ap (wait_column r s x y) e ∙ for.column_is) flipped
    ∙ ap (end (suc (suc r)) i j) (ap (λ v. inputs (part (suc (suc r)) i j) + v) reads.at ∙ omega arith))

pub pred_is_succ : (b : ℕ) → PredIsSucc b
pred_is_succ b (Tile zero i j) n task lt = absurd (omega arith)
pred_is_succ b (Tile (suc r) i j) n task lt =
    let p = part (suc r) i j in
    let q = part r i j in
    elim (cases_eq n 0) [
      | inl e ↦
          let own = own_any r i j in
          let w = wait_at (pred r) q i j i j in
          let e' : readers b q + w - readers b q ≡ w = omega arith in
          subst (λ (m : ℕ). succ_of b (pred_of b (Tile (suc r) i j) m).task (pred_of b (Tile (suc r) i j) m).at ≡ end (suc r) i j m) (sym e)
          (succ_itself b r i j (readers b q + w) (omega arith) (omega arith) (ap (wait_row (pred r) q i) e' ∙ own.row_is) (ap (wait_column (pred r) q i j) e' ∙ own.column_is))
      | inr ne ↦ elim (cases_lt n (inputs p)) [
        | inl near ↦
            let x = source_row r p i n in
            let y = source_column r p j n in
            let is = source_is b r i j n p (is_part r i j) task.1 task.2 (omega arith) (omega arith) near in
            rw (pred_data b r i j n ne near)
            (succ_near b (suc r) x y (reader_at b r (part (suc r) x y) i j) is.within ∙ same_end (suc r) _ _ _ i j n is.reader_row_is is.reader_column_is is.place)
        | inr far ↦ order_reversed b r i j n task.0 task.1 task.2 ne far lt
      ]
    ]
pred_is_succ b (Gather i) n task lt = succ_last b b i n (readers b (part b i n)) (omega arith) (omega arith)
pred_is_succ b Sink n task lt = refl

near_reversed : (b t i j n : ℕ) → t ≤ b → i < b → j < b → n < readers b (part t i j) → pred_of b (succ_of b (Tile t i j) n).task (succ_of b (Tile t i j) n).at ≡ end t i j n
near_reversed b zero i j n lt li lj near = absurd (omega arith)
near_reversed b (suc r) i j n lt li lj near =
    let p = part (suc r) i j in
    let x = reader_row b r p i n in
    let y = reader_column b r p j n in
    let s = part (suc r) x y in
    let reads = reader_reads b r i j n p (is_part r i j) li lj (omega arith) near in
    let some = read_some b r i j n p (is_part r i j) near in
    let back : reader_at b r (part (suc r) (source_row r s x (read_place p)) (source_column r s y (read_place p))) x y ≡ n =
    ap (λ v. reader_at b r (part (suc r) v (source_column r s y (read_place p))) x y) reads.source_row_is
    ∙ ap (λ v. reader_at b r (part (suc r) i v) x y) reads.source_column_is ∙ reads.at in
    rw (succ_near b (suc r) i j n near)
    (pred_data b r x y (read_place p) (omega arith) reads.within ∙ same_end (suc r) _ _ _ i j n reads.source_row_is reads.source_column_is back)

pred_of_next : (b t i j : ℕ) → pred_of b (Tile (suc t) i j) 0 ≡ end t i j (readers b (part t i j) + wait_at (pred t) (part t i j) i j i j)
pred_of_next b t i j = refl

next_reversed : (b t i j n : ℕ) → t < b → i < b → j < b → readers b (part t i j) ≤ n → n < readers b (part t i j) + waits (part t i j)
    → pred_of b (succ_of b (Tile t i j) n).task (succ_of b (Tile t i j) n).at ≡ end t i j n
next_reversed b zero i j n lt li lj far room = rw (succ_itself b zero i j n far lt refl refl) (ap (end zero i j) (omega arith))
next_reversed b (suc r) i j n lt li lj far room =
    let p = part (suc r) i j in
    let m = n - readers b p in
    let x = wait_row r p i m in
    let y = wait_column r p i j m in
    let is = wait_is r i j m p (is_part r i j) (omega arith) in
    elim is.which [
      | itself ex ey ↦
          let back : readers b p + wait_at r p i j i j ≡ n =
          ap (λ v. readers b p + v) (ap (λ v. wait_at r p i j v j) (sym ex) ∙ ap (wait_at r p i j x) (sym ey) ∙ is.at) ∙ omega arith in
          rw (succ_itself b (suc r) i j n far lt ex ey) (ap (end (suc r) i j) back)
      | source n' pn ln ex ey ne ↦
          let q = part (suc r) x y in
          let place = inputs (part (suc (suc r)) x y) + reader_at b r q i j in
          let some = input_some (suc r) x y (part (suc (suc r)) x y) (is_part (suc r) x y) in
          let from : IsSource b r i j x y n' =
          subst (λ (v : ℕ). IsSource b r i j x v n') (sym ey) (subst (λ (v : ℕ). IsSource b r i j v (source_column r p j n') n') (sym ex) (source_is b r i j n' p (is_part r i j) li lj (omega arith) pn ln)) in
          let e : place - inputs (part (suc (suc r)) x y) ≡ reader_at b r q i j = omega arith in
          rw (succ_other b (suc r) i j n x y far lt refl refl ne)
          (pred_order b (suc r) x y place i j (omega arith) (omega arith) (ap (reader_row b r q x) e ∙ from.reader_row_is) (ap (reader_column b r q y) e ∙ from.reader_column_is)
          ∙ ap (end (suc r) i j) (ap (λ v. readers b p + v) is.at ∙ omega arith))
    ]

pub count_before_last : (b t i j : ℕ) → t < b → succ_count_of b (Tile t i j) ≡ readers b (part t i j) + waits (part t i j)
count_before_last b t i j lt = ap (λ v. readers b (part t i j) + v) (on_true (ltb t b) (waits (part t i j)) 1 (lt-ltb t b lt))

pub count_last : (b t i j : ℕ) → b ≤ t → succ_count_of b (Tile t i j) ≡ readers b (part t i j) + 1
count_last b t i j ge = ap (λ v. readers b (part t i j) + v) (on_false (ltb t b) (waits (part t i j)) 1 (le-ltb t b ge))

pub succ_is_pred : (b : ℕ) → SuccIsPred b
succ_is_pred b (Tile t i j) n task lt = elim (cases_lt n (readers b (part t i j))) [
  | inl near ↦ near_reversed b t i j n task.0 task.1 task.2 near
  | inr far ↦ elim (cases_lt t b) [
    | inl early ↦ let c = count_before_last b t i j early in next_reversed b t i j n early task.1 task.2 far (omega arith)
    | inr late ↦
        let c = count_last b t i j late in
        let e : b ≡ t = omega arith in
        rw (succ_last b t i j n far late) (ap (λ v. end v i j (readers b (part v i j))) e ∙ ap (end t i j) (omega arith))
  ]
]
succ_is_pred b (Gather i) n task lt = ap (λ v. record { task = Gather i; at = v }) (omega arith)
succ_is_pred b Sink n task lt = absurd (omega arith)

-- ---- edges lead to tasks, at a port and a place that they have
order_in_range : (b r i j n : ℕ) → suc r ≤ b → i < b → j < b → n ≢ 0 → inputs (part (suc r) i j) ≤ n → n < inputs (part (suc r) i j) + readers b (part r i j)
    → IsTask b (pred_of b (Tile (suc r) i j) n).task × ((pred_of b (Tile (suc r) i j) n).at < succ_count_of b (pred_of b (Tile (suc r) i j) n).task)
order_in_range b zero i j n lr li lj ne far lt = absurd (omega arith)
order_in_range b (suc r) i j n lr li lj ne far lt =
    let q = part (suc r) i j in
    let m = n - inputs (part (suc (suc r)) i j) in
    let x = reader_row b r q i m in
    let y = reader_column b r q j m in
    let s = part (suc r) x y in
    let reads = reader_reads b r i j m q (is_part r i j) li lj (omega arith) (omega arith) in
    let waiting = source_waits r x y (read_place q) s (is_part r x y) (read_some b r i j m q (is_part r i j) (omega arith)) reads.within in
    let for : WaitsFor r x y i j s = subst (λ (v : ℕ). WaitsFor r x y i v s) reads.source_column_is (subst (λ (v : ℕ). WaitsFor r x y v (source_column r s y (read_place q)) s) reads.source_row_is waiting) in
    let within = for.within in
    rw (pred_order b (suc r) i j n x y ne far refl refl) ((omega arith, reads.row_in, reads.column_in), rw (count_before_last b (suc r) x y (omega arith)) (omega arith))

at_least_readers : (b t i j : ℕ) → readers b (part t i j) ≤ succ_count_of b (Tile t i j)
at_least_readers b t i j = omega arith

pub port_in_range : (b : ℕ) → PortInRange b
port_in_range b (Tile zero i j) n task lt = absurd (omega arith)
port_in_range b (Tile (suc r) i j) n task lt =
    let p = part (suc r) i j in
    elim (cases_eq n 0) [
      | inl e ↦
          let own = own_any r i j in
          let within = own.within in
          subst (λ (m : ℕ). IsTask b (pred_of b (Tile (suc r) i j) m).task × ((pred_of b (Tile (suc r) i j) m).at < succ_count_of b (pred_of b (Tile (suc r) i j) m).task)) (sym e)
          ((omega arith, task.1, task.2), rw (count_before_last b r i j task.0) (omega arith))
      | inr ne ↦ elim (cases_lt n (inputs p)) [
        | inl near ↦
            let is = source_is b r i j n p (is_part r i j) task.1 task.2 (omega arith) (omega arith) near in
            let within = is.within in
            let h = at_least_readers b (suc r) (source_row r p i n) (source_column r p j n) in
            rw (pred_data b r i j n ne near) ((task.0, is.row_in, is.column_in), omega arith)
        | inr far ↦ order_in_range b r i j n task.0 task.1 task.2 ne far lt
      ]
    ]
port_in_range b (Gather i) n task lt = ((omega arith, task, lt), rw (count_last b b i n (omega arith)) (omega arith))
port_in_range b Sink n task lt = (lt, omega arith)

near_in_range : (b t i j n : ℕ) → t ≤ b → i < b → j < b → n < readers b (part t i j)
    → IsTask b (succ_of b (Tile t i j) n).task × ((succ_of b (Tile t i j) n).at < pred_count_of b (succ_of b (Tile t i j) n).task)
near_in_range b zero i j n lt li lj near = absurd (omega arith)
near_in_range b (suc r) i j n lt li lj near =
    let p = part (suc r) i j in
    let reads = reader_reads b r i j n p (is_part r i j) li lj (omega arith) near in
    let within = reads.within in
    rw (succ_near b (suc r) i j n near) ((lt, reads.row_in, reads.column_in), omega arith)

next_in_range : (b t i j n : ℕ) → t < b → i < b → j < b → readers b (part t i j) ≤ n → n < readers b (part t i j) + waits (part t i j)
    → IsTask b (succ_of b (Tile t i j) n).task × ((succ_of b (Tile t i j) n).at < pred_count_of b (succ_of b (Tile t i j) n).task)
next_in_range b zero i j n lt li lj far room =
    let some = input_some zero i j (part 1 i j) (is_part zero i j) in
    rw (succ_itself b zero i j n far lt refl refl) ((omega arith, li, lj), omega arith)
next_in_range b (suc r) i j n lt li lj far room =
    let p = part (suc r) i j in
    let m = n - readers b p in
    let x = wait_row r p i m in
    let y = wait_column r p i j m in
    let is = wait_is r i j m p (is_part r i j) (omega arith) in
    elim is.which [
      | itself ex ey ↦
          let some = input_some (suc r) i j (part (suc (suc r)) i j) (is_part (suc r) i j) in
          rw (succ_itself b (suc r) i j n far lt ex ey) ((omega arith, li, lj), omega arith)
      | source n' pn ln ex ey ne ↦
          let from : IsSource b r i j x y n' =
          subst (λ (v : ℕ). IsSource b r i j x v n') (sym ey) (subst (λ (v : ℕ). IsSource b r i j v (source_column r p j n') n') (sym ex) (source_is b r i j n' p (is_part r i j) li lj (omega arith) pn ln)) in
          let within = from.within in
          rw (succ_other b (suc r) i j n x y far lt refl refl ne) ((omega arith, from.row_in, from.column_in), omega arith)
    ]

pub place_in_range : (b : ℕ) → PlaceInRange b
place_in_range b (Tile t i j) n task lt = elim (cases_lt n (readers b (part t i j))) [
  | inl near ↦ near_in_range b t i j n task.0 task.1 task.2 near
  | inr far ↦ elim (cases_lt t b) [
    | inl early ↦ let c = count_before_last b t i j early in next_in_range b t i j n early task.1 task.2 far (omega arith)
    | inr late ↦ rw (succ_last b t i j n far late) (task.1, task.2)
  ]
]
place_in_range b (Gather i) n task lt = (tt, task)
place_in_range b Sink n task lt = absurd (omega arith)

-- ---- versions
pub same_tile : (t i j t' i' j' : ℕ) → t ≡ t' → i ≡ i' → j ≡ j' → Tile t i j ≡ Tile t' i' j'
same_tile t i j t' i' j' e f g = cc

-- the overwriter of a version waits for each reader of the same round
reader_before : (b r i j x y n : ℕ) → IsSource b r x y i j n → (m : ℕ) × (m < pred_count_of b (Tile (suc (suc r)) i j)) × ((pred_of b (Tile (suc (suc r)) i j) m).task ≡ Tile (suc r) x y)
reader_before b r i j x y n from =
    let q = part (suc r) i j in
    let m = inputs (part (suc (suc r)) i j) + reader_at b r q x y in
    let some = input_some (suc r) i j (part (suc (suc r)) i j) (is_part (suc r) i j) in
    let within = from.within in
    let e : m - inputs (part (suc (suc r)) i j) ≡ reader_at b r q x y = omega arith in
    (m, omega arith, rw (pred_order b (suc r) i j m x y (omega arith) (omega arith) (ap (reader_row b r q i) e ∙ from.reader_row_is) (ap (reader_column b r q j) e ∙ from.reader_column_is)) refl)

pub overwrites_last : (b : ℕ) → OverwritesLast b
overwrites_last b r i j lr li lj (Tile zero x y) n task lt is = absurd (omega arith)
overwrites_last b r i j lr li lj (Tile (suc r') x y) n task lt is = elim (cases_eq n 0) [
  | inl e ↦
      let h : Tile r' x y ≡ Tile r i j = subst (λ (m : ℕ). (pred_of b (Tile (suc r') x y) m).task ≡ Tile r i j) e is in
      inl cc
  | inr ne ↦
      let p = part (suc r') x y in
      let sx = source_row r' p x n in
      let sy = source_column r' p y n in
      let h : Tile (suc r') sx sy ≡ Tile r i j = rw (pred_data b r' x y n ne lt) at is in
      let er : suc r' ≡ r = cc in
      let ex : sx ≡ i = cc in
      let ey : sy ≡ j = cc in
      let from : IsSource b r' x y i j n =
      subst (λ (v : ℕ). IsSource b r' x y i v n) ey (subst (λ (v : ℕ). IsSource b r' x y v sy n) ex (source_is b r' x y n p (is_part r' x y) task.1 task.2 (omega arith) (omega arith) lt)) in
      inr (subst (λ (v : ℕ). (m : ℕ) × (m < pred_count_of b (Tile (suc v) i j)) × ((pred_of b (Tile (suc v) i j) m).task ≡ Tile (suc r') x y)) er (reader_before b r' i j x y n from))
]
overwrites_last b r i j lr li lj (Gather x) n task lt is = let h : b ≡ r = cc in absurd (omega arith)
overwrites_last b r i j lr li lj Sink n task lt is = cc

-- ---- what the code returns
pub not_load : (b t i j n : ℕ) → n < pred_count_of b (Tile t i j) → t ≡ suc (t - 1)
not_load b zero i j n lt = absurd (omega arith)
not_load b (suc r) i j n lt = omega arith

data_go : (b r i j n x y m : ℕ) → n ≢ 0 → n < inputs (part (suc r) i j) → x ≡ source_row r (part (suc r) i j) i n → y ≡ source_column r (part (suc r) i j) j n
    → m ≡ reader_at b r (part (suc r) x y) i j → end (suc r) x y m ≡ pred_of b (Tile (suc r) i j) n
data_go b r i j n x y m ne lt ex ey em =
    let sx = source_row r (part (suc r) i j) i n in
    let sy = source_column r (part (suc r) i j) j n in
    same_end (suc r) x y m sx sy (reader_at b r (part (suc r) sx sy) i j) ex ey
    (em ∙ ap (λ v. reader_at b r (part (suc r) v y) i j) ex ∙ ap (λ v. reader_at b r (part (suc r) sx v) i j) ey)
    ∙ sym (pred_data b r i j n ne lt)

pub data_end : (b t r i j n x y m : ℕ) → t ≡ suc r → n ≢ 0 → n < inputs (part t i j) → x ≡ source_row r (part t i j) i n → y ≡ source_column r (part t i j) j n
    → m ≡ reader_at b r (part t x y) i j → end t x y m ≡ pred_of b (Tile t i j) n
data_end b t r i j n x y m e =
    subst (λ (v : ℕ). n ≢ 0 → n < inputs (part v i j) → x ≡ source_row r (part v i j) i n → y ≡ source_column r (part v i j) j n → m ≡ reader_at b r (part v x y) i j → end v x y m ≡ pred_of b (Tile v i j) n) (sym e)
    (data_go b r i j n x y m)

order_go : (b r i j n x y m : ℕ) → n ≢ 0 → inputs (part (suc r) i j) ≤ n → x ≡ reader_row b (r - 1) (part r i j) i (n - inputs (part (suc r) i j))
    → y ≡ reader_column b (r - 1) (part r i j) j (n - inputs (part (suc r) i j)) → m ≡ readers b (part r x y) + wait_at (r - 1) (part r x y) x y i j → end r x y m ≡ pred_of b (Tile (suc r) i j) n
order_go b r i j n x y m ne le ex ey em =
    let one = sub-one r in
    ap (end r x y) (em ∙ ap (λ v. readers b (part r x y) + wait_at v (part r x y) x y i j) one)
    ∙ sym (pred_order b r i j n x y ne le
    (ap (λ v. reader_row b v (part r i j) i (n - inputs (part (suc r) i j))) (sym one) ∙ sym ex)
    (ap (λ v. reader_column b v (part r i j) j (n - inputs (part (suc r) i j))) (sym one) ∙ sym ey))

pub order_end : (b t r i j n x y m : ℕ) → t ≡ suc r → n ≢ 0 → inputs (part t i j) ≤ n → x ≡ reader_row b (r - 1) (part r i j) i (n - inputs (part t i j))
    → y ≡ reader_column b (r - 1) (part r i j) j (n - inputs (part t i j)) → m ≡ readers b (part r x y) + wait_at (r - 1) (part r x y) x y i j → end r x y m ≡ pred_of b (Tile t i j) n
order_end b t r i j n x y m e =
    subst (λ (v : ℕ). n ≢ 0 → inputs (part v i j) ≤ n → x ≡ reader_row b (r - 1) (part r i j) i (n - inputs (part v i j)) → y ≡ reader_column b (r - 1) (part r i j) j (n - inputs (part v i j))
    → m ≡ readers b (part r x y) + wait_at (r - 1) (part r x y) x y i j → end r x y m ≡ pred_of b (Tile v i j) n) (sym e)
    (order_go b r i j n x y m)

pub other_end : (b t r i j n x y m : ℕ) → r ≡ t - 1 → readers b (part t i j) ≤ n → t < b → x ≡ wait_row r (part t i j) i (n - readers b (part t i j))
    → y ≡ wait_column r (part t i j) i j (n - readers b (part t i j)) → (x ≢ i) ⊎ (y ≢ j) → m ≡ inputs (part (t + 1) x y) + reader_at b r (part t x y) i j
    → end (t + 1) x y m ≡ succ_of b (Tile t i j) n
other_end b t r i j n x y m er le lt ex ey ne em =
    let e = er ∙ sub-one t in
    let p = part t i j in
    let k = n - readers b p in
    ap (end (t + 1) x y) (em ∙ ap (λ v. inputs (part v x y) + reader_at b r (part t x y) i j) (add-one t) ∙ ap (λ v. inputs (part (suc t) x y) + reader_at b v (part t x y) i j) e)
    ∙ ap (λ v. end v x y (inputs (part (suc t) x y) + reader_at b (pred t) (part t x y) i j)) (add-one t)
    ∙ sym (succ_other b t i j n x y le lt (ap (λ v. wait_row v p i k) (sym e) ∙ sym ex) (ap (λ v. wait_column v p i j k) (sym e) ∙ sym ey) ne)
