-- Each change of the first item that an answer makes keeps its jobs.
use Rattle.std.proofs.Common.{◌≡◌, ℕ, ◌+◌, ◌≤◌, Bool, true, false, cond, nat_lt, eqb, ◌&&◌, List, [], ◌∷◌, arith, refl, ap}
use Rattle.std.proofs.lemmas.Bool.{eqb-true, ne_eqb}
use Rattle.core_state.specs.Counts.{count, hit}
use Rattle.core_state.specs.Effects.{blamed_items, is_good, found_in, loaded_ended, loaded_items, moved_ended, moved_items, read_ended, read_items, skipped_items}
use Rattle.core_state.specs.Graph.{Graph, Plan}
use Rattle.core_state.specs.Tests.{carries, is_ended}
use Rattle.core_state.specs.Views.{ends_with, none_left}
use Rattle.core_state.specs.Words.{life_of, mark_of}
use Rattle.graph_model.specs.declared.plan.Point.TheVariants as point
use Rattle.graph_model.specs.declared.record.Cause.TheVariants as cause
use Rattle.core_state.specs.declared.block.BlockCells.{BlockCells}
use Rattle.core_state.specs.declared.job.Job.{Job}
use Rattle.core_state.specs.declared.job.Job.TheVariants as job
use Rattle.core_state.specs.declared.views.Ended.{Ended}
use Rattle.core_state.specs.declared.views.Item.{Item}
use Rattle.core_state.specs.declared.views.Item.TheVariants as item
use Rattle.core_state.specs.declared.views.Known.{Known}
use Rattle.core_state.proofs.Base.Counting.{bump_is}
use Rattle.core_state.proofs.Settle.View.{ends_carry}
use Rattle.run_bounds.proofs.Jobs.{Keeps, none_ends, one_here}

-- items that carry no job
notify_bare : (i : Job) (k l a m w : ℕ) (qs : List ℕ) → carries i k l (item.Notify a m w qs) ≡ false
notify_bare job.Explore k l a m w qs = refl
notify_bare job.Compute k l a m w qs = refl

pub suspect_bare : (i : Job) (k l a m : ℕ) (c : Rattle.graph_model.specs.declared.record.Cause.Cause) (waits : Bool) → carries i k l (item.Suspect a m c waits) ≡ false
suspect_bare job.Explore k l a m c waits = refl
suspect_bare job.Compute k l a m c waits = refl

reenter_bare : (i : Job) (k l a m : ℕ) (qs : List ℕ) → carries i k l (item.Reenter a m qs) ≡ false
reenter_bare job.Explore k l a m qs = refl
reenter_bare job.Compute k l a m qs = refl

pub owe_bare : (i : Job) (k l a m : ℕ) (j : Job) → carries i k l (item.Owe a j m) ≡ false
owe_bare job.Explore k l a m j = refl
owe_bare job.Compute k l a m j = refl

-- the carrier of a job, as it goes on
explore_same : (i : Job) (k l a m j j' : ℕ) → carries i k l (item.Explore a m j') ≡ carries i k l (item.Explore a m j)
explore_same job.Explore k l a m j j' = refl
explore_same job.Compute k l a m j j' = refl

compute_same : (i : Job) (k l a m : ℕ) (x y : Bool) (r r' : ℕ) (d d' : Bool) → carries i k l (item.Compute a m y r' d') ≡ carries i k l (item.Compute a m x r d)
compute_same job.Explore k l a m x y r r' d d' = refl
compute_same job.Compute k l a m x y r r' d d' = refl

pub close_same : (i : Job) (k l a m w w' : ℕ) → carries i k l (item.Close a m w') ≡ carries i k l (item.Close a m w)
close_same job.Explore k l a m w w' = refl
close_same job.Compute k l a m w w' = refl

pub compute_close : (i : Job) (k l a m w : ℕ) (x : Bool) (r : ℕ) (d : Bool) → carries i k l (item.Close a m w) ≡ carries i k l (item.Compute a m x r d)
compute_close job.Explore k l a m w x r d = refl
compute_close job.Compute k l a m w x r d = refl

module _ (i : Job) (k l : ℕ) (g : Graph) (p : Plan) (made : List ℕ) where
  ends : (x : Item) (es : List Ended) → count (is_ended i k l) (ends_with x es) ≡ hit (carries i k l x) + count (is_ended i k l) es
  ends x es = ends_carry g p made i k l x es

  pub moved_keeps : Keeps i k l (moved_items g) (moved_ended g)
  moved_keeps = record { carried = carried; nothing = λ es. refl }
    where
      carried : (x : Item) (es : List Ended) → hit (carries i k l x) + count (is_ended i k l) es ≤ count (carries i k l) (moved_items g (x ∷ [])) + count (is_ended i k l) (moved_ended g (x ∷ []) es)
      carried (item.Explore a m j) es = by (nat_lt j (g.places a))
        where
          by : (b : Bool) → hit (carries i k l (item.Explore a m j)) + count (is_ended i k l) es ≤ count (carries i k l) (cond b (item.Explore a m (j + 1) ∷ []) []) + count (is_ended i k l) (cond b es (record { job = job.Explore; key = a; life = m } ∷ es))
          by true = let c = bump_is (carries i k l (item.Explore a m (j + 1))) 0 in let d = ap hit (explore_same i k l a m j (j + 1)) in omega (arith, c, d)
          by false = let d = ends (item.Explore a m j) es in omega (arith, d)
      carried (item.Notify a m w (q ∷ qs)) es = let d = ap hit (notify_bare i k l a m w (q ∷ qs)) in omega (arith, d)
      carried (item.Reenter a m (q ∷ qs)) es = let d = ap hit (reenter_bare i k l a m (q ∷ qs)) in omega (arith, d)
      carried x es = one_here i k l x es

  pub skipped_keeps : (rows r : ℕ) (known : List Known) → Keeps i k l (skipped_items g rows r known) (none_ends i k l)
  skipped_keeps rows r known = record { carried = carried; nothing = λ es. refl }
    where
      carried : (x : Item) (es : List Ended) → hit (carries i k l x) + count (is_ended i k l) es ≤ count (carries i k l) (skipped_items g rows r known (x ∷ [])) + count (is_ended i k l) es
      carried (item.Reenter a m (q ∷ qs)) es = let d = ap hit (reenter_bare i k l a m (q ∷ qs)) in omega (arith, d)
      carried x es = one_here i k l x es

  -- a mark and no mark
  marked_not : (n : ℕ) → eqb (mark_of n) 1 ≡ true → eqb (mark_of n) 0 ≡ false
  marked_not n is = ne_eqb (mark_of n) 0 (λ z. let a = eqb-true (mark_of n) 1 is in omega (arith, a, z))

  pub loaded_keeps : (a0 n : ℕ) → Keeps i k l (loaded_items g p made a0 n) (loaded_ended g p made a0 n)
  loaded_keeps a0 n = record { carried = carried; nothing = λ es. refl }
    where
      carried : (x : Item) (es : List Ended) → hit (carries i k l x) + count (is_ended i k l) es ≤ count (carries i k l) (loaded_items g p made a0 n (x ∷ [])) + count (is_ended i k l) (loaded_ended g p made a0 n (x ∷ []) es)
      carried (item.Compute a m false r d) es = by (eqb a0 a && none_left g p point.Ready a m made) (eqb (mark_of n) 1) (eqb (life_of n) m) (eqb (mark_of n) 0) (marked_not n)
        where
          by : (x y z u : Bool) → (y ≡ true → u ≡ false) → hit (carries i k l (item.Compute a m false r d)) + count (is_ended i k l) es
              ≤ count (carries i k l) (cond x (cond y (item.Suspect a (life_of n) cause.Descriptor false ∷ []) (cond z (item.Compute a m true r d ∷ []) [])) (item.Compute a m false r d ∷ []))
              + count (is_ended i k l) (cond x (cond (u && z) es (record { job = job.Compute; key = a; life = m } ∷ es)) es)
          by false y z u not = one_here i k l (item.Compute a m false r d) es
          by true true z true not = absurd (let q = not refl in cc)
          by true true z false not = let c = ends (item.Compute a m false r d) es in omega (arith, c)
          by true false true true not = let c = bump_is (carries i k l (item.Compute a m true r d)) 0 in let f = ap hit (compute_same i k l a m false true r r d d) in omega (arith, c, f)
          by true false true false not = let c = ends (item.Compute a m false r d) es in omega (arith, c)
          by true false false true not = let c = ends (item.Compute a m false r d) es in omega (arith, c)
          by true false false false not = let c = ends (item.Compute a m false r d) es in omega (arith, c)
      carried (item.Reenter a m (q ∷ qs)) es = let d = ap hit (reenter_bare i k l a m (q ∷ qs)) in omega (arith, d)
      carried x es = one_here i k l x es

  pub blamed_keeps : (a0 n : ℕ) → Keeps i k l (blamed_items g a0 n) (none_ends i k l)
  blamed_keeps a0 n = record { carried = carried; nothing = λ es. refl }
    where
      carried : (x : Item) (es : List Ended) → hit (carries i k l x) + count (is_ended i k l) es ≤ count (carries i k l) (blamed_items g a0 n (x ∷ [])) + count (is_ended i k l) es
      carried (item.Suspect a m c w) es = let d = ap hit (suspect_bare i k l a m c w) in omega (arith, d)
      carried x es = one_here i k l x es

  pub read_keeps : (b : ℕ) (was : BlockCells) → Keeps i k l (read_items g b was) (read_ended g b was)
  read_keeps b was = record { carried = carried; nothing = λ es. refl }
    where
      carried : (x : Item) (es : List Ended) → hit (carries i k l x) + count (is_ended i k l) es ≤ count (carries i k l) (read_items g b was (x ∷ [])) + count (is_ended i k l) (read_ended g b was (x ∷ []) es)
      carried (item.Compute a m true r d) es = by (nat_lt r (g.inputs a) && eqb b (g.block (g.pred a r).task)) (is_good (g.version (g.pred a r).task) was)
        where
          by : (x y : Bool) → hit (carries i k l (item.Compute a m true r d)) + count (is_ended i k l) es
              ≤ count (carries i k l) (cond x (cond y (item.Compute a m true (r + 1) d ∷ []) (item.Suspect a m (cause.Block b (g.version (g.pred a r).task) (found_in (g.version (g.pred a r).task) was)) false ∷ [])) (item.Compute a m true r d ∷ []))
              + count (is_ended i k l) (cond x (cond y es (record { job = job.Compute; key = a; life = m } ∷ es)) es)
          by false y = one_here i k l (item.Compute a m true r d) es
          by true true = let c = bump_is (carries i k l (item.Compute a m true (r + 1) d)) 0 in let f = ap hit (compute_same i k l a m true true r (r + 1) d d) in omega (arith, c, f)
          by true false = let c = ends (item.Compute a m true r d) es in omega (arith, c)
      carried x es = one_here i k l x es
