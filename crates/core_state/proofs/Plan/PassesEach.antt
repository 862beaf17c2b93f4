-- The kinds of step that pass a point: each has to leave that the strikes of the point were made.
use Rattle.std.proofs.Common.{◌≡◌, ◌⊎◌, ℕ, ◌^◌, ◌<◌, ◌≤◌, Bool, true, false, cond, ◌&&◌, nat_lt, eqb, bit_or, List, [], ◌∷◌, ⊎_elim, inl, inr, arith, sym, ap, refl, ◌∙◌, subst}
use mathlib.Core.Option.{some, none}
use mathlib.Core.Logic.{dite}
use native.Mathlib.Decide.{ℕ_discrete, dec_lt}
use Rattle.std.proofs.lemmas.Bool.{eq-eqb, le-ltb}
use Rattle.core_state.specs.Graph.{Setting, Sound, Graph, Plan}
use Rattle.core_state.specs.Words.{descriptor, recovery, life_of, mark_of, standing_life}
use Rattle.core_state.specs.Counts.{hit, bump, count, items, in_stacks, held, knows_row, noted, struck_by}
use Rattle.core_state.specs.Tests.{two, three, carries, is_loaded, is_close, is_spent, is_computed, is_closed}
use Rattle.core_state.specs.Change.{Core, Change, Shift, Sums}
use Rattle.core_state.specs.Rows.{HasKey}
use Rattle.core_state.specs.Cover.{Passed}
use Rattle.core_state.specs.Invariant.{Invariant}
use Rattle.core_state.specs.Guards.{AtWork, InOrder, CanSpend, CanCompute, Spends}
use Rattle.core_state.specs.Guards.Spends.{exploring, notifying, reentering, itself}
use Rattle.core_state.specs.Effects.{loaded_items, after_load_descriptor, told_of, moved, after_spend, made_items, after_computed}
use Rattle.core_state.specs.Views.{none_left, next_strike, passing, strike_at, strike_of, is_finished, unfinished, settle, on_top, top_items, key_of}
use Rattle.graph_model.specs.declared.plan.Point.TheVariants as point
use Rattle.graph_model.specs.declared.record.Cause.TheVariants as cause
use Rattle.graph_model.specs.declared.record.Record.{Record}
use Rattle.graph_model.specs.declared.record.Record.TheVariants as record_of
use Rattle.core_state.specs.declared.answers.Told.{Told}
use Rattle.core_state.specs.declared.job.Job.TheVariants.{Explore, Compute}
use Rattle.core_state.specs.declared.views.Item.{Item}
use Rattle.core_state.specs.declared.views.Item.TheVariants as item
use Rattle.core_state.specs.declared.views.Stack.{Stack}
use Rattle.core_state.specs.declared.views.View.{View}
use Rattle.core_state.proofs.Base.Counting.{bump_is, two_here, two_tells, three_else, both}
use Rattle.core_state.proofs.Load.DescriptorItems.{loaded_view, same_before}
use Rattle.core_state.proofs.Base.ItemMoves.{moved_still, swapped}
use Rattle.core_state.proofs.Plan.Passes.{AllMade, left_none, view_made, same_closed, passes_keep}
use Rattle.core_state.proofs.Settle.View.{settled_falls}
use Rattle.core_state.proofs.Spend.Keeps.{serves, spend_view, spends_place}
use Rattle.core_state.proofs.Spend.View.{SpendView, is_fresh, is_last, is_marked, and_fails, and_low}
use Rattle.core_state.proofs.Replace.Suspects.{descriptor_high}
use Rattle.core_state.proofs.Spend.Answer.{told_is}
use Rattle.core_state.proofs.Blocks.AtWork.{at_work}

-- in order, the topmost item has no strike left at its point
top_quiet : (e : Setting) (v : View) (x : Item) → InOrder e v → AtWork v x → strike_at e.graph e.plan v.strikes (passing e.graph x) ≡ none
top_quiet e v x order at = sym (ap (λ o. strike_of e.graph e.plan v.strikes (top_items o)) at.stacks_are ∙ ap (λ o. strike_of e.graph e.plan v.strikes o) at.items_are) ∙ order.no_strike

-- exploring past its last place, and closing before its first word
quiet_explored : (e : Setting) (v : View) (k l : ℕ) → InOrder e v → AtWork v (item.Explore k l (e.graph.places k)) → next_strike e.graph e.plan point.Explored k l v.strikes ≡ none
quiet_explored e v k l order at = sym (ap (λ (b : Bool). strike_at e.graph e.plan v.strikes (cond b none (some (record { at = point.Explored; key = k; life = l })))) (le-ltb (e.graph.places k) (e.graph.places k) (omega arith))) ∙ top_quiet e v (item.Explore k l (e.graph.places k)) order at

pub quiet_computed : (e : Setting) (v : View) (k l w : ℕ) → w ≡ 0 → InOrder e v → AtWork v (item.Close k l w) → next_strike e.graph e.plan point.Computed k l v.strikes ≡ none
quiet_computed e v k l w first order at = sym (ap (λ (b : Bool). strike_at e.graph e.plan v.strikes (cond b (some (record { at = point.Computed; key = k; life = l })) (cond (nat_lt w (e.graph.notify_words k)) none (some (record { at = point.Notified; key = k; life = l }))))) (eq-eqb w 0 first)) ∙ top_quiet e v (item.Close k l w) order at

-- a computing is loaded only where none of its strikes is left
module _ (g : Graph) (p : Plan) (made : List ℕ) (k n a b : ℕ) where
  loads_left : (xs : List Item) → (count (is_loaded a b) (loaded_items g p made k n xs) ≤ count (is_loaded a b) xs) ⊎ (none_left g p point.Ready a b made ≡ true)
  loads_left (item.Compute c l false read m ∷ xs) = by (eqb k c && none_left g p point.Ready c l made) refl (eqb (mark_of n) 1) (eqb (life_of n) l)
    where
      falls : count (is_loaded a b) xs ≤ count (is_loaded a b) (item.Compute c l false read m ∷ xs)
      falls = let x = bump_is (is_loaded a b (item.Compute c l false read m)) (count (is_loaded a b) xs) in omega (arith, x)

      by : (f : Bool) → (eqb k c && none_left g p point.Ready c l made) ≡ f → (marked same : Bool) → (count (is_loaded a b) (cond f (cond marked (item.Suspect c (life_of n) cause.Descriptor false ∷ xs) (cond same (item.Compute c l true read m ∷ xs) xs)) (item.Compute c l false read m ∷ xs)) ≤ count (is_loaded a b) (item.Compute c l false read m ∷ xs))
          ⊎ (none_left g p point.Ready a b made ≡ true)
      by false z marked same = inl (omega arith)
      by true z true same = inl falls
      by true z false false = inl falls
      by true z false true = ⊎_elim (λ q. inl (let x : bump (two a b c l && true) (count (is_loaded a b) xs) ≡ bump (false && true) (count (is_loaded a b) xs) = ap (λ (o : Bool). bump (o && true) (count (is_loaded a b) xs)) q in let y = falls in omega (arith, x, y)))
          (λ q. inr (subst (λ o. none_left g p point.Ready o b made ≡ true) (sym q.1) (subst (λ o. none_left g p point.Ready c o made ≡ true) (sym q.2) (both (eqb k c) (none_left g p point.Ready c l made) z).1))) (two_tells a b c l)
  loads_left (item.Compute c l true read m ∷ xs) = inl (omega arith)
  loads_left (item.Reenter c l [] ∷ xs) = inl (omega arith)
  loads_left (item.Reenter c l (q ∷ qs) ∷ xs) = by (eqb k (g.succ c q).task) (eqb (mark_of n) 1) (eqb (Rattle.std.specs.Int.bit_at n (g.succ c q).place) 1)
    where
      by : (f h o : Bool) → (count (is_loaded a b) (cond f (cond h (item.Suspect k (life_of n) cause.Descriptor false ∷ item.Reenter c l qs ∷ xs) (cond o (item.Reenter c l qs ∷ xs) (item.Reenter c l (q ∷ qs) ∷ xs))) (item.Reenter c l (q ∷ qs) ∷ xs)) ≤ count (is_loaded a b) (item.Reenter c l (q ∷ qs) ∷ xs))
          ⊎ (none_left g p point.Ready a b made ≡ true)
      by false h o = inl (omega arith)
      by true true o = inl (omega arith)
      by true false true = inl (omega arith)
      by true false false = inl (omega arith)
  loads_left [] = inl (omega arith)
  loads_left (item.Explore c l j ∷ xs) = inl (omega arith)
  loads_left (item.Close c l w ∷ xs) = inl (omega arith)
  loads_left (item.Notify c l w ps ∷ xs) = inl (omega arith)
  loads_left (item.Suspect c l d f ∷ xs) = inl (omega arith)
  loads_left (item.Renew c l d ∷ xs) = inl (omega arith)
  loads_left (item.Owe c j l ∷ xs) = inl (omega arith)

  pub tops_left : (ss : List Stack) → (in_stacks (is_loaded a b) (on_top (loaded_items g p made k n) ss) ≤ in_stacks (is_loaded a b) ss) ⊎ (none_left g p point.Ready a b made ≡ true)
  tops_left [] = inl (omega arith)
  tops_left (u ∷ ss) = ⊎_elim (λ q. inl (omega (arith, q))) (λ q. inr q) (loads_left u.items)

-- a closing leaves only where none of its strikes is left
module _ (g : Graph) (p : Plan) (made : List ℕ) (a b : ℕ) where
  close_left_one : (x : Item) → is_finished g p made x ≡ true → (is_close a b x ≡ false) ⊎ (none_left g p point.Notified a b made ≡ true)
  close_left_one (item.Close k l w) z = ⊎_elim (λ q. inl q) (λ q. inr (subst (λ o. none_left g p point.Notified o b made ≡ true) (sym q.1) (subst (λ o. none_left g p point.Notified k o made ≡ true) (sym q.2) (by (nat_lt w (g.notify_words k)) z)))) (two_tells a b k l)
    where
      by : (o : Bool) → cond o false (none_left g p point.Notified k l made) ≡ true → none_left g p point.Notified k l made ≡ true
      by true f = absurd cc
      by false f = f
  close_left_one (item.Notify k l w ps) z = inl refl
  close_left_one (item.Reenter k l ps) z = inl refl
  close_left_one (item.Explore k l j) z = inl refl
  close_left_one (item.Compute k l d f h) z = inl refl
  close_left_one (item.Suspect k l d f) z = inl refl
  close_left_one (item.Renew k l d) z = inl refl
  close_left_one (item.Owe k j l) z = inl refl

  closes_left : (xs : List Item) → (count (is_close a b) xs ≤ count (is_close a b) (unfinished g p made xs)) ⊎ (none_left g p point.Notified a b made ≡ true)
  closes_left [] = inl (omega arith)
  closes_left (x ∷ xs) = by (closes_left xs) (is_finished g p made x) refl
    where
      by : (count (is_close a b) xs ≤ count (is_close a b) (unfinished g p made xs)) ⊎ (none_left g p point.Notified a b made ≡ true) → (o : Bool) → is_finished g p made x ≡ o
          → (count (is_close a b) (x ∷ xs) ≤ count (is_close a b) (cond o (unfinished g p made xs) (x ∷ xs))) ⊎ (none_left g p point.Notified a b made ≡ true)
      by r true z = ⊎_elim (λ low. ⊎_elim (λ q. inl (let y : bump (is_close a b x) (count (is_close a b) xs) ≡ count (is_close a b) xs = ap (λ (o : Bool). bump o (count (is_close a b) xs)) q in omega (arith, y, low))) (λ q. inr q) (close_left_one x z)) (λ q. inr q) r
      by r false z = inl (omega arith)

  pub tops_closed : (ss : List Stack) → (in_stacks (is_close a b) ss ≤ in_stacks (is_close a b) (on_top (unfinished g p made) ss)) ⊎ (none_left g p point.Notified a b made ≡ true)
  tops_closed [] = inl (omega arith)
  tops_closed (u ∷ ss) = ⊎_elim (λ q. inl (omega (arith, q))) (λ q. inr q) (closes_left u.items)

module _ (e : Setting) (s t : Core) where
  pub passed_load_descriptor : (r k n : ℕ) (v : View) → Change s t (descriptor r) n n v (after_load_descriptor e.graph e.plan k n v) → Passed e s → Passed e t
  passed_load_descriptor r k n v c = passes_keep e s t record {
    struck = λ m. let a = c.sums (struck_by m) in omega (arith, a);
    explored = λ a z. inl (let d = c.sums (noted (is_spent a 1 40)) in omega (arith, d, z));
    ready = λ a b z. ⊎_elim (λ q. inl (let d = c.sums (noted (is_computed a b)) in let f = c.sums (items (is_loaded a b)) in omega (arith, d, f, q, z)))
        (λ q. inr (view_made e s t v (after_load_descriptor e.graph e.plan k n v) c.sums c.within (λ m. omega arith) point.Ready a b (left_none e.graph e.plan point.Ready a b v.strikes q))) (tops_left e.graph e.plan v.strikes k n a b v.stacks);
    computed = λ a b z. inl (let d = c.sums (noted (is_closed a b 0)) in omega (arith, d, z));
    notified = λ a b all. inr (inr (
      same_closed e s t v (after_load_descriptor e.graph e.plan k n v) c.sums (λ x y i. refl) a b all,
      let d = c.sums (items (is_close a b)) in let u = loaded_view e.graph k n e.plan v in let f = u.items_are (is_close a b) in
          let h = same_before e.graph k n (is_close a b) (λ x read o m. refl) (λ o. refl) (λ x y q qs. refl) u.kind u.is in omega (arith, d, f, h),
    ));
  }

  pub passed_computed : (k l : ℕ) (v : View) → CanCompute e v k l → Shift s t v (after_computed k l v) → Passed e s → Passed e t
  passed_computed k l v can c = passes_keep e s t record {
    struck = λ m. let a = c.sums (struck_by m) in omega (arith, a);
    explored = λ a z. inl (let d = c.sums (noted (is_spent a 1 40)) in omega (arith, d, z));
    ready = λ a b z. inl (⊎_elim
        (λ q. let d = c.sums (noted (is_computed a b)) in let f = c.sums (items (is_loaded a b)) in let g = loads a b in let h : bump (two a b k l) (noted (is_computed a b) v) ≡ noted (is_computed a b) v = ap (λ (o : Bool). bump o (noted (is_computed a b) v)) q in omega (arith, d, f, g, h, z))
        (λ q. let d = c.within (items (is_loaded a b)) in let f = at_work (is_loaded a b) v (item.Compute k l true (e.graph.inputs k) false) can.at_work in let g : hit (two a b k l && true) ≡ 1 = ap (λ (o : Bool). hit (o && true)) q.0 in omega (arith, d, f, g)) (two_tells a b k l));
    computed = λ a b z. inl (let d = c.sums (noted (is_closed a b 0)) in omega (arith, d, z));
    notified = λ a b all. inr (inr (same_closed e s t v (after_computed k l v) c.sums (λ m d i. refl) a b all, let d = c.sums (items (is_close a b)) in let f = swapped (is_close a b) (made_items k l) v.stacks can.at_work.others can.at_work.stack (item.Compute k l true (e.graph.inputs k) false) can.at_work.below (item.Compute k l true (e.graph.inputs k) true ∷ can.at_work.below) can.at_work.stacks_are can.at_work.items_are refl in omega (arith, d, f)));
  }
    where
      loads : (a b : ℕ) → items (is_loaded a b) (after_computed k l v) ≡ items (is_loaded a b) v
      loads a b = let f = swapped (is_loaded a b) (made_items k l) v.stacks can.at_work.others can.at_work.stack (item.Compute k l true (e.graph.inputs k) false) can.at_work.below (item.Compute k l true (e.graph.inputs k) true ∷ can.at_work.below) can.at_work.stacks_are can.at_work.items_are refl in
          let g = bump_is (two a b k l && true) (count (is_loaded a b) can.at_work.below) in omega (arith, f, g)

  pub passed_settle : (v : View) → Shift s t v (settle e.graph e.plan v) → Passed e s → Passed e t
  passed_settle v c = passes_keep e s t record {
    struck = λ m. let a = c.sums (struck_by m) in omega (arith, a);
    explored = λ a z. inl (let d = c.sums (noted (is_spent a 1 40)) in omega (arith, d, z));
    ready = λ a b z. inl (let d = c.sums (noted (is_computed a b)) in let f = c.sums (items (is_loaded a b)) in let g = settled_falls e.graph e.plan (is_loaded a b) v in omega (arith, d, f, g, z));
    computed = λ a b z. inl (let d = c.sums (noted (is_closed a b 0)) in omega (arith, d, z));
    notified = λ a b all. inr (⊎_elim (λ q. inr (same_closed e s t v (settle e.graph e.plan v) c.sums (λ m d i. refl) a b all, let d = c.sums (items (is_close a b)) in omega (arith, d, q)))
        (λ q. inl (view_made e s t v (settle e.graph e.plan v) c.sums c.within (λ m. omega arith) point.Notified a b (left_none e.graph e.plan point.Notified a b v.strikes q))) (tops_closed e.graph e.plan v.strikes a b v.stacks));
  }

-- the self place of life 1 is spent by the explorer of this life, which has come past its last place
module _ (e : Setting) (fit : Sound e) (s t : Core) (sums : Sums s) (r k j n : ℕ) (v : View) (can : CanSpend e v r k j) (c : Change s t (descriptor r) n (bit_or n (2 ^ j)) v (after_spend e.graph k j n (told_of (e.graph.places k) j n) v)) (inv : Invariant e s) where
  abbrev x : Told
  x = told_of (e.graph.places k) j n

  pub view : SpendView e k j n (told_of (e.graph.places k) j n) v (after_spend e.graph k j n (told_of (e.graph.places k) j n) v)
  view = spend_view e k j n v (serves e v k j can.edge) (told_of (e.graph.places k) j n) (told_is e.graph k j n (fit.lawful.few_places k) (spends_place e fit s t sums r k j n v can c inv can.edge))

  pub row : HasKey e s r k
  row = inv.keys.known r k (let a = c.within (knows_row r k) in let b = can.row.row_known in omega (arith, a, b))

  -- the explorer's life is the one that the descriptor shows, where that is life 1
  explorer_life : (l : ℕ) → AtWork v (item.Explore k l (e.graph.places k)) → life_of n ≡ 1 → l ≡ 1
  explorer_life l at one = let some : 0 < s.total (held Explore k l) = (let a = at_work (carries Explore k l) v (item.Explore k l (e.graph.places k)) at in let b = ap hit (two_here k l) in let d = c.within (held Explore k l) in omega (arith, a, b, d)) in
      let positive : 0 < l = dite (ℕ_discrete l 0) (λ z. absurd (let a = inv.work.jobs.some_life Explore k in let b : 0 < s.total (held Explore k 0) = subst (λ o. 0 < s.total (held Explore k o)) z some in omega (arith, a, b))) (λ ne. omega (arith, ne)) in
      let low : l ≤ standing_life (s.word (recovery r)) = dite (dec_lt (standing_life (s.word (recovery r))) l) (λ above. absurd (let a = inv.work.jobs.not_explored r k l row above in omega (arith, a, some))) (λ o. omega (arith, o)) in
      let shown = descriptor_high e s r k (s.word (recovery r)) (inv.lives.each r k row) in let found = ap life_of c.found_is in omega (arith, positive, low, shown, found, one)

  kept : (m : ℕ) → struck_by m v ≤ struck_by m (after_spend e.graph k j n (told_of (e.graph.places k) j n) v)
  kept m = let a = ap (count (eqb m)) view.strikes_are in omega (arith, a)

  self_spent : j ≡ 40 → life_of n ≡ 1 → AllMade e t point.Explored k 1
  self_spent self one = by can.edge
    where
      low_place : j < e.graph.places k → AllMade e t point.Explored k 1
      low_place low = absurd (let a = fit.lawful.few_places k in omega (arith, a, low, self))

      told_place : (p q : ℕ) → q < e.graph.ports p → (e.graph.succ p q).task ≡ k → (e.graph.succ p q).place ≡ j → AllMade e t point.Explored k 1
      told_place p q low task is = low_place (subst (λ o. o < e.graph.places k) is (subst (λ o. (e.graph.succ p q).place < e.graph.places o) task (fit.lawful.forth p q low).0))

      by : Spends e v k j → AllMade e t point.Explored k 1
      by (exploring l at low known) = low_place low
      by (notifying p l w q qs at low task is known) = told_place p q low task is
      by (reentering p l q qs at low task is known) = told_place p q low task is
      by (itself l at is) = subst (AllMade e t point.Explored k) (explorer_life l at one) (view_made e s t v (after_spend e.graph k j n (told_of (e.graph.places k) j n) v) c.sums c.within kept point.Explored k l (quiet_explored e v k l can.order at))

  pub no_item : (p : Item → Bool) → p (item.Owe k Compute (life_of n)) ≡ false → p (item.Suspect k (life_of n) cause.Descriptor false) ≡ false → items p (moved e.graph v) ≡ items p v → items p (after_spend e.graph k j n (told_of (e.graph.places k) j n) v) ≡ items p v
  no_item p owe suspect same = let a = view.added p in let b = and_fails (is_last x) (p (item.Owe k Compute (life_of n))) owe in let d = and_fails (is_marked x) (p (item.Suspect k (life_of n) cause.Descriptor false)) suspect in omega (arith, a, b, d, same)

  pub no_record : (p : Record → Bool) → p (record_of.Spent (key_of k) (life_of n) j) ≡ false → noted p (after_spend e.graph k j n (told_of (e.graph.places k) j n) v) ≡ noted p v
  no_record p z = let a = view.noted_more p in let b = and_fails (is_fresh x) (p (record_of.Spent (key_of k) (life_of n) j)) z in omega (arith, a, b)

  pub passed_spend : Passed e s → Passed e t
  passed_spend = passes_keep e s t record {
    struck = λ m. let a = c.sums (struck_by m) in let b = kept m in omega (arith, a, b);
    explored = λ a z. ⊎_elim (λ q. inl (let d = c.sums (noted (is_spent a 1 40)) in let f = view.noted_more (is_spent a 1 40) in let g = and_low (is_fresh x) (three a 1 40 k (life_of n) j) in omega (arith, d, f, g, q, z)))
        (λ q. inr (subst (λ o. AllMade e t point.Explored o 1) (sym q.0) (self_spent (sym q.2) (sym q.1)))) (three_else a 1 40 k (life_of n) j);
    ready = λ a b z. inl (let d = c.sums (noted (is_computed a b)) in let f = no_record (is_computed a b) refl in let g = c.sums (items (is_loaded a b)) in let h = no_item (is_loaded a b) refl refl (moved_still (is_loaded a b) record { explore = λ y m i. refl; notify = λ y m w u us. refl; reenter = λ y m u us. refl } e.graph v) in omega (arith, d, f, g, h, z));
    computed = λ a b z. inl (let d = c.sums (noted (is_closed a b 0)) in let f = no_record (is_closed a b 0) refl in omega (arith, d, f, z));
    notified = λ a b all. inr (inr (
      same_closed e s t v (after_spend e.graph k j n (told_of (e.graph.places k) j n) v) c.sums (λ m d i. no_record (is_closed m d i) refl) a b all,
      let d = c.sums (items (is_close a b)) in let f = no_item (is_close a b) refl refl (moved_still (is_close a b) record { explore = λ y m i. refl; notify = λ y m w u us. refl; reenter = λ y m u us. refl } e.graph v) in omega (arith, d, f),
    ));
  }
