-- The kinds of step after which a place is spent, a computing is loaded or made, or a word is closed: each does so at a word of that life without the mark.
use Rattle.std.proofs.Common.{◌≡◌, ◌⊎◌, ℕ, ◌+◌, ◌^◌, ◌%◌, ◌<◌, ◌≤◌, Bool, true, false, cond, ◌&&◌, nat_eq, nat_lt, eqb, bit_or, List, [], ◌∷◌, ⊎_elim, inl, inr, arith, sym, ap, refl, ◌∙◌, subst}
use mathlib.Core.Logic.{dite}
use native.Mathlib.Decide.{ℕ_discrete}
use Rattle.std.specs.Int.{bit_at}
use Rattle.std.proofs.lemmas.Bool.{eqb-true, lt-ltb}
use Rattle.std.proofs.lemmas.Nat.Bits.{bit_at-lt}
use Rattle.core_state.specs.Graph.{Setting, Sound, Graph, Plan}
use Rattle.core_state.specs.Words.{descriptor, notify, life_of, mark_of}
use Rattle.core_state.specs.Packed.{notify_of}
use Rattle.core_state.specs.Counts.{hit, bump, count, items, in_stacks, knows_row, noted, struck_by}
use Rattle.core_state.specs.Tests.{two, three, is_loaded, is_close_from, is_spent, is_computed, is_written, is_closed}
use Rattle.core_state.specs.Change.{Core, Change, Shift, Sums, many}
use Rattle.core_state.specs.Rows.{HasKey}
use Rattle.core_state.specs.Cover.{Passed}
use Rattle.core_state.specs.Prevented.{Prevented}
use Rattle.core_state.specs.Invariant.{Invariant}
use Rattle.core_state.specs.Guards.{KnowsRow, CanSpend, CanCompute, CanClose}
use Rattle.core_state.specs.Effects.{loaded_items, after_load_descriptor, told_of, after_spend, made_items, after_computed, closing_of, close_left, after_close, saw}
use Rattle.core_state.specs.Views.{none_left, settle, on_top}
use Rattle.graph_model.specs.declared.plan.Point.TheVariants as point
use Rattle.graph_model.specs.declared.record.Cause.TheVariants as cause
use Rattle.core_state.specs.declared.answers.Closing.TheVariants as closing
use Rattle.core_state.specs.declared.answers.Told.{Told}
use Rattle.core_state.specs.declared.answers.Told.TheVariants as told
use Rattle.core_state.specs.declared.views.Item.{Item}
use Rattle.core_state.specs.declared.views.Item.TheVariants as item
use Rattle.core_state.specs.declared.views.Stack.{Stack}
use Rattle.core_state.specs.declared.views.Word.TheVariants as word
use Rattle.core_state.specs.declared.views.View.{View}
use Rattle.core_state.proofs.Base.Counting.{bump_is, two_here, two_tells, three_here, three_else, both}
use Rattle.core_state.proofs.Close.Keeps.{row_is, some_life, seen_plain, seen_life}
use Rattle.core_state.proofs.Close.View.{LeftView, ClosedView, stale_view, struck_view, closed_view}
use Rattle.core_state.proofs.Base.ItemMoves.{moved_still, swapped}
use Rattle.core_state.proofs.Plan.PassesEach.{view, row, no_item, no_record}
use Rattle.core_state.proofs.Plan.PassesNone.{plain}
use Rattle.core_state.proofs.Plan.Prevents.{Clean, NewlyClosed, prevents_keep, prevented_falls, none_prevented}
use Rattle.core_state.proofs.Settle.View.{settled_falls}
use Rattle.core_state.proofs.Spend.Keeps.{spends_place}
use Rattle.core_state.proofs.Spend.View.{is_fresh, and_fails}
use Rattle.core_state.proofs.Spend.Answer.{IsTold, told_is}
use Rattle.core_state.proofs.Blocks.AtWork.{at_work}

-- a computing comes to be loaded only where the descriptor shows its life without the mark
module _ (g : Graph) (p : Plan) (made : List ℕ) (k n a b : ℕ) where
  abbrev Plain : Type 0
  Plain = (a ≡ k) × (life_of n ≡ b) × (mark_of n ≡ 0)

  loads_plain : (xs : List Item) → (count (is_loaded a b) (loaded_items g p made k n xs) ≤ count (is_loaded a b) xs) ⊎ Plain
  loads_plain (item.Compute c l false read m ∷ xs) = by (eqb k c && none_left g p point.Ready c l made) refl (eqb (mark_of n) 1) refl (eqb (life_of n) l) refl
    where
      falls : count (is_loaded a b) xs ≤ count (is_loaded a b) (item.Compute c l false read m ∷ xs)
      falls = let x = bump_is (is_loaded a b (item.Compute c l false read m)) (count (is_loaded a b) xs) in omega (arith, x)

      by : (f : Bool) → (eqb k c && none_left g p point.Ready c l made) ≡ f → (marked : Bool) → eqb (mark_of n) 1 ≡ marked → (same : Bool) → eqb (life_of n) l ≡ same
          → (count (is_loaded a b) (cond f (cond marked (item.Suspect c (life_of n) cause.Descriptor false ∷ xs) (cond same (item.Compute c l true read m ∷ xs) xs)) (item.Compute c l false read m ∷ xs)) ≤ count (is_loaded a b) (item.Compute c l false read m ∷ xs)) ⊎ Plain
      by false z marked y same o = inl (omega arith)
      by true z true y same o = inl falls
      by true z false y false o = inl falls
      by true z false y true o = ⊎_elim (λ q. inl (let x : bump (two a b c l && true) (count (is_loaded a b) xs) ≡ bump (false && true) (count (is_loaded a b) xs) = ap (λ (o : Bool). bump (o && true) (count (is_loaded a b) xs)) q in let d = falls in omega (arith, x, d)))
          (λ q. inr (q.1 ∙ sym (eqb-true k c (both (eqb k c) (none_left g p point.Ready c l made) z).0), eqb-true (life_of n) l o ∙ sym q.2, (let d = bit_at-lt n 41 in dite (ℕ_discrete (mark_of n) 0) (λ w. w) (λ ne. absurd (let f : eqb (mark_of n) 1 ≡ true = ap (λ u. eqb u 1) (let h : mark_of n ≡ 1 = omega (arith, d, ne) in h) in cc))))) (two_tells a b c l)
  loads_plain (item.Compute c l true read m ∷ xs) = inl (omega arith)
  loads_plain (item.Reenter c l [] ∷ xs) = inl (omega arith)
  loads_plain (item.Reenter c l (q ∷ qs) ∷ xs) = by (eqb k (g.succ c q).task) (eqb (mark_of n) 1) (eqb (bit_at n (g.succ c q).place) 1)
    where
      by : (f h o : Bool) → (count (is_loaded a b) (cond f (cond h (item.Suspect k (life_of n) cause.Descriptor false ∷ item.Reenter c l qs ∷ xs) (cond o (item.Reenter c l qs ∷ xs) (item.Reenter c l (q ∷ qs) ∷ xs))) (item.Reenter c l (q ∷ qs) ∷ xs)) ≤ count (is_loaded a b) (item.Reenter c l (q ∷ qs) ∷ xs)) ⊎ Plain
      by false h o = inl (omega arith)
      by true true o = inl (omega arith)
      by true false true = inl (omega arith)
      by true false false = inl (omega arith)
  loads_plain [] = inl (omega arith)
  loads_plain (item.Explore c l j ∷ xs) = inl (omega arith)
  loads_plain (item.Close c l w ∷ xs) = inl (omega arith)
  loads_plain (item.Notify c l w ps ∷ xs) = inl (omega arith)
  loads_plain (item.Suspect c l d f ∷ xs) = inl (omega arith)
  loads_plain (item.Renew c l d ∷ xs) = inl (omega arith)
  loads_plain (item.Owe c j l ∷ xs) = inl (omega arith)

  tops_plain : (ss : List Stack) → (in_stacks (is_loaded a b) (on_top (loaded_items g p made k n) ss) ≤ in_stacks (is_loaded a b) ss) ⊎ Plain
  tops_plain [] = inl (omega arith)
  tops_plain (u ∷ ss) = ⊎_elim (λ q. inl (omega (arith, q))) (λ q. inr q) (loads_plain u.items)

module _ (e : Setting) (s t : Core) (inv : Invariant e s) (passed : Passed e t) where
  pub prevented_load_descriptor : (r k n : ℕ) (v : View) → KnowsRow e v r k → Change s t (descriptor r) n n v (after_load_descriptor e.graph e.plan k n v) → Prevented e s → Prevented e t
  prevented_load_descriptor r k n v can c = prevents_keep e s t inv.strikes passed record {
    struck = λ m. let a = c.sums (struck_by m) in omega (arith, a);
    explored = λ a z. inl (let d = c.sums (noted (is_spent a 1 40)) in omega (arith, d, z));
    ready = λ a b z. ⊎_elim (λ q. inl (let d = c.sums (noted (is_computed a b)) in let f = c.sums (items (is_loaded a b)) in omega (arith, d, f, q, z)))
        (λ q. inr (record {
          row = r;
          has_key = subst (HasKey e s r) (sym q.0) (inv.keys.known r k (let a = c.within (knows_row r k) in let b = can.row_known in omega (arith, a, b)));
          life_is = ap life_of c.found_is ∙ q.1;
          unmarked = ap mark_of c.found_is ∙ q.2;
        })) (tops_plain e.graph e.plan v.strikes k n a b v.stacks);
    closed = λ a b w z. inl (let d = c.sums (noted (is_closed a b w)) in omega (arith, d, z));
  }

-- a result is made of a computing that was loaded
pub prevented_computed : (e : Setting) (s t : Core) (k l : ℕ) (v : View) → CanCompute e v k l → Shift s t v (after_computed k l v) → Prevented e s → Prevented e t
prevented_computed e s t k l v can c i = record {
  each = λ n low. let old = i.each n low in record {
    explored_descriptor = λ at on one. let a = old.explored_descriptor at on one in let b = c.sums (noted (is_spent (e.plan.strike n).key.0 1 40)) in omega (arith, a, b);
    explored_notify = λ w at on one. let a = old.explored_notify w at on one in let b = c.sums (noted (is_closed (e.plan.strike n).key.0 1 w)) in omega (arith, a, b);
    ready_descriptor = λ at on. none_made (e.plan.strike n).key.0 (e.plan.strike n).life (old.ready_descriptor at on);
    ready_notify = λ w at on. let a = old.ready_notify w at on in let b = c.sums (noted (is_closed (e.plan.strike n).key.0 (e.plan.strike n).life w)) in omega (arith, a, b);
    computed_notify = λ w at on. let a = old.computed_notify w at on in let b = c.sums (noted (is_closed (e.plan.strike n).key.0 (e.plan.strike n).life w)) in omega (arith, a, b);
  };
}
  where
    loads : (a b : ℕ) → items (is_loaded a b) (after_computed k l v) ≡ items (is_loaded a b) v
    loads a b = let f = swapped (is_loaded a b) (made_items k l) v.stacks can.at_work.others can.at_work.stack (item.Compute k l true (e.graph.inputs k) false) can.at_work.below (item.Compute k l true (e.graph.inputs k) true ∷ can.at_work.below) can.at_work.stacks_are can.at_work.items_are refl in
        let g = bump_is (two a b k l && true) (count (is_loaded a b) can.at_work.below) in omega (arith, f, g)

    none_made : (a b : ℕ) → many s (is_computed a b) + s.total (items (is_loaded a b)) ≡ 0 → many t (is_computed a b) + t.total (items (is_loaded a b)) ≡ 0
    none_made a b z = ⊎_elim
        (λ q. let d = c.sums (noted (is_computed a b)) in let f = c.sums (items (is_loaded a b)) in let g = loads a b in let h : bump (two a b k l) (noted (is_computed a b) v) ≡ noted (is_computed a b) v = ap (λ (o : Bool). bump o (noted (is_computed a b) v)) q in omega (arith, d, f, g, h, z))
        (λ q. absurd (let d = c.within (items (is_loaded a b)) in let f = at_work (is_loaded a b) v (item.Compute k l true (e.graph.inputs k) false) can.at_work in let g : hit (two a b k l && true) ≡ 1 = ap (λ (o : Bool). hit (o && true)) q.0 in omega (arith, d, f, g, z))) (two_tells a b k l)

-- finished items leave
pub prevented_settle : (e : Setting) (s t : Core) (v : View) → Shift s t v (settle e.graph e.plan v) → Prevented e s → Prevented e t
prevented_settle e s t v c = prevented_falls e s t (λ k. let a = c.sums (noted (is_spent k 1 40)) in omega (arith, a))
    (λ k l. let a = c.sums (noted (is_computed k l)) in let b = c.sums (items (is_loaded k l)) in let d = settled_falls e.graph e.plan (is_loaded k l) v in omega (arith, a, b, d)) (λ k l w. let a = c.sums (noted (is_closed k l w)) in omega (arith, a))

module _ (e : Setting) (fit : Sound e) (s t : Core) (sums : Sums s) (r k j n : ℕ) (v : View) (can : CanSpend e v r k j) (c : Change s t (descriptor r) n (bit_or n (2 ^ j)) v (after_spend e.graph k j n (told_of (e.graph.places k) j n) v)) (inv : Invariant e s) where
  abbrev x : Told
  x = told_of (e.graph.places k) j n

  -- what is spent now is spent without the mark
  fresh_plain : is_fresh (told_of (e.graph.places k) j n) ≡ true → mark_of n ≡ 0
  fresh_plain = by (told_of (e.graph.places k) j n) (told_is e.graph k j n (fit.lawful.few_places k) (spends_place e fit s t sums r k j n v can c inv can.edge))
    where
      by : (y : Told) → IsTold e.graph k j n y → is_fresh y ≡ true → mark_of n ≡ 0
      by (told.Spent l) q z = q.1
      by (told.Last l) q z = q.1
      by (told.Already l) q z = absurd cc
      by (told.Struck l) q z = absurd cc

  spent_now : (a : ℕ) → (f : Bool) → is_fresh (told_of (e.graph.places k) j n) ≡ f → noted (is_spent a 1 40) (after_spend e.graph k j n (told_of (e.graph.places k) j n) v) ≡ noted (is_spent a 1 40) v + hit (f && three a 1 40 k (life_of n) j)
      → (noted (is_spent a 1 40) (after_spend e.graph k j n (told_of (e.graph.places k) j n) v) ≤ noted (is_spent a 1 40) v) ⊎ Clean e s a 1
  spent_now a false is more = inl (omega (arith, more))
  spent_now a true is more = ⊎_elim (λ q. inl (omega (arith, more, q)))
      (λ q. inr (record {
        row = r;
        has_key = subst (HasKey e s r) (sym q.0) (row e fit s t sums r k j n v can c inv);
        life_is = ap life_of c.found_is ∙ sym q.1;
        unmarked = ap mark_of c.found_is ∙ fresh_plain is;
      })) (three_else a 1 40 k (life_of n) j)

  pub prevented_spend : Passed e t → Prevented e s → Prevented e t
  prevented_spend passed = prevents_keep e s t inv.strikes passed record {
    struck = λ m. let a = c.sums (struck_by m) in let b = ap (count (eqb m)) (view e fit s t sums r k j n v can c inv).strikes_are in omega (arith, a, b);
    explored = λ a z. ⊎_elim (λ q. inl (let d = c.sums (noted (is_spent a 1 40)) in omega (arith, d, q, z))) (λ q. inr q)
        (spent_now a (is_fresh (told_of (e.graph.places k) j n)) refl ((view e fit s t sums r k j n v can c inv).noted_more (is_spent a 1 40)));
    ready = λ a b z. inl (let d = c.sums (noted (is_computed a b)) in let f = no_record e fit s t sums r k j n v can c inv (is_computed a b) refl in let g = c.sums (items (is_loaded a b)) in
        let h = no_item e fit s t sums r k j n v can c inv (is_loaded a b) refl refl (moved_still (is_loaded a b) record { explore = λ y m i. refl; notify = λ y m w u us. refl; reenter = λ y m u us. refl } e.graph v) in omega (arith, d, f, g, h, z));
    closed = λ a b w z. inl (let d = c.sums (noted (is_closed a b w)) in let f = no_record e fit s t sums r k j n v can c inv (is_closed a b w) refl in omega (arith, d, f, z));
  }

module _ (e : Setting) (s t : Core) (sums : Sums s) (r k l w n seen : ℕ) (v : View) (can : CanClose e v r k l w seen) (inv : Invariant e s) (passed : Passed e t) where
  -- a word that is closed is of this life and without the mark; the words before it are closed, the result is written, and so all places are spent
  closed_now : (left : ℕ) (u : View) → Change s t (notify r w) n left v u → ClosedView k l w n v u → HasKey e s r k → 0 < l → life_of n ≡ l → mark_of n ≡ 0 → Prevented e s → Prevented e t
  closed_now left u c x has some life unmarked = prevents_keep e s t inv.strikes passed record {
    struck = λ m. let a = c.sums (struck_by m) in let b = ap (count (eqb m)) x.strikes_are in omega (arith, a, b);
    explored = λ a z. inl (let d = c.sums (noted (is_spent a 1 40)) in let f = x.noted_more (is_spent a 1 40) in omega (arith, d, f, z));
    ready = λ a b z. inl (let d = c.sums (noted (is_computed a b)) in let f = x.noted_more (is_computed a b) in let g = c.sums (items (is_loaded a b)) in let h = x.added (is_loaded a b) in omega (arith, d, f, g, h, z));
    closed = λ a b i z. ⊎_elim (λ q. inl (let d = c.sums (noted (is_closed a b i)) in let f = x.noted_more (is_closed a b i) in omega (arith, d, f, q, z)))
        (λ q. inr (subst (λ o. NewlyClosed e s t o b i) (sym q.0) (subst (λ o. NewlyClosed e s t k o i) (sym q.1) (subst (NewlyClosed e s t k l) (sym q.2) now)))) (three_else a b i k l w);
  }
    where
      at_top : (i : ℕ) → many s (is_closed k l i) ≡ hit (nat_lt i w)
      at_top i = (inv.work.computings.each r k l has some).closing w i (let a = c.within (items (is_close_from k l w)) in let b = at_work (is_close_from k l w) v (item.Close k l w) can.at_work in let d = three_here k l w in omega (arith, a, b, d))

      wrote : 0 < many s (is_written k l)
      wrote = (inv.work.computings.each r k l has some).written (let a = c.within (items (Rattle.core_state.specs.Tests.is_close k l)) in let b = at_work (Rattle.core_state.specs.Tests.is_close k l) v (item.Close k l w) can.at_work in let d = ap hit (two_here k l) in omega (arith, a, b, d))

      made_one : 0 < many s (is_computed k l)
      made_one = inv.records.computed.written_computed k l wrote

      zero_closed : 0 < many t (is_closed k l 0)
      zero_closed = let d = c.sums (noted (is_closed k l 0)) in let f = x.noted_more (is_closed k l 0) in dite (ℕ_discrete w 0)
          (λ z. let g : hit (three k l 0 k l w) ≡ 1 = ap (λ o. hit (three k l 0 k l o)) z ∙ three_here k l 0 in omega (arith, d, f, g)) (λ ne. let g = at_top 0 in let h = ap hit (lt-ltb 0 w (omega (arith, ne))) in omega (arith, d, f, g, h))

      now : NewlyClosed e s t k l w
      now = record {
        row = r;
        has_key = has;
        word_in = can.word_in;
        life_is = ap life_of c.found_is ∙ life;
        unmarked = ap mark_of c.found_is ∙ unmarked;
        spent = let d = c.sums (noted (is_spent k l 40)) in let f = x.noted_more (is_spent k l 40) in let g = inv.records.computed.computed_ready k l 40 made_one (inr refl) in omega (arith, d, f, g);
        made = let d = c.sums (noted (is_computed k l)) in let f = x.noted_more (is_computed k l) in let g = made_one in omega (arith, d, f, g);
        first = zero_closed;
      }

  left_now : (left : ℕ) (marked : Bool) (u : View) → Change s t (notify r w) n left v u → LeftView k l w n marked v u → Prevented e s → Prevented e t
  left_now left marked u c x = prevented_falls e s t (λ a. let d = c.sums (noted (is_spent a 1 40)) in let f = ap (count (is_spent a 1 40)) x.records_are in omega (arith, d, f))
      (λ a b. let d = c.sums (noted (is_computed a b)) in let f = ap (count (is_computed a b)) x.records_are in let g = c.sums (items (is_loaded a b)) in let h = x.added (is_loaded a b) in let i = and_fails marked false refl in omega (arith, d, f, g, h, i))
      (λ a b i. let d = c.sums (noted (is_closed a b i)) in let f = ap (count (is_closed a b i)) x.records_are in omega (arith, d, f))

  pub prevented_close : Change s t (notify r w) n (close_left seen n) v (after_close k l w n (closing_of l seen n) v) → Prevented e s → Prevented e t
  prevented_close c = by (nat_eq n seen) refl (nat_eq (mark_of n) 1) (nat_lt l (life_of n)) c
    where
      by : (a : Bool) → nat_eq n seen ≡ a → (b d : Bool) → Change s t (notify r w) n (cond a (bit_or n (2 ^ 40)) n) v (after_close k l w n (cond a (closing.Edges (n % 2 ^ 40)) (cond b (closing.Struck (life_of n)) (cond d (closing.Stale (life_of n)) (closing.Moved (notify_of n))))) v) → Prevented e s → Prevented e t
      by true f b d c' = let is = eqb-true n seen f in closed_now (bit_or n (2 ^ 40)) (after_close k l w n (closing.Edges (n % 2 ^ 40)) v) c' (closed_view k l w n v can.at_work (n % 2 ^ 40)) (row_is e s t sums r k l w n seen v can c inv) (some_life e s t sums r k l w n seen v can c inv)
          (seen_life e s t sums r k l w n seen v can c inv is) (seen_plain e s t sums r k l w n seen v can c inv is)
      by false f true d c' = left_now n true (after_close k l w n (closing.Struck (life_of n)) v) c' (struck_view k l w n v can.at_work)
      by false f false true c' = left_now n false (after_close k l w n (closing.Stale (life_of n)) v) c' (stale_view k l w n v can.at_work (life_of n))
      by false f false false c' = none_prevented e s t v (saw k (word.Notify w) n v) c'.sums (plain v (saw k (word.Notify w) n v) refl refl (λ a b. refl) (λ a b. refl))
