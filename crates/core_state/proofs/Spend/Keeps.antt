-- Spending a place keeps every part, whatever it told.
use Rattle.std.proofs.Common.{◌≡◌, ◌⊎◌, ℕ, ◌+◌, ◌/◌, ◌^◌, ◌≤◌, ◌<◌, Bool, true, false, ◌&&◌, eqb, bit_or, List, ◌∷◌, ⊎_elim, inl, inr, arith, sym, ap, refl, ◌∙◌, subst}
use Rattle.core_state.specs.Graph.{Setting, Sound}
use Rattle.core_state.specs.Words.{descriptor, life_of}
use Rattle.core_state.specs.Counts.{hit, count, in_stacks, noted, facts, knows_row}
use Rattle.core_state.specs.Tests.{is_seen_closed, is_closed, is_closing}
use Rattle.core_state.specs.Change.{Core, Change, Sums, many}
use Rattle.core_state.specs.Laws.{IsPlace}
use Rattle.core_state.specs.Rows.{HasKey}
use Rattle.core_state.specs.Invariant.{Invariant}
use Rattle.core_state.specs.Guards.{Spends, CanSpend, KnowsClosed}
use Rattle.core_state.specs.Guards.Spends.{exploring, notifying, reentering, itself}
use Rattle.core_state.specs.Effects.{after_spend, told_of, moved_items}
use Rattle.core_state.specs.Views.{key_of, on_top}
use Rattle.graph_model.specs.declared.record.Cause.TheVariants as cause
use Rattle.graph_model.specs.declared.record.Record.{Record}
use Rattle.graph_model.specs.declared.record.Record.TheVariants as record_of
use Rattle.core_state.specs.declared.answers.Told.{Told}
use Rattle.core_state.specs.declared.answers.Told.TheVariants as told
use Rattle.core_state.specs.declared.job.Job.TheVariants.{Compute}
use Rattle.core_state.specs.declared.views.Item.{Item}
use Rattle.core_state.specs.declared.views.Item.TheVariants as item
use Rattle.core_state.specs.declared.views.Stack.{Stack}
use Rattle.core_state.specs.declared.views.View.{View}
use Rattle.core_state.proofs.Base.Counting.{bump_is, both}
use Rattle.core_state.proofs.Base.Tops.{push_came, push_length}
use Rattle.core_state.proofs.Row.View.{fewer}
use Rattle.core_state.proofs.Base.ItemMoves.{Serves, moved_selfs, moved_edges, moved_ends, serves_stack}
use Rattle.core_state.proofs.Spend.View.{SpendView}
use Rattle.core_state.proofs.Spend.Parts.{spend_keeps}
use Rattle.core_state.proofs.Spend.Answer.{IsTold, told_is}

-- an item comes on top of a stack
pub pushed : (p : Item → Bool) (x : Item) (ss rest : List Stack) (u : Stack) → ss ≡ u ∷ rest → in_stacks p (on_top (λ xs. x ∷ xs) ss) ≡ in_stacks p ss + hit (p x)
pushed p x ss rest u is = rw is (let a = bump_is (p x) (count p u.items) in omega (arith, a))

-- a call that spends a place is made by an item that comes to it
pub serves : (e : Setting) (v : View) (k j : ℕ) → Spends e v k j → Serves e v k j
serves e v k j (exploring l at low known) = Rattle.core_state.proofs.Base.ItemMoves.Serves.exploring l at low
serves e v k j (notifying p l w q qs at low task is known) = Rattle.core_state.proofs.Base.ItemMoves.Serves.notifying p l w q qs at task is
serves e v k j (reentering p l q qs at low task is known) = Rattle.core_state.proofs.Base.ItemMoves.Serves.reentering p l q qs at task is
serves e v k j (itself l at is) = Rattle.core_state.proofs.Base.ItemMoves.Serves.itself l at is

module _ (e : Setting) (k j n : ℕ) (v : View) (sp : Serves e v k j) where
  on_moved : (p : Item → Bool) (x : Item) → in_stacks p (on_top (λ xs. x ∷ xs) (on_top (moved_items e.graph) v.stacks)) ≡ in_stacks p (on_top (moved_items e.graph) v.stacks) + hit (p x)
  on_moved p x = let q = serves_stack e v k j sp in let u : Stack = q.0 in pushed p x (on_top (moved_items e.graph) v.stacks) q.1.0 (record u { items = moved_items e.graph u.items }) (ap (on_top (moved_items e.graph)) q.1.1)

  spent_note : (l : ℕ) → l ≡ life_of n → (p : Record → Bool) → count p (record_of.Spent (key_of k) l j ∷ v.records) ≡ count p v.records + hit (p (record_of.Spent (key_of k) (life_of n) j))
  spent_note l q p = let a = bump_is (p (record_of.Spent (key_of k) l j)) (count p v.records) in let b = ap (λ o. hit (p (record_of.Spent (key_of k) o j))) q in omega (arith, a, b)

  pub spend_view : (x : Told) → IsTold e.graph k j n x → SpendView e k j n x v (after_spend e.graph k j n x v)
  spend_view (told.Spent l) is = record {
    added = λ p. omega arith;
    noted_more = spent_note l is.0;
    known_is = refl;
    ended_is = refl;
    hands_are = refl;
    strikes_are = refl;
    comes = λ i m d. push_came i m d (moved_items e.graph) v.stacks;
    stacks_as_many = push_length (moved_items e.graph) v.stacks;
    spare_same = refl;
    selfs = moved_selfs e v k j sp;
    edges = moved_edges e v k j sp;
    ends = moved_ends e v k j sp;
  }
  spend_view (told.Last l) is = record {
    added = λ p. let a = on_moved p (item.Owe k Compute l) in let b = ap (λ o. hit (p (item.Owe k Compute o))) is.0 in omega (arith, a, b);
    noted_more = spent_note l is.0;
    known_is = refl;
    ended_is = refl;
    hands_are = refl;
    strikes_are = refl;
    comes = λ i m d. push_came i m d (λ xs. item.Owe k Compute l ∷ xs) (on_top (moved_items e.graph) v.stacks) ∙ push_came i m d (moved_items e.graph) v.stacks;
    stacks_as_many = push_length (λ xs. item.Owe k Compute l ∷ xs) (on_top (moved_items e.graph) v.stacks) ∙ push_length (moved_items e.graph) v.stacks;
    spare_same = refl;
    selfs = moved_selfs e v k j sp;
    edges = moved_edges e v k j sp;
    ends = moved_ends e v k j sp;
  }
  spend_view (told.Already l) is = record {
    added = λ p. omega arith;
    noted_more = λ p. omega arith;
    known_is = refl;
    ended_is = refl;
    hands_are = refl;
    strikes_are = refl;
    comes = λ i m d. push_came i m d (moved_items e.graph) v.stacks;
    stacks_as_many = push_length (moved_items e.graph) v.stacks;
    spare_same = refl;
    selfs = moved_selfs e v k j sp;
    edges = moved_edges e v k j sp;
    ends = moved_ends e v k j sp;
  }
  spend_view (told.Struck l) is = record {
    added = λ p. let a = on_moved p (item.Suspect k l cause.Descriptor false) in let b = ap (λ o. hit (p (item.Suspect k o cause.Descriptor false))) is.0 in omega (arith, a, b);
    noted_more = λ p. omega arith;
    known_is = refl;
    ended_is = refl;
    hands_are = refl;
    strikes_are = refl;
    comes = λ i m d. push_came i m d (λ xs. item.Suspect k l cause.Descriptor false ∷ xs) (on_top (moved_items e.graph) v.stacks) ∙ push_came i m d (moved_items e.graph) v.stacks;
    stacks_as_many = push_length (λ xs. item.Suspect k l cause.Descriptor false ∷ xs) (on_top (moved_items e.graph) v.stacks) ∙ push_length (moved_items e.graph) v.stacks;
    spare_same = refl;
    selfs = moved_selfs e v k j sp;
    edges = moved_edges e v k j sp;
    ends = moved_ends e v k j sp;
  }

closes_some : (k l w : ℕ) (x : Record) → is_closed k l w x ≡ true → is_closing k w x ≡ true
closes_some k l w (record_of.Closed a m i) z = let f = both (eqb k a.0) (eqb l m && eqb w i) z in let g = both (eqb l m) (eqb w i) f.1 in rw (f.0, g.1)
closes_some k l w x z = absurd cc

module _ (e : Setting) (fit : Sound e) (s t : Core) (sums : Sums s) (r k j n : ℕ) (v : View) (can : CanSpend e v r k j) (c : Change s t (descriptor r) n (bit_or n (2 ^ j)) v (after_spend e.graph k j n (told_of (e.graph.places k) j n) v)) (inv : Invariant e s) where
  -- the place is one of the key
  pub spends_place : Spends e v k j → IsPlace e.graph k j
  spends_place (exploring l at low known) = inl low
  spends_place (notifying p l w q qs at low task is known) = inl (subst (λ o. o < e.graph.places k) is (subst (λ o. (e.graph.succ p q).place < e.graph.places o) task (fit.lawful.forth p q low).0))
  spends_place (reentering p l q qs at low task is known) = inl (subst (λ o. o < e.graph.places k) is (subst (λ o. (e.graph.succ p q).place < e.graph.places o) task (fit.lawful.forth p q low).0))
  spends_place (itself l at is) = inr is

  closed_word : (p q : ℕ) → KnowsClosed e v p q → 0 < many s (is_closing p (q / 40))
  closed_word p q known = let l : ℕ = known.life in let a = inv.facts.closed p l (q / 40) (let b = c.within (facts (is_seen_closed p l (q / 40))) in let d = known.closed_known in omega (arith, b, d)) in
      by (many s (is_closing p (q / 40))) refl a
    where
      by : (m : ℕ) → many s (is_closing p (q / 40)) ≡ m → 0 < many s (is_closed p known.life (q / 40)) → 0 < many s (is_closing p (q / 40))
      by (Rattle.std.proofs.Common.zero) z a = absurd (let b = sums.none (noted (is_closing p (q / 40))) (noted (is_closed p known.life (q / 40))) (λ o f. fewer (is_closing p (q / 40)) (is_closed p known.life (q / 40)) (closes_some p known.life (q / 40)) o.records f) z in omega (arith, a, b))
      by (Rattle.std.proofs.Common.suc m) z a = omega (arith, z)

  told_edge : (p q : ℕ) → q < e.graph.ports p → (e.graph.succ p q).task ≡ k → (e.graph.succ p q).place ≡ j → KnowsClosed e v p q → 0 < many s (is_closing (e.graph.pred k j).task ((e.graph.pred k j).port / 40))
  told_edge p q low task is known = let f = fit.lawful.forth p q low in subst (λ o. 0 < many s (is_closing (e.graph.pred o j).task ((e.graph.pred o j).port / 40))) task (subst (λ o. 0 < many s (is_closing (e.graph.pred (e.graph.succ p q).task o).task ((e.graph.pred (e.graph.succ p q).task o).port / 40))) is
      (subst (λ o. 0 < many s (is_closing o ((e.graph.pred (e.graph.succ p q).task (e.graph.succ p q).place).port / 40))) (sym f.1) (subst (λ o. 0 < many s (is_closing p (o / 40))) (sym f.2) (closed_word p q known))))

  -- the edge whose place is spent was closed in some life
  spends_edge : Spends e v k j → j < e.graph.places k → 0 < many s (is_closing (e.graph.pred k j).task ((e.graph.pred k j).port / 40))
  spends_edge (exploring l at low known) less = closed_word (e.graph.pred k j).task (e.graph.pred k j).port known
  spends_edge (notifying p l w q qs at low task is known) less = told_edge p q low task is known
  spends_edge (reentering p l q qs at low task is known) less = told_edge p q low task is known
  spends_edge (itself l at is) less = absurd (let a = fit.lawful.few_places k in omega (arith, a, is, less))

  pub keeps_spend : Invariant e t
  keeps_spend = let row : HasKey e s r k = inv.keys.known r k (let a = c.within (knows_row r k) in let b = can.row.row_known in omega (arith, a, b)) in let place = spends_place can.edge in let few = fit.lawful.few_places k in
      let is = told_is e.graph k j n few place in
      spend_keeps e fit s t r k j n (told_of (e.graph.places k) j n) v (after_spend e.graph k j n (told_of (e.graph.places k) j n) v) c row place (⊎_elim (λ l. omega (arith, few, l)) (λ q. omega (arith, q)) place) is
      (spend_view e k j n v (serves e v k j can.edge) (told_of (e.graph.places k) j n) is) (spends_edge can.edge) inv sums
