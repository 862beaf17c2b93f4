-- A suspect that leaves an election, since a later life stands or another view replaces its life, keeps every part.
use Rattle.std.proofs.Common.{◌≡◌, ◌⊎◌, ℕ, ◌+◌, ◌≤◌, ◌<◌, Bool, false, cond, eqb, ⊎_elim, inl, inr, arith, sym, ap, refl, ◌∙◌, subst}
use Rattle.core_state.specs.Graph.{Setting}
use Rattle.core_state.specs.Words.{Spot, descriptor, recovery, life_of, standing_life, replacing}
use Rattle.core_state.specs.Counts.{hit, items, ended, in_hand}
use Rattle.core_state.specs.Tests.{is_at, is_owed, is_owe, carries, explores, is_unmade, is_compute, is_made, is_made_any, is_close, is_close_from, is_notify, is_renew, is_renew_at, is_renew_of, is_suspect, is_suspect_for, is_any_suspect, suspects_block, notifies, reenters, is_row, is_idle, is_stopped, is_stops, is_seen_closed, waits_at}
use Rattle.core_state.specs.Change.{Core, Change, Sums}
use Rattle.core_state.specs.Rows.{HasKey}
use Rattle.core_state.specs.Work.{is_made_early}
use Rattle.core_state.specs.Cover.{Needs}
use Rattle.core_state.specs.Invariant.{Invariant}
use Rattle.core_state.specs.Guards.{AtWork}
use Rattle.core_state.specs.Effects.{saw}
use Rattle.core_state.specs.Views.{drop_top, without_first}
use Rattle.graph_model.specs.declared.record.Cause.{Cause}
use Rattle.core_state.specs.declared.job.Job.TheVariants.{Explore, Compute}
use Rattle.core_state.specs.declared.views.Item.{Item}
use Rattle.core_state.specs.declared.views.Item.TheVariants as item
use Rattle.core_state.specs.declared.views.Word.TheVariants as word
use Rattle.core_state.specs.declared.views.View.{View}
use Rattle.core_state.proofs.Base.Counting.{not_two, two_tells}
use Rattle.core_state.proofs.Load.Recovery.{life_any, mark_any, same_spot, no_turn, suspect_carries}
use Rattle.core_state.proofs.Load.SameWord.{LookWith, WorksOn, renewal_works, look_keeps_where}
use Rattle.core_state.proofs.Base.Tops.{push_came, push_length}
use Rattle.core_state.proofs.Base.ItemMoves.{swapped}
use Rattle.core_state.proofs.Spend.View.{seen_other}
use Rattle.core_state.proofs.Replace.Lives.{being_renewed}
use Rattle.core_state.proofs.Replace.Suspects.{descriptor_high}

-- a suspect at work that leaves
module _ (k l : ℕ) (c : Cause) (waits : Bool) (v : View) (at : AtWork v (item.Suspect k l c waits)) where
  pub taken : (p : Item → Bool) → items p (drop_top v) + hit (p (item.Suspect k l c waits)) ≡ items p v
  taken p = let a = swapped p without_first v.stacks at.others at.stack (item.Suspect k l c waits) at.below at.below at.stacks_are at.items_are refl in omega (arith, a)

module _ (e : Setting) (s t : Core) (sums : Sums s) (r k l n : ℕ) (cause : Cause) (waits : Bool) (v : View) (at : AtWork v (item.Suspect k l cause waits)) (c : Change s t (recovery r) n n v (saw k word.Recovery n (drop_top v)))
    (has : HasKey e s r k) (over : (l < standing_life n) ⊎ ((standing_life n ≡ l) × (replacing n ≡ 1))) (inv : Invariant e s) where
  abbrev u : View
  u = saw k word.Recovery n (drop_top v)

  at_row : (z m : ℕ) → HasKey e s z m → m ≡ k → z ≡ r
  at_row z m old q = inv.keys.one_row z r k (subst (HasKey e s z) q old) has

  all_words : (a : Spot) → t.word a ≡ s.word a
  all_words a = ⊎_elim (λ q. ap t.word q ∙ c.left_is ∙ sym c.found_is ∙ sym (ap s.word q)) (λ ne. c.others a ne) (same_spot r word.Recovery a)

  none : (p : Item → Bool) → p (item.Suspect k l cause waits) ≡ false → items p u ≡ items p v
  none p z = let a = taken k l cause waits v at p in let b = ap hit z in omega (arith, a, b)

  less : (p : Item → Bool) → items p u ≤ items p v
  less p = let a = taken k l cause waits v at p in omega (arith, a)

  -- the life is not one whose places need cover
  needs_other : (z m a i : ℕ) → Needs e s z m a i → (m ≡ k) × (a ≡ l) → ⊥
  needs_other z m a i needs q = let here = ap (λ o. s.word (recovery o)) (at_row z m needs.has_key q.0) ∙ c.found_is in let f = ap standing_life here in let g = ap replacing here in let h = needs.life_stands in let o = needs.stands in let x = q.1 in
      ⊎_elim (λ y. omega (arith, f, h, x, y)) (λ y. let b = y.1 in omega (arith, g, o, b)) over

  gone_view : LookWith (Unit {0}) e s r k n word.Recovery v u
  gone_view = record {
    records_are = refl;
    hands_are = refl;
    strikes_are = refl;
    stacks_as_many = push_length without_first v.stacks;
    spare_same = refl;
    comes = λ i m a. push_came i m a without_first v.stacks;
    life_known = λ m a z. life_any word.Recovery m a z k n v.known;
    mark_known = λ m a z. mark_any word.Recovery m a z k n v.known;
    closed_known = λ m a d some. inl (seen_other (is_seen_closed m a d) k word.Recovery n v.known (λ l. refl) (λ l. refl));
    row_known = λ m d. seen_other (is_row m d) k word.Recovery n v.known (λ l. refl) (λ l. refl);
    waits_known = λ m a q. seen_other (waits_at m a q) k word.Recovery n v.known (λ l. refl) (λ l. refl);
    idle_known = seen_other is_idle k word.Recovery n v.known (λ l. refl) (λ l. refl);
    stopped_known = seen_other is_stopped k word.Recovery n v.known (λ l. refl) (λ l. refl);
    stops_known = seen_other is_stops k word.Recovery n v.known (λ l. refl) (λ l. refl);
    owes = λ i m a. none (is_owed i m a) refl;
    begins = λ i m a. ap (λ x. x + ended i m a v) (none (carries i m a) (suspect_carries i m a k l cause waits));
    ends = λ i m a. inl refl;
    ends_up = λ i m a. omega arith;
    few = let a = none is_owe refl in omega (arith, a);
    wrong = λ b. let a = ap (λ x. cond (eqb x 0) (in_hand b v) 0) (none (is_made_any e.graph.root) refl) in omega (arith, a);
    at = λ m. let a = less (is_at m) in omega (arith, a);
    renews = λ m. none (is_renew m) refl;
    renew_ats = λ m a d. none (is_renew_at m a d) refl;
    unmade = λ m a. less (is_unmade m a);
    computes = λ m a. less (is_compute m a);
    made = λ m a. less (is_made m a);
    early = none (is_made_early e.graph) refl;
    closes = λ m a. less (is_close m a);
    closes_from = λ m a d. less (is_close_from m a d);
    tells_word = λ m a d. less (is_notify m a d);
    tells = λ p q. less (notifies p q);
    blames = λ b d. inl (less (suspects_block b d));
    suspected = λ m a. inl (less (is_suspect m a));
    root_clear = λ a. less (is_suspect e.graph.root a);
    caused = λ m a d. inl (less (is_suspect_for m a d));
    no_suspect = λ z. less is_any_suspect;
    selfs = λ z m a i needs place. let b = none (explores m a i) refl in let d = none (is_owed Explore m a) refl in let f = taken k l cause waits v at (is_suspect m a) in let g = ap hit (not_two m a k l (needs_other z m a i needs)) in omega (arith, b, d, f, g);
    edges = λ z m a i needs low. inl (let b = none (notifies (e.graph.pred m i).task (e.graph.pred m i).port) refl in let d = none (is_renew (e.graph.pred m i).task) refl in let f = none (reenters (e.graph.pred m i).task (e.graph.pred m i).port) refl in omega (arith, b, d, f));
    working = tt;
  }

  works_on : WorksOn (Unit {0}) e s t r k n word.Recovery v u c has at_row gone_view all_words (λ b. c.blocks b (no_turn r word.Recovery b)) inv
  works_on z m old = let d : ℕ = life_of (s.word (descriptor z)) in ⊎_elim
      (λ q. inl (let a = none (is_owed Compute m d) refl in let b = none (carries Compute m d) refl in let f = none (is_renew_of m d) refl in let g = taken k l cause waits v at (is_suspect m d) in let h = ap hit q in omega (arith, a, b, f, g, h)))
      (λ q. let shown : d ≡ life_of (s.word (descriptor r)) = ap (λ o. life_of (s.word (descriptor o))) (at_row z m old q.1) in let is = q.2 in let low = descriptor_high e s r k (s.word (recovery r)) (inv.lives.each r k has) in let f = ap standing_life c.found_is in ⊎_elim
      (λ y. absurd (omega (arith, y, shown, is, low, f)))
      (λ y. inr (renewal_works s t (recovery r) n n v u sums c m d (none (is_renew_of m d) refl) (subst (λ o. 0 < s.total (items (is_renew_of o d))) (sym q.1) (subst (λ o. 0 < s.total (items (is_renew_of k o))) (f ∙ y.0 ∙ sym is) (being_renewed e s r k sums inv.lives has (ap replacing c.found_is ∙ y.1)))))) over) (two_tells m d k l)

  pub gone_keeps : Invariant e t
  gone_keeps = look_keeps_where (Unit {0}) e s t r k n word.Recovery v u c has at_row gone_view all_words (λ b. c.blocks b (no_turn r word.Recovery b)) inv works_on
