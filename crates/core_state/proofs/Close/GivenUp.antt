-- A closing that is given up, at a word of a later life or at a mark, keeps every part.
use Rattle.std.proofs.Common.{◌≡◌, ◌⊎◌, ℕ, ◌≤◌, ◌<◌, Bool, true, false, cond, ◌&&◌, eqb, ⊎_elim, inl, inr, arith, sym, ap, refl, ◌∙◌, subst}
use mathlib.Core.Logic.{dite}
use native.Mathlib.Decide.{ℕ_discrete}
use Rattle.core_state.specs.Graph.{Setting}
use Rattle.core_state.specs.Words.{Spot, descriptor, notify, recovery, life_of, mark_of}
use Rattle.core_state.specs.Counts.{hit, count, items, ended, begun, facts, in_hand, in_wrong_hand}
use Rattle.core_state.specs.Tests.{two, same_job, is_at, is_owed, is_owe, carries, explores, is_unmade, is_compute, is_made, is_made_any, is_close, is_close_from, is_notify, is_renew, is_renew_at, is_renew_of, is_suspect, is_suspect_for, is_any_suspect, suspects_block, notifies, reenters, is_row, is_idle, is_stopped, is_stops, is_seen_life, is_seen_mark, is_seen_closed, waits_at, is_hand, is_struck, is_any_struck}
use Rattle.core_state.specs.Change.{Core, Change, Sums, many}
use Rattle.core_state.specs.Laws.{Shown, Grounded}
use Rattle.core_state.specs.Laws.Shown.{notify as by_notify}
use Rattle.core_state.specs.Rows.{HasKey, Lists}
use Rattle.core_state.specs.Work.{is_made_early}
use Rattle.core_state.specs.Invariant.{Invariant}
use Rattle.graph_model.specs.declared.record.Cause.{Cause}
use Rattle.graph_model.specs.declared.record.Cause.TheVariants as cause
use Rattle.graph_model.specs.declared.record.Hit.TheVariants as hit_of
use Rattle.core_state.specs.declared.job.Job.{Job}
use Rattle.core_state.specs.declared.job.Job.TheVariants.{Explore, Compute}
use Rattle.core_state.specs.declared.views.Item.{Item}
use Rattle.core_state.specs.declared.views.Item.TheVariants as item
use Rattle.core_state.specs.declared.views.Known.{Known}
use Rattle.core_state.specs.declared.views.Known.TheVariants as known
use Rattle.core_state.specs.declared.views.Word.TheVariants as word
use Rattle.core_state.specs.declared.views.View.{View}
use Rattle.core_state.proofs.Base.Counting.{hit_le, two_here, two_tells}
use Rattle.core_state.proofs.Close.View.{LeftView}
use Rattle.core_state.proofs.Credit.JobView.{and_false}
use Rattle.core_state.proofs.Load.Recovery.{same_spot, no_turn}
use Rattle.core_state.proofs.Load.SameWord.{LookWith, WorksOn, renewal_works, look_keeps_where}
use Rattle.core_state.proofs.Spend.View.{and_fails, seen_other}
use Rattle.core_state.proofs.Replace.Lives.{renewed_here}
use Rattle.core_state.proofs.Replace.Suspects.{notify_low, none_struck}
use Rattle.core_state.proofs.Register.View.{seen_life_at, seen_mark_at}

module _ (e : Setting) (s t : Core) (sums : Sums s) (r k l w n : ℕ) (marked : Bool) (v u : View) (c : Change s t (notify r w) n n v u) (has : HasKey e s r k) (word_in : w < e.graph.notify_words k)
    (is : marked ≡ true → mark_of n ≡ 1) (later : marked ≡ false → l < life_of n) (g : LeftView k l w n marked v u) (inv : Invariant e s) where
  lists : Lists e s k w n
  lists = subst (Lists e s k w) c.found_is (inv.content.notify_words r k w has word_in)

  at_row : (z m : ℕ) → HasKey e s z m → m ≡ k → z ≡ r
  at_row z m old q = inv.keys.one_row z r k (subst (HasKey e s z) q old) has

  all_words : (a : Spot) → t.word a ≡ s.word a
  all_words a = ⊎_elim (λ q. ap t.word q ∙ c.left_is ∙ sym c.found_is ∙ sym (ap s.word q)) (λ ne. c.others a ne) (same_spot r (word.Notify w) a)

  gone : (p : Item → Bool) → p (item.Close k l w) ≡ false → p (item.Suspect k (life_of n) cause.Notify false) ≡ false → items p u ≡ items p v
  gone p a b = let d = g.added p in let f = ap hit a in let h = and_fails marked (p (item.Suspect k (life_of n) cause.Notify false)) b in omega (arith, d, f, h)

  fall : (p : Item → Bool) → p (item.Suspect k (life_of n) cause.Notify false) ≡ false → items p u ≤ items p v
  fall p b = let d = g.added p in let h = and_fails marked (p (item.Suspect k (life_of n) cause.Notify false)) b in omega (arith, d, h)

  knows : (f : Known → Bool) → ((a : ℕ) → f (known.Life k (word.Notify w) a) ≡ false) → ((a : ℕ) → f (known.Mark k (word.Notify w) a) ≡ false) → facts f u ≡ facts f v
  knows f life mark = ap (count f) g.known_is ∙ seen_other f k (word.Notify w) n v.known life mark

  either : (b : Bool) → (b ≡ true) ⊎ (b ≡ false)
  either true = inl refl
  either false = inr refl

  begins : (i : Job) (m a : ℕ) → begun i m a u ≡ begun i m a v
  begins Explore m a = let b = gone (carries Explore m a) refl refl in let d = g.ended_more Explore m a in omega (arith, b, d)
  begins Compute m a = let b = g.added (carries Compute m a) in let d = g.ended_more Compute m a in let f = and_fails marked false refl in omega (arith, b, d, f)

  ends : (i : Job) (m a : ℕ) → (ended i m a u ≡ ended i m a v) ⊎ (m ≡ k)
  ends i m a = ⊎_elim (λ z. inl (let d = g.ended_more i m a in let f = and_fails (same_job i Compute) (two m a k l) z in omega (arith, d, f))) (λ z. inr z.1) (two_tells m a k l)

  -- a life that is suspected now was so before, or is that of the marked word
  suspects : (m a : ℕ) → (items (is_suspect m a) u ≤ items (is_suspect m a) v) ⊎ ((m ≡ k) × (a ≡ life_of n) × (marked ≡ true))
  suspects m a = let d = g.added (is_suspect m a) in ⊎_elim (λ z. inl (let f = and_fails marked (two m a k (life_of n)) z in omega (arith, d, f)))
      (λ z. ⊎_elim (λ f. inr (z.1, z.2, f)) (λ f. inl (let h : hit (marked && two m a k (life_of n)) ≡ 0 = ap (λ (b : Bool). hit (b && two m a k (life_of n))) f in omega (arith, d, h))) (either marked)) (two_tells m a k (life_of n))

  shown : marked ≡ true → (m a : ℕ) → m ≡ k → a ≡ life_of n → Shown e.graph (many s) (Grounded e.graph (many s)) m a cause.Notify
  shown z m a q f = by_notify w (subst (λ o. 0 < many s (is_struck o a (hit_of.Notify w))) (sym q) (subst (λ o. 0 < many s (is_struck k o (hit_of.Notify w))) (sym f) (lists.struck (is z))))

  caused : (m a : ℕ) (d : Cause) → (items (is_suspect_for m a d) u ≤ items (is_suspect_for m a d) v) ⊎ Shown e.graph (many s) (Grounded e.graph (many s)) m a d
  caused m a cause.Notify = let d = g.added (is_suspect_for m a cause.Notify) in ⊎_elim (λ z. inl (let f = and_fails marked (two m a k (life_of n) && true) (ap (λ (b : Bool). b && true) z) in omega (arith, d, f)))
      (λ z. ⊎_elim (λ f. inr (shown f m a z.1 z.2)) (λ f. inl (let h : hit (marked && (two m a k (life_of n) && true)) ≡ 0 = ap (λ (b : Bool). hit (b && (two m a k (life_of n) && true))) f in omega (arith, d, h))) (either marked)) (two_tells m a k (life_of n))
  caused m a cause.Descriptor = inl (fall (is_suspect_for m a cause.Descriptor) (and_false (two m a k (life_of n))))
  caused m a (cause.Block b h f) = inl (fall (is_suspect_for m a (cause.Block b h f)) (and_false (two m a k (life_of n))))

  unmarked : many s is_any_struck ≡ 0 → marked ≡ false
  unmarked unstruck = ⊎_elim (λ z. absurd (let a = lists.struck (is z) in let b = none_struck s sums unstruck k (life_of n) (hit_of.Notify w) in omega (arith, a, b))) (λ z. z) (either marked)

  left_view : LookWith (Unit {0}) e s r k n (word.Notify w) v u
  left_view = record {
    records_are = g.records_are;
    hands_are = g.hands_are;
    strikes_are = g.strikes_are;
    stacks_as_many = g.stacks_as_many;
    spare_same = g.spare_same;
    comes = g.comes;
    life_known = λ m a z. ⊎_elim (λ q. inl (ap (count (is_seen_life m z a)) g.known_is ∙ q)) (λ q. inr q) (seen_life_at m a z k w n v.known);
    mark_known = λ m a z. ⊎_elim (λ q. inl (ap (count (is_seen_mark m z a)) g.known_is ∙ q)) (λ q. inr q) (seen_mark_at m a z k w n v.known);
    closed_known = λ m a d some. inl (knows (is_seen_closed m a d) (λ l. refl) (λ l. refl));
    row_known = λ m d. knows (is_row m d) (λ l. refl) (λ l. refl);
    waits_known = λ m a q. knows (waits_at m a q) (λ l. refl) (λ l. refl);
    idle_known = knows is_idle (λ l. refl) (λ l. refl);
    stopped_known = knows is_stopped (λ l. refl) (λ l. refl);
    stops_known = knows is_stops (λ l. refl) (λ l. refl);
    owes = λ i m a. gone (is_owed i m a) refl refl;
    begins = begins;
    ends = ends;
    ends_up = λ i m a. let d = g.ended_more i m a in omega (arith, d);
    few = let a = gone is_owe refl refl in let b = g.spare_same in omega (arith, a, b);
    wrong = λ b. let m : ℕ = e.graph.root in let a : in_wrong_hand b m u ≡ in_wrong_hand b m v = ap (λ y. cond (eqb y 0) (in_hand b u) 0) (gone (is_made_any m) refl refl) ∙ ap (λ y. cond (eqb (items (is_made_any m) v) 0) y 0) (ap (count (is_hand b)) g.hands_are) in omega (arith, a);
    at = λ m. let a = g.added (is_at m) in let b = Rattle.core_state.proofs.Spend.View.and_low marked (eqb m k) in omega (arith, a, b);
    renews = λ m. gone (is_renew m) refl refl;
    renew_ats = λ m a d. gone (is_renew_at m a d) refl refl;
    unmade = λ m a. fall (is_unmade m a) refl;
    computes = λ m a. fall (is_compute m a) refl;
    made = λ m a. fall (is_made m a) refl;
    early = gone (is_made_early e.graph) refl refl;
    closes = λ m a. fall (is_close m a) refl;
    closes_from = λ m a d. fall (is_close_from m a d) refl;
    tells_word = λ m a d. fall (is_notify m a d) refl;
    tells = λ p q. fall (notifies p q) refl;
    blames = λ b d. inl (fall (suspects_block b d) refl);
    suspected = λ m a. ⊎_elim (λ q. inl q) (λ q. inr (let f = q.1 in let b = notify_low e s r k (s.word (recovery r)) (inv.lives.each r k has) w word_in in let d = ap life_of c.found_is in (q.0, omega (arith, f), omega (arith, f, b, d)))) (suspects m a);
    root_clear = λ a. ⊎_elim (λ q. q) (λ q. absurd (let b = lists.root (sym q.0) in let d = is q.2 in omega (arith, b, d))) (suspects e.graph.root a);
    caused = caused;
    no_suspect = λ z. let a = g.added is_any_suspect in let b : hit (marked && true) ≡ 0 = ap (λ (b : Bool). hit (b && true)) (unmarked z) in omega (arith, a, b);
    selfs = λ z m a i needs at. let b = gone (explores m a i) refl refl in let d = gone (is_owed Explore m a) refl refl in let f = g.added (is_suspect m a) in omega (arith, b, d, f);
    edges = λ z m a i needs less. inl (let b = gone (notifies (e.graph.pred m i).task (e.graph.pred m i).port) refl refl in let d = gone (is_renew (e.graph.pred m i).task) refl refl in let f = gone (reenters (e.graph.pred m i).task (e.graph.pred m i).port) refl refl in omega (arith, b, d, f));
    working = tt;
  }

  works_on : WorksOn (Unit {0}) e s t r k n (word.Notify w) v u c has at_row left_view all_words (λ b. c.blocks b (no_turn r (word.Notify w) b)) inv
  works_on z m old = let d : ℕ = life_of (s.word (descriptor z)) in let a = gone (is_owed Compute m d) refl refl in let b = gone (is_renew_of m d) refl refl in let f = g.added (carries Compute m d) in let f' = and_fails marked false refl in let h = g.added (is_suspect m d) in ⊎_elim
      (λ q. inl (let o = ap hit q in omega (arith, a, b, f, f', h, o)))
      (λ q. let here = at_row z m old q.1 in let same : d ≡ life_of (s.word (descriptor r)) = ap (λ o. life_of (s.word (descriptor o))) here in dite (ℕ_discrete d (life_of n))
      (λ y. ⊎_elim (λ o. inl (let one : hit (marked && two m d k (life_of n)) ≡ 1 = rw (o, q.1, y, two_here k (life_of n)) in let few = hit_le (two m d k l) in omega (arith, a, b, f, f', h, one, few)))
      (λ o. absurd (let less = later o in let x = q.2 in omega (arith, less, x, y))) (either marked))
      (λ ne. inr (renewal_works s t (notify r w) n n v u sums c m d b (subst (λ o. 0 < s.total (items (is_renew_of o d))) (sym q.1) (subst (λ o. 0 < s.total (items (is_renew_of k o))) (sym same)
      (renewed_here e s r k w sums inv.lives has word_in (λ o. ne (same ∙ sym o ∙ ap life_of c.found_is)))))))) (two_tells m d k l)

  pub left_keeps : Invariant e t
  left_keeps = look_keeps_where (Unit {0}) e s t r k n (word.Notify w) v u c has at_row left_view all_words (λ b. c.blocks b (no_turn r (word.Notify w) b)) inv works_on
