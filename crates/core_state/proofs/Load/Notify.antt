-- Loading a notify word keeps every part, also where the writer of a bad block comes to be suspected.
use Rattle.std.proofs.Common.{◌≡◌, ◌≢◌, ◌⊎◌, ℕ, ◌+◌, ◌<◌, ◌≤◌, Bool, true, false, cond, ◌&&◌, eqb, List, ◌∷◌, ⊎_elim, inl, inr, arith, sym, ap, refl, ◌∙◌, subst}
use Rattle.std.proofs.lemmas.Bool.{eqb-true}
use Rattle.core_state.specs.Graph.{Setting, Sound, Graph, Reached}
use Rattle.core_state.specs.Graph.Reached.{through}
use Rattle.core_state.specs.Words.{notify, recovery, descriptor, life_of, mark_of, closed_bit, standing_life, replacing}
use Rattle.core_state.specs.Counts.{hit, bump, count, items, in_hand, ended, facts}
use Rattle.core_state.specs.Tests.{two, same_cause, explores, is_owed, is_owe, carries, is_at, is_renew, is_renew_of, is_renew_at, is_unmade, is_compute, is_made, is_made_any, is_close, is_close_from, is_notify, notifies, reenters, is_suspect, is_suspect_for, is_any_suspect, suspects_block, is_any_struck, is_closed, is_seen_closed, is_seen_life, is_seen_mark, is_row, waits_at, is_idle, is_stopped, is_stops}
use Rattle.core_state.specs.Change.{Core, Change, many}
use Rattle.core_state.specs.Laws.{Concerns, Shown, Grounded}
use Rattle.core_state.specs.Laws.Concerns.{own, input}
use Rattle.core_state.specs.Laws.Shown.{notify as by_notify, struck as by_struck, other as by_other}
use Rattle.core_state.specs.Rows.{HasKey, HasRow, Lists}
use Rattle.core_state.specs.Work.{is_made_early}
use Rattle.core_state.specs.Invariant.{Invariant}
use Rattle.core_state.specs.Guards.{CanLoadNotify}
use Rattle.core_state.specs.Effects.{seen, seen_notify, blamed_items, after_load_notify}
use Rattle.graph_model.specs.declared.record.Cause.{Cause}
use Rattle.graph_model.specs.declared.record.Cause.TheVariants as cause
use Rattle.graph_model.specs.declared.record.Found.{Found}
use Rattle.graph_model.specs.declared.record.Record.{Record}
use Rattle.core_state.specs.declared.job.Job.TheVariants.{Explore, Compute}
use Rattle.core_state.specs.declared.views.Item.{Item}
use Rattle.core_state.specs.declared.views.Item.TheVariants as item
use Rattle.core_state.specs.declared.views.Known.{Known}
use Rattle.core_state.specs.declared.views.Known.TheVariants as known
use Rattle.core_state.specs.declared.views.Word.TheVariants as word
use Rattle.core_state.specs.declared.views.View.{View}
use Rattle.core_state.proofs.Load.NotifyItems.{Blaming, Above, IsBlaming, Blamed, comes, blamed_view, none_comes, comes_at}
use Rattle.core_state.proofs.Load.NotifyItems.Blaming.{nothing, marks, closes}
use Rattle.core_state.proofs.Blocks.Blame.{cause_here}
use Rattle.core_state.proofs.Base.Counting.{bump_is, eqb_here, not_two, three_else, two_here, two_tells, both}
use Rattle.core_state.proofs.Credit.JobView.{and_false}
use Rattle.core_state.proofs.Load.Recovery.{life_any, mark_any, same_spot, no_turn, suspect_carries, row_is, at_row, all_words}
use Rattle.core_state.proofs.Base.Tops.{push_came, push_length}
use Rattle.core_state.proofs.Load.SameWord.{LookView, look_keeps}
use Rattle.core_state.proofs.Spend.View.{seen_other}
use Rattle.core_state.proofs.Replace.Suspects.{notify_low, cause_tells}

-- what the load tells: the word is closed, or no more than its life and mark
module _ (k w n : ℕ) where
  tells_more : ((mark_of n ≡ 0) × (closed_bit n ≡ 1)) ⊎ ((p : Known → Bool) (xs : List Known) → count p (seen_notify k w n xs) ≡ count p (seen k (word.Notify w) n xs))
  tells_more = by (eqb (mark_of n) 0 && eqb (closed_bit n) 1) refl
    where
      by : (o : Bool) → (eqb (mark_of n) 0 && eqb (closed_bit n) 1) ≡ o → ((mark_of n ≡ 0) × (closed_bit n ≡ 1)) ⊎ ((p : Known → Bool) (xs : List Known) → count p (cond o (known.Closed k (life_of n) w ∷ known.Life k (word.Notify w) (life_of n) ∷ xs) (seen k (word.Notify w) n xs)) ≡ count p (seen k (word.Notify w) n xs))
      by true q = inl (let z = both (eqb (mark_of n) 0) (eqb (closed_bit n) 1) q in (eqb-true (mark_of n) 0 z.0, eqb-true (closed_bit n) 1 z.1))
      by false q = inr (λ p xs. refl)

  tells_same : (p : Known → Bool) → hit (p (known.Closed k (life_of n) w)) ≡ 0 → (xs : List Known) → count p (seen_notify k w n xs) ≡ count p (seen k (word.Notify w) n xs)
  tells_same p fails xs = by (eqb (mark_of n) 0 && eqb (closed_bit n) 1) (eqb (mark_of n) 1) (λ q. eqb-true (mark_of n) 0 (both (eqb (mark_of n) 0) (eqb (closed_bit n) 1) q).0) (λ q. eqb-true (mark_of n) 1 q)
    where
      by : (o marked : Bool) → (o ≡ true → mark_of n ≡ 0) → (marked ≡ true → mark_of n ≡ 1)
          → count p (cond o (known.Closed k (life_of n) w ∷ known.Life k (word.Notify w) (life_of n) ∷ xs) (cond marked (known.Mark k (word.Notify w) (life_of n) ∷ known.Life k (word.Notify w) (life_of n) ∷ xs) (known.Life k (word.Notify w) (life_of n) ∷ xs))) ≡ count p (cond marked (known.Mark k (word.Notify w) (life_of n) ∷ known.Life k (word.Notify w) (life_of n) ∷ xs) (known.Life k (word.Notify w) (life_of n) ∷ xs))
      by true true a b = absurd (let x = a refl in let y = b refl in omega (arith, x, y))
      by true false a b = let x = bump_is (p (known.Closed k (life_of n) w)) (count p (known.Life k (word.Notify w) (life_of n) ∷ xs)) in omega (arith, x, fails)
      by false marked a b = refl

-- a cause that a bad block gives concerns whoever is suspected, and carries over to the block's writer
module _ (g : Graph) (m : (Record → Bool) → ℕ) (a l : ℕ) where
  concerned : (b d : ℕ) (f : Found) → Shown g m (Grounded g m) a l (cause.Block b d f) → Concerns g a b d
  concerned b d f (by_struck x y of z) = of
  concerned b d f (by_other x y u of ne z grounded) = of

  carried : (k i b d : ℕ) (f : Found) → Concerns g k b d → Shown g m (Grounded g m) a l (cause.Block b d f) → Shown g m (Grounded g m) k i (cause.Block b d f)
  carried k i b d f mine (by_struck x y of z) = by_struck x y mine z
  carried k i b d f mine (by_other x y u of ne z grounded) = by_other x y u mine ne z grounded

module _ (e : Setting) (fit : Sound e) (s t : Core) (r k w n : ℕ) (v : View) (can : CanLoadNotify e v r k w) (c : Change s t (notify r w) n n v (after_load_notify e.graph k w n v)) (inv : Invariant e s) where
  abbrev after : View
  after = after_load_notify e.graph k w n v

  my_row : HasKey e s r k
  my_row = row_is e s t r k n (word.Notify w) v after can.row c inv

  here : (z m : ℕ) → HasKey e s z m → m ≡ k → z ≡ r
  here = at_row e s t r k n (word.Notify w) v after can.row c inv

  lists : Lists e s k w n
  lists = subst (Lists e s k w) c.found_is (inv.content.notify_words r k w my_row can.word_in)

  shown_low : life_of n ≤ standing_life (s.word (recovery r)) + replacing (s.word (recovery r))
  shown_low = let a = notify_low e s r k (s.word (recovery r)) (inv.lives.each r k my_row) w can.word_in in let f = ap life_of c.found_is in omega (arith, a, f)

  load : Blamed e.graph k n v after
  load = blamed_view e.graph k n w v

  same : (p : Item → Bool) → ((d : Cause) (b : Bool) → p (item.Suspect k (life_of n) d b) ≡ false) → items p after ≡ items p v
  same p fails = let a = load.items_are p in let b = none_comes e.graph k n p fails load.kind in omega (arith, a, b)

  -- what stands above is another key's suspect of a version of which the key is the writer and which that one reads
  module _ (a l b d : ℕ) (f : Found) (waits : Bool) (above : Above e.graph k n (λ p. items p v) a l b d f waits) where
    there : (p : Item → Bool) → p (item.Suspect a l (cause.Block b d f) waits) ≡ true → 0 < s.total (items p)
    there p z = let x = c.within (items p) in let y = above.stands p z in omega (arith, x, y)

    shown_above : Shown e.graph (many s) (Grounded e.graph (many s)) a l (cause.Block b d f)
    shown_above = inv.causes.suspected a l (cause.Block b d f) (there (is_suspect_for a l (cause.Block b d f)) (rw (two_here a l, cause_here (cause.Block b d f)) refl))

    reached : Reached e.graph a
    reached = let z = inv.keys.of_item a (there (is_at a) (eqb_here a)) in inv.keys.reached z.0 a z.1

    writer_is : (k ≢ e.graph.root) × Concerns e.graph k b d
    writer_is = by (concerned e.graph (many s) a l b d f shown_above)
      where
        by : Concerns e.graph a b d → (k ≢ e.graph.root) × Concerns e.graph k b d
        by (own block version) = absurd (above.other (above.writes ∙ ap (λ o. e.graph.writer o d) (sym block) ∙ ap (e.graph.writer (e.graph.block a)) (sym version) ∙ fit.lawful.written_by a reached))
        by (input reads) = let j : ℕ = reads.input in let p : ℕ = (e.graph.pred a j).task in let low : j < e.graph.places a = (let x = fit.lawful.few_inputs a in let y = reads.is_input in omega (arith, x, y)) in
            let is : k ≡ p = above.writes ∙ ap (λ o. e.graph.writer o d) (sym reads.of_block) ∙ ap (e.graph.writer (e.graph.block p)) (sym reads.of_version) ∙ fit.lawful.written_by p (through a j reached low) in
            ((λ q. fit.lawful.root_alone a j low (sym is ∙ q)), own (ap e.graph.block is ∙ reads.of_block) (ap e.graph.version is ∙ reads.of_version))

    never_faultless : many s is_any_struck ≡ 0 → ⊥
    never_faultless unstruck = let x = (inv.no_fault.faultless unstruck).none_suspected in let y = there is_any_suspect refl in omega (arith, x, y)

  -- nothing comes, or another key's suspect stands
  on_load : (P : Blaming → Type 0) → P nothing → ((a l b d : ℕ) (f : Found) (waits : Bool) → mark_of n ≡ 1 → Above e.graph k n (λ p. items p v) a l b d f waits → P (marks a l b d f waits)) → ((a l b d : ℕ) (f : Found) (waits : Bool) → Above e.graph k n (λ p. items p v) a l b d f waits → P (closes a l b d f waits)) → P load.kind
  on_load P none mark close = by load.kind load.is
    where
      by : (u : Blaming) → IsBlaming e.graph k n (λ p. items p v) u → P u
      by nothing is = none
      by (marks a l b d f waits) is = mark a l b d f waits is.0 is.1
      by (closes a l b d f waits) is = close a l b d f waits is.1

  load_view : LookView e s r k n (word.Notify w) v after
  load_view = record {
    records_are = refl;
    hands_are = refl;
    strikes_are = refl;
    stacks_as_many = push_length (blamed_items e.graph k n) v.stacks;
    spare_same = refl;
    comes = λ i m l. push_came i m l (blamed_items e.graph k n) v.stacks;
    life_known = λ m l z. ⊎_elim (λ q. inl (tells_same k w n (is_seen_life m z l) refl v.known ∙ q)) (λ q. inr q) (life_any (word.Notify w) m l z k n v.known);
    mark_known = λ m l z. ⊎_elim (λ q. inl (tells_same k w n (is_seen_mark m z l) refl v.known ∙ q)) (λ q. inr q) (mark_any (word.Notify w) m l z k n v.known);
    closed_known = λ m l d some. closed_known m l d;
    row_known = λ m d. tells_same k w n (is_row m d) refl v.known ∙ seen_other (is_row m d) k (word.Notify w) n v.known (λ l. refl) (λ l. refl);
    waits_known = λ m l q. tells_same k w n (waits_at m l q) refl v.known ∙ seen_other (waits_at m l q) k (word.Notify w) n v.known (λ l. refl) (λ l. refl);
    idle_known = tells_same k w n is_idle refl v.known ∙ seen_other is_idle k (word.Notify w) n v.known (λ l. refl) (λ l. refl);
    stopped_known = tells_same k w n is_stopped refl v.known ∙ seen_other is_stopped k (word.Notify w) n v.known (λ l. refl) (λ l. refl);
    stops_known = tells_same k w n is_stops refl v.known ∙ seen_other is_stops k (word.Notify w) n v.known (λ l. refl) (λ l. refl);
    owes = λ i m l. same (is_owed i m l) (λ d b. refl);
    begins = λ i m l. ap (λ x. x + ended i m l v) (same (carries i m l) (λ d b. suspect_carries i m l k (life_of n) d b));
    ends = λ i m l. inl refl;
    ends_up = λ i m l. omega arith;
    few = let a = same is_owe (λ d b. refl) in omega (arith, a);
    wrong = λ b. let a = ap (λ x. cond (eqb x 0) (in_hand b v) 0) (same (is_made_any e.graph.root) (λ d b. refl)) in omega (arith, a);
    at = λ m. let a = load.items_are (is_at m) in let b = comes_at e.graph k n m load.kind in omega (arith, a, b);
    renews = λ m. same (is_renew m) (λ d b. refl);
    renew_ats = λ m l i. same (is_renew_at m l i) (λ d b. refl);
    unmade = λ m l. let a = same (is_unmade m l) (λ d b. refl) in omega (arith, a);
    computes = λ m l. let a = same (is_compute m l) (λ d b. refl) in omega (arith, a);
    made = λ m l. let a = same (is_made m l) (λ d b. refl) in omega (arith, a);
    early = same (is_made_early e.graph) (λ d b. refl);
    closes = λ m l. let a = same (is_close m l) (λ d b. refl) in omega (arith, a);
    closes_from = λ m l i. let a = same (is_close_from m l i) (λ d b. refl) in omega (arith, a);
    tells_word = λ m l i. let a = same (is_notify m l i) (λ d b. refl) in omega (arith, a);
    tells = λ p q. let a = same (notifies p q) (λ d b. refl) in omega (arith, a);
    blames = blames;
    suspected = λ m l. ⊎_elim (λ q. inl (let a = same (is_suspect m l) (λ d b. q) in omega (arith, a))) (λ q. inr (q.1, (let a = q.2 in omega (arith, a)), (let a = q.2 in let b = shown_low in omega (arith, a, b)))) (two_tells m l k (life_of n));
    root_clear = root_clear;
    caused = caused;
    no_suspect = λ unstruck. let a = load.items_are is_any_suspect in let b = none_while unstruck in omega (arith, a, b);
    selfs = λ z m l i needs at. let a = same (explores m l i) (λ d b. refl) in let b = same (is_owed Explore m l) (λ d b. refl) in let d = load.items_are (is_suspect m l) in omega (arith, a, b, d);
    edges = λ z m l i needs low. inl (let a = same (notifies (e.graph.pred m i).task (e.graph.pred m i).port) (λ d b. refl) in let b = same (is_renew (e.graph.pred m i).task) (λ d b. refl) in let d = same (reenters (e.graph.pred m i).task (e.graph.pred m i).port) (λ d b. refl) in omega (arith, a, b, d));
    working = λ z m old. let l : ℕ = life_of (s.word (descriptor z)) in let a = same (is_owed Compute m l) (λ d b. refl) in let b = same (carries Compute m l) (λ d b. refl) in let d = load.items_are (is_suspect m l) in let f = same (is_renew_of m l) (λ d b. refl) in omega (arith, a, b, d, f);
  }
    where
      closed_known : (m l d : ℕ) → (facts (is_seen_closed m l d) after ≡ facts (is_seen_closed m l d) v) ⊎ (0 < many s (is_closed m l d))
      closed_known m l d = ⊎_elim (λ q. inl (tells_same k w n (is_seen_closed m l d) q v.known ∙ old))
          (λ q. ⊎_elim (λ shut. inr (let a : 0 < many s (is_closed k (life_of n) w) = (let b = lists.closing shut.0 in let f = shut.1 in omega (arith, b, f)) in subst (λ o. 0 < many s (is_closed o l d)) (sym q.0) (subst (λ o. 0 < many s (is_closed k o d)) (sym q.1) (subst (λ o. 0 < many s (is_closed k (life_of n) o)) (sym q.2) a))))
          (λ no. inl (no (is_seen_closed m l d) v.known ∙ old)) (tells_more k w n)) (three_else m l d k (life_of n) w)
        where
          old : count (is_seen_closed m l d) (seen k (word.Notify w) n v.known) ≡ facts (is_seen_closed m l d) v
          old = seen_other (is_seen_closed m l d) k (word.Notify w) n v.known (λ l. refl) (λ l. refl)

      -- the writer has its row
      blames : (b d : ℕ) → (items (suspects_block b d) after ≤ items (suspects_block b d) v) ⊎ HasRow e s (e.graph.writer b d)
      blames b d = ⊎_elim (λ q. inl (let a = load.items_are (suspects_block b d) in omega (arith, a, q))) (λ q. inr q)
          (on_load (λ u. (count (suspects_block b d) (comes e.graph k n u) ≡ 0) ⊎ HasRow e s (e.graph.writer b d)) (inl refl) (λ a l x y f waits marked above. inl refl)
          (λ a l x y f waits above. ⊎_elim (λ q. inl (ap (λ (o : Bool). bump o 0) q)) (λ q. inr (r, subst (HasKey e s r) (above.writes ∙ ap (λ o. e.graph.writer o y) (sym q.1) ∙ ap (e.graph.writer b) (sym q.2)) my_row)) (two_tells b d x y)))

      not_root : (l : ℕ) → k ≢ e.graph.root → (d : Cause) (b : Bool) → is_suspect e.graph.root l (item.Suspect k (life_of n) d b) ≡ false
      not_root l ne d b = not_two e.graph.root l k (life_of n) (λ q. ne (sym q.0))

      root_clear : (l : ℕ) → items (is_suspect e.graph.root l) after ≤ items (is_suspect e.graph.root l) v
      root_clear l = let a = load.items_are (is_suspect e.graph.root l) in let b = on_load (λ u. count (is_suspect e.graph.root l) (comes e.graph k n u) ≡ 0) refl
          (λ a i x y f waits marked above. ap (λ (o : Bool). bump o 0) (not_root l (writer_is a i x y f waits above).0 cause.Notify false))
          (λ a i x y f waits above. ap (λ (o : Bool). bump o 0) (not_root l (writer_is a i x y f waits above).0 (cause.Block x y f) true)) in omega (arith, a, b)

      -- a mark has its record; and the writer of a bad version has cause to be replaced where its reader has
      caused : (m l : ℕ) (d : Cause) → (items (is_suspect_for m l d) after ≤ items (is_suspect_for m l d) v) ⊎ Shown e.graph (many s) (Grounded e.graph (many s)) m l d
      caused m l d = ⊎_elim (λ q. inl (let a = same (is_suspect_for m l d) (λ f b. ap (λ (o : Bool). o && same_cause d f) q) in omega (arith, a)))
          (λ q. ⊎_elim (λ z. inl (let a = load.items_are (is_suspect_for m l d) in omega (arith, a, z)))
          (λ z. inr (subst (λ o. Shown e.graph (many s) (Grounded e.graph (many s)) o l d) (sym q.1) (subst (λ o. Shown e.graph (many s) (Grounded e.graph (many s)) k o d) (sym q.2) z)))
          (on_load (λ u. (count (is_suspect_for m l d) (comes e.graph k n u) ≡ 0) ⊎ Shown e.graph (many s) (Grounded e.graph (many s)) k (life_of n) d) (inl refl)
          (λ a i x y f waits marked above. ⊎_elim (λ o. inl (fails cause.Notify o)) (λ o. inr (subst (Shown e.graph (many s) (Grounded e.graph (many s)) k (life_of n)) (sym o) (by_notify w (lists.struck marked)))) (cause_tells d cause.Notify))
          (λ a i x y f waits above. ⊎_elim (λ o. inl (fails (cause.Block x y f) o)) (λ o. inr (subst (Shown e.graph (many s) (Grounded e.graph (many s)) k (life_of n)) (sym o) (carried e.graph (many s) a i k (life_of n) x y f (writer_is a i x y f waits above).1 (shown_above a i x y f waits above)))) (cause_tells d (cause.Block x y f))))) (two_tells m l k (life_of n))
        where
          fails : (f : Cause) → same_cause d f ≡ false → bump (two m l k (life_of n) && same_cause d f) 0 ≡ 0
          fails f z = ap (λ (o : Bool). bump (two m l k (life_of n) && o) 0) z ∙ ap (λ (o : Bool). bump o 0) (and_false (two m l k (life_of n)))

      none_while : many s is_any_struck ≡ 0 → count is_any_suspect (comes e.graph k n load.kind) ≡ 0
      none_while unstruck = on_load (λ u. count is_any_suspect (comes e.graph k n u) ≡ 0) refl (λ a l b d f waits marked above. absurd (never_faultless a l b d f waits above unstruck)) (λ a l b d f waits above. absurd (never_faultless a l b d f waits above unstruck))

  pub keeps_load_notify : Invariant e t
  keeps_load_notify = look_keeps e s t r k n (word.Notify w) v after c my_row here load_view (all_words e s t r k n (word.Notify w) v after can.row c inv (same_spot r (word.Notify w))) (λ b. c.blocks b (no_turn r (word.Notify w) b)) inv
