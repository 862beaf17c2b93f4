-- That finished items leave the top of a view's last stack keeps every part.
use Rattle.std.proofs.Common.{◌≡◌, ℕ, ◌+◌, ◌≤◌, ◌<◌, Bool, true, false, cond, eqb, min, List, [], ◌∷◌, arith, sym, ap, refl, ◌∙◌}
use mathlib.Core.Logic.{dite}
use native.Mathlib.Decide.{ℕ_discrete}
use Rattle.core_state.specs.Graph.{Setting, Graph, Plan}
use Rattle.core_state.specs.Words.{pending, stop, key, descriptor, notify, recovery, posted, turn, spot_of, life_shown, mark_shown}
use Rattle.core_state.specs.Counts.{hit, items, owed, held, ended, begun, came, noted, facts, knows_row, waits, in_hand, in_wrong_hand, struck_by, struck_idly, struck_upto, stack_count, spare, too_many}
use Rattle.core_state.specs.Tests.{is_at, is_owed, is_owe, carries, explores, is_unmade, is_compute, is_made, is_made_any, is_close, is_close_from, is_notify, is_renew, is_renew_at, is_suspect, is_suspect_for, is_any_suspect, suspects_block, notifies, reenters, is_idle, is_stopped, is_stops, is_seen_life, is_seen_mark, is_seen_closed, job_of, is_created, is_computed, is_written, is_closed, is_spent, is_struck_upto, is_replaced, is_replaced_for, is_version}
use Rattle.core_state.specs.Change.{Core, Shift, many}
use Rattle.core_state.specs.Rows.{HasRow, Keys}
use Rattle.core_state.specs.Work.{Credits, is_made_early}
use Rattle.core_state.specs.Cover.{covers_self, covers_edge}
use Rattle.core_state.specs.Invariant.{Invariant}
use Rattle.core_state.specs.Views.{settle, is_finished, unfinished}
use Rattle.graph_model.specs.declared.record.Record.{Record}
use Rattle.core_state.specs.declared.job.Job.{Job}
use Rattle.core_state.specs.declared.job.Job.TheVariants.{Explore, Compute}
use Rattle.core_state.specs.declared.views.Item.{Item}
use Rattle.core_state.specs.declared.views.Item.TheVariants as item
use Rattle.core_state.specs.declared.views.Word.{Word}
use Rattle.core_state.specs.declared.views.View.{View}
use Rattle.core_state.proofs.Row.View.{fewer_items}
use Rattle.core_state.proofs.Base.Frame.{SameRecords, keys_stay, frame_empty, frame_content, frame_facts, frame_blocks, frame_records, posted_same}
use Rattle.core_state.proofs.Credit.JobView.{and_false}
use Rattle.core_state.proofs.Base.Tops.{push_came, push_length}
use Rattle.core_state.proofs.Row.Made.{carries_at}
use Rattle.core_state.proofs.Settle.View.{settled_same, settled_falls, settled_begun, settle_activity}
use Rattle.core_state.proofs.Base.WeakFrame.{wide_lives, wide_jobs, wide_computings, wide_root, wide_causes, wide_strikes, wide_cover, wide_no_fault}

-- a test that no finished item passes
pub record Unfinished (q : Item → Bool) : Type 0 where
  pub notify : (k l w : ℕ) → q (item.Notify k l w []) ≡ false
  pub reenter : (k l : ℕ) → q (item.Reenter k l []) ≡ false
  pub close : (k l w : ℕ) → q (item.Close k l w) ≡ false

pub fails : (g : Graph) (p : Plan) (made : List ℕ) (q : Item → Bool) → Unfinished q → (x : Item) → is_finished g p made x ≡ true → q x ≡ false
fails g p made q u (item.Notify k l w []) z = u.notify k l w
fails g p made q u (item.Notify k l w (y ∷ ys)) z = absurd cc
fails g p made q u (item.Reenter k l []) z = u.reenter k l
fails g p made q u (item.Reenter k l (y ∷ ys)) z = absurd cc
fails g p made q u (item.Close k l w) z = u.close k l w
fails g p made q u (item.Explore k l j) z = absurd cc
fails g p made q u (item.Compute k l a b d) z = absurd cc
fails g p made q u (item.Suspect k l a b) z = absurd cc
fails g p made q u (item.Renew k l a) z = absurd cc
fails g p made q u (item.Owe k a l) z = absurd cc

module _ (e : Setting) (s t : Core) (v : View) (c : Shift s t v (settle e.graph e.plan v)) (inv : Invariant e s)
    (none : (f g : View → ℕ) → ((u : View) → f u ≡ 0 → g u ≡ 0) → s.total f ≡ 0 → s.total g ≡ 0) (add : (f g : View → ℕ) → s.total (λ u. f u + g u) ≡ s.total f + s.total g) where
  eq : (f : View → ℕ) → f (settle e.graph e.plan v) ≡ f v → t.total f ≡ s.total f
  eq f q = let a = c.sums f in omega (arith, a, q)

  view_same : (q : Item → Bool) → Unfinished q → items q (settle e.graph e.plan v) ≡ items q v
  view_same q u = settled_same e.graph e.plan q v (fails e.graph e.plan v.strikes q u)

  it : (q : Item → Bool) → Unfinished q → t.total (items q) ≡ s.total (items q)
  it q u = eq (items q) (view_same q u)

  falls : (q : Item → Bool) → t.total (items q) ≤ s.total (items q)
  falls q = let a = c.sums (items q) in let b = settled_falls e.graph e.plan q v in omega (arith, a, b)

  some_before : (q : Item → Bool) → 0 < t.total (items q) → 0 < s.total (items q)
  some_before q z = let a = falls q in omega (arith, a, z)

  recs : SameRecords s t
  recs p = eq (noted p) refl

  more : (p : Record → Bool) → many s p ≤ many t p
  more p = let a = recs p in omega (arith, a)

  begins : (i : Job) (k l : ℕ) → t.total (begun i k l) ≡ s.total (begun i k l)
  begins i k l = eq (begun i k l) (settled_begun e.graph e.plan i k l v)

  held_ended : (i : Job) (k l : ℕ) → t.total (held i k l) + t.total (ended i k l) ≡ s.total (held i k l) + s.total (ended i k l)
  held_ended i k l = let a = c.sums (held i k l) in let b = c.sums (ended i k l) in let d = settled_begun e.graph e.plan i k l v in omega (arith, a, b, d)

  shown : (y : ℕ) (z : Word) → (life_shown z (t.word (spot_of y z)) ≡ life_shown z (s.word (spot_of y z))) × (mark_shown z (t.word (spot_of y z)) ≡ mark_shown z (s.word (spot_of y z)))
  shown y z = (ap (life_shown z) (c.words (spot_of y z)), ap (mark_shown z) (c.words (spot_of y z)))

  owed_same : (i : Job) (k l : ℕ) → t.total (owed i k l) ≡ s.total (owed i k l)
  owed_same i k l = it (is_owed i k l) record { notify = λ a b d. refl; reenter = λ a b. refl; close = λ a b d. refl }

  post_same : (i : Job) (y l : ℕ) → hit (eqb l (t.word (posted i y))) ≡ hit (eqb l (s.word (posted i y)))
  post_same i y l = ap (λ z. hit (eqb l z)) (c.words (posted i y))

  -- a job that has begun is of a key that has a row
  begun_row : (i : Job) (k l : ℕ) → 0 < s.total (begun i k l) → HasRow e s k
  begun_row i k l z = let both_of = add (held i k l) (ended i k l) in dite (ℕ_discrete (s.total (held i k l)) 0)
      (λ q. inv.keys.of_ended i k l (omega (arith, both_of, q, z)))
      (λ q. dite (ℕ_discrete (s.total (items (is_at k))) 0) (λ y. absurd (q (none (items (is_at k)) (held i k l) (λ o f. fewer_items (is_at k) (carries i k l) (carries_at i k l) o.stacks f) y))) (λ y. inv.keys.of_item k (omega (arith, y))))

  settled_keys : Keys e t
  settled_keys = keys_stay e s t (λ r. c.words (key r)) (λ r k z. inv.keys.known r k (let a = eq (knows_row r k) refl in omega (arith, a, z))) (λ k z. inv.keys.of_item k (some_before (is_at k) z))
      (λ i k l z. begun_row i k l (let a = held_ended i k l in let b = add (held i k l) (ended i k l) in omega (arith, a, b, z)))
      (λ p l q z. inv.keys.of_waiting p l q (let a = eq (waits p l q) refl in omega (arith, a, z))) (λ p q z. inv.keys.of_notify p q (some_before (notifies p q) z)) (λ b y z. inv.keys.of_cause b y (some_before (suspects_block b y) z)) (λ k. recs (is_created k)) inv.keys

  settled_credits : Credits e t
  settled_credits = record {
    sum = let a = posted_same s.word t.word e.shape.rows (λ i y. c.words (posted i y)) in let b = eq stack_count (push_length (unfinished e.graph e.plan v.strikes) v.stacks) in let d = eq spare refl in let f = c.words pending in let g = inv.work.credits.sum in omega (arith, a, b, d, f, g);
    few_spare = let a = c.sums too_many in let b = view_same is_owe record { notify = λ a b d. refl; reenter = λ a b. refl; close = λ a b d. refl } in let g : too_many (settle e.graph e.plan v) ≤ too_many v = omega (arith, b) in let h = inv.work.credits.few_spare in let y = c.within too_many in omega (arith, a, g, h, y);
  }

  wrong_same : (b m : ℕ) → in_wrong_hand b m (settle e.graph e.plan v) ≡ in_wrong_hand b m v
  wrong_same b m = ap (λ y. cond (eqb y 0) (in_hand b v) 0) (view_same (is_made_any m) record { notify = λ a b d. refl; reenter = λ a b. refl; close = λ a b d. refl })

  -- all that it takes of sums
  pub keeps_settled : Invariant e t
  keeps_settled = record {
    keys = settled_keys;
    empty = frame_empty e s t (λ r. c.words (key r)) (λ r. c.words (descriptor r)) (λ r w. c.words (notify r w)) (λ r. c.words (recovery r)) (λ i r. c.words (posted i r)) inv.empty;
    lives = wide_lives e s t (λ r. c.words (key r)) (λ r. c.words (recovery r)) shown (λ k. it (is_renew k) record { notify = λ a b d. refl; reenter = λ a b. refl; close = λ a b d. refl })
        (λ k l d. it (is_renew_at k l d) record { notify = λ a b d. refl; reenter = λ a b. refl; close = λ a b d. refl }) (λ r k l old z. (inv.lives.each r k old).suspected l (some_before (is_suspect k l) z)) inv.lives;
    content = frame_content e s t (λ r. c.words (key r)) (λ r. c.words (descriptor r)) (λ r w. c.words (notify r w)) recs (λ k l q. eq (waits k l q) refl) inv.content;
    facts = frame_facts e s t (λ r. c.words (key r)) (λ r w. c.words (spot_of r w)) recs (λ k l w. eq (facts (is_seen_life k w l)) refl) (λ k l w. eq (facts (is_seen_mark k w l)) refl) (λ k l w. eq (facts (is_seen_closed k l w)) refl)
        (λ z. c.words pending ∙ inv.facts.idle (let a = eq (facts is_idle) refl in omega (arith, a, z))) (λ z. c.words stop ∙ inv.facts.stopped (let a = eq (facts is_stopped) refl in omega (arith, a, z))) (c.words stop ∙ inv.facts.stops ∙ ap (min 1) (sym (eq (facts is_stops) refl))) inv.facts;
    work = record {
      credits = settled_credits;
      jobs = wide_jobs e s t (λ r. c.words (key r)) shown (λ r. c.words (recovery r)) (λ i r k l old some. let a = owed_same i k l in let b = held_ended i k l in let d = post_same i r l in omega (arith, a, b, d))
          (λ i k. let a = owed_same i k 0 in let b = held_ended i k 0 in let d = inv.work.jobs.some_life i k in omega (arith, a, b, d))
          (λ i k l. let a = eq (came i k l) (push_came i k l (unfinished e.graph e.plan v.strikes) v.stacks) in let b = begins i k l in let d = inv.work.jobs.came i k l in omega (arith, a, b, d)) more inv.work.jobs;
      computings = wide_computings e s t (λ r. c.words (key r))
          (λ r k l old some z. (inv.work.computings.each r k l old some).unmade (let a = owed_same Compute k l in let b = post_same Compute r l in let d = falls (is_unmade k l) in omega (arith, a, b, d, z)))
          (λ r k l old some z. (inv.work.computings.each r k l old some).unwritten (let a = owed_same Compute k l in let b = post_same Compute r l in let d = falls (is_compute k l) in omega (arith, a, b, d, z)))
          (λ k l z. some_before (is_made k l) z) (λ k l z. some_before (is_close k l) z) (λ k l w z. some_before (is_close_from k l w) z) (λ k l w z. some_before (is_notify k l w) z)
          (λ k l z. let a = begins Compute k l in omega (arith, a, z)) (it (is_made_early e.graph) record { notify = λ a b d. refl; reenter = λ a b. refl; close = λ a b d. refl })
          (λ k l. recs (is_computed k l)) (λ k l. recs (is_written k l)) (λ k l w. recs (is_closed k l w)) inv.work.computings;
      root = wide_root e s t (λ l z. some_before (is_suspect e.graph.root l) z) (λ l. recs (is_replaced e.graph.root l))
          (λ l. let a = held_ended Compute e.graph.root l in let b = falls (carries Compute e.graph.root l) in omega (arith, a, b)) (λ l. recs (is_computed e.graph.root l)) (λ b m. let a = eq (in_wrong_hand b m) (wrong_same b m) in omega (arith, a)) (λ b. eq (in_hand b) refl) c.blocks inv.work.root;
    };
    blocks = frame_blocks e s t (λ b. c.words (turn b)) (λ b. eq (in_hand b) refl) recs c.blocks inv.blocks;
    records = frame_records e s t (λ r. c.words (key r)) (λ r. c.words (recovery r)) recs inv.records;
    causes = wide_causes e s t more (λ k l d. recs (is_replaced_for k l d)) (λ k l d z. inv.causes.suspected k l d (some_before (is_suspect_for k l d) z)) inv.causes;
    strikes = wide_strikes e s t (λ r. c.words (key r)) shown more (λ n. eq (struck_by n) refl)
        (λ x n. let a = eq (struck_idly x n) (ap (λ o. cond (eqb o 0) (struck_by n v) 0) (settled_begun e.graph e.plan (job_of x.point) x.key.0 x.life v)) in omega (arith, a)) (λ k l h. eq (struck_upto e.plan k l h) refl) (λ k l h. recs (is_struck_upto k l h)) inv.strikes;
    cover = wide_cover e s t (λ r. c.words (key r)) shown (λ r. c.words (recovery r)) (λ k l j z. sym (recs (is_spent k l j)) ∙ z) (λ k l w z. recs (is_closed k l w) ∙ z) (λ k l q z. let a = eq (waits k l q) refl in omega (arith, a, z))
        (λ r k l j old some. let a = c.sums (covers_self k l j) in let b = view_same (explores k l j) record { notify = λ a b d. refl; reenter = λ a b. refl; close = λ a b d. refl } in let d = view_same (is_owed Explore k l) record { notify = λ a b d. refl; reenter = λ a b. refl; close = λ a b d. refl } in
        let f = view_same (is_suspect k l) record { notify = λ a b d. refl; reenter = λ a b. refl; close = λ a b d. refl } in let g = post_same Explore r l in omega (arith, a, b, d, f, g))
        (λ p q. let a = c.sums (covers_edge p q) in let b = view_same (notifies p q) record { notify = λ a b d. and_false (eqb p a); reenter = λ a b. refl; close = λ a b d. refl } in let d = view_same (is_renew p) record { notify = λ a b d. refl; reenter = λ a b. refl; close = λ a b d. refl } in
        let f = view_same (reenters p q) record { notify = λ a b d. refl; reenter = λ a b. and_false (eqb p a); close = λ a b d. refl } in omega (arith, a, b, d, f)) inv.cover;
    activity = settle_activity e s t v c (λ k l some r old w i z. (inv.work.computings.each r k l old some).closing w i z) inv.activity;
    no_fault = wide_no_fault e s t (λ r. c.words (key r)) (λ r. c.words (recovery r)) more (λ unstruck old. it is_any_suspect record { notify = λ a b d. refl; reenter = λ a b. refl; close = λ a b d. refl } ∙ old.none_suspected) (λ b y. recs (is_version b y)) c.blocks inv.no_fault;
  }
