-- A step on a job word keeps every part.
use Rattle.std.proofs.Common.{◌≡◌, ℕ, ◌+◌, ◌≤◌, ◌<◌, Bool, false, cond, eqb, ne_eqb, min, arith, sym, ap, refl, ◌∙◌, subst}
use mathlib.Core.Logic.{dite}
use native.Mathlib.Decide.{ℕ_discrete}
use Rattle.core_state.specs.Graph.{Setting}
use Rattle.core_state.specs.Words.{Spot, pending, stop, key, descriptor, notify, recovery, posted, turn, spot_of}
use Rattle.core_state.specs.Counts.{hit, count, items, owed, held, ended, begun, came, noted, facts, in_hand, in_wrong_hand, struck_by, struck_idly, struck_upto, stack_count, spare, too_many}
use Rattle.core_state.specs.Tests.{is_at, is_owed, carries, explores, is_unmade, is_compute, is_made, is_made_any, is_loaded, is_close, is_close_from, is_notify, is_renew, is_renew_at, is_renew_of, is_suspect, is_suspect_for, is_any_suspect, suspects_block, notifies, reenters, is_idle, is_stopped, is_stops, is_seen_life, is_seen_mark, is_seen_closed, job_of, is_created}
use Rattle.core_state.specs.Change.{Core, Change, many}
use Rattle.core_state.specs.Rows.{HasKey, Keys, Empty}
use Rattle.core_state.specs.Work.{job_count, Credits, is_made_early}
use Rattle.core_state.specs.Cover.{covers_self, covers_edge, works, Passed}
use Rattle.core_state.specs.Invariant.{Invariant}
use Rattle.graph_model.specs.declared.plan.Strike.{Strike}
use Rattle.graph_model.specs.declared.record.Record.{Record}
use Rattle.core_state.specs.declared.job.Job.{Job}
use Rattle.core_state.specs.declared.job.Job.TheVariants.{Explore, Compute}
use Rattle.core_state.specs.declared.views.Item.{Item}
use Rattle.core_state.specs.declared.views.Item.TheVariants as item
use Rattle.core_state.specs.declared.views.Known.{Known}
use Rattle.core_state.specs.declared.views.Word.{Word}
use Rattle.core_state.specs.declared.views.Word.TheVariants as word
use Rattle.core_state.specs.declared.views.View.{View}
use Rattle.core_state.proofs.Base.Frame.{SameRecords, keys_stay, frame_content, frame_blocks, frame_records}
use Rattle.core_state.proofs.Plan.Passes.{PassesNone, none_passed}
use Rattle.core_state.proofs.Base.WeakFrame.{wide_lives, wide_jobs, wide_computings, wide_root, wide_causes, wide_strikes, wide_facts, wide_cover, wide_activity, wide_no_fault}
use Rattle.core_state.proofs.Credit.JobView.{brought, brought_never, and_false, posted_change, word_moves}

-- a test that no owed job passes and no item with which a stack comes
pub record Aside (p : Item → Bool) : Type 0 where
  pub owe : (a l : ℕ) (j : Job) → p (item.Owe a j l) ≡ false
  pub explore : (a l : ℕ) → p (item.Explore a l 0) ≡ false
  pub compute : (a l : ℕ) → p (item.Compute a l false 0 false) ≡ false

-- what such a step leaves of its view w: the job of life left goes into the word of row r, and that of life n comes
pub record JobView (i : Job) (k n left : ℕ) (v w : View) : Type 0 where
  pub its : (p : Item → Bool) → Aside p → items p w ≡ items p v
  pub owes : (j : Job) (m l : ℕ) → owed j m l w + brought j m l i k left ≡ owed j m l v
  pub holds : (j : Job) (m l : ℕ) → held j m l w ≡ held j m l v + brought j m l i k n
  pub unmade : (m l : ℕ) → items (is_unmade m l) w ≡ items (is_unmade m l) v + brought Compute m l i k n
  pub computes : (m l : ℕ) → items (is_compute m l) w ≡ items (is_compute m l) v + brought Compute m l i k n
  pub explored : (m l j : ℕ) → items (explores m l j) w ≡ items (explores m l j) v + brought Explore m l i k n
  pub at : (m : ℕ) → items (is_at m) w ≤ items (is_at m) v + hit (eqb m k)
  pub comes : (j : Job) (m l : ℕ) → came j m l w ≡ came j m l v + brought j m l i k n
  pub records_are : w.records ≡ v.records
  pub hands_are : w.hands ≡ v.hands
  pub strikes_are : w.strikes ≡ v.strikes
  pub ended_are : w.ended ≡ v.ended
  pub known_are : w.known ≡ v.known
  pub credits : stack_count w + spare w + min 1 left ≡ stack_count v + spare v + min 1 n
  pub few : too_many w ≤ too_many v

pub idle_falls : (a b c : ℕ) → a ≤ b → cond (eqb b 0) c 0 ≤ cond (eqb a 0) c 0
idle_falls a b c low = dite (ℕ_discrete b 0)
    (λ z. let q : a ≡ 0 = omega (arith, z, low) in subst (λ x. cond (eqb b 0) c 0 ≤ cond (eqb x 0) c 0) (sym q) (subst (λ x. cond (eqb x 0) c 0 ≤ c) (sym z) (omega arith)))
    (λ ne. subst (λ (x : Bool). cond x c 0 ≤ cond (eqb a 0) c 0) (sym (ne_eqb b 0 ne)) (omega arith))

module _ (e : Setting) (s t : Core) (i : Job) (r k n left : ℕ) (v w : View) (c : Change s t (posted i r) n left v w) (has : HasKey e s r k) (u : JobView i k n left v w) (inv : Invariant e s) where
  wd : (a : Spot) → (posted i r ≡ a → ⊥) → t.word a ≡ s.word a
  wd a ne = c.others a (λ q. ne (sym q))

  eq : (f : View → ℕ) → f w ≡ f v → t.total f ≡ s.total f
  eq f q = let a = c.sums f in omega (arith, a, q)

  it : (p : Item → Bool) → Aside p → t.total (items p) ≡ s.total (items p)
  it p q = eq (items p) (u.its p q)

  recs : SameRecords s t
  recs p = eq (noted p) (ap (λ x. count p x) u.records_are)

  more : (p : Record → Bool) → many s p ≤ many t p
  more p = let a = recs p in omega (arith, a)

  known : (p : Known → Bool) → t.total (facts p) ≡ s.total (facts p)
  known p = eq (facts p) (ap (λ x. count p x) u.known_are)

  ends : (j : Job) (m l : ℕ) → ended j m l w ≡ ended j m l v
  ends j m l = ap (λ x. count (Rattle.core_state.specs.Tests.is_ended j m l) x) u.ended_are

  keys_same : (x : ℕ) → t.word (key x) ≡ s.word (key x)
  keys_same x = wd (key x) (λ q. cc)

  shown : (x : ℕ) (y : Word) → t.word (spot_of x y) ≡ s.word (spot_of x y)
  shown x word.Descriptor = wd (descriptor x) (λ q. cc)
  shown x (word.Notify y) = wd (notify x y) (λ q. cc)
  shown x word.Recovery = wd (recovery x) (λ q. cc)

  moves : (j : Job) (x m l : ℕ) → HasKey e s x m → 0 < l → hit (eqb l (t.word (posted j x))) + brought j m l i k n ≡ hit (eqb l (s.word (posted j x))) + brought j m l i k left
  moves = word_moves e s t i r k n left v w c has inv.keys

  counts : (j : Job) (x m l : ℕ) → HasKey e s x m → 0 < l → job_count e t j x m l ≡ job_count e s j x m l
  counts j x m l old some = let a = moves j x m l old some in let b = c.sums (owed j m l) in let d = u.owes j m l in let f = c.sums (held j m l) in let g = u.holds j m l in let h = c.sums (ended j m l) in let y = ends j m l in omega (arith, a, b, d, f, g, h, y)

  zeros : (j : Job) (m : ℕ) → t.total (owed j m 0) + t.total (held j m 0) + t.total (ended j m 0) ≡ 0
  zeros j m = let b = c.sums (owed j m 0) in let d = u.owes j m 0 in let f = c.sums (held j m 0) in let g = u.holds j m 0 in let h = c.sums (ended j m 0) in let y = ends j m 0 in let z = brought_never j i m k n in let x = inv.work.jobs.some_life j m in omega (arith, b, d, f, g, h, y, z, x)

  begins : (j : Job) (m l : ℕ) → t.total (begun j m l) ≡ s.total (begun j m l) + brought j m l i k n
  begins j m l = let a = c.sums (begun j m l) in let b = u.holds j m l in let d = ends j m l in omega (arith, a, b, d)

  job_keys : Keys e t
  job_keys = keys_stay e s t keys_same (λ x m z. inv.keys.known x m (let a = known (Rattle.core_state.specs.Tests.is_row x m) in omega (arith, a, z)))
      (λ m z. dite (ℕ_discrete m k) (λ q. (r, subst (HasKey e s r) (sym q) has)) (λ ne. inv.keys.of_item m (let a = c.sums (items (is_at m)) in let b = u.at m in let d = ap hit (ne_eqb m k ne) in omega (arith, a, b, d, z))))
      (λ j m l z. inv.keys.of_ended j m l (let a = eq (ended j m l) (ends j m l) in omega (arith, a, z)))
      (λ p l q z. inv.keys.of_waiting p l q (let a = known (Rattle.core_state.specs.Tests.waits_at p l q) in omega (arith, a, z)))
      (λ p q z. inv.keys.of_notify p q (let a = it (notifies p q) record { owe = λ a l j. refl; explore = λ a l. refl; compute = λ a l. refl } in omega (arith, a, z)))
      (λ b y z. inv.keys.of_cause b y (let a = it (suspects_block b y) record { owe = λ a l j. refl; explore = λ a l. refl; compute = λ a l. refl } in omega (arith, a, z)))
      (λ m. recs (is_created m)) inv.keys

  job_empty : Empty e t
  job_empty = record {
    no_descriptor = λ x z. wd (descriptor x) (λ q. cc) ∙ inv.empty.no_descriptor x (sym (keys_same x) ∙ z);
    no_notify = λ x y z. wd (notify x y) (λ q. cc) ∙ inv.empty.no_notify x y (sym (keys_same x) ∙ z);
    no_recovery = λ x z. wd (recovery x) (λ q. cc) ∙ inv.empty.no_recovery x (sym (keys_same x) ∙ z);
    no_job = λ j x z. let old : s.word (key x) ≡ 0 = sym (keys_same x) ∙ z in dite (ℕ_discrete x r)
        (λ q. absurd (let a = has.1 in let b = ap (λ y. s.word (key y)) q in omega (arith, a, b, old)))
        (λ ne. c.others (posted j x) (λ y. ne cc) ∙ inv.empty.no_job j x old);
    beyond = λ x m y it' low. wd (notify x y) (λ q. cc) ∙ inv.empty.beyond x m y (it'.0, sym (keys_same x) ∙ it'.1) low;
  }

  job_credits : Credits e t
  job_credits = record {
    sum = let a = posted_change s.word t.word e.shape.rows i r has.0 (λ j x ne. c.others (posted j x) ne) in let b = c.sums stack_count in let d = c.sums spare in let f = c.found_is in let g = c.left_is in let h = u.credits in let y = wd pending (λ q. cc) in let z = inv.work.credits.sum in
        let x : min 1 (s.word (posted i r)) ≡ min 1 n = ap (min 1) f in let q : min 1 (t.word (posted i r)) ≡ min 1 left = ap (min 1) g in omega (arith, a, b, d, h, x, y, z, q);
    few_spare = let a = c.sums too_many in let b = u.few in let d = inv.work.credits.few_spare in let f = c.within too_many in omega (arith, a, b, d, f);
  }

  hands : (b : ℕ) → in_hand b w ≡ in_hand b v
  hands b = ap (λ x. count (Rattle.core_state.specs.Tests.is_hand b) x) u.hands_are

  wrong : (b m : ℕ) → in_wrong_hand b m w ≡ in_wrong_hand b m v
  wrong b m = ap (λ x. cond (eqb x 0) (in_hand b w) 0) (u.its (is_made_any m) record { owe = λ a l j. refl; explore = λ a l. refl; compute = λ a l. and_false (eqb m a) }) ∙ ap (λ x. cond (eqb (items (is_made_any m) v) 0) x 0) (hands b)

  idly : (x : Strike) (y : ℕ) → struck_idly x y w ≤ struck_idly x y v
  idly x y = let j : Job = job_of x.point in let a = u.holds j x.key.0 x.life in let b = ends j x.key.0 x.life in let low : begun j x.key.0 x.life v ≤ begun j x.key.0 x.life w = omega (arith, a, b) in
      subst (λ z. cond (eqb (begun j x.key.0 x.life w) 0) z 0 ≤ struck_idly x y v) (sym (ap (λ z. count (eqb y) z) u.strikes_are)) (idle_falls (begun j x.key.0 x.life v) (begun j x.key.0 x.life w) (struck_by y v) low)

  pub job_keeps : Invariant e t
  job_keeps = record {
    keys = job_keys;
    empty = job_empty;
    lives = wide_lives e s t keys_same (λ x. wd (recovery x) (λ q. cc)) (λ x y. (ap (Rattle.core_state.specs.Words.life_shown y) (shown x y), ap (Rattle.core_state.specs.Words.mark_shown y) (shown x y)))
        (λ m. it (is_renew m) record { owe = λ a l j. refl; explore = λ a l. refl; compute = λ a l. refl }) (λ m l d. it (is_renew_at m l d) record { owe = λ a l j. refl; explore = λ a l. refl; compute = λ a l. refl })
        (λ x m l old z. (inv.lives.each x m old).suspected l (let a = it (is_suspect m l) record { owe = λ a l j. refl; explore = λ a l. refl; compute = λ a l. refl } in omega (arith, a, z))) inv.lives;
    content = frame_content e s t keys_same (λ x. wd (descriptor x) (λ q. cc)) (λ x y. wd (notify x y) (λ q. cc)) recs (λ p l q. known (Rattle.core_state.specs.Tests.waits_at p l q)) inv.content;
    facts = wide_facts e s t keys_same (λ x y. (ap (Rattle.core_state.specs.Words.life_shown y) (shown x y), ap (Rattle.core_state.specs.Words.mark_shown y) (shown x y))) more
        (λ x m l y old z. inv.facts.life x m l y old (let a = known (is_seen_life m y l) in omega (arith, a, z))) (λ x m l y old z. inv.facts.mark x m l y old (let a = known (is_seen_mark m y l) in omega (arith, a, z)))
        (λ m l y z. inv.facts.row_of_life m l y (let a = known (is_seen_life m y l) in omega (arith, a, z))) (λ m l y z. inv.facts.row_of_mark m l y (let a = known (is_seen_mark m y l) in omega (arith, a, z)))
        (λ m l y z. inv.facts.closed m l y (let a = known (is_seen_closed m l y) in omega (arith, a, z)))
        (λ z. wd pending (λ q. cc) ∙ inv.facts.idle (let a = known is_idle in omega (arith, a, z))) (λ z. wd stop (λ q. cc) ∙ inv.facts.stopped (let a = known is_stopped in omega (arith, a, z))) (wd stop (λ q. cc) ∙ inv.facts.stops ∙ ap (min 1) (sym (known is_stops)));
    work = record {
      credits = job_credits;
      jobs = wide_jobs e s t keys_same (λ x y. (ap (Rattle.core_state.specs.Words.life_shown y) (shown x y), ap (Rattle.core_state.specs.Words.mark_shown y) (shown x y))) (λ x. wd (recovery x) (λ q. cc)) counts zeros
          (λ j m l. let a = c.sums (came j m l) in let b = u.comes j m l in let d = begins j m l in let f = inv.work.jobs.came j m l in omega (arith, a, b, d, f)) more inv.work.jobs;
      computings = wide_computings e s t keys_same
          (λ x m l old some z. (inv.work.computings.each x m l old some).unmade (let a = moves Compute x m l old some in let b = c.sums (owed Compute m l) in let d = u.owes Compute m l in let f = c.sums (items (is_unmade m l)) in let g = u.unmade m l in omega (arith, a, b, d, f, g, z)))
          (λ x m l old some z. (inv.work.computings.each x m l old some).unwritten (let a = moves Compute x m l old some in let b = c.sums (owed Compute m l) in let d = u.owes Compute m l in let f = c.sums (items (is_compute m l)) in let g = u.computes m l in omega (arith, a, b, d, f, g, z)))
          (λ m l z. let a = it (is_made m l) record { owe = λ a l j. refl; explore = λ a l. refl; compute = λ a d. and_false (Rattle.core_state.specs.Tests.two m l a d) } in omega (arith, a, z))
          (λ m l z. let a = it (is_close m l) record { owe = λ a l j. refl; explore = λ a l. refl; compute = λ a l. refl } in omega (arith, a, z))
          (λ m l y z. let a = it (is_close_from m l y) record { owe = λ a l j. refl; explore = λ a l. refl; compute = λ a l. refl } in omega (arith, a, z))
          (λ m l y z. let a = it (is_notify m l y) record { owe = λ a l j. refl; explore = λ a l. refl; compute = λ a l. refl } in omega (arith, a, z))
          (λ m l z. let a = begins Compute m l in omega (arith, a, z)) (it (is_made_early e.graph) record { owe = λ a l j. refl; explore = λ a l. refl; compute = λ a l. refl })
          (λ m l. recs (Rattle.core_state.specs.Tests.is_computed m l)) (λ m l. recs (Rattle.core_state.specs.Tests.is_written m l)) (λ m l y. recs (Rattle.core_state.specs.Tests.is_closed m l y)) inv.work.computings;
      root = wide_root e s t (λ l z. let a = it (is_suspect e.graph.root l) record { owe = λ a l j. refl; explore = λ a l. refl; compute = λ a l. refl } in omega (arith, a, z)) (λ l. recs (Rattle.core_state.specs.Tests.is_replaced e.graph.root l))
          (λ l. let a = eq (ended Compute e.graph.root l) (ends Compute e.graph.root l) in omega (arith, a)) (λ l. recs (Rattle.core_state.specs.Tests.is_computed e.graph.root l)) (λ b m. let a = eq (in_wrong_hand b m) (wrong b m) in omega (arith, a)) (λ b. eq (in_hand b) (hands b)) (λ b. c.blocks b (λ q. cc)) inv.work.root;
    };
    blocks = frame_blocks e s t (λ b. wd (turn b) (λ q. cc)) (λ b. eq (in_hand b) (hands b)) recs (λ b. c.blocks b (λ q. cc)) inv.blocks;
    records = frame_records e s t keys_same (λ x. wd (recovery x) (λ q. cc)) recs inv.records;
    causes = wide_causes e s t more (λ m l d. recs (Rattle.core_state.specs.Tests.is_replaced_for m l d)) (λ m l d z. inv.causes.suspected m l d (let a = it (is_suspect_for m l d) record { owe = λ a l j. refl; explore = λ a l. refl; compute = λ a l. refl } in omega (arith, a, z))) inv.causes;
    strikes = wide_strikes e s t keys_same (λ x y. (ap (Rattle.core_state.specs.Words.life_shown y) (shown x y), ap (Rattle.core_state.specs.Words.mark_shown y) (shown x y))) more
        (λ x. eq (struck_by x) (ap (λ y. count (eqb x) y) u.strikes_are)) (λ x y. let a = c.sums (struck_idly x y) in let b = idly x y in omega (arith, a, b))
        (λ m l h. eq (struck_upto e.plan m l h) (ap (λ y. count (Rattle.core_state.specs.Tests.strikes_upto e.plan m l h) y) u.strikes_are)) (λ m l h. recs (Rattle.core_state.specs.Tests.is_struck_upto m l h)) inv.strikes;
    cover = wide_cover e s t keys_same (λ x y. (ap (Rattle.core_state.specs.Words.life_shown y) (shown x y), ap (Rattle.core_state.specs.Words.mark_shown y) (shown x y))) (λ x. wd (recovery x) (λ q. cc))
        (λ m l j z. sym (recs (Rattle.core_state.specs.Tests.is_spent m l j)) ∙ z) (λ m l y z. recs (Rattle.core_state.specs.Tests.is_closed m l y) ∙ z) (λ p l q z. let a = known (Rattle.core_state.specs.Tests.waits_at p l q) in omega (arith, a, z))
        (λ x m l j old some. let a = moves Explore x m l old some in let b = c.sums (covers_self m l j) in let d = u.explored m l j in let f = u.owes Explore m l in let g = u.its (is_suspect m l) record { owe = λ a l j. refl; explore = λ a l. refl; compute = λ a l. refl } in omega (arith, a, b, d, f, g))
        (λ p q. let a = c.sums (covers_edge p q) in let b = u.its (notifies p q) record { owe = λ a l j. refl; explore = λ a l. refl; compute = λ a l. refl } in let d = u.its (is_renew p) record { owe = λ a l j. refl; explore = λ a l. refl; compute = λ a l. refl } in let f = u.its (reenters p q) record { owe = λ a l j. refl; explore = λ a l. refl; compute = λ a l. refl } in omega (arith, a, b, d, f)) inv.cover;
    activity = wide_activity e s t keys_same (λ x y. (ap (Rattle.core_state.specs.Words.life_shown y) (shown x y), ap (Rattle.core_state.specs.Words.mark_shown y) (shown x y))) more (λ m l j z. let a = recs (Rattle.core_state.specs.Tests.is_spent m l j) in omega (arith, a, z))
        (λ x m l old some. let a = moves Compute x m l old some in let b = c.sums (works m l) in let d = u.owes Compute m l in let f = u.holds Compute m l in let g = u.its (is_suspect m l) record { owe = λ a l j. refl; explore = λ a l. refl; compute = λ a l. refl } in let h = u.its (is_renew_of m l) record { owe = λ a l j. refl; explore = λ a l. refl; compute = λ a l. refl } in omega (arith, a, b, d, f, g, h)) inv.activity;
    no_fault = wide_no_fault e s t keys_same (λ x. wd (recovery x) (λ q. cc)) more (λ unstruck old. it is_any_suspect record { owe = λ a l j. refl; explore = λ a l. refl; compute = λ a l. refl } ∙ old.none_suspected) (λ b y. recs (Rattle.core_state.specs.Tests.is_version b y)) (λ b. c.blocks b (λ q. cc)) inv.no_fault;
  }

  pub job_none : PassesNone v w
  job_none = record {
    struck = λ m. let a = ap (count (eqb m)) u.strikes_are in omega (arith, a);
    spent = λ m. ap (count (Rattle.core_state.specs.Tests.is_spent m 1 40)) u.records_are;
    computed = λ m l. ap (count (Rattle.core_state.specs.Tests.is_computed m l)) u.records_are;
    closed = λ m l y. ap (count (Rattle.core_state.specs.Tests.is_closed m l y)) u.records_are;
    loads = λ m l. let a = u.its (is_loaded m l) record { owe = λ a l j. refl; explore = λ a l. refl; compute = λ a d. and_false (Rattle.core_state.specs.Tests.two m l a d) } in omega (arith, a);
    closes = λ m l. let a = u.its (is_close m l) record { owe = λ a l j. refl; explore = λ a l. refl; compute = λ a l. refl } in omega (arith, a);
  }

  pub job_passed : Passed e s → Passed e t
  job_passed = none_passed e s t v w c.sums job_none
