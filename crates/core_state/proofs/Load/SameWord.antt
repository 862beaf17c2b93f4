-- A step that leaves its word as it was keeps every part, where what it does to the view is right.
use Rattle.std.proofs.Common.{◌≡◌, ◌≢◌, ◌⊎◌, ℕ, ◌+◌, ◌≤◌, ◌<◌, Bool, true, false, eqb, min, ⊎_elim, inl, inr, arith, sym, ap, refl, ◌∙◌, subst}
use mathlib.Core.Logic.{dite}
use native.Mathlib.Decide.{ℕ_discrete}
use Rattle.core_state.specs.Graph.{Setting, Edge}
use Rattle.core_state.specs.Words.{Spot, pending, stop, key, descriptor, notify, recovery, posted, turn, spot_of, life_of, life_shown, mark_shown, standing_life, replacing}
use Rattle.core_state.specs.Counts.{hit, count, items, owed, held, ended, begun, came, noted, facts, in_hand, in_wrong_hand, struck_by, struck_idly, struck_upto, stack_count, spare, too_many}
use Rattle.core_state.specs.Tests.{is_at, is_unmade, is_compute, is_made, is_close, is_close_from, is_notify, is_renew, is_renew_at, is_renew_of, is_suspect, is_suspect_for, is_any_suspect, suspects_block, notifies, is_row, is_idle, is_stopped, is_stops, is_seen_life, is_seen_mark, is_seen_closed, waits_at, is_hand, strikes_upto, job_of, is_created, is_computed, is_written, is_closed, is_spent, is_struck_upto, is_replaced, is_replaced_for, is_any_struck, is_version}
use Rattle.core_state.specs.Change.{Core, Change, Sums, many}
use Rattle.core_state.specs.Laws.{IsPlace, Shown, Grounded}
use Rattle.core_state.specs.Rows.{HasKey, HasRow, Keys}
use Rattle.core_state.specs.Work.{is_made_early}
use Rattle.core_state.specs.Cover.{covers_self, covers_edge, works, Needs, Cover, Activity}
use Rattle.core_state.specs.Invariant.{Invariant}
use Rattle.graph_model.specs.declared.record.Cause.{Cause}
use Rattle.graph_model.specs.declared.record.Record.{Record}
use Rattle.core_state.specs.declared.job.Job.{Job}
use Rattle.core_state.specs.declared.job.Job.TheVariants.{Explore, Compute}
use Rattle.core_state.specs.declared.views.Word.{Word}
use Rattle.core_state.specs.declared.views.View.{View}
use Rattle.core_state.proofs.Base.Frame.{SameRecords, had, keys_stay, frame_empty, frame_content, frame_blocks, frame_records, posted_same}
use Rattle.core_state.proofs.Base.WeakFrame.{wide_needs, wide_waiting, wide_lives, wide_jobs, wide_computings, wide_root_work, wide_causes, wide_strikes, wide_facts, wide_no_fault}

-- a renewal in some view is work on
pub renewal_works : (s t : Core) (at : Spot) (n x : ℕ) (v w : View) → Sums s → Change s t at n x v w → (m d : ℕ) → items (is_renew_of m d) w ≡ items (is_renew_of m d) v → 0 < s.total (items (is_renew_of m d)) → 0 < t.total (works m d)
renewal_works s t at n x v w sums c m d same some = let f : View → ℕ = λ o. owed Compute m d o + held Compute m d o + items (is_suspect m d) o in let a = sums.add f (items (is_renew_of m d)) in let b = c.within f in let h = c.sums (works m d) in omega (arith, a, b, h, same, some)

-- what such a step on the word y of row r of k, which showed n, leaves of the view; the first parameter says what it leaves of the work on a life
pub record LookWith (Working : Type 0) (e : Setting) (s : Core) (r k n : ℕ) (y : Word) (v w : View) : Type 0 where
  pub records_are : w.records ≡ v.records
  pub hands_are : w.hands ≡ v.hands
  pub strikes_are : w.strikes ≡ v.strikes
  pub stacks_as_many : stack_count w ≡ stack_count v
  pub spare_same : spare w ≡ spare v
  pub comes : (i : Job) (m l : ℕ) → came i m l w ≡ came i m l v
  -- facts
  pub life_known : (m l : ℕ) (z : Word) → (facts (is_seen_life m z l) w ≡ facts (is_seen_life m z l) v) ⊎ ((m ≡ k) × (l ≡ life_shown y n) × (z ≡ y))
  pub mark_known : (m l : ℕ) (z : Word) → (facts (is_seen_mark m z l) w ≡ facts (is_seen_mark m z l) v) ⊎ ((m ≡ k) × (l ≡ life_shown y n) × (z ≡ y) × (mark_shown y n ≡ 1))
  pub closed_known : (m l d : ℕ) → 0 < facts (is_seen_closed m l d) w → (facts (is_seen_closed m l d) w ≡ facts (is_seen_closed m l d) v) ⊎ (0 < many s (is_closed m l d))
  pub row_known : (m d : ℕ) → facts (is_row m d) w ≡ facts (is_row m d) v
  pub waits_known : (m l q : ℕ) → facts (waits_at m l q) w ≡ facts (waits_at m l q) v
  pub idle_known : facts is_idle w ≡ facts is_idle v
  pub stopped_known : facts is_stopped w ≡ facts is_stopped v
  pub stops_known : facts is_stops w ≡ facts is_stops v
  -- jobs
  pub owes : (i : Job) (m l : ℕ) → owed i m l w ≡ owed i m l v
  pub begins : (i : Job) (m l : ℕ) → begun i m l w ≡ begun i m l v
  pub ends : (i : Job) (m l : ℕ) → (ended i m l w ≡ ended i m l v) ⊎ (m ≡ k)
  pub ends_up : (i : Job) (m l : ℕ) → ended i m l v ≤ ended i m l w
  pub few : too_many w ≤ too_many v
  pub wrong : (b : ℕ) → in_wrong_hand b e.graph.root w ≤ in_wrong_hand b e.graph.root v
  -- items
  pub at : (m : ℕ) → items (is_at m) w ≤ items (is_at m) v + hit (eqb m k)
  pub renews : (m : ℕ) → items (is_renew m) w ≡ items (is_renew m) v
  pub renew_ats : (m l d : ℕ) → items (is_renew_at m l d) w ≡ items (is_renew_at m l d) v
  pub unmade : (m l : ℕ) → items (is_unmade m l) w ≤ items (is_unmade m l) v
  pub computes : (m l : ℕ) → items (is_compute m l) w ≤ items (is_compute m l) v
  pub made : (m l : ℕ) → items (is_made m l) w ≤ items (is_made m l) v
  pub early : items (is_made_early e.graph) w ≡ items (is_made_early e.graph) v
  pub closes : (m l : ℕ) → items (is_close m l) w ≤ items (is_close m l) v
  pub closes_from : (m l d : ℕ) → items (is_close_from m l d) w ≤ items (is_close_from m l d) v
  pub tells_word : (m l d : ℕ) → items (is_notify m l d) w ≤ items (is_notify m l d) v
  pub tells : (p q : ℕ) → items (notifies p q) w ≤ items (notifies p q) v
  pub blames : (b d : ℕ) → (items (suspects_block b d) w ≤ items (suspects_block b d) v) ⊎ HasRow e s (e.graph.writer b d)
  -- suspects
  pub suspected : (m l : ℕ) → (items (is_suspect m l) w ≤ items (is_suspect m l) v) ⊎ ((m ≡ k) × (0 < l) × (l ≤ standing_life (s.word (recovery r)) + replacing (s.word (recovery r))))
  pub root_clear : (l : ℕ) → items (is_suspect e.graph.root l) w ≤ items (is_suspect e.graph.root l) v
  pub caused : (m l : ℕ) (d : Cause) → (items (is_suspect_for m l d) w ≤ items (is_suspect_for m l d) v) ⊎ Shown e.graph (many s) (Grounded e.graph (many s)) m l d
  pub no_suspect : many s is_any_struck ≡ 0 → items is_any_suspect w ≤ items is_any_suspect v
  -- what still has to come
  pub selfs : (z m l i : ℕ) → Needs e s z m l i → IsPlace e.graph m i → covers_self m l i v ≤ covers_self m l i w
  pub edges : (z m l i : ℕ) → Needs e s z m l i → i < e.graph.places m → (covers_edge (e.graph.pred m i).task (e.graph.pred m i).port v ≤ covers_edge (e.graph.pred m i).task (e.graph.pred m i).port w) ⊎ (0 < covers_self m l i w)
  pub working : Working

-- the view itself does no less for a shown life
abbrev pub StillWorks : Setting → Core → View → View → Type 0
StillWorks e s v w = (z m : ℕ) → HasKey e s z m → works m (life_of (s.word (descriptor z))) v ≤ works m (life_of (s.word (descriptor z))) w

abbrev pub LookView : Setting → Core → ℕ → ℕ → ℕ → Word → View → View → Type 0
LookView e s r k n y v w = LookWith (StillWorks e s v w) e s r k n y v w

module _ (Working : Type 0) (e : Setting) (s t : Core) (r k n : ℕ) (y : Word) (v w : View) (c : Change s t (spot_of r y) n n v w) (has : HasKey e s r k) (row : (z : ℕ) (m : ℕ) → HasKey e s z m → m ≡ k → z ≡ r) (u : LookWith Working e s r k n y v w) (spot : (a : Spot) → t.word a ≡ s.word a) (blocks : (b : ℕ) → t.block b ≡ s.block b) (inv : Invariant e s) where
  eq : (f : View → ℕ) → f w ≡ f v → t.total f ≡ s.total f
  eq f q = let a = c.sums f in omega (arith, a, q)

  low : (f : View → ℕ) → f w ≤ f v → 0 < t.total f → 0 < s.total f
  low f q z = let a = c.sums f in omega (arith, a, q, z)

  recs : SameRecords s t
  recs p = eq (noted p) (ap (count p) u.records_are)

  more : (p : Record → Bool) → many s p ≤ many t p
  more p = let a = recs p in omega (arith, a)

  shown : (z : ℕ) (d : Word) → (life_shown d (t.word (spot_of z d)) ≡ life_shown d (s.word (spot_of z d))) × (mark_shown d (t.word (spot_of z d)) ≡ mark_shown d (s.word (spot_of z d)))
  shown z d = (ap (life_shown d) (spot (spot_of z d)), ap (mark_shown d) (spot (spot_of z d)))

  post_same : (i : Job) (z l : ℕ) → hit (eqb l (t.word (posted i z))) ≡ hit (eqb l (s.word (posted i z)))
  post_same i z l = ap (λ o. hit (eqb l o)) (spot (posted i z))

  held_ended : (i : Job) (m l : ℕ) → t.total (held i m l) + t.total (ended i m l) ≡ s.total (held i m l) + s.total (ended i m l)
  held_ended i m l = let a = c.sums (held i m l) in let b = c.sums (ended i m l) in let d = u.begins i m l in omega (arith, a, b, d)

  word_is : (z m : ℕ) → HasKey e s z m → m ≡ k → s.word (spot_of z y) ≡ n
  word_is z m old q = ap (λ o. s.word (spot_of o y)) (row z m old q) ∙ c.found_is

  look_keys : Keys e t
  look_keys = keys_stay e s t (λ z. spot (key z)) (λ z m some. inv.keys.known z m (let a = eq (facts (is_row z m)) (u.row_known z m) in omega (arith, a, some)))
      (λ m some. dite (ℕ_discrete m k) (λ q. (r, subst (HasKey e s r) (sym q) has)) (λ ne. inv.keys.of_item m (let a = c.sums (items (is_at m)) in let b = u.at m in let d = ap hit (Rattle.std.proofs.Common.ne_eqb m k ne) in omega (arith, a, b, d, some))))
      (λ i m l some. ⊎_elim (λ q. inv.keys.of_ended i m l (let a = eq (ended i m l) q in omega (arith, a, some))) (λ q. (r, subst (HasKey e s r) (sym q) has)) (u.ends i m l))
      (λ p l q some. inv.keys.of_waiting p l q (let a = eq (facts (waits_at p l q)) (u.waits_known p l q) in omega (arith, a, some))) (λ p q some. inv.keys.of_notify p q (low (items (notifies p q)) (u.tells p q) some)) (λ b d some. ⊎_elim (λ q. inv.keys.of_cause b d (low (items (suspects_block b d)) q some)) (λ q. q) (u.blames b d)) (λ m. recs (is_created m)) inv.keys

  look_cover : Cover e t
  look_cover = record {
    places = λ z m l i needs less. let old = wide_needs e s t (λ o. spot (key o)) shown (λ o. spot (recovery o)) (λ a b d f. sym (recs (is_spent a b d)) ∙ f) z m l i needs in let d : Edge = e.graph.pred m i in let a = u.selfs z m l i old (inl less) in let b = c.sums (covers_self m l i) in let f = c.sums (covers_edge d.task d.port) in let g = post_same Explore z l in
        ⊎_elim (λ h. ⊎_elim (λ o. inl (omega (arith, a, b, f, g, h, o))) (λ o. inr (wide_waiting e s t (λ o. spot (key o)) shown (λ o x q f. recs (is_closed o x q) ∙ f) (λ o x q f. let p = eq (facts (waits_at o x q)) (u.waits_known o x q) in omega (arith, p, f)) d.task d.port o)) (inv.cover.places z m l i old less))
        (λ h. inl (let p = c.within (covers_self m l i) in omega (arith, b, h, p))) (u.edges z m l i old less);
    self_place = λ z m l needs. let old = wide_needs e s t (λ o. spot (key o)) shown (λ o. spot (recovery o)) (λ a b d f. sym (recs (is_spent a b d)) ∙ f) z m l 40 needs in let a = u.selfs z m l 40 old (inr refl) in let b = c.sums (covers_self m l 40) in let g = post_same Explore z l in let o = inv.cover.self_place z m l old in omega (arith, a, b, g, o);
  }

  -- the view works on no less, or some view still works
  abbrev pub WorksOn : Type 0
  WorksOn = (z m : ℕ) → HasKey e s z m → (works m (life_of (s.word (descriptor z))) v ≤ works m (life_of (s.word (descriptor z))) w) ⊎ (0 < t.total (works m (life_of (s.word (descriptor z)))))

  look_activity : WorksOn → Activity e t
  look_activity working = record {
    each = λ z m it' all. let old = had e s t (λ o. spot (key o)) z m it' in let l : ℕ = life_of (s.word (descriptor z)) in let same = ap life_of (spot (descriptor z)) in
        subst (λ o. (0 < t.total (works m o) + hit (eqb o (t.word (posted Compute z)))) ⊎ Rattle.core_state.specs.Laws.AllClosed e.graph e.plan (many t) m o) (sym same)
        (⊎_elim (λ q. inl (let d = post_same Compute z l in ⊎_elim (λ b. let a = c.sums (works m l) in omega (arith, a, b, d, q)) (λ b. omega (arith, b)) (working z m old))) (λ q. inr (Rattle.core_state.proofs.Base.MoreRecords.all_closed_grows e.graph (many s) (many t) more e.plan m l q))
        (inv.activity.each z m old (λ i at. let a = recs (is_spent m l i) in let b = subst (λ o. 0 < many t (is_spent m o i)) same (all i at) in omega (arith, a, b))));
  }

  pub look_keeps_where : WorksOn → Invariant e t
  look_keeps_where working = record {
    keys = look_keys;
    empty = frame_empty e s t (λ z. spot (key z)) (λ z. spot (descriptor z)) (λ z d. spot (notify z d)) (λ z. spot (recovery z)) (λ i z. spot (posted i z)) inv.empty;
    lives = wide_lives e s t (λ z. spot (key z)) (λ z. spot (recovery z)) shown (λ m. eq (items (is_renew m)) (u.renews m)) (λ m l d. eq (items (is_renew_at m l d)) (u.renew_ats m l d))
        (λ z m l old some. ⊎_elim (λ q. (inv.lives.each z m old).suspected l (low (items (is_suspect m l)) q some)) (λ q. (q.1, subst (λ o. l ≤ standing_life (s.word (recovery o)) + replacing (s.word (recovery o))) (sym (row z m old q.0)) q.2)) (u.suspected m l)) inv.lives;
    content = frame_content e s t (λ z. spot (key z)) (λ z. spot (descriptor z)) (λ z d. spot (notify z d)) recs (λ m l q. eq (facts (waits_at m l q)) (u.waits_known m l q)) inv.content;
    facts = wide_facts e s t (λ z. spot (key z)) shown more
        (λ z m l d old some. ⊎_elim (λ q. inv.facts.life z m l d old (let a = eq (facts (is_seen_life m d l)) q in omega (arith, a, some))) (λ q. subst (λ (o : Word). l ≤ life_shown o (s.word (spot_of z o))) (sym q.2) (let a = q.1 in let b = ap (life_shown y) (word_is z m old q.0) in omega (arith, a, b))) (u.life_known m l d))
        (λ z m l d old some. ⊎_elim (λ q. inv.facts.mark z m l d old (let a = eq (facts (is_seen_mark m d l)) q in omega (arith, a, some)))
        (λ q. subst (λ (o : Word). (l < life_shown o (s.word (spot_of z o))) ⊎ ((l ≡ life_shown o (s.word (spot_of z o))) × (mark_shown o (s.word (spot_of z o)) ≡ 1))) (sym q.2) (inr (let b = ap (life_shown y) (word_is z m old q.0) in q.1 ∙ sym b, ap (mark_shown y) (word_is z m old q.0) ∙ q.3))) (u.mark_known m l d))
        (λ m l d some. ⊎_elim (λ q. inv.facts.row_of_life m l d (let a = eq (facts (is_seen_life m d l)) q in omega (arith, a, some))) (λ q. (r, subst (HasKey e s r) (sym q.0) has)) (u.life_known m l d))
        (λ m l d some. ⊎_elim (λ q. inv.facts.row_of_mark m l d (let a = eq (facts (is_seen_mark m d l)) q in omega (arith, a, some))) (λ q. (r, subst (HasKey e s r) (sym q.0) has)) (u.mark_known m l d))
        (λ m l d some. dite (ℕ_discrete (facts (is_seen_closed m l d) w) 0) (λ q. inv.facts.closed m l d (let a = c.sums (facts (is_seen_closed m l d)) in omega (arith, a, q, some)))
        (λ ne. ⊎_elim (λ q. inv.facts.closed m l d (let a = eq (facts (is_seen_closed m l d)) q in omega (arith, a, some))) (λ q. q) (u.closed_known m l d (omega (arith, ne)))))
        (λ some. spot pending ∙ inv.facts.idle (let a = eq (facts is_idle) u.idle_known in omega (arith, a, some))) (λ some. spot stop ∙ inv.facts.stopped (let a = eq (facts is_stopped) u.stopped_known in omega (arith, a, some))) (spot stop ∙ inv.facts.stops ∙ ap (min 1) (sym (eq (facts is_stops) u.stops_known)));
    work = record {
      credits = record {
        sum = let a = posted_same s.word t.word e.shape.rows (λ i z. spot (posted i z)) in let b = eq stack_count u.stacks_as_many in let d = eq spare u.spare_same in let f = spot pending in let g = inv.work.credits.sum in omega (arith, a, b, d, f, g);
        few_spare = let a = c.sums too_many in let b = u.few in let d = inv.work.credits.few_spare in let f = c.within too_many in omega (arith, a, b, d, f);
      };
      jobs = wide_jobs e s t (λ z. spot (key z)) shown (λ z. spot (recovery z)) (λ i z m l old some. let a = eq (owed i m l) (u.owes i m l) in let b = held_ended i m l in let d = post_same i z l in omega (arith, a, b, d))
          (λ i m. let a = eq (owed i m 0) (u.owes i m 0) in let b = held_ended i m 0 in let d = inv.work.jobs.some_life i m in omega (arith, a, b, d))
          (λ i m l. let a = eq (came i m l) (u.comes i m l) in let b = eq (begun i m l) (u.begins i m l) in let d = inv.work.jobs.came i m l in omega (arith, a, b, d)) more inv.work.jobs;
      computings = wide_computings e s t (λ z. spot (key z))
          (λ z m l old some q. (inv.work.computings.each z m l old some).unmade (let a = eq (owed Compute m l) (u.owes Compute m l) in let b = post_same Compute z l in let d = c.sums (items (is_unmade m l)) in let f = u.unmade m l in omega (arith, a, b, d, f, q)))
          (λ z m l old some q. (inv.work.computings.each z m l old some).unwritten (let a = eq (owed Compute m l) (u.owes Compute m l) in let b = post_same Compute z l in let d = c.sums (items (is_compute m l)) in let f = u.computes m l in omega (arith, a, b, d, f, q)))
          (λ m l q. low (items (is_made m l)) (u.made m l) q) (λ m l q. low (items (is_close m l)) (u.closes m l) q) (λ m l d q. low (items (is_close_from m l d)) (u.closes_from m l d) q) (λ m l d q. low (items (is_notify m l d)) (u.tells_word m l d) q)
          (λ m l q. let a = eq (begun Compute m l) (u.begins Compute m l) in omega (arith, a, q)) (eq (items (is_made_early e.graph)) u.early) (λ m l. recs (is_computed m l)) (λ m l. recs (is_written m l)) (λ m l d. recs (is_closed m l d)) inv.work.computings;
      root = wide_root_work e s t (λ l q. low (items (is_suspect e.graph.root l)) (u.root_clear l) q) (λ l. recs (is_replaced e.graph.root l)) (λ l. let a = c.sums (ended Compute e.graph.root l) in let b = u.ends_up Compute e.graph.root l in omega (arith, a, b)) (λ l. recs (is_computed e.graph.root l))
          (λ b. let a = c.sums (in_wrong_hand b e.graph.root) in let d = u.wrong b in omega (arith, a, d)) (λ b. eq (in_hand b) (ap (count (is_hand b)) u.hands_are)) blocks inv.work.root;
    };
    blocks = frame_blocks e s t (λ b. spot (turn b)) (λ b. eq (in_hand b) (ap (count (is_hand b)) u.hands_are)) recs blocks inv.blocks;
    records = frame_records e s t (λ z. spot (key z)) (λ z. spot (recovery z)) recs inv.records;
    causes = wide_causes e s t more (λ m l d. recs (is_replaced_for m l d)) (λ m l d some. ⊎_elim (λ q. inv.causes.suspected m l d (low (items (is_suspect_for m l d)) q some)) (λ q. q) (u.caused m l d)) inv.causes;
    strikes = wide_strikes e s t (λ z. spot (key z)) shown more (λ z. eq (struck_by z) (ap (count (eqb z)) u.strikes_are))
        (λ z d. let a = eq (struck_idly z d) (ap (λ o. Rattle.std.proofs.Common.cond (eqb o 0) (struck_by d w) 0) (u.begins (job_of z.point) z.key.0 z.life) ∙ ap (λ o. Rattle.std.proofs.Common.cond (eqb (begun (job_of z.point) z.key.0 z.life v) 0) (count (eqb d) o) 0) u.strikes_are) in omega (arith, a))
        (λ m l h. eq (struck_upto e.plan m l h) (ap (count (strikes_upto e.plan m l h)) u.strikes_are)) (λ m l h. recs (is_struck_upto m l h)) inv.strikes;
    cover = look_cover;
    activity = look_activity working;
    no_fault = wide_no_fault e s t (λ z. spot (key z)) (λ z. spot (recovery z)) more (λ unstruck old. let a = c.sums (items is_any_suspect) in let b = u.no_suspect unstruck in let d = old.none_suspected in let f = c.within (items is_any_suspect) in omega (arith, a, b, d, f)) (λ b d. recs (is_version b d)) blocks inv.no_fault;
  }

module _ (e : Setting) (s t : Core) (r k n : ℕ) (y : Word) (v w : View) (c : Change s t (spot_of r y) n n v w) (has : HasKey e s r k) (row : (z : ℕ) (m : ℕ) → HasKey e s z m → m ≡ k → z ≡ r) (u : LookView e s r k n y v w) (spot : (a : Spot) → t.word a ≡ s.word a) (blocks : (b : ℕ) → t.block b ≡ s.block b) (inv : Invariant e s) where
  pub look_keeps : Invariant e t
  look_keeps = look_keeps_where (StillWorks e s v w) e s t r k n y v w c has row u spot blocks inv (λ z m old. inl (u.working z m old))
