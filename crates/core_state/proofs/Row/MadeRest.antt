-- A claim that made the row keeps the other parts.
use Rattle.std.proofs.Common.{◌≡◌, ◌≢◌, ◌⊎◌, ℕ, ◌+◌, ◌-◌, ◌*◌, ◌/◌, ◌%◌, ◌<◌, ◌≤◌, Bool, true, false, cond, eqb, ne_eqb, min, nat_lt, ◌&&◌, List, [], ◌∷◌, ⊎_elim, inl, inr, arith, sym, ap, refl, ◌∙◌, subst}
use mathlib.Core.Logic.{dite}
use native.Mathlib.Decide.{ℕ_discrete}
use Rattle.core_state.specs.Graph.{Setting, Sound}
use Rattle.graph_model.specs.declared.plan.Strike.{Strike}
use Rattle.core_state.specs.Words.{Spot, pending, stop, key, descriptor, notify, recovery, posted, turn, spot_of, life_of, life_shown, mark_shown, standing_life, replacing}
use Rattle.core_state.specs.Counts.{hit, items, facts, owed, held, ended, begun, came, in_hand, in_wrong_hand, struck_by, struck_idly, struck_upto}
use Rattle.core_state.specs.Tests.{two, is_owed, carries, is_suspect, is_unmade, is_made, is_compute, is_close, is_close_from, is_notify, is_of, is_created, is_spent, is_closed, is_closing, is_struck, is_struck_from, is_struck_upto, is_struck_version, is_misstruck, is_miswritten, is_version, is_writing, is_any_struck, is_any_suspect, is_replaced, is_computed, is_written, is_idle, is_stopped, is_stops, is_seen_life, is_seen_mark, is_seen_closed}
use Rattle.core_state.specs.Change.{Core, Change, Sums, many}
use Rattle.core_state.specs.Laws.{IsPlace, AllClosed}
use Rattle.core_state.specs.Rows.{HasKey, HasRow, Facts}
use Rattle.core_state.specs.Work.{job_count, Jobs, Computing, Computings, RootWork, is_made_early}
use Rattle.core_state.specs.Blocks.{Holds, Blocks}
use Rattle.core_state.specs.Records.{Records, Landed, Strikes}
use Rattle.core_state.specs.Cover.{works, Activity, Faultless, NoFault}
use Rattle.core_state.specs.Invariant.{Invariant}
use Rattle.core_state.specs.Guards.{CanClaim}
use Rattle.core_state.specs.Views.{key_of}
use Rattle.core_state.specs.Effects.{after_claim}
use Rattle.core_state.specs.declared.answers.Claim.TheVariants as claim
use Rattle.graph_model.specs.declared.record.Hit.TheVariants as hit_of
use Rattle.core_state.specs.declared.views.Item.{Item}
use Rattle.core_state.specs.declared.views.Item.TheVariants as item
use Rattle.core_state.specs.declared.job.Job.{Job}
use Rattle.core_state.specs.declared.job.Job.TheVariants as job
use Rattle.graph_model.specs.declared.record.Record.{Record}
use Rattle.graph_model.specs.declared.record.Record.TheVariants as record_of
use Rattle.core_state.specs.declared.views.Word.{Word}
use Rattle.core_state.specs.declared.views.Word.TheVariants as word_of
use Rattle.core_state.specs.declared.views.View.{View}
use Rattle.core_state.proofs.Base.Counting.{two_here, not_two}
use Rattle.core_state.proofs.Start.Keeps.{no_hit}
use Rattle.core_state.proofs.Base.Frame.{was}
use Rattle.core_state.proofs.Base.MoreRecords.{block_struck_grows, all_closed_grows}
use Rattle.core_state.proofs.Base.Tops.{push_none, push_came}
use Rattle.core_state.proofs.Row.Made.{same, word, its, one_more, no_old, row_new, kept, rows, has_row, item_none, record_none, recs, more, spent_of, written_of, computed_of, replaced_of, owed_at, carries_at, made_at, close_at, close_from_at, notify_at, made_keys, made_empty, made_lives, made_content, made_credits, made_causes, made_cover}

other_owed : (i : Job) (m l k : ℕ) → ((m ≡ k) × (l ≡ 1) → ⊥) → is_owed i m l (item.Owe k job.Explore 1) ≡ false
other_owed job.Explore m l k f = not_two m l k 1 f
other_owed job.Compute m l k f = refl

other_carried : (i : Job) (m l k : ℕ) → carries i m l (item.Owe k job.Explore 1) ≡ false
other_carried job.Explore m l k = refl
other_carried job.Compute m l k = refl

module _ (e : Setting) (fit : Sound e) (s t : Core) (sums : Sums s) (r k : ℕ) (v : View) (can : CanClaim e v r k) (c : Change s t (key r) 0 (k + 1) v (after_claim r k claim.Made v)) (i : Invariant e s) where
  w : View
  w = after_claim r k claim.Made v

  eq : (f : View → ℕ) → f (after_claim r k claim.Made v) ≡ f v → t.total f ≡ s.total f
  eq = same e fit s t sums r k v can c i

  wd : (a : Spot) → (key r ≡ a → ⊥) → t.word a ≡ s.word a
  wd = word e fit s t sums r k v can c i

  it : (p : Item → Bool) → p (item.Owe k job.Explore 1) ≡ false → t.total (items p) ≡ s.total (items p)
  it = its e fit s t sums r k v can c i

  rec : (p : Record → Bool) → p (record_of.Created (key_of k)) ≡ false → many t p ≡ many s p
  rec = recs e fit s t sums r k v can c i

  none_old : HasRow e s k → ⊥
  none_old = no_old e fit s t sums r k v can c i

  each_row : (P : ℕ → ℕ → Type 0) → P r k → ((x m : ℕ) → HasKey e s x m → m ≢ k → P x m) → (x m : ℕ) → HasKey e t x m → P x m
  each_row = rows e fit s t sums r k v can c i

  no_such : (p : Item → Bool) → ((x : Item) → p x ≡ true → Rattle.core_state.specs.Tests.is_at k x ≡ true) → s.total (items p) ≡ 0
  no_such = item_none e fit s t sums r k v can c i

  no_rec : (l : ℕ) (p : Record → Bool) → ((x : Record) → p x ≡ true → is_of k l x ≡ true) → many s p ≡ 0
  no_rec = record_none e fit s t sums r k v can c i

  rises : (p : Record → Bool) → many s p ≤ many t p
  rises = more e fit s t sums r k v can c i

  up : (p : Record → Bool) → 0 < many s p → 0 < many t p
  up p z = let a = rises p in omega (arith, a, z)

  down : (f : View → ℕ) → t.total f ≡ s.total f → 0 < t.total f → 0 < s.total f
  down f q z = omega (arith, q, z)

  shown_same : (x : ℕ) (u : Word) → t.word (spot_of x u) ≡ s.word (spot_of x u)
  shown_same x word_of.Descriptor = wd (descriptor x) (λ q. cc)
  shown_same x (word_of.Notify u) = wd (notify x u) (λ q. cc)
  shown_same x word_of.Recovery = wd (recovery x) (λ q. cc)

  no_ended : (j : Job) (l : ℕ) → s.total (ended j k l) ≡ 0
  no_ended j l = dite (ℕ_discrete (s.total (ended j k l)) 0) (λ z. z) (λ z. absurd (none_old (i.keys.of_ended j k l (omega (arith, z)))))

  made_facts : Facts e t
  made_facts = record {
    idle = λ z. wd pending (λ q. cc) ∙ i.facts.idle (down (facts is_idle) (eq (facts is_idle) refl) z);
    stopped = λ z. wd stop (λ q. cc) ∙ i.facts.stopped (down (facts is_stopped) (eq (facts is_stopped) refl) z);
    stops = wd stop (λ q. cc) ∙ i.facts.stops ∙ ap (min 1) (sym (eq (facts is_stops) refl));
    closed = λ m l x z. up (is_closed m l x) (i.facts.closed m l x (down (facts (is_seen_closed m l x)) (eq (facts (is_seen_closed m l x)) refl) z));
    row_of_life = λ m l u z. has_row e fit s t sums r k v can c i m (i.facts.row_of_life m l u (down (facts (is_seen_life m u l)) (eq (facts (is_seen_life m u l)) refl) z));
    row_of_mark = λ m l u z. has_row e fit s t sums r k v can c i m (i.facts.row_of_mark m l u (down (facts (is_seen_mark m u l)) (eq (facts (is_seen_mark m u l)) refl) z));
    life = λ x m l u has z. each_row (λ y n. 0 < t.total (facts (is_seen_life n u l)) → l ≤ life_shown u (t.word (spot_of y u)))
        (λ z. absurd (none_old (i.facts.row_of_life k l u (down (facts (is_seen_life k u l)) (eq (facts (is_seen_life k u l)) refl) z))))
        (λ y n old ne z. subst (λ b. l ≤ life_shown u b) (sym (shown_same y u)) (i.facts.life y n l u old (down (facts (is_seen_life n u l)) (eq (facts (is_seen_life n u l)) refl) z))) x m has z;
    mark = λ x m l u has z. each_row (λ y n. 0 < t.total (facts (is_seen_mark n u l)) → (l < life_shown u (t.word (spot_of y u))) ⊎ ((l ≡ life_shown u (t.word (spot_of y u))) × (mark_shown u (t.word (spot_of y u)) ≡ 1)))
        (λ z. absurd (none_old (i.facts.row_of_mark k l u (down (facts (is_seen_mark k u l)) (eq (facts (is_seen_mark k u l)) refl) z))))
        (λ y n old ne z. subst (λ b. (l < life_shown u b) ⊎ ((l ≡ life_shown u b) × (mark_shown u b ≡ 1))) (sym (shown_same y u)) (i.facts.mark y n l u old (down (facts (is_seen_mark n u l)) (eq (facts (is_seen_mark n u l)) refl) z))) x m has z;
  }

  post_new : (j : Job) (l : ℕ) → 0 < l → hit (eqb l (t.word (posted j r))) ≡ 0
  post_new j l some = no_hit l (t.word (posted j r)) (wd (posted j r) (λ q. cc) ∙ i.empty.no_job j r c.found_is) some

  held_new : (j : Job) (l : ℕ) → t.total (held j k l) ≡ 0
  held_new j l = it (carries j k l) (other_carried j k l k) ∙ no_such (carries j k l) (carries_at j k l)

  ended_new : (j : Job) (l : ℕ) → t.total (ended j k l) ≡ 0
  ended_new j l = eq (ended j k l) refl ∙ no_ended j l

  owed_new : (j : Job) (l : ℕ) → ((k ≡ k) × (l ≡ 1) → ⊥) → t.total (owed j k l) ≡ 0
  owed_new j l f = it (is_owed j k l) (other_owed j k l k f) ∙ no_such (is_owed j k l) (owed_at j k l)

  compute_new : (l : ℕ) → t.total (owed job.Compute k l) ≡ 0
  compute_new l = it (is_owed job.Compute k l) refl ∙ no_such (is_owed job.Compute k l) (owed_at job.Compute k l)

  none_computing : (l : ℕ) → 0 < l → job_count e t job.Compute r k l ≡ 0
  none_computing l some = let a = compute_new l in let b = held_new job.Compute l in let d = ended_new job.Compute l in let f = post_new job.Compute l some in omega (arith, a, b, d, f)

  same_count : (j : Job) (x n l : ℕ) → n ≢ k → job_count e t j x n l ≡ job_count e s j x n l
  same_count j x n l ne = let a : t.total (owed j n l) ≡ s.total (owed j n l) = it (is_owed j n l) (other_owed j n l k (λ q. ne q.0)) in let b : t.total (held j n l) ≡ s.total (held j n l) = it (carries j n l) (other_carried j n l k) in
      let d = eq (ended j n l) refl in let f = ap (λ z. hit (eqb l z)) (wd (posted j x) (λ q. cc)) in omega (arith, a, b, d, f)

  begun_same : (j : Job) (m l : ℕ) → t.total (begun j m l) ≡ s.total (begun j m l)
  begun_same j m l = eq (begun j m l) (ap (λ z. z + ended j m l v) (push_none (carries j m l) (item.Owe k job.Explore 1) v.stacks (other_carried j m l k)))

  made_jobs : Jobs e t
  made_jobs = record {
    explored = λ x m l has some low. each_row (λ y n. l ≤ standing_life (t.word (recovery y)) → job_count e t job.Explore y n l ≡ 1)
        (λ low. let z : standing_life (t.word (recovery r)) ≡ 1 = ap standing_life (wd (recovery r) (λ q. cc) ∙ i.empty.no_recovery r c.found_is) in let one : l ≡ 1 = omega (arith, z, low, some) in
        let a : t.total (owed job.Explore k l) ≡ s.total (owed job.Explore k l) + 1 = one_more e fit s t sums r k v can c i (is_owed job.Explore k l) (subst (λ y. two k y k 1 ≡ true) (sym one) (two_here k 1)) in
        let a' : s.total (owed job.Explore k l) ≡ 0 = no_such (is_owed job.Explore k l) (owed_at job.Explore k l) in let b = held_new job.Explore l in let d = ended_new job.Explore l in let f = post_new job.Explore l some in omega (arith, a, a', b, d, f))
        (λ y n old ne low. same_count job.Explore y n l ne ∙ i.work.jobs.explored y n l old some (subst (λ z. l ≤ standing_life z) (wd (recovery y) (λ q. cc)) low)) x m has low;
    not_explored = λ x m l has less. each_row (λ y n. standing_life (t.word (recovery y)) < l → job_count e t job.Explore y n l ≡ 0)
        (λ less. let z : standing_life (t.word (recovery r)) ≡ 1 = ap standing_life (wd (recovery r) (λ q. cc) ∙ i.empty.no_recovery r c.found_is) in
        let a = owed_new job.Explore l (λ q. let u = q.1 in omega (arith, z, less, u)) in let b = held_new job.Explore l in let d = ended_new job.Explore l in let f = post_new job.Explore l (omega (arith, z, less)) in omega (arith, a, b, d, f))
        (λ y n old ne less. same_count job.Explore y n l ne ∙ i.work.jobs.not_explored y n l old (subst (λ z. standing_life z < l) (wd (recovery y) (λ q. cc)) less)) x m has less;
    computed = λ x m l has some. each_row (λ y n. job_count e t job.Compute y n l ≤ 1) (let a = none_computing l some in omega (arith, a)) (λ y n old ne. let a = same_count job.Compute y n l ne in let b = i.work.jobs.computed y n l old some in omega (arith, a, b)) x m has;
    not_computed = λ x m l has less. each_row (λ y n. life_of (t.word (descriptor y)) < l → job_count e t job.Compute y n l ≡ 0) (λ less. none_computing l (omega (arith, less)))
        (λ y n old ne less. same_count job.Compute y n l ne ∙ i.work.jobs.not_computed y n l old (subst (λ z. life_of z < l) (wd (descriptor y) (λ q. cc)) less)) x m has less;
    some_life = λ j m. let a : t.total (owed j m 0) ≡ s.total (owed j m 0) = it (is_owed j m 0) (other_owed j m 0 k (λ q. let u = q.1 in omega (arith, u))) in let b : t.total (held j m 0) ≡ s.total (held j m 0) = it (carries j m 0) (other_carried j m 0 k) in
        let d = eq (ended j m 0) refl in let f = i.work.jobs.some_life j m in omega (arith, a, b, d, f);
    ready = λ x m l j has some z place. each_row (λ y n. 0 < job_count e t job.Compute y n l → IsPlace e.graph n j → 0 < many t (is_spent n l j)) (λ z place. absurd (let a = none_computing l some in omega (arith, a, z)))
        (λ y n old ne z place. up (is_spent n l j) (i.work.jobs.ready y n l j old some (let a = same_count job.Compute y n l ne in omega (arith, a, z)) place)) x m has z place;
    came = λ j m l. let a = eq (came j m l) (push_came j m l (λ xs. item.Owe k job.Explore 1 ∷ xs) v.stacks) in let b = begun_same j m l in let d = i.work.jobs.came j m l in omega (arith, a, b, d);
  }

  made_computings : Computings e t
  made_computings = record {
    each = λ x m l has some. each_row (λ y n. Computing e t y n l)
        record {
          unmade = λ z. rec (is_computed k l) refl ∙ no_rec l (is_computed k l) (computed_of k l);
          made = λ z. absurd (let a = it (is_made k l) refl in let b = no_such (is_made k l) (made_at k l) in omega (arith, a, b, z));
          unwritten = λ z. rec (is_written k l) refl ∙ no_rec l (is_written k l) (written_of k l);
          written = λ z. absurd (let a = it (is_close k l) refl in let b = no_such (is_close k l) (close_at k l) in omega (arith, a, b, z));
          closing = λ u j z. absurd (let a = it (is_close_from k l u) refl in let b = no_such (is_close_from k l u) (close_from_at k l u) in omega (arith, a, b, z));
          close_word = λ u z. absurd (let a = it (is_close_from k l u) refl in let b = no_such (is_close_from k l u) (close_from_at k l u) in omega (arith, a, b, z));
          notifying = λ u z. absurd (let a = it (is_notify k l u) refl in let b = no_such (is_notify k l u) (notify_at k l u) in omega (arith, a, b, z));
          begun = λ z. absurd (let a = rec (is_computed k l) refl in let b = no_rec l (is_computed k l) (computed_of k l) in omega (arith, a, b, z));
        }
        (λ y n old ne. let o = i.work.computings.each y n l old some in let a : t.total (owed job.Compute n l) ≡ s.total (owed job.Compute n l) = it (is_owed job.Compute n l) refl in let p = ap (λ z. hit (eqb l z)) (wd (posted job.Compute y) (λ q. cc)) in record {
          unmade = λ z. rec (is_computed n l) refl ∙ o.unmade (let b = it (is_unmade n l) refl in omega (arith, a, p, b, z));
          made = λ z. up (is_computed n l) (o.made (down (items (is_made n l)) (it (is_made n l) refl) z));
          unwritten = λ z. rec (is_written n l) refl ∙ o.unwritten (let b = it (is_compute n l) refl in omega (arith, a, p, b, z));
          written = λ z. up (is_written n l) (o.written (down (items (is_close n l)) (it (is_close n l) refl) z));
          closing = λ u j z. rec (is_closed n l j) refl ∙ o.closing u j (down (items (is_close_from n l u)) (it (is_close_from n l u) refl) z);
          close_word = λ u z. o.close_word u (down (items (is_close_from n l u)) (it (is_close_from n l u) refl) z);
          notifying = λ u z. up (is_closed n l u) (o.notifying u (down (items (is_notify n l u)) (it (is_notify n l u) refl) z));
          begun = λ z. was (s.total (begun job.Compute n l)) (t.total (begun job.Compute n l)) (sym (begun_same job.Compute n l)) (o.begun (was (many t (is_computed n l)) (many s (is_computed n l)) (rec (is_computed n l) refl) z));
        }) x m has;
    none_early = it (is_made_early e.graph) refl ∙ i.work.computings.none_early;
  }

  made_root : RootWork e t
  made_root = let root : ℕ = e.graph.root in let b : ℕ = e.graph.block e.graph.root in record {
    right_hand = eq (in_wrong_hand b root) (ap (λ z. cond (eqb z 0) (in_hand b v) 0) (push_none (Rattle.core_state.specs.Tests.is_made_any root) (item.Owe k job.Explore 1) v.stacks refl)) ∙ i.work.root.right_hand;
    unwritten = λ z. ap (λ x. x.tag) (c.blocks b (λ q. cc)) ∙ i.work.root.unwritten (down (in_hand b) (eq (in_hand b) refl) z);
    given_up = λ l z. let o = i.work.root.given_up l (let a = it (is_suspect root l) refl in let d = rec (is_replaced root l) refl in omega (arith, a, d, z)) in
        (was (s.total (ended job.Compute root l)) (t.total (ended job.Compute root l)) (sym (eq (ended job.Compute root l) refl)) o.0, rec (is_computed root l) refl ∙ o.1);
  }

  made_blocks : Blocks e t
  made_blocks = record {
    each = λ b low. let o = i.blocks.each b low in record {
      taken = wd (turn b) (λ q. cc) ∙ o.taken ∙ sym (eq (in_hand b) refl);
      once = let a = eq (in_hand b) refl in let d = o.once in omega (arith, a, d);
      holds = subst (Holds e t b) (sym (c.blocks b (λ q. cc))) (let x = s.block b in record {
        good = o.holds.good;
        written = λ z. up (is_version b x.tag) (o.holds.written z);
        struck = λ z. let y = o.holds.struck z in (y.0, up (is_struck_version b x.tag) y.1);
        twice = λ u less z. let a = rec (is_version b x.tag) refl in let d = o.holds.twice u less (was (many t (is_version b u)) (many s (is_version b u)) (rec (is_version b u) refl) z) in omega (arith, a, d);
        root = o.holds.root;
      });
    };
  }

  of_same : (m l : ℕ) → ((m ≡ k) × (l ≡ 1) → ⊥) → many t (is_of m l) ≡ many s (is_of m l)
  of_same m l f = rec (is_of m l) (not_two m l k 1 f)

  made_records : Records e t
  made_records = record {
    spent = record {
      once = λ m l j. let a = rec (is_spent m l j) refl in let b = i.records.spent.once m l j in omega (arith, a, b);
      is_place = λ m l j z. i.records.spent.is_place m l j (was (many t (is_spent m l j)) (many s (is_spent m l j)) (rec (is_spent m l j) refl) z);
    };
    computed = record {
      computed_once = λ m l. let a = rec (is_computed m l) refl in let b = i.records.computed.computed_once m l in omega (arith, a, b);
      computed_ready = λ m l j z place. up (is_spent m l j) (i.records.computed.computed_ready m l j (was (many t (is_computed m l)) (many s (is_computed m l)) (rec (is_computed m l) refl) z) place);
      written_once = λ m l. let a = rec (is_written m l) refl in let b = i.records.computed.written_once m l in omega (arith, a, b);
      written_place = rec (is_miswritten e.graph) refl ∙ i.records.computed.written_place;
      written_computed = λ m l z. up (is_computed m l) (i.records.computed.written_computed m l (was (many t (is_written m l)) (many s (is_written m l)) (rec (is_written m l) refl) z));
      closed_once = λ m l j. let a = rec (is_closed m l j) refl in let b = i.records.computed.closed_once m l j in omega (arith, a, b);
      closed_word = λ m l j z. i.records.computed.closed_word m l j (was (many t (is_closed m l j)) (many s (is_closed m l j)) (rec (is_closed m l j) refl) z);
      closed_written = λ m l j z. up (is_written m l) (i.records.computed.closed_written m l j (was (many t (is_closed m l j)) (many s (is_closed m l j)) (rec (is_closed m l j) refl) z));
    };
    lives = record {
      replaced_before = λ m l later z. up (is_replaced m (l - 1)) (i.records.lives.replaced_before m l later (was (many t (is_of m l)) (many s (is_of m l)) (of_same m l (λ q. let u = q.1 in omega (arith, u, later))) z));
      created_once = λ m l z. dite (ℕ_discrete m k) (λ q. (made_keys e fit s t sums r k v can c i).created r m (subst (HasKey e t r) (sym q) (row_new e fit s t sums r k v can c i)))
          (λ q. rec (is_created m) (ne_eqb m k q) ∙ i.records.lives.created_once m l (was (many t (is_of m l)) (many s (is_of m l)) (of_same m l (λ u. q u.0)) z));
      reached = λ m l z. dite (ℕ_discrete m k) (λ q. (made_keys e fit s t sums r k v can c i).reached r m (subst (HasKey e t r) (sym q) (row_new e fit s t sums r k v can c i)))
          (λ q. i.records.lives.reached m l (was (many t (is_of m l)) (many s (is_of m l)) (of_same m l (λ u. q u.0)) z));
    };
    edges = record { closed = λ m l j low z. up (is_closing (e.graph.pred m j).task ((e.graph.pred m j).port / 40)) (i.records.edges.closed m l j low (was (many t (is_spent m l j)) (many s (is_spent m l j)) (rec (is_spent m l j) refl) z)) };
    some_life = λ m. of_same m 0 (λ q. let u = q.1 in omega (arith, u)) ∙ i.records.some_life m;
    replaced = λ x m l has. each_row (λ y n. many t (is_replaced n l) ≡ hit (nat_lt 0 l && nat_lt l (standing_life (t.word (recovery y)) + replacing (t.word (recovery y)))))
        (rec (is_replaced k l) refl ∙ no_rec l (is_replaced k l) (replaced_of k l) ∙ sym (subst (λ n. hit (nat_lt 0 l && nat_lt l (standing_life n + replacing n)) ≡ 0) (sym (wd (recovery r) (λ q. cc) ∙ i.empty.no_recovery r c.found_is)) (no_life l)))
        (λ y n old ne. rec (is_replaced n l) refl ∙ i.records.replaced y n l old ∙ ap (λ n. hit (nat_lt 0 l && nat_lt l (standing_life n + replacing n))) (sym (wd (recovery y) (λ q. cc)))) x m has;
    names_own = rec (is_misstruck e.graph) refl ∙ i.records.names_own;
  }
    where
      no_life : (l : ℕ) → hit (nat_lt 0 l && nat_lt l 1) ≡ 0
      no_life Rattle.std.proofs.Common.zero = refl
      no_life (Rattle.std.proofs.Common.suc n) = rw (Rattle.std.proofs.lemmas.Bool.lt-ltb 0 (Rattle.std.proofs.Common.suc n) (omega arith), Rattle.std.proofs.lemmas.Bool.le-ltb (Rattle.std.proofs.Common.suc n) 1 (omega arith))

  -- a strike that was made is of a key with a row
  struck_row : (n : ℕ) → n < e.plan.count → 0 < s.total (struck_by n) → HasRow e s (e.plan.strike n).key.0
  struck_row n low z = let x = e.plan.strike n in let j = Rattle.core_state.specs.Tests.job_of x.point in let some : 0 < s.total (begun j x.key.0 x.life) = dite (ℕ_discrete (s.total (begun j x.key.0 x.life)) 0)
      (λ q. absurd (let a = sums.none (λ u. begun j x.key.0 x.life u + struck_idly x n u) (struck_by n) (λ u y. made_idly u y) (sums.add (begun j x.key.0 x.life) (struck_idly x n) ∙ (let b = (i.strikes.each n low).by_its_job in omega (arith, q, b))) in omega (arith, a, z))) (λ q. omega (arith, q)) in
      dite (ℕ_discrete (s.total (held j x.key.0 x.life)) 0)
      (λ q. i.keys.of_ended j x.key.0 x.life (let a = sums.add (held j x.key.0 x.life) (ended j x.key.0 x.life) in omega (arith, a, q, some)))
      (λ q. dite (ℕ_discrete (s.total (items (Rattle.core_state.specs.Tests.is_at x.key.0))) 0) (λ y. absurd (q (sums.none (items (Rattle.core_state.specs.Tests.is_at x.key.0)) (held j x.key.0 x.life) (λ u y. Rattle.core_state.proofs.Row.View.fewer_items (Rattle.core_state.specs.Tests.is_at x.key.0) (carries j x.key.0 x.life) (carries_at j x.key.0 x.life) u.stacks y) y))) (λ y. i.keys.of_item x.key.0 (omega (arith, y))))
    where
      made_idly : (u : View) → begun (Rattle.core_state.specs.Tests.job_of (e.plan.strike n).point) (e.plan.strike n).key.0 (e.plan.strike n).life u + struck_idly (e.plan.strike n) n u ≡ 0 → struck_by n u ≡ 0
      made_idly u y = let b : ℕ = begun (Rattle.core_state.specs.Tests.job_of (e.plan.strike n).point) (e.plan.strike n).key.0 (e.plan.strike n).life u in let q : b ≡ 0 = omega (arith, y) in
          let f : struck_idly (e.plan.strike n) n u ≡ struck_by n u = ap (λ (z : Bool). cond z (struck_by n u) 0) (Rattle.std.proofs.lemmas.Bool.eq-eqb b 0 q) in omega (arith, y, f)

  made_strikes : Strikes e t
  made_strikes = record {
    each = λ n low. let o = i.strikes.each n low in let x : Strike = e.plan.strike n in let by = eq (struck_by n) refl in record {
      once = let b = o.once in omega (arith, by, b);
      by_its_job = eq (struck_idly x n) (ap (λ z. cond (eqb (z + ended (Rattle.core_state.specs.Tests.job_of x.point) x.key.0 x.life v) 0) (struck_by n v) 0) (push_none (carries (Rattle.core_state.specs.Tests.job_of x.point) x.key.0 x.life) (item.Owe k job.Explore 1) v.stacks (other_carried (Rattle.core_state.specs.Tests.job_of x.point) x.key.0 x.life k))) ∙ o.by_its_job;
      has_word = λ z. o.has_word (down (struck_by n) by z);
      on_descriptor = λ y has z on. let q = struck_row n low (down (struck_by n) by z) in let same_place = (made_keys e fit s t sums r k v can c i).one_row q.0 y x.key.0 (kept e fit s t sums r k v can c i q.0 x.key.0 q.1) has in
          let old : HasKey e s y x.key.0 = subst (λ u. HasKey e s u x.key.0) same_place q.1 in let l = o.on_descriptor y old (down (struck_by n) by z) on in subst (λ u. Landed e t x.key.0 x.life u hit_of.Descriptor) (sym (wd (descriptor y) (λ q. cc))) record { recorded = up (is_struck_from x.key.0 x.life hit_of.Descriptor) l.recorded; stands = l.stands };
      on_notify = λ y u has z on. let q = struck_row n low (down (struck_by n) by z) in let same_place = (made_keys e fit s t sums r k v can c i).one_row q.0 y x.key.0 (kept e fit s t sums r k v can c i q.0 x.key.0 q.1) has in
          let old : HasKey e s y x.key.0 = subst (λ u. HasKey e s u x.key.0) same_place q.1 in let l = o.on_notify y u old (down (struck_by n) by z) on in subst (λ b. Landed e t x.key.0 x.life b (hit_of.Notify u)) (sym (wd (notify y u) (λ q. cc))) record { recorded = up (is_struck_from x.key.0 x.life (hit_of.Notify u)) l.recorded; stands = l.stands };
      on_block = λ z on at. block_struck_grows e.graph (many s) (many t) rises e.plan x.key.0 (o.on_block (down (struck_by n) by z) on at);
    };
    planned = λ n low. eq (struck_by n) refl ∙ i.strikes.planned n low;
    few = λ m l h. let a = rec (is_struck_upto m l h) refl in let b = eq (struck_upto e.plan m l h) refl in let d = i.strikes.few m l h in omega (arith, a, b, d);
  }

  made_activity : Activity e t
  made_activity = record {
    each = λ x m has all. each_row (λ y n. ((j : ℕ) → IsPlace e.graph n j → 0 < many t (is_spent n (life_of (t.word (descriptor y))) j)) → (0 < t.total (works n (life_of (t.word (descriptor y)))) + hit (eqb (life_of (t.word (descriptor y))) (t.word (posted job.Compute y)))) ⊎ AllClosed e.graph e.plan (many t) n (life_of (t.word (descriptor y))))
        (λ all. absurd (let l : ℕ = life_of (t.word (descriptor r)) in let a = all 40 (inr refl) in let b = rec (is_spent k l 40) refl in let d = no_rec l (is_spent k l 40) (spent_of k l 40) in omega (arith, a, b, d)))
        (λ y n old ne all. subst (λ z. (0 < t.total (works n (life_of z)) + hit (eqb (life_of z) (t.word (posted job.Compute y)))) ⊎ AllClosed e.graph e.plan (many t) n (life_of z)) (sym (wd (descriptor y) (λ q. cc))) (let l : ℕ = life_of (s.word (descriptor y)) in let x : Item = item.Owe k job.Explore 1 in
        ⊎_elim (λ z. inl (let a = eq (works n l) (let b = push_none (is_owed job.Compute n l) x v.stacks refl in let d = push_none (carries job.Compute n l) x v.stacks refl in let f = push_none (is_suspect n l) x v.stacks refl in let g = push_none (Rattle.core_state.specs.Tests.is_renew_of n l) x v.stacks refl in omega (arith, b, d, f, g)) in
        let h = ap (λ u. hit (eqb l u)) (wd (posted job.Compute y) (λ q. cc)) in omega (arith, a, h, z))) (λ z. inr (all_closed_grows e.graph (many s) (many t) rises e.plan n l z))
        (i.activity.each y n old (λ j place. was (many t (is_spent n l j)) (many s (is_spent n l j)) (rec (is_spent n l j) refl) (subst (λ z. 0 < many t (is_spent n (life_of z) j)) (wd (descriptor y) (λ q. cc)) (all j place)))))) x m has all;
  }

  made_no_fault : NoFault e t
  made_no_fault = record {
    faultless = λ z. let o : Faultless e s = i.no_fault.faultless (sym (rec is_any_struck refl) ∙ z) in record {
      first_life = λ x m has. each_row (λ y n. t.word (recovery y) ≡ 0) (wd (recovery r) (λ q. cc) ∙ i.empty.no_recovery r c.found_is) (λ y n old ne. wd (recovery y) (λ q. cc) ∙ o.first_life y n old) x m has;
      none_suspected = it is_any_suspect refl ∙ o.none_suspected;
      newest = λ b u low some. subst (λ x. u ≤ x.tag) (sym (c.blocks b (λ q. cc))) (o.newest b u low (was (many t (is_version b u)) (many s (is_version b u)) (rec (is_version b u) refl) some));
      readers_first = λ b u m some wrote reads not_root other. up (is_writing m) (o.readers_first b u m some (was (many t (is_version b (u + 1))) (many s (is_version b (u + 1))) (rec (is_version b (u + 1)) refl) wrote) reads not_root other);
    };
  }

  -- a claim that made the row
  pub keeps_made : Invariant e t
  keeps_made = record {
    keys = made_keys e fit s t sums r k v can c i;
    empty = made_empty e fit s t sums r k v can c i;
    lives = made_lives e fit s t sums r k v can c i;
    content = made_content e fit s t sums r k v can c i;
    facts = made_facts;
    work = record { credits = made_credits e fit s t sums r k v can c i; jobs = made_jobs; computings = made_computings; root = made_root };
    blocks = made_blocks;
    records = made_records;
    causes = made_causes e fit s t sums r k v can c i;
    strikes = made_strikes;
    cover = made_cover e fit s t sums r k v can c i;
    activity = made_activity;
    no_fault = made_no_fault;
  }
