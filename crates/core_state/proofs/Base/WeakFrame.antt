-- Parts of the invariant under the least that a step must leave alone. Each premise names one test, so that a step which adds or moves one item or record owes little more than that the tests fail on it.
use Rattle.std.proofs.Common.{◌≡◌, ◌⊎◌, ℕ, ◌+◌, ◌/◌, ◌≤◌, ◌<◌, Bool, min, eqb, nat_lt, ◌&&◌, ⊎_elim, inl, inr, arith, sym, ap, ◌∙◌, subst}
use Rattle.core_state.specs.Graph.{Edge, Setting}
use Rattle.graph_model.specs.declared.plan.Strike.{Strike}
use Rattle.core_state.specs.Words.{pending, stop, descriptor, notify, recovery, posted, turn, spot_of, life_of, mark_of, life_shown, mark_shown, standing_life, replacing}
use Rattle.core_state.specs.Counts.{hit, items, ended, held, owed, begun, came, facts, waits, in_hand, in_wrong_hand, struck_by, struck_idly, struck_upto}
use Rattle.core_state.specs.Tests.{is_suspect, is_suspect_for, is_renew, is_renew_at, is_seen_life, is_seen_mark, is_seen_closed, is_idle, is_stopped, is_stops, is_spent, is_closed, is_replaced, is_replaced_for, is_struck_from, is_struck_upto, is_version, is_struck_version, is_made, is_unmade, is_compute, is_close, is_close_from, is_notify, is_computed, is_written, is_any_struck, is_any_suspect, is_writing}
use Rattle.core_state.specs.Change.{Core, many}
use Rattle.core_state.specs.Laws.{Shown, Grounded, AllClosed}
use Rattle.core_state.specs.Rows.{HasKey, HasRow, LifeOf, Lives, Facts}
use Rattle.core_state.specs.Work.{job_count, Jobs, Computings, RootWork, is_made_early}
use Rattle.core_state.specs.Blocks.{Holds, Blocks}
use Rattle.core_state.specs.Records.{Causes, Landed, Strikes}
use Rattle.core_state.specs.Cover.{covers_self, covers_edge, works, Needs, Waiting, Cover, Activity, Faultless, NoFault}
use Rattle.core_state.specs.declared.block.BlockCells.{BlockCells}
use Rattle.graph_model.specs.declared.record.Cause.{Cause}
use Rattle.graph_model.specs.declared.record.Hit.{Hit}
use Rattle.graph_model.specs.declared.record.Hit.TheVariants as hit_of
use Rattle.graph_model.specs.declared.record.Record.{Record}
use Rattle.core_state.specs.declared.job.Job.{Job}
use Rattle.core_state.specs.declared.job.Job.TheVariants.{Explore, Compute}
use Rattle.core_state.specs.declared.views.Word.{Word}
use Rattle.core_state.specs.declared.views.Word.TheVariants.{Descriptor, Notify}
use Rattle.core_state.proofs.Base.Frame.{SameKeys, SameRecovery, had, has, has_row}
use Rattle.core_state.proofs.Base.MoreRecords.{shown_grows, block_struck_grows, all_closed_grows}

module _ (e : Setting) (s t : Core) where
  -- each word shows the life and the mark that it showed
  abbrev pub SameShown : Type 0
  SameShown = (r : ℕ) (w : Word) → (life_shown w (t.word (spot_of r w)) ≡ life_shown w (s.word (spot_of r w))) × (mark_shown w (t.word (spot_of r w)) ≡ mark_shown w (s.word (spot_of r w)))

  -- each word shows the life that it showed; a mark may come
  abbrev pub SameLives : Type 0
  SameLives = (r : ℕ) (w : Word) → life_shown w (t.word (spot_of r w)) ≡ life_shown w (s.word (spot_of r w))

  pub shown_lives : SameShown → SameLives
  shown_lives sw = λ r w. (sw r w).0

  -- no word loses its mark
  abbrev pub KeptMarks : Type 0
  KeptMarks = (r : ℕ) (w : Word) → mark_shown w (s.word (spot_of r w)) ≡ 1 → mark_shown w (t.word (spot_of r w)) ≡ 1

  -- no record goes
  abbrev pub MoreRecords : Type 0
  MoreRecords = (p : Record → Bool) → many s p ≤ many t p

  -- a row whose words show what they showed
  pub row_lives : (r k n : ℕ) → ((w : Word) → life_shown w (t.word (spot_of r w)) ≡ life_shown w (s.word (spot_of r w))) → t.total (items (is_renew k)) ≡ s.total (items (is_renew k)) → ((l d : ℕ) → t.total (items (is_renew_at k l d)) ≡ s.total (items (is_renew_at k l d)))
      → ((l : ℕ) → 0 < t.total (items (is_suspect k l)) → (0 < l) × (l ≤ standing_life n + replacing n)) → LifeOf e s r k n → LifeOf e t r k n
  row_lives r k n sw renews ats suspects old = record {
    renewing = renews ∙ old.renewing;
    standing = λ z. let st = old.standing z in record { descriptor_life = sw Descriptor ∙ st.descriptor_life; notify_life = λ w low. sw (Notify w) ∙ st.notify_life w low };
    being_replaced = λ z. let st = old.being_replaced z in record {
      done = st.done;
      one_view = ats (standing_life n) st.done ∙ st.one_view;
      at_most = st.at_most;
      done_words = λ w low less. sw (Notify w) ∙ st.done_words w low less;
      other_words = λ w low less. sw (Notify w) ∙ st.other_words w low less;
      descriptor_before = λ z. sw Descriptor ∙ st.descriptor_before z;
      descriptor_after = λ z. sw Descriptor ∙ st.descriptor_after z;
    };
    at_most = old.at_most;
    suspected = suspects;
  }

  pub marked_lives : SameKeys s t → SameRecovery s t → SameLives → ((k : ℕ) → t.total (items (is_renew k)) ≡ s.total (items (is_renew k))) → ((k l d : ℕ) → t.total (items (is_renew_at k l d)) ≡ s.total (items (is_renew_at k l d)))
      → ((r k l : ℕ) → HasKey e s r k → 0 < t.total (items (is_suspect k l)) → (0 < l) × (l ≤ standing_life (s.word (recovery r)) + replacing (s.word (recovery r)))) → Lives e s → Lives e t
  marked_lives kw rw' sw renews ats suspects i = record {
    each = λ r k it. subst (LifeOf e t r k) (sym (rw' r)) (let old = had e s t kw r k it in row_lives r k (s.word (recovery r)) (sw r) (renews k) (ats k) (λ l z. suspects r k l old z) (i.each r k old));
  }

  pub wide_lives : SameKeys s t → SameRecovery s t → SameShown → ((k : ℕ) → t.total (items (is_renew k)) ≡ s.total (items (is_renew k))) → ((k l d : ℕ) → t.total (items (is_renew_at k l d)) ≡ s.total (items (is_renew_at k l d)))
      → ((r k l : ℕ) → HasKey e s r k → 0 < t.total (items (is_suspect k l)) → (0 < l) × (l ≤ standing_life (s.word (recovery r)) + replacing (s.word (recovery r)))) → Lives e s → Lives e t
  wide_lives kw rw' sw = marked_lives kw rw' (shown_lives sw)

  -- each job exists as often as before, no spending is lost, no descriptor shows an earlier life, and the lives that stand stay
  pub jobs_later : SameKeys s t → ((r : ℕ) → life_of (s.word (descriptor r)) ≤ life_of (t.word (descriptor r))) → ((r : ℕ) → standing_life (t.word (recovery r)) ≡ standing_life (s.word (recovery r))) → ((i : Job) (r k l : ℕ) → HasKey e s r k → 0 < l → job_count e t i r k l ≡ job_count e s i r k l)
      → ((i : Job) (k : ℕ) → t.total (owed i k 0) + t.total (held i k 0) + t.total (ended i k 0) ≡ 0) → ((i : Job) (k l : ℕ) → t.total (came i k l) ≤ t.total (begun i k l)) → MoreRecords → Jobs e s → Jobs e t
  jobs_later kw later stands counts zeros comes more i = record {
    explored = λ r k l it some low. counts Explore r k l (had e s t kw r k it) some ∙ i.explored r k l (had e s t kw r k it) some (subst (λ x. l ≤ x) (stands r) low);
    not_explored = λ r k l it less. counts Explore r k l (had e s t kw r k it) (omega (arith, less)) ∙ i.not_explored r k l (had e s t kw r k it) (subst (λ x. x < l) (stands r) less);
    computed = λ r k l it some. let a = counts Compute r k l (had e s t kw r k it) some in let b = i.computed r k l (had e s t kw r k it) some in omega (arith, a, b);
    not_computed = λ r k l it less. counts Compute r k l (had e s t kw r k it) (omega (arith, less)) ∙ i.not_computed r k l (had e s t kw r k it) (let a = later r in omega (arith, a, less));
    some_life = zeros;
    ready = λ r k l j it some z place. let a = counts Compute r k l (had e s t kw r k it) some in let b = i.ready r k l j (had e s t kw r k it) some (omega (arith, a, z)) place in let d = more (is_spent k l j) in omega (arith, b, d);
    came = comes;
  }

  pub wide_jobs : SameKeys s t → SameShown → SameRecovery s t → ((i : Job) (r k l : ℕ) → HasKey e s r k → 0 < l → job_count e t i r k l ≡ job_count e s i r k l)
      → ((i : Job) (k : ℕ) → t.total (owed i k 0) + t.total (held i k 0) + t.total (ended i k 0) ≡ 0) → ((i : Job) (k l : ℕ) → t.total (came i k l) ≤ t.total (begun i k l)) → MoreRecords → Jobs e s → Jobs e t
  wide_jobs kw sw rw' counts zeros comes more i = jobs_later kw (λ r. let a = (sw r Descriptor).0 in omega (arith, a)) (λ r. ap standing_life (rw' r)) counts zeros comes more i

  pub wide_computings : SameKeys s t
      → ((r k l : ℕ) → HasKey e s r k → 0 < l → 0 < t.total (owed Compute k l) + hit (eqb l (t.word (posted Compute r))) + t.total (items (is_unmade k l)) → many s (is_computed k l) ≡ 0)
      → ((r k l : ℕ) → HasKey e s r k → 0 < l → 0 < t.total (owed Compute k l) + hit (eqb l (t.word (posted Compute r))) + t.total (items (is_compute k l)) → many s (is_written k l) ≡ 0)
      → ((k l : ℕ) → 0 < t.total (items (is_made k l)) → 0 < s.total (items (is_made k l))) → ((k l : ℕ) → 0 < t.total (items (is_close k l)) → 0 < s.total (items (is_close k l)))
      → ((k l w : ℕ) → 0 < t.total (items (is_close_from k l w)) → 0 < s.total (items (is_close_from k l w))) → ((k l w : ℕ) → 0 < t.total (items (is_notify k l w)) → 0 < s.total (items (is_notify k l w)))
      → ((k l : ℕ) → 0 < s.total (begun Compute k l) → 0 < t.total (begun Compute k l)) → t.total (items (is_made_early e.graph)) ≡ s.total (items (is_made_early e.graph))
      → ((k l : ℕ) → many t (is_computed k l) ≡ many s (is_computed k l)) → ((k l : ℕ) → many t (is_written k l) ≡ many s (is_written k l)) → ((k l w : ℕ) → many t (is_closed k l w) ≡ many s (is_closed k l w)) → Computings e s → Computings e t
  wide_computings kw unmades computes mades closes froms tells begins early computed written closed i = record {
    each = λ r k l it some. let old_key = had e s t kw r k it in let old = i.each r k l old_key some in record {
      unmade = λ z. computed k l ∙ unmades r k l old_key some z;
      made = λ z. let a = old.made (mades k l z) in let b = computed k l in omega (arith, a, b);
      unwritten = λ z. written k l ∙ computes r k l old_key some z;
      written = λ z. let a = old.written (closes k l z) in let b = written k l in omega (arith, a, b);
      closing = λ w x z. closed k l x ∙ old.closing w x (froms k l w z);
      close_word = λ w z. old.close_word w (froms k l w z);
      notifying = λ w z. let a = old.notifying w (tells k l w z) in let b = closed k l w in omega (arith, a, b);
      begun = λ z. begins k l (old.begun (let a = computed k l in omega (arith, a, z)));
    };
    none_early = early ∙ i.none_early;
  }

  -- of hands that hold what they may not, those for the root alone matter
  pub wide_root_work : ((l : ℕ) → 0 < t.total (items (is_suspect e.graph.root l)) → 0 < s.total (items (is_suspect e.graph.root l))) → ((l : ℕ) → many t (is_replaced e.graph.root l) ≡ many s (is_replaced e.graph.root l))
      → ((l : ℕ) → s.total (ended Compute e.graph.root l) ≤ t.total (ended Compute e.graph.root l)) → ((l : ℕ) → many t (is_computed e.graph.root l) ≡ many s (is_computed e.graph.root l))
      → ((b : ℕ) → t.total (in_wrong_hand b e.graph.root) ≤ s.total (in_wrong_hand b e.graph.root)) → ((b : ℕ) → t.total (in_hand b) ≡ s.total (in_hand b)) → ((b : ℕ) → t.block b ≡ s.block b) → RootWork e s → RootWork e t
  wide_root_work suspects replaced ends computed wrong hands blocks i = let root : ℕ = e.graph.root in let b : ℕ = e.graph.block e.graph.root in record {
    right_hand = let a = wrong b in let d = i.right_hand in omega (arith, a, d);
    unwritten = λ z. ap (λ x. x.tag) (blocks b) ∙ i.unwritten (let a = hands b in omega (arith, a, z));
    given_up = λ l z. let some : 0 < s.total (items (is_suspect root l)) + many s (is_replaced root l) = by l (s.total (items (is_suspect root l))) (t.total (items (is_suspect root l))) (many s (is_replaced root l)) (many t (is_replaced root l)) (suspects l) (replaced l) z in
        let old = i.given_up l some in (let a = ends l in let d = old.0 in omega (arith, a, d), computed l ∙ old.1);
  }
    where
      by : (l a b c d : ℕ) → (0 < b → 0 < a) → d ≡ c → 0 < b + d → 0 < a + c
      by l a (Rattle.std.proofs.Common.zero) c d f same z = omega (arith, same, z)
      by l a (Rattle.std.proofs.Common.suc b) c d f same z = let x = f (omega arith) in omega (arith, x)

  pub wide_root : ((l : ℕ) → 0 < t.total (items (is_suspect e.graph.root l)) → 0 < s.total (items (is_suspect e.graph.root l))) → ((l : ℕ) → many t (is_replaced e.graph.root l) ≡ many s (is_replaced e.graph.root l))
      → ((l : ℕ) → s.total (ended Compute e.graph.root l) ≤ t.total (ended Compute e.graph.root l)) → ((l : ℕ) → many t (is_computed e.graph.root l) ≡ many s (is_computed e.graph.root l))
      → ((b k : ℕ) → t.total (in_wrong_hand b k) ≤ s.total (in_wrong_hand b k)) → ((b : ℕ) → t.total (in_hand b) ≡ s.total (in_hand b)) → ((b : ℕ) → t.block b ≡ s.block b) → RootWork e s → RootWork e t
  wide_root suspects replaced ends computed wrong hands blocks i = wide_root_work suspects replaced ends computed (λ b. wrong b e.graph.root) hands blocks i

  pub wide_causes : MoreRecords → ((k l : ℕ) (c : Cause) → many t (is_replaced_for k l c) ≡ many s (is_replaced_for k l c)) → ((k l : ℕ) (c : Cause) → 0 < t.total (items (is_suspect_for k l c)) → Shown e.graph (many s) (Grounded e.graph (many s)) k l c) → Causes e s → Causes e t
  wide_causes more replaced suspects i = record {
    replaced = record { shown = λ k l c z. shown_grows e.graph (many s) (many t) more k l c (i.replaced.shown k l c (let a = replaced k l c in omega (arith, a, z))) };
    suspected = λ k l c z. shown_grows e.graph (many s) (many t) more k l c (suspects k l c z);
  }

  -- what a strike left at a word stays there, though another mark may come
  pub marked_landed : SameLives → KeptMarks → MoreRecords → (k l r : ℕ) (h : Hit) (w : Word) → ((n : ℕ) → life_shown w n ≡ life_of n) → ((n : ℕ) → mark_shown w n ≡ mark_of n) → Landed e s k l (s.word (spot_of r w)) h → Landed e t k l (t.word (spot_of r w)) h
  marked_landed sw kept more k l r h w lives marks i =
      let a : life_of (t.word (spot_of r w)) ≡ life_of (s.word (spot_of r w)) = sym (lives (t.word (spot_of r w))) ∙ sw r w ∙ lives (s.word (spot_of r w)) in record {
        recorded = let d = more (is_struck_from k l h) in let f = i.recorded in omega (arith, d, f);
        stands = ⊎_elim (λ z. inl (omega (arith, z, a))) (λ z. inr (let y = z.0 in omega (arith, y, a), sym (marks (t.word (spot_of r w))) ∙ kept r w (marks (s.word (spot_of r w)) ∙ z.1))) i.stands;
      }

  pub landed : SameShown → MoreRecords → (k l r : ℕ) (h : Hit) (w : Word) → ((n : ℕ) → life_shown w n ≡ life_of n) → ((n : ℕ) → mark_shown w n ≡ mark_of n) → Landed e s k l (s.word (spot_of r w)) h → Landed e t k l (t.word (spot_of r w)) h
  landed sw more = marked_landed (shown_lives sw) (λ r w z. (sw r w).1 ∙ z) more

  -- what strikes have left at words is a premise
  pub strikes_left : SameKeys s t → ((r k l : ℕ) → Landed e s k l (s.word (descriptor r)) hit_of.Descriptor → Landed e t k l (t.word (descriptor r)) hit_of.Descriptor)
      → ((r w k l : ℕ) → Landed e s k l (s.word (notify r w)) (hit_of.Notify w) → Landed e t k l (t.word (notify r w)) (hit_of.Notify w)) → MoreRecords → ((n : ℕ) → t.total (struck_by n) ≡ s.total (struck_by n)) → ((x : Strike) (n : ℕ) → t.total (struck_idly x n) ≤ s.total (struck_idly x n))
      → ((k l : ℕ) (h : Hit) → t.total (struck_upto e.plan k l h) ≡ s.total (struck_upto e.plan k l h)) → ((k l : ℕ) (h : Hit) → many t (is_struck_upto k l h) ≡ many s (is_struck_upto k l h)) → Strikes e s → Strikes e t
  strikes_left kw on_descriptors on_words more by idly upto struck i = record {
    each = λ n low. let old = i.each n low in let x : Strike = e.plan.strike n in let made : 0 < t.total (struck_by n) → 0 < s.total (struck_by n) = (λ z. let a = by n in omega (arith, a, z)) in record {
      once = let a = by n in let b = old.once in omega (arith, a, b);
      by_its_job = let a = idly x n in let b = old.by_its_job in omega (arith, a, b);
      has_word = λ z. old.has_word (made z);
      on_descriptor = λ r it z on. on_descriptors r x.key.0 x.life (old.on_descriptor r (had e s t kw r x.key.0 it) (made z) on);
      on_notify = λ r w it z on. on_words r w x.key.0 x.life (old.on_notify r w (had e s t kw r x.key.0 it) (made z) on);
      on_block = λ z on at. block_struck_grows e.graph (many s) (many t) more e.plan x.key.0 (old.on_block (made z) on at);
    };
    planned = λ n low. by n ∙ i.planned n low;
    few = λ k l h. let a = struck k l h in let b = upto k l h in let c = i.few k l h in omega (arith, a, b, c);
  }

  pub wide_strikes : SameKeys s t → SameShown → MoreRecords → ((n : ℕ) → t.total (struck_by n) ≡ s.total (struck_by n)) → ((x : Strike) (n : ℕ) → t.total (struck_idly x n) ≤ s.total (struck_idly x n))
      → ((k l : ℕ) (h : Hit) → t.total (struck_upto e.plan k l h) ≡ s.total (struck_upto e.plan k l h)) → ((k l : ℕ) (h : Hit) → many t (is_struck_upto k l h) ≡ many s (is_struck_upto k l h)) → Strikes e s → Strikes e t
  wide_strikes kw sw more by idly upto struck i = strikes_left kw (λ r k l z. landed sw more k l r hit_of.Descriptor Descriptor (λ m. Rattle.std.proofs.Common.refl) (λ m. Rattle.std.proofs.Common.refl) z) (λ r w k l z. landed sw more k l r (hit_of.Notify w) (Notify w) (λ m. Rattle.std.proofs.Common.refl) (λ m. Rattle.std.proofs.Common.refl) z) more by idly upto struck i

  -- a word that was seen closed may have been closed by this very step
  pub wide_facts_now : SameKeys s t → SameShown
      → ((r k l : ℕ) (w : Word) → HasKey e s r k → 0 < t.total (facts (is_seen_life k w l)) → l ≤ life_shown w (s.word (spot_of r w)))
      → ((r k l : ℕ) (w : Word) → HasKey e s r k → 0 < t.total (facts (is_seen_mark k w l)) → (l < life_shown w (s.word (spot_of r w))) ⊎ ((l ≡ life_shown w (s.word (spot_of r w))) × (mark_shown w (s.word (spot_of r w)) ≡ 1)))
      → ((k l : ℕ) (w : Word) → 0 < t.total (facts (is_seen_life k w l)) → HasRow e s k) → ((k l : ℕ) (w : Word) → 0 < t.total (facts (is_seen_mark k w l)) → HasRow e s k)
      → ((k l w : ℕ) → 0 < t.total (facts (is_seen_closed k l w)) → 0 < many t (is_closed k l w))
      → (0 < t.total (facts is_idle) → t.word pending ≡ 0) → (0 < t.total (facts is_stopped) → t.word stop ≡ 1) → t.word stop ≡ min 1 (t.total (facts is_stops)) → Facts e t
  wide_facts_now kw sw lifes marks rows markeds closes idle halted sets = record {
    idle = idle;
    stopped = halted;
    stops = sets;
    closed = closes;
    row_of_life = λ k l w z. has_row e s t kw k (rows k l w z);
    row_of_mark = λ k l w z. has_row e s t kw k (markeds k l w z);
    life = λ r k l w it z. subst (λ x. l ≤ x) (sym (sw r w).0) (lifes r k l w (had e s t kw r k it) z);
    mark = λ r k l w it z. ⊎_elim (λ y. inl (subst (λ x. l < x) (sym (sw r w).0) y)) (λ y. inr (y.0 ∙ sym (sw r w).0, (sw r w).1 ∙ y.1)) (marks r k l w (had e s t kw r k it) z);
  }

  pub wide_facts : SameKeys s t → SameShown → MoreRecords
      → ((r k l : ℕ) (w : Word) → HasKey e s r k → 0 < t.total (facts (is_seen_life k w l)) → l ≤ life_shown w (s.word (spot_of r w)))
      → ((r k l : ℕ) (w : Word) → HasKey e s r k → 0 < t.total (facts (is_seen_mark k w l)) → (l < life_shown w (s.word (spot_of r w))) ⊎ ((l ≡ life_shown w (s.word (spot_of r w))) × (mark_shown w (s.word (spot_of r w)) ≡ 1)))
      → ((k l : ℕ) (w : Word) → 0 < t.total (facts (is_seen_life k w l)) → HasRow e s k) → ((k l : ℕ) (w : Word) → 0 < t.total (facts (is_seen_mark k w l)) → HasRow e s k)
      → ((k l w : ℕ) → 0 < t.total (facts (is_seen_closed k l w)) → 0 < many s (is_closed k l w))
      → (0 < t.total (facts is_idle) → t.word pending ≡ 0) → (0 < t.total (facts is_stopped) → t.word stop ≡ 1) → t.word stop ≡ min 1 (t.total (facts is_stops)) → Facts e t
  wide_facts kw sw more lifes marks rows markeds closes idle halted sets = wide_facts_now kw sw lifes marks rows markeds (λ k l w z. let a = closes k l w z in let b = more (is_closed k l w) in omega (arith, a, b)) idle halted sets

  -- a block of which no version was written now
  pub wide_holds : MoreRecords → (b : ℕ) → ((v : ℕ) → many t (is_version b v) ≡ many s (is_version b v)) → (y : BlockCells) → Holds e s b y → Holds e t b y
  wide_holds more b versions y h = record {
    good = h.good;
    written = λ z. let a = h.written z in let d = more (is_version b y.tag) in omega (arith, a, d);
    struck = λ z. let a = h.struck z in (a.0, let f = a.1 in let d = more (is_struck_version b y.tag) in omega (arith, f, d));
    twice = λ z less some. let a = h.twice z less (let d = versions z in omega (arith, d, some)) in let d = more (is_version b y.tag) in omega (arith, a, d);
    root = h.root;
  }

  -- no version is written, and no hand takes or gives
  pub wide_blocks : ((b : ℕ) → t.word (turn b) ≡ s.word (turn b)) → ((b : ℕ) → t.total (in_hand b) ≡ s.total (in_hand b)) → MoreRecords → ((b v : ℕ) → many t (is_version b v) ≡ many s (is_version b v)) → ((b : ℕ) → t.block b ≡ s.block b) → Blocks e s → Blocks e t
  wide_blocks turns hands more versions blocks i = record {
    each = λ b low. let o = i.each b low in record {
      taken = turns b ∙ o.taken ∙ sym (hands b);
      once = let a = o.once in let d = hands b in omega (arith, a, d);
      holds = subst (Holds e t b) (sym (blocks b)) (wide_holds more b (versions b) (s.block b) o.holds);
    };
  }

  pub marked_needs : SameKeys s t → SameLives → SameRecovery s t → ((k l j : ℕ) → many t (is_spent k l j) ≡ 0 → many s (is_spent k l j) ≡ 0) → (r k l j : ℕ) → Needs e t r k l j → Needs e s r k l j
  marked_needs kw sw rw' spent r k l j i = record {
    has_key = had e s t kw r k i.has_key;
    stands = ap replacing (sym (rw' r)) ∙ i.stands;
    life_stands = ap standing_life (sym (rw' r)) ∙ i.life_stands;
    life_shown = sym (sw r Descriptor) ∙ i.life_shown;
    unspent = spent k l j i.unspent;
  }

  pub wide_needs : SameKeys s t → SameShown → SameRecovery s t → ((k l j : ℕ) → many t (is_spent k l j) ≡ 0 → many s (is_spent k l j) ≡ 0) → (r k l j : ℕ) → Needs e t r k l j → Needs e s r k l j
  wide_needs kw sw = marked_needs kw (shown_lives sw)

  pub marked_waiting : SameKeys s t → SameLives → ((k l w : ℕ) → many s (is_closed k l w) ≡ 0 → many t (is_closed k l w) ≡ 0) → ((k l q : ℕ) → 0 < s.total (waits k l q) → 0 < t.total (waits k l q)) → (p q : ℕ) → Waiting e s p q → Waiting e t p q
  marked_waiting kw sw opens ws p q i = let life = sw i.row (Notify (q / 40)) in record {
    row = i.row;
    has_key = has e s t kw i.row p i.has_key;
    waits_there = subst (λ n. 0 < t.total (waits p n q)) (sym life) (ws p (life_of (s.word (notify i.row (q / 40)))) q i.waits_there);
    open_word = subst (λ n. many t (is_closed p n (q / 40)) ≡ 0) (sym life) (opens p (life_of (s.word (notify i.row (q / 40)))) (q / 40) i.open_word);
  }

  pub wide_waiting : SameKeys s t → SameShown → ((k l w : ℕ) → many s (is_closed k l w) ≡ 0 → many t (is_closed k l w) ≡ 0) → ((k l q : ℕ) → 0 < s.total (waits k l q) → 0 < t.total (waits k l q)) → (p q : ℕ) → Waiting e s p q → Waiting e t p q
  wide_waiting kw sw = marked_waiting kw (shown_lives sw)

  -- what covers a place may rise
  pub marked_cover : SameKeys s t → SameLives → SameRecovery s t → ((k l j : ℕ) → many t (is_spent k l j) ≡ 0 → many s (is_spent k l j) ≡ 0) → ((k l w : ℕ) → many s (is_closed k l w) ≡ 0 → many t (is_closed k l w) ≡ 0)
      → ((k l q : ℕ) → 0 < s.total (waits k l q) → 0 < t.total (waits k l q))
      → ((r k l j : ℕ) → HasKey e s r k → 0 < l → s.total (covers_self k l j) + hit (eqb l (s.word (posted Explore r))) ≤ t.total (covers_self k l j) + hit (eqb l (t.word (posted Explore r))))
      → ((p q : ℕ) → s.total (covers_edge p q) ≤ t.total (covers_edge p q)) → Cover e s → Cover e t
  marked_cover kw sw rw' spent opens ws selfs edges i = record {
    places = λ r k l j needs low. let old = marked_needs kw sw rw' spent r k l j needs in let x : Edge = e.graph.pred k j in let a = selfs r k l j old.has_key (let y = old.life_stands in omega (arith, y)) in let b = edges x.task x.port in
        ⊎_elim (λ z. inl (omega (arith, z, a, b))) (λ z. inr (marked_waiting kw sw opens ws x.task x.port z)) (i.places r k l j old low);
    self_place = λ r k l needs. let old = marked_needs kw sw rw' spent r k l 40 needs in let a = selfs r k l 40 old.has_key (let y = old.life_stands in omega (arith, y)) in let z = i.self_place r k l old in omega (arith, z, a);
  }

  pub wide_cover : SameKeys s t → SameShown → SameRecovery s t → ((k l j : ℕ) → many t (is_spent k l j) ≡ 0 → many s (is_spent k l j) ≡ 0) → ((k l w : ℕ) → many s (is_closed k l w) ≡ 0 → many t (is_closed k l w) ≡ 0)
      → ((k l q : ℕ) → 0 < s.total (waits k l q) → 0 < t.total (waits k l q))
      → ((r k l j : ℕ) → HasKey e s r k → 0 < l → s.total (covers_self k l j) + hit (eqb l (s.word (posted Explore r))) ≤ t.total (covers_self k l j) + hit (eqb l (t.word (posted Explore r))))
      → ((p q : ℕ) → s.total (covers_edge p q) ≤ t.total (covers_edge p q)) → Cover e s → Cover e t
  wide_cover kw sw = marked_cover kw (shown_lives sw)

  pub marked_activity : SameKeys s t → SameLives → MoreRecords → ((k l j : ℕ) → 0 < many t (is_spent k l j) → 0 < many s (is_spent k l j))
      → ((r k l : ℕ) → HasKey e s r k → 0 < l → s.total (works k l) + hit (eqb l (s.word (posted Compute r))) ≤ t.total (works k l) + hit (eqb l (t.word (posted Compute r)))) → Activity e s → Activity e t
  marked_activity kw sw more spent rises i = record {
    each = λ r k it all. let life = sw r Descriptor in let old = had e s t kw r k it in
        subst (λ l. (0 < t.total (works k l) + hit (eqb l (t.word (posted Compute r)))) ⊎ AllClosed e.graph e.plan (many t) k l) (sym life) (let l : ℕ = life_of (s.word (descriptor r)) in
        ⊎_elim (λ z. inl (let a = rises r k l old (omega arith) in omega (arith, z, a))) (λ z. inr (all_closed_grows e.graph (many s) (many t) more e.plan k l z))
        (i.each r k old (λ j place. spent k l j (subst (λ n. 0 < many t (is_spent k n j)) life (all j place)))));
  }

  pub wide_activity : SameKeys s t → SameShown → MoreRecords → ((k l j : ℕ) → 0 < many t (is_spent k l j) → 0 < many s (is_spent k l j))
      → ((r k l : ℕ) → HasKey e s r k → 0 < l → s.total (works k l) + hit (eqb l (s.word (posted Compute r))) ≤ t.total (works k l) + hit (eqb l (t.word (posted Compute r)))) → Activity e s → Activity e t
  wide_activity kw sw = marked_activity kw (shown_lives sw)

  pub wide_no_fault : SameKeys s t → SameRecovery s t → MoreRecords → (many s is_any_struck ≡ 0 → Faultless e s → t.total (items is_any_suspect) ≡ 0) → ((b v : ℕ) → many t (is_version b v) ≡ many s (is_version b v)) → ((b : ℕ) → t.block b ≡ s.block b) → NoFault e s → NoFault e t
  wide_no_fault kw rw' more suspects versions blocks i = record {
    faultless = λ z. let unstruck : many s is_any_struck ≡ 0 = (let a = more is_any_struck in omega (arith, a, z)) in let old : Faultless e s = i.faultless unstruck in record {
      first_life = λ r k it. rw' r ∙ old.first_life r k (had e s t kw r k it);
      none_suspected = suspects unstruck old;
      newest = λ b u low some. subst (λ x. u ≤ x.tag) (sym (blocks b)) (old.newest b u low (let a = versions b u in omega (arith, a, some)));
      readers_first = λ b u k some wrote reads not_root other. let a = old.readers_first b u k some (let d = versions b (u + 1) in omega (arith, d, wrote)) reads not_root other in let f = more (is_writing k) in omega (arith, a, f);
    };
  }
