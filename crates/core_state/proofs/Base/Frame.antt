-- What a step leaves alone: a part of the invariant whose words and whose counts stay. The premises name fields of the views: all counts of items, of records, and so on.
use Rattle.std.proofs.Common.{◌≡◌, ◌⊎◌, ℕ, zero, suc, ◌+◌, ◌*◌, ◌%◌, ◌/◌, ◌≤◌, ◌<◌, Bool, min, eqb, nat_lt, ◌&&◌, ⊎_elim, inl, inr, arith, sym, ap, refl, ◌∙◌, subst}
use Rattle.core_state.specs.Graph.{Edge, Setting}
use Rattle.graph_model.specs.declared.plan.Strike.{Strike}
use Rattle.core_state.specs.Words.{Spot, pending, stop, key, descriptor, notify, recovery, posted, turn, spot_of, life_of, standing_life, replacing}
use Rattle.core_state.specs.Counts.{hit, items, ended, held, owed, begun, came, facts, knows_row, waits, in_hand, in_wrong_hand, struck_by, struck_idly, struck_upto}
use Rattle.core_state.specs.Tests.{is_at, notifies, suspects_block, is_suspect, is_suspect_for, is_renew, is_renew_at, is_row, is_seen_life, is_seen_mark, is_seen_closed, is_idle, is_stopped, is_stops, waits_at, is_created, is_spent, is_closed, is_struck, is_replaced, is_of, is_struck_upto, is_version, is_made, is_unmade, is_compute, is_close, is_close_from, is_notify, is_computed, is_written, is_loaded, is_any_struck, is_any_suspect, is_writing}
use Rattle.core_state.specs.Change.{Core, many}
use Rattle.core_state.specs.Laws.{IsPlace, SpentOnce, ComputedOnce, LivesNamed, SpentByEdge, CausesShown, Shown, Grounded, AllClosed, BlockStruck}
use Rattle.core_state.specs.Rows.{HasKey, HasRow, Keys, Empty, Standing, Replacing, LifeOf, Lives, Shows, Lists, Content, Facts}
use Rattle.core_state.specs.Work.{job_count, posted_count, Jobs, Computings, RootWork, is_made_early}
use Rattle.core_state.specs.Blocks.{Holds, Blocks}
use Rattle.core_state.specs.Records.{Records, Causes, Landed, Strikes}
use Rattle.core_state.specs.Cover.{covers_self, covers_edge, works, Needs, Waiting, Cover, Activity, Faultless, NoFault}
use Rattle.graph_model.specs.declared.record.Hit.{Hit}
use Rattle.graph_model.specs.declared.record.Hit.TheVariants as hit_of
use Rattle.core_state.specs.declared.views.Item.{Item}
use Rattle.core_state.specs.declared.job.Job.{Job}
use Rattle.core_state.specs.declared.job.Job.TheVariants.{Explore, Compute}
use Rattle.graph_model.specs.declared.record.Record.{Record}
use Rattle.core_state.specs.declared.views.Word.{Word}

-- the counts of a field that stay
abbrev pub SameItems : Core → Core → Type 0
SameItems s t = (p : Item → Bool) → t.total (items p) ≡ s.total (items p)

abbrev pub SameRecords : Core → Core → Type 0
SameRecords s t = (p : Record → Bool) → many t p ≡ many s p

abbrev pub SameEnded : Core → Core → Type 0
SameEnded s t = (i : Job) (k l : ℕ) → t.total (ended i k l) ≡ s.total (ended i k l)

abbrev pub SameBegun : Core → Core → Type 0
SameBegun s t = (i : Job) (k l : ℕ) → t.total (begun i k l) ≡ s.total (begun i k l)

abbrev pub SameWaits : Core → Core → Type 0
SameWaits s t = (k l q : ℕ) → t.total (waits k l q) ≡ s.total (waits k l q)

abbrev pub SameKeys : Core → Core → Type 0
SameKeys s t = (r : ℕ) → t.word (key r) ≡ s.word (key r)

abbrev pub SameDescriptors : Core → Core → Type 0
SameDescriptors s t = (r : ℕ) → t.word (descriptor r) ≡ s.word (descriptor r)

abbrev pub SameNotify : Core → Core → Type 0
SameNotify s t = (r w : ℕ) → t.word (notify r w) ≡ s.word (notify r w)

abbrev pub SameRecovery : Core → Core → Type 0
SameRecovery s t = (r : ℕ) → t.word (recovery r) ≡ s.word (recovery r)

abbrev pub SamePosted : Core → Core → Type 0
SamePosted s t = (i : Job) (r : ℕ) → t.word (posted i r) ≡ s.word (posted i r)

-- what `Activity` says of one row
abbrev pub ActiveAt : Setting → Core → ℕ → ℕ → Type 0
ActiveAt e s r k = ((j : ℕ) → IsPlace e.graph k j → 0 < many s (is_spent k (life_of (s.word (descriptor r))) j))
    → (0 < s.total (works k (life_of (s.word (descriptor r)))) + hit (eqb (life_of (s.word (descriptor r))) (s.word (posted Compute r)))) ⊎ AllClosed e.graph e.plan (many s) k (life_of (s.word (descriptor r)))

pub was : (a b : ℕ) → a ≡ b → 0 < a → 0 < b
was a b e z = omega (arith, e, z)

pub all_same : (s t : Core) → SameRecords s t → many t ≡ many s
all_same s t same = λ i p. same p i

-- no job word of the first n rows changes
pub posted_same : (p q : Spot → ℕ) (n : ℕ) → ((i : Job) (r : ℕ) → q (posted i r) ≡ p (posted i r)) → posted_count q n ≡ posted_count p n
posted_same p q zero e = refl
posted_same p q (suc n) e = let a = posted_same p q n e in let b = e Explore n in let c = e Compute n in omega (arith, a, b, c)

module _ (e : Setting) (s t : Core) where
  pub had : SameKeys s t → (r k : ℕ) → HasKey e t r k → HasKey e s r k
  had kw r k has = (has.0, sym (kw r) ∙ has.1)

  pub has : SameKeys s t → (r k : ℕ) → HasKey e s r k → HasKey e t r k
  has kw r k it = (it.0, kw r ∙ it.1)

  pub has_row : SameKeys s t → (k : ℕ) → HasRow e s k → HasRow e t k
  has_row kw k it = (it.0, has kw it.0 k it.1)

  -- no key word changes; what names a key in the new state names one that has a row
  pub keys_stay : SameKeys s t → ((r k : ℕ) → 0 < t.total (knows_row r k) → HasKey e s r k) → ((k : ℕ) → 0 < t.total (items (is_at k)) → HasRow e s k) → ((i : Job) (k l : ℕ) → 0 < t.total (ended i k l) → HasRow e s k)
      → ((p l q : ℕ) → 0 < t.total (waits p l q) → (q < e.graph.ports p) × HasRow e s p × HasRow e s (e.graph.succ p q).task) → ((p q : ℕ) → 0 < t.total (items (notifies p q)) → (q < e.graph.ports p) × HasRow e s (e.graph.succ p q).task)
      → ((b v : ℕ) → 0 < t.total (items (suspects_block b v)) → HasRow e s (e.graph.writer b v)) → ((k : ℕ) → many t (is_created k) ≡ many s (is_created k)) → Keys e s → Keys e t
  keys_stay kw rows its ends ws tells causes recs i = record {
    known = λ r k z. has kw r k (rows r k z);
    one_row = λ r u k a b. i.one_row r u k (had kw r k a) (had kw u k b);
    path = λ r k d x it low at less. was (s.word (key ((k + x) % e.shape.rows))) (t.word (key ((k + x) % e.shape.rows))) (sym (kw ((k + x) % e.shape.rows))) (i.path r k d x (had kw r k it) low at less);
    of_item = λ k z. has_row kw k (its k z);
    of_ended = λ j k l z. has_row kw k (ends j k l z);
    of_waiting = λ p l q z. let a = ws p l q z in (a.0, has_row kw p a.1, has_row kw (e.graph.succ p q).task a.2);
    of_notify = λ p q z. let a = tells p q z in (a.0, has_row kw (e.graph.succ p q).task a.1);
    of_cause = λ b v z. has_row kw (e.graph.writer b v) (causes b v z);
    of_root = has_row kw e.graph.root i.of_root;
    created = λ r k it. recs k ∙ i.created r k (had kw r k it);
    of_created = λ k z. has_row kw k (i.of_created k (was (many t (is_created k)) (many s (is_created k)) (recs k) z));
    reached = λ r k it. i.reached r k (had kw r k it);
  }

  pub frame_keys : SameKeys s t → ((r k : ℕ) → t.total (knows_row r k) ≡ s.total (knows_row r k)) → SameItems s t → SameEnded s t → SameWaits s t → SameRecords s t → Keys e s → Keys e t
  frame_keys kw rows its ends ws recs i = keys_stay kw (λ r k z. i.known r k (was (t.total (knows_row r k)) (s.total (knows_row r k)) (rows r k) z)) (λ k z. i.of_item k (was (t.total (items (is_at k))) (s.total (items (is_at k))) (its (is_at k)) z))
      (λ j k l z. i.of_ended j k l (was (t.total (ended j k l)) (s.total (ended j k l)) (ends j k l) z)) (λ p l q z. i.of_waiting p l q (was (t.total (waits p l q)) (s.total (waits p l q)) (ws p l q) z))
      (λ p q z. i.of_notify p q (was (t.total (items (notifies p q))) (s.total (items (notifies p q))) (its (notifies p q)) z)) (λ b v z. i.of_cause b v (was (t.total (items (suspects_block b v))) (s.total (items (suspects_block b v))) (its (suspects_block b v)) z))
      (λ k. recs (is_created k)) i

  pub frame_empty : SameKeys s t → SameDescriptors s t → SameNotify s t → SameRecovery s t → SamePosted s t → Empty e s → Empty e t
  frame_empty kw dw nw rw jw i = record {
    no_descriptor = λ r z. dw r ∙ i.no_descriptor r (sym (kw r) ∙ z);
    no_notify = λ r w z. nw r w ∙ i.no_notify r w (sym (kw r) ∙ z);
    no_recovery = λ r z. rw r ∙ i.no_recovery r (sym (kw r) ∙ z);
    no_job = λ j r z. jw j r ∙ i.no_job j r (sym (kw r) ∙ z);
    beyond = λ r k w it low. nw r w ∙ i.beyond r k w (had kw r k it) low;
  }

  same_standing : SameDescriptors s t → SameNotify s t → (r k l : ℕ) → Standing e s r k l → Standing e t r k l
  same_standing dw nw r k l i = record { descriptor_life = ap life_of (dw r) ∙ i.descriptor_life; notify_life = λ w low. ap life_of (nw r w) ∙ i.notify_life w low }

  same_replacing : SameDescriptors s t → SameNotify s t → SameItems s t → (r k l : ℕ) → Replacing e s r k l → Replacing e t r k l
  same_replacing dw nw its r k l i = record {
    done = i.done;
    one_view = its (is_renew_at k l i.done) ∙ i.one_view;
    at_most = i.at_most;
    done_words = λ w low less. ap life_of (nw r w) ∙ i.done_words w low less;
    other_words = λ w low less. ap life_of (nw r w) ∙ i.other_words w low less;
    descriptor_before = λ z. ap life_of (dw r) ∙ i.descriptor_before z;
    descriptor_after = λ z. ap life_of (dw r) ∙ i.descriptor_after z;
  }

  pub frame_lives : SameKeys s t → SameDescriptors s t → SameNotify s t → SameRecovery s t → SameItems s t → Lives e s → Lives e t
  frame_lives kw dw nw rw' its i = record {
    each = λ r k it. subst (LifeOf e t r k) (sym (rw' r)) (let old = i.each r k (had kw r k it) in record {
      renewing = its (is_renew k) ∙ old.renewing;
      standing = λ z. same_standing dw nw r k (standing_life (s.word (recovery r))) (old.standing z);
      being_replaced = λ z. same_replacing dw nw its r k (standing_life (s.word (recovery r))) (old.being_replaced z);
      at_most = old.at_most;
      suspected = λ l z. old.suspected l (was (t.total (items (is_suspect k l))) (s.total (items (is_suspect k l))) (its (is_suspect k l)) z);
    });
  }

  pub same_shows : SameRecords s t → (k n : ℕ) → Shows e s k n → Shows e t k n
  same_shows recs k n i = record {
    other_bits = i.other_bits;
    spent = λ z j low. i.spent z j low ∙ sym (recs (is_spent k (life_of n) j));
    struck = λ z. was (many s (is_struck k (life_of n) hit_of.Descriptor)) (many t (is_struck k (life_of n) hit_of.Descriptor)) (sym (recs (is_struck k (life_of n) hit_of.Descriptor))) (i.struck z);
    root = i.root;
    spent_later = λ l j less. recs (is_spent k l j) ∙ i.spent_later l j less;
    struck_later = λ l less. recs (is_struck k l hit_of.Descriptor) ∙ i.struck_later l less;
  }

  pub same_lists : SameRecords s t → SameWaits s t → (p w n : ℕ) → Lists e s p w n → Lists e t p w n
  same_lists recs ws p w n i = record {
    other_bits = i.other_bits;
    closing = λ z. i.closing z ∙ sym (recs (is_closed p (life_of n) w));
    waiting = λ z o b low. i.waiting z o b low ∙ ap (min 1) (sym (ws p (life_of n) (40 * w + b)));
    registered = λ z b low some. i.registered z b low (was (t.total (waits p (life_of n) (40 * w + b))) (s.total (waits p (life_of n) (40 * w + b))) (ws p (life_of n) (40 * w + b)) some);
    struck = λ z. was (many s (is_struck p (life_of n) (hit_of.Notify w))) (many t (is_struck p (life_of n) (hit_of.Notify w))) (sym (recs (is_struck p (life_of n) (hit_of.Notify w)))) (i.struck z);
    root = i.root;
    closed_later = λ l less. recs (is_closed p l w) ∙ i.closed_later l less;
    waiting_later = λ l b less low. ws p l (40 * w + b) ∙ i.waiting_later l b less low;
    struck_later = λ l less. recs (is_struck p l (hit_of.Notify w)) ∙ i.struck_later l less;
  }

  pub frame_content : SameKeys s t → SameDescriptors s t → SameNotify s t → SameRecords s t → SameWaits s t → Content e s → Content e t
  frame_content kw dw nw recs ws i = record {
    descriptors = λ r k it. subst (Shows e t k) (sym (dw r)) (same_shows recs k (s.word (descriptor r)) (i.descriptors r k (had kw r k it)));
    notify_words = λ r k w it low. subst (Lists e t k w) (sym (nw r w)) (same_lists recs ws k w (s.word (notify r w)) (i.notify_words r k w (had kw r k it) low));
  }

  same_count : SameItems s t → SameEnded s t → SamePosted s t → (i : Job) (r k l : ℕ) → job_count e t i r k l ≡ job_count e s i r k l
  same_count its ends pw i r k l = let a : t.total (owed i k l) ≡ s.total (owed i k l) = its (Rattle.core_state.specs.Tests.is_owed i k l) in let b : t.total (held i k l) ≡ s.total (held i k l) = its (Rattle.core_state.specs.Tests.carries i k l) in
      let d = ends i k l in let x = ap (λ z. hit (eqb l z)) (pw i r) in omega (arith, a, b, d, x)

  pub frame_jobs : SameKeys s t → SameDescriptors s t → SameRecovery s t → SamePosted s t → SameItems s t → SameEnded s t → SameBegun s t → SameRecords s t → ((i : Job) (k l : ℕ) → t.total (came i k l) ≤ s.total (came i k l)) → Jobs e s → Jobs e t
  frame_jobs kw dw rw' pw its ends begins recs comes i = record {
    explored = λ r k l it some low. same_count its ends pw Explore r k l ∙ i.explored r k l (had kw r k it) some (subst (λ x. l ≤ standing_life x) (rw' r) low);
    not_explored = λ r k l it less. same_count its ends pw Explore r k l ∙ i.not_explored r k l (had kw r k it) (subst (λ x. standing_life x < l) (rw' r) less);
    computed = λ r k l it some. let a = same_count its ends pw Compute r k l in let b = i.computed r k l (had kw r k it) some in omega (arith, a, b);
    not_computed = λ r k l it less. same_count its ends pw Compute r k l ∙ i.not_computed r k l (had kw r k it) (subst (λ x. life_of x < l) (dw r) less);
    some_life = λ j k. let a : t.total (owed j k 0) ≡ s.total (owed j k 0) = its (Rattle.core_state.specs.Tests.is_owed j k 0) in let b : t.total (held j k 0) ≡ s.total (held j k 0) = its (Rattle.core_state.specs.Tests.carries j k 0) in
        let d = ends j k 0 in let x = i.some_life j k in omega (arith, a, b, d, x);
    ready = λ r k l j it some z place. was (many s (is_spent k l j)) (many t (is_spent k l j)) (sym (recs (is_spent k l j))) (i.ready r k l j (had kw r k it) some (was (job_count e t Compute r k l) (job_count e s Compute r k l) (same_count its ends pw Compute r k l) z) place);
    came = λ j k l. let a = comes j k l in let b = begins j k l in let x = i.came j k l in omega (arith, a, b, x);
  }

  same_before : SameItems s t → SamePosted s t → (p : Item → Bool) (r k l : ℕ) → 0 < t.total (owed Compute k l) + hit (eqb l (t.word (posted Compute r))) + t.total (items p) → 0 < s.total (owed Compute k l) + hit (eqb l (s.word (posted Compute r))) + s.total (items p)
  same_before its pw p r k l z = let a : t.total (owed Compute k l) ≡ s.total (owed Compute k l) = its (Rattle.core_state.specs.Tests.is_owed Compute k l) in let b = its p in let x = ap (λ y. hit (eqb l y)) (pw Compute r) in omega (arith, a, b, x, z)

  pub frame_computings : SameKeys s t → SamePosted s t → SameItems s t → SameBegun s t → SameRecords s t → Computings e s → Computings e t
  frame_computings kw pw its begins recs i = record {
    each = λ r k l it some. let old = i.each r k l (had kw r k it) some in record {
      unmade = λ z. recs (is_computed k l) ∙ old.unmade (same_before its pw (is_unmade k l) r k l z);
      made = λ z. was (many s (is_computed k l)) (many t (is_computed k l)) (sym (recs (is_computed k l))) (old.made (was (t.total (items (is_made k l))) (s.total (items (is_made k l))) (its (is_made k l)) z));
      unwritten = λ z. recs (is_written k l) ∙ old.unwritten (same_before its pw (is_compute k l) r k l z);
      written = λ z. was (many s (is_written k l)) (many t (is_written k l)) (sym (recs (is_written k l))) (old.written (was (t.total (items (is_close k l))) (s.total (items (is_close k l))) (its (is_close k l)) z));
      closing = λ w x z. recs (is_closed k l x) ∙ old.closing w x (was (t.total (items (is_close_from k l w))) (s.total (items (is_close_from k l w))) (its (is_close_from k l w)) z);
      close_word = λ w z. old.close_word w (was (t.total (items (is_close_from k l w))) (s.total (items (is_close_from k l w))) (its (is_close_from k l w)) z);
      notifying = λ w z. was (many s (is_closed k l w)) (many t (is_closed k l w)) (sym (recs (is_closed k l w))) (old.notifying w (was (t.total (items (is_notify k l w))) (s.total (items (is_notify k l w))) (its (is_notify k l w)) z));
      begun = λ z. was (s.total (begun Compute k l)) (t.total (begun Compute k l)) (sym (begins Compute k l)) (old.begun (was (many t (is_computed k l)) (many s (is_computed k l)) (recs (is_computed k l)) z));
    };
    none_early = its (is_made_early e.graph) ∙ i.none_early;
  }

  pub frame_root : SameItems s t → SameEnded s t → SameRecords s t → ((b k : ℕ) → t.total (in_wrong_hand b k) ≡ s.total (in_wrong_hand b k)) → ((b : ℕ) → t.total (in_hand b) ≡ s.total (in_hand b)) → ((b : ℕ) → t.block b ≡ s.block b) → RootWork e s → RootWork e t
  frame_root its ends recs wrong hands blocks i = let root : ℕ = e.graph.root in let b : ℕ = e.graph.block e.graph.root in record {
    right_hand = wrong b root ∙ i.right_hand;
    unwritten = λ z. ap (λ x. x.tag) (blocks b) ∙ i.unwritten (was (t.total (in_hand b)) (s.total (in_hand b)) (hands b) z);
    given_up = λ l z. let old = i.given_up l (let a = its (is_suspect root l) in let d = recs (is_replaced root l) in omega (arith, a, d, z)) in (was (s.total (ended Compute root l)) (t.total (ended Compute root l)) (sym (ends Compute root l)) old.0, recs (is_computed root l) ∙ old.1);
  }

  pub same_holds : SameRecords s t → (b : ℕ) (x : Rattle.core_state.specs.declared.block.BlockCells.BlockCells) → Holds e s b x → Holds e t b x
  same_holds recs b x i = record {
    good = i.good;
    written = λ z. was (many s (is_version b x.tag)) (many t (is_version b x.tag)) (sym (recs (is_version b x.tag))) (i.written z);
    struck = λ z. let old = i.struck z in (old.0, was (many s (Rattle.core_state.specs.Tests.is_struck_version b x.tag)) (many t (Rattle.core_state.specs.Tests.is_struck_version b x.tag)) (sym (recs (Rattle.core_state.specs.Tests.is_struck_version b x.tag))) old.1);
    twice = λ u less z. let a = recs (is_version b x.tag) in let d = i.twice u less (was (many t (is_version b u)) (many s (is_version b u)) (recs (is_version b u)) z) in omega (arith, a, d);
    root = i.root;
  }

  pub frame_blocks : ((b : ℕ) → t.word (turn b) ≡ s.word (turn b)) → ((b : ℕ) → t.total (in_hand b) ≡ s.total (in_hand b)) → SameRecords s t → ((b : ℕ) → t.block b ≡ s.block b) → Blocks e s → Blocks e t
  frame_blocks tw hands recs blocks i = record {
    each = λ b low. let old = i.each b low in record {
      taken = tw b ∙ old.taken ∙ sym (hands b);
      once = let a = hands b in let d = old.once in omega (arith, a, d);
      holds = subst (Holds e t b) (sym (blocks b)) (same_holds recs b (s.block b) old.holds);
    };
  }

  -- as many lives of each key are replaced or being replaced
  pub records_upto : SameKeys s t → ((r : ℕ) → standing_life (t.word (recovery r)) + replacing (t.word (recovery r)) ≡ standing_life (s.word (recovery r)) + replacing (s.word (recovery r))) → SameRecords s t → Records e s → Records e t
  records_upto kw lives recs i = let x : many s ≡ many t = sym (all_same s t recs) in record {
    spent = subst (SpentOnce e.graph) x i.spent;
    computed = subst (ComputedOnce e.graph) x i.computed;
    lives = subst (LivesNamed e.graph) x i.lives;
    edges = subst (SpentByEdge e.graph) x i.edges;
    some_life = λ k. recs (is_of k 0) ∙ i.some_life k;
    replaced = λ r k l it. recs (is_replaced k l) ∙ i.replaced r k l (had kw r k it) ∙ ap (λ n. hit (nat_lt 0 l && nat_lt l n)) (sym (lives r));
    names_own = recs (Rattle.core_state.specs.Tests.is_misstruck e.graph) ∙ i.names_own;
  }

  pub frame_records : SameKeys s t → SameRecovery s t → SameRecords s t → Records e s → Records e t
  frame_records kw rw' recs i = records_upto kw (λ r. ap (λ n. standing_life n + replacing n) (rw' r)) recs i

  pub frame_causes : SameItems s t → SameRecords s t → Causes e s → Causes e t
  frame_causes its recs i = let x : many s ≡ many t = sym (all_same s t recs) in record {
    replaced = subst (λ m. CausesShown e.graph m (Grounded e.graph m)) x i.replaced;
    suspected = λ k l c z. subst (λ m. Shown e.graph m (Grounded e.graph m) k l c) x (i.suspected k l c (was (t.total (items (is_suspect_for k l c))) (s.total (items (is_suspect_for k l c))) (its (is_suspect_for k l c)) z));
  }

  same_landed : SameRecords s t → (k l n : ℕ) (h : Hit) → Landed e s k l n h → Landed e t k l n h
  same_landed recs k l n h i = record { recorded = was (many s (Rattle.core_state.specs.Tests.is_struck_from k l h)) (many t (Rattle.core_state.specs.Tests.is_struck_from k l h)) (sym (recs (Rattle.core_state.specs.Tests.is_struck_from k l h))) i.recorded; stands = i.stands }

  pub frame_strikes : SameKeys s t → SameDescriptors s t → SameNotify s t → SameRecords s t → ((n : ℕ) → t.total (struck_by n) ≡ s.total (struck_by n)) → ((x : Strike) (n : ℕ) → t.total (struck_idly x n) ≡ s.total (struck_idly x n))
      → ((k l : ℕ) (h : Hit) → t.total (struck_upto e.plan k l h) ≡ s.total (struck_upto e.plan k l h)) → Strikes e s → Strikes e t
  frame_strikes kw dw nw recs by idly upto i = record {
    each = λ n low. let old = i.each n low in let x : Strike = e.plan.strike n in record {
      once = let a = by n in let b = old.once in omega (arith, a, b);
      by_its_job = idly x n ∙ old.by_its_job;
      has_word = λ z. old.has_word (was (t.total (struck_by n)) (s.total (struck_by n)) (by n) z);
      on_descriptor = λ r it z on. subst (λ y. Landed e t x.key.0 x.life y hit_of.Descriptor) (sym (dw r)) (same_landed recs x.key.0 x.life (s.word (descriptor r)) hit_of.Descriptor (old.on_descriptor r (had kw r x.key.0 it) (was (t.total (struck_by n)) (s.total (struck_by n)) (by n) z) on));
      on_notify = λ r w it z on. subst (λ y. Landed e t x.key.0 x.life y (hit_of.Notify w)) (sym (nw r w)) (same_landed recs x.key.0 x.life (s.word (notify r w)) (hit_of.Notify w) (old.on_notify r w (had kw r x.key.0 it) (was (t.total (struck_by n)) (s.total (struck_by n)) (by n) z) on));
      on_block = λ z on at. subst (λ m. BlockStruck e.graph e.plan m x.key.0) (sym (all_same s t recs)) (old.on_block (was (t.total (struck_by n)) (s.total (struck_by n)) (by n) z) on at);
    };
    planned = λ n low. by n ∙ i.planned n low;
    few = λ k l h. let a = recs (is_struck_upto k l h) in let b = upto k l h in let c = i.few k l h in omega (arith, a, b, c);
  }

  -- what views know of keys, lives and words; what they know of pending and stop is a premise
  pub frame_facts : SameKeys s t → ((r : ℕ) (w : Word) → t.word (spot_of r w) ≡ s.word (spot_of r w)) → SameRecords s t
      → ((k l : ℕ) (w : Word) → t.total (facts (is_seen_life k w l)) ≡ s.total (facts (is_seen_life k w l))) → ((k l : ℕ) (w : Word) → t.total (facts (is_seen_mark k w l)) ≡ s.total (facts (is_seen_mark k w l)))
      → ((k l w : ℕ) → t.total (facts (is_seen_closed k l w)) ≡ s.total (facts (is_seen_closed k l w)))
      → (0 < t.total (facts is_idle) → t.word pending ≡ 0) → (0 < t.total (facts is_stopped) → t.word stop ≡ 1) → t.word stop ≡ min 1 (t.total (facts is_stops)) → Facts e s → Facts e t
  frame_facts kw lw recs lifes marks closes idle halted sets i = record {
    idle = idle;
    stopped = halted;
    stops = sets;
    closed = λ k l w z. was (many s (is_closed k l w)) (many t (is_closed k l w)) (sym (recs (is_closed k l w))) (i.closed k l w (was (t.total (facts (is_seen_closed k l w))) (s.total (facts (is_seen_closed k l w))) (closes k l w) z));
    row_of_life = λ k l w z. has_row kw k (i.row_of_life k l w (was (t.total (facts (is_seen_life k w l))) (s.total (facts (is_seen_life k w l))) (lifes k l w) z));
    row_of_mark = λ k l w z. has_row kw k (i.row_of_mark k l w (was (t.total (facts (is_seen_mark k w l))) (s.total (facts (is_seen_mark k w l))) (marks k l w) z));
    life = λ r k l w it z. subst (λ n. l ≤ Rattle.core_state.specs.Words.life_shown w n) (sym (lw r w)) (i.life r k l w (had kw r k it) (was (t.total (facts (is_seen_life k w l))) (s.total (facts (is_seen_life k w l))) (lifes k l w) z));
    mark = λ r k l w it z. subst (λ n. (l < Rattle.core_state.specs.Words.life_shown w n) ⊎ ((l ≡ Rattle.core_state.specs.Words.life_shown w n) × (Rattle.core_state.specs.Words.mark_shown w n ≡ 1))) (sym (lw r w))
        (i.mark r k l w (had kw r k it) (was (t.total (facts (is_seen_mark k w l))) (s.total (facts (is_seen_mark k w l))) (marks k l w) z));
  }

  -- a place of a row whose descriptor and recovery word stay
  pub needs_at : SameKeys s t → SameRecords s t → (r k l j : ℕ) → t.word (descriptor r) ≡ s.word (descriptor r) → t.word (recovery r) ≡ s.word (recovery r) → Needs e t r k l j → Needs e s r k l j
  needs_at kw recs r k l j dw rw' i = record {
    has_key = had kw r k i.has_key;
    stands = ap replacing (sym rw') ∙ i.stands;
    life_stands = ap standing_life (sym rw') ∙ i.life_stands;
    life_shown = ap life_of (sym dw) ∙ i.life_shown;
    unspent = sym (recs (is_spent k l j)) ∙ i.unspent;
  }

  same_needs : SameKeys s t → SameDescriptors s t → SameRecovery s t → SameRecords s t → (r k l j : ℕ) → Needs e t r k l j → Needs e s r k l j
  same_needs kw dw rw' recs r k l j i = needs_at kw recs r k l j (dw r) (rw' r) i

  -- a port that waits at a word that stays
  pub waiting_at : SameKeys s t → SameRecords s t → SameWaits s t → (p q : ℕ) (i : Waiting e s p q) → t.word (notify i.row (q / 40)) ≡ s.word (notify i.row (q / 40)) → Waiting e t p q
  waiting_at kw recs ws p q i nw = record {
    row = i.row;
    has_key = has kw i.row p i.has_key;
    waits_there = subst (λ n. 0 < t.total (waits p (life_of n) q)) (sym nw) (let n : ℕ = s.word (notify i.row (q / 40)) in was (s.total (waits p (life_of n) q)) (t.total (waits p (life_of n) q)) (sym (ws p (life_of n) q)) i.waits_there);
    open_word = subst (λ n. many t (is_closed p (life_of n) (q / 40)) ≡ 0) (sym nw) (let n : ℕ = s.word (notify i.row (q / 40)) in recs (is_closed p (life_of n) (q / 40)) ∙ i.open_word);
  }

  same_waiting : SameKeys s t → SameNotify s t → SameRecords s t → SameWaits s t → (p q : ℕ) → Waiting e s p q → Waiting e t p q
  same_waiting kw nw recs ws p q i = waiting_at kw recs ws p q i (nw i.row (q / 40))

  -- the counts that cover a place may rise
  pub frame_cover : SameKeys s t → SameDescriptors s t → SameNotify s t → SameRecovery s t → SamePosted s t → SameRecords s t → SameWaits s t
      → ((k l j : ℕ) → s.total (covers_self k l j) ≤ t.total (covers_self k l j)) → ((p q : ℕ) → s.total (covers_edge p q) ≤ t.total (covers_edge p q)) → Cover e s → Cover e t
  frame_cover kw dw nw rw' pw recs ws selfs edges i = record {
    places = λ r k l j needs low. let x : Edge = e.graph.pred k j in let a = selfs k l j in let b = edges x.task x.port in let d = ap (λ n. hit (eqb l n)) (pw Explore r) in
        ⊎_elim (λ z. inl (omega (arith, z, a, b, d))) (λ z. inr (same_waiting kw nw recs ws x.task x.port z)) (i.places r k l j (same_needs kw dw rw' recs r k l j needs) low);
    self_place = λ r k l needs. let a = selfs k l 40 in let d = ap (λ n. hit (eqb l n)) (pw Explore r) in let z = i.self_place r k l (same_needs kw dw rw' recs r k l 40 needs) in omega (arith, z, a, d);
  }

  -- a row whose descriptor stays, where no work on the shown life goes
  pub activity_at : SamePosted s t → SameRecords s t → (r k : ℕ) → t.word (descriptor r) ≡ s.word (descriptor r) → s.total (works k (life_of (s.word (descriptor r)))) ≤ t.total (works k (life_of (s.word (descriptor r)))) → ActiveAt e s r k → ActiveAt e t r k
  activity_at pw recs r k dw rises i all = subst (λ n. (0 < t.total (works k (life_of n)) + hit (eqb (life_of n) (t.word (posted Compute r)))) ⊎ AllClosed e.graph e.plan (many t) k (life_of n)) (sym dw) (let l : ℕ = life_of (s.word (descriptor r)) in
      ⊎_elim (λ z. inl (let d = ap (λ n. hit (eqb l n)) (pw Compute r) in omega (arith, z, rises, d))) (λ z. inr (subst (λ m. AllClosed e.graph e.plan m k l) (sym (all_same s t recs)) z))
      (i (λ j place. was (many t (is_spent k l j)) (many s (is_spent k l j)) (recs (is_spent k l j)) (subst (λ n. 0 < many t (is_spent k (life_of n) j)) dw (all j place)))))

  pub frame_activity : SameKeys s t → SameDescriptors s t → SamePosted s t → SameRecords s t → ((k l : ℕ) → s.total (works k l) ≤ t.total (works k l)) → Activity e s → Activity e t
  frame_activity kw dw pw recs rises i = record { each = λ r k it all. activity_at pw recs r k (dw r) (rises k (life_of (s.word (descriptor r)))) (i.each r k (had kw r k it)) all }

  pub frame_no_fault : SameKeys s t → SameRecovery s t → SameItems s t → SameRecords s t → ((b : ℕ) → t.block b ≡ s.block b) → NoFault e s → NoFault e t
  frame_no_fault kw rw' its recs blocks i = record {
    faultless = λ z. let old : Faultless e s = i.faultless (sym (recs is_any_struck) ∙ z) in record {
      first_life = λ r k it. rw' r ∙ old.first_life r k (had kw r k it);
      none_suspected = its is_any_suspect ∙ old.none_suspected;
      newest = λ b u low some. subst (λ x. u ≤ x.tag) (sym (blocks b)) (old.newest b u low (was (many t (is_version b u)) (many s (is_version b u)) (recs (is_version b u)) some));
      readers_first = λ b u k some wrote reads not_root other. was (many s (is_writing k)) (many t (is_writing k)) (sym (recs (is_writing k))) (old.readers_first b u k some (was (many t (is_version b (u + 1))) (many s (is_version b (u + 1))) (recs (is_version b (u + 1))) wrote) reads not_root other);
    };
  }
