-- Steps that change only credits, empty stacks, and what views know of pending and stop.
use Rattle.std.proofs.Common.{◌≡◌, ◌≢◌, ℕ, suc, ◌+◌, ◌-◌, ◌<◌, ◌≤◌, Bool, true, false, cond, eqb, min, List, [], ◌∷◌, length, ⊎_elim, arith, sym, ap, refl, ◌∙◌, subst}
use mathlib.Core.Logic.{dite}
use native.Mathlib.Decide.{ℕ_discrete}
use Rattle.core_state.specs.Graph.{Setting}
use Rattle.graph_model.specs.declared.plan.Strike.{Strike}
use Rattle.core_state.specs.Words.{Spot, pending, stop, key, descriptor, notify, recovery, posted, turn, spot_of}
use Rattle.core_state.specs.Counts.{hit, bump, count, items, in_stacks, came, ended, begun, facts, knows_row, waits, in_hand, in_wrong_hand, struck_by, struck_idly, struck_upto, stack_count, spare, too_many}
use Rattle.core_state.specs.Tests.{is_at, notifies, suspects_block, is_created, is_owe, came_with, is_row, is_idle, is_stopped, is_stops, is_seen_life, is_seen_mark, is_seen_closed}
use Rattle.core_state.specs.Change.{Core, Change}
use Rattle.core_state.specs.Cover.{covers_self, covers_edge, works}
use Rattle.core_state.specs.Rows.{HasKey, Keys}
use Rattle.core_state.specs.Work.{Credits}
use Rattle.core_state.specs.Invariant.{Invariant}
use Rattle.core_state.specs.Guards.{CanBuy, CanDropCredit}
use Rattle.core_state.specs.Effects.{after_buy, after_drop_credit, after_stop, after_load_pending, after_load_stop, has_idle, is_idle_stack, without_idle}
use Rattle.graph_model.specs.declared.record.Hit.{Hit}
use Rattle.core_state.specs.declared.views.Item.{Item}
use Rattle.core_state.specs.declared.job.Job.{Job}
use Rattle.core_state.specs.declared.job.Job.TheVariants.{Explore, Compute}
use Rattle.core_state.specs.declared.views.Known.{Known}
use Rattle.core_state.specs.declared.views.Known.TheVariants as known
use Rattle.core_state.specs.declared.views.Stack.{Stack}
use Rattle.core_state.specs.declared.views.Word.{Word}
use Rattle.core_state.specs.declared.views.Word.TheVariants as word
use Rattle.core_state.specs.declared.views.View.{View}
use Rattle.core_state.proofs.Base.Counting.{two_tells}
use Rattle.core_state.proofs.Base.Frame.{SameItems, SameRecords, SameEnded, SameBegun, SameWaits, SameKeys, SameDescriptors, SameNotify, SameRecovery, SamePosted, was, keys_stay, frame_empty, frame_lives, frame_content, frame_jobs, frame_computings, frame_root, frame_blocks, frame_records, frame_causes, frame_strikes, frame_facts, frame_cover, frame_activity, frame_no_fault, posted_same}

-- all that such a step leaves as it was
pub record Calm (e : Setting) (s t : Core) : Type 0 where
  pub keys : SameKeys s t
  pub descriptors : SameDescriptors s t
  pub notify_words : SameNotify s t
  pub recoveries : SameRecovery s t
  pub posts : SamePosted s t
  pub turns : (b : ℕ) → t.word (turn b) ≡ s.word (turn b)
  pub its : SameItems s t
  pub recs : SameRecords s t
  pub ends : SameEnded s t
  pub begins : SameBegun s t
  pub waiting : SameWaits s t
  pub lifes : (k l : ℕ) (w : Word) → t.total (facts (is_seen_life k w l)) ≡ s.total (facts (is_seen_life k w l))
  pub marks : (k l : ℕ) (w : Word) → t.total (facts (is_seen_mark k w l)) ≡ s.total (facts (is_seen_mark k w l))
  pub closes : (k l w : ℕ) → t.total (facts (is_seen_closed k l w)) ≡ s.total (facts (is_seen_closed k l w))
  pub hands : (b : ℕ) → t.total (in_hand b) ≡ s.total (in_hand b)
  pub wrong : (b k : ℕ) → t.total (in_wrong_hand b k) ≡ s.total (in_wrong_hand b k)
  pub by : (n : ℕ) → t.total (struck_by n) ≡ s.total (struck_by n)
  pub idly : (x : Strike) (n : ℕ) → t.total (struck_idly x n) ≡ s.total (struck_idly x n)
  pub upto : (k l : ℕ) (h : Hit) → t.total (struck_upto e.plan k l h) ≡ s.total (struck_upto e.plan k l h)
  pub selfs : (k l j : ℕ) → t.total (covers_self k l j) ≡ s.total (covers_self k l j)
  pub edges : (p q : ℕ) → t.total (covers_edge p q) ≡ s.total (covers_edge p q)
  pub working : (k l : ℕ) → t.total (works k l) ≡ s.total (works k l)
  pub blocks : (b : ℕ) → t.block b ≡ s.block b

module _ (e : Setting) (s t : Core) where
  pub same_words : Calm e s t → (r : ℕ) (w : Word) → t.word (spot_of r w) ≡ s.word (spot_of r w)
  same_words c r word.Descriptor = c.descriptors r
  same_words c r (word.Notify w) = c.notify_words r w
  same_words c r word.Recovery = c.recoveries r

  rows_keys : Calm e s t → ((r k : ℕ) → 0 < t.total (knows_row r k) → HasKey e s r k) → Keys e s → Keys e t
  rows_keys c rows i = keys_stay e s t c.keys rows (λ k z. i.of_item k (was (t.total (items (is_at k))) (s.total (items (is_at k))) (c.its (is_at k)) z))
      (λ j k l z. i.of_ended j k l (was (t.total (ended j k l)) (s.total (ended j k l)) (c.ends j k l) z)) (λ p l q z. i.of_waiting p l q (was (t.total (waits p l q)) (s.total (waits p l q)) (c.waiting p l q) z))
      (λ p q z. i.of_notify p q (was (t.total (items (notifies p q))) (s.total (items (notifies p q))) (c.its (notifies p q)) z)) (λ b v z. i.of_cause b v (was (t.total (items (suspects_block b v))) (s.total (items (suspects_block b v))) (c.its (suspects_block b v)) z))
      (λ k. c.recs (is_created k)) i

  -- what is left to show: the rows that are known, credits, the facts of pending and stop, and that no stack came
  pub calm_keeps : Calm e s t → ((r k : ℕ) → 0 < t.total (knows_row r k) → HasKey e s r k) → Credits e t → (0 < t.total (facts is_idle) → t.word pending ≡ 0) → (0 < t.total (facts is_stopped) → t.word stop ≡ 1) → t.word stop ≡ min 1 (t.total (facts is_stops))
      → ((i : Job) (k l : ℕ) → t.total (came i k l) ≤ s.total (came i k l)) → Invariant e s → Invariant e t
  calm_keeps c rows credits idle halted sets comes i = record {
    keys = rows_keys c rows i.keys;
    empty = frame_empty e s t c.keys c.descriptors c.notify_words c.recoveries c.posts i.empty;
    lives = frame_lives e s t c.keys c.descriptors c.notify_words c.recoveries c.its i.lives;
    content = frame_content e s t c.keys c.descriptors c.notify_words c.recs c.waiting i.content;
    facts = frame_facts e s t c.keys (same_words c) c.recs c.lifes c.marks c.closes idle halted sets i.facts;
    work = record {
      credits = credits;
      jobs = frame_jobs e s t c.keys c.descriptors c.recoveries c.posts c.its c.ends c.begins c.recs comes i.work.jobs;
      computings = frame_computings e s t c.keys c.posts c.its c.begins c.recs i.work.computings;
      root = frame_root e s t c.its c.ends c.recs c.wrong c.hands c.blocks i.work.root;
    };
    blocks = frame_blocks e s t c.turns c.hands c.recs c.blocks i.blocks;
    records = frame_records e s t c.keys c.recoveries c.recs i.records;
    causes = frame_causes e s t c.its c.recs i.causes;
    strikes = frame_strikes e s t c.keys c.descriptors c.notify_words c.recs c.by c.idly c.upto i.strikes;
    cover = frame_cover e s t c.keys c.descriptors c.notify_words c.recoveries c.posts c.recs c.waiting (λ k l j. let a = c.selfs k l j in omega (arith, a)) (λ p q. let a = c.edges p q in omega (arith, a)) i.cover;
    activity = frame_activity e s t c.keys c.descriptors c.posts c.recs (λ k l. let a = c.working k l in omega (arith, a)) i.activity;
    no_fault = frame_no_fault e s t c.keys c.recoveries c.its c.recs c.blocks i.no_fault;
  }

-- the view that steps keeps these fields
module _ (e : Setting) (s t : Core) (at : Spot) (n m : ℕ) (v w : View) (c : Change s t at n m v w) where
  pub same : (f : View → ℕ) → f w ≡ f v → t.total f ≡ s.total f
  same f e = let a = c.sums f in omega (arith, a, e)

  pub word_same : (b : Spot) → (at ≡ b → ⊥) → t.word b ≡ s.word b
  word_same b ne = c.others b (λ e. ne (sym e))

-- no word of a row but its key, and of no block
record IsAside (at : Spot) : Type 0 where
  pub no_descriptor : (r : ℕ) → descriptor r ≢ at
  pub no_notify : (r w : ℕ) → notify r w ≢ at
  pub no_recovery : (r : ℕ) → recovery r ≢ at
  pub no_job : (i : Job) (r : ℕ) → posted i r ≢ at
  pub no_turn : (b : ℕ) → turn b ≢ at

pending_aside : IsAside pending
pending_aside = record { no_descriptor = λ r z. cc; no_notify = λ r w z. cc; no_recovery = λ r z. cc; no_job = λ i r z. cc; no_turn = λ b z. cc }

stop_aside : IsAside stop
stop_aside = record { no_descriptor = λ r z. cc; no_notify = λ r w z. cc; no_recovery = λ r z. cc; no_job = λ i r z. cc; no_turn = λ b z. cc }

key_aside : (r : ℕ) → IsAside (key r)
key_aside r0 = record { no_descriptor = λ r z. cc; no_notify = λ r w z. cc; no_recovery = λ r z. cc; no_job = λ i r z. cc; no_turn = λ b z. cc }

module _ (e : Setting) (s t : Core) where
  -- only facts that are not of words of a task, and spare credits, change
  calm_light : (at : Spot) → IsAside at → SameKeys s t → (n m : ℕ) (v : View) (ks : List Known) (x : ℕ)
      → ((k l : ℕ) (w : Word) → facts (is_seen_life k w l) (record v { known = ks; spare = x }) ≡ facts (is_seen_life k w l) v)
      → ((k l : ℕ) (w : Word) → facts (is_seen_mark k w l) (record v { known = ks; spare = x }) ≡ facts (is_seen_mark k w l) v)
      → ((k l w : ℕ) → facts (is_seen_closed k l w) (record v { known = ks; spare = x }) ≡ facts (is_seen_closed k l w) v)
      → ((k l q : ℕ) → waits k l q (record v { known = ks; spare = x }) ≡ waits k l q v)
      → Change s t at n m v (record v { known = ks; spare = x }) → Calm e s t
  calm_light at aside same_keys n m v ks x lives marks_same closed waited c = let eq = same e s t at n m v (record v { known = ks; spare = x }) c in record {
    keys = same_keys;
    descriptors = λ r. c.others (descriptor r) (aside.no_descriptor r);
    notify_words = λ r w. c.others (notify r w) (aside.no_notify r w);
    recoveries = λ r. c.others (recovery r) (aside.no_recovery r);
    posts = λ i r. c.others (posted i r) (aside.no_job i r);
    turns = λ b. c.others (turn b) (aside.no_turn b);
    its = λ p. eq (items p) refl;
    recs = λ p. eq (Rattle.core_state.specs.Counts.noted p) refl;
    ends = λ i k l. eq (ended i k l) refl;
    begins = λ i k l. eq (begun i k l) refl;
    waiting = λ k l q. eq (waits k l q) (waited k l q);
    lifes = λ k l w. eq (facts (is_seen_life k w l)) (lives k l w);
    marks = λ k l w. eq (facts (is_seen_mark k w l)) (marks_same k l w);
    closes = λ k l w. eq (facts (is_seen_closed k l w)) (closed k l w);
    hands = λ b. eq (in_hand b) refl;
    wrong = λ b k. eq (in_wrong_hand b k) refl;
    by = λ y. eq (struck_by y) refl;
    idly = λ y z. eq (struck_idly y z) refl;
    upto = λ k l h. eq (struck_upto e.plan k l h) refl;
    selfs = λ k l j. eq (covers_self k l j) refl;
    edges = λ p q. eq (covers_edge p q) refl;
    working = λ k l. eq (works k l) refl;
    blocks = λ b. c.blocks b (aside.no_turn b);
  }

module _ (e : Setting) (s t : Core) where
  -- buying a credit
  calm_buy : (n : ℕ) (v : View) → Change s t pending n (n + 1) v (after_buy v) → Calm e s t
  calm_buy n v c = calm_light e s t pending pending_aside (λ r. c.others (key r) (λ z. cc)) n (n + 1) v v.known (v.spare + 1) (λ k l x. refl) (λ k l x. refl) (λ k l x. refl) (λ k l x. refl) c

  -- a view that owes has a stack
  owes_stack : (v : View) → 0 < items is_owe v → 0 < stack_count v
  owes_stack v z = of v.stacks z
    where
      of : (ss : List Stack) → 0 < in_stacks is_owe ss → 0 < length ss
      of [] z = z
      of (x ∷ xs) z = omega arith

  pub keeps_buy : (n : ℕ) (v : View) → CanBuy e v → Change s t pending n (n + 1) v (after_buy v) → Invariant e s → Invariant e t
  keeps_buy n v can c i = let eq = same e s t pending n (n + 1) v (after_buy v) c in let wd = word_same e s t pending n (n + 1) v (after_buy v) c in calm_keeps e s t (calm_buy n v c) (λ r k z. i.keys.known r k (let x = eq (knows_row r k) refl in omega (arith, x, z)))
      record {
        sum = let a = posted_same s.word t.word e.shape.rows (λ j r. wd (posted j r) (λ e. cc)) in let b = c.sums stack_count in let d = c.sums spare in let f = c.found_is in let g = c.left_is in let k = i.work.credits.sum in omega (arith, a, b, d, f, g, k);
        few_spare = let a = c.sums too_many in let b = i.work.credits.few_spare in let d = can.needed in let x : too_many (after_buy v) ≡ 0 = omega (arith, d) in omega (arith, a, b, x);
      }
      (λ z. absurd (let a = i.facts.idle (let x = eq (facts is_idle) refl in omega (arith, x, z)) in let b = i.work.credits.sum in let d = c.within stack_count in let f = owes_stack v (let y = can.needed in omega (arith, y)) in omega (arith, a, b, d, f)))
      (λ z. wd stop (λ e. cc) ∙ i.facts.stopped (let x = eq (facts is_stopped) refl in omega (arith, x, z)))
      (wd stop (λ e. cc) ∙ i.facts.stops ∙ ap (min 1) (sym (eq (facts is_stops) refl)))
      (λ j k l. let x = eq (came j k l) refl in omega (arith, x)) i

-- an empty stack goes
no_items : (xs : List Item) → is_idle_stack xs ≡ true → (p : Item → Bool) → count p xs ≡ 0
no_items [] e p = refl
no_items (x ∷ xs) e p = absurd cc

pub idle_items : (p : Item → Bool) (ss : List Stack) → in_stacks p (without_idle ss) ≡ in_stacks p ss
idle_items p [] = refl
idle_items p (s ∷ ss) = by (idle_items p ss) (is_idle_stack s.items) refl
  where
    by : in_stacks p (without_idle ss) ≡ in_stacks p ss → (b : Bool) → is_idle_stack s.items ≡ b → in_stacks p (cond b ss (s ∷ without_idle ss)) ≡ count p s.items + in_stacks p ss
    by h true e = let a = no_items s.items e p in omega (arith, a)
    by h false e = omega (arith, h)

pub idle_length : (ss : List Stack) → has_idle ss ≡ true → length (without_idle ss) + 1 ≡ length ss
idle_length [] e = absurd cc
idle_length (s ∷ ss) e = by (idle_length ss) (is_idle_stack s.items) e
  where
    by : (has_idle ss ≡ true → length (without_idle ss) + 1 ≡ length ss) → (b : Bool) → cond b true (has_idle ss) ≡ true → length (cond b ss (s ∷ without_idle ss)) + 1 ≡ length (s ∷ ss)
    by h true e = omega arith
    by h false e = let a = h e in omega (arith, a)

pub idle_came : (i : Job) (k l : ℕ) (ss : List Stack) → count (came_with i k l) (without_idle ss) ≤ count (came_with i k l) ss
idle_came i k l [] = omega arith
idle_came i k l (s ∷ ss) = by (idle_came i k l ss) (is_idle_stack s.items)
  where
    more : (b : Bool) (n : ℕ) → n ≤ bump b n
    more true n = omega arith
    more false n = omega arith

    both : (b : Bool) (n m : ℕ) → n ≤ m → bump b n ≤ bump b m
    both true n m h = omega (arith, h)
    both false n m h = h

    by : count (came_with i k l) (without_idle ss) ≤ count (came_with i k l) ss → (b : Bool) → count (came_with i k l) (cond b ss (s ∷ without_idle ss)) ≤ count (came_with i k l) (s ∷ ss)
    by h true = more (came_with i k l s) (count (came_with i k l) ss)
    by h false = both (came_with i k l s) (count (came_with i k l) (without_idle ss)) (count (came_with i k l) ss) h

module _ (e : Setting) (s t : Core) where
  calm_stop : (n m : ℕ) (v : View) → Change s t stop n m v (after_stop v) → Calm e s t
  calm_stop n m v c = calm_light e s t stop stop_aside (λ r. c.others (key r) (λ z. cc)) n m v (known.Stops ∷ v.known) v.spare (λ k l x. refl) (λ k l x. refl) (λ k l x. refl) (λ k l x. refl) c

  calm_idle : (n m : ℕ) (v : View) → Change s t pending n m v (record v { known = known.Idle ∷ v.known }) → Calm e s t
  calm_idle n m v c = calm_light e s t pending pending_aside (λ r. c.others (key r) (λ z. cc)) n m v (known.Idle ∷ v.known) v.spare (λ k l x. refl) (λ k l x. refl) (λ k l x. refl) (λ k l x. refl) c

  calm_stopped : (n m : ℕ) (v : View) → Change s t stop n m v (record v { known = known.Stopped ∷ v.known }) → Calm e s t
  calm_stopped n m v c = calm_light e s t stop stop_aside (λ r. c.others (key r) (λ z. cc)) n m v (known.Stopped ∷ v.known) v.spare (λ k l x. refl) (λ k l x. refl) (λ k l x. refl) (λ k l x. refl) c

  calm_seen_pending : (n m : ℕ) (v : View) → Change s t pending n m v v → Calm e s t
  calm_seen_pending n m v c = calm_light e s t pending pending_aside (λ r. c.others (key r) (λ z. cc)) n m v v.known v.spare (λ k l x. refl) (λ k l x. refl) (λ k l x. refl) (λ k l x. refl) c

  calm_seen_stop : (n m : ℕ) (v : View) → Change s t stop n m v v → Calm e s t
  calm_seen_stop n m v c = calm_light e s t stop stop_aside (λ r. c.others (key r) (λ z. cc)) n m v v.known v.spare (λ k l x. refl) (λ k l x. refl) (λ k l x. refl) (λ k l x. refl) c

  calm_spare : (n m : ℕ) (v : View) → Change s t pending n m v (record v { spare = v.spare - 1 }) → Calm e s t
  calm_spare n m v c = calm_light e s t pending pending_aside (λ r. c.others (key r) (λ z. cc)) n m v v.known (v.spare - 1) (λ k l x. refl) (λ k l x. refl) (λ k l x. refl) (λ k l x. refl) c

  pub calm_idle_stack : (n m : ℕ) (v : View) → Change s t pending n m v (record v { stacks = without_idle v.stacks }) → Calm e s t
  calm_idle_stack n m v c = let eq = same e s t pending n m v (record v { stacks = without_idle v.stacks }) c in let wd = word_same e s t pending n m v (record v { stacks = without_idle v.stacks }) c in record {
    keys = λ r. wd (key r) (λ e. cc);
    descriptors = λ r. wd (descriptor r) (λ e. cc);
    notify_words = λ r x. wd (notify r x) (λ e. cc);
    recoveries = λ r. wd (recovery r) (λ e. cc);
    posts = λ i r. wd (posted i r) (λ e. cc);
    turns = λ b. wd (turn b) (λ e. cc);
    its = λ p. eq (items p) (idle_items p v.stacks);
    recs = λ p. eq (Rattle.core_state.specs.Counts.noted p) refl;
    ends = λ i k l. eq (ended i k l) refl;
    begins = λ i k l. eq (begun i k l) (ap (λ x. x + ended i k l v) (idle_items (Rattle.core_state.specs.Tests.carries i k l) v.stacks));
    waiting = λ k l q. eq (waits k l q) refl;
    lifes = λ k l x. eq (facts (is_seen_life k x l)) refl;
    marks = λ k l x. eq (facts (is_seen_mark k x l)) refl;
    closes = λ k l x. eq (facts (is_seen_closed k l x)) refl;
    hands = λ b. eq (in_hand b) refl;
    wrong = λ b k. eq (in_wrong_hand b k) (ap (λ x. cond (eqb x 0) (in_hand b v) 0) (idle_items (Rattle.core_state.specs.Tests.is_made_any k) v.stacks));
    by = λ x. eq (struck_by x) refl;
    idly = λ x y. eq (struck_idly x y) (ap (λ z. cond (eqb (z + ended (Rattle.core_state.specs.Tests.job_of x.point) x.key.0 x.life v) 0) (struck_by y v) 0) (idle_items (Rattle.core_state.specs.Tests.carries (Rattle.core_state.specs.Tests.job_of x.point) x.key.0 x.life) v.stacks));
    upto = λ k l h. eq (struck_upto e.plan k l h) refl;
    selfs = λ k l j. eq (covers_self k l j) (let a = idle_items (Rattle.core_state.specs.Tests.explores k l j) v.stacks in let b = idle_items (Rattle.core_state.specs.Tests.is_owed Explore k l) v.stacks in let d = idle_items (Rattle.core_state.specs.Tests.is_suspect k l) v.stacks in omega (arith, a, b, d));
    edges = λ p q. eq (covers_edge p q) (let a = idle_items (Rattle.core_state.specs.Tests.notifies p q) v.stacks in let b = idle_items (Rattle.core_state.specs.Tests.is_renew p) v.stacks in let d = idle_items (Rattle.core_state.specs.Tests.reenters p q) v.stacks in omega (arith, a, b, d));
    working = λ k l. eq (works k l) (let a = idle_items (Rattle.core_state.specs.Tests.is_owed Compute k l) v.stacks in let b = idle_items (Rattle.core_state.specs.Tests.carries Compute k l) v.stacks in let d = idle_items (Rattle.core_state.specs.Tests.is_suspect k l) v.stacks in let f = idle_items (Rattle.core_state.specs.Tests.is_renew_of k l) v.stacks in omega (arith, a, b, d, f));
    blocks = λ b. c.blocks b (λ e. cc);
  }

  -- stopping
  pub keeps_stop : (n : ℕ) (v : View) → Change s t stop n 1 v (after_stop v) → Invariant e s → Invariant e t
  keeps_stop n v c i = let eq = same e s t stop n 1 v (after_stop v) c in let wd = word_same e s t stop n 1 v (after_stop v) c in calm_keeps e s t (calm_stop n 1 v c) (λ r k z. i.keys.known r k (let x = eq (knows_row r k) refl in omega (arith, x, z)))
      record {
        sum = let a = posted_same s.word t.word e.shape.rows (λ j r. wd (posted j r) (λ e. cc)) in let b = eq stack_count refl in let d = eq spare refl in let f = wd pending (λ e. cc) in let k = i.work.credits.sum in omega (arith, a, b, d, f, k);
        few_spare = eq too_many refl ∙ i.work.credits.few_spare;
      }
      (λ z. wd pending (λ e. cc) ∙ i.facts.idle (let x = eq (facts is_idle) refl in omega (arith, x, z)))
      (λ z. c.left_is)
      (let a = c.sums (facts is_stops) in let b = c.within (facts is_stops) in let d = c.left_is in omega (arith, a, b, d))
      (λ j k l. let x = eq (came j k l) refl in omega (arith, x)) i

  -- a credit goes with the empty stack that came last, or else a spare one
  pub keeps_drop_stack : (n : ℕ) (v : View) → has_idle v.stacks ≡ true → Change s t pending n (n - 1) v (record v { stacks = without_idle v.stacks }) → Invariant e s → Invariant e t
  keeps_drop_stack n v some c i = let w : View = record v { stacks = without_idle v.stacks } in let eq = same e s t pending n (n - 1) v w c in let wd = word_same e s t pending n (n - 1) v w c in calm_keeps e s t (calm_idle_stack n (n - 1) v c) (λ r k z. i.keys.known r k (let x = eq (knows_row r k) refl in omega (arith, x, z)))
      record {
        sum = let a = posted_same s.word t.word e.shape.rows (λ j r. wd (posted j r) (λ e. cc)) in let b = c.sums stack_count in let d = eq spare refl in let f = c.found_is in let g = c.left_is in let k = i.work.credits.sum in
            let x : stack_count w + 1 ≡ stack_count v = idle_length v.stacks some in let y = c.within stack_count in omega (arith, a, b, d, f, g, k, x, y);
        few_spare = eq too_many (ap (λ x. v.spare - x) (idle_items is_owe v.stacks)) ∙ i.work.credits.few_spare;
      }
      (λ z. let a = i.facts.idle (let x = eq (facts is_idle) refl in omega (arith, x, z)) in let f = c.found_is in let g = c.left_is in omega (arith, a, f, g))
      (λ z. wd stop (λ e. cc) ∙ i.facts.stopped (let x = eq (facts is_stopped) refl in omega (arith, x, z)))
      (wd stop (λ e. cc) ∙ i.facts.stops ∙ ap (min 1) (sym (eq (facts is_stops) refl)))
      (λ j k l. let x = c.sums (came j k l) in let y : came j k l w ≤ came j k l v = idle_came j k l v.stacks in omega (arith, x, y)) i

  pub keeps_drop_spare : (n : ℕ) (v : View) → 0 < v.spare → Change s t pending n (n - 1) v (record v { spare = v.spare - 1 }) → Invariant e s → Invariant e t
  keeps_drop_spare n v some c i = let w : View = record v { spare = v.spare - 1 } in let eq = same e s t pending n (n - 1) v w c in let wd = word_same e s t pending n (n - 1) v w c in calm_keeps e s t (calm_spare n (n - 1) v c) (λ r k z. i.keys.known r k (let x = eq (knows_row r k) refl in omega (arith, x, z)))
      record {
        sum = let a = posted_same s.word t.word e.shape.rows (λ j r. wd (posted j r) (λ e. cc)) in let b = eq stack_count refl in let d = c.sums spare in let f = c.found_is in let g = c.left_is in let k = i.work.credits.sum in
            let y = c.within spare in omega (arith, a, b, d, f, g, k, y, some);
        few_spare = let a = c.sums too_many in let b = i.work.credits.few_spare in let d = c.within too_many in let x : too_many w ≤ too_many v = omega arith in omega (arith, a, b, d, x);
      }
      (λ z. let a = i.facts.idle (let x = eq (facts is_idle) refl in omega (arith, x, z)) in let f = c.found_is in let g = c.left_is in omega (arith, a, f, g))
      (λ z. wd stop (λ e. cc) ∙ i.facts.stopped (let x = eq (facts is_stopped) refl in omega (arith, x, z)))
      (wd stop (λ e. cc) ∙ i.facts.stops ∙ ap (min 1) (sym (eq (facts is_stops) refl)))
      (λ j k l. let x = eq (came j k l) refl in omega (arith, x)) i

  pub keeps_drop_credit : (n : ℕ) (v : View) → CanDropCredit e v → Change s t pending n (n - 1) v (after_drop_credit v) → Invariant e s → Invariant e t
  keeps_drop_credit n v can c i = by (has_idle v.stacks) refl c
    where
      has_spare : CanDropCredit e v → has_idle v.stacks ≡ false → 0 < v.spare
      has_spare (Rattle.core_state.specs.Guards.CanDropCredit.idle_stack z) none = absurd cc
      has_spare (Rattle.core_state.specs.Guards.CanDropCredit.spare_credit z) none = z

      by : (b : Bool) → has_idle v.stacks ≡ b → Change s t pending n (n - 1) v (cond b (record v { stacks = without_idle v.stacks }) (record v { spare = v.spare - 1 })) → Invariant e t
      by true z c = keeps_drop_stack n v z c i
      by false z c = keeps_drop_spare n v (has_spare can z) c i

  -- loads of pending and of stop
  pub keeps_idle : (v : View) → Change s t pending 0 0 v (record v { known = known.Idle ∷ v.known }) → Invariant e s → Invariant e t
  keeps_idle v c i = let w : View = record v { known = known.Idle ∷ v.known } in let eq = same e s t pending 0 0 v w c in let wd = word_same e s t pending 0 0 v w c in calm_keeps e s t (calm_idle 0 0 v c) (λ r k z. i.keys.known r k (let x = eq (knows_row r k) refl in omega (arith, x, z)))
      record {
        sum = let a = posted_same s.word t.word e.shape.rows (λ j r. wd (posted j r) (λ e. cc)) in let b = eq stack_count refl in let d = eq spare refl in let f = c.found_is in let g = c.left_is in let k = i.work.credits.sum in omega (arith, a, b, d, f, g, k);
        few_spare = eq too_many refl ∙ i.work.credits.few_spare;
      }
      (λ z. c.left_is)
      (λ z. wd stop (λ e. cc) ∙ i.facts.stopped (let x = eq (facts is_stopped) refl in omega (arith, x, z)))
      (wd stop (λ e. cc) ∙ i.facts.stops ∙ ap (min 1) (sym (eq (facts is_stops) refl)))
      (λ j k l. let x = eq (came j k l) refl in omega (arith, x)) i

  pub keeps_seen_pending : (n : ℕ) (v : View) → Change s t pending n n v v → Invariant e s → Invariant e t
  keeps_seen_pending n v c i = let eq = same e s t pending n n v v c in let wd = word_same e s t pending n n v v c in calm_keeps e s t (calm_seen_pending n n v c) (λ r k z. i.keys.known r k (let x = eq (knows_row r k) refl in omega (arith, x, z)))
      record {
        sum = let a = posted_same s.word t.word e.shape.rows (λ j r. wd (posted j r) (λ e. cc)) in let b = eq stack_count refl in let d = eq spare refl in let f = c.found_is in let g = c.left_is in let k = i.work.credits.sum in omega (arith, a, b, d, f, g, k);
        few_spare = eq too_many refl ∙ i.work.credits.few_spare;
      }
      (λ z. c.left_is ∙ sym c.found_is ∙ i.facts.idle (let x = eq (facts is_idle) refl in omega (arith, x, z)))
      (λ z. wd stop (λ e. cc) ∙ i.facts.stopped (let x = eq (facts is_stopped) refl in omega (arith, x, z)))
      (wd stop (λ e. cc) ∙ i.facts.stops ∙ ap (min 1) (sym (eq (facts is_stops) refl)))
      (λ j k l. let x = eq (came j k l) refl in omega (arith, x)) i

  pub keeps_load_pending : (n : ℕ) (v : View) → Change s t pending n n v (after_load_pending n v) → Invariant e s → Invariant e t
  keeps_load_pending n v c i = dite (ℕ_discrete n 0) (λ z. keeps_idle v (subst (λ x. Change s t pending x x v (record v { known = known.Idle ∷ v.known })) z (subst (λ (b : Bool). Change s t pending n n v (record v { known = cond b (known.Idle ∷ v.known) v.known })) (Rattle.std.proofs.lemmas.Bool.eq-eqb n 0 z) c)) i)
      (λ z. keeps_seen_pending n v (subst (λ (b : Bool). Change s t pending n n v (record v { known = cond b (known.Idle ∷ v.known) v.known })) (Rattle.std.proofs.lemmas.Bool.ne_eqb n 0 z) c) i)

  pub keeps_load_stop : (n : ℕ) (v : View) → Change s t stop n n v (after_load_stop n v) → Invariant e s → Invariant e t
  keeps_load_stop n v c i = dite (ℕ_discrete n 1) (λ z. halted (subst (λ x. Change s t stop x x v (record v { known = known.Stopped ∷ v.known })) z (subst (λ (b : Bool). Change s t stop n n v (record v { known = cond b (known.Stopped ∷ v.known) v.known })) (Rattle.std.proofs.lemmas.Bool.eq-eqb n 1 z) c)))
      (λ z. other (subst (λ (b : Bool). Change s t stop n n v (record v { known = cond b (known.Stopped ∷ v.known) v.known })) (Rattle.std.proofs.lemmas.Bool.ne_eqb n 1 z) c))
    where
      credits : (m : ℕ) (w : View) → Change s t stop m m v w → (f : stack_count w ≡ stack_count v) → spare w ≡ spare v → too_many w ≡ too_many v → Credits e t
      credits m w c f g h = let wd = word_same e s t stop m m v w c in record {
        sum = let a = posted_same s.word t.word e.shape.rows (λ j r. wd (posted j r) (λ e. cc)) in let b = same e s t stop m m v w c stack_count f in let d = same e s t stop m m v w c spare g in let p = wd pending (λ e. cc) in let k = i.work.credits.sum in omega (arith, a, b, d, p, k);
        few_spare = same e s t stop m m v w c too_many h ∙ i.work.credits.few_spare;
      }

      halted : Change s t stop 1 1 v (record v { known = known.Stopped ∷ v.known }) → Invariant e t
      halted c = let w : View = record v { known = known.Stopped ∷ v.known } in let eq = same e s t stop 1 1 v w c in let wd = word_same e s t stop 1 1 v w c in calm_keeps e s t (calm_stopped 1 1 v c) (λ r k z. i.keys.known r k (let x = eq (knows_row r k) refl in omega (arith, x, z))) (credits 1 w c refl refl refl)
          (λ z. wd pending (λ e. cc) ∙ i.facts.idle (let x = eq (facts is_idle) refl in omega (arith, x, z)))
          (λ z. c.left_is)
          (c.left_is ∙ sym c.found_is ∙ i.facts.stops ∙ ap (min 1) (sym (eq (facts is_stops) refl)))
          (λ j k l. let x = eq (came j k l) refl in omega (arith, x)) i

      other : Change s t stop n n v v → Invariant e t
      other c = let eq = same e s t stop n n v v c in let wd = word_same e s t stop n n v v c in calm_keeps e s t (calm_seen_stop n n v c) (λ r k z. i.keys.known r k (let x = eq (knows_row r k) refl in omega (arith, x, z))) (credits n v c refl refl refl)
          (λ z. wd pending (λ e. cc) ∙ i.facts.idle (let x = eq (facts is_idle) refl in omega (arith, x, z)))
          (λ z. c.left_is ∙ sym c.found_is ∙ i.facts.stopped (let x = eq (facts is_stopped) refl in omega (arith, x, z)))
          (c.left_is ∙ sym c.found_is ∙ i.facts.stops ∙ ap (min 1) (sym (eq (facts is_stops) refl)))
          (λ j k l. let x = eq (came j k l) refl in omega (arith, x)) i

module _ (e : Setting) (s t : Core) where
  calm_row : (r0 k0 n : ℕ) (v : View) → Change s t (key r0) n n v (record v { known = known.Row r0 k0 ∷ v.known }) → Calm e s t
  calm_row r0 k0 n v c = calm_light e s t (key r0) (key_aside r0)
      (λ r. dite (ℕ_discrete r r0) (λ z. ap (λ y. t.word (key y)) z ∙ c.left_is ∙ sym c.found_is ∙ ap (λ y. s.word (key y)) (sym z)) (λ z. c.others (key r) (λ y. z (let q : r ≡ r0 = cc in q))))
      n n v (known.Row r0 k0 ∷ v.known) v.spare (λ k l x. refl) (λ k l x. refl) (λ k l x. refl) (λ k l x. refl) c

  -- a look or a claim that told whose row it is
  pub keeps_told : (r k : ℕ) (v : View) → r < e.shape.rows → Change s t (key r) (suc k) (suc k) v (record v { known = known.Row r k ∷ v.known }) → Invariant e s → Invariant e t
  keeps_told r k v low c i = let w : View = record v { known = known.Row r k ∷ v.known } in let eq = same e s t (key r) (suc k) (suc k) v w c in let wd = word_same e s t (key r) (suc k) (suc k) v w c in calm_keeps e s t (calm_row r k (suc k) v c)
      (λ x y z. ⊎_elim (λ no. i.keys.known x y (let a = c.sums (knows_row x y) in let b : knows_row x y w ≡ knows_row x y v = ap (λ (u : Bool). bump u (knows_row x y v)) no in omega (arith, a, b, z)))
      (λ is. subst (λ u. HasKey e s u y) (sym is.1) (subst (HasKey e s r) (sym is.2) (low, c.found_is))) (two_tells x y r k))
      record {
        sum = let a = posted_same s.word t.word e.shape.rows (λ j x. wd (posted j x) (λ e. cc)) in let b = eq stack_count refl in let d = eq spare refl in let f = wd pending (λ e. cc) in let g = i.work.credits.sum in omega (arith, a, b, d, f, g);
        few_spare = eq too_many refl ∙ i.work.credits.few_spare;
      }
      (λ z. wd pending (λ e. cc) ∙ i.facts.idle (let x = eq (facts is_idle) refl in omega (arith, x, z)))
      (λ z. wd stop (λ e. cc) ∙ i.facts.stopped (let x = eq (facts is_stopped) refl in omega (arith, x, z)))
      (wd stop (λ e. cc) ∙ i.facts.stops ∙ ap (min 1) (sym (eq (facts is_stops) refl)))
      (λ j k l. let x = eq (came j k l) refl in omega (arith, x)) i
