-- Spending a place keeps every part.
use Rattle.std.proofs.Common.{◌≡◌, ◌≢◌, ◌⊎◌, ℕ, ◌+◌, ◌-◌, ◌*◌, ◌/◌, ◌^◌, ◌≤◌, ◌<◌, Bool, true, false, cond, ◌&&◌, eqb, ne_eqb, nat_lt, List, ◌∷◌, min, bit_or, ⊎_elim, inl, inr, arith, sym, ap, refl, ◌∙◌, subst}
use mathlib.Core.Logic.{dite}
use native.Mathlib.Decide.{ℕ_discrete}
use Rattle.std.specs.Int.{bit_at}
use Rattle.std.proofs.lemmas.Nat.Bits.{bit_at-lt}
use Rattle.core_state.specs.Graph.{Setting, Sound, Edge, Graph}
use Rattle.core_state.specs.Words.{Spot, pending, stop, key, descriptor, notify, recovery, posted, turn, spot_of, life_of, mark_of, life_shown, mark_shown, standing_life, replacing}
use Rattle.core_state.specs.Counts.{hit, count, items, owed, held, ended, begun, came, noted, facts, in_hand, in_wrong_hand, struck_by, struck_idly, struck_upto, stack_count, spare, too_many}
use Rattle.core_state.specs.Tests.{three, two, same_job, is_at, is_owed, carries, explores, is_unmade, is_compute, is_made, is_made_any, is_loaded, is_close, is_close_from, is_notify, is_renew, is_renew_at, is_renew_of, is_suspect, is_suspect_for, is_any_suspect, suspects_block, notifies, reenters, is_row, is_idle, is_stopped, is_stops, is_seen_life, is_seen_mark, is_seen_closed, waits_at, is_hand, strikes_upto, job_of, is_created, is_spent, is_computed, is_written, is_closed, is_closing, is_struck, is_struck_version, is_struck_upto, is_misstruck, is_miswritten, is_version, is_replaced, is_replaced_for, is_of}
use Rattle.core_state.specs.Change.{Core, Change, Sums, many}
use Rattle.core_state.specs.Laws.{IsPlace, SpentOnce, ComputedOnce, LivesNamed, SpentByEdge, Shown, AllClosed}
use Rattle.core_state.specs.Laws.Shown.{descriptor as by_descriptor}
use Rattle.core_state.specs.Rows.{HasKey, Keys, Empty, Lives, Shows, Lists, Content, Facts}
use Rattle.core_state.specs.Work.{job_count, Jobs, Computings, Credits, RootWork, is_made_early}
use Rattle.core_state.specs.Blocks.{Blocks}
use Rattle.core_state.specs.Records.{Records, Causes, Strikes}
use Rattle.core_state.specs.Cover.{covers_self, covers_edge, works, Needs, Cover, Activity, NoFault}
use Rattle.core_state.specs.Invariant.{Invariant}
use Rattle.core_state.specs.Views.{key_of}
use Rattle.core_state.specs.Effects.{moved}
use Rattle.core_state.specs.declared.answers.Told.{Told}
use Rattle.core_state.specs.declared.answers.Told.TheVariants as told
use Rattle.graph_model.specs.declared.record.Cause.{Cause}
use Rattle.graph_model.specs.declared.record.Cause.TheVariants as cause
use Rattle.graph_model.specs.declared.record.Hit.TheVariants as hit_of
use Rattle.graph_model.specs.declared.record.Record.{Record}
use Rattle.graph_model.specs.declared.record.Record.TheVariants as record_of
use Rattle.core_state.specs.declared.job.Job.{Job}
use Rattle.core_state.specs.declared.job.Job.TheVariants.{Explore, Compute}
use Rattle.core_state.specs.declared.views.Item.{Item}
use Rattle.core_state.specs.declared.views.Item.TheVariants as item
use Rattle.core_state.specs.declared.views.Known.{Known}
use Rattle.core_state.specs.declared.views.Known.TheVariants as known
use Rattle.core_state.specs.declared.views.Word.{Word}
use Rattle.core_state.specs.declared.views.Word.TheVariants as word
use Rattle.core_state.specs.declared.views.View.{View}
use Rattle.core_state.proofs.Base.Bits.{bit_set_here, bit_set_else, life_set, set_low}
use Rattle.core_state.proofs.Base.Frame.{SameKeys, keys_stay, had, posted_same}
use Rattle.core_state.proofs.Base.MoreRecords.{all_closed_grows}
use Rattle.core_state.proofs.Base.Counting.{three_here, three_apart, three_else, two_tells, two_here}
use Rattle.core_state.proofs.Replace.Lives.{replaced_below}
use Rattle.core_state.proofs.Spend.Answer.{IsTold, AllOthers}
use Rattle.core_state.proofs.Base.ItemMoves.{Still, moved_still, moved_falls, moved_begun, moved_ends_up}
use Rattle.core_state.proofs.Base.WeakFrame.{wide_needs, wide_waiting, wide_lives, wide_computings, wide_root, wide_causes, wide_strikes, wide_facts, wide_blocks, wide_no_fault}
use Rattle.core_state.proofs.Replace.Suspects.{descriptor_low, none_struck}
use Rattle.core_state.proofs.Spend.View.{is_fresh, is_last, is_marked, SpendView, and_fails, and_low, seen_other, seen_life, seen_mark}

-- a test that neither sees what the item at work has still to do, nor passes what spending adds
pub record Apart (p : Item → Bool) : Type 0 where
  pub still : Still p
  pub owe : (a l : ℕ) → p (item.Owe a Compute l) ≡ false
  pub suspect : (a l : ℕ) → p (item.Suspect a l cause.Descriptor false) ≡ false

abbrev plain_still : {p : Item → Bool} → ((a l i : ℕ) → p (item.Explore a l i) ≡ false) → ((a l w q : ℕ) (qs : List ℕ) → p (item.Notify a l w qs) ≡ p (item.Notify a l w (q ∷ qs))) → ((a l q : ℕ) (qs : List ℕ) → p (item.Reenter a l qs) ≡ p (item.Reenter a l (q ∷ qs))) → Still p
plain_still a b d = record { explore = a; notify = b; reenter = d }

either : (b : Bool) → (b ≡ true) ⊎ (b ≡ false)
either true = inl refl
either false = inr refl

module _ (e : Setting) (fit : Sound e) (s t : Core) (r k j n : ℕ) (x : Told) (v w : View) (c : Change s t (descriptor r) n (bit_or n (2 ^ j)) v w) (has : HasKey e s r k) (place : IsPlace e.graph k j) (small : j ≤ 40)
    (is : IsTold e.graph k j n x) (u : SpendView e k j n x v w) (closed_edge : j < e.graph.places k → 0 < many s (is_closing (e.graph.pred k j).task ((e.graph.pred k j).port / 40))) (inv : Invariant e s) (sums : Sums s) where
  wd : (a : Spot) → (descriptor r ≡ a → ⊥) → t.word a ≡ s.word a
  wd a ne = c.others a (λ q. ne (sym q))

  eq : (f : View → ℕ) → f w ≡ f v → t.total f ≡ s.total f
  eq f q = let a = c.sums f in omega (arith, a, q)

  keys_same : SameKeys s t
  keys_same y = wd (key y) (λ q. cc)

  -- items, records and facts
  apart : (p : Item → Bool) → Apart p → items p w ≡ items p v
  apart p q = let a = u.added p in let b = and_fails (is_last x) (p (item.Owe k Compute (life_of n))) (q.owe k (life_of n)) in let d = and_fails (is_marked x) (p (item.Suspect k (life_of n) cause.Descriptor false)) (q.suspect k (life_of n)) in let f = moved_still p q.still e.graph v in omega (arith, a, b, d, f)

  it : (p : Item → Bool) → Apart p → t.total (items p) ≡ s.total (items p)
  it p q = eq (items p) (apart p q)

  more : (p : Record → Bool) → many s p ≤ many t p
  more p = let a = c.sums (noted p) in let b = u.noted_more p in omega (arith, a, b)

  rec : (p : Record → Bool) → p (record_of.Spent (key_of k) (life_of n) j) ≡ false → many t p ≡ many s p
  rec p q = eq (noted p) (let a = u.noted_more p in let b = and_fails (is_fresh x) (p (record_of.Spent (key_of k) (life_of n) j)) q in omega (arith, a, b))

  known_same : (p : Known → Bool) → ((l : ℕ) → p (known.Life k word.Descriptor l) ≡ false) → ((l : ℕ) → p (known.Mark k word.Descriptor l) ≡ false) → t.total (facts p) ≡ s.total (facts p)
  known_same p life mark = eq (facts p) (ap (count p) u.known_is ∙ seen_other p k word.Descriptor n v.known life mark)

  spent_more : (m l i : ℕ) → many t (is_spent m l i) ≡ many s (is_spent m l i) + hit (is_fresh x && three m l i k (life_of n) j)
  spent_more m l i = let a = c.sums (noted (is_spent m l i)) in let b = u.noted_more (is_spent m l i) in omega (arith, a, b)

  spent_else : (m l i : ℕ) → ((m ≡ k) × (l ≡ life_of n) × (i ≡ j) → ⊥) → many t (is_spent m l i) ≡ many s (is_spent m l i)
  spent_else m l i ne = let a = spent_more m l i in let b = three_apart m l i k (life_of n) j ne in let d = and_low (is_fresh x) (three m l i k (life_of n) j) in omega (arith, a, b, d)

  -- rows and words
  row_of : (y m : ℕ) → HasKey e s y m → y ≡ r → m ≡ k
  row_of y m it q = let a = it.1 in let b = has.1 in let d = ap (λ z. s.word (key z)) q in omega (arith, a, b, d)

  mark_kept : mark_of (bit_or n (2 ^ j)) ≡ mark_of n
  mark_kept = bit_set_else n j 41 (λ q. omega (arith, q, small))

  life_kept : life_of (bit_or n (2 ^ j)) ≡ life_of n
  life_kept = life_set n j (omega (arith, small))

  old_word : (y : ℕ) → y ≡ r → s.word (descriptor y) ≡ n
  old_word y q = ap (λ z. s.word (descriptor z)) q ∙ c.found_is

  new_word : (y : ℕ) → y ≡ r → t.word (descriptor y) ≡ bit_or n (2 ^ j)
  new_word y q = ap (λ z. t.word (descriptor z)) q ∙ c.left_is

  other_word : (y : ℕ) → y ≢ r → t.word (descriptor y) ≡ s.word (descriptor y)
  other_word y ne = c.others (descriptor y) (λ q. ne (let z : y ≡ r = cc in z))

  shown : (y : ℕ) (z : Word) → (life_shown z (t.word (spot_of y z)) ≡ life_shown z (s.word (spot_of y z))) × (mark_shown z (t.word (spot_of y z)) ≡ mark_shown z (s.word (spot_of y z)))
  shown y word.Descriptor = dite (ℕ_discrete y r)
      (λ q. (ap life_of (new_word y q) ∙ life_kept ∙ sym (ap life_of (old_word y q)), ap mark_of (new_word y q) ∙ mark_kept ∙ sym (ap mark_of (old_word y q))))
      (λ ne. (ap life_of (other_word y ne), ap mark_of (other_word y ne)))
  shown y (word.Notify z) = (ap life_of (wd (notify y z) (λ q. cc)), ap mark_of (wd (notify y z) (λ q. cc)))
  shown y word.Recovery = (ap standing_life (wd (recovery y) (λ q. cc)), refl)

  shows : Shows e s k n
  shows = subst (Shows e s k) c.found_is (inv.content.descriptors r k has)

  -- the life that the descriptor shows is that which stands, or the next one
  shown_low : life_of n ≤ standing_life (s.word (recovery r)) + replacing (s.word (recovery r))
  shown_low = let a = descriptor_low e s r k (s.word (recovery r)) (inv.lives.each r k has) in let f = ap life_of c.found_is in omega (arith, a, f)

  pub spend_empty : Empty e t
  spend_empty = record {
    no_descriptor = λ y z. let old : s.word (key y) ≡ 0 = sym (keys_same y) ∙ z in other_word y (λ q. let a = has.1 in let b = ap (λ z. s.word (key z)) q in omega (arith, a, b, old)) ∙ inv.empty.no_descriptor y old;
    no_notify = λ y m z. wd (notify y m) (λ q. cc) ∙ inv.empty.no_notify y m (sym (keys_same y) ∙ z);
    no_recovery = λ y z. wd (recovery y) (λ q. cc) ∙ inv.empty.no_recovery y (sym (keys_same y) ∙ z);
    no_job = λ i y z. wd (posted i y) (λ q. cc) ∙ inv.empty.no_job i y (sym (keys_same y) ∙ z);
    beyond = λ y m z it' low. wd (notify y z) (λ q. cc) ∙ inv.empty.beyond y m z (it'.0, sym (keys_same y) ∙ it'.1) low;
  }

  -- bits and records agree
  tells : mark_of n ≡ 0 → (i : ℕ) → bit_at (bit_or n (2 ^ j)) i ≡ bit_at n i + hit (is_fresh x && three k (life_of n) i k (life_of n) j)
  tells = by x is
    where
      free : bit_at n j ≡ 0 → (i : ℕ) → bit_at (bit_or n (2 ^ j)) i ≡ bit_at n i + hit (three k (life_of n) i k (life_of n) j)
      free z i = dite (ℕ_discrete i j)
          (λ q. let a = bit_set_here n j in let b = three_here k (life_of n) j in let d : bit_at (bit_or n (2 ^ j)) i ≡ bit_at (bit_or n (2 ^ j)) j = ap (bit_at (bit_or n (2 ^ j))) q in let f : bit_at n i ≡ bit_at n j = ap (bit_at n) q in
          let g : hit (three k (life_of n) i k (life_of n) j) ≡ hit (three k (life_of n) j k (life_of n) j) = ap (λ y. hit (three k (life_of n) y k (life_of n) j)) q in omega (arith, a, b, d, f, g, z))
          (λ ne. let a = bit_set_else n j i ne in let b = three_apart k (life_of n) i k (life_of n) j (λ q. ne q.2) in omega (arith, a, b))

      by : (y : Told) → IsTold e.graph k j n y → mark_of n ≡ 0 → (i : ℕ) → bit_at (bit_or n (2 ^ j)) i ≡ bit_at n i + hit (is_fresh y && three k (life_of n) i k (life_of n) j)
      by (told.Spent l) q plain i = free q.2 i
      by (told.Last l) q plain i = free q.2 i
      by (told.Already l) q plain i = dite (ℕ_discrete i j)
          (λ z. let a = bit_set_here n j in let b = q.2 in let d : bit_at (bit_or n (2 ^ j)) i ≡ bit_at (bit_or n (2 ^ j)) j = ap (bit_at (bit_or n (2 ^ j))) z in let f : bit_at n i ≡ bit_at n j = ap (bit_at n) z in omega (arith, a, b, d, f))
          (λ ne. let a = bit_set_else n j i ne in omega (arith, a))
      by (told.Struck l) q plain i = absurd (let a = q.1 in omega (arith, a, plain))

  -- where the word is marked, nothing is spent
  quiet : mark_of n ≡ 1 → is_fresh x ≡ false
  quiet = by x is
    where
      by : (y : Told) → IsTold e.graph k j n y → mark_of n ≡ 1 → is_fresh y ≡ false
      by (told.Spent l) q m = absurd (let a = q.1 in omega (arith, a, m))
      by (told.Last l) q m = absurd (let a = q.1 in omega (arith, a, m))
      by (told.Already l) q m = refl
      by (told.Struck l) q m = refl

  -- the new records of the shown life are what the new word shows
  now_shown : mark_of n ≡ 0 → (i : ℕ) → i ≤ 40 → bit_at (bit_or n (2 ^ j)) i ≡ many t (is_spent k (life_of n) i)
  now_shown plain i low = let a = tells plain i in let b = shows.spent plain i low in let d = spent_more k (life_of n) i in omega (arith, a, b, d)

  pub spend_content : Content e t
  spend_content = record {
    descriptors = λ y m it'. let old = had e s t keys_same y m it' in dite (ℕ_discrete y r)
        (λ q. subst (λ z. Shows e t z (t.word (descriptor y))) (sym (row_of y m old q)) (subst (Shows e t k) (sym (new_word y q)) record {
          other_bits = set_low n j shows.other_bits (omega (arith, small));
          spent = λ z i low. subst (λ l. bit_at (bit_or n (2 ^ j)) i ≡ many t (is_spent k l i)) (sym life_kept) (now_shown (sym mark_kept ∙ z) i low);
          struck = λ z. subst (λ l. 0 < many t (is_struck k l hit_of.Descriptor)) (sym life_kept) (let a = shows.struck (sym mark_kept ∙ z) in let b = more (is_struck k (life_of n) hit_of.Descriptor) in omega (arith, a, b));
          root = λ z. mark_kept ∙ shows.root z;
          spent_later = λ l i less. spent_else k l i (λ q. let a = q.1 in omega (arith, a, less, life_kept)) ∙ shows.spent_later l i (subst (λ y. y < l) life_kept less);
          struck_later = λ l less. rec (is_struck k l hit_of.Descriptor) refl ∙ shows.struck_later l (subst (λ y. y < l) life_kept less);
        }))
        (λ ne. subst (Shows e t m) (sym (other_word y ne)) (let o = inv.content.descriptors y m old in let d : ℕ = s.word (descriptor y) in let apart_key : m ≢ k = λ q. ne (inv.keys.one_row y r k (subst (HasKey e s y) q old) has) in record {
          other_bits = o.other_bits;
          spent = λ z i low. o.spent z i low ∙ sym (spent_else m (life_of d) i (λ q. apart_key q.0));
          struck = λ z. let a = o.struck z in let b = more (is_struck m (life_of d) hit_of.Descriptor) in omega (arith, a, b);
          root = o.root;
          spent_later = λ l i less. spent_else m l i (λ q. apart_key q.0) ∙ o.spent_later l i less;
          struck_later = λ l less. rec (is_struck m l hit_of.Descriptor) refl ∙ o.struck_later l less;
        }));
    notify_words = λ y m z it' low. subst (Lists e t m z) (sym (wd (notify y z) (λ q. cc))) (let o = inv.content.notify_words y m z (had e s t keys_same y m it') low in let d : ℕ = s.word (notify y z) in record {
      other_bits = o.other_bits;
      closing = λ q. o.closing q ∙ sym (rec (is_closed m (life_of d) z) refl);
      waiting = λ q f b less. o.waiting q f b less ∙ ap (min 1) (sym (known_same (waits_at m (life_of d) (40 * z + b)) (λ l. refl) (λ l. refl)));
      registered = λ q b less some. o.registered q b less (let a = known_same (waits_at m (life_of d) (40 * z + b)) (λ l. refl) (λ l. refl) in omega (arith, a, some));
      struck = λ q. let a = o.struck q in let b = more (is_struck m (life_of d) (hit_of.Notify z)) in omega (arith, a, b);
      root = o.root;
      closed_later = λ l less. rec (is_closed m l z) refl ∙ o.closed_later l less;
      waiting_later = λ l b less low'. known_same (waits_at m l (40 * z + b)) (λ y. refl) (λ y. refl) ∙ o.waiting_later l b less low';
      struck_later = λ l less. rec (is_struck m l (hit_of.Notify z)) refl ∙ o.struck_later l less;
    });
  }

  pub spend_keys : Keys e t
  spend_keys = keys_stay e s t keys_same (λ y m z. inv.keys.known y m (let a = known_same (is_row y m) (λ l. refl) (λ l. refl) in omega (arith, a, z)))
      (λ m z. dite (ℕ_discrete m k) (λ q. (r, subst (HasKey e s r) (sym q) has)) (λ ne. inv.keys.of_item m (let a = c.sums (items (is_at m)) in let b = u.added (is_at m) in let d = and_fails (is_last x) (eqb m k) (ne_eqb m k ne) in let f = and_fails (is_marked x) (eqb m k) (ne_eqb m k ne) in
      let g = moved_falls (is_at m) record { explore = λ a l i. omega arith; notify = λ a l y q qs. omega arith; reenter = λ a l q qs. omega arith } e.graph v in omega (arith, a, b, d, f, g, z))))
      (λ i m l z. ⊎_elim (λ q. inv.keys.of_ended i m l (let a = eq (ended i m l) (ap (count (Rattle.core_state.specs.Tests.is_ended i m l)) u.ended_is ∙ q) in omega (arith, a, z))) (λ q. (r, subst (HasKey e s r) (sym q) has)) (u.ends i m l))
      (λ p l q z. inv.keys.of_waiting p l q (let a = known_same (waits_at p l q) (λ y. refl) (λ y. refl) in omega (arith, a, z)))
      (λ p q z. inv.keys.of_notify p q (let a = c.sums (items (notifies p q)) in let b = u.added (notifies p q) in let d = and_fails (is_last x) false refl in let f = and_fails (is_marked x) false refl in
      let g = moved_falls (notifies p q) record { explore = λ a l i. omega arith; notify = λ a l y z qs. fewer_ports p q a z qs; reenter = λ a l q qs. omega arith } e.graph v in omega (arith, a, b, d, f, g, z)))
      (λ b y z. inv.keys.of_cause b y (let a = it (suspects_block b y) record { still = plain_still (λ a l i. refl) (λ a l y q qs. refl) (λ a l q qs. refl); owe = λ a l. refl; suspect = λ a l. refl } in omega (arith, a, z)))
      (λ m. rec (is_created m) refl) inv.keys
    where
      fewer_ports : (p q a y : ℕ) (qs : List ℕ) → hit (eqb p a && Rattle.core_state.specs.Tests.is_in q qs) ≤ hit (eqb p a && Rattle.core_state.specs.Tests.is_in q (y ∷ qs))
      fewer_ports p q a y qs = by (eqb p a) (eqb q y)
        where
          by : (b d : Bool) → hit (b && Rattle.core_state.specs.Tests.is_in q qs) ≤ hit (b && cond d true (Rattle.core_state.specs.Tests.is_in q qs))
          by true true = Rattle.core_state.proofs.Base.Counting.hit_le (Rattle.core_state.specs.Tests.is_in q qs)
          by true false = omega arith
          by false d = omega arith

  -- a life of the key is newly suspected where the word is marked
  marked : is_marked x ≡ true → mark_of n ≡ 1
  marked = by x is
    where
      by : (y : Told) → IsTold e.graph k j n y → is_marked y ≡ true → mark_of n ≡ 1
      by (told.Spent l) q z = absurd cc
      by (told.Last l) q z = absurd cc
      by (told.Already l) q z = absurd cc
      by (told.Struck l) q z = q.1

  last_told : is_last x ≡ true → (mark_of n ≡ 0) × (bit_at n j ≡ 0) × AllOthers e.graph k j n
  last_told = by x is
    where
      by : (y : Told) → IsTold e.graph k j n y → is_last y ≡ true → (mark_of n ≡ 0) × (bit_at n j ≡ 0) × AllOthers e.graph k j n
      by (told.Spent l) q z = absurd cc
      by (told.Last l) q z = (q.1, q.2, q.3)
      by (told.Already l) q z = absurd cc
      by (told.Struck l) q z = absurd cc

  suspect_still : (m l : ℕ) → Still (is_suspect m l)
  suspect_still m l = record { explore = λ a d i. refl; notify = λ a d y q qs. refl; reenter = λ a d q qs. refl }

  suspects_view : (m l : ℕ) → items (is_suspect m l) w ≡ items (is_suspect m l) v + hit (is_marked x && two m l k (life_of n))
  suspects_view m l = let b = u.added (is_suspect m l) in let d = and_fails (is_last x) false refl in let f = moved_still (is_suspect m l) (suspect_still m l) e.graph v in omega (arith, b, d, f)

  suspects : (m l : ℕ) → (t.total (items (is_suspect m l)) ≡ s.total (items (is_suspect m l))) ⊎ ((m ≡ k) × (l ≡ life_of n) × (is_marked x ≡ true))
  suspects m l = let a = suspects_view m l in ⊎_elim (λ z. inl (eq (items (is_suspect m l)) (let b = and_fails (is_marked x) (two m l k (life_of n)) z in omega (arith, a, b))))
      (λ z. ⊎_elim (λ q. inr (z.1, z.2, q)) (λ q. inl (eq (items (is_suspect m l)) (let b : hit (is_marked x && two m l k (life_of n)) ≡ 0 = ap (λ (y : Bool). hit (y && two m l k (life_of n))) q in omega (arith, a, b)))) (either (is_marked x))) (two_tells m l k (life_of n))

  at_row : (y m : ℕ) → HasKey e s y m → m ≡ k → y ≡ r
  at_row y m old q = inv.keys.one_row y r k (subst (HasKey e s y) q old) has

  pub spend_lives : Lives e t
  spend_lives = wide_lives e s t keys_same (λ y. wd (recovery y) (λ q. cc)) shown
      (λ m. it (is_renew m) record { still = plain_still (λ a l i. refl) (λ a l y q qs. refl) (λ a l q qs. refl); owe = λ a l. refl; suspect = λ a l. refl })
      (λ m l d. it (is_renew_at m l d) record { still = plain_still (λ a l i. refl) (λ a l y q qs. refl) (λ a l q qs. refl); owe = λ a l. refl; suspect = λ a l. refl })
      (λ y m l old z. ⊎_elim (λ q. (inv.lives.each y m old).suspected l (omega (arith, q, z)))
      (λ q. let here = at_row y m old q.0 in let low = shown_low in let a = q.1 in (omega (arith, a), subst (λ d. l ≤ standing_life (s.word (recovery d)) + replacing (s.word (recovery d))) (sym here) (omega (arith, a, low)))) (suspects m l)) inv.lives

  pub spend_facts : Facts e t
  spend_facts = wide_facts e s t keys_same shown more
      (λ y m l z old some. ⊎_elim (λ q. inv.facts.life y m l z old (let a = eq (facts (is_seen_life m z l)) (ap (count (is_seen_life m z l)) u.known_is ∙ q) in omega (arith, a, some)))
      (λ q. subst (λ (d : Word). l ≤ life_shown d (s.word (spot_of y d))) (sym q.2) (let a = q.1 in let b = ap life_of (old_word y (at_row y m old q.0)) in omega (arith, a, b))) (seen_life m l z k n v.known))
      (λ y m l z old some. ⊎_elim (λ q. inv.facts.mark y m l z old (let a = eq (facts (is_seen_mark m z l)) (ap (count (is_seen_mark m z l)) u.known_is ∙ q) in omega (arith, a, some)))
      (λ q. subst (λ (d : Word). (l < life_shown d (s.word (spot_of y d))) ⊎ ((l ≡ life_shown d (s.word (spot_of y d))) × (mark_shown d (s.word (spot_of y d)) ≡ 1))) (sym q.2)
      (inr (let b = ap life_of (old_word y (at_row y m old q.0)) in q.1 ∙ sym b, ap mark_of (old_word y (at_row y m old q.0)) ∙ q.3))) (seen_mark m l z k n v.known))
      (λ m l z some. ⊎_elim (λ q. inv.facts.row_of_life m l z (let a = eq (facts (is_seen_life m z l)) (ap (count (is_seen_life m z l)) u.known_is ∙ q) in omega (arith, a, some))) (λ q. (r, subst (HasKey e s r) (sym q.0) has)) (seen_life m l z k n v.known))
      (λ m l z some. ⊎_elim (λ q. inv.facts.row_of_mark m l z (let a = eq (facts (is_seen_mark m z l)) (ap (count (is_seen_mark m z l)) u.known_is ∙ q) in omega (arith, a, some))) (λ q. (r, subst (HasKey e s r) (sym q.0) has)) (seen_mark m l z k n v.known))
      (λ m l z some. inv.facts.closed m l z (let a = known_same (is_seen_closed m l z) (λ y. refl) (λ y. refl) in omega (arith, a, some)))
      (λ z. wd pending (λ q. cc) ∙ inv.facts.idle (let a = known_same is_idle (λ y. refl) (λ y. refl) in omega (arith, a, z))) (λ z. wd stop (λ q. cc) ∙ inv.facts.stopped (let a = known_same is_stopped (λ y. refl) (λ y. refl) in omega (arith, a, z)))
      (wd stop (λ q. cc) ∙ inv.facts.stops ∙ ap (min 1) (sym (known_same is_stops (λ y. refl) (λ y. refl))))

  pub spend_credits : Credits e t
  spend_credits = record {
    sum = let a = posted_same s.word t.word e.shape.rows (λ i y. wd (posted i y) (λ q. cc)) in let b = eq stack_count u.stacks_as_many in let d = eq spare u.spare_same in let f = wd pending (λ q. cc) in let g = inv.work.credits.sum in omega (arith, a, b, d, f, g);
    few_spare = let a = c.sums too_many in let b = u.added Rattle.core_state.specs.Tests.is_owe in let d = moved_still Rattle.core_state.specs.Tests.is_owe record { explore = λ a l i. refl; notify = λ a l y q qs. refl; reenter = λ a l q qs. refl } e.graph v in let f = u.spare_same in
        let g : too_many w ≤ too_many v = omega (arith, b, d, f) in let h = inv.work.credits.few_spare in let y = c.within too_many in omega (arith, a, g, h, y);
  }

  -- jobs
  owe_carries : (i : Job) (m l a b : ℕ) → carries i m l (item.Owe a Compute b) ≡ false
  owe_carries Explore m l a b = refl
  owe_carries Compute m l a b = refl

  suspect_carries : (i : Job) (m l a b : ℕ) → carries i m l (item.Suspect a b cause.Descriptor false) ≡ false
  suspect_carries Explore m l a b = refl
  suspect_carries Compute m l a b = refl

  begun_view : (i : Job) (m l : ℕ) → begun i m l w ≡ begun i m l v
  begun_view i m l = let a = u.added (carries i m l) in let b = and_fails (is_last x) (carries i m l (item.Owe k Compute (life_of n))) (owe_carries i m l k (life_of n)) in
      let d = and_fails (is_marked x) (carries i m l (item.Suspect k (life_of n) cause.Descriptor false)) (suspect_carries i m l k (life_of n)) in let f = ap (count (Rattle.core_state.specs.Tests.is_ended i m l)) u.ended_is in let g = moved_begun i m l e.graph v in omega (arith, a, b, d, f, g)

  held_ended : (i : Job) (m l : ℕ) → t.total (held i m l) + t.total (ended i m l) ≡ s.total (held i m l) + s.total (ended i m l)
  held_ended i m l = let a = c.sums (held i m l) in let b = c.sums (ended i m l) in let d = begun_view i m l in omega (arith, a, b, d)

  owed_explore : (m l : ℕ) → t.total (owed Explore m l) ≡ s.total (owed Explore m l)
  owed_explore m l = it (is_owed Explore m l) record { still = plain_still (λ a l i. refl) (λ a l y q qs. refl) (λ a l q qs. refl); owe = λ a l. refl; suspect = λ a l. refl }

  owed_view : (m l : ℕ) → owed Compute m l w ≡ owed Compute m l v + hit (is_last x && two m l k (life_of n))
  owed_view m l = let b = u.added (is_owed Compute m l) in let d = and_fails (is_marked x) false refl in let f = moved_still (is_owed Compute m l) record { explore = λ a d i. refl; notify = λ a d y q qs. refl; reenter = λ a d q qs. refl } e.graph v in omega (arith, b, d, f)

  owed_compute : (m l : ℕ) → t.total (owed Compute m l) ≡ s.total (owed Compute m l) + hit (is_last x && two m l k (life_of n))
  owed_compute m l = let a = c.sums (owed Compute m l) in let b = owed_view m l in omega (arith, a, b)

  new_or : (m l : ℕ) → (hit (is_last x && two m l k (life_of n)) ≡ 0) ⊎ ((is_last x ≡ true) × (m ≡ k) × (l ≡ life_of n))
  new_or m l = ⊎_elim (λ z. inl (and_fails (is_last x) (two m l k (life_of n)) z)) (λ z. ⊎_elim (λ q. inr (q, z.1, z.2)) (λ q. inl (ap (λ (y : Bool). hit (y && two m l k (life_of n))) q)) (either (is_last x))) (two_tells m l k (life_of n))

  post_same : (i : Job) (y l : ℕ) → hit (eqb l (t.word (posted i y))) ≡ hit (eqb l (s.word (posted i y)))
  post_same i y l = ap (λ z. hit (eqb l z)) (wd (posted i y) (λ q. cc))

  count_explore : (y m l : ℕ) → job_count e t Explore y m l ≡ job_count e s Explore y m l
  count_explore y m l = let a = owed_explore m l in let b = held_ended Explore m l in let d = post_same Explore y l in omega (arith, a, b, d)

  count_compute : (y m l : ℕ) → job_count e t Compute y m l ≡ job_count e s Compute y m l + hit (is_last x && two m l k (life_of n))
  count_compute y m l = let a = owed_compute m l in let b = held_ended Compute m l in let d = post_same Compute y l in omega (arith, a, b, d)

  unspent : is_last x ≡ true → many s (is_spent k (life_of n) j) ≡ 0
  unspent z = let q = last_told z in sym (shows.spent q.0 j small) ∙ q.1

  none_yet : is_last x ≡ true → job_count e s Compute r k (life_of n) ≡ 0
  none_yet z = dite (ℕ_discrete (job_count e s Compute r k (life_of n)) 0) (λ q. q) (λ ne. absurd (let a = inv.work.jobs.ready r k (life_of n) j has (omega arith) (omega (arith, ne)) place in let b = unspent z in omega (arith, a, b)))

  places_small : (i : ℕ) → IsPlace e.graph k i → i ≤ 40
  places_small i at = let a = fit.lawful.few_places k in ⊎_elim (λ l. omega (arith, a, l)) (λ q. omega (arith, q)) at

  -- after the last one each place of the life is spent
  all_spent : is_last x ≡ true → (i : ℕ) → IsPlace e.graph k i → 0 < many t (is_spent k (life_of n) i)
  all_spent z i at = let q = last_told z in let b = now_shown q.0 i (places_small i at) in dite (ℕ_discrete i j)
      (λ y. let a = bit_set_here n j in let d : bit_at (bit_or n (2 ^ j)) i ≡ bit_at (bit_or n (2 ^ j)) j = ap (bit_at (bit_or n (2 ^ j))) y in omega (arith, a, b, d))
      (λ ne. let a = q.2 i at ne in let d = bit_set_else n j i ne in omega (arith, a, b, d))

  none_of_zero : (i : Job) (m : ℕ) → t.total (owed i m 0) ≡ s.total (owed i m 0)
  none_of_zero Explore m = owed_explore m 0
  none_of_zero Compute m = let a = owed_compute m 0 in ⊎_elim (λ z. omega (arith, a, z)) (λ z. absurd (let b = z.2 in omega (arith, b))) (new_or m 0)

  pub spend_jobs : Jobs e t
  spend_jobs = record {
    explored = λ y m l it' some low. count_explore y m l ∙ inv.work.jobs.explored y m l (had e s t keys_same y m it') some (subst (λ z. l ≤ standing_life z) (wd (recovery y) (λ q. cc)) low);
    not_explored = λ y m l it' less. count_explore y m l ∙ inv.work.jobs.not_explored y m l (had e s t keys_same y m it') (subst (λ z. standing_life z < l) (wd (recovery y) (λ q. cc)) less);
    computed = λ y m l it' some. let old = had e s t keys_same y m it' in let a = count_compute y m l in ⊎_elim (λ z. let b = inv.work.jobs.computed y m l old some in omega (arith, a, b, z))
        (λ z. let b = none_yet z.0 in let d : job_count e s Compute y m l ≡ job_count e s Compute r k (life_of n) = ap (λ q. job_count e s Compute q m l) (at_row y m old z.1) ∙ ap (λ q. job_count e s Compute r q l) z.1 ∙ ap (job_count e s Compute r k) z.2 in let f = Rattle.core_state.proofs.Base.Counting.hit_le (is_last x && two m l k (life_of n)) in omega (arith, a, b, d, f)) (new_or m l);
    not_computed = λ y m l it' less. let old = had e s t keys_same y m it' in let a = count_compute y m l in let life = (shown y word.Descriptor).0 in ⊎_elim (λ z. let b = inv.work.jobs.not_computed y m l old (subst (λ q. q < l) life less) in omega (arith, a, b, z))
        (λ z. absurd (let b = ap life_of (old_word y (at_row y m old z.1)) in let d = z.2 in omega (arith, b, d, life, less))) (new_or m l);
    some_life = λ i m. let a = none_of_zero i m in let b = held_ended i m 0 in let d = inv.work.jobs.some_life i m in omega (arith, a, b, d);
    ready = λ y m l i it' some z at. let old = had e s t keys_same y m it' in let a = count_compute y m l in ⊎_elim (λ q. let b = inv.work.jobs.ready y m l i old some (omega (arith, a, q, z)) at in let d = more (is_spent m l i) in omega (arith, b, d))
        (λ q. subst (λ o. 0 < many t (is_spent o l i)) (sym q.1) (subst (λ o. 0 < many t (is_spent k o i)) (sym q.2) (all_spent q.0 i (subst (λ o. IsPlace e.graph o i) q.1 at)))) (new_or m l);
    came = λ i m l. let a = eq (came i m l) (u.comes i m l) in let b = eq (begun i m l) (begun_view i m l) in let d = inv.work.jobs.came i m l in omega (arith, a, b, d);
  }

  -- a life whose last place was just spent has no result
  no_result : is_last x ≡ true → many s (is_computed k (life_of n)) ≡ 0
  no_result z = dite (ℕ_discrete (many s (is_computed k (life_of n))) 0) (λ q. q) (λ ne. absurd (let a = inv.records.computed.computed_ready k (life_of n) j (omega (arith, ne)) place in let b = unspent z in omega (arith, a, b)))

  not_written : is_last x ≡ true → many s (is_written k (life_of n)) ≡ 0
  not_written z = dite (ℕ_discrete (many s (is_written k (life_of n))) 0) (λ q. q) (λ ne. absurd (let a = inv.records.computed.written_computed k (life_of n) (omega (arith, ne)) in let b = no_result z in omega (arith, a, b)))

  pub spend_computings : Computings e t
  spend_computings = wide_computings e s t keys_same
      (λ y m l old some z. let a = owed_compute m l in let b = post_same Compute y l in let d = it (is_unmade m l) record { still = plain_still (λ a l i. refl) (λ a l y q qs. refl) (λ a l q qs. refl); owe = λ a l. refl; suspect = λ a l. refl } in ⊎_elim (λ q. (inv.work.computings.each y m l old some).unmade (omega (arith, a, b, d, q, z)))
      (λ q. ap (λ o. many s (is_computed o l)) q.1 ∙ ap (λ o. many s (is_computed k o)) q.2 ∙ no_result q.0) (new_or m l))
      (λ y m l old some z. let a = owed_compute m l in let b = post_same Compute y l in let d = it (is_compute m l) record { still = plain_still (λ a l i. refl) (λ a l y q qs. refl) (λ a l q qs. refl); owe = λ a l. refl; suspect = λ a l. refl } in ⊎_elim (λ q. (inv.work.computings.each y m l old some).unwritten (omega (arith, a, b, d, q, z)))
      (λ q. ap (λ o. many s (is_written o l)) q.1 ∙ ap (λ o. many s (is_written k o)) q.2 ∙ not_written q.0) (new_or m l))
      (λ m l z. let a = it (is_made m l) record { still = plain_still (λ a l i. refl) (λ a l y q qs. refl) (λ a l q qs. refl); owe = λ a l. refl; suspect = λ a l. refl } in omega (arith, a, z)) (λ m l z. let a = it (is_close m l) record { still = plain_still (λ a l i. refl) (λ a l y q qs. refl) (λ a l q qs. refl); owe = λ a l. refl; suspect = λ a l. refl } in omega (arith, a, z)) (λ m l y z. let a = it (is_close_from m l y) record { still = plain_still (λ a l i. refl) (λ a l y q qs. refl) (λ a l q qs. refl); owe = λ a l. refl; suspect = λ a l. refl } in omega (arith, a, z)) (λ m l y z. let a = it (is_notify m l y) record { still = plain_still (λ a l i. refl) (λ a l y q qs. refl) (λ a l q qs. refl); owe = λ a l. refl; suspect = λ a l. refl } in omega (arith, a, z))
      (λ m l z. let a = eq (begun Compute m l) (begun_view Compute m l) in omega (arith, a, z)) (it (is_made_early e.graph) record { still = plain_still (λ a l i. refl) (λ a l y q qs. refl) (λ a l q qs. refl); owe = λ a l. refl; suspect = λ a l. refl })
      (λ m l. rec (is_computed m l) refl) (λ m l. rec (is_written m l) refl) (λ m l y. rec (is_closed m l y) refl) inv.work.computings

  -- the root is never suspected here
  root_clear : (l : ℕ) → t.total (items (is_suspect e.graph.root l)) ≡ s.total (items (is_suspect e.graph.root l))
  root_clear l = ⊎_elim (λ q. q) (λ q. absurd (let a = shows.root (sym q.0) in let b = marked q.2 in omega (arith, a, b))) (suspects e.graph.root l)

  hands_same : (b : ℕ) → in_hand b w ≡ in_hand b v
  hands_same b = ap (count (is_hand b)) u.hands_are

  wrong_same : (b m : ℕ) → in_wrong_hand b m w ≡ in_wrong_hand b m v
  wrong_same b m = ap (λ y. cond (eqb y 0) (in_hand b w) 0) (apart (is_made_any m) record { still = plain_still (λ a l i. refl) (λ a l y q qs. refl) (λ a l q qs. refl); owe = λ a l. refl; suspect = λ a l. refl }) ∙ ap (λ y. cond (eqb (items (is_made_any m) v) 0) y 0) (hands_same b)

  pub spend_root : RootWork e t
  spend_root = wide_root e s t (λ l z. let a = root_clear l in omega (arith, a, z)) (λ l. rec (is_replaced e.graph.root l) refl)
      (λ l. let a = c.sums (ended Compute e.graph.root l) in let b = moved_ends_up Compute e.graph.root l e.graph v in let d : ended Compute e.graph.root l w ≡ ended Compute e.graph.root l (moved e.graph v) = ap (count (Rattle.core_state.specs.Tests.is_ended Compute e.graph.root l)) u.ended_is in omega (arith, a, b, d))
      (λ l. rec (is_computed e.graph.root l) refl) (λ b m. let a = eq (in_wrong_hand b m) (wrong_same b m) in omega (arith, a)) (λ b. eq (in_hand b) (hands_same b)) (λ b. c.blocks b (λ q. cc)) inv.work.root

  pub spend_blocks : Blocks e t
  spend_blocks = wide_blocks e s t (λ b. wd (turn b) (λ q. cc)) (λ b. eq (in_hand b) (hands_same b)) more (λ b y. rec (is_version b y) refl) (λ b. c.blocks b (λ q. cc)) inv.blocks

  new_spent : (m l i : ℕ) → (many t (is_spent m l i) ≡ many s (is_spent m l i)) ⊎ ((m ≡ k) × (l ≡ life_of n) × (i ≡ j))
  new_spent m l i = ⊎_elim (λ z. inl (let a = spent_more m l i in let b = and_low (is_fresh x) (three m l i k (life_of n) j) in omega (arith, a, b, z))) (λ z. inr z) (three_else m l i k (life_of n) j)

  -- of this place of this life at most one record stands
  spent_here : many t (is_spent k (life_of n) j) ≤ 1
  spent_here = dite (ℕ_discrete (mark_of n) 0) (λ z. let a = now_shown z j small in let b = bit_at-lt (bit_or n (2 ^ j)) j in omega (arith, a, b))
      (λ ne. let a = spent_more k (life_of n) j in let b : hit (is_fresh x && three k (life_of n) j k (life_of n) j) ≡ 0 = ap (λ (y : Bool). hit (y && three k (life_of n) j k (life_of n) j)) (quiet (let d = bit_at-lt n 41 in omega (arith, d, ne))) in let d = inv.records.spent.once k (life_of n) j in omega (arith, a, b, d))

  new_of : (m l : ℕ) → (many t (is_of m l) ≡ many s (is_of m l)) ⊎ ((m ≡ k) × (l ≡ life_of n))
  new_of m l = ⊎_elim (λ z. inl (rec (is_of m l) z)) (λ z. inr (z.1, z.2)) (two_tells m l k (life_of n))

  pub spend_records : Records e t
  spend_records = record {
    spent = record {
      once = λ m l i. ⊎_elim (λ q. let a = inv.records.spent.once m l i in omega (arith, a, q))
          (λ q. subst (λ o. many t (is_spent o l i) ≤ 1) (sym q.0) (subst (λ o. many t (is_spent k o i) ≤ 1) (sym q.1) (subst (λ o. many t (is_spent k (life_of n) o) ≤ 1) (sym q.2) spent_here))) (new_spent m l i);
      is_place = λ m l i z. ⊎_elim (λ q. inv.records.spent.is_place m l i (omega (arith, q, z))) (λ q. subst (λ o. IsPlace e.graph o i) (sym q.0) (subst (IsPlace e.graph k) (sym q.2) place)) (new_spent m l i);
    };
    computed = record {
      computed_once = λ m l. let a = rec (is_computed m l) refl in let b = inv.records.computed.computed_once m l in omega (arith, a, b);
      computed_ready = λ m l i z at. let b = inv.records.computed.computed_ready m l i (let a = rec (is_computed m l) refl in omega (arith, a, z)) at in let d = more (is_spent m l i) in omega (arith, b, d);
      written_once = λ m l. let a = rec (is_written m l) refl in let b = inv.records.computed.written_once m l in omega (arith, a, b);
      written_place = rec (is_miswritten e.graph) refl ∙ inv.records.computed.written_place;
      written_computed = λ m l z. let b = inv.records.computed.written_computed m l (let a = rec (is_written m l) refl in omega (arith, a, z)) in let d = more (is_computed m l) in omega (arith, b, d);
      closed_once = λ m l y. let a = rec (is_closed m l y) refl in let b = inv.records.computed.closed_once m l y in omega (arith, a, b);
      closed_word = λ m l y z. inv.records.computed.closed_word m l y (let a = rec (is_closed m l y) refl in omega (arith, a, z));
      closed_written = λ m l y z. let b = inv.records.computed.closed_written m l y (let a = rec (is_closed m l y) refl in omega (arith, a, z)) in let d = more (is_written m l) in omega (arith, b, d);
    };
    lives = record {
      replaced_before = λ m l later z. ⊎_elim (λ q. let b = inv.records.lives.replaced_before m l later (omega (arith, q, z)) in let d = more (is_replaced m (l - 1)) in omega (arith, b, d))
          (λ q. subst (λ o. 0 < many t (is_replaced o (l - 1))) (sym q.0) (let a = replaced_below e s r k l inv.records has later (let low = shown_low in let f = q.1 in omega (arith, low, f)) in let d = more (is_replaced k (l - 1)) in omega (arith, a, d))) (new_of m l);
      created_once = λ m l z. rec (is_created m) refl ∙ ⊎_elim (λ q. inv.records.lives.created_once m l (omega (arith, q, z))) (λ q. subst (λ o. many s (is_created o) ≡ 1) (sym q.0) (inv.keys.created r k has)) (new_of m l);
      reached = λ m l z. ⊎_elim (λ q. inv.records.lives.reached m l (omega (arith, q, z))) (λ q. subst (Rattle.core_state.specs.Graph.Reached e.graph) (sym q.0) (inv.keys.reached r k has)) (new_of m l);
    };
    edges = record {
      closed = λ m l i low z. ⊎_elim (λ q. let b = inv.records.edges.closed m l i low (omega (arith, q, z)) in let d = more (is_closing (e.graph.pred m i).task ((e.graph.pred m i).port / 40)) in omega (arith, b, d))
          (λ q. subst (λ o. 0 < many t (is_closing (e.graph.pred o i).task ((e.graph.pred o i).port / 40))) (sym q.0) (subst (λ o. 0 < many t (is_closing (e.graph.pred k o).task ((e.graph.pred k o).port / 40))) (sym q.2)
          (let b = closed_edge (subst (λ o. o < e.graph.places k) q.2 (subst (λ o. i < e.graph.places o) q.0 low)) in let d = more (is_closing (e.graph.pred k j).task ((e.graph.pred k j).port / 40)) in omega (arith, b, d)))) (new_spent m l i);
    };
    some_life = λ m. ⊎_elim (λ q. q ∙ inv.records.some_life m) (λ q. absurd (let a = q.1 in omega (arith, a))) (new_of m 0);
    replaced = λ y m l it'. rec (is_replaced m l) refl ∙ inv.records.replaced y m l (had e s t keys_same y m it') ∙ ap (λ z. hit (nat_lt 0 l && nat_lt l (standing_life z + replacing z))) (sym (wd (recovery y) (λ q. cc)));
    names_own = rec (is_misstruck e.graph) refl ∙ inv.records.names_own;
  }

  -- a suspect that comes is of a marked descriptor
  suspect_causes : (m l : ℕ) (d : Cause) → (t.total (items (is_suspect_for m l d)) ≡ s.total (items (is_suspect_for m l d))) ⊎ ((m ≡ k) × (l ≡ life_of n) × (is_marked x ≡ true) × (d ≡ cause.Descriptor))
  suspect_causes m l cause.Descriptor = let a : items (is_suspect_for m l cause.Descriptor) w ≡ items (is_suspect_for m l cause.Descriptor) v + hit (is_marked x && (two m l k (life_of n) && true)) =
      (let b = u.added (is_suspect_for m l cause.Descriptor) in let d = and_fails (is_last x) false refl in let f = moved_still (is_suspect_for m l cause.Descriptor) record { explore = λ a b i. refl; notify = λ a b y q qs. refl; reenter = λ a b q qs. refl } e.graph v in omega (arith, b, d, f)) in
      ⊎_elim (λ z. inl (eq (items (is_suspect_for m l cause.Descriptor)) (let b = and_fails (is_marked x) (two m l k (life_of n) && true) (ap (λ (y : Bool). y && true) z) in omega (arith, a, b))))
      (λ z. ⊎_elim (λ q. inr (z.1, z.2, q, refl)) (λ q. inl (eq (items (is_suspect_for m l cause.Descriptor)) (let b : hit (is_marked x && (two m l k (life_of n) && true)) ≡ 0 = ap (λ (y : Bool). hit (y && (two m l k (life_of n) && true))) q in omega (arith, a, b)))) (either (is_marked x))) (two_tells m l k (life_of n))
  suspect_causes m l cause.Notify = inl (it (is_suspect_for m l cause.Notify) record { still = plain_still (λ a d i. refl) (λ a d y q qs. refl) (λ a d q qs. refl); owe = λ a d. refl; suspect = λ a d. Rattle.core_state.proofs.Credit.JobView.and_false (two m l a d) })
  suspect_causes m l (cause.Block b h f) = inl (it (is_suspect_for m l (cause.Block b h f)) record { still = plain_still (λ a d i. refl) (λ a d y q qs. refl) (λ a d q qs. refl); owe = λ a d. refl; suspect = λ a d. Rattle.core_state.proofs.Credit.JobView.and_false (two m l a d) })

  pub spend_causes : Causes e t
  spend_causes = wide_causes e s t more (λ m l d. rec (is_replaced_for m l d) refl) (λ m l d z. ⊎_elim (λ q. inv.causes.suspected m l d (omega (arith, q, z)))
      (λ q. subst (λ (o : Cause). Shown e.graph (many s) (Rattle.core_state.specs.Laws.Grounded e.graph (many s)) m l o) (sym q.3) (by_descriptor (subst (λ o. 0 < many s (is_struck o l hit_of.Descriptor)) (sym q.0) (subst (λ o. 0 < many s (is_struck k o hit_of.Descriptor)) (sym q.1) (shows.struck (marked q.2)))))) (suspect_causes m l d)) inv.causes

  pub spend_strikes : Strikes e t
  spend_strikes = wide_strikes e s t keys_same shown more (λ y. eq (struck_by y) (ap (count (eqb y)) u.strikes_are))
      (λ y z. let a = eq (struck_idly y z) (ap (λ o. cond (eqb o 0) (struck_by z w) 0) (begun_view (job_of y.point) y.key.0 y.life) ∙ ap (λ o. cond (eqb (begun (job_of y.point) y.key.0 y.life v) 0) (count (eqb z) o) 0) u.strikes_are) in omega (arith, a))
      (λ m l h. eq (struck_upto e.plan m l h) (ap (count (strikes_upto e.plan m l h)) u.strikes_are)) (λ m l h. rec (is_struck_upto m l h) refl) inv.strikes

  -- what the view now has is in the sum
  at_least : (f : View → ℕ) → f w ≤ t.total f
  at_least f = let a = c.sums f in let b = c.within f in omega (arith, a, b)

  unmarked : is_marked x ≡ false → mark_of n ≡ 0
  unmarked = by x is
    where
      by : (y : Told) → IsTold e.graph k j n y → is_marked y ≡ false → mark_of n ≡ 0
      by (told.Spent l) q z = q.1
      by (told.Last l) q z = q.1
      by (told.Already l) q z = q.1
      by (told.Struck l) q z = absurd cc

  suspected_now : is_marked x ≡ true → 0 < items (is_suspect k (life_of n)) w
  suspected_now z = let a = suspects_view k (life_of n) in let b : hit (is_marked x && two k (life_of n) k (life_of n)) ≡ 1 = rw (z, two_here k (life_of n)) in omega (arith, a, b)

  -- the place at work is spent in the shown life, or the life is suspected
  at_place : (l : ℕ) → l ≡ life_of n → many t (is_spent k l j) ≡ 0 → 0 < items (is_suspect k l) w
  at_place l q none = subst (λ o. 0 < items (is_suspect k o) w) (sym q) (⊎_elim suspected_now
      (λ z. absurd (let a = now_shown (unmarked z) j small in let b = bit_set_here n j in let d = ap (λ o. many t (is_spent k o j)) q in omega (arith, a, b, d, none))) (either (is_marked x)))

  selfs_rise : (m l i : ℕ) → IsPlace e.graph m i → ((m ≡ k) × (i ≡ j) → ⊥) → s.total (covers_self m l i) ≤ t.total (covers_self m l i)
  selfs_rise m l i at ne = let a = c.sums (covers_self m l i) in let b = u.added (explores m l i) in let d = and_fails (is_last x) false refl in let f = and_fails (is_marked x) false refl in let g = apart (is_owed Explore m l) record { still = plain_still (λ a l i. refl) (λ a l y q qs. refl) (λ a l q qs. refl); owe = λ a l. refl; suspect = λ a l. refl } in let h = suspects_view m l in
      ⊎_elim (λ z. omega (arith, a, b, d, f, g, h, z)) (λ z. absurd (ne z)) (u.selfs m l i at)

  edges_rise : (m i : ℕ) → i < e.graph.places m → ((m ≡ k) × (i ≡ j) → ⊥) → s.total (covers_edge (e.graph.pred m i).task (e.graph.pred m i).port) ≤ t.total (covers_edge (e.graph.pred m i).task (e.graph.pred m i).port)
  edges_rise m i low ne = let y : Edge = e.graph.pred m i in let a = c.sums (covers_edge y.task y.port) in let b = u.added (notifies y.task y.port) in let d = u.added (is_renew y.task) in let f = u.added (reenters y.task y.port) in
      let g = and_fails (is_last x) false refl in let h = and_fails (is_marked x) false refl in
      ⊎_elim (λ z. omega (arith, a, b, d, f, g, h, z)) (λ z. absurd (let back = fit.lawful.back m i low in ne (sym back.1 ∙ z.0, sym back.2 ∙ z.1))) (u.edges y.task y.port)

  old_needs : (y m l i : ℕ) → Needs e t y m l i → Needs e s y m l i
  old_needs = wide_needs e s t keys_same shown (λ y. wd (recovery y) (λ q. cc)) (λ m l i z. let a = more (is_spent m l i) in omega (arith, a, z))

  shown_life : (y m l i : ℕ) → Needs e t y m l i → m ≡ k → l ≡ life_of n
  shown_life y m l i needs q = let here = at_row y m (old_needs y m l i needs).has_key q in sym needs.life_shown ∙ ap life_of (new_word y here) ∙ life_kept

  pub spend_cover : Cover e t
  spend_cover = record {
    places = λ y m l i needs low. ⊎_elim
        (λ q. inl (let a = subst (λ o. 0 < items (is_suspect o l) w) (sym q.0) (at_place l (shown_life y m l i needs q.0) (subst (λ o. many t (is_spent o l j) ≡ 0) q.0 (subst (λ o. many t (is_spent m l o) ≡ 0) q.1 needs.unspent))) in
        let b = suspect_covers m l i a in omega (arith, b)))
        (λ ne. let z : Edge = e.graph.pred m i in let a = selfs_rise m l i (inl low) ne in let b = edges_rise m i low ne in let d = post_same Explore y l in
        ⊎_elim (λ o. inl (omega (arith, a, b, d, o))) (λ o. inr (wide_waiting e s t keys_same shown (λ g h f z. rec (is_closed g h f) refl ∙ z) (λ g h f o. let z = known_same (waits_at g h f) (λ y. refl) (λ y. refl) in omega (arith, z, o)) z.task z.port o))
        (inv.cover.places y m l i (old_needs y m l i needs) low)) (same_place m i);
    self_place = λ y m l needs. ⊎_elim
        (λ q. let a = subst (λ o. 0 < items (is_suspect o l) w) (sym q.0) (at_place l (shown_life y m l 40 needs q.0) (subst (λ o. many t (is_spent o l j) ≡ 0) q.0 (subst (λ o. many t (is_spent m l o) ≡ 0) q.1 needs.unspent))) in
        (let b = suspect_covers m l 40 a in omega (arith, b)))
        (λ ne. let a = selfs_rise m l 40 (inr refl) ne in let d = post_same Explore y l in let z = inv.cover.self_place y m l (old_needs y m l 40 needs) in omega (arith, a, d, z)) (same_place m 40);
  }
    where
      same_place : (m i : ℕ) → ((m ≡ k) × (i ≡ j)) ⊎ ((m ≡ k) × (i ≡ j) → ⊥)
      same_place m i = dite (ℕ_discrete m k) (λ a. dite (ℕ_discrete i j) (λ b. inl (a, b)) (λ ne. inr (λ q. ne q.1))) (λ ne. inr (λ q. ne q.0))

      suspect_covers : (m l i : ℕ) → 0 < items (is_suspect m l) w → 0 < t.total (covers_self m l i)
      suspect_covers m l i z = let a = at_least (covers_self m l i) in omega (arith, a, z)

  works_rise : (m l : ℕ) → works m l v ≤ works m l w
  works_rise m l = let a = owed_view m l in let b = apart (carries Compute m l) record { still = plain_still (λ a l i. refl) (λ a l y q qs. refl) (λ a l q qs. refl); owe = λ a l. refl; suspect = λ a l. refl } in let d = suspects_view m l in let f = apart (is_renew_of m l) record { still = plain_still (λ a l i. refl) (λ a l y q qs. refl) (λ a l q qs. refl); owe = λ a l. refl; suspect = λ a l. refl } in omega (arith, a, b, d, f)

  works_sum : (y m l : ℕ) → s.total (works m l) + hit (eqb l (s.word (posted Compute y))) ≤ t.total (works m l) + hit (eqb l (t.word (posted Compute y)))
  works_sum y m l = let a = c.sums (works m l) in let b = works_rise m l in let d = post_same Compute y l in omega (arith, a, b, d)

  still_done : (y m l : ℕ) → (0 < s.total (works m l) + hit (eqb l (s.word (posted Compute y)))) ⊎ AllClosed e.graph e.plan (many s) m l → (0 < t.total (works m l) + hit (eqb l (t.word (posted Compute y)))) ⊎ AllClosed e.graph e.plan (many t) m l
  still_done y m l z = ⊎_elim (λ q. inl (let a = works_sum y m l in omega (arith, a, q))) (λ q. inr (all_closed_grows e.graph (many s) (many t) more e.plan m l q)) z

  -- the life at whose descriptor the step was made
  done_here : ((i : ℕ) → IsPlace e.graph k i → 0 < many t (is_spent k (life_of n) i)) → (0 < t.total (works k (life_of n)) + hit (eqb (life_of n) (t.word (posted Compute r)))) ⊎ AllClosed e.graph e.plan (many t) k (life_of n)
  done_here = by x is refl
    where
      by : (y : Told) → IsTold e.graph k j n y → x ≡ y → ((i : ℕ) → IsPlace e.graph k i → 0 < many t (is_spent k (life_of n) i)) → (0 < t.total (works k (life_of n)) + hit (eqb (life_of n) (t.word (posted Compute r)))) ⊎ AllClosed e.graph e.plan (many t) k (life_of n)
      by (told.Spent l) q same all = let z = q.3 in absurd (let a = now_shown q.1 z.0 (places_small z.0 z.1) in let b = bit_set_else n j z.0 z.2 in let d = z.3 in let f = all z.0 z.1 in omega (arith, a, b, d, f))
      by (told.Last l) q same all = inl (let a = owed_view k (life_of n) in let b : hit (is_last x && two k (life_of n) k (life_of n)) ≡ 1 = rw (same, two_here k (life_of n)) in let d = at_least (works k (life_of n)) in omega (arith, a, b, d))
      by (told.Already l) q same all = still_done r k (life_of n) (subst (λ z. (0 < s.total (works k (life_of z)) + hit (eqb (life_of z) (s.word (posted Compute r)))) ⊎ AllClosed e.graph e.plan (many s) k (life_of z)) c.found_is
          (inv.activity.each r k has (λ i at. subst (λ z. 0 < many s (is_spent k (life_of z) i)) (sym c.found_is) (let a = spent_more k (life_of n) i in let b : hit (is_fresh x && three k (life_of n) i k (life_of n) j) ≡ 0 = rw same refl in let d = all i at in omega (arith, a, b, d)))))
      by (told.Struck l) q same all = inl (let b = suspected_now (rw same refl) in let d = at_least (works k (life_of n)) in omega (arith, b, d))

  pub spend_activity : Activity e t
  spend_activity = record {
    each = λ y m it' all. let old = had e s t keys_same y m it' in dite (ℕ_discrete y r)
        (λ q. let kk = row_of y m old q in let life : life_of (t.word (descriptor y)) ≡ life_of n = ap life_of (new_word y q) ∙ life_kept in
        subst (λ o. (0 < t.total (works m o) + hit (eqb o (t.word (posted Compute y)))) ⊎ AllClosed e.graph e.plan (many t) m o) (sym life) (subst (λ o. (0 < t.total (works m (life_of n)) + hit (eqb (life_of n) (t.word (posted Compute o)))) ⊎ AllClosed e.graph e.plan (many t) m (life_of n)) (sym q)
        (subst (λ o. (0 < t.total (works o (life_of n)) + hit (eqb (life_of n) (t.word (posted Compute r)))) ⊎ AllClosed e.graph e.plan (many t) o (life_of n)) (sym kk)
        (done_here (λ i at. subst (λ o. 0 < many t (is_spent o (life_of n) i)) kk (subst (λ o. 0 < many t (is_spent m o i)) life (all i (subst (λ o. IsPlace e.graph o i) (sym kk) at))))))))
        (λ ne. let same = ap life_of (other_word y ne) in let l : ℕ = life_of (s.word (descriptor y)) in let apart_key : m ≢ k = λ q. ne (at_row y m old q) in
        subst (λ o. (0 < t.total (works m o) + hit (eqb o (t.word (posted Compute y)))) ⊎ AllClosed e.graph e.plan (many t) m o) (sym same)
        (still_done y m l (inv.activity.each y m old (λ i at. let a = spent_else m l i (λ q. apart_key q.0) in let b = subst (λ o. 0 < many t (is_spent m o i)) same (all i at) in omega (arith, a, b)))));
  }

  pub spend_no_fault : NoFault e t
  spend_no_fault = wide_no_fault e s t keys_same (λ y. wd (recovery y) (λ q. cc)) more
      (λ unstruck old. ⊎_elim (λ z. absurd (let a = shows.struck (marked z) in let b = none_struck s sums unstruck k (life_of n) hit_of.Descriptor in omega (arith, a, b)))
      (λ z. eq (items is_any_suspect) (let a = u.added is_any_suspect in let b = and_fails (is_last x) false refl in let d : hit (is_marked x && true) ≡ 0 = rw z refl in let f = moved_still is_any_suspect record { explore = λ a l i. refl; notify = λ a l y q qs. refl; reenter = λ a l q qs. refl } e.graph v in omega (arith, a, b, d, f)) ∙ old.none_suspected) (either (is_marked x)))
      (λ b y. rec (is_version b y) refl) (λ b. c.blocks b (λ q. cc)) inv.no_fault

  pub spend_keeps : Invariant e t
  spend_keeps = record {
    keys = spend_keys;
    empty = spend_empty;
    lives = spend_lives;
    content = spend_content;
    facts = spend_facts;
    work = record { credits = spend_credits; jobs = spend_jobs; computings = spend_computings; root = spend_root };
    blocks = spend_blocks;
    records = spend_records;
    causes = spend_causes;
    strikes = spend_strikes;
    cover = spend_cover;
    activity = spend_activity;
    no_fault = spend_no_fault;
  }
