-- Registering a port keeps every part.
use Rattle.std.proofs.Common.{◌≡◌, ◌⊎◌, ℕ, ◌+◌, ◌*◌, ◌/◌, ◌%◌, ◌^◌, ◌≤◌, ◌<◌, Bool, true, false, cond, ◌&&◌, eqb, ne_eqb, List, ◌∷◌, min, bit_or, ⊎_elim, inl, inr, arith, sym, ap, refl, ◌∙◌, subst}
use Rattle.core_state.specs.Counts.{hit, count, items, owed, held, ended, begun, came, noted, facts, waits, in_hand, in_wrong_hand, struck_by, struck_idly, struck_upto, stack_count, spare, too_many}
use Rattle.core_state.specs.Tests.{three, two, is_in, is_at, is_owed, is_owe, carries, explores, is_unmade, is_compute, is_made, is_made_any, is_close, is_close_from, is_notify, is_renew, is_renew_at, is_renew_of, is_suspect, is_suspect_for, is_any_suspect, suspects_block, notifies, reenters, is_ended, is_row, is_idle, is_stopped, is_stops, is_seen_life, is_seen_mark, is_seen_closed, waits_at, is_hand, strikes_upto, job_of, is_created, is_spent, is_computed, is_written, is_closed, is_struck, is_struck_upto, is_version, is_replaced, is_replaced_for}
use Rattle.core_state.specs.Laws.{IsPlace, Shown, Grounded}
use Rattle.core_state.specs.Laws.Shown.{notify as by_notify}
use Rattle.core_state.specs.declared.answers.Registered.{Registered}
use Rattle.core_state.specs.declared.answers.Registered.TheVariants as registered
use mathlib.Core.Logic.{dite}
use native.Mathlib.Decide.{ℕ_discrete}
use Rattle.std.specs.Int.{bit_at}
use Rattle.core_state.specs.Graph.{Setting, Sound, Edge}
use Rattle.core_state.specs.Words.{Spot, pending, stop, key, descriptor, notify, recovery, posted, turn, spot_of, life_of, mark_of, life_shown, mark_shown, standing_life, replacing}
use Rattle.core_state.specs.Change.{Core, Change, Sums, many}
use Rattle.core_state.specs.Rows.{HasKey, Keys, Empty, Lives, Shows, Lists, Content, Facts}
use Rattle.core_state.specs.Work.{Jobs, Computings, Credits, RootWork, is_made_early}
use Rattle.core_state.specs.Records.{Causes, Strikes}
use Rattle.core_state.specs.Cover.{covers_self, covers_edge, works, Needs, Cover, Activity, NoFault}
use Rattle.core_state.specs.Invariant.{Invariant}
use Rattle.graph_model.specs.declared.record.Cause.{Cause}
use Rattle.graph_model.specs.declared.record.Cause.TheVariants as cause
use Rattle.graph_model.specs.declared.record.Hit.TheVariants as hit_of
use Rattle.graph_model.specs.declared.record.Record.{Record}
use Rattle.core_state.specs.declared.job.Job.{Job}
use Rattle.core_state.specs.declared.job.Job.TheVariants.{Explore, Compute}
use Rattle.core_state.specs.declared.views.Item.{Item}
use Rattle.core_state.specs.declared.views.Item.TheVariants as item
use Rattle.core_state.specs.declared.views.Known.{Known}
use Rattle.core_state.specs.declared.views.Known.TheVariants as known
use Rattle.core_state.specs.declared.views.Word.{Word}
use Rattle.core_state.specs.declared.views.Word.TheVariants as word
use Rattle.core_state.specs.declared.views.View.{View}
use Rattle.core_state.proofs.Base.Bits.{bit_set_here, bit_set_else, life_set, set_low}
use Rattle.core_state.specs.Words.{closed_bit}
use Rattle.core_state.specs.Rows.{HasRow}
use Rattle.core_state.specs.Cover.{Waiting}
use Rattle.core_state.specs.Effects.{seen}
use Rattle.core_state.proofs.Base.Counting.{three_here, three_apart, three_else, two_tells, hit_le, bump_is}
use Rattle.core_state.proofs.Base.ItemMoves.{Still}
use Rattle.core_state.proofs.Base.Frame.{SameKeys, SameRecords, keys_stay, had, same_shows, frame_blocks, frame_records, posted_same}
use Rattle.core_state.proofs.Spend.View.{and_fails, and_low, seen_other}
use Rattle.core_state.proofs.Base.WeakFrame.{wide_needs, wide_waiting, wide_lives, wide_jobs, wide_computings, wide_root, wide_causes, wide_strikes, wide_facts, wide_activity, wide_no_fault}
use Rattle.core_state.proofs.Replace.Suspects.{notify_low, none_struck}
use Rattle.core_state.proofs.Register.View.{is_waiting, is_marked, IsRegistered, learned, stirred, RegisterView, stirred_still, stirred_falls, stirred_begun, stirred_ends_up, learned_other, seen_life_at, seen_mark_at}

-- a test that neither sees what the item at work has still to do, nor passes a suspect of a notify word
pub record Apart (p : Item → Bool) : Type 0 where
  pub still : Still p
  pub suspect : (a l : ℕ) → p (item.Suspect a l cause.Notify false) ≡ false

abbrev plain_still : {p : Item → Bool} → ((a l i : ℕ) → p (item.Explore a l i) ≡ false) → ((a l w q : ℕ) (qs : List ℕ) → p (item.Notify a l w qs) ≡ p (item.Notify a l w (q ∷ qs))) → ((a l q : ℕ) (qs : List ℕ) → p (item.Reenter a l qs) ≡ p (item.Reenter a l (q ∷ qs))) → Still p
plain_still a b d = record { explore = a; notify = b; reenter = d }

either : (b : Bool) → (b ≡ true) ⊎ (b ≡ false)
either true = inl refl
either false = inr refl

module _ (e : Setting) (fit : Sound e) (s t : Core) (r k j p q n : ℕ) (x : Registered) (v w : View) (c : Change s t (notify r (q / 40)) n (bit_or n (2 ^ (q % 40))) v w) (has : HasKey e s r p) (word_in : q / 40 < e.graph.notify_words p)
    (is : IsRegistered n x) (u : RegisterView e k j p q n x v w) (place : j < e.graph.places k) (pred_task : (e.graph.pred k j).task ≡ p) (pred_port : (e.graph.pred k j).port ≡ q) (row_here : HasRow e s k) (port : q < e.graph.ports p) (succ_row : HasRow e s (e.graph.succ p q).task)
    (inv : Invariant e s) (sums : Sums s) where
  wd : (a : Spot) → (notify r (q / 40) ≡ a → ⊥) → t.word a ≡ s.word a
  wd a ne = c.others a (λ z. ne (sym z))

  eq : (f : View → ℕ) → f w ≡ f v → t.total f ≡ s.total f
  eq f z = let a = c.sums f in omega (arith, a, z)

  keys_same : SameKeys s t
  keys_same y = wd (key y) (λ z. cc)

  apart : (y : Item → Bool) → Apart y → items y w ≡ items y v
  apart y z = let a = u.added y in let d = and_fails (is_marked x) (y (item.Suspect p (life_of n) cause.Notify false)) (z.suspect p (life_of n)) in let f = stirred_still y z.still e.graph x v in omega (arith, a, d, f)

  it : (y : Item → Bool) → Apart y → t.total (items y) ≡ s.total (items y)
  it y z = eq (items y) (apart y z)

  recs : SameRecords s t
  recs y = eq (noted y) (ap (count y) u.records_are)

  more : (y : Record → Bool) → many s y ≤ many t y
  more y = let a = recs y in omega (arith, a)

  known_same : (f : Known → Bool) → ((l : ℕ) → f (known.Life p (word.Notify (q / 40)) l) ≡ false) → ((l : ℕ) → f (known.Mark p (word.Notify (q / 40)) l) ≡ false) → ((l : ℕ) → f (known.Waits p l q) ≡ false) → ((l : ℕ) → f (known.Closed p l (q / 40)) ≡ false) → t.total (facts f) ≡ s.total (facts f)
  known_same f life mark waiting closed = eq (facts f) (ap (count f) u.known_is ∙ learned_other f p q x (seen p (word.Notify (q / 40)) n v.known) waiting closed ∙ seen_other f p (word.Notify (q / 40)) n v.known life mark)

  waits_more : (a l b : ℕ) → t.total (waits a l b) ≡ s.total (waits a l b) + hit (is_waiting x && three a l b p (life_of n) q)
  waits_more a l b = let f = c.sums (waits a l b) in let g : waits a l b w ≡ waits a l b v + hit (is_waiting x && three a l b p (life_of n) q) = ap (count (waits_at a l b)) u.known_is ∙ by x is ∙ ap (λ z. z + hit (is_waiting x && three a l b p (life_of n) q)) (seen_other (waits_at a l b) p (word.Notify (q / 40)) n v.known (λ y. refl) (λ y. refl)) in omega (arith, f, g)
    where
      by : (y : Registered) → IsRegistered n y → count (waits_at a l b) (learned p q y (seen p (word.Notify (q / 40)) n v.known)) ≡ count (waits_at a l b) (seen p (word.Notify (q / 40)) n v.known) + hit (is_waiting y && three a l b p (life_of n) q)
      by (registered.Waiting m) z = let f = bump_is (three a l b p m q) (count (waits_at a l b) (seen p (word.Notify (q / 40)) n v.known)) in let g = ap (λ o. hit (three a l b p o q)) z.0 in omega (arith, f, g)
      by (registered.Closed m) z = omega arith
      by (registered.Struck m) z = omega arith

  waits_else : (a l b : ℕ) → ((a ≡ p) × (l ≡ life_of n) × (b ≡ q) → ⊥) → t.total (waits a l b) ≡ s.total (waits a l b)
  waits_else a l b ne = let f = waits_more a l b in let g = three_apart a l b p (life_of n) q ne in let h = and_low (is_waiting x) (three a l b p (life_of n) q) in omega (arith, f, g, h)

  -- a word that was seen closed was so before, or is this one
  closed_seen : (a l b : ℕ) → 0 < t.total (facts (is_seen_closed a l b)) → 0 < many s (is_closed a l b)
  closed_seen a l b some = by x is refl
    where
      same : (y : Registered) → x ≡ y → count (is_seen_closed a l b) (learned p q y (seen p (word.Notify (q / 40)) n v.known)) ≡ count (is_seen_closed a l b) v.known → 0 < many s (is_closed a l b)
      same y z f = inv.facts.closed a l b (let g = eq (facts (is_seen_closed a l b)) (ap (count (is_seen_closed a l b)) u.known_is ∙ ap (λ o. count (is_seen_closed a l b) (learned p q o (seen p (word.Notify (q / 40)) n v.known))) z ∙ f) in omega (arith, g, some))

      before : count (is_seen_closed a l b) (seen p (word.Notify (q / 40)) n v.known) ≡ count (is_seen_closed a l b) v.known
      before = seen_other (is_seen_closed a l b) p (word.Notify (q / 40)) n v.known (λ y. refl) (λ y. refl)

      by : (y : Registered) → IsRegistered n y → x ≡ y → 0 < many s (is_closed a l b)
      by (registered.Waiting m) z f = same (registered.Waiting m) f before
      by (registered.Struck m) z f = same (registered.Struck m) f before
      by (registered.Closed m) z f = ⊎_elim
          (λ g. same (registered.Closed m) f (let h = bump_is (three a l b p m (q / 40)) (count (is_seen_closed a l b) (seen p (word.Notify (q / 40)) n v.known)) in let o = before in omega (arith, g, h, o)))
          (λ g. subst (λ o. 0 < many s (is_closed o l b)) (sym g.0) (subst (λ o. 0 < many s (is_closed p o b)) (sym (g.1 ∙ z.0)) (subst (λ o. 0 < many s (is_closed p (life_of n) o)) (sym g.2)
          (let h = (subst (Lists e s p (q / 40)) c.found_is (inv.content.notify_words r p (q / 40) has word_in)).closing z.1 in let o = z.2 in omega (arith, h, o))))) (three_else a l b p m (q / 40))

  low_bit : q % 40 < 40
  low_bit = omega arith

  mark_kept : mark_of (bit_or n (2 ^ (q % 40))) ≡ mark_of n
  mark_kept = bit_set_else n (q % 40) 41 (λ z. let a = low_bit in omega (arith, z, a))

  closed_kept : closed_bit (bit_or n (2 ^ (q % 40))) ≡ closed_bit n
  closed_kept = bit_set_else n (q % 40) 40 (λ z. let a = low_bit in omega (arith, z, a))

  life_kept : life_of (bit_or n (2 ^ (q % 40))) ≡ life_of n
  life_kept = life_set n (q % 40) (let a = low_bit in omega (arith, a))

  here_or : (y z : ℕ) → ((y ≡ r) × (z ≡ q / 40)) ⊎ ((y ≡ r) × (z ≡ q / 40) → ⊥)
  here_or y z = dite (ℕ_discrete y r) (λ a. dite (ℕ_discrete z (q / 40)) (λ b. inl (a, b)) (λ ne. inr (λ f. ne f.1))) (λ ne. inr (λ f. ne f.0))

  old_word : (y z : ℕ) → (y ≡ r) × (z ≡ q / 40) → s.word (notify y z) ≡ n
  old_word y z f = ap (λ o. s.word (notify o z)) f.0 ∙ ap (λ o. s.word (notify r o)) f.1 ∙ c.found_is

  new_word : (y z : ℕ) → (y ≡ r) × (z ≡ q / 40) → t.word (notify y z) ≡ bit_or n (2 ^ (q % 40))
  new_word y z f = ap (λ o. t.word (notify o z)) f.0 ∙ ap (λ o. t.word (notify r o)) f.1 ∙ c.left_is

  other_word : (y z : ℕ) → ((y ≡ r) × (z ≡ q / 40) → ⊥) → t.word (notify y z) ≡ s.word (notify y z)
  other_word y z ne = c.others (notify y z) (λ f. ne (let a : y ≡ r = cc in let b : z ≡ q / 40 = cc in (a, b)))

  shown : (y : ℕ) (z : Word) → (life_shown z (t.word (spot_of y z)) ≡ life_shown z (s.word (spot_of y z))) × (mark_shown z (t.word (spot_of y z)) ≡ mark_shown z (s.word (spot_of y z)))
  shown y word.Descriptor = (ap life_of (wd (descriptor y) (λ z. cc)), ap mark_of (wd (descriptor y) (λ z. cc)))
  shown y (word.Notify z) = ⊎_elim (λ f. (ap life_of (new_word y z f) ∙ life_kept ∙ sym (ap life_of (old_word y z f)), ap mark_of (new_word y z f) ∙ mark_kept ∙ sym (ap mark_of (old_word y z f)))) (λ ne. (ap life_of (other_word y z ne), ap mark_of (other_word y z ne))) (here_or y z)
  shown y word.Recovery = (ap standing_life (wd (recovery y) (λ z. cc)), refl)

  lists : Lists e s p (q / 40) n
  lists = subst (Lists e s p (q / 40)) c.found_is (inv.content.notify_words r p (q / 40) has word_in)

  row_of : (y m : ℕ) → HasKey e s y m → y ≡ r → m ≡ p
  row_of y m it z = let a = it.1 in let b = has.1 in let d = ap (λ o. s.word (key o)) z in omega (arith, a, b, d)

  at_row : (y m : ℕ) → HasKey e s y m → m ≡ p → y ≡ r
  at_row y m old z = inv.keys.one_row y r p (subst (HasKey e s y) z old) has

  shown_low : life_of n ≤ standing_life (s.word (recovery r)) + replacing (s.word (recovery r))
  shown_low = let a = notify_low e s r p (s.word (recovery r)) (inv.lives.each r p has) (q / 40) word_in in let f = ap life_of c.found_is in omega (arith, a, f)

  marked : is_marked x ≡ true → mark_of n ≡ 1
  marked = by x is
    where
      by : (y : Registered) → IsRegistered n y → is_marked y ≡ true → mark_of n ≡ 1
      by (registered.Waiting m) z f = absurd cc
      by (registered.Closed m) z f = absurd cc
      by (registered.Struck m) z f = z.1

  waiting_bits : is_waiting x ≡ true → (mark_of n ≡ 0) × (closed_bit n ≡ 0)
  waiting_bits = by x is
    where
      by : (y : Registered) → IsRegistered n y → is_waiting y ≡ true → (mark_of n ≡ 0) × (closed_bit n ≡ 0)
      by (registered.Waiting m) z f = (z.1, z.2)
      by (registered.Closed m) z f = absurd cc
      by (registered.Struck m) z f = absurd cc

  waits_open : mark_of n ≡ 0 → closed_bit n ≡ 0 → is_waiting x ≡ true
  waits_open = by x is
    where
      by : (y : Registered) → IsRegistered n y → mark_of n ≡ 0 → closed_bit n ≡ 0 → is_waiting y ≡ true
      by (registered.Waiting m) z f g = refl
      by (registered.Closed m) z f g = absurd (let a = z.2 in omega (arith, a, g))
      by (registered.Struck m) z f g = absurd (let a = z.1 in omega (arith, a, f))

  pub register_empty : Empty e t
  register_empty = record {
    no_descriptor = λ y z. wd (descriptor y) (λ f. cc) ∙ inv.empty.no_descriptor y (sym (keys_same y) ∙ z);
    no_notify = λ y m z. let old : s.word (key y) ≡ 0 = sym (keys_same y) ∙ z in other_word y m (λ f. let a = has.1 in let b = ap (λ o. s.word (key o)) f.0 in omega (arith, a, b, old)) ∙ inv.empty.no_notify y m old;
    no_recovery = λ y z. wd (recovery y) (λ f. cc) ∙ inv.empty.no_recovery y (sym (keys_same y) ∙ z);
    no_job = λ i y z. wd (posted i y) (λ f. cc) ∙ inv.empty.no_job i y (sym (keys_same y) ∙ z);
    beyond = λ y m z it' low. let old = had e s t keys_same y m it' in other_word y z (λ f. let a = row_of y m old f.0 in let b = ap e.graph.notify_words a in let d = f.1 in let g = word_in in omega (arith, b, d, g, low)) ∙ inv.empty.beyond y m z old low;
  }

  pub register_content : Content e t
  register_content = record {
    descriptors = λ y m it'. subst (Shows e t m) (sym (wd (descriptor y) (λ f. cc))) (same_shows e s t recs m (s.word (descriptor y)) (inv.content.descriptors y m (had e s t keys_same y m it')));
    notify_words = λ y m z it' low. let old = had e s t keys_same y m it' in ⊎_elim
        (λ f. subst (λ o. Lists e t o z (t.word (notify y z))) (sym (row_of y m old f.0)) (subst (λ o. Lists e t p o (t.word (notify y z))) (sym f.1) (subst (Lists e t p (q / 40)) (sym (new_word y z f)) record {
          other_bits = set_low n (q % 40) lists.other_bits (let a = low_bit in omega (arith, a));
          closing = λ g. closed_kept ∙ lists.closing (sym mark_kept ∙ g) ∙ sym (recs (is_closed p (life_of n) (q / 40))) ∙ ap (λ o. many t (is_closed p o (q / 40))) (sym life_kept);
          waiting = λ g h b less. subst (λ o. bit_at (bit_or n (2 ^ (q % 40))) b ≡ min 1 (t.total (waits p o (40 * (q / 40) + b)))) (sym life_kept) (waiting_here (sym mark_kept ∙ g) (sym closed_kept ∙ h) b less);
          registered = λ g b less some. registered_here (sym mark_kept ∙ g) b less (subst (λ o. 0 < t.total (waits p o (40 * (q / 40) + b))) life_kept some);
          struck = λ g. subst (λ o. 0 < many t (is_struck p o (hit_of.Notify (q / 40)))) (sym life_kept) (let a = lists.struck (sym mark_kept ∙ g) in let b = more (is_struck p (life_of n) (hit_of.Notify (q / 40))) in omega (arith, a, b));
          root = λ g. mark_kept ∙ lists.root g;
          closed_later = λ l less. recs (is_closed p l (q / 40)) ∙ lists.closed_later l (subst (λ o. o < l) life_kept less);
          waiting_later = λ l b less low'. waits_else p l (40 * (q / 40) + b) (λ g. let a = g.1 in omega (arith, a, less, life_kept)) ∙ lists.waiting_later l b (subst (λ o. o < l) life_kept less) low';
          struck_later = λ l less. recs (is_struck p l (hit_of.Notify (q / 40))) ∙ lists.struck_later l (subst (λ o. o < l) life_kept less);
        })))
        (λ ne. subst (Lists e t m z) (sym (other_word y z ne)) (let o = inv.content.notify_words y m z old low in let d : ℕ = s.word (notify y z) in record {
          other_bits = o.other_bits;
          closing = λ g. o.closing g ∙ sym (recs (is_closed m (life_of d) z));
          waiting = λ g h b less. o.waiting g h b less ∙ ap (min 1) (sym (waits_else m (life_of d) (40 * z + b) (elsewhere y m z b old ne less)));
          registered = λ g b less some. o.registered g b less (let a = waits_else m (life_of d) (40 * z + b) (elsewhere y m z b old ne less) in omega (arith, a, some));
          struck = λ g. let a = o.struck g in let b = more (is_struck m (life_of d) (hit_of.Notify z)) in omega (arith, a, b);
          root = o.root;
          closed_later = λ l less. recs (is_closed m l z) ∙ o.closed_later l less;
          waiting_later = λ l b less low'. waits_else m l (40 * z + b) (elsewhere y m z b old ne low') ∙ o.waiting_later l b less low';
          struck_later = λ l less. recs (is_struck m l (hit_of.Notify z)) ∙ o.struck_later l less;
        })) (here_or y z);
  }
    where
      elsewhere : (y m z b : ℕ) → HasKey e s y m → ((y ≡ r) × (z ≡ q / 40) → ⊥) → b < 40 → {l : ℕ} → (m ≡ p) × (l ≡ life_of n) × (40 * z + b ≡ q) → ⊥
      elsewhere y m z b old ne less f = ne (at_row y m old f.0, let a = f.2 in omega (arith, a, less))

      registered_here : mark_of n ≡ 0 → (b : ℕ) → b < 40 → 0 < t.total (waits p (life_of n) (40 * (q / 40) + b)) → bit_at (bit_or n (2 ^ (q % 40))) b ≡ 1
      registered_here plain b less some = dite (ℕ_discrete b (q % 40)) (λ g. ap (bit_at (bit_or n (2 ^ (q % 40)))) g ∙ bit_set_here n (q % 40))
          (λ ne. bit_set_else n (q % 40) b ne ∙ lists.registered plain b less (let h = waits_else p (life_of n) (40 * (q / 40) + b) (λ g. let y = g.2 in ne (omega (arith, y, less))) in omega (arith, h, some)))

      waiting_here : mark_of n ≡ 0 → closed_bit n ≡ 0 → (b : ℕ) → b < 40 → bit_at (bit_or n (2 ^ (q % 40))) b ≡ min 1 (t.total (waits p (life_of n) (40 * (q / 40) + b)))
      waiting_here plain opened b less = let old = lists.waiting plain opened b less in let f = waits_more p (life_of n) (40 * (q / 40) + b) in dite (ℕ_discrete b (q % 40))
          (λ g. let a = bit_set_here n (q % 40) in let d : bit_at (bit_or n (2 ^ (q % 40))) b ≡ bit_at (bit_or n (2 ^ (q % 40))) (q % 40) = ap (bit_at (bit_or n (2 ^ (q % 40)))) g in
          let h : hit (is_waiting x && three p (life_of n) (40 * (q / 40) + b) p (life_of n) q) ≡ 1 = (let y : 40 * (q / 40) + b ≡ q = omega (arith, g) in rw (waits_open plain opened, y) (three_here p (life_of n) q)) in omega (arith, a, d, f, h))
          (λ ne. let a = bit_set_else n (q % 40) b ne in let h = waits_else p (life_of n) (40 * (q / 40) + b) (λ g. let y = g.2 in ne (omega (arith, y, less))) in old' a old h)
        where
          old' : bit_at (bit_or n (2 ^ (q % 40))) b ≡ bit_at n b → bit_at n b ≡ min 1 (s.total (waits p (life_of n) (40 * (q / 40) + b))) → t.total (waits p (life_of n) (40 * (q / 40) + b)) ≡ s.total (waits p (life_of n) (40 * (q / 40) + b)) → bit_at (bit_or n (2 ^ (q % 40))) b ≡ min 1 (t.total (waits p (life_of n) (40 * (q / 40) + b)))
          old' a old h = a ∙ old ∙ ap (min 1) (sym h)

  pub register_keys : Keys e t
  register_keys = keys_stay e s t keys_same (λ y m z. inv.keys.known y m (let a = known_same (is_row y m) (λ l. refl) (λ l. refl) (λ l. refl) (λ l. refl) in omega (arith, a, z)))
      (λ m z. dite (ℕ_discrete m p) (λ f. (r, subst (HasKey e s r) (sym f) has)) (λ ne. inv.keys.of_item m (let a = c.sums (items (is_at m)) in let b = u.added (is_at m) in let f = and_fails (is_marked x) (eqb m p) (ne_eqb m p ne) in
      let g = stirred_falls (is_at m) record { explore = λ a l i. omega arith; notify = λ a l y q qs. omega arith; reenter = λ a l q qs. omega arith } e.graph x v in omega (arith, a, b, f, g, z))))
      (λ i m l z. ⊎_elim (λ f. inv.keys.of_ended i m l (let a = eq (ended i m l) (ap (count (is_ended i m l)) u.ended_is ∙ f) in omega (arith, a, z))) (λ f. subst (HasRow e s) (sym f) row_here) (u.ends i m l))
      (λ a l b z. ⊎_elim (λ f. inv.keys.of_waiting a l b (let g = waits_more a l b in let h = and_low (is_waiting x) (three a l b p (life_of n) q) in omega (arith, f, g, h, z)))
      (λ f. (subst (λ o. b < e.graph.ports o) (sym f.0) (subst (λ o. o < e.graph.ports p) (sym f.2) port), (r, subst (HasKey e s r) (sym f.0) has), subst (λ o. HasRow e s (e.graph.succ o b).task) (sym f.0) (subst (λ o. HasRow e s (e.graph.succ p o).task) (sym f.2) succ_row))) (three_else a l b p (life_of n) q))
      (λ a b z. inv.keys.of_notify a b (let g = c.sums (items (notifies a b)) in let h = u.added (notifies a b) in let f = and_fails (is_marked x) false refl in
      let d = stirred_falls (notifies a b) record { explore = λ a l i. omega arith; notify = λ m l y z qs. fewer_ports a b m z qs; reenter = λ a l q qs. omega arith } e.graph x v in omega (arith, g, h, f, d, z)))
      (λ b y z. inv.keys.of_cause b y (let a = it (suspects_block b y) record { still = plain_still (λ a l i. refl) (λ a l y q qs. refl) (λ a l q qs. refl); suspect = λ a l. refl } in omega (arith, a, z)))
      (λ m. recs (is_created m)) inv.keys
    where
      fewer_ports : (p q a y : ℕ) (qs : List ℕ) → hit (eqb p a && is_in q qs) ≤ hit (eqb p a && is_in q (y ∷ qs))
      fewer_ports p q a y qs = by (eqb p a) (eqb q y)
        where
          by : (b d : Bool) → hit (b && is_in q qs) ≤ hit (b && cond d true (is_in q qs))
          by true true = hit_le (is_in q qs)
          by true false = omega arith
          by false d = omega arith

  suspects_view : (m l : ℕ) → items (is_suspect m l) w ≡ items (is_suspect m l) v + hit (is_marked x && two m l p (life_of n))
  suspects_view m l = let b = u.added (is_suspect m l) in let f = stirred_still (is_suspect m l) record { explore = λ a d i. refl; notify = λ a d y q qs. refl; reenter = λ a d q qs. refl } e.graph x v in omega (arith, b, f)

  suspects : (m l : ℕ) → (t.total (items (is_suspect m l)) ≡ s.total (items (is_suspect m l))) ⊎ ((m ≡ p) × (l ≡ life_of n) × (is_marked x ≡ true))
  suspects m l = let a = suspects_view m l in ⊎_elim (λ z. inl (eq (items (is_suspect m l)) (let b = and_fails (is_marked x) (two m l p (life_of n)) z in omega (arith, a, b))))
      (λ z. ⊎_elim (λ f. inr (z.1, z.2, f)) (λ f. inl (eq (items (is_suspect m l)) (let b : hit (is_marked x && two m l p (life_of n)) ≡ 0 = ap (λ (y : Bool). hit (y && two m l p (life_of n))) f in omega (arith, a, b)))) (either (is_marked x))) (two_tells m l p (life_of n))

  pub register_lives : Lives e t
  register_lives = wide_lives e s t keys_same (λ y. wd (recovery y) (λ z. cc)) shown (λ m. it (is_renew m) record { still = plain_still (λ a l i. refl) (λ a l y q qs. refl) (λ a l q qs. refl); suspect = λ a l. refl }) (λ m l d. it (is_renew_at m l d) record { still = plain_still (λ a l i. refl) (λ a l y q qs. refl) (λ a l q qs. refl); suspect = λ a l. refl })
      (λ y m l old z. ⊎_elim (λ f. (inv.lives.each y m old).suspected l (omega (arith, f, z)))
      (λ f. let here = at_row y m old f.0 in let low = shown_low in let a = f.1 in (omega (arith, a), subst (λ d. l ≤ standing_life (s.word (recovery d)) + replacing (s.word (recovery d))) (sym here) (omega (arith, a, low)))) (suspects m l)) inv.lives

  seen_now : (f : Known → Bool) → ((l : ℕ) → f (known.Waits p l q) ≡ false) → ((l : ℕ) → f (known.Closed p l (q / 40)) ≡ false) → count f (seen p (word.Notify (q / 40)) n v.known) ≡ count f v.known → t.total (facts f) ≡ s.total (facts f)
  seen_now f waiting closed same = eq (facts f) (ap (count f) u.known_is ∙ learned_other f p q x (seen p (word.Notify (q / 40)) n v.known) waiting closed ∙ same)

  word_here : (y m : ℕ) → HasKey e s y m → m ≡ p → s.word (spot_of y (word.Notify (q / 40))) ≡ n
  word_here y m old f = old_word y (q / 40) (at_row y m old f, refl)

  pub register_facts : Facts e t
  register_facts = wide_facts e s t keys_same shown more
      (λ y m l z old some. ⊎_elim (λ f. inv.facts.life y m l z old (let a = seen_now (is_seen_life m z l) (λ d. refl) (λ d. refl) f in omega (arith, a, some)))
      (λ f. subst (λ (d : Word). l ≤ life_shown d (s.word (spot_of y d))) (sym f.2) (let a = f.1 in let b = ap life_of (word_here y m old f.0) in omega (arith, a, b))) (seen_life_at m l z p (q / 40) n v.known))
      (λ y m l z old some. ⊎_elim (λ f. inv.facts.mark y m l z old (let a = seen_now (is_seen_mark m z l) (λ d. refl) (λ d. refl) f in omega (arith, a, some)))
      (λ f. subst (λ (d : Word). (l < life_shown d (s.word (spot_of y d))) ⊎ ((l ≡ life_shown d (s.word (spot_of y d))) × (mark_shown d (s.word (spot_of y d)) ≡ 1))) (sym f.2)
      (inr (let b = ap life_of (word_here y m old f.0) in f.1 ∙ sym b, ap mark_of (word_here y m old f.0) ∙ f.3))) (seen_mark_at m l z p (q / 40) n v.known))
      (λ m l z some. ⊎_elim (λ f. inv.facts.row_of_life m l z (let a = seen_now (is_seen_life m z l) (λ d. refl) (λ d. refl) f in omega (arith, a, some))) (λ f. (r, subst (HasKey e s r) (sym f.0) has)) (seen_life_at m l z p (q / 40) n v.known))
      (λ m l z some. ⊎_elim (λ f. inv.facts.row_of_mark m l z (let a = seen_now (is_seen_mark m z l) (λ d. refl) (λ d. refl) f in omega (arith, a, some))) (λ f. (r, subst (HasKey e s r) (sym f.0) has)) (seen_mark_at m l z p (q / 40) n v.known))
      closed_seen
      (λ z. wd pending (λ f. cc) ∙ inv.facts.idle (let a = known_same is_idle (λ y. refl) (λ y. refl) (λ y. refl) (λ y. refl) in omega (arith, a, z))) (λ z. wd stop (λ f. cc) ∙ inv.facts.stopped (let a = known_same is_stopped (λ y. refl) (λ y. refl) (λ y. refl) (λ y. refl) in omega (arith, a, z)))
      (wd stop (λ f. cc) ∙ inv.facts.stops ∙ ap (min 1) (sym (known_same is_stops (λ y. refl) (λ y. refl) (λ y. refl) (λ y. refl))))

  pub register_credits : Credits e t
  register_credits = record {
    sum = let a = posted_same s.word t.word e.shape.rows (λ i y. wd (posted i y) (λ f. cc)) in let b = eq stack_count u.stacks_as_many in let d = eq spare u.spare_same in let f = wd pending (λ f. cc) in let g = inv.work.credits.sum in omega (arith, a, b, d, f, g);
    few_spare = let a = c.sums too_many in let b = apart is_owe record { still = plain_still (λ a l i. refl) (λ a l y q qs. refl) (λ a l q qs. refl); suspect = λ a l. refl } in let f = u.spare_same in let g : too_many w ≤ too_many v = omega (arith, b, f) in let h = inv.work.credits.few_spare in let y = c.within too_many in omega (arith, a, g, h, y);
  }

  suspect_carries : (i : Job) (m l a b : ℕ) → carries i m l (item.Suspect a b cause.Notify false) ≡ false
  suspect_carries Explore m l a b = refl
  suspect_carries Compute m l a b = refl

  begun_view : (i : Job) (m l : ℕ) → begun i m l w ≡ begun i m l v
  begun_view i m l = let a = u.added (carries i m l) in let d = and_fails (is_marked x) (carries i m l (item.Suspect p (life_of n) cause.Notify false)) (suspect_carries i m l p (life_of n)) in let f = ap (count (is_ended i m l)) u.ended_is in let g = stirred_begun i m l e.graph x v in omega (arith, a, d, f, g)

  owed_same : (i : Job) (m l : ℕ) → t.total (owed i m l) ≡ s.total (owed i m l)
  owed_same i m l = it (is_owed i m l) record { still = plain_still (λ a l i. refl) (λ a l y q qs. refl) (λ a l q qs. refl); suspect = λ a l. refl }

  post_same : (i : Job) (y l : ℕ) → hit (eqb l (t.word (posted i y))) ≡ hit (eqb l (s.word (posted i y)))
  post_same i y l = ap (λ z. hit (eqb l z)) (wd (posted i y) (λ f. cc))

  held_ended : (i : Job) (m l : ℕ) → t.total (held i m l) + t.total (ended i m l) ≡ s.total (held i m l) + s.total (ended i m l)
  held_ended i m l = let a = c.sums (held i m l) in let b = c.sums (ended i m l) in let d = begun_view i m l in omega (arith, a, b, d)

  pub register_jobs : Jobs e t
  register_jobs = wide_jobs e s t keys_same shown (λ y. wd (recovery y) (λ f. cc)) (λ i y m l old some. let a = owed_same i m l in let b = held_ended i m l in let d = post_same i y l in omega (arith, a, b, d))
      (λ i m. let a = owed_same i m 0 in let b = held_ended i m 0 in let d = inv.work.jobs.some_life i m in omega (arith, a, b, d))
      (λ i m l. let a = eq (came i m l) (u.comes i m l) in let b = eq (begun i m l) (begun_view i m l) in let d = inv.work.jobs.came i m l in omega (arith, a, b, d)) more inv.work.jobs

  pub register_computings : Computings e t
  register_computings = wide_computings e s t keys_same
      (λ y m l old some z. (inv.work.computings.each y m l old some).unmade (let a = owed_same Compute m l in let b = post_same Compute y l in let d = it (is_unmade m l) record { still = plain_still (λ a l i. refl) (λ a l y q qs. refl) (λ a l q qs. refl); suspect = λ a l. refl } in omega (arith, a, b, d, z)))
      (λ y m l old some z. (inv.work.computings.each y m l old some).unwritten (let a = owed_same Compute m l in let b = post_same Compute y l in let d = it (is_compute m l) record { still = plain_still (λ a l i. refl) (λ a l y q qs. refl) (λ a l q qs. refl); suspect = λ a l. refl } in omega (arith, a, b, d, z)))
      (λ m l z. let a = it (is_made m l) record { still = plain_still (λ a l i. refl) (λ a l y q qs. refl) (λ a l q qs. refl); suspect = λ a l. refl } in omega (arith, a, z)) (λ m l z. let a = it (is_close m l) record { still = plain_still (λ a l i. refl) (λ a l y q qs. refl) (λ a l q qs. refl); suspect = λ a l. refl } in omega (arith, a, z)) (λ m l y z. let a = it (is_close_from m l y) record { still = plain_still (λ a l i. refl) (λ a l y q qs. refl) (λ a l q qs. refl); suspect = λ a l. refl } in omega (arith, a, z)) (λ m l y z. let a = it (is_notify m l y) record { still = plain_still (λ a l i. refl) (λ a l y q qs. refl) (λ a l q qs. refl); suspect = λ a l. refl } in omega (arith, a, z))
      (λ m l z. let a = eq (begun Compute m l) (begun_view Compute m l) in omega (arith, a, z)) (it (is_made_early e.graph) record { still = plain_still (λ a l i. refl) (λ a l y q qs. refl) (λ a l q qs. refl); suspect = λ a l. refl })
      (λ m l. recs (is_computed m l)) (λ m l. recs (is_written m l)) (λ m l y. recs (is_closed m l y)) inv.work.computings

  hands_same : (b : ℕ) → in_hand b w ≡ in_hand b v
  hands_same b = ap (count (is_hand b)) u.hands_are

  wrong_same : (b m : ℕ) → in_wrong_hand b m w ≡ in_wrong_hand b m v
  wrong_same b m = ap (λ y. cond (eqb y 0) (in_hand b w) 0) (apart (is_made_any m) record { still = plain_still (λ a l i. refl) (λ a l y q qs. refl) (λ a l q qs. refl); suspect = λ a l. refl }) ∙ ap (λ y. cond (eqb (items (is_made_any m) v) 0) y 0) (hands_same b)

  pub register_root : RootWork e t
  register_root = wide_root e s t (λ l z. ⊎_elim (λ f. omega (arith, f, z)) (λ f. absurd (let a = lists.root (sym f.0) in let b = marked f.2 in omega (arith, a, b))) (suspects e.graph.root l)) (λ l. recs (is_replaced e.graph.root l))
      (λ l. let a = c.sums (ended Compute e.graph.root l) in let b = stirred_ends_up Compute e.graph.root l e.graph x v in let d : ended Compute e.graph.root l w ≡ ended Compute e.graph.root l (stirred e.graph x v) = ap (count (is_ended Compute e.graph.root l)) u.ended_is in omega (arith, a, b, d))
      (λ l. recs (is_computed e.graph.root l)) (λ b m. let a = eq (in_wrong_hand b m) (wrong_same b m) in omega (arith, a)) (λ b. eq (in_hand b) (hands_same b)) (λ b. c.blocks b (λ f. cc)) inv.work.root

  suspect_causes : (m l : ℕ) (d : Cause) → (t.total (items (is_suspect_for m l d)) ≡ s.total (items (is_suspect_for m l d))) ⊎ ((m ≡ p) × (l ≡ life_of n) × (is_marked x ≡ true) × (d ≡ cause.Notify))
  suspect_causes m l cause.Notify = let a : items (is_suspect_for m l cause.Notify) w ≡ items (is_suspect_for m l cause.Notify) v + hit (is_marked x && (two m l p (life_of n) && true)) =
      (let b = u.added (is_suspect_for m l cause.Notify) in let f = stirred_still (is_suspect_for m l cause.Notify) record { explore = λ a b i. refl; notify = λ a b y q qs. refl; reenter = λ a b q qs. refl } e.graph x v in omega (arith, b, f)) in
      ⊎_elim (λ z. inl (eq (items (is_suspect_for m l cause.Notify)) (let b = and_fails (is_marked x) (two m l p (life_of n) && true) (ap (λ (y : Bool). y && true) z) in omega (arith, a, b))))
      (λ z. ⊎_elim (λ f. inr (z.1, z.2, f, refl)) (λ f. inl (eq (items (is_suspect_for m l cause.Notify)) (let b : hit (is_marked x && (two m l p (life_of n) && true)) ≡ 0 = ap (λ (y : Bool). hit (y && (two m l p (life_of n) && true))) f in omega (arith, a, b)))) (either (is_marked x))) (two_tells m l p (life_of n))
  suspect_causes m l cause.Descriptor = inl (it (is_suspect_for m l cause.Descriptor) record { still = plain_still (λ a d i. refl) (λ a d y q qs. refl) (λ a d q qs. refl); suspect = λ a d. Rattle.core_state.proofs.Credit.JobView.and_false (two m l a d) })
  suspect_causes m l (cause.Block b h f) = inl (it (is_suspect_for m l (cause.Block b h f)) record { still = plain_still (λ a d i. refl) (λ a d y q qs. refl) (λ a d q qs. refl); suspect = λ a d. Rattle.core_state.proofs.Credit.JobView.and_false (two m l a d) })

  pub register_causes : Causes e t
  register_causes = wide_causes e s t more (λ m l d. recs (is_replaced_for m l d)) (λ m l d z. ⊎_elim (λ f. inv.causes.suspected m l d (omega (arith, f, z)))
      (λ f. subst (λ (o : Cause). Shown e.graph (many s) (Grounded e.graph (many s)) m l o) (sym f.3) (by_notify (q / 40) (subst (λ o. 0 < many s (is_struck o l (hit_of.Notify (q / 40)))) (sym f.0) (subst (λ o. 0 < many s (is_struck p o (hit_of.Notify (q / 40)))) (sym f.1) (lists.struck (marked f.2)))))) (suspect_causes m l d)) inv.causes

  pub register_strikes : Strikes e t
  register_strikes = wide_strikes e s t keys_same shown more (λ y. eq (struck_by y) (ap (count (eqb y)) u.strikes_are))
      (λ y z. let a = eq (struck_idly y z) (ap (λ o. cond (eqb o 0) (struck_by z w) 0) (begun_view (job_of y.point) y.key.0 y.life) ∙ ap (λ o. cond (eqb (begun (job_of y.point) y.key.0 y.life v) 0) (count (eqb z) o) 0) u.strikes_are) in omega (arith, a))
      (λ m l h. eq (struck_upto e.plan m l h) (ap (count (strikes_upto e.plan m l h)) u.strikes_are)) (λ m l h. recs (is_struck_upto m l h)) inv.strikes

  -- the place whose port now waits
  waits_now : is_waiting x ≡ true → Waiting e t p q
  waits_now z = let bits = waiting_bits z in let life : life_of (t.word (notify r (q / 40))) ≡ life_of n = ap life_of c.left_is ∙ life_kept in record {
    row = r;
    has_key = (has.0, keys_same r ∙ has.1);
    waits_there = subst (λ o. 0 < t.total (waits p o q)) (sym life) (let a = waits_more p (life_of n) q in let b : hit (is_waiting x && three p (life_of n) q p (life_of n) q) ≡ 1 = rw z (three_here p (life_of n) q) in omega (arith, a, b));
    open_word = subst (λ o. many t (is_closed p o (q / 40)) ≡ 0) (sym life) (recs (is_closed p (life_of n) (q / 40)) ∙ sym (lists.closing bits.0) ∙ bits.1);
  }

  old_needs : (y m l i : ℕ) → Needs e t y m l i → Needs e s y m l i
  old_needs = wide_needs e s t keys_same shown (λ y. wd (recovery y) (λ f. cc)) (λ m l i z. sym (recs (is_spent m l i)) ∙ z)

  selfs_rise : (m l i : ℕ) → IsPlace e.graph m i → (s.total (covers_self m l i) ≤ t.total (covers_self m l i)) ⊎ ((m ≡ k) × (i ≡ j) × (is_waiting x ≡ true))
  selfs_rise m l i at = let a = c.sums (covers_self m l i) in let b = u.added (explores m l i) in let f = and_fails (is_marked x) false refl in let g = apart (is_owed Explore m l) record { still = plain_still (λ a l i. refl) (λ a l y q qs. refl) (λ a l q qs. refl); suspect = λ a l. refl } in let h = suspects_view m l in
      ⊎_elim (λ z. inl (omega (arith, a, b, f, g, h, z))) (λ z. inr z) (u.selfs m l i at)

  edges_rise : (m i : ℕ) → i < e.graph.places m → (s.total (covers_edge (e.graph.pred m i).task (e.graph.pred m i).port) ≤ t.total (covers_edge (e.graph.pred m i).task (e.graph.pred m i).port)) ⊎ ((m ≡ k) × (i ≡ j) × (is_waiting x ≡ true))
  edges_rise m i low = let y : Edge = e.graph.pred m i in let a = c.sums (covers_edge y.task y.port) in let b = u.added (notifies y.task y.port) in let d = u.added (is_renew y.task) in let f = u.added (reenters y.task y.port) in
      let h = and_fails (is_marked x) false refl in
      ⊎_elim (λ z. inl (omega (arith, a, b, d, f, h, z))) (λ z. inr (let back = fit.lawful.back m i low in (sym back.1 ∙ z.0, sym back.2 ∙ z.1, z.2))) (u.edges y.task y.port)

  pub register_cover : Cover e t
  register_cover = record {
    places = λ y m l i needs low. let d = post_same Explore y l in ⊎_elim
        (λ a. ⊎_elim (λ b. ⊎_elim (λ o. inl (omega (arith, a, b, d, o))) (λ o. inr (wide_waiting e s t keys_same shown (λ g h f z. recs (is_closed g h f) ∙ z) (λ g h f o. let z = waits_more g h f in omega (arith, z, o)) (e.graph.pred m i).task (e.graph.pred m i).port o))
        (inv.cover.places y m l i (old_needs y m l i needs) low)) (λ z. inr (covered m i z)) (edges_rise m i low)) (λ z. inr (covered m i z)) (selfs_rise m l i (inl low));
    self_place = λ y m l needs. let d = post_same Explore y l in ⊎_elim (λ a. let z = inv.cover.self_place y m l (old_needs y m l 40 needs) in omega (arith, a, d, z))
        (λ z. absurd (let a = z.1 in let b = fit.lawful.few_places k in let f = place in omega (arith, a, b, f))) (selfs_rise m l 40 (inr refl));
  }
    where
      covered : (m i : ℕ) → (m ≡ k) × (i ≡ j) × (is_waiting x ≡ true) → Waiting e t (e.graph.pred m i).task (e.graph.pred m i).port
      covered m i z = subst (λ o. Waiting e t (e.graph.pred o i).task (e.graph.pred o i).port) (sym z.0) (subst (λ o. Waiting e t (e.graph.pred k o).task (e.graph.pred k o).port) (sym z.1)
          (subst (λ o. Waiting e t o (e.graph.pred k j).port) (sym pred_task) (subst (λ o. Waiting e t p o) (sym pred_port) (waits_now z.2))))

  pub register_activity : Activity e t
  register_activity = wide_activity e s t keys_same shown more (λ m l i z. let a = recs (is_spent m l i) in omega (arith, a, z))
      (λ y m l old some. let a = c.sums (works m l) in let b = apart (is_owed Compute m l) record { still = plain_still (λ a l i. refl) (λ a l y q qs. refl) (λ a l q qs. refl); suspect = λ a l. refl } in let d = apart (carries Compute m l) record { still = plain_still (λ a l i. refl) (λ a l y q qs. refl) (λ a l q qs. refl); suspect = λ a l. refl } in let f = suspects_view m l in let g = apart (is_renew_of m l) record { still = plain_still (λ a l i. refl) (λ a l y q qs. refl) (λ a l q qs. refl); suspect = λ a l. refl } in let h = post_same Compute y l in omega (arith, a, b, d, f, g, h)) inv.activity

  pub register_no_fault : NoFault e t
  register_no_fault = wide_no_fault e s t keys_same (λ y. wd (recovery y) (λ f. cc)) more
      (λ unstruck old. ⊎_elim (λ z. absurd (let a = lists.struck (marked z) in let b = none_struck s sums unstruck p (life_of n) (hit_of.Notify (q / 40)) in omega (arith, a, b)))
      (λ z. eq (items is_any_suspect) (let a = u.added is_any_suspect in let d : hit (is_marked x && true) ≡ 0 = rw z refl in let f = stirred_still is_any_suspect record { explore = λ a l i. refl; notify = λ a l y q qs. refl; reenter = λ a l q qs. refl } e.graph x v in omega (arith, a, d, f)) ∙ old.none_suspected) (either (is_marked x)))
      (λ b y. recs (is_version b y)) (λ b. c.blocks b (λ f. cc)) inv.no_fault

  pub register_keeps : Invariant e t
  register_keeps = record {
    keys = register_keys;
    empty = register_empty;
    lives = register_lives;
    content = register_content;
    facts = register_facts;
    work = record { credits = register_credits; jobs = register_jobs; computings = register_computings; root = register_root };
    blocks = frame_blocks e s t (λ b. wd (turn b) (λ f. cc)) (λ b. eq (in_hand b) (hands_same b)) recs (λ b. c.blocks b (λ f. cc)) inv.blocks;
    records = frame_records e s t keys_same (λ y. wd (recovery y) (λ f. cc)) recs inv.records;
    causes = register_causes;
    strikes = register_strikes;
    cover = register_cover;
    activity = register_activity;
    no_fault = register_no_fault;
  }
