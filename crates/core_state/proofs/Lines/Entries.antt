-- What each event records: its entries come before the records that the view had, and they are at most one, which is no Computed.
use Rattle.std.proofs.Common.{◌≡◌, ◌⊎◌, ℕ, ◌+◌, ◌-◌, Bool, true, false, cond, nat_lt, eqb, List, [], ◌∷◌, ◌++◌, ⊎_elim, inl, inr, arith, refl, ap, ◌∙◌}
use mathlib.Core.Option.{Option, some, none}
use Rattle.core_state.specs.Graph.{Setting}
use Rattle.core_state.specs.Counts.{bump, count, noted}
use Rattle.core_state.specs.Tests.{is_computed, is_any_computed, is_replaced_or_told}
use Rattle.core_state.specs.Views.{key_of, strike_next, strike_done, learn, change_top}
use Rattle.core_state.specs.Effects.{has_idle, without_idle, skipped_items, claim_of, after_claim, registered_of, after_register, told_of, after_spend, closing_of, after_close, elected_of, after_elect, hitting_of, after_strike_descriptor, after_strike_notify}
use Rattle.core_state.specs.Events.{Event, raw, after}
use Rattle.core_state.specs.Events.Event.{claim, look, load_descriptor, load_notify, load_recovery, load_pending, load_stop, register, spend, close, elect, renew_notify, renew_descriptor, finish, strike_descriptor, strike_notify, post, take, buy, drop_credit, take_turn, give_read, give_written, give_struck, halt}
use Rattle.core_state.specs.Outcome.{entries, claimed_entries, told_entries, closed_entries, elected_entries, hitting_entries, records_more}
use Rattle.graph_model.specs.declared.record.Cause.{Cause}
use Rattle.graph_model.specs.declared.record.Hit.{Hit}
use Rattle.graph_model.specs.declared.record.Hit.TheVariants as hit_of
use Rattle.graph_model.specs.declared.record.Record.{Record}
use Rattle.graph_model.specs.declared.record.Record.TheVariants as record_of
use Rattle.core_state.specs.declared.answers.Claim.{Claim}
use Rattle.core_state.specs.declared.answers.Claim.TheVariants as claimed
use Rattle.core_state.specs.declared.answers.Registered.{Registered}
use Rattle.core_state.specs.declared.answers.Registered.TheVariants as registered
use Rattle.core_state.specs.declared.answers.Told.{Told}
use Rattle.core_state.specs.declared.answers.Told.TheVariants as told
use Rattle.core_state.specs.declared.answers.Closing.{Closing}
use Rattle.core_state.specs.declared.answers.Closing.TheVariants as closing
use Rattle.core_state.specs.declared.answers.Elected.{Elected}
use Rattle.core_state.specs.declared.answers.Elected.TheVariants as elected
use Rattle.core_state.specs.declared.answers.Hitting.{Hitting}
use Rattle.core_state.specs.declared.answers.Hitting.TheVariants as hitting
use Rattle.core_state.specs.declared.views.Known.TheVariants as known
use Rattle.core_state.specs.declared.views.View.{View}

hit_records : (o : Option ℕ) (v : View) → (strike_done o v).records ≡ v.records
hit_records none v = refl
hit_records (some n) v = refl

module _ (e : Setting) where
  raw_entries : (x : Event) (n : ℕ) (v : View) → (raw e x n v).records ≡ entries e x n ++ v.records
  raw_entries (claim r k) n v = by (claim_of k n)
    where
      by : (c : Claim) → (after_claim r k c v).records ≡ claimed_entries k c ++ v.records
      by claimed.Made = refl
      by claimed.Found = refl
      by (claimed.Other key) = refl
  raw_entries (look r) n v = by (eqb n 0)
    where
      by : (b : Bool) → (cond b (change_top (skipped_items e.graph e.shape.rows r v.known) v) (learn (known.Row r (n - 1)) v)).records ≡ v.records
      by true = refl
      by false = refl
  raw_entries (load_descriptor r k) n v = refl
  raw_entries (load_notify r k w) n v = refl
  raw_entries (load_recovery r k) n v = refl
  raw_entries load_pending n v = refl
  raw_entries load_stop n v = refl
  raw_entries (register r p q) n v = by (registered_of n)
    where
      by : (x : Registered) → (after_register e.graph p q n x v).records ≡ v.records
      by (registered.Waiting m) = refl
      by (registered.Closed m) = refl
      by (registered.Struck m) = refl
  raw_entries (spend r k j) n v = by (told_of (e.graph.places k) j n)
    where
      by : (t : Told) → (after_spend e.graph k j n t v).records ≡ told_entries k j t ++ v.records
      by (told.Spent l) = refl
      by (told.Last l) = refl
      by (told.Already l) = refl
      by (told.Struck l) = refl
  raw_entries (close r k l w m) n v = by (closing_of l m n)
    where
      by : (c : Closing) → (after_close k l w n c v).records ≡ closed_entries k l w c ++ v.records
      by (closing.Edges ports) = refl
      by (closing.Stale y) = refl
      by (closing.Struck y) = refl
      by (closing.Moved y) = refl
  raw_entries (elect r k l c waits) n v = by (elected_of l n)
    where
      by : (x : Elected) → (after_elect k l c waits n x v).records ≡ elected_entries k l c x ++ v.records
      by elected.Yes = refl
      by (elected.Replaced m) = refl
      by (elected.Renewing m) = refl
  raw_entries (renew_notify r k l w) n v = refl
  raw_entries (renew_descriptor r k l) n v = refl
  raw_entries (finish r k l) n v = refl
  raw_entries (strike_descriptor r k l) n v = by (hitting_of n)
    where
      by : (x : Hitting) → (after_strike_descriptor e.graph e.plan k n x v).records ≡ hitting_entries k hit_of.Descriptor x ++ v.records
      by (hitting.Landed m) = ap (λ (z : List Record). record_of.Struck (key_of k) m hit_of.Descriptor ∷ z) (hit_records (strike_next e.graph e.plan v) v)
      by (hitting.Missed m) = hit_records (strike_next e.graph e.plan v) v
  raw_entries (strike_notify r k l w) n v = by (hitting_of n)
    where
      by : (x : Hitting) → (after_strike_notify e.graph e.plan k w n x v).records ≡ hitting_entries k (hit_of.Notify w) x ++ v.records
      by (hitting.Landed m) = ap (λ (z : List Record). record_of.Struck (key_of k) m (hit_of.Notify w) ∷ z) (hit_records (strike_next e.graph e.plan v) v)
      by (hitting.Missed m) = hit_records (strike_next e.graph e.plan v) v
  raw_entries (post r i k l) n v = refl
  raw_entries (take r i k) n v = refl
  raw_entries buy n v = refl
  raw_entries drop_credit n v = by (has_idle v.stacks)
    where
      by : (b : Bool) → (cond b (record v { stacks = without_idle v.stacks }) (record v { spare = v.spare - 1 })).records ≡ v.records
      by true = refl
      by false = refl
  raw_entries (take_turn b was) n v = by (eqb n 0)
    where
      by : (c : Bool) → (cond c (record v { hands = record { block = b; held = was } ∷ v.hands }) v).records ≡ v.records
      by true = refl
      by false = refl
  raw_entries (give_read b was) n v = refl
  raw_entries (give_written k l b was now) n v = refl
  raw_entries (give_struck k l b was now) n v = refl
  raw_entries halt n v = refl

  -- what is finished goes without a record
  pub records_entered : (x : Event) (n : ℕ) (v w : View) → w ≡ after e x n v → w.records ≡ entries e x n ++ v.records
  records_entered x n v w is = ap (λ (u : View). u.records) is ∙ raw_entries x n v

-- no record, or one of which the test tells this
abbrev pub OneAtMost : (Record → Bool) → Bool → List Record → Type 0
OneAtMost p b xs = (xs ≡ []) ⊎ ((r : Record) × (xs ≡ r ∷ []) × (p r ≡ b))

claimed_one : (k : ℕ) (c : Claim) → OneAtMost is_any_computed false (claimed_entries k c)
claimed_one k claimed.Made = inr (record_of.Created (key_of k), refl, refl)
claimed_one k claimed.Found = inl refl
claimed_one k (claimed.Other key) = inl refl

-- a place that is spent is the only one of which a record tells
told_one : (p : Record → Bool) (b : Bool) (k j : ℕ) → ((l : ℕ) → p (record_of.Spent (key_of k) l j) ≡ b) → (t : Told) → OneAtMost p b (told_entries k j t)
told_one p b k j tells (told.Spent l) = inr (record_of.Spent (key_of k) l j, refl, tells l)
told_one p b k j tells (told.Last l) = inr (record_of.Spent (key_of k) l j, refl, tells l)
told_one p b k j tells (told.Already l) = inl refl
told_one p b k j tells (told.Struck l) = inl refl

closed_one : (k l w : ℕ) (c : Closing) → OneAtMost is_any_computed false (closed_entries k l w c)
closed_one k l w (closing.Edges ports) = inr (record_of.Closed (key_of k) l w, refl, refl)
closed_one k l w (closing.Stale m) = inl refl
closed_one k l w (closing.Struck m) = inl refl
closed_one k l w (closing.Moved x) = inl refl

elected_one : (p : Record → Bool) (b : Bool) (k l : ℕ) (c : Cause) → p (record_of.Replaced (key_of k) l c) ≡ b → (x : Elected) → OneAtMost p b (elected_entries k l c x)
elected_one p b k l c tells elected.Yes = inr (record_of.Replaced (key_of k) l c, refl, tells)
elected_one p b k l c tells (elected.Replaced m) = inl refl
elected_one p b k l c tells (elected.Renewing m) = inl refl

hitting_one : (k : ℕ) (h : Hit) (x : Hitting) → OneAtMost is_any_computed false (hitting_entries k h x)
hitting_one k h (hitting.Landed l) = inr (record_of.Struck (key_of k) l h, refl, refl)
hitting_one k h (hitting.Missed l) = inl refl

module _ (e : Setting) where
  -- each event records at most once, and never that a result was made
  pub one_entry : (x : Event) (n : ℕ) → OneAtMost is_any_computed false (entries e x n)
  one_entry (claim r k) n = claimed_one k (claim_of k n)
  one_entry (look r) n = inl refl
  one_entry (load_descriptor r k) n = inl refl
  one_entry (load_notify r k w) n = inl refl
  one_entry (load_recovery r k) n = inl refl
  one_entry load_pending n = inl refl
  one_entry load_stop n = inl refl
  one_entry (register r p q) n = inl refl
  one_entry (spend r k j) n = told_one is_any_computed false k j (λ l. refl) (told_of (e.graph.places k) j n)
  one_entry (close r k l w m) n = closed_one k l w (closing_of l m n)
  one_entry (elect r k l c waits) n = elected_one is_any_computed false k l c refl (elected_of l n)
  one_entry (renew_notify r k l w) n = inl refl
  one_entry (renew_descriptor r k l) n = inl refl
  one_entry (finish r k l) n = inl refl
  one_entry (strike_descriptor r k l) n = hitting_one k hit_of.Descriptor (hitting_of n)
  one_entry (strike_notify r k l w) n = hitting_one k (hit_of.Notify w) (hitting_of n)
  one_entry (post r i k l) n = inl refl
  one_entry (take r i k) n = inl refl
  one_entry buy n = inl refl
  one_entry drop_credit n = inl refl
  one_entry (take_turn b was) n = inl refl
  one_entry (give_read b was) n = inl refl
  one_entry (give_written k l b was now) n = inr (record_of.Written (key_of k) l b now.tag, refl, refl)
  one_entry (give_struck k l b was now) n = inr (record_of.Struck (key_of k) l (hit_of.Block b now.tag), refl, refl)
  one_entry halt n = inl refl

  -- all but claims, the spending of a self place, closing, strikes, and a block that goes home written or struck record only replacements and places of predecessors
  pub plain_entry : (x : Event) (n : ℕ) → records_more x ≡ false → OneAtMost is_replaced_or_told true (entries e x n)
  plain_entry (claim r k) n plain = absurd cc
  plain_entry (look r) n plain = inl refl
  plain_entry (load_descriptor r k) n plain = inl refl
  plain_entry (load_notify r k w) n plain = inl refl
  plain_entry (load_recovery r k) n plain = inl refl
  plain_entry load_pending n plain = inl refl
  plain_entry load_stop n plain = inl refl
  plain_entry (register r p q) n plain = inl refl
  plain_entry (spend r k j) n plain = told_one is_replaced_or_told true k j (λ l. low (nat_lt j 40) plain) (told_of (e.graph.places k) j n)
    where
      low : (b : Bool) → cond b false true ≡ false → b ≡ true
      low true is = refl
      low false is = absurd cc
  plain_entry (close r k l w m) n plain = absurd cc
  plain_entry (elect r k l c waits) n plain = elected_one is_replaced_or_told true k l c refl (elected_of l n)
  plain_entry (renew_notify r k l w) n plain = inl refl
  plain_entry (renew_descriptor r k l) n plain = inl refl
  plain_entry (finish r k l) n plain = inl refl
  plain_entry (strike_descriptor r k l) n plain = absurd cc
  plain_entry (strike_notify r k l w) n plain = absurd cc
  plain_entry (post r i k l) n plain = inl refl
  plain_entry (take r i k) n plain = inl refl
  plain_entry buy n plain = inl refl
  plain_entry drop_credit n plain = inl refl
  plain_entry (take_turn b was) n plain = inl refl
  plain_entry (give_read b was) n plain = inl refl
  plain_entry (give_written k l b was now) n plain = absurd cc
  plain_entry (give_struck k l b was now) n plain = absurd cc
  plain_entry halt n plain = inl refl

  -- how many records there are of some kind
  pub noted_entered : (p : Record → Bool) (x : Event) (n : ℕ) (v w : View) → w ≡ after e x n v → noted p w ≡ count p (entries e x n) + noted p v
  noted_entered p x n v w is = ap (count p) (records_entered e x n v w is) ∙ ⊎_elim (λ q. rw q (omega arith)) (λ q. rw (q.1) (bump_one (p q.0))) (one_entry x n)
    where
      bump_one : (b : Bool) → bump b (noted p v) ≡ bump b 0 + noted p v
      bump_one true = omega arith
      bump_one false = omega arith

  pub none_computed : (x : Event) (n k l : ℕ) → count (is_computed k l) (entries e x n) ≡ 0
  none_computed x n k l = ⊎_elim (λ q. ap (count (is_computed k l)) q) (λ q. ap (count (is_computed k l)) q.1 ∙ ap (λ (b : Bool). bump b 0) (apart q.0 q.2)) (one_entry x n)
    where
      apart : (r : Record) → is_any_computed r ≡ false → is_computed k l r ≡ false
      apart (record_of.Created key) other = refl
      apart (record_of.Spent key life place) other = refl
      apart (record_of.Computed key life) other = absurd cc
      apart (record_of.Written key life block version) other = refl
      apart (record_of.Closed key life word) other = refl
      apart (record_of.Struck key life hit) other = refl
      apart (record_of.Replaced key life cause) other = refl

  -- the results that were made are those that the view had
  pub computed_kept : (x : Event) (n k l : ℕ) (v w : View) → w ≡ after e x n v → noted (is_computed k l) w ≡ noted (is_computed k l) v
  computed_kept x n k l v w is = let a = noted_entered (is_computed k l) x n v w is in let b = none_computed x n k l in omega (arith, a, b)
