-- Cutting a seat in two and joining two keep every part. A view that is cut off knows what the other knows and has nothing else; a view that takes in another has what both had.
use Rattle.std.proofs.Common.{◌≡◌, ℕ, ◌+◌, ◌≤◌, arith, refl}
use Rattle.core_state.specs.Graph.{Setting}
use Rattle.core_state.specs.Counts.{items, ended, begun, came, noted, facts, in_hand, in_wrong_hand, struck_by, struck_idly, struck_upto, stack_count, spare, too_many}
use Rattle.core_state.specs.Tests.{carries, explores, is_owed, is_suspect, is_renew, is_renew_of, notifies, reenters, strikes_upto}
use Rattle.core_state.specs.Change.{Core, Split, Join}
use Rattle.core_state.specs.Cover.{covers_self, covers_edge, works, Passed}
use Rattle.core_state.specs.Prevented.{Prevented}
use Rattle.core_state.specs.Invariant.{Invariant}
use Rattle.core_state.specs.Views.{less_one, newcomer, joined, blank}
use Rattle.core_state.specs.declared.job.Job.TheVariants.{Explore, Compute}
use Rattle.core_state.specs.declared.views.View.{View}
use Rattle.core_state.proofs.Seats.Parts.{Dealt, dealt_keeps}
use Rattle.core_state.proofs.Plan.Passes.{same_passed}
use Rattle.core_state.proofs.Plan.Prevents.{same_prevented}
use Rattle.core_state.proofs.Seats.View.{count_both, joined_items, joined_records, joined_facts, joined_ended, joined_begun, joined_came, joined_stacks, joined_hands, joined_strikes, joined_too_many, joined_idly, joined_wrong}

module _ (e : Setting) (s t : Core) (v : View) (c : Split s t v (less_one v) (newcomer v)) where
  -- what a newcomer hasn't stays
  whole : (f : View → ℕ) → f (less_one v) ≡ f v → f (newcomer v) ≡ 0 → t.total f ≡ s.total f
  whole f a b = let o = c.sums f in omega (arith, a, b, o)

  split_dealt : Dealt e s t
  split_dealt = record {
    words = c.words;
    blocks = c.blocks;
    its = λ p. whole (items p) refl refl;
    recs = λ p. whole (noted p) refl refl;
    ends = λ i k l. whole (ended i k l) refl refl;
    begins = λ i k l. whole (begun i k l) refl refl;
    comes = λ i k l. whole (came i k l) refl refl;
    stacks = whole stack_count refl refl;
    spares = whole spare refl refl;
    few = let a = whole too_many refl refl in omega (arith, a);
    hands = λ b. whole (in_hand b) refl refl;
    wrong = λ b k. let a = whole (in_wrong_hand b k) refl refl in omega (arith, a);
    by = λ n. whole (struck_by n) refl refl;
    idly = λ x n. let a = whole (struck_idly x n) refl refl in omega (arith, a);
    upto = λ k l h. whole (struck_upto e.plan k l h) refl refl;
    selfs = λ k l j. whole (covers_self k l j) refl refl;
    edges = λ p q. whole (covers_edge p q) refl refl;
    working = λ k l. whole (works k l) refl refl;
    knows = λ p. let a = c.sums (facts p) in let b = c.within (facts p) in (omega (arith, a), omega (arith, a, b));
  }

  pub keeps_split : Invariant e s → Invariant e t
  keeps_split inv = dealt_keeps e s t split_dealt inv

  pub split_passed : Passed e s → Passed e t
  split_passed i = same_passed e s t split_dealt.its split_dealt.recs split_dealt.by i

  pub split_prevented : Prevented e s → Prevented e t
  split_prevented i = same_prevented e s t split_dealt.its split_dealt.recs i

module _ (e : Setting) (s t : Core) (v w : View) (c : Join s t v w (joined v w) blank) where
  -- what adds stays
  added : (f : View → ℕ) → f (joined v w) ≡ f v + f w → f blank ≡ 0 → t.total f ≡ s.total f
  added f a b = let o = c.sums f in omega (arith, a, b, o)

  fewer : (f : View → ℕ) → f (joined v w) ≤ f v + f w → f blank ≡ 0 → t.total f ≤ s.total f
  fewer f a b = let o = c.sums f in omega (arith, a, b, o)

  join_dealt : Dealt e s t
  join_dealt = record {
    words = c.words;
    blocks = c.blocks;
    its = λ p. added (items p) (joined_items p v w) refl;
    recs = λ p. added (noted p) (joined_records p v w) refl;
    ends = λ i k l. added (ended i k l) (joined_ended i k l v w) refl;
    begins = λ i k l. added (begun i k l) (joined_begun i k l v w) refl;
    comes = λ i k l. added (came i k l) (joined_came i k l v w) refl;
    stacks = added stack_count (joined_stacks v w) refl;
    spares = added spare refl refl;
    few = fewer too_many (joined_too_many v w) refl;
    hands = λ b. added (in_hand b) (joined_hands b v w) refl;
    wrong = λ b k. fewer (in_wrong_hand b k) (joined_wrong b k v w) refl;
    by = λ n. added (struck_by n) (joined_strikes n v w) refl;
    idly = λ x n. fewer (struck_idly x n) (joined_idly x n v w) refl;
    upto = λ k l h. added (struck_upto e.plan k l h) (let a = count_both (strikes_upto e.plan k l h) w.strikes v.strikes in omega (arith, a)) refl;
    selfs = λ k l j. added (covers_self k l j) (let a = joined_items (explores k l j) v w in let b = joined_items (is_owed Explore k l) v w in let d = joined_items (is_suspect k l) v w in omega (arith, a, b, d)) refl;
    edges = λ p q. added (covers_edge p q) (let a = joined_items (notifies p q) v w in let b = joined_items (is_renew p) v w in let d = joined_items (reenters p q) v w in omega (arith, a, b, d)) refl;
    working = λ k l. added (works k l) (let a = joined_items (is_owed Compute k l) v w in let b = joined_items (carries Compute k l) v w in let d = joined_items (is_suspect k l) v w in let f = joined_items (is_renew_of k l) v w in omega (arith, a, b, d, f)) refl;
    knows = λ p. let a = added (facts p) (joined_facts p v w) refl in (omega (arith, a), omega (arith, a));
  }

  pub keeps_join : Invariant e s → Invariant e t
  keeps_join inv = dealt_keeps e s t join_dealt inv

  pub join_passed : Passed e s → Passed e t
  join_passed i = same_passed e s t join_dealt.its join_dealt.recs join_dealt.by i

  pub join_prevented : Prevented e s → Prevented e t
  join_prevented i = same_prevented e s t join_dealt.its join_dealt.recs i
