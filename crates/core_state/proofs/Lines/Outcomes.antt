-- What each event leaves of the strikes, spare credits and hands of the view that steps, and that facts are only added.
use Rattle.std.proofs.Common.{◌≡◌, ℕ, ◌-◌, ◌/◌, Bool, true, false, cond, eqb, ◌&&◌, List, [], ◌∷◌, ◌++◌, refl, ap, sym, ◌∙◌, subst}
use mathlib.Core.Option.{Option, some, none}
use Rattle.core_state.specs.Graph.{Setting}
use Rattle.core_state.specs.Words.{mark_of, closed_bit, life_of, mark_shown, life_shown}
use Rattle.core_state.specs.Views.{strike_next, strike_done, learn, change_top}
use Rattle.core_state.specs.Effects.{has_idle, without_idle, skipped_items, claim_of, after_claim, registered_of, after_register, told_of, after_spend, closing_of, after_close, elected_of, after_elect, hitting_of, after_strike_descriptor, after_strike_notify, seen, seen_notify}
use Rattle.core_state.specs.Events.{Event, raw, after}
use Rattle.core_state.specs.Events.Event.{claim, look, load_descriptor, load_notify, load_recovery, load_pending, load_stop, register, spend, close, elect, renew_notify, renew_descriptor, finish, strike_descriptor, strike_notify, post, take, buy, drop_credit, take_turn, give_read, give_written, give_struck, halt}
use Rattle.core_state.specs.Outcome.{learned, registered_known, closed_known, key_told, strikes_left, spare_left, hands_left, made_next}
use Rattle.core_state.specs.declared.answers.Claim.{Claim}
use Rattle.core_state.specs.declared.answers.Claim.TheVariants as claimed
use Rattle.core_state.specs.declared.answers.Registered.{Registered}
use Rattle.core_state.specs.declared.answers.Registered.TheVariants as registered
use Rattle.core_state.specs.declared.answers.Told.{Told}
use Rattle.core_state.specs.declared.answers.Told.TheVariants as told
use Rattle.core_state.specs.declared.answers.Closing.{Closing}
use Rattle.core_state.specs.declared.answers.Closing.TheVariants as closing
use Rattle.core_state.specs.declared.answers.Elected.{Elected}
use Rattle.core_state.specs.declared.answers.Elected.TheVariants as elected
use Rattle.core_state.specs.declared.answers.Hitting.{Hitting}
use Rattle.core_state.specs.declared.answers.Hitting.TheVariants as hitting
use Rattle.core_state.specs.declared.views.Hand.{Hand}
use Rattle.core_state.specs.declared.views.Known.{Known}
use Rattle.core_state.specs.declared.views.Known.TheVariants as known
use Rattle.core_state.specs.declared.views.Word.{Word}
use Rattle.core_state.specs.declared.views.Word.TheVariants as word
use Rattle.core_state.specs.declared.views.View.{View}

-- what the lists and numbers of a view beside its stacks become
pub record Leaves (strikes : List ℕ) (spare : ℕ) (hands : List Hand) (known : List Known) (v w : View) : Type 0 where
  pub strikes_are : w.strikes ≡ strikes
  pub spare_is : w.spare ≡ spare
  pub hands_are : w.hands ≡ hands
  pub known_is : w.known ≡ known
  pub parts_same : w.parts ≡ v.parts

seen_more : (k : ℕ) (w : Word) (n : ℕ) (xs : List Known) → seen k w n xs ≡ seen k w n [] ++ xs
seen_more k w n xs = by (eqb (mark_shown w n) 1)
  where
    by : (b : Bool) → cond b (known.Mark k w (life_shown w n) ∷ known.Life k w (life_shown w n) ∷ xs) (known.Life k w (life_shown w n) ∷ xs) ≡ cond b (known.Mark k w (life_shown w n) ∷ known.Life k w (life_shown w n) ∷ []) (known.Life k w (life_shown w n) ∷ []) ++ xs
    by true = refl
    by false = refl

seen_notify_more : (k w n : ℕ) (xs : List Known) → seen_notify k w n xs ≡ seen_notify k w n [] ++ xs
seen_notify_more k w n xs = by (eqb (mark_of n) 0 && eqb (closed_bit n) 1)
  where
    by : (b : Bool) → cond b (known.Closed k (life_of n) w ∷ known.Life k (word.Notify w) (life_of n) ∷ xs) (seen k (word.Notify w) n xs) ≡ cond b (known.Closed k (life_of n) w ∷ known.Life k (word.Notify w) (life_of n) ∷ []) (seen k (word.Notify w) n []) ++ xs
    by true = refl
    by false = seen_more k (word.Notify w) n xs

either : (b : Bool) (x : Known) (xs : List Known) → cond b (x ∷ xs) xs ≡ cond b (x ∷ []) [] ++ xs
either true x xs = refl
either false x xs = refl

-- strikes that are made leave all else
abbrev Hit : Option ℕ → View → View → Type 0
Hit o v w = Leaves (made_next o v.strikes) v.spare v.hands v.known v w

hit_leaves : (o : Option ℕ) (v : View) → Hit o v (strike_done o v)
hit_leaves none v = record { strikes_are = refl; spare_is = refl; hands_are = refl; known_is = refl; parts_same = refl }
hit_leaves (some n) v = record { strikes_are = refl; spare_is = refl; hands_are = refl; known_is = refl; parts_same = refl }

module _ (e : Setting) where
  abbrev pub LeavesAt : Event → ℕ → View → View → Type 0
  LeavesAt x n v w = Leaves (strikes_left e x v) (spare_left e x v) (hands_left e x n v) (learned e x n ++ v.known) v w

  raw_leaves : (x : Event) (n : ℕ) (v : View) → LeavesAt x n v (raw e x n v)
  raw_leaves (claim r k) n v = by (claim_of k n)
    where
      by : (c : Claim) → Leaves v.strikes v.spare v.hands (known.Row r (key_told k c) ∷ v.known) v (after_claim r k c v)
      by claimed.Made = record { strikes_are = refl; spare_is = refl; hands_are = refl; known_is = refl; parts_same = refl }
      by claimed.Found = record { strikes_are = refl; spare_is = refl; hands_are = refl; known_is = refl; parts_same = refl }
      by (claimed.Other y) = record { strikes_are = refl; spare_is = refl; hands_are = refl; known_is = refl; parts_same = refl }
  raw_leaves (look r) n v = by (eqb n 0)
    where
      by : (b : Bool) → Leaves v.strikes v.spare v.hands (cond b [] (known.Row r (n - 1) ∷ []) ++ v.known) v (cond b (change_top (skipped_items e.graph e.shape.rows r v.known) v) (learn (known.Row r (n - 1)) v))
      by true = record { strikes_are = refl; spare_is = refl; hands_are = refl; known_is = refl; parts_same = refl }
      by false = record { strikes_are = refl; spare_is = refl; hands_are = refl; known_is = refl; parts_same = refl }
  raw_leaves (load_descriptor r k) n v = record { strikes_are = refl; spare_is = refl; hands_are = refl; known_is = seen_more k word.Descriptor n v.known; parts_same = refl }
  raw_leaves (load_notify r k w) n v = record { strikes_are = refl; spare_is = refl; hands_are = refl; known_is = seen_notify_more k w n v.known; parts_same = refl }
  raw_leaves (load_recovery r k) n v = record { strikes_are = refl; spare_is = refl; hands_are = refl; known_is = seen_more k word.Recovery n v.known; parts_same = refl }
  raw_leaves load_pending n v = record { strikes_are = refl; spare_is = refl; hands_are = refl; known_is = either (eqb n 0) known.Idle v.known; parts_same = refl }
  raw_leaves load_stop n v = record { strikes_are = refl; spare_is = refl; hands_are = refl; known_is = either (eqb n 1) known.Stopped v.known; parts_same = refl }
  raw_leaves (register r p q) n v = by (registered_of n)
    where
      by : (x : Registered) → Leaves v.strikes v.spare v.hands (registered_known p q x (seen p (word.Notify (q / 40)) n []) ++ v.known) v (after_register e.graph p q n x v)
      by (registered.Waiting m) = record { strikes_are = refl; spare_is = refl; hands_are = refl; known_is = ap (λ z. known.Waits p m q ∷ z) (seen_more p (word.Notify (q / 40)) n v.known); parts_same = refl }
      by (registered.Closed m) = record { strikes_are = refl; spare_is = refl; hands_are = refl; known_is = ap (λ z. known.Closed p m (q / 40) ∷ z) (seen_more p (word.Notify (q / 40)) n v.known); parts_same = refl }
      by (registered.Struck m) = record { strikes_are = refl; spare_is = refl; hands_are = refl; known_is = seen_more p (word.Notify (q / 40)) n v.known; parts_same = refl }
  raw_leaves (spend r k j) n v = by (told_of (e.graph.places k) j n)
    where
      by : (t : Told) → Leaves v.strikes v.spare v.hands (seen k word.Descriptor n [] ++ v.known) v (after_spend e.graph k j n t v)
      by (told.Spent l) = record { strikes_are = refl; spare_is = refl; hands_are = refl; known_is = seen_more k word.Descriptor n v.known; parts_same = refl }
      by (told.Last l) = record { strikes_are = refl; spare_is = refl; hands_are = refl; known_is = seen_more k word.Descriptor n v.known; parts_same = refl }
      by (told.Already l) = record { strikes_are = refl; spare_is = refl; hands_are = refl; known_is = seen_more k word.Descriptor n v.known; parts_same = refl }
      by (told.Struck l) = record { strikes_are = refl; spare_is = refl; hands_are = refl; known_is = seen_more k word.Descriptor n v.known; parts_same = refl }
  raw_leaves (close r k l w m) n v = by (closing_of l m n)
    where
      by : (c : Closing) → Leaves v.strikes v.spare v.hands (closed_known k l w c (seen k (word.Notify w) n []) ++ v.known) v (after_close k l w n c v)
      by (closing.Edges ports) = record { strikes_are = refl; spare_is = refl; hands_are = refl; known_is = ap (λ z. known.Closed k l w ∷ z) (seen_more k (word.Notify w) n v.known); parts_same = refl }
      by (closing.Stale y) = record { strikes_are = refl; spare_is = refl; hands_are = refl; known_is = seen_more k (word.Notify w) n v.known; parts_same = refl }
      by (closing.Struck y) = record { strikes_are = refl; spare_is = refl; hands_are = refl; known_is = seen_more k (word.Notify w) n v.known; parts_same = refl }
      by (closing.Moved y) = record { strikes_are = refl; spare_is = refl; hands_are = refl; known_is = seen_more k (word.Notify w) n v.known; parts_same = refl }
  raw_leaves (elect r k l c waits) n v = by (elected_of l n)
    where
      by : (x : Elected) → Leaves v.strikes v.spare v.hands (seen k word.Recovery n [] ++ v.known) v (after_elect k l c waits n x v)
      by elected.Yes = record { strikes_are = refl; spare_is = refl; hands_are = refl; known_is = seen_more k word.Recovery n v.known; parts_same = refl }
      by (elected.Replaced m) = record { strikes_are = refl; spare_is = refl; hands_are = refl; known_is = seen_more k word.Recovery n v.known; parts_same = refl }
      by (elected.Renewing m) = record { strikes_are = refl; spare_is = refl; hands_are = refl; known_is = seen_more k word.Recovery n v.known; parts_same = refl }
  raw_leaves (renew_notify r k l w) n v = record { strikes_are = refl; spare_is = refl; hands_are = refl; known_is = refl; parts_same = refl }
  raw_leaves (renew_descriptor r k l) n v = record { strikes_are = refl; spare_is = refl; hands_are = refl; known_is = refl; parts_same = refl }
  raw_leaves (finish r k l) n v = record { strikes_are = refl; spare_is = refl; hands_are = refl; known_is = refl; parts_same = refl }
  raw_leaves (strike_descriptor r k l) n v = let h = hit_leaves (strike_next e.graph e.plan v) v in by h (hitting_of n)
    where
      by : Hit (strike_next e.graph e.plan v) v (strike_done (strike_next e.graph e.plan v) v) → (x : Hitting) → Leaves (made_next (strike_next e.graph e.plan v) v.strikes) v.spare v.hands (seen k word.Descriptor n [] ++ v.known) v (after_strike_descriptor e.graph e.plan k n x v)
      by h (hitting.Landed m) = record { strikes_are = h.strikes_are; spare_is = h.spare_is; hands_are = h.hands_are; known_is = ap (seen k word.Descriptor n) h.known_is ∙ seen_more k word.Descriptor n v.known; parts_same = h.parts_same }
      by h (hitting.Missed m) = record { strikes_are = h.strikes_are; spare_is = h.spare_is; hands_are = h.hands_are; known_is = ap (seen k word.Descriptor n) h.known_is ∙ seen_more k word.Descriptor n v.known; parts_same = h.parts_same }
  raw_leaves (strike_notify r k l w) n v = let h = hit_leaves (strike_next e.graph e.plan v) v in by h (hitting_of n)
    where
      by : Hit (strike_next e.graph e.plan v) v (strike_done (strike_next e.graph e.plan v) v) → (x : Hitting) → Leaves (made_next (strike_next e.graph e.plan v) v.strikes) v.spare v.hands (seen k (word.Notify w) n [] ++ v.known) v (after_strike_notify e.graph e.plan k w n x v)
      by h (hitting.Landed m) = record { strikes_are = h.strikes_are; spare_is = h.spare_is; hands_are = h.hands_are; known_is = ap (seen k (word.Notify w) n) h.known_is ∙ seen_more k (word.Notify w) n v.known; parts_same = h.parts_same }
      by h (hitting.Missed m) = record { strikes_are = h.strikes_are; spare_is = h.spare_is; hands_are = h.hands_are; known_is = ap (seen k (word.Notify w) n) h.known_is ∙ seen_more k (word.Notify w) n v.known; parts_same = h.parts_same }
  raw_leaves (post r i k l) n v = record { strikes_are = refl; spare_is = refl; hands_are = refl; known_is = refl; parts_same = refl }
  raw_leaves (take r i k) n v = record { strikes_are = refl; spare_is = refl; hands_are = refl; known_is = refl; parts_same = refl }
  raw_leaves buy n v = record { strikes_are = refl; spare_is = refl; hands_are = refl; known_is = refl; parts_same = refl }
  raw_leaves drop_credit n v = by (has_idle v.stacks)
    where
      by : (b : Bool) → Leaves v.strikes (cond b v.spare (v.spare - 1)) v.hands v.known v (cond b (record v { stacks = without_idle v.stacks }) (record v { spare = v.spare - 1 }))
      by true = record { strikes_are = refl; spare_is = refl; hands_are = refl; known_is = refl; parts_same = refl }
      by false = record { strikes_are = refl; spare_is = refl; hands_are = refl; known_is = refl; parts_same = refl }
  raw_leaves (take_turn b was) n v = by (eqb n 0)
    where
      by : (c : Bool) → Leaves v.strikes v.spare (cond c (record { block = b; held = was } ∷ v.hands) v.hands) v.known v (cond c (record v { hands = record { block = b; held = was } ∷ v.hands }) v)
      by true = record { strikes_are = refl; spare_is = refl; hands_are = refl; known_is = refl; parts_same = refl }
      by false = record { strikes_are = refl; spare_is = refl; hands_are = refl; known_is = refl; parts_same = refl }
  raw_leaves (give_read b was) n v = record { strikes_are = refl; spare_is = refl; hands_are = refl; known_is = refl; parts_same = refl }
  raw_leaves (give_written k l b was now) n v = record { strikes_are = refl; spare_is = refl; hands_are = refl; known_is = refl; parts_same = refl }
  raw_leaves (give_struck k l b was now) n v = let h = hit_leaves (strike_next e.graph e.plan v) v in record { strikes_are = h.strikes_are; spare_is = h.spare_is; hands_are = refl; known_is = h.known_is; parts_same = h.parts_same }
  raw_leaves halt n v = record { strikes_are = refl; spare_is = refl; hands_are = refl; known_is = refl; parts_same = refl }

  -- the same after what is finished has gone
  pub leaves : (x : Event) (n : ℕ) (v w : View) → w ≡ after e x n v → LeavesAt x n v w
  leaves x n v w is = subst (LeavesAt x n v) (sym is) (let h = raw_leaves x n v in record { strikes_are = h.strikes_are; spare_is = h.spare_is; hands_are = h.hands_are; known_is = h.known_is; parts_same = h.parts_same })
