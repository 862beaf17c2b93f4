-- A strike on a descriptor keeps every part, whether it lands or meets a mark.
use Rattle.std.proofs.Common.{◌≡◌, ◌≢◌, ℕ, ◌%◌, ◌^◌, ◌≤◌, ◌<◌, Bool, true, false, cond, nat_eq, bit_or, arith, sym, ap, refl, ◌∙◌, subst}
use Rattle.std.proofs.lemmas.Bool.{eqb-true}
use Rattle.core_state.specs.Graph.{Setting, Sound}
use Rattle.core_state.specs.Words.{descriptor, recovery, life_of, mark_of, descriptor_strike}
use Rattle.core_state.specs.Counts.{knows_row}
use Rattle.core_state.specs.Tests.{same_hit, names_hit, is_struck}
use Rattle.core_state.specs.Change.{Core, Change, Sums, many}
use Rattle.core_state.specs.Rows.{HasKey, Shows}
use Rattle.core_state.specs.Records.{Landed}
use Rattle.core_state.specs.Invariant.{Invariant}
use Rattle.core_state.specs.Guards.{CanStrikeDescriptor}
use Rattle.core_state.specs.Effects.{seen, saw, hitting_of, after_strike_descriptor}
use Rattle.core_state.specs.Views.{key_of, note, strike_made, strike_done}
use Rattle.core_state.specs.declared.answers.Hitting.TheVariants as hitting
use Rattle.graph_model.specs.declared.plan.Target.TheVariants as target
use Rattle.graph_model.specs.declared.record.Hit.{Hit}
use Rattle.graph_model.specs.declared.record.Hit.TheVariants as hit_of
use Rattle.graph_model.specs.declared.record.Record.TheVariants as record_of
use Rattle.core_state.specs.declared.views.View.{View}
use Rattle.core_state.specs.declared.views.Word.TheVariants as word
use Rattle.core_state.proofs.Base.Bits.{life_or, bit_or_here, or_low}
use Rattle.core_state.proofs.Strike.View.{StrikeView}
use Rattle.core_state.proofs.Strike.Once.{made_strikes}
use Rattle.core_state.proofs.Strike.Next.{NextStrike, next_strike_is, strike_low}
use Rattle.core_state.proofs.Strike.WordContent.{struck_descriptor_empty, struck_descriptor_content}
use Rattle.core_state.proofs.Strike.Word.{word_step, landed_view, missed_view, struck_recorded, struck_landed, struck_keeps}
use Rattle.core_state.proofs.Replace.Suspects.{descriptor_low}

-- a hit on the descriptor is what the strike names
names_descriptor : (i : Hit) → same_hit i hit_of.Descriptor ≡ true → names_hit target.Descriptor i ≡ true
names_descriptor hit_of.Descriptor z = refl
names_descriptor (hit_of.Notify d) z = absurd cc
names_descriptor (hit_of.Block b v) z = absurd cc

module _ (e : Setting) (fit : Sound e) (s t : Core) (sums : Sums s) (r k l n : ℕ) (v : View) (can : CanStrikeDescriptor e v r k l) (c : Change s t (descriptor r) n (bit_or n descriptor_strike) v (after_strike_descriptor e.graph e.plan k n (hitting_of n) v)) (inv : Invariant e s) where
  here : HasKey e s r k
  here = inv.keys.known r k (let a = c.within (knows_row r k) in let b = can.row.row_known in omega (arith, a, b))

  next : NextStrike e v can.strikes.strike
  next = next_strike_is e v can.strikes.strike can.strikes.is_next

  shows : Shows e s k n
  shows = subst (Shows e s k) c.found_is (inv.content.descriptors r k here)

  low : l ≤ life_of n
  low = let a = strike_low e s sums v can.strikes.strike c.within inv next r (subst (HasKey e s r) (sym can.strikes.of_key) here) in let b = can.strikes.of_life in let d = ap life_of c.found_is in omega (arith, a, b, d)

  life : life_of (bit_or n descriptor_strike) ≡ life_of n
  life = life_or n descriptor_strike (omega arith)

  marked : mark_of (bit_or n descriptor_strike) ≡ 1
  marked = bit_or_here n descriptor_strike 41 refl

  low_bits_stay : n % 2 ^ 48 < 2 ^ 42 → bit_or n descriptor_strike % 2 ^ 48 < 2 ^ 42
  low_bits_stay small = or_low n descriptor_strike small (omega arith)

  hits : (landed : Bool) (w : View) → Change s t (descriptor r) n (bit_or n descriptor_strike) v w → StrikeView can.strikes.strike k (life_of n) hit_of.Descriptor landed v w → w.known ≡ seen k word.Descriptor n v.known → w.hands ≡ v.hands → (landed ≡ false → mark_of n ≡ 1) → Invariant e t
  hits landed w by u known hands mark = let left : ℕ = bit_or n descriptor_strike in let step = word_step e s t r n left word.Descriptor v w refl life marked by in let old : landed ≡ false → 0 < many s (is_struck k (life_of n) hit_of.Descriptor) = λ z. shows.struck (mark z) in
      let not_root : k ≢ e.graph.root = λ q. fit.root_free can.strikes.strike next.low (can.strikes.of_key ∙ q) in let recorded = struck_recorded e s t sums can.strikes.strike r k l n left word.Descriptor hit_of.Descriptor landed v w by step u known hands here refl old inv in
      let landing = struck_landed e s t sums can.strikes.strike r k l n left word.Descriptor hit_of.Descriptor landed v w by step u known hands here refl old inv low life marked in
      struck_keeps e s t sums can.strikes.strike r k l n left word.Descriptor hit_of.Descriptor landed v w by step u known hands here refl old inv
      (let a = descriptor_low e s r k (s.word (recovery r)) (inv.lives.each r k here) in let b = ap life_of c.found_is in omega (arith, a, b)) refl
      (struck_descriptor_empty e s t can.strikes.strike k hit_of.Descriptor landed r n left v w step u here life marked low_bits_stay not_root inv by refl)
      (struck_descriptor_content e s t can.strikes.strike k hit_of.Descriptor landed r n left v w step u here life marked low_bits_stay not_root inv by refl recorded)
      (made_strikes e s t sums k l (life_of n) target.Descriptor hit_of.Descriptor landed v w can.strikes step u inv low names_descriptor
      (λ z has q. subst (λ o. Landed e t k l o hit_of.Descriptor) (sym (ap (λ o. t.word (descriptor o)) (inv.keys.one_row z r k has here) ∙ by.left_is)) landing) (λ z d has q. absurd cc) (λ q. absurd cc))

  pub keeps_strike_descriptor : Invariant e t
  keeps_strike_descriptor = by (nat_eq (mark_of n) 1) refl c
    where
      by : (b : Bool) → nat_eq (mark_of n) 1 ≡ b → Change s t (descriptor r) n (bit_or n descriptor_strike) v (after_strike_descriptor e.graph e.plan k n (cond b (hitting.Missed (life_of n)) (hitting.Landed (life_of n))) v) → Invariant e t
      by true f x = hits false (saw k word.Descriptor n (strike_made can.strikes.strike v)) (subst (λ o. Change s t (descriptor r) n (bit_or n descriptor_strike) v (saw k word.Descriptor n (strike_done o v))) can.strikes.is_next x) (missed_view can.strikes.strike k n word.Descriptor hit_of.Descriptor v) refl refl (λ z. eqb-true (mark_of n) 1 f)
      by false f x = hits true (note (record_of.Struck (key_of k) (life_of n) hit_of.Descriptor) (saw k word.Descriptor n (strike_made can.strikes.strike v)))
          (subst (λ o. Change s t (descriptor r) n (bit_or n descriptor_strike) v (note (record_of.Struck (key_of k) (life_of n) hit_of.Descriptor) (saw k word.Descriptor n (strike_done o v)))) can.strikes.is_next x) (landed_view can.strikes.strike k n word.Descriptor hit_of.Descriptor v) refl refl (λ z. absurd cc)
