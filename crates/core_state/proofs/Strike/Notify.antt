-- A strike on a notify word keeps every part, whether it lands or meets a mark.
use Rattle.std.proofs.Common.{◌≡◌, ◌≢◌, ℕ, ◌%◌, ◌^◌, ◌≤◌, ◌<◌, Bool, true, false, cond, nat_eq, bit_or, arith, sym, ap, refl, ◌∙◌, subst}
use Rattle.std.proofs.lemmas.Bool.{eq-eqb, eqb-true}
use Rattle.core_state.specs.Graph.{Setting, Sound}
use Rattle.core_state.specs.Words.{notify, recovery, life_of, mark_of, notify_strike}
use Rattle.core_state.specs.Counts.{knows_row}
use Rattle.core_state.specs.Tests.{same_hit, names_hit, is_struck}
use Rattle.core_state.specs.Change.{Core, Change, Sums, many}
use Rattle.core_state.specs.Rows.{HasKey, Lists}
use Rattle.core_state.specs.Records.{Landed}
use Rattle.core_state.specs.Invariant.{Invariant}
use Rattle.core_state.specs.Guards.{CanStrikeNotify}
use Rattle.core_state.specs.Effects.{seen, saw, hitting_of, after_strike_notify}
use Rattle.core_state.specs.Views.{key_of, note, strike_made, strike_done}
use Rattle.core_state.specs.declared.answers.Hitting.TheVariants as hitting
use Rattle.graph_model.specs.declared.plan.Target.TheVariants as target
use Rattle.graph_model.specs.declared.record.Hit.{Hit}
use Rattle.graph_model.specs.declared.record.Hit.TheVariants as hit_of
use Rattle.graph_model.specs.declared.record.Record.TheVariants as record_of
use Rattle.core_state.specs.declared.views.View.{View}
use Rattle.core_state.specs.declared.views.Word.TheVariants as word
use Rattle.core_state.proofs.Base.Bits.{life_or, bit_or_here, or_low}
use Rattle.core_state.proofs.Base.Counting.{eqb_here}
use Rattle.core_state.proofs.Strike.View.{StrikeView}
use Rattle.core_state.proofs.Strike.Once.{made_strikes}
use Rattle.core_state.proofs.Strike.Next.{NextStrike, next_strike_is, strike_low_at}
use Rattle.core_state.proofs.Strike.WordContent.{struck_notify_empty, struck_notify_content}
use Rattle.core_state.proofs.Strike.Word.{word_step, landed_view, missed_view, struck_recorded, struck_landed, struck_keeps}
use Rattle.core_state.proofs.Replace.Suspects.{notify_low}

-- a hit on the notify word is what the strike names
names_notify : (d : ℕ) (i : Hit) → same_hit i (hit_of.Notify d) ≡ true → names_hit (target.Notify d) i ≡ true
names_notify d hit_of.Descriptor z = absurd cc
names_notify d (hit_of.Notify x) z = eq-eqb d x (sym (eqb-true x d z))
names_notify d (hit_of.Block b v) z = absurd cc

module _ (e : Setting) (fit : Sound e) (s t : Core) (sums : Sums s) (r k l d n : ℕ) (v : View) (can : CanStrikeNotify e v r k l d) (c : Change s t (notify r d) n (bit_or n notify_strike) v (after_strike_notify e.graph e.plan k d n (hitting_of n) v)) (inv : Invariant e s) where
  here : HasKey e s r k
  here = inv.keys.known r k (let a = c.within (knows_row r k) in let b = can.row.row_known in omega (arith, a, b))

  next : NextStrike e v can.strikes.strike
  next = next_strike_is e v can.strikes.strike can.strikes.is_next

  lists : Lists e s k d n
  lists = subst (Lists e s k d) c.found_is (inv.content.notify_words r k d here can.word_in)

  low : l ≤ life_of n
  low = let a = strike_low_at e s sums v can.strikes.strike c.within inv next r d (subst (HasKey e s r) (sym can.strikes.of_key) here) (subst (λ o. d < e.graph.notify_words o) (sym can.strikes.of_key) can.word_in) in let b = can.strikes.of_life in let f = ap life_of c.found_is in omega (arith, a, b, f)

  life : life_of (bit_or n notify_strike) ≡ life_of n
  life = life_or n notify_strike (omega arith)

  marked : mark_of (bit_or n notify_strike) ≡ 1
  marked = bit_or_here n notify_strike 41 refl

  low_bits_stay : n % 2 ^ 48 < 2 ^ 42 → bit_or n notify_strike % 2 ^ 48 < 2 ^ 42
  low_bits_stay small = or_low n notify_strike small (omega arith)

  hits : (landed : Bool) (w : View) → Change s t (notify r d) n (bit_or n notify_strike) v w → StrikeView can.strikes.strike k (life_of n) (hit_of.Notify d) landed v w → w.known ≡ seen k (word.Notify d) n v.known → w.hands ≡ v.hands → (landed ≡ false → mark_of n ≡ 1) → Invariant e t
  hits landed w by u known hands mark = let left : ℕ = bit_or n notify_strike in let step = word_step e s t r n left (word.Notify d) v w refl life marked by in let old : landed ≡ false → 0 < many s (is_struck k (life_of n) (hit_of.Notify d)) = λ z. lists.struck (mark z) in
      let not_root : k ≢ e.graph.root = λ q. fit.root_free can.strikes.strike next.low (can.strikes.of_key ∙ q) in let recorded = struck_recorded e s t sums can.strikes.strike r k l n left (word.Notify d) (hit_of.Notify d) landed v w by step u known hands here (eqb_here d) old inv in
      let landing = struck_landed e s t sums can.strikes.strike r k l n left (word.Notify d) (hit_of.Notify d) landed v w by step u known hands here (eqb_here d) old inv low life marked in
      struck_keeps e s t sums can.strikes.strike r k l n left (word.Notify d) (hit_of.Notify d) landed v w by step u known hands here (eqb_here d) old inv
      (let a = notify_low e s r k (s.word (recovery r)) (inv.lives.each r k here) d can.word_in in let b = ap life_of c.found_is in omega (arith, a, b)) refl
      (struck_notify_empty e s t can.strikes.strike k (hit_of.Notify d) landed r n left v w step u here life marked low_bits_stay not_root inv d can.word_in by refl)
      (struck_notify_content e s t can.strikes.strike k (hit_of.Notify d) landed r n left v w step u here life marked low_bits_stay not_root inv d can.word_in by refl recorded)
      (made_strikes e s t sums k l (life_of n) (target.Notify d) (hit_of.Notify d) landed v w can.strikes step u inv low (names_notify d) (λ z has q. absurd cc)
      (λ z x has q. let same : x ≡ d = cc in subst (λ o. Landed e t k l (t.word (notify z o)) (hit_of.Notify o)) (sym same) (subst (λ o. Landed e t k l o (hit_of.Notify d)) (sym (ap (λ o. t.word (notify o d)) (inv.keys.one_row z r k has here) ∙ by.left_is)) landing)) (λ q. absurd cc))

  pub keeps_strike_notify : Invariant e t
  keeps_strike_notify = by (nat_eq (mark_of n) 1) refl c
    where
      by : (b : Bool) → nat_eq (mark_of n) 1 ≡ b → Change s t (notify r d) n (bit_or n notify_strike) v (after_strike_notify e.graph e.plan k d n (cond b (hitting.Missed (life_of n)) (hitting.Landed (life_of n))) v) → Invariant e t
      by true f x = hits false (saw k (word.Notify d) n (strike_made can.strikes.strike v)) (subst (λ o. Change s t (notify r d) n (bit_or n notify_strike) v (saw k (word.Notify d) n (strike_done o v))) can.strikes.is_next x) (missed_view can.strikes.strike k n (word.Notify d) (hit_of.Notify d) v) refl refl (λ z. eqb-true (mark_of n) 1 f)
      by false f x = hits true (note (record_of.Struck (key_of k) (life_of n) (hit_of.Notify d)) (saw k (word.Notify d) n (strike_made can.strikes.strike v)))
          (subst (λ o. Change s t (notify r d) n (bit_or n notify_strike) v (note (record_of.Struck (key_of k) (life_of n) (hit_of.Notify d)) (saw k (word.Notify d) n (strike_done o v)))) can.strikes.is_next x) (landed_view can.strikes.strike k n (word.Notify d) (hit_of.Notify d) v) refl refl (λ z. absurd cc)
