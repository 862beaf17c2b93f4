-- Closing a notify word keeps every part, whatever it told.
use Rattle.std.proofs.Common.{◌≡◌, ℕ, ◌-◌, ◌%◌, ◌^◌, ◌<◌, Bool, true, false, cond, nat_eq, nat_lt, bit_or, arith, ap, refl, ◌∙◌}
use mathlib.Core.Logic.{dite}
use native.Mathlib.Decide.{ℕ_discrete}
use Rattle.std.proofs.lemmas.Bool.{eqb-true, ltb-true}
use Rattle.std.proofs.lemmas.Nat.Bits.{bit_at_above, bit_at_cat_low}
use Rattle.core_state.specs.Graph.{Setting}
use Rattle.core_state.specs.Words.{notify, life_of, mark_of, closed_bit}
use Rattle.core_state.specs.Packed.{notify_of}
use Rattle.core_state.specs.Counts.{hit, held, knows_row}
use Rattle.core_state.specs.Tests.{carries}
use Rattle.core_state.specs.Change.{Core, Change, Sums}
use Rattle.core_state.specs.Rows.{HasKey}
use Rattle.core_state.specs.Invariant.{Invariant}
use Rattle.core_state.specs.Guards.{CanClose}
use Rattle.core_state.specs.Effects.{after_close, closing_of, close_left}
use Rattle.core_state.specs.declared.answers.Closing.TheVariants as closing
use Rattle.core_state.specs.declared.job.Job.TheVariants.{Compute}
use Rattle.core_state.specs.declared.views.Word.TheVariants as word
use Rattle.core_state.specs.declared.views.View.{View}
use Rattle.core_state.proofs.Base.Counting.{two_here}
use Rattle.core_state.proofs.Close.View.{at_top, stale_view, struck_view, closed_view}
use Rattle.core_state.proofs.Close.Parts.{closed_keeps}
use Rattle.core_state.proofs.Close.GivenUp.{left_keeps}
use Rattle.core_state.proofs.Load.Recovery.{keeps_saw}

module _ (e : Setting) (s t : Core) (sums : Sums s) (r k l w n seen : ℕ) (v : View) (can : CanClose e v r k l w seen) (c : Change s t (notify r w) n (close_left seen n) v (after_close k l w n (closing_of l seen n) v)) (inv : Invariant e s) where
  pub row_is : HasKey e s r k
  row_is = inv.keys.known r k (let a = c.within (knows_row r k) in let b = can.row.row_known in omega (arith, a, b))

  -- a life whose words are closed is at least 1
  pub some_life : 0 < l
  some_life = dite (ℕ_discrete l 0) (λ z. absurd (let a = c.within (held Compute k l) in let b = at_top k l w n v can.at_work (carries Compute k l) in let d = ap hit (two_here k l) in let f = inv.work.jobs.some_life Compute k in let g = ap (λ o. s.total (held Compute k o)) z in omega (arith, a, b, d, f, g))) (λ ne. omega (arith, ne))

  -- the word was as seen: of this life, with neither the mark nor the closed bit
  pub seen_plain : n ≡ seen → mark_of n ≡ 0
  seen_plain is = ap mark_of (is ∙ can.seen_is) ∙ bit_at_cat_low (l - 1) 48 can.ports 41 (omega arith) ∙ bit_at_above can.ports 40 41 can.small (omega arith)

  seen_open : n ≡ seen → closed_bit n ≡ 0
  seen_open is = ap closed_bit (is ∙ can.seen_is) ∙ bit_at_cat_low (l - 1) 48 can.ports 40 (omega arith) ∙ bit_at_above can.ports 40 40 can.small (omega arith)

  pub seen_life : n ≡ seen → life_of n ≡ l
  seen_life is = ap life_of (is ∙ can.seen_is) ∙ (let a = can.small in let b = some_life in omega (arith, a, b))

  by : (a b d : Bool) → nat_eq n seen ≡ a → nat_eq (mark_of n) 1 ≡ b → nat_lt l (life_of n) ≡ d
      → Change s t (notify r w) n (cond a (bit_or n (2 ^ 40)) n) v (after_close k l w n (cond a (closing.Edges (n % 2 ^ 40)) (cond b (closing.Struck (life_of n)) (cond d (closing.Stale (life_of n)) (closing.Moved (notify_of n))))) v) → Invariant e t
  by true b d f g h c' = let is = eqb-true n seen f in closed_keeps e s t sums r k l w n v (after_close k l w n (closing.Edges (n % 2 ^ 40)) v) c' row_is can.word_in (seen_plain is) (seen_open is) (seen_life is) some_life (at_top k l w n v can.at_work) (closed_view k l w n v can.at_work (n % 2 ^ 40)) inv
  by false true d f g h c' = left_keeps e s t sums r k l w n true v (after_close k l w n (closing.Struck (life_of n)) v) c' row_is can.word_in (λ z. eqb-true (mark_of n) 1 g) (λ z. absurd cc) (struck_view k l w n v can.at_work) inv
  by false false true f g h c' = left_keeps e s t sums r k l w n false v (after_close k l w n (closing.Stale (life_of n)) v) c' row_is can.word_in (λ z. absurd cc) (λ z. ltb-true l (life_of n) h) (stale_view k l w n v can.at_work (life_of n)) inv
  by false false false f g h c' = keeps_saw e s t r k n (word.Notify w) v can.row inv c'

  pub keeps_close : Invariant e t
  keeps_close = by (nat_eq n seen) (nat_eq (mark_of n) 1) (nat_lt l (life_of n)) refl refl refl c
