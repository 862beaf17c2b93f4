-- A whole call on a block, put together from its two steps.
use Rattle.std.proofs.Common.{◌≡◌, ◌∙◌, ℕ, ◌<◌, Bool, true, false, cond, List, Option, Some, length, ap, sym, subst, refl}
use Rattle.core_state.specs.Effects.{is_good, found_in}
use Rattle.core_state.specs.Graph.{Setting}
use Rattle.core_state.specs.Events.{after, Event, Event as event}
use Rattle.core_state.specs.declared.block.BlockCells.{BlockCells}
use Rattle.core_state.specs.declared.views.View.{View}
use Rattle.core_steps.specs.Seat.{IsStep}
use Rattle.block_store.specs.Turned.{HasTurned, IsTaken, Turns, blow_home, blow_of, read_home, read_of, struck_home}
use Rattle.block_store.specs.declared.answers.Blow.{Blow}
use Rattle.block_store.specs.declared.answers.Blow.TheVariants as blow
use Rattle.block_store.specs.declared.answers.Read.{Read}
use Rattle.block_store.specs.declared.answers.Read.TheVariants as read

-- a reading that was answered by what the block was wasn't busy
pub reads_home : (b version : ℕ) (x : BlockCells) (answer : Read) → answer ≡ read_of version x → read_home b answer ≡ Some (event.give_read b)
reads_home b version x answer told = ap (read_home b) told ∙ by (is_good version x)
  where
    by : (q : Bool) → read_home b (cond q read.Good (read.Bad (found_in version x))) ≡ Some (event.give_read b)
    by true = refl
    by false = refl

-- nor was such a strike
pub blows_home : (k l b version : ℕ) (x : BlockCells) (answer : Blow) → answer ≡ blow_of version x → blow_home k l b answer ≡ Some (struck_home k l b answer)
blows_home k l b version x answer told = subst (λ z. blow_home k l b z ≡ Some (struck_home k l b z)) (sym told) (by (is_good version x))
  where
    by : (q : Bool) → blow_home k l b (cond q blow.Landed blow.Missed) ≡ Some (struck_home k l b (cond q blow.Landed blow.Missed))
    by true = refl
    by false = refl

module _ {S : Type 0} {setting : S → Setting} {view : S → View} {made : S → ℕ} {last shown : S → ℕ × ℕ} {happened : S → Event → ℕ → S → Type 0} {lender : S → List ℕ} {others : S → List View} where
  -- a step that took the block leaves it in hand, with what was told of its cells
  pub took : {b : ℕ} {s mid : S} (x : BlockCells) → IsStep setting view made last shown happened lender others (event.take_turn b x) s mid → (shown mid).1 ≡ 0 → length x.cells ≡ (setting s).graph.cells b → (x.struck ≡ false → 0 < x.tag → x.cells ≡ (setting s).graph.value ((setting s).graph.writer b x.tag)) → IsTaken (setting mid) (view mid) b x
  took {b = b} {s = s} {mid = mid} x step free cells value = let same = step.table.same_setting in record {
    hand = record { others = (view s).hands; hands_are = ap (λ (v : View). v.hands) (step.view_is ∙ ap (λ n. after (setting s) (event.take_turn b x) n (view s)) free) };
    cells = cells ∙ ap (λ (e : Setting). e.graph.cells b) (sym same);
    value = λ unstruck written. value unstruck written ∙ ap (λ (e : Setting). e.graph.value (e.graph.writer b x.tag)) (sym same);
  }

  -- two steps of one seat are a whole call
  pub turned : {A : Type 0} {b : ℕ} {s mid t : S} {answer : A} {home : Option (BlockCells → Event)} {goes : BlockCells → Event} (told : BlockCells → A) (x : BlockCells) → home ≡ Some goes → IsStep setting view made last shown happened lender others (event.take_turn b x) s mid → (shown mid).1 ≡ 0 → IsTaken (setting mid) (view mid) b x → answer ≡ told x → IsStep setting view made last shown happened lender others (goes x) mid t → Turns setting view made last shown happened lender others b answer told home s t
  turned {b = b} {s = s} {mid = mid} {t = t} {answer = answer} told x h takes free taken is_told goes_home =
      let two : HasTurned setting view made last shown happened lender others b answer told _ s t = record { middle = mid; was = x; takes = takes; free = free; is_taken = taken; is_told = is_told; goes_home = goes_home } in
      subst (λ w. Turns setting view made last shown happened lender others b answer told w s t) (sym h) two
