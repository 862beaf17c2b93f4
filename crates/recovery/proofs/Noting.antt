-- What a step of a replacement leaves, by its event: it takes no block, makes no strike and makes no result.
use Rattle.std.proofs.Common.{◌≡◌, ℕ, ◌+◌, ◌<◌, ◌≤◌, nat_lt, Bool, true, false, cond, List, ◌++◌, inl, inr, ⊎_elim, ap, ◌∙◌, subst, lt-ltb}
use Rattle.core_state.specs.Graph.{Setting}
use Rattle.core_state.specs.Events.{Event, after}
use Rattle.core_state.specs.Outcome.{strikes_left, hands_left, records_more}
use Rattle.core_state.specs.declared.views.View.{View}
use Rattle.core_state.proofs.Lines.Entries.{computed_kept, plain_entry, records_entered}
use Rattle.core_state.proofs.Lines.Remembers.{IsRight, names_row, right_apart}
use Rattle.core_steps.specs.Seat.{IsStep}
use Rattle.recovery.specs.Memory.{MakesStep, NotesOne, SameResults}
use Rattle.recovery.proofs.Knowing.{remembers, hands_kept}

-- the spending of a predecessor's place records nothing else
pub low_plain : (j : ℕ) → j < 40 → cond (nat_lt j 40) false true ≡ false
low_plain j low = ap (λ (b : Bool). cond b false true) (lt-ltb j 40 low)

notes : (e : Setting) (x : Event) (n : ℕ) (v w : View) → records_more x ≡ false → w ≡ after e x n v → NotesOne v w
notes e x n v w plain is = let more = records_entered e x n v w is in ⊎_elim
    (λ none. inl (more ∙ ap (λ xs. xs ++ v.records) none))
    (λ one. inr (one.0, more ∙ ap (λ xs. xs ++ v.records) one.1, one.2))
    (plain_entry e x n plain)

module _ {S : Type 0} {setting : S → Setting} {view : S → View} {made : S → ℕ} {last shown : S → ℕ × ℕ} {happened : S → Event → ℕ → S → Type 0} {lender : S → List ℕ} {others : S → List View} {x : Event} {s t : S} where
  -- the same step, its event by another name
  pub as_event : {spare : S → ℕ} {y : Event} → x ≡ y → MakesStep setting view made spare last shown happened lender others x s t → MakesStep setting view made spare last shown happened lender others y s t
  as_event {spare = spare} same step = subst (λ z. MakesStep setting view made spare last shown happened lender others z s t) same step

  -- no result was made
  pub same_results : {spare : S → ℕ} → MakesStep setting view made spare last shown happened lender others x s t → SameResults (view s) (view t)
  same_results step k l = computed_kept (setting s) x (shown t).1 k l (view s) (view t) step.step.view_is

  module _ (spare : S → ℕ) (step : IsStep setting view made last shown happened lender others x s t) (room : spare s ≤ spare t + 1) (plain : records_more x ≡ false) (strikes : strikes_left (setting s) x (view s) ≡ (view s).strikes) (hands : hands_left (setting s) x (shown t).1 (view s) ≡ (view s).hands) where
    -- one step of a replacement, that finds nothing else in a row than the view knows
    pub makes : IsRight (view s) x (shown t).1 → MakesStep setting view made spare last shown happened lender others x s t
    makes right = record {
      step = step;
      room = room;
      knows = remembers (setting s) x (shown t).1 (view s) (view t) right step.view_is;
      hands = hands_kept (setting s) x (shown t).1 (view s) (view t) strikes hands step.view_is;
      records = notes (setting s) x (shown t).1 (view s) (view t) plain step.view_is;
    }

    -- each but a look finds nothing of a row; the event by another name
    pub makes_as : (y : Event) → names_row x ≡ false → x ≡ y → MakesStep setting view made spare last shown happened lender others y s t
    makes_as y apart same = as_event same (makes (right_apart (view s) x (shown t).1 apart))
