-- One step of a seat, which may note a result before it.
use Rattle.std.specs.Prelude.{◌≡◌, ℕ, ◌+◌, ◌≤◌, List}
use Rattle.core_state.specs.Graph.{Setting}
use Rattle.core_state.specs.Events.{Event}
use Rattle.core_state.specs.declared.views.View.{View}
use Rattle.core_steps.specs.Seat.{IsStep}

-- one step of a seat, of this event, once its view was prepared without a step; room for two records used at most
pub record HasStepped {S : Type 0} (setting : S → Setting) (view : S → View) (made spare : S → ℕ) (last shown : S → ℕ × ℕ) (happened : S → Event → ℕ → S → Type 0) (lender : S → List ℕ) (others : S → List View) (prepare : View → View) (x : Event) (s t : S) : Type 0 where
  pub ready : S
  pub prepared_is : view ready ≡ prepare (view s)
  pub same_setting : setting ready ≡ setting s
  pub same_made : made ready ≡ made s
  pub same_last : last ready ≡ last s
  pub same_lender : lender ready ≡ lender s
  pub same_others : others ready ≡ others s
  pub step : IsStep setting view made last shown happened lender others x ready t
  pub room : spare s ≤ spare t + 2
