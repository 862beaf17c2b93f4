-- What a seat's work rests on: facts that its view never loses, and the lines on which the work stands.
use Rattle.std.specs.Prelude.{◌≡◌, ◌⊎◌, ℕ, ◌+◌, ◌<◌, ◌≤◌, Bool, true, List, ◌∷◌, Some}
use Rattle.core_state.specs.Counts.{facts, noted}
use Rattle.core_state.specs.Tests.{is_computed, is_replaced_or_told}
use Rattle.core_state.specs.Graph.{Setting}
use Rattle.core_state.specs.Events.{Event}
use Rattle.core_state.specs.Lines.{Line, HasLines}
use Rattle.core_state.specs.declared.views.Known.{Known}
use Rattle.core_state.specs.declared.views.View.{View}
use Rattle.core_steps.specs.Seat.{known_of, IsStep}
use Rattle.graph_model.specs.declared.record.Record.{Record}

-- the row is one of the table, and the view knows that it is that of the key
pub record KnowsKey (e : Setting) (v : View) (r k : ℕ) : Type 0 where
  pub low : r < e.shape.rows
  pub key_is : known_of v r ≡ Some k

-- a later view of the same seat: no fact is lost, and no row is known by another key
pub record Remembers (v w : View) : Type 0 where
  pub rows_stay : (r k : ℕ) → known_of v r ≡ Some k → known_of w r ≡ Some k
  pub facts_stay : (f : Known → Bool) → facts f v ≤ facts f w

-- no block was taken or given back, and no strike was made
pub record SameHands (v w : View) : Type 0 where
  pub same_hands : w.hands ≡ v.hands
  pub same_strikes : w.strikes ≡ v.strikes

-- the records are the same, or there is one more, of a replacement or of a predecessor's place that was spent
abbrev pub NotesOne : View → View → Type 0
NotesOne v w = (w.records ≡ v.records) ⊎ ((x : Record) × (w.records ≡ x ∷ v.records) × (is_replaced_or_told x ≡ true))

-- no result was made
abbrev pub SameResults : View → View → Type 0
SameResults v w = (k l : ℕ) → noted (is_computed k l) w ≡ noted (is_computed k l) v

-- one step of a seat, of this event, that takes no block, makes no strike and makes no result, with room for one record used at most
pub record MakesStep {S : Type 0} (setting : S → Setting) (view : S → View) (made spare : S → ℕ) (last shown : S → ℕ × ℕ) (happened : S → Event → ℕ → S → Type 0) (lender : S → List ℕ) (others : S → List View) (x : Event) (s t : S) : Type 0 where
  pub step : IsStep setting view made last shown happened lender others x s t
  pub room : spare s ≤ spare t + 1
  pub knows : Remembers (view s) (view t)
  pub hands : SameHands (view s) (view t)
  pub records : NotesOne (view s) (view t)

-- the view's first lines are these, above some others
pub record IsOnTop (e : Setting) (v : View) (lines : List Line → List Line) : Type 0 where
  pub below : List Line
  pub lines_are : HasLines e v (lines below)
