-- A pass and a seat, as clauses see them.
use Rattle.std.specs.Prelude.{◌≡◌, ℕ, ◌<◌, List, [], ◌∷◌, min}
use Rattle.atomic_table.specs.Seated.{TableId}
use Rattle.core_state.specs.Graph.{Setting}
use Rattle.core_state.specs.Words.{place_of}
use Rattle.core_state.specs.Events.{Event, after, at, Can}
use Rattle.core_state.specs.declared.views.View.{View}
use Rattle.graph_model.specs.declared.record.Record.{Record}
use Rattle.core_steps.specs.Seat.{Trace, IsStep}
use Rattle.core_steps.specs.Table.{Stored, Keeps}
use Rattle.core_steps.specs.declared.kinds.Touched.{Touched}
use Rattle.task_table.specs.Moments.{Seated, Moment}

-- a pass: the table whose seat it holds, what the seat knows and holds, and the records that it keeps
pub record Passing : Type 0 where
  pub table : TableId
  pub seat : ℕ
  pub view : View
  pub store : Stored
  pub root_replaced : List Record
  -- for how many more of the root's replacements there is room
  pub replaced_room : ℕ

-- for how many more records there is room, whichever they are
abbrev pub room_of : Passing → ℕ
room_of p = min p.store.room p.replaced_room

-- what holds of a pass at all times: it has a share of the table, its records are those of its view, and a table that keeps its rule has a seat with its view
pub record IsPass (e : Setting) (p : Passing) : Type 0 where
  pub live : 0 < p.view.parts
  pub keeps : Keeps e.graph.root (p.view ∷ []) (p.store ∷ []) p.root_replaced
  pub seated : Seated e p.view

-- one event of a pass on the word that it touched
pub record IsPassStep (e : Setting) (x : Event) (t : Touched) (p q : Passing) : Type 0 where
  pub can : Can e p.view x
  pub at_is : t.at ≡ place_of e.shape (at x)
  pub view_is : q.view ≡ after e x t.found p.view
  pub moment : Moment e x t.found p.view q.view
  pub same_table : q.table ≡ p.table
  pub same_seat : q.seat ≡ p.seat

-- the table as a list of numbers
abbrev pub numbers : TableId → List ℕ
numbers z = z.words ∷ z.slots ∷ z.views_name ∷ z.atom ∷ z.block ∷ z.offset ∷ z.slot_names

-- a seat as its calls see it: its pass, and the steps that were made
pub record Sitter : Type 0 where
  pub pass : Passing
  pub steps : Trace

-- what who lent the table learns it by: how many parts its seat has, and which seat of which table it is
abbrev pub lender_of : Passing → List ℕ
lender_of p = p.view.parts ∷ p.seat ∷ numbers p.table

-- one step of such a seat; of the others it knows nothing
abbrev pub IsSharedStep : Setting → Event → Sitter → Sitter → Type 0
IsSharedStep e x s t = IsStep {S = Sitter} (λ u. e) (λ u. u.pass.view) (λ u. u.steps.made) (λ u. u.steps.last) (λ u. u.steps.shown) (λ u y n w. Moment e y n u.pass.view w.pass.view) (λ u. lender_of u.pass) (λ u. []) x s t
