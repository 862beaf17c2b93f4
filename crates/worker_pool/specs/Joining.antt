-- Passes of one table, as they are cut for workers and joined when these have ended.
use Rattle.std.specs.Prelude.{◌≡◌, ℕ, ◌+◌, ◌-◌, ◌%◌, List, [], ◌∷◌, All, Option, map, replicate}
use Rattle.atomic_table.specs.Seated.{TableId}
use Rattle.core_state.specs.Counts.{total_of}
use Rattle.core_state.specs.Graph.{Setting}
use Rattle.core_state.specs.Views.{all_parts, bare, blank, joined, opener}
use Rattle.core_state.specs.declared.block.BlockCells.{BlockCells}
use Rattle.core_state.specs.declared.views.Known.{Known}
use Rattle.core_state.specs.declared.views.Known.TheVariants as known
use Rattle.core_state.specs.declared.views.View.{View}
use Rattle.graph_model.specs.declared.record.Record.{Record}
use Rattle.core_steps.specs.Table.{IsClosing}
use Rattle.task_table.specs.Passes.{Passing}

-- the views of passes, in their order
abbrev pub views_of : List Passing → List View
views_of ps = map (λ p. p.view) ps

-- passes of this table
abbrev pub AreOf : TableId → List Passing → Type 0
AreOf z ps = All (λ p. p.table ≡ z) ps

-- no block is in hand
abbrev pub NoHands : List Passing → Type 0
NoHands ps = All (λ p. p.view.hands ≡ []) ps

-- how many parts of their table views have together
abbrev pub parts_of : List View → ℕ
parts_of vs = total_of vs (λ v. v.parts)

-- the views of so many workers at a table that begins: the first is to explore the root, and the others know this and have nothing else
abbrev pub begun_views : Setting → List Known → ℕ → List View
begun_views e knows workers = opener (all_parts - (workers - 1)) e.graph.root (e.graph.root % e.shape.rows) ∷ replicate (workers - 1) (bare 1 knows)

-- what a pass knows that is cut off a table that begins: the root's row
abbrev pub root_known : Setting → List Known
root_known e = known.Row (e.graph.root % e.shape.rows) e.graph.root ∷ []

-- a number of views that adds up where they are joined
abbrev pub AddsUp : (View → ℕ) → Type 0
AddsUp f = (f blank ≡ 0) × ((v w : View) → f (joined v w) ≡ f v + f w)

-- these views have what those have together
abbrev pub HaveAll : List View → List View → Type 0
HaveAll vs us = (f : View → ℕ) → AddsUp f → total_of us f ≡ total_of vs f

-- words, blocks and records that are left of a table, whose views have what those of the workers had when they ended
pub record HaveEnded (e : Setting) (vs : List View) (ws : List ℕ) (bs : List (Option BlockCells)) (records root_replaced : List Record) : Type 0 where
  pub views : List View
  pub all : HaveAll vs views
  pub closing : IsClosing e views ws bs records root_replaced
