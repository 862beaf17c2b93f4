-- What a view says of the item at work: its life, and what it serves.
use Rattle.std.specs.Prelude.{ℕ, Bool, false, List, [], ◌∷◌}
use Rattle.core_state.specs.Graph.{Setting}
use Rattle.core_state.specs.Guards.{AtWork, KnowsRow}
use Rattle.core_state.specs.Views.{top_items}
use Rattle.core_state.specs.declared.views.Item.{Item}
use Rattle.core_state.specs.declared.views.Item.TheVariants as item
use Rattle.core_state.specs.declared.views.View.{View}

-- the life of an item
abbrev pub life_at : Item → ℕ
life_at (item.Explore key life place) = life
life_at (item.Compute key life loaded read made) = life
life_at (item.Close key life word) = life
life_at (item.Notify key life word ports) = life
life_at (item.Suspect key life cause waits) = life
life_at (item.Renew key life done) = life
life_at (item.Reenter key life ports) = life
life_at (item.Owe key job life) = life

-- the life of the first item, or 0
abbrev pub first_life : List Item → ℕ
first_life [] = 0
first_life (x ∷ xs) = life_at x

-- the life of the item at work
abbrev pub work_life : View → ℕ
work_life v = first_life (top_items v.stacks)

-- the first item is a suspect that awaits the end of the life's replacement
abbrev pub first_waits : List Item → Bool
first_waits (item.Suspect key life cause waits ∷ xs) = waits
first_waits xs = false

-- the suspect at work awaits the end of the life's replacement
abbrev pub work_waits : View → Bool
work_waits v = first_waits (top_items v.stacks)

-- the view knows the row of k and renews its life l
pub record Renews (e : Setting) (v : View) (r k l : ℕ) : Type 0 where
  pub row : KnowsRow e v r k
  pub done : ℕ
  pub at_work : AtWork v (item.Renew k l done)
