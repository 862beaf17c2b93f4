-- A job that is owed, as a line, and what its steps leave.
use Rattle.std.specs.Prelude.{ℕ, ◌++◌, Bool, true, false, cond, List, [], ◌∷◌}
use Rattle.core_state.specs.Graph.{Setting}
use Rattle.core_state.specs.Lines.{Line, of, credit, begins}
use Rattle.core_state.specs.Sure.{IsFresh}
use Rattle.core_state.specs.declared.views.Item.TheVariants as item
use Rattle.core_state.specs.declared.views.View.{View}
use Rattle.recovery.specs.declared.owe.Owe.{Owe}
use Rattle.recovery.specs.declared.owe.Paid.{Paid}
use Rattle.recovery.specs.declared.owe.Paid.TheVariants as paid

-- the job on top
abbrev pub owe_lines : Owe → List Line → List Line
owe_lines o b = of (item.Owe o.key.0 o.job o.life) ∷ b

-- the spare credits while it is on top: one was bought for it, or none
abbrev pub owe_credits : Owe → ℕ
owe_credits o = cond o.bought 1 0

-- a bought credit leaves it; a post takes it away, and may bring the job that stood there
abbrev pub paid_lines : Paid → Owe → List Line → List Line
paid_lines paid.Bought o b = owe_lines o b
paid_lines paid.Posted o b = b
paid_lines (paid.Given life) o b = of (begins o.job o.key.0 life) ∷ credit ∷ b

-- a post uses the credit up
abbrev pub paid_credits : Paid → ℕ
paid_credits paid.Bought = 1
paid_credits paid.Posted = 0
paid_credits (paid.Given life) = 0

-- a post hints at its row
abbrev pub owe_hints : Owe → List ℕ → List ℕ
owe_hints o rows = cond o.bought (rows ++ o.row ∷ []) rows

-- the credit is bought first
abbrev pub is_bought : Paid → Bool
is_bought paid.Bought = true
is_bought paid.Posted = false
is_bought (paid.Given life) = false

-- a post answered a life
abbrev pub is_given_life : Paid → Bool
is_given_life paid.Bought = false
is_given_life paid.Posted = false
is_given_life (paid.Given life) = true

-- of a job that a post brought no strike was made
abbrev pub GivenFresh : Setting → View → Owe → Paid → Type 0
GivenFresh e v o paid.Bought = Unit {0}
GivenFresh e v o paid.Posted = Unit {0}
GivenFresh e v o (paid.Given life) = IsFresh e v o.job o.key.0 life
