-- A replacement as lines, what its next turn rests on, and what a turn tells.
use Rattle.std.specs.Prelude.{◌≡◌, ◌⊎◌, ℕ, ◌+◌, ◌^◌, ◌<◌, ◌≤◌, Bool, true, false, ◌&&◌, not, eqb, List, [], ◌∷◌}
use Rattle.graph_model.specs.Graph.{Graph as TaskGraph}
use Rattle.graph_model.specs.declared.record.Cause.{Cause}
use Rattle.core_state.specs.Asked.{IsCoreKey}
use Rattle.core_state.specs.Graph.{Graph, Setting, greatest_life}
use Rattle.core_state.specs.Lines.{Line, HasLines, of, credit, begins}
use Rattle.core_state.specs.Sure.{IsFresh}
use Rattle.core_state.specs.declared.views.Item.TheVariants as item
use Rattle.core_state.specs.declared.views.View.{View}
use Rattle.recovery.specs.Memory.{KnowsKey}
use Rattle.recovery.specs.Owing.{owe_lines, owe_credits, owe_hints}
use Rattle.recovery.specs.Reentering.{port_lines, FitsWay, IsTold, reads_mark}
use Rattle.recovery.specs.declared.recover.Phase.{Phase}
use Rattle.recovery.specs.declared.recover.Phase.TheVariants as phase
use Rattle.recovery.specs.declared.recover.Recover.{Recover}
use Rattle.recovery.specs.declared.reenter.Reenter.{Reenter}
use Rattle.recovery.specs.declared.turn.Turn.{Turn}
use Rattle.recovery.specs.declared.turn.Turn.TheVariants as turn

-- The lines of what is left of the replacement of life l of k. The successors are entered again for the next life. A re-entering without ports stays where something stands above it.
abbrev pub phase_lines : Graph → ℕ → ℕ → Cause → Bool → Phase → List Line → List Line
phase_lines g k l c waits phase.Suspect b = of (item.Suspect k l c waits) ∷ b
phase_lines g k l c waits (phase.Renew done) b = of (item.Renew k l done) ∷ b
phase_lines g k l c waits phase.Finish b = of (item.Renew k l (g.notify_words k + 1)) ∷ b
phase_lines g k l c waits (phase.Owe owe behind) b = owe_lines owe (port_lines g k (l + 1) behind.port b)
phase_lines g k l c waits (phase.Reenter reenter) b = port_lines g k (l + 1) reenter.port b
phase_lines g k l c waits phase.Passed b = of (item.Reenter k (l + 1) []) ∷ b
phase_lines g k l c waits phase.Over b = b

abbrev pub recover_lines : Graph → Recover → List Line → List Line
recover_lines g r b = phase_lines g r.key.0 r.life r.cause r.wait r.phase b

-- the spare credits while it is on top
abbrev pub phase_credits : Phase → ℕ
phase_credits (phase.Owe owe behind) = owe_credits owe
phase_credits _ = 0

-- what the next turn rests on: facts that the view has learnt
abbrev pub FitsPhase : TaskGraph → Setting → View → ℕ → ℕ → ℕ → Phase → Type 0
FitsPhase g e v k l lives (phase.Renew done) = (l < lives) × (done ≤ e.graph.notify_words k)
FitsPhase g e v k l lives phase.Finish = l < lives
FitsPhase g e v k l lives (phase.Owe owe behind) = IsTold g e v owe.row owe.key.0 × FitsWay e v k behind.port behind.way
FitsPhase g e v k l lives (phase.Reenter reenter) = (reenter.port < e.graph.ports k) × (reenter.port + 1 < 2 ^ 32) × FitsWay e v k reenter.port reenter.way
FitsPhase g e v k l lives _ = Unit {0}

pub record Fits (g : TaskGraph) (e : Setting) (v : View) (r : Recover) : Type 0 where
  pub is_key : IsCoreKey g r.key.0
  pub known : KnowsKey e v r.row r.key.0
  pub lives_are : r.lives ≡ greatest_life e r.key.0
  pub in_phase : FitsPhase g e v r.key.0 r.life r.lives r.phase

-- nothing is left to do
abbrev pub is_over : Phase → Bool
is_over phase.Passed = true
is_over phase.Over = true
is_over _ = false

-- an election is next, and the life is the greatest that is allowed
abbrev pub is_last : Phase → ℕ → ℕ → Bool
is_last phase.Suspect l lives = eqb l lives
is_last _ l lives = false

-- the next turn makes a step
abbrev pub makes_step : Recover → Bool
makes_step r = not (is_over r.phase) && not (is_last r.phase r.life r.lives)

-- a post hints at its row
abbrev pub turn_hints : Phase → List ℕ → List ℕ
turn_hints (phase.Owe owe behind) rows = owe_hints owe rows
turn_hints _ rows = rows

-- what stands above what is left, by what a turn told
abbrev pub turn_lines : Turn → List Line → List Line
turn_lines turn.Going b = b
turn_lines turn.Done b = b
turn_lines (turn.Met row k l c) b = of (item.Suspect k.0 l c false) ∷ b
turn_lines (turn.Given row k i l) b = of (begins i k.0 l) ∷ credit ∷ b
turn_lines (turn.LivesSpent k l c) b = b

-- What a turn tells of what is left, and of a task or the root. What was met or given finds no credit to spare, and of a job that was given no strike was made.
abbrev pub TurnTells : TaskGraph → Setting → View → Phase → Turn → Type 0
TurnTells g e v next turn.Going = is_over next ≡ false
TurnTells g e v next turn.Done = next ≡ phase.Over
TurnTells g e v next (turn.Met row k l c) = IsTold g e v row k.0 × (phase_credits next ≡ 0)
TurnTells g e v next (turn.Given row k i l) = IsTold g e v row k.0 × (phase_credits next ≡ 0) × IsFresh e v i k.0 l
TurnTells g e v next (turn.LivesSpent k l c) = next ≡ phase.Suspect

-- a turn that ends the run tells the life of the replacement
abbrev pub SpendsLife : Turn → Recover → Type 0
SpendsLife (turn.LivesSpent k l c) r = (k ≡ r.key) × (l ≡ r.life) × (c ≡ r.cause)
SpendsLife _ r = Unit {0}

-- nothing was met or given, and the run goes on
abbrev pub is_quiet : Turn → Bool
is_quiet turn.Going = true
is_quiet turn.Done = true
is_quiet (turn.Met row k l c) = false
is_quiet (turn.Given row k i l) = false
is_quiet (turn.LivesSpent k l c) = false

abbrev pub is_met : Turn → Bool
is_met (turn.Met row k l c) = true
is_met _ = false

abbrev pub is_given : Turn → Bool
is_given (turn.Given row k i l) = true
is_given _ = false

-- the next turn steps on a word that may show the mark of a strike, or posts
abbrev pub sees_mark : Phase → Bool
sees_mark (phase.Reenter reenter) = reads_mark reenter.way
sees_mark _ = false

abbrev pub posts : Phase → Bool
posts (phase.Owe owe behind) = owe.bought
posts _ = false

abbrev pub is_spent : Turn → Bool
is_spent (turn.LivesSpent k l c) = true
is_spent _ = false

-- a turn of a replacement: what it leaves of the lines, and what the next one rests on
pub record Recovers (g : TaskGraph) (e : Setting) (v w : View) (before now : Recover) (told : Turn) : Type 0 where
  pub lines : (b : List Line) → HasLines e v (recover_lines e.graph before b) → HasLines e w (turn_lines told (recover_lines e.graph now b))
  pub fits : Fits g e w now
  pub tells : TurnTells g e w now.phase told
  pub credits : w.spare ≡ phase_credits now.phase
  pub same : now ≡ record before { phase = now.phase }

-- the re-entering goes on from a port that is there, and else something else comes
abbrev pub IsOnward : ℕ → Reenter → Phase → Phase → Type 0
IsOnward ports reenter end next = ((next ≡ phase.Reenter reenter) × (reenter.port < ports) × (reenter.port + 1 < 2 ^ 32)) ⊎ ((next ≡ end) × (ports ≤ reenter.port))

-- what a phase lets a turn tell that meets nothing
abbrev pub going : Phase → Turn
going phase.Over = turn.Done
going _ = turn.Going
