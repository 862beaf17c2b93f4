-- The graph of a number that is run by workers.
use Rattle.std.specs.Prelude.{◌≡◌, ℕ, ℤ, ◌+◌, pos, false, List, [], ◌∷◌, ◌++◌, codes, Result, Ok, Err}
use Rattle.graph_model.specs.Graph.{Graph}
use Rattle.graph_model.specs.Notes.{Note}
use Rattle.graph_model.specs.Serial.{Outcome}
use Rattle.graph_model.specs.declared.record.Record.{Record}
use Rattle.graph_model.specs.declared.plan.Strike.{Strike}
use Rattle.run_records.specs.Text.{IsReport}
use Rattle.drill_input.specs.Drill.{drill_strikes}
use Rattle.drill_input.specs.Values.{IsDrill}
use Rattle.graph_runner.specs.Running.{Fails, IsRun}
use Rattle.graph_runner.specs.Serving.{line_of}
use Rattle.graph_runner.specs.Terms.{IsNeverOver}
use Rattle.graph_runner.specs.declared.ending.Ending.{Ending}
use Rattle.graph_runner.specs.declared.ending.Ending.TheVariants as ending

-- the graph of tasks that the number stands for, and what a kernel makes of each, with its strikes
pub record HoldsDrill (number : ℕ) (plan : List Strike) (g : Graph) (outcome : Outcome) : Type 0 where
  pub is : IsDrill number g outcome
  pub strikes : plan ≡ drill_strikes number

-- the line of a value, and one that tells how many tasks there are
pub record IsDrillText (value : List ℤ) (tasks : ℕ) (text : List ℕ) : Type 0 where
  pub value_text : List ℕ
  pub says_value : IsReport value [] false value_text
  pub says : text ≡ value_text ++ line_of (codes "tasks ") tasks

-- the graph of the number was run to the sink's serial value, which is the number and 8,256; the text tells it, and how many tasks the sink needs, which are all
pub record IsDrilled (number : ℕ) (records : List Record) (news : List (List Note)) (text : List ℕ) : Type 0 where
  pub ran : IsRun (HoldsDrill number) (pos (number + 8256) ∷ []) records news
  pub says : IsDrillText (pos (number + 8256) ∷ []) 8257 text

-- what workers make of a number, whose graph is refused for want of memory alone
abbrev pub Drills : ℕ → List Record → List (List Note) → Result (List ℕ) Ending → Type 0
Drills number records news (Ok text) = IsDrilled number records news text
Drills number records news (Err reason) = Fails (HoldsDrill number) (λ e. e ≡ ending.OutOfMemory) IsNeverOver 65535 records news reason
