-- What the commands that run nothing make of what the source holds.
use Rattle.std.specs.Prelude.{◌≡◌, ℕ, List, [], ◌∷◌, ◌++◌, length, codes, Result, Ok, Err}
use Rattle.serde_json.specs.Written.{compact_text}
use Rattle.text_lines.specs.Fields.{field_text}
use Rattle.graph_model.specs.Graph.{Graph}
use Rattle.graph_model.specs.declared.plan.Strike.{Strike}
use Rattle.raw_graph.specs.Graph.{file_with}
use Rattle.raw_graph.specs.declared.raw.RawGraph.{RawGraph}
use Rattle.graph_reader.specs.Written.{file_data}
use Rattle.audit_checks.specs.Accepted.{IsAccepted}
use Rattle.acyclic_audit.specs.Meaning.{IsGraphOf}
use Rattle.acyclic_audit.specs.Reaching.{IsReachedCount}
use Rattle.graph_runner.specs.Loading.{Input, IsLoaded, FailsToLoad}
use Rattle.graph_runner.specs.Opening.{FailsToAccept}
use Rattle.graph_runner.specs.declared.ending.Ending.{Ending}

-- ---- check

-- words, a number, and a newline
abbrev pub line_of : List ℕ → ℕ → List ℕ
line_of words number = field_text words number ++ 10 ∷ []

-- how many tasks there are, how many of them the sink needs, how many blocks, and how many strikes
abbrev pub check_text : ℕ → ℕ → ℕ → ℕ → List ℕ
check_text tasks reachable blocks faults =
    line_of (codes "tasks ") tasks ++ line_of (codes "reachable ") reachable ++ line_of (codes "blocks ") blocks ++ line_of (codes "faults ") faults

pub record IsCheckText (raw : RawGraph) (plan : List Strike) (text : List ℕ) : Type 0 where
  pub graph : Graph
  pub is : IsGraphOf raw.tasks.items raw.sink.0 graph
  pub reachable : ℕ
  pub counted : IsReachedCount graph reachable
  pub says : text ≡ check_text (length raw.tasks.items) reachable graph.block_count (length plan)

-- the source holds an accepted graph, and the text is its four lines
pub record IsChecked (input : Input) (text : List ℕ) : Type 0 where
  pub raw : RawGraph
  pub plan : List Strike
  pub loaded : IsLoaded input raw plan
  pub accepted : IsAccepted raw.tasks.items raw.sink.0
  pub lines : IsCheckText raw plan text

abbrev pub Checks : Input → Result (List ℕ) Ending → Type 0
Checks input (Ok text) = IsChecked input text
Checks input (Err ending) = FailsToAccept input ending

-- ---- print

-- the source holds a graph and a plan, and the text is the canonical one with a newline
pub record IsPrinted (input : Input) (text : List ℕ) : Type 0 where
  pub raw : RawGraph
  pub plan : List Strike
  pub loaded : IsLoaded input raw plan
  pub says : text ≡ compact_text (file_data (file_with raw plan)) ++ 10 ∷ []

abbrev pub Prints : Input → Result (List ℕ) Ending → Type 0
Prints input (Ok text) = IsPrinted input text
Prints input (Err ending) = FailsToLoad input ending
