-- A graph of a file that is run by workers.
use Rattle.std.specs.Prelude.{◌≡◌, ℕ, ℤ, Bool, List, [], ◌∷◌, map, All, Result, Ok, Err}
use Rattle.formula_text.specs.Formulas.{tree}
use Rattle.formula_text.specs.Trees.{value_of}
use Rattle.graph_model.specs.Graph.{Graph}
use Rattle.graph_model.specs.Notes.{Note}
use Rattle.graph_model.specs.Serial.{Outcome}
use Rattle.graph_model.specs.declared.record.Record.{Record}
use Rattle.graph_model.specs.declared.plan.Strike.{Strike}
use Rattle.raw_graph.specs.declared.raw.RawGraph.{RawGraph}
use Rattle.raw_graph.specs.declared.raw.RawTask.{RawTask}
use Rattle.audit_checks.specs.Tasks.{key_of}
use Rattle.audit_checks.specs.Accepted.{IsAccepted}
use Rattle.acyclic_audit.specs.Meaning.{IsGraphOf}
use Rattle.run_records.specs.Text.{IsReport}
use Rattle.graph_runner.specs.Formulas.{cells_of}
use Rattle.graph_runner.specs.Loading.{Input, IsLoaded}
use Rattle.graph_runner.specs.Opening.{FailsToAccept}
use Rattle.graph_runner.specs.Running.{Fails, IsRun}
use Rattle.graph_runner.specs.declared.ending.Ending.{Ending}

-- each task has the value of its formula at the values of its inputs
abbrev pub IsValuation : List RawTask → (ℕ → ℤ) → Type 0
IsValuation ts value = All (λ t. value (key_of t) ≡ value_of (tree t.formula) (map value t.inputs)) ts

-- what a kernel makes of each task is the one cell of its formula's value at the cells of the inputs
abbrev pub IsOutcomeOf : List RawTask → Outcome → Type 0
IsOutcomeOf ts outcome = All (λ t. (lists : List (List ℤ)) → outcome (key_of t) lists ≡ value_of (tree t.formula) (cells_of lists) ∷ []) ts

-- the source holds this graph and plan, and the graph is accepted; as a graph of tasks, and as what a kernel makes of each, it is this
pub record HoldsGraph (input : Input) (raw : RawGraph) (plan : List Strike) (g : Graph) (outcome : Outcome) : Type 0 where
  pub loaded : IsLoaded input raw plan
  pub accepted : IsAccepted raw.tasks.items raw.sink.0
  pub is : IsGraphOf raw.tasks.items raw.sink.0 g
  pub makes : IsOutcomeOf raw.tasks.items outcome

-- the same of some graph
pub record HoldsFile (input : Input) (plan : List Strike) (g : Graph) (outcome : Outcome) : Type 0 where
  pub raw : RawGraph
  pub holds : HoldsGraph input raw plan g outcome

-- the source's graph was run to the sink's serial value, and the text is the report of the value and, where that is asked for, of the records
pub record IsReported (input : Input) (detail : Bool) (records : List Record) (news : List (List Note)) (text : List ℕ) : Type 0 where
  pub raw : RawGraph
  pub value : ℕ → ℤ
  pub serial : IsValuation raw.tasks.items value
  pub ran : IsRun (HoldsGraph input raw) (value raw.sink.0 ∷ []) records news
  pub says : IsReport (value raw.sink.0 ∷ []) records detail text

-- what workers make of the source, where their turns may be over as told, and where no life above this one is allowed
abbrev pub Runs : Input → (Graph → List Strike → List Record → Type 0) → ℕ → Bool → List Record → List (List Note) → Result (List ℕ) Ending → Type 0
Runs input Over lives detail records news (Ok text) = IsReported input detail records news text
Runs input Over lives detail records news (Err ending) = Fails (HoldsFile input) (FailsToAccept input) Over lives records news ending
