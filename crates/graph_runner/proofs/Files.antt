-- From the run of an accepted graph to what it comes to.
use Rattle.std.proofs.Common.{◌≡◌, ◌∙◌, ℕ, ℤ, Bool, List, [], ◌∷◌, length, Ok, Err, subst, ap}
use Rattle.formula_text.specs.Trees.{Tree, value_of}
use Rattle.graph_model.specs.Graph.{Graph}
use Rattle.graph_model.specs.Notes.{Note}
use Rattle.graph_model.specs.declared.record.Record.{Record}
use Rattle.graph_model.specs.declared.plan.Strike.{Strike}
use Rattle.acyclic_audit.specs.Views.{graph}
use Rattle.acyclic_audit.specs.declared.graph.FileGraph.{FileGraph}
use Rattle.run_records.specs.Text.{IsReport}
use Rattle.worker_pool.specs.declared.end.Why.{Why}
use Rattle.graph_runner.specs.Endings.{run_ending}
use Rattle.graph_runner.specs.Files.{HoldsFile, HoldsGraph, IsReported, Runs}
use Rattle.graph_runner.specs.Formulas.{cells_of, formula_outcome}
use Rattle.graph_runner.specs.Loading.{Input}
use Rattle.graph_runner.specs.Opening.{FailsToAccept, IsOpened}
use Rattle.graph_runner.specs.Running.{IsIdle, LacksRoom}
use Rattle.graph_runner.specs.Workers.{IsDue, RunComes}
use Rattle.graph_runner.specs.declared.ending.Ending.{Ending}
use Rattle.graph_runner.proofs.Outcomes.{IsRefusal, refused, run_to, short, untold}
use Rattle.graph_runner.proofs.Valuing.{sink_value, valuation, value_at}

holds_graph : (input : Input) (g : FileGraph) (plan : List Strike) (o : IsOpened input g plan) → HoldsGraph input o.raw plan (graph g) (formula_outcome g)
holds_graph input g plan o = record {
  loaded = o.loaded;
  accepted = o.told.accepted;
  is = o.told.is;
  makes = λ i d inside lists. ap (λ (f : Tree). value_of f (cells_of lists) ∷ []) (o.told.trees i d inside);
}

holds_file : (input : Input) (g : FileGraph) (plan : List Strike) → IsOpened input g plan → HoldsFile input plan (graph g) (formula_outcome g)
holds_file input g plan o = record { raw = o.raw; holds = holds_graph input g plan o }

-- a run to the value, with its report
pub whole : (input : Input) (g : FileGraph) (plan : List Strike) (lives : ℕ) (value : List ℤ) (detail : Bool) (records : List Record) (news : List (List Note)) (text : List ℕ)
    → IsOpened input g plan → RunComes (graph g) (formula_outcome g) plan lives (Ok value) records news → IsReport value records detail text → IsReported input detail records news text
whole input g plan lives value detail records news text o comes says =
    let is : value ≡ value_at g o.raw.sink.0 ∷ [] = comes.tells.value_is ∙ sink_value o.raw g o.told in
    record {
      raw = o.raw;
      value = value_at g;
      serial = valuation o.raw g o.told;
      ran = run_to (HoldsGraph input o.raw) (graph g) (formula_outcome g) plan lives value (value_at g o.raw.sink.0 ∷ []) records news (holds_graph input g plan o) comes is;
      says = subst (λ (v : List ℤ). IsReport v records detail text) is says;
    }

-- a run to the value, for whose report room was refused
pub unreported : (input : Input) (g : FileGraph) (plan : List Strike) (lives : ℕ) (value : List ℤ) (records : List Record) (news : List (List Note))
    → IsOpened input g plan → RunComes (graph g) (formula_outcome g) plan lives (Ok value) records news → LacksRoom (HoldsFile input) (FailsToAccept input) records news
unreported input g plan lives value records news o comes =
    untold (HoldsFile input) (FailsToAccept input) (graph g) (formula_outcome g) plan lives value records news (holds_file input g plan o) comes

-- a run that ended without the value
pub file_short : (input : Input) (g : FileGraph) (plan : List Strike) (Over : Graph → List Strike → List Record → Type 0) (lives : ℕ) (detail : Bool) (reason : Why) (records : List Record) (news : List (List Note))
    → IsOpened input g plan → RunComes (graph g) (formula_outcome g) plan lives (Err reason) records news → IsDue Over (graph g) plan records reason → Runs input Over lives detail records news (Err (run_ending reason))
file_short input g plan Over lives detail reason records news o comes due =
    short (HoldsFile input) (FailsToAccept input) Over (graph g) (formula_outcome g) plan lives reason records news (holds_file input g plan o) comes due

refuses : (input : Input) → IsRefusal (FailsToAccept input)
refuses input = record { no_done = λ f. f; no_usage = λ f. f; no_write = λ f. f; no_spent = λ k l c f. f; no_short = λ pending f. f }

-- no graph was accepted
pub file_fails : (input : Input) (Over : Graph → List Strike → List Record → Type 0) (lives : ℕ) (detail : Bool) (records : List Record) (news : List (List Note)) (e : Ending) → FailsToAccept input e → IsIdle records news
    → Runs input Over lives detail records news (Err e)
file_fails input Over lives detail records news e fails idle = refused (HoldsFile input) (FailsToAccept input) Over lives records news e (refuses input) fails idle

-- a value has one cell
pub one_cell : (g : FileGraph) (plan : List Strike) (lives : ℕ) (value : List ℤ) (records : List Record) (news : List (List Note))
    → RunComes (graph g) (formula_outcome g) plan lives (Ok value) records news → length value ≡ 1
one_cell g plan lives value records news comes = ap length comes.tells.value_is
