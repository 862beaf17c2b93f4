-- From the run of a matrix's graph to what it comes to.
use Rattle.std.proofs.Common.{◌≡◌, ◌∙◌, ℕ, ℤ, ◌*◌, List, length, Ok, Err, refl, ap}
use Rattle.graph_model.specs.Notes.{Note}
use Rattle.graph_model.specs.declared.record.Record.{Record}
use Rattle.graph_model.specs.declared.plan.Strike.{Strike}
use Rattle.path_tasks.specs.Paths.{tiles_of}
use Rattle.apsp_graph.specs.Blocked.{closure}
use Rattle.apsp_graph.specs.Kernels.{path_outcome, FitsPath}
use Rattle.apsp_graph.specs.Reading.{Fails as FailsReading, reading}
use Rattle.apsp_graph.specs.Views.{graph, matrix_of, sink_cells}
use Rattle.apsp_graph.specs.Writing.{text_of}
use Rattle.apsp_graph.specs.declared.fault.MatrixFault.{MatrixFault}
use Rattle.apsp_graph.specs.declared.fault.MatrixFault.TheVariants as matrix
use Rattle.apsp_graph.specs.declared.graph.PathGraph.{PathGraph}
use Rattle.apsp_graph.proofs.Runs.{answer_is, closure_size, inputs_fit, sink_value, value_cells}
use Rattle.walks.proofs.Least.{has_least}
use Rattle.worker_pool.specs.Calling.{CanRun}
use Rattle.worker_pool.specs.declared.end.Why.{Why}
use Rattle.graph_runner.specs.Endings.{matrix_ending, run_ending}
use Rattle.graph_runner.specs.Loading.{Input, Gave, FailsToTake}
use Rattle.graph_runner.specs.Running.{IsIdle, LacksRoom}
use Rattle.graph_runner.specs.Terms.{IsNeverOver}
use Rattle.graph_runner.specs.Solving.{FailsToRead, HoldsMatrix, HoldsText, IsRead, IsSolved, IsUnreadable, Solves}
use Rattle.graph_runner.specs.Workers.{IsDue, RunComes}
use Rattle.graph_runner.specs.declared.ending.Ending.{Ending}
use Rattle.graph_runner.specs.declared.ending.Ending.TheVariants.{Done, Usage, ReadFault, WriteFault, Text, Audit, Matrix, LivesSpent, ScheduleShort, OutOfMemory, TooLong}
use Rattle.graph_runner.proofs.Loads.{stopped}
use Rattle.graph_runner.proofs.Outcomes.{IsRefusal, refused, run_to, short, untold}

-- the serial inputs of each task fit the kernel, and its value has as many cells as its block
pub can_solve : (g : PathGraph) → CanRun (graph g) (path_outcome g) (FitsPath g)
can_solve g = record { inputs = inputs_fit g; cells = value_cells g }

-- ---- reading

-- where there are no bytes, there is no matrix
pub untaken : (input : Input) (e : Ending) → FailsToTake input e → FailsToRead input e
untaken input ReadFault fails = fails
untaken input TooLong fails = fails
untaken input OutOfMemory fails = fails
untaken input Done fails = absurd fails
untaken input Usage fails = absurd fails
untaken input WriteFault fails = absurd fails
untaken input (Text fault) fails = absurd fails
untaken input (Audit fault) fails = absurd fails
untaken input (Matrix fault) fails = absurd fails
untaken input (LivesSpent k l c) fails = absurd fails
untaken input (ScheduleShort pending) fails = absurd fails

unreadable : (input : Input) (bytes : List ℕ) (fault : MatrixFault) → Gave input bytes → reading bytes ≡ Err fault → (fault ≡ matrix.OutOfMemory → ⊥) → IsUnreadable input fault
unreadable input bytes fault gave first memory = record { bytes = bytes; gave = gave; memory = memory; first = first }

pub failed_matrix : (input : Input) (bytes : List ℕ) (fault : MatrixFault) → Gave input bytes → FailsReading fault (reading bytes) → FailsToRead input (matrix_ending fault)
failed_matrix input bytes matrix.OutOfMemory gave fails = stopped input bytes gave
failed_matrix input bytes matrix.Head gave fails = unreadable input bytes matrix.Head gave fails (λ e. cc)
failed_matrix input bytes matrix.Size gave fails = unreadable input bytes matrix.Size gave fails (λ e. cc)
failed_matrix input bytes (matrix.Line line) gave fails = unreadable input bytes (matrix.Line line) gave fails (λ e. cc)
failed_matrix input bytes (matrix.Weight line) gave fails = unreadable input bytes (matrix.Weight line) gave fails (λ e. cc)
failed_matrix input bytes (matrix.Fault line) gave fails = unreadable input bytes (matrix.Fault line) gave fails (λ e. cc)

-- ---- running
holds_matrix : (input : Input) (g : PathGraph) (plan : List Strike) → IsRead input (matrix_of g plan) → HoldsMatrix input (matrix_of g plan) plan (graph g) (path_outcome g)
holds_matrix input g plan read = record { read = read; strikes = refl; is = refl; makes = refl }

holds_text : (input : Input) (g : PathGraph) (plan : List Strike) → IsRead input (matrix_of g plan) → HoldsText input plan (graph g) (path_outcome g)
holds_text input g plan read = record { matrix = matrix_of g plan; holds = holds_matrix input g plan read }

-- the value is the tiles after all rounds, and has a cell for each of the sink's block
value_is : (g : PathGraph) (plan : List Strike) (lives : ℕ) (value : List ℤ) (records : List Record) (news : List (List Note))
    → RunComes (graph g) (path_outcome g) plan lives (Ok value) records news → value ≡ closure g.n g.side g.weights.items
value_is g plan lives value records news comes = comes.tells.value_is ∙ sink_value g

pub all_cells : (g : PathGraph) (plan : List Strike) (lives : ℕ) (value : List ℤ) (records : List Record) (news : List (List Note))
    → RunComes (graph g) (path_outcome g) plan lives (Ok value) records news → length value ≡ sink_cells g
all_cells g plan lives value records news comes = ap length (value_is g plan lives value records news comes) ∙ closure_size g

-- a run to the value, with its text
pub solved : (input : Input) (g : PathGraph) (plan : List Strike) (lives : ℕ) (value : List ℤ) (records : List Record) (news : List (List Note)) (text : List ℕ) → IsRead input (matrix_of g plan)
    → RunComes (graph g) (path_outcome g) plan lives (Ok value) records news → text ≡ text_of (tiles_of g.n g.side * g.side) g.n value → IsSolved input records news text
solved input g plan lives value records news text read comes says = record {
  matrix = matrix_of g plan;
  ran = run_to (HoldsMatrix input (matrix_of g plan)) (graph g) (path_outcome g) plan lives value (closure g.n g.side g.weights.items) records news (holds_matrix input g plan read) comes
      (value_is g plan lives value records news comes);
  least = has_least read.bytes (matrix_of g plan) read.stands;
  says = answer_is g plan value text comes.tells.value_is says;
}

-- a run to the value, for whose text room was refused
pub unsolved : (input : Input) (g : PathGraph) (plan : List Strike) (lives : ℕ) (value : List ℤ) (records : List Record) (news : List (List Note))
    → IsRead input (matrix_of g plan) → RunComes (graph g) (path_outcome g) plan lives (Ok value) records news → LacksRoom (HoldsText input) (FailsToRead input) records news
unsolved input g plan lives value records news read comes =
    untold (HoldsText input) (FailsToRead input) (graph g) (path_outcome g) plan lives value records news (holds_text input g plan read) comes

-- a run that ended without the value
pub solve_short : (input : Input) (g : PathGraph) (plan : List Strike) (lives : ℕ) (reason : Why) (records : List Record) (news : List (List Note)) → IsRead input (matrix_of g plan)
    → RunComes (graph g) (path_outcome g) plan lives (Err reason) records news → IsDue IsNeverOver (graph g) plan records reason → Solves input lives records news (Err (run_ending reason))
solve_short input g plan lives reason records news read comes due =
    short (HoldsText input) (FailsToRead input) IsNeverOver (graph g) (path_outcome g) plan lives reason records news (holds_text input g plan read) comes due

refuses : (input : Input) → IsRefusal (FailsToRead input)
refuses input = record { no_done = λ f. f; no_usage = λ f. f; no_write = λ f. f; no_spent = λ k l c f. f; no_short = λ pending f. f }

-- no matrix was read
pub solve_fails : (input : Input) (lives : ℕ) (records : List Record) (news : List (List Note)) (e : Ending) → FailsToRead input e → IsIdle records news → Solves input lives records news (Err e)
solve_fails input lives records news e fails idle = refused (HoldsText input) (FailsToRead input) IsNeverOver lives records news e (refuses input) fails idle
