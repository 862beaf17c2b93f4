-- What a command comes to whose input is in order: the value, or one of few reasons why there is none.
use Rattle.std.specs.Prelude.{◌≡◌, ◌≤◌, ℕ, false, List, [], ◌∷◌, length, Some, Contains}
use Rattle.io_edge.specs.Causes.{Rose}
use Rattle.graph_model.specs.declared.plan.Strike.{Strike}
use Rattle.raw_graph.specs.Graph.{File, file_with}
use Rattle.raw_graph.specs.declared.raw.RawGraph.{RawGraph}
use Rattle.graph_reader.specs.Answers.{StandsFor as StandsForFile}
use Rattle.audit_checks.specs.Accepted.{IsAccepted}
use Rattle.apsp_graph.specs.Matrices.{Matrix, IsMatrix}
use Rattle.command_words.specs.Meaning.{Asked, run, replay, paths, drill, check, print, StandsFor}
use Rattle.graph_runner.specs.Loading.{Input, input_limit}
use Rattle.graph_runner.specs.Terms.{by_workers}
use Rattle.graph_runner.specs.Writing.{Output}

-- no count of faults rose
pub record IsUndisturbed (input : Input) (output : Output) : Type 0 where
  pub source : ¬ Rose input.faults input.faults_after
  pub sink : ¬ Rose output.faults output.faults_after

-- the source has these bytes, which are not too many
pub record Offers (input : Input) (bytes : List ℕ) : Type 0 where
  pub left : input.left ≡ Some bytes
  pub few : length bytes ≤ input_limit

-- they stand for a file
pub record OffersFile (input : Input) : Type 0 where
  pub bytes : List ℕ
  pub offers : Offers input bytes
  pub file : File
  pub stands : StandsForFile bytes file

-- they stand for an accepted graph, with a plan
pub record OffersGraph (input : Input) : Type 0 where
  pub bytes : List ℕ
  pub offers : Offers input bytes
  pub raw : RawGraph
  pub plan : List Strike
  pub stands : StandsForFile bytes (file_with raw plan)
  pub accepted : IsAccepted raw.tasks.items raw.sink.0

-- they stand for a matrix
pub record OffersMatrix (input : Input) : Type 0 where
  pub bytes : List ℕ
  pub offers : Offers input bytes
  pub matrix : Matrix
  pub stands : IsMatrix bytes matrix

-- the source has what the command is for
abbrev pub Suits : Asked → Input → Type 0
Suits (run workers lives detail) input = OffersGraph input
Suits (replay workers lives detail schedule turns) input = OffersGraph input
Suits (paths workers lives) input = OffersMatrix input
Suits (drill number workers) input = Unit {0}
Suits check input = OffersGraph input
Suits print input = OffersFile input

-- the statuses that may come then
abbrev pub statuses_of : Asked → List ℕ
statuses_of (run workers lives detail) = 0 ∷ 7 ∷ 8 ∷ []
statuses_of (replay workers lives detail schedule turns) = 0 ∷ 7 ∷ 8 ∷ 10 ∷ []
statuses_of (paths workers lives) = 0 ∷ 7 ∷ 8 ∷ []
statuses_of (drill number workers) = 0 ∷ 7 ∷ 8 ∷ []
statuses_of check = 0 ∷ 8 ∷ []
statuses_of print = 0 ∷ 8 ∷ []

-- where the words stand for a command, the source has what it is for, and no count of faults rose, one of these statuses comes
abbrev pub Completes : List (List ℕ) → Input → Output → ℕ → Type 0
Completes words input output status = (command : Asked) → StandsFor words command → Suits command input → IsUndisturbed input output → Contains (statuses_of command) status

-- the same of the call that checks and prints
abbrev pub ChecksComplete : List (List ℕ) → Input → Output → ℕ → Type 0
ChecksComplete words input output status =
    (command : Asked) → by_workers command ≡ false → StandsFor words command → Suits command input → IsUndisturbed input output → Contains (statuses_of command) status
