-- What bytes are read as.
use Rattle.std.specs.Prelude.{◌≡◌, ◌⊎◌, ℕ, List, IsUtf8, None, Some, Result, Ok, Err, MatchResult}
use Rattle.serde_json.specs.Data.{Data}
use Rattle.serde_json.specs.Read.{read}
use Rattle.graph_model.specs.declared.plan.Strike.{Strike}
use Rattle.graph_reader.specs.Content.{file_in}
use Rattle.graph_reader.specs.Format.{file_check}
use Rattle.raw_graph.specs.Graph.{File, file_with}
use Rattle.raw_graph.specs.declared.raw.RawGraph.{RawGraph}
use Rattle.graph_reader.specs.declared.fault.TextFault.{TextFault}
use Rattle.graph_reader.specs.declared.fault.TextFault.TheVariants.{NotJson, OutOfMemory}

-- the bytes are JSON with this value
pub record IsJson (bytes : List ℕ) (d : Data) : Type 0 where
  pub text : IsUtf8 bytes
  pub value : read bytes ≡ Some d

-- the bytes stand for what this file holds
pub record StandsFor (bytes : List ℕ) (file : File) : Type 0 where
  pub value : Data
  pub json : IsJson bytes value
  pub passes : file_check value ≡ None
  pub holds : file_in value ≡ file

-- they are JSON, and that is the first check that fails
pub record Fails (bytes : List ℕ) (fault : TextFault) : Type 0 where
  pub value : Data
  pub json : IsJson bytes value
  pub fails : file_check value ≡ Some fault

-- What is read is what the bytes stand for. What is refused is no JSON, or JSON that fails a check, unless memory ran out.
abbrev pub ReadsGraph : List ℕ → Result (RawGraph × List Strike) TextFault → Type 0
ReadsGraph bytes (Ok r) = StandsFor bytes (file_with r.0 r.1)
ReadsGraph bytes (Err e) = (e ≡ OutOfMemory) ⊎ (((e ≡ NotJson) × ((d : Data) → IsJson bytes d → ⊥)) ⊎ Fails bytes e)

-- whoever reads the bytes gets this file, unless memory runs out
abbrev pub IsReadAs : List ℕ → File → Type 0
IsReadAs bytes file = (answer : Result (RawGraph × List Strike) TextFault) → ReadsGraph bytes answer → MatchResult answer (λ r. file_with r.0 r.1 ≡ file) (λ e. e ≡ OutOfMemory)
