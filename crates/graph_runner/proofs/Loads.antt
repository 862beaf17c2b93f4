-- From a fault of the text to what the command comes to.
use Rattle.std.proofs.Common.{◌≡◌, ℕ, List, Err}
use Rattle.graph_reader.specs.Answers.{ReadsGraph}
use Rattle.graph_reader.specs.declared.fault.TextFault.{TextFault}
use Rattle.graph_reader.specs.declared.fault.TextFault.TheVariants as text
use Rattle.graph_runner.specs.Endings.{text_ending}
use Rattle.graph_runner.specs.Loading.{Input, Gave, IsNoFile, IsStopped, FailsToLoad}

-- behind the end of the source room was refused
pub stopped : (input : Input) (bytes : List ℕ) → Gave input bytes → IsStopped input
stopped input bytes gave = record { bytes = bytes; took = gave.took; few = gave.few }

no_file : (input : Input) (bytes : List ℕ) (fault : TextFault) → Gave input bytes → ReadsGraph bytes (Err fault) → (fault ≡ text.OutOfMemory → ⊥) → IsNoFile input fault
no_file input bytes fault gave fails memory = record { bytes = bytes; gave = gave; memory = memory; fails = fails }

pub failed_text : (input : Input) (bytes : List ℕ) (fault : TextFault) → Gave input bytes → ReadsGraph bytes (Err fault) → FailsToLoad input (text_ending fault)
failed_text input bytes text.OutOfMemory gave fails = stopped input bytes gave
failed_text input bytes text.NotJson gave fails = no_file input bytes text.NotJson gave fails (λ e. cc)
failed_text input bytes (text.Shape path) gave fails = no_file input bytes (text.Shape path) gave fails (λ e. cc)
failed_text input bytes (text.Range path) gave fails = no_file input bytes (text.Range path) gave fails (λ e. cc)
failed_text input bytes (text.Formula task fault) gave fails = no_file input bytes (text.Formula task fault) gave fails (λ e. cc)
failed_text input bytes text.TooManyTasks gave fails = no_file input bytes text.TooManyTasks gave fails (λ e. cc)
failed_text input bytes text.Version gave fails = no_file input bytes text.Version gave fails (λ e. cc)
