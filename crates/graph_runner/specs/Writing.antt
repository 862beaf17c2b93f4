-- From a text, or the reason why there is none, to the sink.
use Rattle.std.specs.Prelude.{◌≡◌, ◌⊎◌, ℕ, ◌<◌, List, length, take, Option, Result, Ok, Err}
use Rattle.io_edge.specs.Bytes.{Added}
use Rattle.io_edge.specs.Causes.{Rose}
use Rattle.graph_runner.specs.Endings.{status_of, message_of}
use Rattle.graph_runner.specs.declared.ending.Ending.{Ending}
use Rattle.graph_runner.specs.declared.ending.Ending.TheVariants.{Done, Usage, ReadFault, WriteFault, Text, Audit, Matrix, LivesSpent, ScheduleShort, OutOfMemory, TooLong}

-- the sink before and after a call
pub record Output : Type 0 where
  pub written : Option (List ℕ)
  pub written_after : Option (List ℕ)
  pub faults : ℕ
  pub faults_after : ℕ

-- nothing was written
abbrev pub IsUnwritten : Output → Type 0
IsUnwritten output = output.written_after ≡ output.written

-- a write failed behind a front of the text
pub record IsBroken (output : Output) (text : List ℕ) : Type 0 where
  pub rose : Rose output.faults output.faults_after
  pub count : ℕ
  pub front : count < length text
  pub added : Added output.written output.written_after (take count text)

-- what the writing of a text comes to
abbrev pub Delivers : Output → List ℕ → Ending → Type 0
Delivers output text Done = Added output.written output.written_after text
Delivers output text WriteFault = IsBroken output text
Delivers output text OutOfMemory = IsUnwritten output
Delivers output text Usage = ⊥
Delivers output text ReadFault = ⊥
Delivers output text (Text fault) = ⊥
Delivers output text (Audit fault) = ⊥
Delivers output text (Matrix fault) = ⊥
Delivers output text (LivesSpent k l c) = ⊥
Delivers output text (ScheduleShort pending) = ⊥
Delivers output text TooLong = ⊥

-- what a command comes to that has made a text to be written, or that ends without one
abbrev pub Finishes : Output → Result (List ℕ) Ending → Ending → Type 0
Finishes output (Ok text) ending = Delivers output text ending
Finishes output (Err made) ending = ((ending ≡ made) ⊎ (ending ≡ OutOfMemory)) × IsUnwritten output

-- the status and the message tell the ending
pub record Tells (status : ℕ) (message : List ℕ) (ending : Ending) : Type 0 where
  pub status_is : status ≡ status_of ending
  pub message_is : message ≡ message_of ending
