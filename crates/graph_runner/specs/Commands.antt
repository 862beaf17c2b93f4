-- What the words of a command come to.
use Rattle.std.specs.Prelude.{◌≡◌, ℕ, List, Result, Err}
use Rattle.graph_model.specs.Notes.{Note}
use Rattle.graph_model.specs.declared.record.Record.{Record}
use Rattle.command_words.specs.Meaning.{Asked, run, replay, paths, drill, check, print, StandsFor, StandsForNone}
use Rattle.graph_runner.specs.Loading.{Input}
use Rattle.graph_runner.specs.Drilling.{Drills}
use Rattle.graph_runner.specs.Files.{Runs}
use Rattle.graph_runner.specs.Running.{IsIdle}
use Rattle.graph_runner.specs.Serving.{Checks, Prints}
use Rattle.graph_runner.specs.Solving.{Solves}
use Rattle.graph_runner.specs.Terms.{IsNeverOver, MayBeOver}
use Rattle.graph_runner.specs.Writing.{Output, Finishes}
use Rattle.graph_runner.specs.declared.ending.Ending.{Ending}
use Rattle.graph_runner.specs.declared.ending.Ending.TheVariants as ending

-- nothing was read
pub record IsUnread (input : Input) : Type 0 where
  pub left : input.left_after ≡ input.left
  pub faults : input.faults_after ≡ input.faults

-- a wrong use, of which nothing was read
pub record IsMisuse (input : Input) (made : Result (List ℕ) Ending) : Type 0 where
  pub unread : IsUnread input
  pub usage : made ≡ Err ending.Usage

-- what a command makes that runs nothing; all but `check` and `print` are a wrong use there
abbrev pub Shows : Asked → Input → Result (List ℕ) Ending → Type 0
Shows check input made = Checks input made
Shows print input made = Prints input made
Shows (run workers lives detail) input made = IsMisuse input made
Shows (replay workers lives detail schedule turns) input made = IsMisuse input made
Shows (paths workers lives) input made = IsMisuse input made
Shows (drill number workers) input made = IsMisuse input made

-- What a command makes of its words and the source. `run` and `paths` have a thread for each worker, and so has `drill`, which reads nothing; `replay` has turns, which may be over, but only where
-- they are scant.
abbrev pub Makes : Asked → Input → List Record → List (List Note) → Result (List ℕ) Ending → Type 0
Makes (run workers lives detail) input records news made = Runs input IsNeverOver lives detail records news made
Makes (replay workers lives detail schedule turns) input records news made = Runs input (MayBeOver workers schedule turns) lives detail records news made
Makes (paths workers lives) input records news made = Solves input lives records news made
Makes (drill number workers) input records news made = IsUnread input × Drills number records news made
Makes check input records news made = Checks input made × IsIdle records news
Makes print input records news made = Prints input made × IsIdle records news

-- What words make that are shown a command: those that stand for none are a wrong use, and room for reading them may be refused.
pub data WordsShow (words : List (List ℕ)) (input : Input) (made : Result (List ℕ) Ending) : Type 0 where
  refused : IsUnread input → made ≡ Err ending.OutOfMemory → WordsShow words input made
  misused : StandsForNone words → IsMisuse input made → WordsShow words input made
  shown : (command : Asked) → StandsFor words command → Shows command input made → WordsShow words input made

-- the same of all commands
pub data WordsMake (words : List (List ℕ)) (input : Input) (records : List Record) (news : List (List Note)) (made : Result (List ℕ) Ending) : Type 0 where
  refused : IsUnread input → IsIdle records news → made ≡ Err ending.OutOfMemory → WordsMake words input records news made
  misused : StandsForNone words → IsIdle records news → IsMisuse input made → WordsMake words input records news made
  served : (command : Asked) → StandsFor words command → Makes command input records news made → WordsMake words input records news made

-- what the words come to of the call that checks and prints
pub record ChecksCome (words : List (List ℕ)) (input : Input) (output : Output) (end : Ending) : Type 0 where
  pub made : Result (List ℕ) Ending
  pub shows : WordsShow words input made
  pub finishes : Finishes output made end

-- what they come to of the call that serves all commands
pub record Comes (words : List (List ℕ)) (input : Input) (output : Output) (records : List Record) (news : List (List Note)) (end : Ending) : Type 0 where
  pub made : Result (List ℕ) Ending
  pub makes : WordsMake words input records news made
  pub finishes : Finishes output made end
