-- Which lists of words stand for which command.
use Rattle.std.specs.Prelude.{◌≡◌, ◌∷◌, ℕ, Bool, List, All, Option, Some, None, MatchOption, is_some}
use Rattle.command_words.specs.Options.{Text, name_of}
use Rattle.command_words.specs.Given.{Given, nothing}
use Rattle.command_words.specs.Spelling.{Spells, IsReserved}
use Rattle.command_words.specs.Numbers.{IsNumber, HasValue, HasSchedule}
use Rattle.command_words.specs.declared.options.Kind.{Kind}
use Rattle.command_words.specs.declared.options.Kind.TheVariants as kind
use Rattle.command_words.specs.declared.command.Command.{Command}
use Rattle.command_words.specs.declared.command.Command.TheVariants.{Run, Replay, Paths, Drill, Check, Print}

-- a command with what its options say
pub data Asked : Type 0 where
  run : (workers lives : ℕ) (records : Bool) → Asked
  replay : (workers lives : ℕ) (records : Bool) (schedule : List ℕ) (turns : Option ℕ) → Asked
  paths : (workers lives : ℕ) → Asked
  drill : (number workers : ℕ) → Asked
  check : Asked
  print : Asked

-- what a command of the code asks for
abbrev pub asked : Command → Asked
asked (Run workers lives records) = run workers lives records
asked (Replay workers lives records schedule turns) = replay workers lives records schedule.items turns
asked (Paths workers lives) = paths workers lives
asked (Drill number workers) = drill number workers
asked Check = check
asked Print = print

-- which of the commands it is
abbrev pub kind_of : Asked → Kind
kind_of (run workers lives records) = kind.Run
kind_of (replay workers lives records schedule turns) = kind.Replay
kind_of (paths workers lives) = kind.Paths
kind_of (drill number workers) = kind.Drill
kind_of check = kind.Check
kind_of print = kind.Print

-- 1 to 64 workers
abbrev pub HasWorkers : ℕ → Given → ℕ → Type 0
HasWorkers default given workers = HasValue 1 64 default given.workers workers

-- a greatest life of 1 to 65,535, which is the default
abbrev pub HasLives : Given → ℕ → Type 0
HasLives given lives = HasValue 1 65535 65535 given.lives lives

-- 0 to 100,000,000 turns, or as many as the graph decides
abbrev pub HasTurns : Given → Option ℕ → Type 0
HasTurns given (Some turns) = MatchOption given.turns ⊥ (λ text. IsNumber 0 100000000 text turns)
HasTurns given None = given.turns ≡ None

-- a number of 0 to 4,294,967,295, which has no default
abbrev pub HasNumber : Given → ℕ → Type 0
HasNumber given number = MatchOption given.number ⊥ (λ text. IsNumber 0 4294967295 text number)

-- what is given has these values, and the defaults where nothing is given
abbrev pub HasValues : Given → Asked → Type 0
HasValues given (run workers lives records) = HasWorkers 4 given workers × HasLives given lives × (records ≡ is_some given.records)
HasValues given (replay workers lives records schedule turns) =
    HasWorkers 1 given workers × HasLives given lives × (records ≡ is_some given.records) × HasSchedule workers given.schedule schedule × HasTurns given turns
HasValues given (paths workers lives) = HasWorkers 4 given workers × HasLives given lives
HasValues given (drill number workers) = HasNumber given number × HasWorkers 4 given workers
HasValues given check = Unit {0}
HasValues given print = Unit {0}

-- the words stand for the command: none of them is refused everywhere, the first one is the command's name, and those behind it give the values
pub record StandsFor (words : List Text) (command : Asked) : Type 0 where
  pub rest : List Text
  pub given : Given
  pub free : All (λ word. ¬ IsReserved word) words
  pub first : words ≡ name_of (kind_of command) ∷ rest
  pub spelled : Spells (kind_of command) nothing rest given
  pub values : HasValues given command

-- they stand for no command
abbrev pub StandsForNone : List Text → Type 0
StandsForNone words = (command : Asked) → ¬ StandsFor words command
