-- A command made of what is given.
use Rattle.std.specs.Prelude.{◌≡◌, ℕ, Option, MatchOption}
use Rattle.command_words.specs.Given.{Given}
use Rattle.command_words.specs.Meaning.{Asked, asked, kind_of, HasValues, HasTurns}
use Rattle.command_words.specs.declared.options.Kind.{Kind}
use Rattle.command_words.specs.declared.command.Command.{Command}

-- a command of this kind with the values that are given, and none where they are the values of no such command
abbrev pub Builds : Kind → Given → Option Command → Type 0
Builds kind given made = MatchOption made
    ((command : Asked) → kind_of command ≡ kind → ¬ HasValues given command)
    (λ command. (kind_of (asked command) ≡ kind) × HasValues given (asked command))

-- the turns that are given, and none where what is given stands for no number of turns
abbrev pub HasTurnsIn : Given → Option (Option ℕ) → Type 0
HasTurnsIn given found = MatchOption found ((turns : Option ℕ) → ¬ HasTurns given turns) (λ turns. HasTurns given turns)
