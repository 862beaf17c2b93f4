-- The table of the commands: their first words, their options, and which command takes which option.
use Rattle.std.specs.Prelude.{◌≢◌, ℕ, Bool, true, false, List, [], codes}
use Rattle.command_words.specs.declared.options.Kind.{Kind}
use Rattle.command_words.specs.declared.options.Kind.TheVariants.{Run, Replay, Paths, Drill, Check, Print}
use Rattle.command_words.specs.declared.options.Name.{Name}
use Rattle.command_words.specs.declared.options.Name.TheVariants.{Workers, Lives, Records, Schedule, Turns, Number}

-- the bytes of a word
abbrev pub Text : Type 0
Text = List ℕ

-- the first word of a command
abbrev pub name_of : Kind → Text
name_of Run = codes "run"
name_of Replay = codes "replay"
name_of Paths = codes "paths"
name_of Drill = codes "drill"
name_of Check = codes "check"
name_of Print = codes "print"

-- the word is the first one of no command
abbrev pub IsNoCommand : Text → Type 0
IsNoCommand word = (kind : Kind) → word ≢ name_of kind

-- how an option is written; the number has no name
abbrev pub dashed : Name → Text
dashed Workers = codes "--workers"
dashed Lives = codes "--lives"
dashed Records = codes "--records"
dashed Schedule = codes "--schedule"
dashed Turns = codes "--turns"
dashed Number = []

-- the options that are followed by a value
abbrev pub takes_value : Name → Bool
takes_value Workers = true
takes_value Lives = true
takes_value Records = false
takes_value Schedule = true
takes_value Turns = true
takes_value Number = false

-- which command takes which option
abbrev pub takes : Kind → Name → Bool
takes Run Workers = true
takes Run Lives = true
takes Run Records = true
takes Replay Workers = true
takes Replay Lives = true
takes Replay Records = true
takes Replay Schedule = true
takes Replay Turns = true
takes Paths Workers = true
takes Paths Lives = true
takes Drill Number = true
takes Drill Workers = true
takes _ _ = false
