-- What the words behind the first one give.
use Rattle.std.specs.Prelude.{Option, None, Some}
use Rattle.std.specs.Option.{option_map}
use Rattle.command_words.specs.Options.{Text}
use Rattle.command_words.specs.declared.given.Given.{Given as Held}
use Rattle.command_words.specs.declared.options.Name.{Name}
use Rattle.command_words.specs.declared.options.Name.TheVariants.{Workers, Lives, Records, Schedule, Turns, Number}

-- the text of each value that is given; an option without a value has an empty text
pub record Given : Type 0 where
  pub workers : Option Text
  pub lives : Option Text
  pub records : Option Text
  pub schedule : Option Text
  pub turns : Option Text
  pub number : Option Text

-- no option
abbrev pub nothing : Given
nothing = record { workers = None; lives = None; records = None; schedule = None; turns = None; number = None }

-- what is given for an option
abbrev pub slot : Name → Given → Option Text
slot Workers given = given.workers
slot Lives given = given.lives
slot Records given = given.records
slot Schedule given = given.schedule
slot Turns given = given.turns
slot Number given = given.number

-- the same with this value for the option
abbrev pub put : Name → Text → Given → Given
put Workers value given = record given { workers = Some value }
put Lives value given = record given { lives = Some value }
put Records value given = record given { records = Some value }
put Schedule value given = record given { schedule = Some value }
put Turns value given = record given { turns = Some value }
put Number value given = record given { number = Some value }

-- the texts that the code holds
abbrev pub seen : Held → Given
seen held = record {
  workers = option_map (λ s. s.now) held.workers;
  lives = option_map (λ s. s.now) held.lives;
  records = option_map (λ s. s.now) held.records;
  schedule = option_map (λ s. s.now) held.schedule;
  turns = option_map (λ s. s.now) held.turns;
  number = option_map (λ s. s.now) held.number;
}
