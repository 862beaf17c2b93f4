-- What reading words leaves.
use Rattle.std.specs.Prelude.{List, Option, MatchOption}
use Rattle.command_words.specs.Options.{Text}
use Rattle.command_words.specs.Given.{Given, nothing, seen}
use Rattle.command_words.specs.Spelling.{Spells}
use Rattle.command_words.specs.declared.given.Given.{Given as Held}
use Rattle.command_words.specs.declared.options.Kind.{Kind}

-- what the words give the command, and none where they give nothing
abbrev pub Reads : Kind → List Text → Option Held → Type 0
Reads kind words found = MatchOption found ((given : Given) → ¬ Spells kind nothing words given) (λ given. Spells kind nothing words (seen given))
