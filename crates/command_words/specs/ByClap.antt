-- The options of all commands, as clap sees them.
use Rattle.std.specs.Prelude.{◌≡◌, ◌≢◌, ◌↔◌, All, List, [], Option, Some, None, Result, MatchResult, true, codes, is_some, if◌then◌else◌}
use Rattle.std.specs.Str.{bytes_eq}
use Rattle.clap.specs.Walk.{Row, Rule, first_of, rows_of}
use Rattle.clap.specs.Words.{found_of, kind_of}
use Rattle.clap.specs.Faults.{fault_of}
use Rattle.clap.specs.Simple.{App, matches_of, new_app, new_rule, with_rule, on_top}
use Rattle.clap.specs.declared.builder.ArgAction.TheVariants.{SetTrue}
use Rattle.clap.specs.declared.error.Error.{Error}
use Rattle.clap.specs.declared.error.kind.ErrorKind.TheVariants.{OutOfMemory}
use Rattle.clap.specs.declared.parser.matches.ArgMatches.{ArgMatches}
use Rattle.command_words.specs.Options.{Text, takes}
use Rattle.command_words.specs.Given.{Given, nothing, slot}
use Rattle.command_words.specs.Spelling.{IsLetThrough, Spells}
use Rattle.command_words.specs.declared.options.Kind.{Kind}
use Rattle.command_words.specs.declared.options.Name.{Name}

-- an option that is followed by a value
abbrev pub valued : Text → Rule
valued name = record (new_rule name) { long = Some name }

-- an option that is not
abbrev pub flagged : Text → Rule
flagged name = record (new_rule name) { long = Some name; action = Some SetTrue }

-- all options, and the one word that belongs to none
unfoldable pub table_app : App
table_app = with_rule (with_rule (with_rule (with_rule (with_rule (with_rule
    (on_top (λ s. record s { no_binary_name = true; disable_help_flag = true }) (new_app (codes "words")))
    (valued (codes "workers"))) (valued (codes "lives"))) (flagged (codes "records"))) (valued (codes "schedule"))) (valued (codes "turns"))) (new_rule (codes "number"))

-- the empty text that an option without a value is given, where clap says that it is there
abbrev pub flag_text : Option Text → Option Text
flag_text None = None
flag_text (Some text) = if bytes_eq text (codes "true") then Some [] else None

-- what clap found
abbrev pub found_in : List Row → Given
found_in rows = record {
  workers = first_of (codes "workers") rows;
  lives = first_of (codes "lives") rows;
  records = flag_text (first_of (codes "records") rows);
  schedule = first_of (codes "schedule") rows;
  turns = first_of (codes "turns") rows;
  number = first_of (codes "number") rows;
}

-- the command takes each option that is given
abbrev pub TakesAll : Kind → Given → Type 0
TakesAll kind given = (name : Name) → is_some (slot name given) ≡ true → takes kind name ≡ true

-- clap reads the words behind the first one as these options of the command, and own checks let each word pass
pub record ReadsByClap (kind : Kind) (words : List Text) (given : Given) : Type 0 where
  pub passed : All (λ word. ¬ IsLetThrough word) words
  pub faultless : fault_of table_app words ≡ []
  pub found : found_in (matches_of table_app words) ≡ given
  pub taken : TakesAll kind given

-- what clap answers is what the words spell: just what it finds, where the command takes it, and nothing where it refuses them
abbrev pub AnswersSpelled : List Text → Result ArgMatches Error → Type 0
AnswersSpelled words answer = MatchResult answer
    (λ m. (kind : Kind) (given : Given) → Spells kind nothing words given ↔ ((found_in (rows_of (found_of m)) ≡ given) × TakesAll kind given))
    (λ e. kind_of e ≢ OutOfMemory → (kind : Kind) (given : Given) → ¬ Spells kind nothing words given)
