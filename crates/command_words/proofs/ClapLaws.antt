-- What clap says of the table of options, and the law that ties it to what words spell.
use Rattle.std.proofs.Common.{◌≡◌, ◌↔◌, ◌∙◌, true, List, [], None, inl, inr, Result, Ok, Err, IfOk, IsErrAnd, codes, refl, sym, ap, subst}
use Rattle.std.specs.Prelude.{All}
use Rattle.clap.specs.Walk.{rows_of}
use Rattle.clap.specs.Words.{found_of}
use Rattle.clap.specs.Simple.{App, HasMatchesOf, is_simple, matches_of, new_app, new_rule, on_top, with_rule}
use Rattle.clap.specs.Faults.{fault_of, is_simple_and_free}
use Rattle.clap.specs.Kinds.{FailsBy, IsAmong}
use Rattle.clap.specs.Values.{kind_of}
use Rattle.clap.specs.declared.error.Error.{Error}
use Rattle.clap.specs.declared.error.kind.ErrorKind.TheVariants.{OutOfMemory}
use Rattle.clap.specs.declared.parser.matches.ArgMatches.{ArgMatches}
use Rattle.command_words.specs.Options.{Text}
use Rattle.command_words.specs.Given.{Given, nothing}
use Rattle.command_words.specs.Spelling.{IsLetThrough, Spells}
use Rattle.command_words.specs.ByClap.{AnswersSpelled, ReadsByClap, TakesAll, flagged, found_in, table_app, valued}
use Rattle.command_words.specs.declared.options.Kind.{Kind}
use Rattle.command_words.proofs.ClapTable.{at, table_fault, table_rows}
use Rattle.command_words.proofs.ClapWalk.{from, left}
use Rattle.command_words.proofs.ClapSpells.{all_spelled, found_spelled, spells_found, takes_spelled}

pub table_is_free : is_simple_and_free table_app ≡ true
unfolding table_app
table_is_free = refl

pub table_is_simple : is_simple table_app ≡ true
unfolding table_app
table_is_simple = refl

-- the table, option by option
pub table_is : with_rule (with_rule (with_rule (with_rule (with_rule (with_rule
    (on_top (λ s. record s { no_binary_name = true; disable_help_flag = true }) (new_app (codes "words")))
    (valued (codes "workers"))) (valued (codes "lives"))) (flagged (codes "records"))) (valued (codes "schedule"))) (valued (codes "turns"))) (new_rule (codes "number")) ≡ table_app
unfolding table_app
table_is = refl

-- what clap says of a command, told of the same command by another name
pub fails_by : (a b : App) (words : List Text) (r : Result ArgMatches Error) → a ≡ b → is_simple_and_free b ≡ true
    → (is_simple_and_free a ≡ true → FailsBy (fault_of a words) r) → FailsBy (fault_of b words) r
fails_by a b words r e s h = let told : FailsBy (fault_of a words) r = h (ap is_simple_and_free e ∙ s) in subst (λ (x : App). FailsBy (fault_of x words) r) e told

pub rows_by : (a b : App) (words : List Text) (r : Result ArgMatches Error) → a ≡ b → is_simple b ≡ true
    → IfOk r (HasMatchesOf a words) → IfOk r (λ m. rows_of (found_of m) ≡ matches_of b words)
rows_by a b words (Ok m) e s h = (h (ap is_simple e ∙ s)).0 ∙ ap (λ (x : App). matches_of x words) e
rows_by a b words (Err x) e s h = tt

-- Words give a command what clap finds in them. Own checks let them pass, clap refuses none of them, and the command takes each option that clap finds.
pub clap_law : (kind : Kind) (words : List Text) (given : Given) → Spells kind nothing words given ↔ ReadsByClap kind words given
clap_law kind words given = (there, back)
  where
    fault : fault_of table_app words ≡ from (at [] None 1) words
    fault = table_fault words

    rows : found_in (matches_of table_app words) ≡ found_in (left (at [] None 1) words)
    rows = ap found_in (table_rows words)

    there : Spells kind nothing words given → ReadsByClap kind words given
    there s = let found = found_spelled kind words given s in record {
      passed = all_spelled kind nothing given words s;
      faultless = fault ∙ found.0;
      found = rows ∙ found.1;
      taken = takes_spelled kind words given s;
    }

    back : ReadsByClap kind words given → Spells kind nothing words given
    back r =
        let same : found_in (left (at [] None 1) words) ≡ given = sym rows ∙ r.found in
        subst (Spells kind nothing words) same (spells_found kind words r.passed (sym fault ∙ r.faultless) (subst (TakesAll kind) (sym same) r.taken))

-- so what clap answers is what the words spell
pub answers_spelled : (words : List Text) (r : Result ArgMatches Error) → FailsBy (fault_of table_app words) r → IfOk r (λ m. rows_of (found_of m) ≡ matches_of table_app words)
    → All (λ word. ¬ IsLetThrough word) words → AnswersSpelled words r
answers_spelled words (Ok m) fails rows pass = λ kind given. (
  (λ s. let l = (clap_law kind words given).0 s in (ap found_in rows ∙ l.found, l.taken)),
  (λ h. (clap_law kind words given).1 (record { passed = pass; faultless = fails; found = sym (ap found_in rows) ∙ h.0; taken = h.1 })),
)
answers_spelled words (Err e) fails rows pass = λ other kind given s.
    elim fails [
      | inl memory ↦ other memory
      | inr among ↦ subst (IsAmong (kind_of e)) ((clap_law kind words given).0 s).faultless among
    ]

pub memory_spelled : (words : List Text) (r : Result ArgMatches Error) → IsErrAnd r (λ e. kind_of e ≡ OutOfMemory) → AnswersSpelled words r
memory_spelled words (Ok m) memory = absurd memory
memory_spelled words (Err e) memory = λ other kind given s. other memory
