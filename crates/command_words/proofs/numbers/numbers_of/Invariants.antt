use Rattle.std.proofs.Common.{◌≡◌, ℕ, List, ◌++◌, length}
use denote.Text.{Utf8}
use denote.Shadow.{shadow}
use Rattle.command_words.specs.Numbers.{IsList}
use Rattle.command_words.proofs.numbers.numbers_of.Given as goal

-- what is left continues the numbers so far, and every list of the text goes on so
abbrev pub invariant-loop-first : goal.invariant-loop-first
invariant-loop-first l = record {
  text : shadow (Utf8 l.rest);
  goes_on : (ns : List ℕ) → IsList l.most l.rest ns → IsList l.most l.text (l.numbers.items ++ ns);
  all : (ms : List ℕ) → IsList l.most l.text ms → (ns : List ℕ) × (ms ≡ l.numbers.items ++ ns) × IsList l.most l.rest ns;
}

abbrev pub decreases-loop-first : goal.decreases-loop-first
decreases-loop-first l = length l.rest
