use Rattle.std.proofs.Common.{ℕ, ◌<◌, get_or, string_bytes}
use Rattle.command_words.specs.Spelling.{IsFree}
use Rattle.command_words.proofs.reading.are_free.Given as goal

-- none of the words so far is refused
abbrev pub invariant-loop-word : goal.invariant-loop-word
invariant-loop-word l = (k : ℕ) (d : _) → k < l.word-index → IsFree (string_bytes (get_or l.words k d))
