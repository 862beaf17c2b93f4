use Rattle.std.proofs.Common.{◌≡◌, flat_map, string_bytes}
use Rattle.graph_reader.specs.Shown.{shown_char}
use Rattle.graph_reader.proofs.shown.shown_name.Given as goal

-- the text so far shows the characters so far
abbrev pub invariant-loop-c : goal.invariant-loop-c
invariant-loop-c l = string_bytes l.text ≡ flat_map shown_char l.yielded
