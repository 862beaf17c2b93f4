use Rattle.std.proofs.lemmas.Str.{IsUtf8-from_ascii}
use Rattle.graph_reader.proofs.data.formula_value.Goals as goal

pub unwrap-requires : goal.unwrap-requires
unwrap-requires c = c.from_utf8.ensures.succeeds (rw c.into_vec.ensures (IsUtf8-from_ascii _ c.in_ok-text.ensures.ascii))
