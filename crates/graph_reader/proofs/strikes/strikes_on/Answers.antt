use Rattle.graph_reader.proofs.strikes.strikes_on.Goals as goal

pub returns : goal.returns
returns c = rw (c.as_slice.ensures.value, c.in_ok-keys.ensures.same) at c.strikes_at.ensures
