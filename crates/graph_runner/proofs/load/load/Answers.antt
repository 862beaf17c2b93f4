use Rattle.std.proofs.Common.{◌≡◌, Err, subst}
use Rattle.graph_reader.specs.Answers.{ReadsGraph}
use Rattle.graph_runner.proofs.Loads.{failed_text}
use Rattle.graph_runner.proofs.load.load.Goals as goal

pub returns : goal.returns
returns g c =
    let same : c.as_slice.result.now ≡ c.in_ok-bytes.bytes = c.as_slice.ensures in
    rw c.text_ending.ensures (failed_text _ c.in_ok-bytes.bytes c.in-Err.fault c.in_ok-bytes.ensures (subst (λ bs. ReadsGraph bs (Err c.in-Err.fault)) same c.in-Err.ensures.answer))
