use Rattle.std.proofs.Common.{Contains, sym, subst}
use Rattle.graph_runner.specs.Complete.{statuses_of}
use Rattle.graph_runner.proofs.Completing.{checks_complete}
use Rattle.graph_runner.proofs.command.check_command.Goals as goal

pub returns-clause-complete : goal.returns-clause-complete
returns-clause-complete g c = λ command unrun stands suits calm.
    let end = c.finish.ensures in
    subst (λ n. Contains (statuses_of command) n) (sym end.1.status_is)
    (checks_complete _ _ _ end.0 (record { made = c.words_shown-made.result; shows = c.words_shown-made.ensures; finishes = end.2 }) command unrun stands suits calm)
