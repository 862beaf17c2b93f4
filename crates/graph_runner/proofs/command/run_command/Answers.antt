use Rattle.std.proofs.Common.{Contains, sym, subst}
use Rattle.graph_runner.specs.Complete.{statuses_of}
use Rattle.graph_runner.proofs.Completing.{completes}
use Rattle.graph_runner.proofs.command.run_command.Goals as goal

pub returns-clause-complete : goal.returns-clause-complete
returns-clause-complete g c = λ command stands suits calm.
    let made = c.words_served-made.ensures in
    let end = c.finish-status.ensures in
    subst (λ n. Contains (statuses_of command) n) (sym end.1.status_is)
    (completes _ _ _ c.words_served-made.new.records.items made.0 end.0 (record { made = c.words_served-made.result; makes = made.2; finishes = end.2 }) command stands suits calm)
