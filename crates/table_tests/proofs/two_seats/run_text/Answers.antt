use Rattle.graph_runner.proofs.Limits.{in_limits}
use Rattle.table_tests.proofs.Sitting.{run_here}
use Rattle.table_tests.proofs.two_seats.run_text.Goals as goal

pub audit-requires : goal.audit-requires
audit-requires c = in_limits c.in-Ok.raw c.in-Ok.ensures.within.graph

pub run-requires-clause-run : goal.run-requires-clause-run
run-requires-clause-run c = run_here c.in_ok-graph.graph c.in-Ok.plan c.len.ensures.few c.len.ensures.keys
