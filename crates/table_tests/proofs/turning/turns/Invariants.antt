use Rattle.std.proofs.Common.{◌≡◌}
use Rattle.acyclic_audit.specs.Views.{graph}
use Rattle.task_table.specs.Passes.{lender_of}
use Rattle.table_tests.specs.Sitting.{Sits}
use Rattle.table_tests.proofs.turning.turns.Given as goal

-- the seat works on what is in its hand, and is still one of the table at which it began
abbrev pub invariant-loop : goal.invariant-loop
invariant-loop g l = record {
  sits : Sits (graph l.terms.graph.now) g.C.Course.setting l.seat.pass.view l.hand.task l.hand.scratch;
  lent : lender_of l.seat.pass ≡ lender_of l.initial.seat.pass;
}
