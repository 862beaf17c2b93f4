use Rattle.std.proofs.Common.{◌≡◌}
use Rattle.acyclic_audit.specs.Views.{graph}
use Rattle.task_table.specs.Passes.{lender_of}
use Rattle.table_tests.specs.Sitting.{Sits}
use Rattle.table_tests.proofs.turning.alternate.Given as goal

-- each seat works on what is in its hand, and is still one of the table at which it began
abbrev pub invariant-loop : goal.invariant-loop
invariant-loop g l = record {
  first : Sits (graph l.terms.graph.now) g.C.Course.setting l.first.pass.view l.one.task l.one.scratch;
  second : Sits (graph l.terms.graph.now) g.C.Course.setting l.second.pass.view l.other.task l.other.scratch;
  first_lent : lender_of l.first.pass ≡ lender_of l.initial.first.pass;
  second_lent : lender_of l.second.pass ≡ lender_of l.initial.second.pass;
}
