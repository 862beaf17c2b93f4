use Rattle.std.proofs.Common.{◌≡◌, ◌∙◌, ap, subst, sym}
use Rattle.core_state.specs.Views.{opener}
use Rattle.core_tests.specs.OneTask.{root, one_task}
use Rattle.recovery.specs.Memory.{KnowsKey}
use Rattle.task_table.specs.Passes.{Passing}
use Rattle.bench_steps.proofs.Beginning.{knows}
use Rattle.bench_steps.proofs.takes.Goals as goal

pub takes-requires-clause-known : goal.takes-requires-clause-known
takes-requires-clause-known c = let opens : c.reserve.new.self.pass.view ≡ opener 64 root 0 = c.reserve.ensures.view ∙ ap (λ (p : Passing). p.view) c.seat-seat.ensures ∙ c.in_ok-table.ensures.view in
    subst (λ v. KnowsKey one_task v 0 root) (sym opens) knows
