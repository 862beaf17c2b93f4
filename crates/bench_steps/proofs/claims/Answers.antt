use Rattle.std.proofs.Common.{◌≡◌, ◌∙◌, ap, subst, sym}
use Rattle.core_state.specs.Views.{opener}
use Rattle.core_steps.specs.Seat.{Explores}
use Rattle.core_tests.specs.OneTask.{root, one_task}
use Rattle.task_table.specs.Passes.{Passing}
use Rattle.bench_steps.proofs.Beginning.{explores}
use Rattle.bench_steps.proofs.claims.Goals as goal

pub claims-requires-clause-may : goal.claims-requires-clause-may
claims-requires-clause-may c = let opens : c.reserve.new.self.pass.view ≡ opener 64 root 0 = c.reserve.ensures.view ∙ ap (λ (p : Passing). p.view) c.seat-seat.ensures ∙ c.in_ok-table.ensures.view in
    subst (λ v. Explores one_task v 1) (sym opens) explores
