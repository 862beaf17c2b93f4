use Rattle.std.proofs.Common.{ℕ, ◌≤◌, length, get_or, arith}
use Rattle.formula_text.specs.Formulas.{tree}
use Rattle.audit_checks.specs.Faults.{IsLeast, LacksInput}
use Rattle.audit_checks.proofs.LeastTask.{least_task, has_task, uses_below}
use Rattle.audit_checks.proofs.inputs.check_inputs.Goals as goal

pub returns-in-Some-clause-err : goal.returns-in-Some-clause-err
returns-in-Some-clause-err c = λ sink versions ordered read.
    let late : length c.task-item.result.inputs ≤ c.in-Some.input = omega (arith, c.in-Some.ensures.late, c.len-given.ensures) in (
      versions,
      ordered,
      read,
      least_task (λ task. (j : ℕ) × LacksInput task j) c.args.tasks.now c.loop-task.task-index c.task-item.result c.requires (omega arith) c.task-item.is
          (c.in-Some.input, (c.in-Some.ensures.used, late))
          (λ k d early lacks. omega (arith, lacks.1.1, uses_below (tree (get_or c.args.tasks.now k d).formula) (length (get_or c.args.tasks.now k d).inputs) lacks.0 (c.loop-task.invariant k d early) lacks.1.0)),
      has_task (λ task. IsLeast (LacksInput task) c.in-Some.input) c.args.tasks.now c.loop-task.task-index c.task-item.result (omega arith) c.task-item.is
          (record { holds = (c.in-Some.ensures.used, late); least = λ m low lacks. omega (arith, low, c.in-Some.ensures.least m lacks.0 (omega (arith, lacks.1, c.len-given.ensures))) }),
    )
