use Rattle.std.proofs.Common.{ℕ, ◌<◌, length, get_or}
use Rattle.formula_text.specs.Formulas.{tree}
use Rattle.formula_text.specs.Trees.{HasInputs}
use Rattle.raw_graph.specs.declared.raw.RawTask.{RawTask}
use Rattle.audit_checks.proofs.inputs.check_inputs.Given as goal

abbrev pub invariant-loop-task : goal.invariant-loop-task
invariant-loop-task l = (k : ℕ) (d : RawTask) → k < l.task-index → HasInputs (tree (get_or l.tasks k d).formula) (length (get_or l.tasks k d).inputs)
