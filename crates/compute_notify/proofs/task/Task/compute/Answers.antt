use Rattle.std.proofs.Common.{subst}
use Rattle.core_state.specs.declared.job.Job.TheVariants as job
use Rattle.compute_notify.specs.Tasks.{IsNew}
use Rattle.compute_notify.proofs.JobRests.{new_few}
use Rattle.compute_notify.proofs.task.Task.compute.Goals as goal

pub returns-clause-rest : goal.returns-clause-rest
returns-clause-rest c g strikes lives e runs key = new_few g strikes lives e runs (record { row = c.args.row; key = c.args.key; life = c.args.life }) key job.Compute c.of.result (subst (IsNew c.of.result) c.of_job.ensures c.of.ensures)
