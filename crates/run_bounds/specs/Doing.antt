-- What a worker does in its next turn, and the hints that it serves.
use Rattle.std.specs.Prelude.{ℕ, ◌+◌, eqb, List}
use Rattle.core_state.specs.Counts.{hit}
use Rattle.core_state.specs.Tests.{same_job}
use Rattle.core_state.specs.declared.job.Job.{Job}
use Rattle.core_state.specs.declared.job.Job.TheVariants as job
use Rattle.compute_notify.specs.declared.task.Task.{Task}
use Rattle.run_bounds.specs.Hinting.{times}

-- What the worker does in its next turn: it looks for a hint, asks the row of one for a job, or turns a task.
pub data Doing : Type 0 where
  idle : Doing
  asks : (row key : ℕ) (i : Job) → Doing
  works : Task → Doing

-- hints of a row that have not asked for exploring, and those that have
abbrev pub asks_for : Job → ℕ → Doing → ℕ
asks_for i r (asks row key now) = hit (Rattle.std.specs.Prelude.◌&&◌ (same_job i now) (eqb r row))
asks_for i r _ = 0

abbrev pub fresh_hints : ℕ → Doing → List ℕ → ℕ
fresh_hints r doing hints = times r hints + asks_for job.Explore r doing

abbrev pub asked_hints : ℕ → Doing → ℕ
asked_hints r doing = asks_for job.Compute r doing

-- how much is left of what is done: of a hint in service the two jobs that it asks for
abbrev pub asking_rest : Job → ℕ
asking_rest job.Explore = 2
asking_rest job.Compute = 1
