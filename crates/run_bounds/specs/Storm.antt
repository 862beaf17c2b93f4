-- What comes at most once in a life of a task, and what a run with strikes is charged for it.
use Rattle.std.specs.Prelude.{◌≡◌, ◌⊎◌, ℕ, ◌+◌, ◌*◌, ◌<◌, Bool, List, length, Contains}
use Rattle.graph_model.specs.Graph.{Graph as TaskGraph}
use Rattle.graph_model.specs.Serial.{Outcome}
use Rattle.graph_model.specs.declared.plan.Strike.{Strike}
use Rattle.graph_model.specs.declared.record.Record.{Record}
use Rattle.core_state.specs.Counts.{count}
use Rattle.core_state.specs.Graph.{Setting}
use Rattle.core_state.specs.Rooted.{setting_of}
use Rattle.core_state.specs.Tests.{is_replaced, three}
use Rattle.core_state.specs.declared.job.Job.{Job}
use Rattle.core_state.specs.declared.job.Job.TheVariants as job
use Rattle.compute_notify.specs.Running.{Runs}
use Rattle.compute_notify.specs.Tasks.{few_left}
use Rattle.run_bounds.specs.Budgets.{all_places}

-- what comes once in a life of a key: one of several kinds
pub record Lived : Type 0 where
  pub kind : ℕ
  pub key : ℕ
  pub life : ℕ

abbrev pub is_lived : ℕ → ℕ → ℕ → Lived → Bool
is_lived a k l x = three a k l x.kind x.key x.life

-- exploring comes once in a life, and so does computing
abbrev pub job_kind : Job → ℕ
job_kind job.Explore = 0
job_kind job.Compute = 1

-- a bound on what is left of a job that begins
abbrev pub job_cost : Setting → List Strike → Lived → ℕ
job_cost e p x = few_left e p (record { 0 = x.key }) x.life

-- a life that a task has come to: its first, or the one after a life that was replaced
abbrev pub IsComeTo : List ℕ → List Record → ℕ → ℕ → Type 0
IsComeTo keys records k l = Contains keys k × ((l ≡ 1) ⊎ ((m : ℕ) × (l ≡ m + 1) × (0 < count (is_replaced k m) records)))

-- a run on these tasks with this plan
pub record IsStormRun (g : TaskGraph) (p : List Strike) (e : Setting) : Type 0 where
  pub outcome : Outcome
  pub lives : ℕ
  pub setting_is : e ≡ setting_of g outcome p lives
  pub runs : Runs g p lives e

-- what a replacement costs at most, and the turn in which it is found
abbrev pub most_cost : TaskGraph → ℕ
most_cost g = 20 * (length g.keys + 1) * (all_places g + 4)

-- so many turns are enough for a schedule of so many, a plan of so many strikes and so many replaced lives
abbrev pub enough_turns_of : TaskGraph → ℕ → ℕ → ℕ → ℕ
enough_turns_of g m n r = 200 * m * (n + r + 1) * (length g.keys + 1) * (all_places g + length g.keys + 2) * (all_places g + length g.keys + 2)
