-- What a closed table tells, and what a run makes of it.
use Rattle.std.specs.Prelude.{◌≡◌, ◌≢◌, ℕ, ℤ, Bool, true, false, eqb, List, ◌++◌, Option, Some}
use Rattle.graph_model.specs.declared.record.Record.{Record}
use Rattle.core_state.specs.Counts.{count}
use Rattle.core_state.specs.Graph.{Setting, greatest_life}
use Rattle.core_state.specs.Laws.{LawfulRecords, Played}
use Rattle.core_state.specs.Rooted.{root_key}
use Rattle.core_laws.specs.Lists.{SuspectShown}
use Rattle.worker_pool.specs.Ends.{RootLawful, TasksLawful}
use Rattle.worker_pool.specs.declared.end.Why.{Why}
use Rattle.worker_pool.specs.declared.end.Why.TheVariants as why
use Rattle.worker_pool.specs.declared.pool.Stop.{Stop}
use Rattle.worker_pool.specs.declared.pool.Stop.TheVariants as stop
use Rattle.worker_pool.specs.declared.worker.Spent.{Spent}

-- what ended the turns, once the table is closed: a life that is spent is its task's greatest, and its cause is shown by the records that are left
abbrev pub StopShown : Setting → List Record → List Record → Stop → Type 0
StopShown e tasks root stop.Over = Unit {0}
StopShown e tasks root stop.OutOfMemory = Unit {0}
StopShown e tasks root (stop.Spent s) = (s.life ≡ greatest_life e s.key.0) × SuspectShown e tasks root s.key.0 s.life s.cause

-- the laws of a closed table: whatever is pending, and with nothing pending
pub record ClosedTells (e : Setting) (pending : ℕ) (value : Option (List ℤ)) (tasks root : List Record) : Type 0 where
  pub of_tasks : TasksLawful e.graph e.plan tasks
  pub of_root : RootLawful e.graph tasks root
  pub written : pending ≡ 0 → value ≡ Some (e.graph.value e.graph.sink)
  pub lawful : pending ≡ 0 → ∥ LawfulRecords e.graph tasks ∥₁
  pub plays : pending ≡ 0 → Played e.graph e.plan (λ q. count q tasks)

-- the root's replacements stand behind the records of tasks, or room for them was refused
pub data WithRoot (reason : Why) (tasks root : List Record) (told : Why) (records : List Record) : Type 0 where
  all : told ≡ reason → records ≡ tasks ++ root → WithRoot reason tasks root told records
  refused : told ≡ why.OutOfMemory → WithRoot reason tasks root told records

-- a life that is spent: the root's is told by the sink's key, with the root's replacements; that of a task by its own
abbrev pub SpentBy : Bool → ℕ → Spent → List Record → List Record → Why → List Record → Type 0
SpentBy true sink s tasks root told records = WithRoot (why.LivesSpent (record { 0 = sink }) s.life s.cause) tasks root told records
SpentBy false sink s tasks root told records = (told ≡ why.LivesSpent s.key s.life s.cause) × (records ≡ tasks)

-- why a run ended that has no value, and which records are told, by what ended the turns
abbrev pub EndedBy : ℕ → Stop → ℕ → List Record → List Record → Why → List Record → Type 0
EndedBy sink stop.OutOfMemory pending tasks root told records = told ≡ why.OutOfMemory
EndedBy sink stop.Over pending tasks root told records = WithRoot (why.ScheduleShort pending) tasks root told records
EndedBy sink (stop.Spent s) pending tasks root told records = SpentBy (eqb s.key.0 root_key) sink s tasks root told records

-- the turns ended of themselves, and nothing is pending
abbrev pub is_whole : Stop → ℕ → Bool
is_whole stop.Over pending = eqb pending 0
is_whole stop.OutOfMemory pending = false
is_whole (stop.Spent s) pending = false

-- with something left pending the turns ended of themselves, and all records are told
abbrev pub LeavesPending : Stop → ℕ → List Record → List Record → Why → List Record → Type 0
LeavesPending x pending tasks root why.OutOfMemory records = Unit {0}
LeavesPending x pending tasks root (why.LivesSpent k l c) records = Unit {0}
LeavesPending x pending tasks root (why.ScheduleShort left) records = (x ≡ stop.Over) × (pending ≢ 0) × (records ≡ tasks ++ root)

-- where the turns ended of themselves nothing is pending
abbrev pub IsQuietStop : Stop → ℕ → Type 0
IsQuietStop stop.Over pending = pending ≡ 0
IsQuietStop stop.OutOfMemory pending = Unit {0}
IsQuietStop (stop.Spent s) pending = Unit {0}
