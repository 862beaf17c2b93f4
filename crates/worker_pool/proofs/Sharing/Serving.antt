-- A worker without a task serves a hint: what each of its turns is charged.
use Rattle.std.proofs.Common.{◌≡◌, ◌≢◌, ℕ, ◌-◌, ◌<◌, List, [], arith, ap, subst, refl}
use Rattle.graph_model.specs.Graph.{Graph as TaskGraph}
use Rattle.graph_model.specs.declared.key.Key.{Key}
use Rattle.core_state.specs.Change.{Core}
use Rattle.core_state.specs.Counts.{known_key}
use Rattle.core_state.specs.Events.Event.{look, take}
use Rattle.core_state.specs.Graph.{Setting}
use Rattle.core_state.specs.Lines.{flat}
use Rattle.core_state.specs.Rows.{HasKey}
use Rattle.graph_model.specs.declared.plan.Strike.{Strike}
use Rattle.core_state.specs.declared.job.Job.{Job}
use Rattle.core_state.specs.declared.job.Job.TheVariants as job
use Rattle.core_state.specs.declared.views.View.{View}
use Rattle.key_table.specs.Rules.{SeenTells}
use Rattle.key_table.specs.declared.words.Seen.{Seen}
use Rattle.key_table.specs.declared.words.Seen.TheVariants as seen
use Rattle.recovery.specs.Memory.{KnowsKey}
use Rattle.recovery.proofs.Knowing.{known_is, row_known}
use Rattle.compute_notify.specs.Items.{job_item}
use Rattle.compute_notify.specs.Running.{Runs}
use Rattle.compute_notify.specs.Tasks.{IsNew}
use Rattle.compute_notify.specs.declared.task.Task.{Task}
use Rattle.run_bounds.specs.Hinting.{HintTaken}
use Rattle.run_bounds.specs.Doing.{Doing}
use Rattle.run_bounds.specs.Doing.Doing.{asks, idle, works}
use Rattle.run_bounds.specs.Shared.{ActorTurn, IsPart}
use Rattle.run_bounds.specs.Struck.{IsMade}
use Rattle.run_bounds.proofs.Shared.Parts.{known_row}
use Rattle.run_bounds.proofs.Shared.Serving.{computing_taken, exploring_taken, none_computing, none_exploring, row_empty, row_found}
use Rattle.worker_pool.specs.Working.{IsIdle}

-- what is done next with a hint's row, by what a look met
abbrev pub seen_doing : ℕ → Seen → Doing
seen_doing r seen.Empty = idle
seen_doing r (seen.Holds key) = asks r key.0 job.Explore

-- only a row that has a key is asked
pub none_seen : (r : ℕ) (x : Seen) → ((key : Key) → x ≢ seen.Holds key) → seen_doing r x ≡ idle
none_seen r seen.Empty none = refl
none_seen r (seen.Holds key) none = absurd (none key refl)

-- what is done next with a row where no job was posted
abbrev pub next_doing : ℕ → ℕ → Job → Doing
next_doing row k job.Explore = asks row k job.Compute
next_doing row k job.Compute = idle

-- a view without stacks has no lines
pub free_lines : (v : View) → IsIdle v → flat v.stacks ≡ []
free_lines v rests = ap flat rests.no_stacks

module _ (e : Setting) (p : List Strike) (most : ℕ) (s t : Core) (v w : View) (part : IsPart e s v) (later : IsPart e t w) (free : flat v.stacks ≡ []) (n : ℕ) where
  pub row_looked : (r : ℕ) (hints left : List ℕ) → HintTaken hints r left → r < e.shape.rows → IsMade e (look r) n s t v w → (x : Seen) → SeenTells x n → ActorTurn e p most s t (record { view = v; doing = idle; hints = hints }) (record { view = w; doing = seen_doing r x; hints = left })
  row_looked r hints left taken low step seen.Empty tells = row_empty p most part later free n r hints left taken low step tells
  row_looked r hints left taken low step (seen.Holds key) tells = let same : n - 1 ≡ key.0 = omega (arith, tells) in
      subst (λ (k : ℕ). ActorTurn e p most s t (record { view = v; doing = idle; hints = hints }) (record { view = w; doing = asks r k job.Explore; hints = left })) same (row_found p most part later free n r hints left taken low step (omega (arith, tells)))

  module _ (row k : ℕ) (knows : KnowsKey e v row k) (hints : List ℕ) where
    has : HasKey e s row k
    has = known_row part row k (row_known e v row k knows).row_known

    as_key : (i : Job) → IsMade e (take row i (known_key row v)) n s t v w → IsMade e (take row i k) n s t v w
    as_key i step = subst (λ y. IsMade e (take row i y) n s t v w) (known_is e v row k knows) step

    pub job_came : (g : TaskGraph) (lives : ℕ) → Runs g p lives e → (i : Job) → IsMade e (take row i (known_key row v)) n s t v w → n ≢ 0 → (task : Task) → IsNew task (job_item (record { row = row; key = record { 0 = k }; life = n }) i)
        → ActorTurn e p most s t (record { view = v; doing = asks row k i; hints = hints }) (record { view = w; doing = works task; hints = hints })
    job_came g lives runs job.Explore step some task new = exploring_taken p most part later free n row k has hints (as_key job.Explore step) some g lives runs task new
    job_came g lives runs job.Compute step some task new = computing_taken p most part later free n row k has hints (as_key job.Compute step) some g lives runs task new

    pub none_came : (i : Job) → IsMade e (take row i (known_key row v)) n s t v w → n ≡ 0 → ActorTurn e p most s t (record { view = v; doing = asks row k i; hints = hints }) (record { view = w; doing = next_doing row k i; hints = hints })
    none_came job.Explore step none = none_exploring p most part later free n row k has hints (as_key job.Explore step) none
    none_came job.Compute step none = none_computing p most part later free n row k has hints (as_key job.Compute step) none
