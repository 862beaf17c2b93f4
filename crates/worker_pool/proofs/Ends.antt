-- Why a run ended without the value, from the laws of its closed table.
use Rattle.std.proofs.Common.{◌≡◌, ◌≢◌, ◌∙◌, ℕ, ℤ, ◌<◌, ◌≤◌, Bool, true, false, cond, eqb, List, ◌++◌, Option, Some, None, slice_index, ap, subst, sym, refl, arith}
use Rattle.std.proofs.lemmas.Bool.{eq-eqb, eqb-true}
use Rattle.graph_model.specs.Graph.{Graph as TaskGraph}
use Rattle.graph_model.specs.Serial.{Outcome, serial}
use Rattle.graph_model.specs.declared.plan.Strike.{Strike}
use Rattle.graph_model.specs.declared.record.Cause.{Cause}
use Rattle.graph_model.specs.declared.record.Record.{Record}
use Rattle.core_state.specs.Counts.{count}
use Rattle.core_state.specs.Tests.{is_computed}
use Rattle.core_state.specs.Graph.{Graph, Setting, greatest_life}
use Rattle.core_state.specs.Rooted.{root_key, setting_of}
use Rattle.core_state.specs.declared.block.BlockCells.{BlockCells}
use Rattle.core_state.specs.declared.views.View.{View}
use Rattle.core_steps.specs.Table.{IsClosing}
use Rattle.core_laws.specs.Lists.{RootReplaced, SuspectShown}
use Rattle.worker_pool.proofs.Closing.{same_computed}
use Rattle.worker_pool.specs.Ends.{EndTells, IsFinished, IsNotShort, IsSpent, NoneMissing, WasLeft}
use Rattle.worker_pool.specs.Ends.IsSpent.{of_root, of_task}
use Rattle.worker_pool.specs.Closing.{ClosedTells, EndedBy, IsQuietStop, LeavesPending, SpentBy, StopShown, WithRoot, is_whole}
use Rattle.worker_pool.specs.Closing.WithRoot.{all, refused}
use Rattle.worker_pool.specs.declared.end.Why.{Why}
use Rattle.worker_pool.specs.declared.end.Why.TheVariants as why
use Rattle.worker_pool.specs.declared.pool.Stop.{Stop}
use Rattle.worker_pool.specs.declared.pool.Stop.TheVariants as stop
use Rattle.worker_pool.specs.declared.worker.Spent.{Spent}
use Rattle.std.proofs.Math.Logic.{∥∥₁_map}
use Rattle.std.proofs.lemmas.Option.{same_Some}
use mathlib.Core.Bool.{true≢false}

module _ (g : TaskGraph) (outcome : Outcome) (strikes : List Strike) (lives : ℕ) where
  abbrev e : Setting
  e = setting_of g outcome strikes lives

  -- the serial value of the sink, whichever of both keys the sink has
  sink_value : e.graph.value e.graph.sink ≡ serial g outcome g.sink
  sink_value = either (eqb g.sink root_key)
    where
      either : (b : Bool) → serial g outcome (cond b g.sink g.sink) ≡ serial g outcome g.sink
      either true = refl
      either false = refl

  module _ (pending : ℕ) (value : Option (List ℤ)) (tasks root : List Record) (laws : ClosedTells (setting_of g outcome strikes lives) pending value tasks root) where
    -- with nothing pending there is the value, and its records are lawful and play the plan
    pub finished : (x : List ℤ) → pending ≡ 0 → value ≡ Some x → IsFinished g outcome strikes x tasks
    finished x none is = record {
      value_is = same_Some _ _ (sym is ∙ laws.written none) ∙ sink_value;
      of_tasks = laws.of_tasks.of_tasks;
      lawful = laws.lawful none;
      plays = laws.plays none;
    }

    -- the turns were over
    pub cut_short : (told : Why) (records : List Record) → ∥ WasLeft e pending tasks root ∥₁ → pending ≢ 0 → WithRoot (why.ScheduleShort pending) tasks root told records → EndTells g outcome strikes lives told records
    cut_short told records left some (all is are) = subst (λ w. EndTells g outcome strikes lives w records) (sym is) (some, record { tasks = tasks; root = root; records_are = are; lawful = laws.of_tasks; of_root = laws.of_root; left = left })
    cut_short told records left some (refused is) = subst (λ w. EndTells g outcome strikes lives w records) (sym is) tt

    -- the last life of a task: the task is named, with all its records
    spent_task : (s : Spent) (told : Why) (records : List Record) → eqb s.key.0 root_key ≡ false → s.life ≡ greatest_life e s.key.0 → SuspectShown e tasks root s.key.0 s.life s.cause → (told ≡ why.LivesSpent s.key s.life s.cause) × (records ≡ tasks) → EndTells g outcome strikes lives told records
    spent_task s told records apart greatest shown by = subst (λ w. EndTells g outcome strikes lives w records) (sym by.0) (subst (IsSpent e.graph e.plan lives s.key.0 s.life s.cause) (sym by.1)
        (of_task shown.reached (λ is. true≢false (sym (eq-eqb s.key.0 root_key is) ∙ apart)) (greatest ∙ ap (λ b. cond b 65535 lives) apart) laws.of_tasks shown.shown))

    -- the last life of the root: the sink is named, with the root's replacements behind the records of tasks
    spent_root : (life : ℕ) (c : Cause) (told : Why) (records : List Record) → life ≡ 65535 → SuspectShown e tasks root root_key life c → WithRoot (why.LivesSpent (record { 0 = g.sink }) life c) tasks root told records → EndTells g outcome strikes lives told records
    spent_root life c told records greatest shown (all by are) = subst (λ w. EndTells g outcome strikes lives w records) (sym by)
        (of_root tasks root are refl greatest laws.of_tasks laws.of_root (λ l some low. shown.root refl l some (omega (arith, low, greatest))) shown.shown)
    spent_root life c told records greatest shown (refused by) = subst (λ w. EndTells g outcome strikes lives w records) (sym by) tt

    spent_tells : (s : Spent) (told : Why) (records : List Record) → StopShown e tasks root (stop.Spent s) → (b : Bool) → eqb s.key.0 root_key ≡ b → SpentBy b g.sink s tasks root told records → EndTells g outcome strikes lives told records
    spent_tells s told records shown true is by = spent_root s.life s.cause told records (shown.0 ∙ ap (λ (b : Bool). cond b 65535 lives) is) (subst (λ k. SuspectShown e tasks root k s.life s.cause) (eqb-true s.key.0 root_key is) shown.1) by
    spent_tells s told records shown false apart by = spent_task s told records apart shown.0 shown.1 by

    -- why a run ended without the value, by what ended its turns
    pub ended_tells : (x : Stop) (told : Why) (records : List Record) → ∥ WasLeft e pending tasks root ∥₁ → StopShown e tasks root x → (x ≡ stop.Over → pending ≢ 0) → EndedBy g.sink x pending tasks root told records → EndTells g outcome strikes lives told records
    ended_tells stop.OutOfMemory told records left shown some by = subst (λ w. EndTells g outcome strikes lives w records) (sym by) tt
    ended_tells stop.Over told records left shown some by = cut_short told records left (some refl) by
    ended_tells (stop.Spent s) told records left shown some by = spent_tells s told records shown (eqb s.key.0 root_key) refl by

-- a closed table left what its first word says
pub was_left : (e : Setting) (pending : ℕ) (ws : List ℕ) (bs : List (Option BlockCells)) (tasks root : List Record) → pending ≡ slice_index ws 0 → ∥ ((views : List View) × IsClosing e views ws bs tasks root) ∥₁ → ∥ WasLeft e pending tasks root ∥₁
was_left e pending ws bs tasks root is meets = ∥∥₁_map meets (λ m. record { views = m.0; words = ws; blocks = bs; pending_is = is; closing = m.1 })

-- the turns that ended of themselves left something pending, where the run is not whole
pub not_whole : (x : Stop) (pending : ℕ) → is_whole x pending ≡ false → x ≡ stop.Over → pending ≢ 0
not_whole stop.Over pending whole is none = true≢false (sym (eq-eqb pending 0 none) ∙ whole)
not_whole stop.OutOfMemory pending whole is none = absurd cc
not_whole (stop.Spent s) pending whole is none = absurd cc

-- without a value something is pending
pub no_value : (e : Setting) (pending : ℕ) (value : Option (List ℤ)) (tasks root : List Record) → ClosedTells e pending value tasks root → value ≡ None → pending ≢ 0
no_value e pending value tasks root laws is none = absurd (let a = laws.written none in cc)

-- Where no record is missing, the results among the records that are told are those of the tasks.
module _ (g : Graph) (tasks root : List Record) (of_root : RootReplaced g root) where
  with_computed : (reason told : Why) (records : List Record) → WithRoot reason tasks root told records → NoneMissing told → (k l : ℕ) → count (is_computed k l) records ≡ count (is_computed k l) tasks
  with_computed reason told records (all is are) none k l = ap (count (is_computed k l)) are ∙ same_computed g k l tasks root of_root
  with_computed reason told records (refused is) none k l = absurd (subst NoneMissing is none)

  spent_computed : (b : Bool) (sink : ℕ) (s : Spent) (told : Why) (records : List Record) → SpentBy b sink s tasks root told records → NoneMissing told → (k l : ℕ) → count (is_computed k l) records ≡ count (is_computed k l) tasks
  spent_computed true sink s told records by none k l = with_computed (why.LivesSpent (record { 0 = sink }) s.life s.cause) told records by none k l
  spent_computed false sink s told records by none k l = ap (count (is_computed k l)) by.1

  pub ended_computed : (sink : ℕ) (x : Stop) (pending : ℕ) (told : Why) (records : List Record) → EndedBy sink x pending tasks root told records → NoneMissing told → (k l : ℕ) → count (is_computed k l) records ≡ count (is_computed k l) tasks
  ended_computed sink stop.OutOfMemory pending told records by none k l = absurd (subst NoneMissing by none)
  ended_computed sink stop.Over pending told records by none k l = with_computed (why.ScheduleShort pending) told records by none k l
  ended_computed sink (stop.Spent s) pending told records by none k l = spent_computed (eqb s.key.0 root_key) sink s told records by none k l

-- What is told of turns that left something pending.
module _ (x : Stop) (pending : ℕ) (tasks root : List Record) where
  with_left : (reason told : Why) (records : List Record) → (records ≡ tasks ++ root → LeavesPending x pending tasks root reason records) → WithRoot reason tasks root told records → LeavesPending x pending tasks root told records
  with_left reason told records by (all is are) = subst (λ w. LeavesPending x pending tasks root w records) (sym is) (by are)
  with_left reason told records by (refused is) = subst (λ w. LeavesPending x pending tasks root w records) (sym is) tt

  spent_left : (b : Bool) (sink : ℕ) (s : Spent) (told : Why) (records : List Record) → SpentBy b sink s tasks root told records → LeavesPending x pending tasks root told records
  spent_left true sink s told records by = with_left (why.LivesSpent (record { 0 = sink }) s.life s.cause) told records (λ are. tt) by
  spent_left false sink s told records by = subst (λ w. LeavesPending x pending tasks root w records) (sym by.0) tt

pub left_pending : (sink : ℕ) (x : Stop) (pending : ℕ) (tasks root : List Record) (told : Why) (records : List Record) → (x ≡ stop.Over → pending ≢ 0) → EndedBy sink x pending tasks root told records → LeavesPending x pending tasks root told records
left_pending sink stop.OutOfMemory pending tasks root told records some by = subst (λ w. LeavesPending stop.OutOfMemory pending tasks root w records) (sym by) tt
left_pending sink stop.Over pending tasks root told records some by = with_left stop.Over pending tasks root (why.ScheduleShort pending) told records (λ are. (refl, some refl, are)) by
left_pending sink (stop.Spent s) pending tasks root told records some by = spent_left (stop.Spent s) pending tasks root (eqb s.key.0 root_key) sink s told records by

-- where the turns were enough nothing was left pending
pub enough_made : (x : Stop) (pending : ℕ) (tasks root : List Record) (enough turns : ℕ) (told : Why) (records : List Record) → (x ≡ stop.Over → pending ≢ 0 → records ≡ tasks ++ root → turns < enough) → LeavesPending x pending tasks root told records → enough ≤ turns → IsNotShort told
enough_made x pending tasks root enough turns why.OutOfMemory records few left made = tt
enough_made x pending tasks root enough turns (why.LivesSpent k l c) records few left made = tt
enough_made x pending tasks root enough turns (why.ScheduleShort n) records few left made = absurd (let a = few left.0 left.1 left.2 in omega (arith, a, made))

-- nor where nothing is pending
pub not_short : (x : Stop) (pending : ℕ) (tasks root : List Record) (told : Why) (records : List Record) → IsQuietStop x pending → LeavesPending x pending tasks root told records → IsNotShort told
not_short x pending tasks root told records quiet left = enough_made x pending tasks root 0 0 told records (λ over some are. absurd (some (subst (λ s. IsQuietStop s pending) over quiet))) left (omega arith)
