-- A run that left something pending made fewer turns than are enough.
use Rattle.std.proofs.Common.{◌≡◌, ◌≢◌, ◌∙◌, ℕ, ◌+◌, ◌-◌, ◌*◌, ◌<◌, ◌≤◌, All, List, [], ◌∷◌, ◌++◌, Option, length, slice_index, ap, subst, sym, refl, arith}
use Rattle.std.proofs.Math.Bridge.{le_prop}
use Rattle.std.proofs.Math.Logic.{∥∥₁_elim}
use Rattle.graph_model.specs.Graph.{Graph as TaskGraph}
use Rattle.graph_model.specs.declared.plan.Strike.{Strike}
use Rattle.graph_model.specs.declared.record.Record.{Record}
use Rattle.core_state.specs.Counts.{count, noted, total_of}
use Rattle.core_state.specs.Graph.{Setting}
use Rattle.core_state.specs.Tests.{is_any_replaced}
use Rattle.core_state.specs.declared.block.BlockCells.{BlockCells}
use Rattle.core_steps.specs.Table.{Plain}
use Rattle.run_bounds.specs.Budgets.{all_places, enough_turns}
use Rattle.run_bounds.specs.Moving.{IsListed}
use Rattle.run_bounds.specs.Storm.{enough_turns_of}
use Rattle.worker_pool.specs.Closing.{LeavesPending}
use Rattle.worker_pool.specs.Completing.{AnswersPlan, HasOneVersion, StrikesNoBlock}
use Rattle.worker_pool.specs.Ends.{IsNotShort, NoneMissing}
use Rattle.worker_pool.specs.Joining.{HaveEnded}
use Rattle.worker_pool.specs.Sharing.{IsPaid}
use Rattle.worker_pool.specs.declared.end.Why.{Why}
use Rattle.worker_pool.specs.declared.end.Why.TheVariants as why
use Rattle.worker_pool.specs.declared.pool.Stop.{Stop}
use Rattle.worker_pool.specs.declared.pool.Stop.TheVariants as stop
use Rattle.worker_pool.proofs.Ends.{enough_made}
use Rattle.worker_pool.proofs.Sums.{replaced_recorded}

module _ (g : TaskGraph) (strikes : List Strike) (e : Setting) (x : Stop) (q : Plain) (ws : List ℕ) (bs : List (Option BlockCells)) (tasks root records : List Record) (pending schedule turns : ℕ) (told : Why)
    (ended : HaveEnded e q.views ws bs tasks root) (word : slice_index q.words 0 ≡ pending) (due : x ≡ stop.Over → slice_index q.words 0 ≢ 0 → IsPaid g strikes (length q.views) schedule turns (total_of q.views (noted is_any_replaced)))
    (left : LeavesPending x pending tasks root told records) where
  paid : x ≡ stop.Over → pending ≢ 0 → records ≡ tasks ++ root → IsPaid g strikes (length q.views) schedule turns (count is_any_replaced records)
  paid over some are = subst (IsPaid g strikes (length q.views) schedule turns) (sym (ap (count is_any_replaced) are ∙ replaced_recorded e q.views ws bs tasks root ended)) (due over (λ none. some (sym word ∙ none)))

  pub paid_ends : enough_turns_of g schedule (length strikes) (count is_any_replaced records) ≤ turns → IsNotShort told
  paid_ends = enough_made x pending tasks root (enough_turns_of g schedule (length strikes) (count is_any_replaced records)) turns told records (λ over some are. (paid over some are).few) left

  pub empty_ends : strikes ≡ [] → enough_turns_of g schedule 0 0 ≤ turns → IsNotShort told
  empty_ends none = enough_made x pending tasks root (enough_turns_of g schedule 0 0) turns told records
      (λ over some are. let due_now = paid over some are in subst (λ (n : ℕ). turns < enough_turns_of g schedule 0 n) (due_now.empty none) (subst (λ (n : ℕ). turns < enough_turns_of g schedule n (count is_any_replaced records)) (ap length none) due_now.few)) left

  pub calm_ends : length q.views ≡ 1 → strikes ≡ [] → enough_turns g ≤ turns → IsNotShort told
  calm_ends one empty = enough_made x pending tasks root (enough_turns g) turns told records (λ over some are. (paid over some are).calm one empty) left

-- an only worker is named
pub only_listed : (schedule : List ℕ) (many : ℕ) → schedule ≢ [] → All (λ i. i < many) schedule → many ≡ 1 → IsListed schedule 0
only_listed [] many some all one = absurd (some refl)
only_listed (i ∷ schedule) many some all one = (0, omega arith, let low = all 0 0 (omega arith) in omega (arith, low, one))

-- more replaced lives want no fewer turns
more_turns : (m n r d t q : ℕ) → 200 * m * (n + r + 1) * t * q * q ≤ 200 * m * (n + (r + d) + 1) * t * q * q
more_turns m n r d t q = let a : 200 * m * (n + (r + d) + 1) * t * q * q ≡ 200 * m * (n + r + 1) * t * q * q + 200 * m * d * t * q * q = grind arith in omega (arith, a)

pub more_lives : (g : TaskGraph) (m n r s : ℕ) → r ≤ s → enough_turns_of g m n r ≤ enough_turns_of g m n s
more_lives g m n r s low = let is : r + (s - r) ≡ s = omega (arith, low) in
    subst (λ (k : ℕ). enough_turns_of g m n r ≤ enough_turns_of g m n k) is (more_turns m n r (s - r) (length g.keys + 1) (all_places g + length g.keys + 2))

-- where each life that was replaced has a strike of its own, no more lives were replaced than strikes are planned
pub planned_ends : (g : TaskGraph) (strikes : List Strike) (schedule turns : ℕ) (told : Why) (records : List Record) → (enough_turns_of g schedule (length strikes) (count is_any_replaced records) ≤ turns → IsNotShort told) → (NoneMissing told → AnswersPlan g strikes records)
    → StrikesNoBlock strikes → HasOneVersion g → enough_turns_of g schedule (length strikes) (length strikes) ≤ turns → IsNotShort told
planned_ends g strikes schedule turns why.OutOfMemory records paid answers words single enough = tt
planned_ends g strikes schedule turns (why.LivesSpent k l c) records paid answers words single enough = tt
planned_ends g strikes schedule turns (why.ScheduleShort n) records paid answers words single enough = paid (
    let few : count is_any_replaced records ≤ length strikes = ∥∥₁_elim ((answers tt).own words single) le_prop (λ own. own.few) in
    let a = more_lives g schedule (length strikes) (count is_any_replaced records) (length strikes) few in omega (arith, a, enough))
