-- Which answers a run does not come to, whatever its schedule, and what its replacements cost the plan.
use Rattle.std.specs.Prelude.{◌≡◌, ◌≢◌, ℕ, ◌<◌, ◌≤◌, Bool, true, List, [], All, length}
use Rattle.graph_model.specs.Graph.{Graph as TaskGraph}
use Rattle.graph_model.specs.declared.plan.Strike.{Strike}
use Rattle.graph_model.specs.declared.plan.Target.TheVariants as target
use Rattle.graph_model.specs.declared.record.Hit.{Hit}
use Rattle.graph_model.specs.declared.record.Record.{Record}
use Rattle.core_state.specs.Counts.{count}
use Rattle.core_state.specs.Graph.{Plan}
use Rattle.core_state.specs.Rooted.{plan_of}
use Rattle.core_state.specs.Tests.{is_any_replaced, is_any_struck, is_replaced, is_struck, strikes_upto}
use Rattle.worker_pool.specs.Ends.{NoneMissing}
use Rattle.worker_pool.specs.declared.end.Why.{Why}
use Rattle.worker_pool.specs.declared.end.Why.TheVariants as why

-- each strike of the plan is on a descriptor or a notify word
abbrev pub StrikesNoBlock : List Strike → Type 0
StrikesNoBlock strikes = All (λ s. s.target ≢ target.Block) strikes

-- each block has one version
abbrev pub HasOneVersion : TaskGraph → Type 0
HasOneVersion g = (b : ℕ) → b < g.block_count → g.versions b ≤ 1

-- the strike at a place of the plan is on a target of the key and names this life or an earlier one, and a strike on that target landed in this life
pub record IsOwn (p : Plan) (many : (Record → Bool) → ℕ) (k l place : ℕ) : Type 0 where
  pub hit : Hit
  pub planned : strikes_upto p k l hit place ≡ true
  pub landed : 0 < many (is_struck k l hit)

-- each life that was replaced has a strike of its own, so no more lives were replaced than the plan has strikes
pub record OwnStrikes (p : Plan) (many : (Record → Bool) → ℕ) : Type 0 where
  pub place : ℕ → ℕ → ℕ
  pub each : (k l : ℕ) → 0 < many (is_replaced k l) → IsOwn p many k l (place k l)
  pub apart : (k l m n : ℕ) → 0 < many (is_replaced k l) → 0 < many (is_replaced m n) → place k l ≡ place m n → (k ≡ m) × (l ≡ n)
  pub few : many is_any_replaced ≤ p.count

-- the replacements of a run answer to strikes of its plan
pub record AnswersPlan (g : TaskGraph) (strikes : List Strike) (records : List Record) : Type 0 where
  -- with an empty plan nothing lands, and where nothing landed nothing was replaced
  pub planned : strikes ≡ [] → count is_any_struck records ≡ 0
  pub landed : count is_any_struck records ≡ 0 → count is_any_replaced records ≡ 0
  -- where words alone are struck and each block has one version, each life that was replaced has a strike of its own
  pub own : StrikesNoBlock strikes → HasOneVersion g → ∥ OwnStrikes (plan_of strikes) (λ q. count q records) ∥₁

-- a life was spent
abbrev pub SpendsLife : Why → Type 0
SpendsLife why.OutOfMemory = ⊥
SpendsLife (why.LivesSpent k l c) = Unit {0}
SpendsLife (why.ScheduleShort pending) = ⊥

-- a life is spent only where a strike landed, so never with an empty plan; and where words alone are struck and each block has one version, only with at least as many strikes as lives
pub record IsComplete (g : TaskGraph) (strikes : List Strike) (lives : ℕ) (reason : Why) (records : List Record) : Type 0 where
  pub landed : SpendsLife reason → 0 < count is_any_struck records
  pub some_strike : SpendsLife reason → strikes ≢ []
  pub few_lives : SpendsLife reason → StrikesNoBlock strikes → HasOneVersion g → lives ≤ length strikes
  pub answers : NoneMissing reason → AnswersPlan g strikes records
