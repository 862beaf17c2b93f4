-- On what terms a graph is run by workers.
use Rattle.std.specs.Prelude.{◌≡◌, ◌≢◌, ℕ, ◌+◌, ◌*◌, ◌-◌, ◌^◌, ◌<◌, ◌≤◌, min, max, Bool, true, false, List, [], length, All, Option, None, Some}
use Rattle.graph_model.specs.Graph.{Graph}
use Rattle.graph_model.specs.declared.plan.Strike.{Strike}
use Rattle.graph_model.specs.declared.record.Record.{Record}
use Rattle.core_state.specs.Counts.{count}
use Rattle.core_state.specs.Tests.{is_any_replaced}
use Rattle.run_bounds.specs.Budgets.{all_places, enough_turns}
use Rattle.run_bounds.specs.Moving.{IsListed}
use Rattle.run_bounds.specs.Storm.{enough_turns_of}
use Rattle.worker_pool.specs.Completing.{HasOneVersion, StrikesNoBlock}
use Rattle.command_words.specs.Meaning.{Asked, run, replay, paths, drill, check, print}
use Rattle.graph_runner.specs.declared.terms.Terms.{Terms}
use Rattle.graph_runner.specs.declared.terms.Pace.{Pace}
use Rattle.graph_runner.specs.declared.terms.Pace.TheVariants.{Threads, Turns}

-- whether a command is run by workers
abbrev pub by_workers : Asked → Bool
by_workers (run workers lives detail) = true
by_workers (replay workers lives detail schedule turns) = true
by_workers (paths workers lives) = true
by_workers (drill number workers) = true
by_workers check = false
by_workers print = false

-- the workers take turns: this schedule, and so many turns, or as many as schedule, plan and graph decide
abbrev pub HasTurns : Pace → List ℕ → Option ℕ → Type 0
HasTurns Threads schedule turns = ⊥
HasTurns (Turns workers many) schedule turns = (workers.now ≡ schedule) × (many ≡ turns)

-- the terms say just this
pub record AreTerms (t : Terms) (workers lives : ℕ) (detail : Bool) : Type 0 where
  pub workers_are : t.workers ≡ workers
  pub lives_are : t.lives ≡ lives
  pub detail_is : t.detail ≡ detail

-- The terms of a command that is run by workers: what its words say. All but `replay` have a thread for each worker, and `drill` has no other greatest life than the default.
abbrev pub HasTerms : Asked → Terms → Type 0
HasTerms (run workers lives detail) t = AreTerms t workers lives detail × (t.pace ≡ Threads)
HasTerms (replay workers lives detail schedule turns) t = AreTerms t workers lives detail × HasTurns t.pace schedule turns
HasTerms (paths workers lives) t = AreTerms t workers lives false × (t.pace ≡ Threads)
HasTerms (drill number workers) t = AreTerms t workers 65535 false × (t.pace ≡ Threads)
HasTerms check t = ⊥
HasTerms print t = ⊥

-- a schedule of 1 to 4,096 turns that names workers alone
abbrev pub IsPaceWithin : ℕ → Pace → Type 0
IsPaceWithin workers Threads = Unit {0}
IsPaceWithin workers (Turns schedule turns) = (schedule.now ≢ []) × (length schedule.now ≤ 4096) × All (λ i. i < workers) schedule.now

-- 1 to 64 workers, a greatest life of 1 to 65,535, and a schedule for them, if any
pub record AreWithin (t : Terms) : Type 0 where
  pub workers : (1 ≤ t.workers) × (t.workers ≤ 64)
  pub lives : (1 ≤ t.lives) × (t.lives ≤ 65535)
  pub pace : IsPaceWithin t.workers t.pace

-- ---- how many turns there are

-- for any workers, by the lengths of schedule and plan, the tasks and their places; at least a million, and at most what a counter holds
abbrev pub ample_turns : ℕ → ℕ → ℕ → ℕ → ℕ
ample_turns schedule plan tasks places =
    min (max (200 * schedule * (2 * plan + 1) * (tasks + 1) * (places + tasks + 2) * (places + tasks + 2)) 1000000) (2 ^ 64 - 1)

-- how many turns a run may take: those that are given, or as many as the schedule, the plan and the graph decide
abbrev pub turn_count : Option ℕ → ℕ → ℕ → ℕ → ℕ → ℕ
turn_count (Some turns) schedule plan tasks places = turns
turn_count None schedule plan tasks places = ample_turns schedule plan tasks places

-- ---- where they may be over

-- fewer turns than these are given; by default there are fewer only where no counter holds so many
abbrev pub AreFewer : Option ℕ → ℕ → Type 0
AreFewer None most = 2 ^ 64 ≤ most
AreFewer (Some turns) most = turns < most

-- fewer turns than these are given
abbrev pub AreGivenFewer : Option ℕ → ℕ → Type 0
AreGivenFewer None most = ⊥
AreGivenFewer (Some turns) most = turns < most

-- The turns are fewer than any workers need: for a schedule and a plan of such lengths and as many lives as were replaced; where each of these has a strike of its own, for so many strikes; and where no
-- strike is planned, for none.
pub record AreScant (schedule : ℕ) (turns : Option ℕ) (g : Graph) (strikes : List Strike) (records : List Record) : Type 0 where
  pub few : turn_count turns schedule (length strikes) (length g.keys) (all_places g) < enough_turns_of g schedule (length strikes) (count is_any_replaced records)
  pub planned : StrikesNoBlock strikes → HasOneVersion g → AreFewer turns (enough_turns_of g schedule (length strikes) (length strikes))
  pub empty : strikes ≡ [] → AreFewer turns (enough_turns_of g schedule 0 0)

-- The turns of workers whose schedule names worker 0 may be over only where they are scant; those of one worker without a strike only where they are fewer than it needs.
pub record MayBeOver (workers : ℕ) (schedule : List ℕ) (turns : Option ℕ) (g : Graph) (strikes : List Strike) (records : List Record) : Type 0 where
  pub scant : IsListed schedule 0 → AreScant (length schedule) turns g strikes records
  pub calm : workers ≡ 1 → strikes ≡ [] → AreGivenFewer turns (enough_turns g)

-- there are no turns, so they are never over
abbrev pub IsNeverOver : Graph → List Strike → List Record → Type 0
IsNeverOver g strikes records = ⊥

-- the same by the pace
abbrev pub MayEnd : ℕ → Pace → Graph → List Strike → List Record → Type 0
MayEnd workers Threads g strikes records = IsNeverOver g strikes records
MayEnd workers (Turns schedule turns) g strikes records = MayBeOver workers schedule.now turns g strikes records
