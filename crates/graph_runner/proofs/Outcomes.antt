-- From what workers come to, to what the run of a graph comes to.
use Rattle.std.proofs.Common.{◌≡◌, ℕ, ◌^◌, ◌<◌, ◌≤◌, ℤ, List, [], length, Option, None, Some, Result, Ok, Err, inl, inr, ap, refl, sym, subst, arith}
use Rattle.std.specs.Result.{IfErr}
use Rattle.std.proofs.lemmas.Bool.{cases_lt}
use Rattle.graph_model.specs.Graph.{Graph}
use Rattle.graph_model.specs.Notes.{Note}
use Rattle.graph_model.specs.Serial.{Outcome}
use Rattle.graph_model.specs.declared.key.Key.{Key}
use Rattle.graph_model.specs.declared.record.Cause.{Cause}
use Rattle.graph_model.specs.declared.record.Record.{Record}
use Rattle.graph_model.specs.declared.plan.Strike.{Strike}
use Rattle.core_state.specs.Counts.{count}
use Rattle.core_state.specs.Tests.{is_any_replaced}
use Rattle.run_bounds.specs.Budgets.{all_places, enough_turns}
use Rattle.run_bounds.specs.Moving.{IsListed}
use Rattle.run_bounds.specs.Storm.{enough_turns_of}
use Rattle.run_bounds.proofs.Enough.{enough_planned}
use Rattle.worker_pool.specs.Calling.{all_calls, calls_for}
use Rattle.worker_pool.specs.Completing.{HasOneVersion, IsComplete, StrikesNoBlock}
use Rattle.worker_pool.specs.Ends.{EndCalls, EndTells, IsFinished, IsNotShort, NoneMissing}
use Rattle.worker_pool.specs.declared.end.Why.{Why}
use Rattle.worker_pool.specs.declared.end.Why.TheVariants as why
use Rattle.graph_runner.specs.Endings.{run_ending}
use Rattle.graph_runner.specs.Notes.{AreRecorded}
use Rattle.graph_runner.specs.Running.{Fails, IsCutShort, IsIdle, IsRun, LacksRoom}
use Rattle.graph_runner.specs.Running.LacksRoom.{before, within, behind}
use Rattle.graph_runner.specs.Terms.{AreFewer, AreGivenFewer, MayBeOver, turn_count}
use Rattle.graph_runner.specs.Workers.{IsCleared, IsDue, RunComes}
use Rattle.graph_runner.specs.declared.ending.Ending.{Ending}
use Rattle.graph_runner.specs.declared.ending.Ending.TheVariants.{Done, Usage, ReadFault, WriteFault, Text, Audit, Matrix, LivesSpent, ScheduleShort, OutOfMemory, TooLong}

-- turns that were not over are due
not_short : (Over : Graph → List Strike → List Record → Type 0) (g : Graph) (plan : List Strike) (records : List Record) (reason : Why) → IsNotShort reason → IsDue Over g plan records reason
not_short Over g plan records why.OutOfMemory is = tt
not_short Over g plan records (why.LivesSpent k l c) is = tt
not_short Over g plan records (why.ScheduleShort pending) is = absurd is

-- a run by threads is not cut short by turns
pub threads_due : {T E : Type 0} (why_of : E → Why) (records_of : E → List Record) (made : Result T E) (Over : Graph → List Strike → List Record → Type 0) (g : Graph) (plan : List Strike)
    → IfErr made (λ r. IsNotShort (why_of r)) → IfErr made (λ r. IsDue Over g plan (records_of r) (why_of r))
threads_due why_of records_of (Ok value) Over g plan is = tt
threads_due why_of records_of (Err r) Over g plan is = not_short Over g plan (records_of r) (why_of r) is

below : (n most : ℕ) → (most ≤ n → ⊥) → n < most
below n most short = elim (cases_lt n most) [
  | inl few ↦ few
  | inr ample ↦ absurd (short ample)
]

-- What is so of turns that were over.
module _ (turns : ℕ) (schedule : List ℕ) (g : Graph) (plan : List Strike) where
  -- where no turns are given, a counter holds fewer than were needed
  fewer : (given : Option ℕ) → turns ≡ turn_count given (length schedule) (length plan) (length g.keys) (all_places g) → (enough_turns_of g (length schedule) (length plan) (length plan) ≤ turns → ⊥) → AreFewer given (enough_turns_of g (length schedule) (length plan) (length plan))
  fewer None is short = elim (cases_lt (enough_turns_of g (length schedule) (length plan) (length plan)) (2 ^ 64)) [
    | inl counted ↦ absurd (short (subst (λ n. enough_turns_of g (length schedule) (length plan) (length plan) ≤ n) (sym is) (enough_planned g (length schedule) (length plan) counted)))
    | inr more ↦ more
  ]
  fewer (Some many) is short = subst (λ n. n < enough_turns_of g (length schedule) (length plan) (length plan)) is (below turns (enough_turns_of g (length schedule) (length plan) (length plan)) short)

  -- without a strike, the turns that are there by default are enough
  given_fewer : (given : Option ℕ) → turns ≡ turn_count given (length schedule) (length plan) (length g.keys) (all_places g) → (given ≡ None → enough_turns g ≤ turns) → (enough_turns g ≤ turns → ⊥) → AreGivenFewer given (enough_turns g)
  given_fewer None is enough short = short (enough refl)
  given_fewer (Some many) is enough short = subst (λ n. n < enough_turns g) is (below turns (enough_turns g) short)

  module _ (given : Option ℕ) (is : turns ≡ turn_count given (length schedule) (length plan) (length g.keys) (all_places g)) (enough : given ≡ None → enough_turns g ≤ turns) (workers : ℕ) where
    over_due : (records : List Record) (reason : Why) → (IsListed schedule 0 → enough_turns_of g (length schedule) (length plan) (count is_any_replaced records) ≤ turns → IsNotShort reason)
        → (IsListed schedule 0 → StrikesNoBlock plan → HasOneVersion g → enough_turns_of g (length schedule) (length plan) (length plan) ≤ turns → IsNotShort reason)
        → (IsListed schedule 0 → plan ≡ [] → enough_turns_of g (length schedule) 0 0 ≤ turns → IsNotShort reason) → (workers ≡ 1 → plan ≡ [] → enough_turns g ≤ turns → IsNotShort reason)
        → IsDue (MayBeOver workers schedule given) g plan records reason
    over_due records why.OutOfMemory paid planned empty calm = tt
    over_due records (why.LivesSpent k l c) paid planned empty calm = tt
    over_due records (why.ScheduleShort pending) paid planned empty calm = record {
      scant = λ first. record {
        few = subst (λ n. n < enough_turns_of g (length schedule) (length plan) (count is_any_replaced records)) is (below turns (enough_turns_of g (length schedule) (length plan) (count is_any_replaced records)) (paid first));
        planned = λ words single. fewer given is (planned first words single);
        empty = λ none. let no_strike = ap length none in subst (λ n. AreFewer given (enough_turns_of g (length schedule) n n)) no_strike
            (fewer given is (subst (λ n. enough_turns_of g (length schedule) n n ≤ turns → ⊥) (sym no_strike) (empty first none)));
      };
      calm = λ one none. given_fewer given is enough (calm one none);
    }

    -- a run by turns is cut short only where they may be over
    pub turns_due : {T E : Type 0} (why_of : E → Why) (records_of : E → List Record) (made : Result T E) → (IsListed schedule 0 → IfErr made (λ r. enough_turns_of g (length schedule) (length plan) (count is_any_replaced (records_of r)) ≤ turns → IsNotShort (why_of r)))
        → (IsListed schedule 0 → StrikesNoBlock plan → HasOneVersion g → enough_turns_of g (length schedule) (length plan) (length plan) ≤ turns → IfErr made (λ r. IsNotShort (why_of r)))
        → (IsListed schedule 0 → plan ≡ [] → enough_turns_of g (length schedule) 0 0 ≤ turns → IfErr made (λ r. IsNotShort (why_of r))) → (workers ≡ 1 → plan ≡ [] → enough_turns g ≤ turns → IfErr made (λ r. IsNotShort (why_of r)))
        → IfErr made (λ r. IsDue (MayBeOver workers schedule given) g plan (records_of r) (why_of r))
    turns_due why_of records_of (Ok value) paid planned empty calm = tt
    turns_due why_of records_of (Err r) paid planned empty calm = over_due (records_of r) (why_of r) paid planned empty calm

-- ---- the records that are kept: all, but none where room was refused
pub kept_tells : (g : Graph) (outcome : Outcome) (plan : List Strike) (lives : ℕ) (reason : Why) (records kept : List Record) → (NoneMissing reason → kept ≡ records)
    → EndTells g outcome plan lives reason records → EndTells g outcome plan lives reason kept
kept_tells g outcome plan lives why.OutOfMemory records kept same tells = tt
kept_tells g outcome plan lives (why.LivesSpent k l c) records kept same tells = subst (λ (rs : List Record). EndTells g outcome plan lives (why.LivesSpent k l c) rs) (sym (same tt)) tells
kept_tells g outcome plan lives (why.ScheduleShort pending) records kept same tells = subst (λ (rs : List Record). EndTells g outcome plan lives (why.ScheduleShort pending) rs) (sym (same tt)) tells

pub kept_calls : (g : Graph) (old now : List (Option (List Note))) (reason : Why) (records kept : List Record) → (NoneMissing reason → kept ≡ records) → EndCalls g old now reason records → EndCalls g old now reason kept
kept_calls g old now why.OutOfMemory records kept same calls = calls
kept_calls g old now (why.LivesSpent k l c) records kept same calls = subst (λ (rs : List Record). EndCalls g old now (why.LivesSpent k l c) rs) (sym (same tt)) calls
kept_calls g old now (why.ScheduleShort pending) records kept same calls = subst (λ (rs : List Record). EndCalls g old now (why.ScheduleShort pending) rs) (sym (same tt)) calls

-- where room was refused, a run says nothing of its plan
unanswered : (g : Graph) (plan : List Strike) (lives : ℕ) (records : List Record) → IsComplete g plan lives why.OutOfMemory records
unanswered g plan lives records = record { landed = λ s. absurd s; some_strike = λ s. absurd s; few_lives = λ s. absurd s; answers = λ s. absurd s }

pub kept_answers : (g : Graph) (plan : List Strike) (lives : ℕ) (reason : Why) (records kept : List Record) → (NoneMissing reason → kept ≡ records)
    → IsComplete g plan lives reason records → IsComplete g plan lives reason kept
kept_answers g plan lives why.OutOfMemory records kept same complete = unanswered g plan lives kept
kept_answers g plan lives (why.LivesSpent k l c) records kept same complete = subst (IsComplete g plan lives (why.LivesSpent k l c)) (sym (same tt)) complete
kept_answers g plan lives (why.ScheduleShort pending) records kept same complete = subst (IsComplete g plan lives (why.ScheduleShort pending)) (sym (same tt)) complete

pub kept_due : (Over : Graph → List Strike → List Record → Type 0) (g : Graph) (plan : List Strike) (reason : Why) (records kept : List Record) → (NoneMissing reason → kept ≡ records) → IsDue Over g plan records reason → IsDue Over g plan kept reason
kept_due Over g plan why.OutOfMemory records kept same due = tt
kept_due Over g plan (why.LivesSpent k l c) records kept same due = tt
kept_due Over g plan (why.ScheduleShort pending) records kept same due = subst (Over g plan) (sym (same tt)) due

pub cleared : (reason : Why) (kept : List Record) → (reason ≡ why.OutOfMemory → kept ≡ []) → IsCleared (Err reason) kept
cleared why.OutOfMemory kept none = none refl
cleared (why.LivesSpent k l c) kept none = tt
cleared (why.ScheduleShort pending) kept none = tt

-- a run to the value
pub run_to : (Holds : List Strike → Graph → Outcome → Type 0) (g : Graph) (outcome : Outcome) (plan : List Strike) (lives : ℕ) (value cells : List ℤ) (records : List Record) (news : List (List Note))
    → Holds plan g outcome → RunComes g outcome plan lives (Ok value) records news → value ≡ cells → IsRun Holds cells records news
run_to Holds g outcome plan lives value cells records news holds comes is = record {
  plan = plan;
  graph = g;
  outcome = outcome;
  holds = holds;
  finished = subst (λ (v : List ℤ). IsFinished g outcome plan v records) is comes.tells;
  answers = comes.answers;
  noted = comes.noted tt;
}

-- a run to the value for whose text room was refused
pub untold : (Holds : List Strike → Graph → Outcome → Type 0) (Refuses : Ending → Type 0) (g : Graph) (outcome : Outcome) (plan : List Strike) (lives : ℕ) (value : List ℤ) (records : List Record) (news : List (List Note))
    → Holds plan g outcome → RunComes g outcome plan lives (Ok value) records news → LacksRoom Holds Refuses records news
untold Holds Refuses g outcome plan lives value records news holds comes = behind value (run_to Holds g outcome plan lives value value records news holds comes refl)

-- a run that ended without the value
cut : (Holds : List Strike → Graph → Outcome → Type 0) (Over : Graph → List Strike → List Record → Type 0) (g : Graph) (outcome : Outcome) (plan : List Strike) (lives : ℕ) (reason : Why) (records : List Record) (news : List (List Note))
    → Holds plan g outcome → EndTells g outcome plan lives reason records → IsComplete g plan lives reason records → AreRecorded news records → IsDue Over g plan records reason → IsCutShort Holds Over lives reason records news
cut Holds Over g outcome plan lives reason records news holds tells complete noted due =
    record { plan = plan; graph = g; outcome = outcome; holds = holds; tells = tells; complete = complete; noted = noted; due = due }

pub short : (Holds : List Strike → Graph → Outcome → Type 0) (Refuses : Ending → Type 0) (Over : Graph → List Strike → List Record → Type 0) (g : Graph) (outcome : Outcome) (plan : List Strike) (lives : ℕ) (reason : Why) (records : List Record) (news : List (List Note))
    → Holds plan g outcome → RunComes g outcome plan lives (Err reason) records news → IsDue Over g plan records reason → Fails Holds Refuses Over lives records news (run_ending reason)
short Holds Refuses Over g outcome plan lives why.OutOfMemory records news holds comes due = within plan g outcome holds comes.cleared comes.needed
short Holds Refuses Over g outcome plan lives (why.LivesSpent k l c) records news holds comes due =
    cut Holds Over g outcome plan lives (why.LivesSpent k l c) records news holds comes.tells comes.answers (comes.noted tt) due
short Holds Refuses Over g outcome plan lives (why.ScheduleShort pending) records news holds comes due =
    cut Holds Over g outcome plan lives (why.ScheduleShort pending) records news holds comes.tells comes.answers (comes.noted tt) due

-- a run for which room was refused
pub unrun : (g : Graph) (outcome : Outcome) (plan : List Strike) (lives : ℕ) (records : List Record) (news : List (List Note)) → records ≡ [] → all_calls news ≡ [] → RunComes g outcome plan lives (Err why.OutOfMemory) records news
unrun g outcome plan lives records news none untold = record {
  tells = tt;
  answers = unanswered g plan lives records;
  noted = λ missing. absurd missing;
  cleared = none;
  needed = λ k l told. absurd (let a : calls_for k l (all_calls news) ≡ 0 = ap (calls_for k l) untold in omega (arith, a, told));
}

-- what is told of a source is none of the ends of a run
pub record IsRefusal (Refuses : Ending → Type 0) : Type 0 where
  pub no_done : Refuses Done → ⊥
  pub no_usage : Refuses Usage → ⊥
  pub no_write : Refuses WriteFault → ⊥
  pub no_spent : (k : Key) (l : ℕ) (c : Cause) → Refuses (LivesSpent k l c) → ⊥
  pub no_short : (pending : ℕ) → Refuses (ScheduleShort pending) → ⊥

-- there was nothing to be run
pub refused : (Holds : List Strike → Graph → Outcome → Type 0) (Refuses : Ending → Type 0) (Over : Graph → List Strike → List Record → Type 0) (lives : ℕ) (records : List Record) (news : List (List Note)) (e : Ending)
    → IsRefusal Refuses → Refuses e → IsIdle records news → Fails Holds Refuses Over lives records news e
refused Holds Refuses Over lives records news ReadFault is fails idle = (fails, idle)
refused Holds Refuses Over lives records news TooLong is fails idle = (fails, idle)
refused Holds Refuses Over lives records news (Text fault) is fails idle = (fails, idle)
refused Holds Refuses Over lives records news (Audit fault) is fails idle = (fails, idle)
refused Holds Refuses Over lives records news (Matrix fault) is fails idle = (fails, idle)
refused Holds Refuses Over lives records news OutOfMemory is fails idle = before fails idle
refused Holds Refuses Over lives records news Done is fails idle = absurd (is.no_done fails)
refused Holds Refuses Over lives records news Usage is fails idle = absurd (is.no_usage fails)
refused Holds Refuses Over lives records news WriteFault is fails idle = absurd (is.no_write fails)
refused Holds Refuses Over lives records news (LivesSpent k l c) is fails idle = absurd (is.no_spent k l c fails)
refused Holds Refuses Over lives records news (ScheduleShort pending) is fails idle = absurd (is.no_short pending fails)
