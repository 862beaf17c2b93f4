-- The kernels of a run: what they make, and how often they were called.
use Rattle.std.specs.Prelude.{◌≡◌, ◌≢◌, ◌↔◌, ℕ, ◌<◌, ℤ, List, [], ◌∷◌, ◌++◌, Option, None, All, length, map, slice_index_or}
use Rattle.std.specs.Option.{option_map}
use Rattle.graph_model.specs.Graph.{Graph as TaskGraph, IsTask}
use Rattle.graph_model.specs.Notes.{Note}
use Rattle.graph_model.specs.Reaching.{IsReachable}
use Rattle.graph_model.specs.Serial.{Outcome, serial, inputs_of}
use Rattle.graph_model.specs.declared.record.Record.{Record}
use Rattle.core_state.specs.Counts.{count, noted}
use Rattle.core_state.specs.Tests.{is_computed, two}
use Rattle.core_state.specs.Rooted.{root_key}
use Rattle.core_state.specs.declared.views.View.{View}

-- what the first kernel makes of a task's inputs
abbrev pub first_outcome : {K : Type 0} → (K → Outcome) → List K → Outcome
first_outcome outcome [] = λ k lists. []
first_outcome outcome (a ∷ others) = outcome a

-- which inputs of a task the first kernel takes
abbrev pub FirstFits : {K : Type 0} → (K → ℕ → List (List ℤ) → Type 0) → List K → ℕ → List (List ℤ) → Type 0
FirstFits fits [] k lists = Unit {0}
FirstFits fits (a ∷ others) k lists = fits a k lists

-- each kernel makes the same as the first one, and takes the same
pub record AreAlike {K : Type 0} (outcome : K → Outcome) (fits : K → ℕ → List (List ℤ) → Type 0) (ks : List K) : Type 0 where
  pub same_outcome : All (λ a. outcome a ≡ first_outcome outcome ks) ks
  pub same_fits : All (λ a. (k : ℕ) (lists : List (List ℤ)) → fits a k lists ↔ FirstFits fits ks k lists) ks

-- each task can be computed from the serial values of its data predecessors, and its value has as many cells as its block
pub record CanRun (g : TaskGraph) (outcome : Outcome) (fits : ℕ → List (List ℤ) → Type 0) : Type 0 where
  pub inputs : (k : ℕ) → IsTask g k → fits k (map (serial g outcome) (inputs_of g k))
  pub cells : (k : ℕ) → IsTask g k → length (serial g outcome k) ≡ g.cells (g.block k)

-- the kernels in their order, each of which makes and takes what it did
pub record SameKernels {K : Type 0} (outcome : K → Outcome) (fits : K → ℕ → List (List ℤ) → Type 0) (before now : List K) : Type 0 where
  pub same_count : length now ≡ length before
  pub same_outcome : All (λ a. outcome a ≡ first_outcome outcome before) now
  pub same_fits : All (λ a. (k : ℕ) (lists : List (List ℤ)) → fits a k lists ↔ FirstFits fits before k lists) now

-- how many of these calls were for this life of the key
abbrev pub calls_for : ℕ → ℕ → List Note → ℕ
calls_for k l notes = count (λ n. two k l n.0 n.1) notes

-- the calls are those before and these, where they are told
abbrev pub AddsCalls : Option (List Note) → Option (List Note) → List Note → Type 0
AddsCalls before now news = now ≡ option_map (λ notes. notes ++ news) before

-- a worker's kernel was called as often for each life of a task as the worker's view has noted its result, and never for the root
pub record HasCalled (before now : Option (List Note)) (v : View) : Type 0 where
  pub news : List Note
  pub calls_are : AddsCalls before now news
  pub as_often : (k l : ℕ) → k ≢ root_key → calls_for k l news ≡ noted (is_computed k l) v
  pub of_tasks : (l : ℕ) → calls_for root_key l news ≡ 0

-- the new calls of all kernels together
abbrev pub all_calls : List (List Note) → List Note
all_calls [] = []
all_calls (news ∷ rest) = news ++ all_calls rest

-- the calls of each kernel, in their order, are those before and new ones
pub record AddCalls (before now : List (Option (List Note))) (news : List (List Note)) : Type 0 where
  pub same_count : length now ≡ length before
  pub news_count : length news ≡ length before
  pub each : (i : ℕ) → i < length before → AddsCalls (slice_index_or before i None) (slice_index_or now i None) (slice_index_or news i [])

-- the kernels' new calls are, as often each, the results that are recorded
pub record CalledAsRecorded (before now : List (Option (List Note))) (records : List Record) : Type 0 where
  pub news : List (List Note)
  pub calls : AddCalls before now news
  pub as_often : (k l : ℕ) → calls_for k l (all_calls news) ≡ count (is_computed k l) records

-- each of these calls is for a task that the sink needs
abbrev pub AreNeeded : TaskGraph → List (List Note) → Type 0
AreNeeded g news = (k l : ℕ) → 0 < calls_for k l (all_calls news) → IsTask g k × IsReachable g k

-- the kernels were called for tasks that the sink needs alone, and no call is lost
pub record OnlyCalled (g : TaskGraph) (before now : List (Option (List Note))) : Type 0 where
  pub news : List (List Note)
  pub calls : AddCalls before now news
  pub needed : AreNeeded g news
