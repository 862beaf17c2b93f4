-- What leads to a task, and the cycles. Tasks are named by their numbers.
use Rattle.std.specs.Prelude.{◌≡◌, ℕ, ◌<◌, ◌-◌, List, Bool, true, false, length, slice_index_or}
use Rattle.audit_checks.specs.Rows.{row, Names}
use Rattle.audit_cycles.specs.Levels.{level}
use Rattle.audit_cycles.specs.Chains.{HasRank}
use Rattle.audit_cycles.specs.declared.cycles.Ordered.{Ordered}
use Rattle.audit_cycles.specs.declared.cycles.Ordered.TheVariants as ordered

-- k is the task `from`, or one of its ancestors: a predecessor of what is reached is reached
pub data Reaches (places : List (List (ℕ × ℕ))) (from : ℕ) : ℕ → Type 0 where
  here : Reaches places from from
  up : (k p : ℕ) → Reaches places from k → Names (row places k) p → Reaches places from p

-- a predecessor of task k has k among its ancestors, or is k
pub record IsOnCycle (places : List (List (ℕ × ℕ))) (k : ℕ) : Type 0 where
  pub by : ℕ
  pub names : Names (row places k) by
  pub back : Reaches places by k

-- no task before k is on a cycle
abbrev pub HasNoCycleBefore : List (List (ℕ × ℕ)) → ℕ → Type 0
HasNoCycleBefore places k = (i : ℕ) → i < k → ¬ IsOnCycle places i

-- k is the first task on a cycle
pub record IsFirstOnCycle (places : List (List (ℕ × ℕ))) (k : ℕ) : Type 0 where
  pub inside : k < length places
  pub on : IsOnCycle places k
  pub first : HasNoCycleBefore places k

-- the flag of task k is set
abbrev pub IsSeen : List Bool → ℕ → Type 0
IsSeen seen k = slice_index_or seen k false ≡ true

-- each task has its rank and one as its level
pub record AreLevels (places : List (List (ℕ × ℕ))) (levels : List ℕ) : Type 0 where
  pub long : length levels ≡ length places
  pub some : (k : ℕ) → k < length places → 0 < level levels k
  pub ranks : (k : ℕ) → k < length places → HasRank places k (level levels k - 1)

-- the levels of all tasks, or the first task on a cycle
abbrev pub IsOrdering : List (List (ℕ × ℕ)) → Ordered → Type 0
IsOrdering places (ordered.Levels levels) = AreLevels places levels.items
IsOrdering places (ordered.Cycle k) = IsFirstOnCycle places k
