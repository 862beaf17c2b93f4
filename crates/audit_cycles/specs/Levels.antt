-- The level of a task is one more than the greatest level of its predecessors, or 1; so it is its rank and one. 0 is none.
use Rattle.std.specs.Prelude.{◌≡◌, ℕ, ◌+◌, ◌*◌, ◌<◌, ◌≤◌, ◌⊎◌, ◌==◌, List, [], ◌∷◌, length, max, slice_index, count_by, Contains}
use Rattle.audit_checks.specs.Rows.{row, Names}

abbrev pub level : List ℕ → ℕ → ℕ
level levels k = slice_index levels k

abbrev pub most : List ℕ → List (ℕ × ℕ) → ℕ
most levels [] = 0
most levels (e ∷ es) = max (level levels e.0) (most levels es)

abbrev pub HasLevels : List ℕ → List (ℕ × ℕ) → Type 0
HasLevels levels [] = Unit {0}
HasLevels levels (e ∷ es) = (0 < level levels e.0) × HasLevels levels es

-- each predecessor has a level, and its own is one more than the greatest of these
pub record IsPlaced (levels : List ℕ) (places : List (ℕ × ℕ)) (n : ℕ) : Type 0 where
  pub all : HasLevels levels places
  pub next : n ≡ most levels places + 1

-- a predecessor has no level
pub record IsHeld (levels : List ℕ) (places : List (ℕ × ℕ)) : Type 0 where
  pub by : ℕ
  pub names : Names places by
  pub none_yet : level levels by ≡ 0

-- every task has its level, or a predecessor that has none
pub record IsLevelling (places : List (List (ℕ × ℕ))) (levels : List ℕ) : Type 0 where
  pub long : length levels ≡ length places
  pub placed : (k : ℕ) → k < length places → 0 < level levels k → IsPlaced levels (row places k) (level levels k)
  pub held : (k : ℕ) → k < length places → level levels k ≡ 0 → IsHeld levels (row places k)

-- how many tasks have no level
abbrev pub left : List ℕ → ℕ
left levels = count_by (λ n. n == 0) levels

-- ---- while levels are given

pub record IsSound (places : List (List (ℕ × ℕ))) (levels : List ℕ) (waiting : List (List ℕ)) (ready : List ℕ) : Type 0 where
  pub long : length levels ≡ length places
  pub placed : (k : ℕ) → k < length places → 0 < level levels k → IsPlaced levels (row places k) (level levels k)
  pub low : (k : ℕ) → k < length places → 0 < level levels k → level levels k + left levels ≤ length places
  pub lists : length waiting ≡ length places
  pub noted : (p k : ℕ) → Contains (row waiting p) k → k < length places
  pub told : (p : ℕ) → Contains ready p → p < length places

-- k waits for a predecessor that has no level, or that is still to tell
pub record IsWaiting (places : List (List (ℕ × ℕ))) (levels : List ℕ) (waiting : List (List ℕ)) (ready : List ℕ) (k : ℕ) : Type 0 where
  pub by : ℕ
  pub names : Names (row places k) by
  pub noted : Contains (row waiting by) k
  pub pending : (level levels by ≡ 0) ⊎ Contains ready by

pub record IsSettled (places : List (List (ℕ × ℕ))) (levels : List ℕ) (waiting : List (List ℕ)) (ready : List ℕ) (k : ℕ) : Type 0 where
  pub waits : level levels k ≡ 0 → IsWaiting places levels waiting ready k

-- what is left to do
abbrev pub unrest : List ℕ → List ℕ → ℕ
unrest levels ready = 2 * left levels + length ready
