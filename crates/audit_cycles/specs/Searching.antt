-- What a search has seen, and what it has still to look at.
use Rattle.std.specs.Prelude.{◌≡◌, ℕ, ◌+◌, ◌≤◌, ◌⊎◌, List, Bool, not, length, count_by, Contains}
use Rattle.audit_cycles.specs.Ancestors.{IsSeen}

-- how many flags are not set
abbrev pub unseen : List Bool → ℕ
unseen seen = count_by not seen

-- a part of a search that sees nothing but tasks with P, and lists what it sees
pub record Sees (P : ℕ → Type 0) (seen : List Bool) (left : List ℕ) (seen' : List Bool) (left' : List ℕ) : Type 0 where
  pub long : length seen' ≡ length seen
  pub kept : (k : ℕ) → IsSeen seen k → IsSeen seen' k
  pub only : (k : ℕ) → IsSeen seen' k → IsSeen seen k ⊎ P k
  pub still : (k : ℕ) → Contains left k → Contains left' k
  pub noted : (k : ℕ) → IsSeen seen' k → IsSeen seen k ⊎ Contains left' k
  pub listed : (k : ℕ) → Contains left' k → Contains left k ⊎ IsSeen seen' k
  pub falls : unseen seen' + length left' ≤ unseen seen + length left
