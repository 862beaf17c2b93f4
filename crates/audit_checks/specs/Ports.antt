-- The order in which the successor edges of a task stand at its ports.
use Rattle.std.specs.Prelude.{◌≡◌, ℕ, ◌<◌, ◌⊎◌, List, Some, slice_get}
use Rattle.audit_checks.specs.Rows.{row, cell}

-- by the successor, and for the same successor by the place there
abbrev pub IsEarlier : ℕ × ℕ → ℕ × ℕ → Type 0
IsEarlier e f = (e.0 < f.0) ⊎ ((e.0 ≡ f.0) × (e.1 < f.1))

-- of two edges the one at the lower port is the earlier one
pub record AreAscending (es : List (ℕ × ℕ)) : Type 0 where
  pub rises : (q r : ℕ) (e f : ℕ × ℕ) → q < r → slice_get es q ≡ Some e → slice_get es r ≡ Some f → IsEarlier e f

-- the rows ascend, and each edge is earlier than the one of place j of task k
pub record StandBefore (succs : List (List (ℕ × ℕ))) (k j : ℕ) : Type 0 where
  pub ascending : (p : ℕ) → AreAscending (row succs p)
  pub earlier : (p q : ℕ) (e : ℕ × ℕ) → cell succs p q ≡ Some e → IsEarlier e (k, j)
