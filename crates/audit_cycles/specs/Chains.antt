-- Chains of predecessors, and numbers that rise along each edge. Tasks are named by their numbers.
use Rattle.std.specs.Prelude.{ℕ, suc, ◌<◌, ◌≤◌, List, length}
use Rattle.audit_checks.specs.Rows.{row, Names}

-- n predecessors, one below the other, stand below task k
pub data IsChain (places : List (List (ℕ × ℕ))) : ℕ → ℕ → Type 0 where
  start : (k : ℕ) → IsChain places k 0
  below : (k p n : ℕ) → Names (row places k) p → IsChain places p n → IsChain places k (suc n)

-- r is the length of the longest chain below task k
pub record HasRank (places : List (List (ℕ × ℕ))) (k r : ℕ) : Type 0 where
  pub chain : IsChain places k r
  pub longest : (n : ℕ) → IsChain places k n → n ≤ r

pub record IsNumbered (places : List (List (ℕ × ℕ))) : Type 0 where
  pub number : ℕ → ℕ
  pub rises : (k p : ℕ) → k < length places → Names (row places k) p → number p < number k
