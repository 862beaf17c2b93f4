-- A sum that only 65 neighbours add to.
use Rattle.std.proofs.Common.{◌≡◌, ℕ, zero, suc, ◌+◌, ◌*◌, ◌<◌, ◌≤◌, List, [], ◌∷◌, length, get_or, arith, sum_by}
use Rattle.std.proofs.lemmas.List.Sums.{sum_by-cons}

-- each adds at most 3, and those before `lo` and from `lo + n` on add nothing
pub windowed : {X : Type 0} (f : X → ℕ) (xs : List X) (lo n : ℕ) → ((k : ℕ) (d : X) → k < length xs → f (get_or xs k d) ≤ 3)
    → ((k : ℕ) (d : X) → k < length xs → k < lo → f (get_or xs k d) ≡ 0) → ((k : ℕ) (d : X) → k < length xs → lo + n ≤ k → f (get_or xs k d) ≡ 0) → sum_by f xs ≤ n * 3
windowed f [] lo n few early late = omega arith
windowed f (x ∷ xs) (suc lo) n few early late =
    omega (arith, sum_by-cons f x xs, early 0 x (omega arith) (omega arith), windowed f xs lo n (λ k d h. few (suc k) d (omega arith)) (λ k d h l. early (suc k) d (omega arith) (omega arith)) (λ k d h l. late (suc k) d (omega arith) (omega arith)))
windowed f (x ∷ xs) zero (suc n) few early late =
    omega (arith, sum_by-cons f x xs, few 0 x (omega arith), windowed f xs zero n (λ k d h. few (suc k) d (omega arith)) (λ k d h l. absurd (omega arith)) (λ k d h l. late (suc k) d (omega arith) (omega arith)))
windowed f (x ∷ xs) zero zero few early late =
    omega (arith, sum_by-cons f x xs, late 0 x (omega arith) (omega arith), windowed f xs zero zero (λ k d h. few (suc k) d (omega arith)) (λ k d h l. absurd (omega arith)) (λ k d h l. late (suc k) d (omega arith) (omega arith)))
