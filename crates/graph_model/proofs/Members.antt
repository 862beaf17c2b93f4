-- What stands in a list by some proof stands at a place of it that can be found.
use Rattle.std.proofs.Common.{◌≡◌, ◌≢◌, ℕ, zero, suc, ◌<◌, List, [], ◌∷◌, length, slice_index_or, Contains, ◌⊎◌, inl, inr, ⊎_elim, arith}
use Rattle.std.proofs.Math.Logic.{∥∥₁_elim}
use mathlib.Core.Logic.{dite}
use native.Mathlib.Decide.{ℕ_discrete}
use Rattle.graph_model.specs.Graph.{Graph, IsTask, IsPred, IsLawful}

absurd_alike : (x y : ⊥) → x ≡ y
absurd_alike x y = absurd x

-- whether it stands there
found : (xs : List ℕ) (k : ℕ) → ((i : ℕ) × (i < length xs) × (slice_index_or xs i k ≡ k)) ⊎ (¬ Contains xs k)
found [] k = inr (λ has. omega (arith, has.1))
found (x ∷ xs) k = dite (ℕ_discrete x k) (λ e. inl (0, omega arith, e)) (λ ne. ⊎_elim (λ z. inl (suc z.0, omega (arith, z.1), z.2)) (λ lacks. inr (λ has. later x xs k ne lacks has.0 has.1 has.2)) (found xs k))
  where
    later : (x : ℕ) (xs : List ℕ) (k : ℕ) → x ≢ k → ¬ Contains xs k → (i : ℕ) → i < length (x ∷ xs) → slice_index_or (x ∷ xs) i k ≡ k → ⊥
    later x xs k ne lacks zero low at = ne at
    later x xs k ne lacks (suc i) low at = lacks (i, omega (arith, low), at)

pub is_member : (xs : List ℕ) (k : ℕ) → ∥ Contains xs k ∥₁ → Contains xs k
is_member xs k some = ⊎_elim (λ z. z) (λ lacks. absurd (∥∥₁_elim some absurd_alike lacks)) (found xs k)

-- a predecessor is a task
pub pred_there : (g : Graph) → IsLawful g → (k j p q : ℕ) → IsTask g k → IsPred g k j p q → IsTask g p
pred_there g lawful k j p q task pred = is_member g.keys p (lawful.pred_task k j p q task pred)
