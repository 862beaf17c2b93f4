-- What levels say of cycles, and of chains of predecessors.
use Rattle.std.proofs.Common.{◌≡◌, ℕ, zero, suc, ◌+◌, ◌-◌, ◌<◌, ◌≤◌, inl, inr, List, [], ◌∷◌, length, refl, ap, subst, arith, All}
use Rattle.std.proofs.lemmas.Bool.{cases_lt}
use Rattle.audit_checks.specs.Rows.{row, Names, IsWithin}
use Rattle.audit_cycles.specs.Levels.{level, most, HasLevels, IsLevelling}
use Rattle.audit_cycles.specs.Chains.{IsChain, start, below, HasRank, IsNumbered}
use Rattle.audit_cycles.proofs.Searching.{named_within}

most_bound : (levels : List ℕ) (es : List (ℕ × ℕ)) (p : ℕ) → Names es p → level levels p ≤ most levels es
most_bound levels [] p has = absurd has
most_bound levels (e ∷ es) p (inl here) = grind (arith, ap (level levels) here)
most_bound levels (e ∷ es) p (inr there) = grind (arith, most_bound levels es p there)

most_reached : (levels : List ℕ) (es : List (ℕ × ℕ)) → 0 < most levels es → (p : ℕ) × Names es p × (level levels p ≡ most levels es)
most_reached levels [] some = absurd (omega arith)
most_reached levels (e ∷ es) some = elim (cases_lt (level levels e.0) (most levels es)) [
  | inl less ↦ let r = most_reached levels es (omega arith) in (r.0, inr r.1, omega (arith, r.2, less))
  | inr more ↦ (e.0, inl refl, omega (arith, more))
]

has_level : (levels : List ℕ) (es : List (ℕ × ℕ)) (p : ℕ) → HasLevels levels es → Names es p → 0 < level levels p
has_level levels [] p all has = absurd has
has_level levels (e ∷ es) p all (inl here) = subst (λ n. 0 < level levels n) here all.0
has_level levels (e ∷ es) p all (inr there) = has_level levels es p all.1 there

pub within_row : (places : List (List (ℕ × ℕ))) → All (IsWithin (length places)) places → (k p : ℕ) → k < length places → Names (row places k) p → p < length places
within_row places all k p inside names = named_within (length places) (row places k) p (all k [] inside) names

chain_short : (places : List (List (ℕ × ℕ))) (levels : List ℕ) → IsLevelling places levels → All (IsWithin (length places)) places
    → (k n : ℕ) → IsChain places k n → k < length places → 0 < level levels k → n < level levels k
chain_short places levels is all k zero (start _) inside some = some
chain_short places levels is all k (suc n) (below _ p _ names chain) inside some =
    let placed = is.placed k inside some in
    let shorter = chain_short places levels is all p n chain (within_row places all k p inside names) (has_level levels (row places k) p placed.all names) in
    omega (arith, shorter, placed.next, most_bound levels (row places k) p names)

chain_of : (places : List (List (ℕ × ℕ))) (levels : List ℕ) → IsLevelling places levels → All (IsWithin (length places)) places
    → (m k : ℕ) → k < length places → level levels k ≡ suc m → IsChain places k m
chain_of places levels is all zero k inside here = start k
chain_of places levels is all (suc m) k inside here =
    let placed = is.placed k inside (omega arith) in
    let p = most_reached levels (row places k) (omega (arith, placed.next)) in
    below k p.0 m p.1 (chain_of places levels is all m p.0 (within_row places all k p.0 inside p.1) (omega (arith, p.2, placed.next)))

-- a task with a level has its rank below it
pub ranked : (places : List (List (ℕ × ℕ))) (levels : List ℕ) → IsLevelling places levels → All (IsWithin (length places)) places
    → (k : ℕ) → k < length places → 0 < level levels k → HasRank places k (level levels k - 1)
ranked places levels is all k inside some = record {
  chain = chain_of places levels is all (level levels k - 1) k inside (omega arith);
  longest = λ n chain. omega (arith, chain_short places levels is all k n chain inside some);
}

stuck_below : (places : List (List (ℕ × ℕ))) (levels : List ℕ) → IsLevelling places levels → All (IsWithin (length places)) places → (numbered : IsNumbered places)
    → (n k : ℕ) → numbered.number k < n → k < length places → level levels k ≡ 0 → ⊥
stuck_below places levels is all numbered zero k low inside z = omega arith
stuck_below places levels is all numbered (suc n) k low inside z =
    let held = is.held k inside z in
    stuck_below places levels is all numbered n held.by (omega (arith, numbered.rises k held.by inside held.names)) (within_row places all k held.by inside held.names) held.none_yet

-- where a task has no level, no numbers rise along each edge
pub stuck : (places : List (List (ℕ × ℕ))) (levels : List ℕ) → IsLevelling places levels → All (IsWithin (length places)) places
    → (k : ℕ) → k < length places → level levels k ≡ 0 → ¬ IsNumbered places
stuck places levels is all k inside z numbered = stuck_below places levels is all numbered (numbered.number k + 1) k (omega arith) inside z
