-- Cycles, and tasks without a level.
use Rattle.std.proofs.Common.{◌≡◌, ◌∙◌, ◌≢◌, ℕ, zero, suc, ◌+◌, ◌<◌, ◌≤◌, inl, inr, max, List, [], ◌∷◌, length, get_or, ap, sym, subst, arith, All}
use Rattle.std.proofs.lemmas.Bool.{cases_eq, cases_lt}
use Rattle.audit_checks.specs.Rows.{row, Names, IsWithin}
use Rattle.audit_cycles.specs.Levels.{level, IsLevelling}
use Rattle.audit_cycles.specs.Ancestors.{Reaches, here, up, IsOnCycle, HasNoCycleBefore}
use Rattle.audit_cycles.specs.Components.{NeverRises}
use Rattle.audit_cycles.proofs.LevelLaws.{within_row}
use Rattle.audit_cycles.proofs.Searching.{place_of}

pub row_inside : (places : List (List (ℕ × ℕ))) (k p : ℕ) → Names (row places k) p → k < length places
row_inside [] k p names = absurd names
row_inside (r ∷ rs) zero p names = omega arith
row_inside (r ∷ rs) (suc k) p names = omega (arith, row_inside rs k p names)

-- ---- what the numbers show

no_higher : (numbers : List ℕ) (places : List (List (ℕ × ℕ))) → NeverRises numbers places → (from k : ℕ) → Reaches places from k → get_or numbers k 0 ≤ get_or numbers from 0
no_higher numbers places never from _ here = omega arith
no_higher numbers places never from _ (up k p reaches names) = omega (arith, never k p names, no_higher numbers places never from k reaches)

-- a task whose predecessors all have smaller numbers is on no cycle
pub cleared : (numbers : List ℕ) (places : List (List (ℕ × ℕ))) (k high : ℕ) → NeverRises numbers places
    → ((p : ℕ) → Names (row places k) p → get_or numbers p 0 ≤ high) → high < get_or numbers k 0 → ¬ IsOnCycle places k
cleared numbers places k high never all low on = omega (arith, all on.by on.names, no_higher numbers places never on.by k on.back)

pub high_more : (numbers : List ℕ) (named : List (ℕ × ℕ)) (j high high' x : ℕ) → ((i : ℕ) → i < j → get_or numbers (get_or named i (0, 0)).0 0 ≤ high)
    → x ≡ get_or numbers (get_or named j (0, 0)).0 0 → high' ≡ max high x → (i : ℕ) → i < j + 1 → get_or numbers (get_or named i (0, 0)).0 0 ≤ high'
high_more numbers named j high high' x all is now i low = elim (cases_lt i j) [
  | inl early ↦ let h = all i early in omega (arith, h, now)
  | inr late ↦ let e : j ≡ i = omega arith in subst (λ m. get_or numbers (get_or named m (0, 0)).0 0 ≤ high') e (omega (arith, is, now))
]

pub high_all : (numbers : List ℕ) (named : List (ℕ × ℕ)) (j high : ℕ) → ((i : ℕ) → i < j → get_or numbers (get_or named i (0, 0)).0 0 ≤ high) → length named ≤ j
    → (p : ℕ) → Names named p → get_or numbers p 0 ≤ high
high_all numbers named j high all long p names =
    let at = place_of named p names in
    subst (λ m. get_or numbers m 0 ≤ high) at.2 (all at.0 (omega (arith, at.1, long)))

-- ---- the first task on a cycle

pub none_more : (places : List (List (ℕ × ℕ))) (k : ℕ) → HasNoCycleBefore places k → ¬ IsOnCycle places k → HasNoCycleBefore places (k + 1)
none_more places k before not_here i low on = elim (cases_eq i k) [
  | inl same ↦ not_here (subst (IsOnCycle places) same on)
  | inr apart ↦ before i (omega arith) on
]

-- ---- a cycle stands where a task has no level

reach_on : (places : List (List (ℕ × ℕ))) (a b c : ℕ) → Reaches places a b → Reaches places b c → Reaches places a c
reach_on places a b _ first here = first
reach_on places a b _ first (up k p reaches names) = up k p (reach_on places a b k first reaches) names

-- y is an ancestor of x
record IsBelow (places : List (List (ℕ × ℕ))) (x y : ℕ) : Type 0 where
  pub by : ℕ
  pub names : Names (row places x) by
  pub reaches : Reaches places by y

below_on : (places : List (List (ℕ × ℕ))) (x y z : ℕ) → IsBelow places x y → IsBelow places y z → IsBelow places x z
below_on places x y z first second = record {
  by = first.by;
  names = first.names;
  reaches = reach_on places first.by second.by z (up y second.by first.reaches second.names) second.reaches;
}

-- an ancestor below n that has no level
record HasHeld (places : List (List (ℕ × ℕ))) (levels : List ℕ) (n x : ℕ) : Type 0 where
  pub at : ℕ
  pub low : at < n
  pub none_yet : level levels at ≡ 0
  pub below : IsBelow places x at

-- without task n, which has an ancestor without a level below n
around : (places : List (List (ℕ × ℕ))) (levels : List ℕ) (n x : ℕ) → HasHeld places levels n n → HasHeld places levels (suc n) x → HasHeld places levels n x
around places levels n x there held = elim (cases_lt held.at n) [
  | inl less ↦ record { at = held.at; low = less; none_yet = held.none_yet; below = held.below }
  | inr more ↦ let e : held.at ≡ n = omega (arith, held.low, more) in
      record { at = there.at; low = there.low; none_yet = there.none_yet; below = below_on places x n there.at (subst (IsBelow places x) e held.below) there.below }
]

without : (places : List (List (ℕ × ℕ))) (levels : List ℕ) (n x : ℕ) → level levels n ≢ 0 → HasHeld places levels (suc n) x → HasHeld places levels n x
without places levels n x some held = elim (cases_eq held.at n) [
  | inl same ↦ absurd (some (ap (level levels) (sym same) ∙ held.none_yet))
  | inr apart ↦ record { at = held.at; low = omega (arith, held.low); none_yet = held.none_yet; below = held.below }
]

cycle_below : (places : List (List (ℕ × ℕ))) (levels : List ℕ) (n : ℕ) → ((x : ℕ) → x < n → level levels x ≡ 0 → HasHeld places levels n x)
    → (x : ℕ) → x < n → level levels x ≡ 0 → (k : ℕ) × IsBelow places k k
cycle_below places levels zero next x low z = absurd (omega arith)
cycle_below places levels (suc n) next x low z = elim (cases_eq (level levels n) 0) [
  | inr some ↦
      let apart : x ≢ n = λ same. some (ap (level levels) (sym same) ∙ z) in
      cycle_below places levels n (λ y y_low y_z. without places levels n y some (next y (omega arith) y_z)) x (omega arith) z
  | inl none_there ↦
      let held = next n (omega arith) none_there in
      elim (cases_lt held.at n) [
        | inr more ↦ let e : held.at ≡ n = omega (arith, held.low, more) in (n, subst (IsBelow places n) e held.below)
        | inl less ↦
            let there : HasHeld places levels n n = record { at = held.at; low = less; none_yet = held.none_yet; below = held.below } in
            let next' : (y : ℕ) → y < n → level levels y ≡ 0 → HasHeld places levels n y = λ y y_low y_z. around places levels n y there (next y (omega arith) y_z) in
            elim (cases_lt x n) [
              | inl x_low ↦ cycle_below places levels n next' x x_low z
              | inr x_high ↦ cycle_below places levels n next' held.at less held.none_yet
            ]
      ]
]

-- where no task is on a cycle each has a level
pub all_levels : (places : List (List (ℕ × ℕ))) (levels : List ℕ) → IsLevelling places levels → All (IsWithin (length places)) places → HasNoCycleBefore places (length places)
    → (k : ℕ) → k < length places → 0 < level levels k
all_levels places levels is all none_on k inside = elim (cases_eq (level levels k) 0) [
  | inr some ↦ omega arith
  | inl z ↦
      let next : (x : ℕ) → x < length places → level levels x ≡ 0 → HasHeld places levels (length places) x = λ x low x_z.
      let held = is.held x low x_z in
      record {
        at = held.by;
        low = within_row places all x held.by low held.names;
        none_yet = held.none_yet;
        below = record { by = held.by; names = held.names; reaches = here };
      } in
      let found = cycle_below places levels (length places) next k inside z in
      absurd (none_on found.0 (row_inside places found.0 found.1.by found.1.names) (record { by = found.1.by; names = found.1.names; back = found.1.reaches }))
]
