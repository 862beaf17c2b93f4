-- Hints are enough after each kind of step.
use Rattle.std.proofs.Common.{◌≡◌, ℕ, ◌+◌, ◌<◌, ◌≤◌, min, arith, zero, suc, refl}
use mathlib.Core.Logic.{dite}
use native.Mathlib.Decide.{ℕ_discrete}
use Rattle.core_state.specs.Words.{posted, Spot}
use Rattle.core_state.specs.declared.job.Job.TheVariants.{Explore, Compute}
use Rattle.run_bounds.specs.Hinting.{HasHints}
use Rattle.core_state.specs.Work.{posted_count}
use Rattle.core_state.specs.declared.job.Job.TheVariants as job

-- no job needs no hint
pub hints_none : (a b x c : ℕ) → x ≡ 0 → c ≡ 0 → HasHints a b x c
hints_none a b x c no_x no_c = record { for_exploring = λ some. omega (arith, some, no_x); enough = omega (arith, no_x, no_c) }

-- one at most
one_less : (m n : ℕ) → (0 < m → 0 < n) → min 1 m ≤ min 1 n
one_less m n old = dite (ℕ_discrete m 0) (λ z. omega (arith, z)) (λ ne. let a = old (omega (arith, ne)) in omega (arith, a))

-- a job is posted with its hint
pub explore_posted : {a b x c : ℕ} (x' c' : ℕ) → (0 < c' → 0 < c) → HasHints a b x c → HasHints (a + 1) b x' c'
explore_posted {c = c} x' c' old_c has = let g = has.enough in let z = one_less c' c old_c in record { for_exploring = λ some. omega arith; enough = omega (arith, g, z) }

pub compute_posted : {a b x c : ℕ} (x' c' : ℕ) → (0 < x' → 0 < x) → HasHints a b x c → HasHints (a + 1) b x' c'
compute_posted {x = x} x' c' old_x has = let g = has.enough in let y = one_less x' x old_x in record { for_exploring = λ some. omega arith; enough = omega (arith, g, y) }

-- a hint asks for exploring: it is used up where one was posted, and else asks for computing next
pub explore_found : {a b x c : ℕ} (x' c' : ℕ) → 0 < x → x' ≡ 0 → (0 < c' → 0 < c) → HasHints (a + 1) b x c → HasHints a b x' c'
explore_found {c = c} x' c' some none old_c has = let g = has.enough in let y = one_less c' c old_c in record { for_exploring = λ z. omega (arith, z, none); enough = omega (arith, g, some, none, y) }

pub explore_missed : {a b x c : ℕ} (x' c' : ℕ) → x' ≡ 0 → (0 < c' → 0 < c) → HasHints (a + 1) b x c → HasHints a (b + 1) x' c'
explore_missed {c = c} x' c' none old_c has = let g = has.enough in let y = one_less c' c old_c in record { for_exploring = λ z. omega (arith, z, none); enough = omega (arith, g, none, y) }

-- a hint that asked for computing is used up
pub compute_asked : {a b x c : ℕ} (x' c' : ℕ) → c' ≡ 0 → (0 < x' → 0 < x) → HasHints a (b + 1) x c → HasHints a b x' c'
compute_asked {a = a} {x = x} x' c' none old_x has = let f = has.for_exploring in record { for_exploring = λ some. f (old_x some); enough = dite (ℕ_discrete x' 0) (λ z. omega (arith, none, z)) (λ ne. let y = f (old_x (omega (arith, ne))) in omega (arith, none, y)) }

-- by other numbers
pub hints_as : {a b x c : ℕ} (a' b' : ℕ) → a' ≡ a → b' ≡ b → HasHints a b x c → HasHints a' b' x c
hints_as a' b' same_a same_b has = let f = has.for_exploring in let g = has.enough in record { for_exploring = λ some. let q = f some in omega (arith, q, same_a); enough = omega (arith, g, same_a, same_b) }

-- no hint, no job
pub unhinted : (x c : ℕ) → HasHints 0 0 x c → (x ≡ 0) × (c ≡ 0)
unhinted x c has = let none = has.for_exploring in let few = has.enough in
    let first : x ≡ 0 = dite (ℕ_discrete x 0) (λ z. z) (λ ne. absurd (let a = none (omega (arith, ne)) in omega (arith, a))) in (first, omega (arith, few))

pub none_posted : (word : Spot → ℕ) (n : ℕ) → ((r : ℕ) → r < n → (word (posted job.Explore r) ≡ 0) × (word (posted job.Compute r) ≡ 0)) → posted_count word n ≡ 0
none_posted word zero all = refl
none_posted word (suc n) all = let h = none_posted word n (λ r low. all r (omega (arith, low))) in let a = (all n (omega arith)).0 in let b = (all n (omega arith)).1 in omega (arith, h, a, b)
