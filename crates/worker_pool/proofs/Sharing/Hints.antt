-- Hints that are put into a list and taken from it, one at a time.
use Rattle.std.proofs.Common.{Bool, List, None, Option, Some, [], ℕ, ◌++◌, ◌+◌, ◌∙◌, ◌∷◌, ◌≡◌, ◌≤◌, ap, arith, cond, eqb, false, length, length-append, refl, true}
use Rattle.std.specs.Option.{MatchOption, option_to_list}
use Rattle.core_state.specs.Counts.{hit}
use Rattle.core_state.proofs.Base.Counting.{bump_is}
use Rattle.recovery.specs.Recovering.{turn_hints}
use Rattle.recovery.specs.declared.recover.Phase.{Phase}
use Rattle.recovery.specs.declared.recover.Phase.TheVariants as replacing
use Rattle.compute_notify.specs.Eventing.{item_hints}
use Rattle.compute_notify.specs.declared.item.Item.{Item}
use Rattle.compute_notify.specs.declared.item.Item.TheVariants as item
use Rattle.run_bounds.specs.Hinting.{HintsPut, HintTaken, times}
use Rattle.run_bounds.proofs.Counting.{count_both}

one_more : (q row : ℕ) (xs : List ℕ) → times q (xs ++ row ∷ []) ≡ times q xs + hit (eqb q row)
one_more q row xs = let a = count_both (eqb q) xs (row ∷ []) in let b = bump_is (eqb q row) 0 in omega (arith, a, b)

pub one_longer : (row : ℕ) (xs : List ℕ) → length (xs ++ row ∷ []) ≡ length xs + 1
one_longer row xs = length-append xs (row ∷ [])

-- of the hints that there were and the rows that were given, some stand in the list by now and the others are left
pub record IsKeeping (before given now left : List ℕ) : Type 0 where
  pub all : length now + length left ≡ length before + length given
  pub each : (q : ℕ) → times q now + times q left ≡ times q before + times q given

pub keeping_none : (before given : List ℕ) → IsKeeping before given before given
keeping_none before given = record { all = refl; each = λ q. refl }

pub keeps_one : (before given hints posted now left : List ℕ) (row : ℕ) → posted ≡ left ++ row ∷ [] → now ≡ hints ++ row ∷ [] → IsKeeping before given hints posted → IsKeeping before given now left
keeps_one before given hints posted now left row split is keeping = record {
  all = let a = keeping.all in let b = ap length split ∙ one_longer row left in let c = ap length is ∙ one_longer row hints in omega (arith, a, b, c);
  each = λ q. let a = keeping.each q in let b = ap (times q) split ∙ one_more q row left in let c = ap (times q) is ∙ one_more q row hints in omega (arith, a, b, c);
}

pub keeping_all : (before given now left : List ℕ) → left ≡ [] → IsKeeping before given now left → HintsPut before given now
keeping_all before given now left none keeping = record {
  all = let a = keeping.all in let b = ap length none in omega (arith, a, b);
  each = λ q. let a = keeping.each q in let b = ap (times q) none in omega (arith, a, b);
}

-- the last of some hints
pub last_taken : (before now : List ℕ) (row : ℕ) → before ≡ now ++ row ∷ [] → HintTaken before row now
last_taken before now row split = record { one_less = ap length split ∙ one_longer row now; the_row = λ q. ap (times q) split ∙ one_more q row now }

-- the first of some hints
pub first_taken : (before now : List ℕ) (row : ℕ) → before ≡ row ∷ now → HintTaken before row now
first_taken before now row split = record { one_less = ap length split ∙ omega arith; the_row = λ q. let a = ap (times q) split in let b = bump_is (eqb q row) (times q now) in omega (arith, a, b) }

no_hints : (hints : List ℕ) → length hints ≡ 0 → hints ≡ []
no_hints [] none = refl
no_hints (x ∷ xs) none = absurd (omega (arith, none))

-- the one that a list gives, or none where the list is empty
module _ (before now : List ℕ) (n m : ℕ) (many : n ≡ length before) (left : m ≡ length now) where
  pub newest_taken : (result : Option ℕ) → before ≡ now ++ option_to_list result → MatchOption result ((n ≡ 0) × (m ≡ 0)) (λ row. m + 1 ≡ n) → MatchOption result ((before ≡ []) × (now ≡ [])) (λ row. HintTaken before row now)
  newest_taken None split cases = (no_hints before (let a = cases.0 in omega (arith, a, many)), no_hints now (let a = cases.1 in omega (arith, a, left)))
  newest_taken (Some row) split cases = last_taken before now row split

  pub oldest_taken : (result : Option ℕ) → before ≡ option_to_list result ++ now → MatchOption result ((n ≡ 0) × (m ≡ 0)) (λ row. m + 1 ≡ n) → MatchOption result ((before ≡ []) × (now ≡ [])) (λ row. HintTaken before row now)
  oldest_taken None split cases = (no_hints before (let a = cases.0 in omega (arith, a, many)), no_hints now (let a = cases.1 in omega (arith, a, left)))
  oldest_taken (Some row) split cases = first_taken before now row split

-- a turn brings one hint at most
owed_few : (b : Bool) (row : ℕ) → length (cond b ([] ++ row ∷ []) []) ≤ 1
owed_few true row = omega arith
owed_few false row = omega arith

phase_few : (p : Phase) → length (turn_hints p []) ≤ 1
phase_few (replacing.Owe owe behind) = owed_few owe.bought owe.row
phase_few _ = omega arith

pub few_hints : (x : Item) → length (item_hints x []) ≤ 1
few_hints (item.Owe o) = owed_few o.bought o.row
few_hints (item.Recover r) = phase_few r.phase
few_hints _ = omega arith
