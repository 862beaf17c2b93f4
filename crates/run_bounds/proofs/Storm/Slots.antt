-- What comes at most once of each kind in a life costs no more than the first lives of all tasks, and one more for each life that was replaced.
use Rattle.std.proofs.Common.{◌≡◌, ℕ, zero, suc, ◌+◌, ◌*◌, ◌<◌, ◌≤◌, Bool, true, false, cond, eqb, List, [], ◌∷◌, ◌++◌, ⊎_elim, arith, refl, ap, sym, ◌∙◌, subst}
use mathlib.Core.Logic.{dite}
use native.Mathlib.Decide.{ℕ_discrete}
use Rattle.std.specs.List.{sum_by}
use Rattle.std.proofs.lemmas.Bool.Decides.{eqb_tells}
use Rattle.std.proofs.lemmas.List.Sums.{sum_by-append, sum_by-cons}
use Rattle.graph_model.specs.declared.record.Record.{Record}
use Rattle.graph_model.specs.declared.record.Record.TheVariants as record_of
use Rattle.core_state.specs.Counts.{count, hit}
use Rattle.core_state.specs.Tests.{is_any_replaced, is_replaced, three}
use Rattle.core_state.proofs.Base.Counting.{bump_is, eqb_here, two_tells}
use Rattle.run_bounds.specs.Storm.{IsComeTo, Lived, is_lived}
use Rattle.run_bounds.proofs.Counting.{counted_in, each_counted}
use Rattle.run_bounds.proofs.Pigeons.{met, pigeons}

pub three_true : (a b c : ℕ) → three a b c a b c ≡ true
three_true a b c = rw (eqb_here a, eqb_here b, eqb_here c)

-- what may come, and what it costs at most
abbrev Slot : Type 0
Slot = Lived × ℕ

abbrev weight : Slot → ℕ
weight y = y.1

abbrev fills : Lived → Slot → Bool
fills x y = is_lived y.0.kind y.0.key y.0.life x

-- each kind of a life
abbrev kinds_of : ℕ → ℕ → ℕ → ℕ → List Slot
kinds_of zero k l cost = []
kinds_of (suc n) k l cost = (record { kind = n; key = k; life = l }, cost) ∷ kinds_of n k l cost

-- of the first lives of keys
abbrev first_slots : ℕ → (ℕ → ℕ) → List ℕ → List Slot
first_slots n cost [] = []
first_slots n cost (k ∷ ks) = kinds_of n k 1 (cost k) ++ first_slots n cost ks

-- of the lives after those that were replaced
abbrev slots_after : ℕ → ℕ → Record → List Slot
slots_after n most (record_of.Replaced key life cause) = kinds_of n key.0 (life + 1) most
slots_after n most _ = []

abbrev later_slots : ℕ → ℕ → List Record → List Slot
later_slots n most [] = []
later_slots n most (x ∷ xs) = slots_after n most x ++ later_slots n most xs

kinds_sum : (n k l cost : ℕ) → sum_by weight (kinds_of n k l cost) ≡ n * cost
kinds_sum zero k l cost = omega arith
kinds_sum (suc n) k l cost = let h = kinds_sum n k l cost in let a = sum_by-cons weight (record { kind = n; key = k; life = l }, cost) (kinds_of n k l cost) in let b : suc n * cost ≡ cost + n * cost = grind arith in omega (arith, h, a, b)

first_sum : (n : ℕ) (cost : ℕ → ℕ) (ks : List ℕ) → sum_by weight (first_slots n cost ks) ≡ n * sum_by cost ks
first_sum n cost [] = omega arith
first_sum n cost (k ∷ ks) = let h = first_sum n cost ks in let a = sum_by-append weight (kinds_of n k 1 (cost k)) (first_slots n cost ks) in let b = kinds_sum n k 1 (cost k) in
    let c : n * sum_by cost (k ∷ ks) ≡ n * (cost k + sum_by cost ks) = ap (λ z. n * z) (sum_by-cons cost k ks) in let d : n * (cost k + sum_by cost ks) ≡ n * cost k + n * sum_by cost ks = grind arith in omega (arith, h, a, b, c, d)

after_sum : (n most : ℕ) (x : Record) → sum_by weight (slots_after n most x) ≡ n * most * hit (is_any_replaced x)
after_sum n most (record_of.Replaced key life cause) = let a = kinds_sum n key.0 (life + 1) most in omega (arith, a)
after_sum n most (record_of.Created key) = omega arith
after_sum n most (record_of.Spent key life place) = omega arith
after_sum n most (record_of.Computed key life) = omega arith
after_sum n most (record_of.Written key life block version) = omega arith
after_sum n most (record_of.Closed key life word) = omega arith
after_sum n most (record_of.Struck key life h) = omega arith

later_sum : (n most : ℕ) (xs : List Record) → sum_by weight (later_slots n most xs) ≡ n * most * count is_any_replaced xs
later_sum n most [] = omega arith
later_sum n most (x ∷ xs) = let h = later_sum n most xs in let a = sum_by-append weight (slots_after n most x) (later_slots n most xs) in let b = after_sum n most x in
    let c : n * most * count is_any_replaced (x ∷ xs) ≡ n * most * (hit (is_any_replaced x) + count is_any_replaced xs) = ap (λ z. n * most * z) (bump_is (is_any_replaced x) (count is_any_replaced xs)) in
    let d : n * most * (hit (is_any_replaced x) + count is_any_replaced xs) ≡ n * most * hit (is_any_replaced x) + n * most * count is_any_replaced xs = grind arith in omega (arith, h, a, b, c, d)

module _ (n : ℕ) (x : Lived) (low : x.kind < n) where
  -- it is among the kinds of its life
  in_kinds : (m cost : ℕ) → x.kind < m → cost ≤ met fills weight x (kinds_of m x.key x.life cost)
  in_kinds zero cost less = absurd (omega (arith, less))
  in_kinds (suc m) cost less = let a = sum_by-cons (λ y. cond (fills x y) (weight y) 0) (record { kind = m; key = x.key; life = x.life }, cost) (kinds_of m x.key x.life cost) in
      dite (ℕ_discrete x.kind m)
      (λ here. let t : three m x.key x.life x.kind x.key x.life ≡ true = subst (λ i. three i x.key x.life x.kind x.key x.life ≡ true) here (three_true x.kind x.key x.life) in let c : cond (three m x.key x.life x.kind x.key x.life) cost 0 ≡ cost = ap (λ b. cond b cost 0) t in omega (arith, a, c))
      (λ other. let h = in_kinds m cost (omega (arith, less, other)) in omega (arith, a, h))

  in_first : (cost : ℕ → ℕ) (ks : List ℕ) → x.life ≡ 1 → 0 < count (eqb x.key) ks → cost x.key ≤ met fills weight x (first_slots n cost ks)
  in_first cost [] one some = absurd (omega (arith, some))
  in_first cost (k ∷ ks) one some = let both = sum_by-append (λ y. cond (fills x y) (weight y) 0) (kinds_of n k 1 (cost k)) (first_slots n cost ks) in let many = bump_is (eqb x.key k) (count (eqb x.key) ks) in
      ⊎_elim (λ is. let a : cost x.key ≤ met fills weight x (kinds_of n k 1 (cost k)) = subst (λ m. cost x.key ≤ met fills weight x (kinds_of n m 1 (cost m))) is.1 (subst (λ l. cost x.key ≤ met fills weight x (kinds_of n x.key l (cost x.key))) one (in_kinds n (cost x.key) low)) in omega (arith, a, both))
      (λ other. let z = ap hit other.0 in let h = in_first cost ks one (omega (arith, some, many, z)) in omega (arith, h, both))
      (eqb_tells x.key k)

  module _ (m most : ℕ) (next : x.life ≡ m + 1) where
    in_after : (r : Record) → is_replaced x.key m r ≡ true → most ≤ met fills weight x (slots_after n most r)
    in_after (record_of.Replaced key life cause) is = ⊎_elim (λ z. absurd (let q : true ≡ false = sym is ∙ z in cc))
        (λ z. subst (λ k. most ≤ met fills weight x (kinds_of n k (life + 1) most)) z.1 (subst (λ l. most ≤ met fills weight x (kinds_of n x.key l most)) (next ∙ ap (λ l. l + 1) z.2) (in_kinds n most low))) (two_tells x.key m key.0 life)
    in_after (record_of.Created key) is = absurd cc
    in_after (record_of.Spent key life place) is = absurd cc
    in_after (record_of.Computed key life) is = absurd cc
    in_after (record_of.Written key life block version) is = absurd cc
    in_after (record_of.Closed key life word) is = absurd cc
    in_after (record_of.Struck key life h) is = absurd cc

    in_later : (rs : List Record) → 0 < count (is_replaced x.key m) rs → most ≤ met fills weight x (later_slots n most rs)
    in_later [] some = absurd (omega (arith, some))
    in_later (r ∷ rs) some = let both = sum_by-append (λ y. cond (fills x y) (weight y) 0) (slots_after n most r) (later_slots n most rs) in by (λ z. in_later rs z) (is_replaced x.key m r) refl both
      where
        by : (0 < count (is_replaced x.key m) rs → most ≤ met fills weight x (later_slots n most rs)) → (b : Bool) → is_replaced x.key m r ≡ b → met fills weight x (slots_after n most r ++ later_slots n most rs) ≡ met fills weight x (slots_after n most r) + met fills weight x (later_slots n most rs) → most ≤ met fills weight x (slots_after n most r ++ later_slots n most rs)
        by rest true is both = let a = in_after r is in omega (arith, a, both)
        by rest false is both = let q = ap hit is in let many = bump_is (is_replaced x.key m r) (count (is_replaced x.key m) rs) in let h = rest (omega (arith, some, many, q)) in omega (arith, h, both)

-- What comes of n kinds, each at most once in a life that a task has come to, where each kind of a key costs no more than `most`.
module _ (n most : ℕ) (cost : ℕ → ℕ) (ks : List ℕ) (rs : List Record) (few : (k : ℕ) → 0 < count (eqb k) ks → cost k ≤ most) where
  in_slots : (x : Lived) → x.kind < n → IsComeTo ks rs x.key x.life → cost x.key ≤ met fills weight x (first_slots n cost ks ++ later_slots n most rs)
  in_slots x low come = let both = sum_by-append (λ y. cond (fills x y) (weight y) 0) (first_slots n cost ks) (later_slots n most rs) in let here = counted_in x.key ks come.0 in
      ⊎_elim (λ one. let a = in_first n x low cost ks one here in omega (arith, a, both))
      (λ later. let a = in_later n x low later.0 most later.1 rs later.2 in let b = few x.key here in omega (arith, a, b, both))
      come.1

  pub lived_cost : (xs : List Lived) → ((a k l : ℕ) → count (is_lived a k l) xs ≤ 1) → ((a k l : ℕ) → 0 < count (is_lived a k l) xs → (a < n) × IsComeTo ks rs k l) → sum_by (λ x. cost x.key) xs ≤ n * sum_by cost ks + n * most * count is_any_replaced rs
  lived_cost xs once come =
      let slots : List Slot = first_slots n cost ks ++ later_slots n most rs in
      let a = pigeons fills weight (λ x. cost x.key) xs slots
      (each_counted (λ x. cost x.key ≤ met fills weight x slots) (λ x y. is_lived x.kind x.key x.life y) (λ x. three_true x.kind x.key x.life) xs (λ x some. let has = come x.kind x.key x.life some in in_slots x has.0 has.1))
      (λ y. once y.0.kind y.0.key y.0.life) in
      let b = sum_by-append weight (first_slots n cost ks) (later_slots n most rs) in let c = first_sum n cost ks in let d = later_sum n most rs in omega (arith, a, b, c, d)
