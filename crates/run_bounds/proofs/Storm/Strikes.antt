-- The strikes for lives, of each of which something of each kind comes at most once, are no more than the plan has for each kind.
use Rattle.std.proofs.Common.{◌≡◌, ℕ, zero, suc, ◌+◌, ◌*◌, ◌<◌, ◌≤◌, Bool, true, false, cond, List, [], ◌∷◌, ◌++◌, filter, length, ⊎_elim, arith, refl, ap, sym, ◌∙◌, subst}
use mathlib.Core.Logic.{dite}
use native.Mathlib.Decide.{ℕ_discrete}
use Rattle.std.specs.List.{sum_by}
use Rattle.std.proofs.lemmas.List.Sums.{sum_by-append, sum_by-cons}
use Rattle.graph_model.specs.declared.key.Key.{Key}
use Rattle.graph_model.specs.declared.plan.Strike.{Strike}
use Rattle.core_state.specs.Counts.{bump, count, hit}
use Rattle.core_state.specs.Tests.{three}
use Rattle.core_state.proofs.Base.Counting.{bump_is, two_tells}
use Rattle.compute_notify.specs.Tasks.{life_strikes, of_life}
use Rattle.run_bounds.specs.Storm.{Lived, is_lived}
use Rattle.run_bounds.proofs.Counting.{count_sum, each_counted}
use Rattle.run_bounds.proofs.Pigeons.{met, pigeons}
use Rattle.run_bounds.proofs.Storm.Slots.{three_true}

-- the key of what came
abbrev key_in : Lived → Key
key_in x = record { 0 = x.key }

-- the strikes for the life in which it came
abbrev pub struck_for : List Strike → Lived → ℕ
struck_for p x = length (life_strikes (key_in x) x.life p)

many_strikes : (key : Key) (l : ℕ) (p : List Strike) → length (life_strikes key l p) ≡ count (of_life key l) p
many_strikes key l [] = refl
many_strikes key l (s ∷ p) = by (of_life key l s) (many_strikes key l p)
  where
    by : (b : Bool) → length (life_strikes key l p) ≡ count (of_life key l) p → length (cond b (s ∷ filter (of_life key l) p) (filter (of_life key l) p)) ≡ bump b (count (of_life key l) p)
    by true h = omega (arith, h)
    by false h = h

-- the strikes for one kind, and for each
abbrev Aimed : Type 0
Aimed = ℕ × Strike

abbrev aims : Lived → Aimed → Bool
aims x y = is_lived y.0 y.1.key.0 y.1.life x

abbrev aimed : ℕ → List Strike → List Aimed
aimed a [] = []
aimed a (s ∷ p) = (a, s) ∷ aimed a p

abbrev all_aimed : ℕ → List Strike → List Aimed
all_aimed zero p = []
all_aimed (suc n) p = aimed n p ++ all_aimed n p

aimed_many : (a : ℕ) (p : List Strike) → sum_by (λ y. 1) (aimed a p) ≡ length p
aimed_many a [] = refl
aimed_many a (s ∷ p) = let h = aimed_many a p in let b = sum_by-cons (λ (y : Aimed). 1) (a, s) (aimed a p) in omega (arith, h, b)

all_many : (n : ℕ) (p : List Strike) → sum_by (λ y. 1) (all_aimed n p) ≡ n * length p
all_many zero p = omega arith
all_many (suc n) p = let h = all_many n p in let a = aimed_many n p in let b = sum_by-append (λ (y : Aimed). 1) (aimed n p) (all_aimed n p) in let c : suc n * length p ≡ length p + n * length p = grind arith in omega (arith, h, a, b, c)

-- a strike for the life aims at what comes in it
module _ (x : Lived) where
  aimed_at : (s : Strike) → of_life (key_in x) x.life s ≡ true → aims x (x.kind, s) ≡ true
  aimed_at s is = ⊎_elim (λ z. absurd (let q : true ≡ false = sym is ∙ z in cc))
      (λ z. subst (λ k. three x.kind k s.life x.kind x.key x.life ≡ true) (sym z.1) (subst (λ l. three x.kind x.key l x.kind x.key x.life ≡ true) (sym z.2) (three_true x.kind x.key x.life)))
      (two_tells s.key.0 s.life x.key x.life)

  of_kind : (p : List Strike) → count (of_life (key_in x) x.life) p ≤ count (aims x) (aimed x.kind p)
  of_kind [] = omega arith
  of_kind (s ∷ p) = by (of_life (key_in x) x.life s) refl (of_kind p)
    where
      by : (b : Bool) → of_life (key_in x) x.life s ≡ b → count (of_life (key_in x) x.life) p ≤ count (aims x) (aimed x.kind p) → bump b (count (of_life (key_in x) x.life) p) ≤ bump (aims x (x.kind, s)) (count (aims x) (aimed x.kind p))
      by true is h = let a = ap hit (aimed_at s is) in let c = bump_is (aims x (x.kind, s)) (count (aims x) (aimed x.kind p)) in omega (arith, h, a, c)
      by false is h = let c = bump_is (aims x (x.kind, s)) (count (aims x) (aimed x.kind p)) in omega (arith, h, c)

  of_kinds : (n : ℕ) (p : List Strike) → x.kind < n → struck_for p x ≤ met aims (λ y. 1) x (all_aimed n p)
  of_kinds zero p low = absurd (omega (arith, low))
  of_kinds (suc n) p low = let both = sum_by-append (λ y. cond (aims x y) 1 0) (aimed n p) (all_aimed n p) in
      dite (ℕ_discrete x.kind n)
      (λ here. let a = many_strikes (key_in x) x.life p in let b = of_kind p in let c = count_sum (aims x) (aimed x.kind p) in
      let d : met aims (λ y. 1) x (aimed x.kind p) ≡ met aims (λ y. 1) x (aimed n p) = ap (λ i. met aims (λ y. 1) x (aimed i p)) here in omega (arith, a, b, c, d, both))
      (λ other. let h = of_kinds n p (omega (arith, low, other)) in omega (arith, h, both))

pub strikes_few : (n : ℕ) (p : List Strike) (xs : List Lived) → ((a k l : ℕ) → count (is_lived a k l) xs ≤ 1) → ((a k l : ℕ) → 0 < count (is_lived a k l) xs → a < n) → sum_by (struck_for p) xs ≤ n * length p
strikes_few n p xs once low =
    let a = pigeons aims (λ y. 1) (struck_for p) xs (all_aimed n p)
    (each_counted (λ x. struck_for p x ≤ met aims (λ y. 1) x (all_aimed n p)) (λ x y. is_lived x.kind x.key x.life y) (λ x. three_true x.kind x.key x.life) xs (λ x some. of_kinds x n p (low x.kind x.key x.life some)))
    (λ y. once y.0 y.1.key.0 y.1.life) in
    let b = all_many n p in omega (arith, a, b)
