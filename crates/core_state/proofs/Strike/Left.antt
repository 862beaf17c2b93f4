-- Which strike of a point is next after one was made.
use Rattle.std.proofs.Common.{◌≡◌, ◌≢◌, ℕ, zero, suc, ◌+◌, ◌-◌, ◌<◌, ◌≤◌, Bool, true, false, cond, ne_eqb, ◌&&◌, List, ◌∷◌, refl, ap, sym, ◌∙◌, subst, arith}
use mathlib.Core.Logic.{dite}
use native.Mathlib.Decide.{ℕ_discrete}
use mathlib.Core.Option.{some, none, some-ne-none, some-injective}
use Rattle.core_state.specs.Graph.{Graph, Plan}
use Rattle.core_state.specs.Tests.{is_in, same_point, two}
use Rattle.core_state.specs.Views.{first_of, has_word, is_left, next_strike}
use Rattle.graph_model.specs.declared.plan.Point.{Point}
use Rattle.core_state.proofs.Base.Counting.{eqb_here}
use Rattle.core_state.proofs.Credit.JobView.{and_false}

-- the first place that passes
pub first_found : (p : ℕ → Bool) (i m n : ℕ) → i ≤ n → n < i + m → p n ≡ true → ((j : ℕ) → i ≤ j → j < n → p j ≡ false) → first_of p i m ≡ some n
first_found p i zero n low high here before = absurd (omega (arith, low, high))
first_found p i (suc m) n low high here before = dite (ℕ_discrete i n)
    (λ z. ap (λ (b : Bool). cond b (some i) (first_of p (i + 1) m)) (ap p z ∙ here) ∙ ap some z)
    (λ ne. ap (λ (b : Bool). cond b (some i) (first_of p (i + 1) m)) (before i (omega arith) (omega (arith, low, ne))) ∙ first_found p (i + 1) m n (omega (arith, low, ne)) (omega (arith, high)) here (λ j l h. before j (omega (arith, l)) h))

-- none passes
pub first_none : (p : ℕ → Bool) (i m : ℕ) → ((j : ℕ) → i ≤ j → j < i + m → p j ≡ false) → first_of p i m ≡ none
first_none p i zero all = refl
first_none p i (suc m) all = ap (λ (b : Bool). cond b (some i) (first_of p (i + 1) m)) (all i (omega arith) (omega arith)) ∙ first_none p (i + 1) m (λ j l h. all j (omega (arith, l)) (omega (arith, h)))

-- two tests that agree have the same first place
pub first_same : (p q : ℕ → Bool) (i m : ℕ) → ((j : ℕ) → i ≤ j → q j ≡ p j) → first_of q i m ≡ first_of p i m
first_same p q i zero same = refl
first_same p q i (suc m) same = ap (λ (b : Bool). cond b (some i) (first_of q (i + 1) m)) (same i (omega arith)) ∙ ap (λ o. cond (p i) (some i) o) (first_same p q (i + 1) m (λ j l. same j (omega (arith, l))))

-- where the first place passes no longer, the next one is sought behind it
pub first_past : (p q : ℕ → Bool) (i m n : ℕ) → first_of p i m ≡ some n → q n ≡ false → ((j : ℕ) → j ≢ n → q j ≡ p j) → first_of q i m ≡ first_of p (n + 1) (i + m - (n + 1))
first_past p q i zero n is gone same = absurd (some-ne-none n (sym is))
first_past p q i (suc m) n is gone same = by (first_past p q (i + 1) m n) (p i) refl is
  where
    by : (first_of p (i + 1) m ≡ some n → q n ≡ false → ((j : ℕ) → j ≢ n → q j ≡ p j) → first_of q (i + 1) m ≡ first_of p (n + 1) (i + 1 + m - (n + 1)))
        → (b : Bool) → p i ≡ b → cond b (some i) (first_of p (i + 1) m) ≡ some n → cond (q i) (some i) (first_of q (i + 1) m) ≡ first_of p (n + 1) (i + suc m - (n + 1))
    by h true here z = let at : i ≡ n = some-injective i n z in
        ap (λ (b : Bool). cond b (some i) (first_of q (i + 1) m)) (ap q at ∙ gone)
        ∙ first_same p q (i + 1) m (λ j l. same j (λ y. omega (arith, y, at, l)))
        ∙ ap (λ x. first_of p (x + 1) m) at ∙ ap (first_of p (n + 1)) (let a : m ≡ i + suc m - (n + 1) = omega (arith, at) in a)
    by h false here z = let off : q i ≡ false = dite (ℕ_discrete i n) (λ y. ap q y ∙ gone) (λ ne. same i ne ∙ here) in
        ap (λ (b : Bool). cond b (some i) (first_of q (i + 1) m)) off ∙ h z gone same ∙ ap (first_of p (n + 1)) (let a : i + 1 + m - (n + 1) ≡ i + suc m - (n + 1) = omega arith in a)

module _ (g : Graph) (p : Plan) (at : Point) (k l : ℕ) (made : List ℕ) where
  -- a strike that was made is not left, and the others stay
  pub left_made : (n : ℕ) → is_left g p at k l (n ∷ made) n ≡ false
  left_made n = ap (λ (b : Bool). same_point at (p.strike n).point && (two k l (p.strike n).key.0 (p.strike n).life && (has_word g k (p.strike n).target && cond (cond b true (is_in n made)) false true))) (eqb_here n)
      ∙ ap (λ (b : Bool). same_point at (p.strike n).point && (two k l (p.strike n).key.0 (p.strike n).life && b)) (and_false (has_word g k (p.strike n).target))
      ∙ ap (λ (b : Bool). same_point at (p.strike n).point && b) (and_false (two k l (p.strike n).key.0 (p.strike n).life)) ∙ and_false (same_point at (p.strike n).point)

  pub left_else : (n m : ℕ) → m ≢ n → is_left g p at k l (n ∷ made) m ≡ is_left g p at k l made m
  left_else n m ne = ap (λ (b : Bool). same_point at (p.strike m).point && (two k l (p.strike m).key.0 (p.strike m).life && (has_word g k (p.strike m).target && cond (cond b true (is_in m made)) false true))) (ne_eqb m n ne)

  -- after the next strike of a point was made, the next one is sought behind it
  pub next_after : (n : ℕ) → next_strike g p at k l made ≡ some n → next_strike g p at k l (n ∷ made) ≡ first_of (is_left g p at k l made) (n + 1) (p.count - (n + 1))
  next_after n is = first_past (is_left g p at k l made) (is_left g p at k l (n ∷ made)) 0 p.count n is (left_made n) (left_else n) ∙ ap (first_of (is_left g p at k l made) (n + 1)) (let a : 0 + p.count - (n + 1) ≡ p.count - (n + 1) = omega arith in a)

  -- a strike of another point, key or life changes nothing
  pub next_apart : (n : ℕ) → (same_point at (p.strike n).point && two k l (p.strike n).key.0 (p.strike n).life) ≡ false → next_strike g p at k l (n ∷ made) ≡ next_strike g p at k l made
  next_apart n apart = first_same (is_left g p at k l made) (is_left g p at k l (n ∷ made)) 0 p.count (λ m low. dite (ℕ_discrete m n)
      (λ z. subst (λ y. is_left g p at k l (n ∷ made) y ≡ is_left g p at k l made y) (sym z) (left_made n ∙ sym (never (same_point at (p.strike n).point) (two k l (p.strike n).key.0 (p.strike n).life) (has_word g k (p.strike n).target && cond (is_in n made) false true) apart)))
      (left_else n m))
    where
      never : (a b c : Bool) → (a && b) ≡ false → (a && (b && c)) ≡ false
      never true true c z = absurd cc
      never true false c z = refl
      never false b c z = refl
