-- All keys of a table have together no more ports than places: each port answers to a place, and different ones to different places.
use Rattle.std.proofs.Common.{◌≡◌, ◌≢◌, ℕ, zero, suc, ◌+◌, ◌<◌, ◌≤◌, Bool, true, false, cond, eqb, List, [], ◌∷◌, ◌++◌, length, Contains, ⊎_elim, arith, refl, ap, sym, ◌∙◌, subst}
use Rattle.std.specs.List.{AllByRecursion, sum_by}
use Rattle.std.proofs.lemmas.List.Sums.{sum_by-append, sum_by-cons}
use Rattle.core_state.specs.Counts.{count, hit}
use Rattle.core_state.specs.Graph.{Graph, Lawful}
use Rattle.core_state.specs.Tests.{two}
use Rattle.core_state.proofs.Base.Counting.{bump_is, eqb_here, two_here, two_tells}
use Rattle.run_bounds.proofs.Counting.{count_both, count_sum, count_weaker, counted_in, length_sum}
use Rattle.run_bounds.proofs.Pigeons.{met, pigeons}

-- the pairs of a key and the numbers below one, and below those of several keys
abbrev below : ℕ → ℕ → List (ℕ × ℕ)
below k zero = []
below k (suc n) = (k, n) ∷ below k n

abbrev pub pairs : (ℕ → ℕ) → List ℕ → List (ℕ × ℕ)
pairs f [] = []
pairs f (k ∷ ks) = below k (f k) ++ pairs f ks

abbrev pub is_pair : ℕ → ℕ → ℕ × ℕ → Bool
is_pair k j x = two k j x.0 x.1

below_length : (k n : ℕ) → length (below k n) ≡ n
below_length k zero = refl
below_length k (suc n) = let a = below_length k n in omega (arith, a)

pub pairs_many : (f : ℕ → ℕ) (ks : List ℕ) → sum_by (λ x. 1) (pairs f ks) ≡ sum_by f ks
pairs_many f [] = refl
pairs_many f (k ∷ ks) = let a = sum_by-append (λ (x : ℕ × ℕ). 1) (below k (f k)) (pairs f ks) in let b = length_sum (below k (f k)) in let c = below_length k (f k) in let d = pairs_many f ks in let g = sum_by-cons f k ks in omega (arith, a, b, c, d, g)

all_both : (P : ℕ × ℕ → Type 0) (xs ys : List (ℕ × ℕ)) → AllByRecursion P xs → AllByRecursion P ys → AllByRecursion P (xs ++ ys)
all_both P [] ys a b = b
all_both P (x ∷ xs) ys a b = (a.0, all_both P xs ys a.1 b)

all_below : (P : ℕ × ℕ → Type 0) (k n m : ℕ) → n ≤ m → ((i : ℕ) → i < m → P (k, i)) → AllByRecursion P (below k n)
all_below P k zero m low all = tt
all_below P k (suc n) m low all = (all n low, all_below P k n m (omega (arith, low)) all)

all_pairs : (P : ℕ × ℕ → Type 0) (f : ℕ → ℕ) (ks : List ℕ) → ((k i : ℕ) → i < f k → P (k, i)) → AllByRecursion P (pairs f ks)
all_pairs P f [] all = tt
all_pairs P f (k ∷ ks) all = all_both P (below k (f k)) (pairs f ks) (all_below P k (f k) (f k) (omega arith) (all k)) (all_pairs P f ks all)

-- a pair stands among those of its key
in_below : (k j n : ℕ) → j < n → 0 < count (is_pair k j) (below k n)
in_below k j zero low = absurd (omega (arith, low))
in_below k j (suc n) low = Rattle.std.proofs.Common.subst (λ m. 0 < m) (sym (bump_is (two k j k n) (count (is_pair k j) (below k n))))
    (mathlib.Core.Logic.dite (native.Mathlib.Decide.ℕ_discrete j n)
    (λ q. let a : hit (two k j k n) ≡ 1 = ap (λ i. hit (two k j k i)) (sym q) ∙ ap hit (two_here k j) in omega (arith, a))
    (λ ne. let a = in_below k j n (omega (arith, low, ne)) in omega (arith, a)))

pub in_pairs : (f : ℕ → ℕ) (k j : ℕ) (ks : List ℕ) → 0 < count (eqb k) ks → j < f k → 0 < count (is_pair k j) (pairs f ks)
in_pairs f k j [] some low = absurd (omega (arith, some))
in_pairs f k j (i ∷ ks) some low = let both = count_both (is_pair k j) (below i (f i)) (pairs f ks) in let many = bump_is (eqb k i) (count (eqb k) ks) in
    ⊎_elim (λ is. let a : 0 < count (is_pair k j) (below i (f i)) = subst (λ m. 0 < count (is_pair k j) (below m (f m))) is.1 (in_below k j (f k) low) in omega (arith, a, both))
    (λ other. let z = ap hit other.0 in let a = in_pairs f k j ks (omega (arith, some, many, z)) low in omega (arith, a, both))
    (Rattle.std.proofs.lemmas.Bool.Decides.eqb_tells k i)

-- and stands there once, where the key does
below_other : (k j i n : ℕ) → k ≢ i → count (is_pair k j) (below i n) ≡ 0
below_other k j i zero ne = refl
below_other k j i (suc n) ne = let a = below_other k j i n ne in let b = bump_is (two k j i n) (count (is_pair k j) (below i n)) in
    let c : hit (two k j i n) ≡ 0 = ap hit (Rattle.core_state.proofs.Base.Counting.not_two k j i n (λ z. ne z.0)) in omega (arith, a, b, c)

below_above : (k j i n : ℕ) → n ≤ j → count (is_pair k j) (below i n) ≡ 0
below_above k j i zero high = refl
below_above k j i (suc n) high = let a = below_above k j i n (omega (arith, high)) in let b = bump_is (two k j i n) (count (is_pair k j) (below i n)) in
    let c : hit (two k j i n) ≡ 0 = ap hit (Rattle.core_state.proofs.Base.Counting.not_two k j i n (λ z. let same = z.1 in omega (arith, same, high))) in omega (arith, a, b, c)

below_once : (k j i n : ℕ) → count (is_pair k j) (below i n) ≤ 1
below_once k j i zero = omega arith
below_once k j i (suc n) = let a = below_once k j i n in let b = bump_is (two k j i n) (count (is_pair k j) (below i n)) in
    ⊎_elim (λ z. let c = ap hit z in omega (arith, a, b, c))
    (λ z. let c = below_above k j i n (let same = z.2 in omega (arith, same)) in let d = ap hit z.0 in omega (arith, b, c, d))
    (two_tells k j i n)

pairs_other : (f : ℕ → ℕ) (k j : ℕ) (ks : List ℕ) → count (eqb k) ks ≡ 0 → count (is_pair k j) (pairs f ks) ≡ 0
pairs_other f k j [] none = refl
pairs_other f k j (i ∷ ks) none = let both = count_both (is_pair k j) (below i (f i)) (pairs f ks) in let many = bump_is (eqb k i) (count (eqb k) ks) in
    ⊎_elim (λ is. let z = ap hit is.0 in absurd (omega (arith, none, many, z)))
    (λ other. let z = ap hit other.0 in let a = pairs_other f k j ks (omega (arith, none, many)) in let b = below_other k j i (f i) other.1 in omega (arith, a, b, both))
    (Rattle.std.proofs.lemmas.Bool.Decides.eqb_tells k i)

pub pairs_once : (f : ℕ → ℕ) (k j : ℕ) (ks : List ℕ) → count (eqb k) ks ≤ 1 → count (is_pair k j) (pairs f ks) ≤ 1
pairs_once f k j [] once = omega arith
pairs_once f k j (i ∷ ks) once = let both = count_both (is_pair k j) (below i (f i)) (pairs f ks) in let many = bump_is (eqb k i) (count (eqb k) ks) in
    ⊎_elim (λ is. let z = ap hit is.0 in let a = pairs_other f k j ks (omega (arith, once, many, z)) in let b = below_once k j i (f i) in omega (arith, a, b, both))
    (λ other. let z = ap hit other.0 in let a = pairs_once f k j ks (omega (arith, once, many, z)) in let b = below_other k j i (f i) other.1 in omega (arith, a, b, both))
    (Rattle.std.proofs.lemmas.Bool.Decides.eqb_tells k i)

module _ (g : Graph) (laws : Lawful g) (keys : List ℕ) (once : (k : ℕ) → count (eqb k) keys ≤ 1) (listed : (k j : ℕ) → j < g.places k → Contains keys k) where
  -- the port that a place answers
  abbrev answers : ℕ × ℕ → ℕ × ℕ → Bool
  answers x y = two (g.pred y.0 y.1).task (g.pred y.0 y.1).port x.0 x.1

  -- a port has its place among all places
  answered : (p q : ℕ) → q < g.ports p → 1 ≤ met answers (λ y. 1) (p, q) (pairs g.places keys)
  answered p q low =
      let forth = laws.forth p q low in let k : ℕ = (g.succ p q).task in let j : ℕ = (g.succ p q).place in
      let there = in_pairs g.places k j keys (counted_in k keys (listed k j forth.0)) forth.0 in
      let here : (y : ℕ × ℕ) → is_pair k j y ≡ true → answers (p, q) y ≡ true = λ y is. ⊎_elim (λ z. absurd (let a : true ≡ false = sym is ∙ z in cc))
      (λ z. subst (λ a. two (g.pred a y.1).task (g.pred a y.1).port p q ≡ true) z.1 (subst (λ b. two (g.pred k b).task (g.pred k b).port p q ≡ true) z.2 (subst (λ a. two a (g.pred k j).port p q ≡ true) (sym forth.1) (subst (λ b. two p b p q ≡ true) (sym forth.2) (two_here p q)))))
      (two_tells k j y.0 y.1) in
      let more = count_weaker (is_pair k j) (answers (p, q)) here (pairs g.places keys) in let same = count_sum (answers (p, q)) (pairs g.places keys) in omega (arith, there, more, same)

  pub ports_below_places : sum_by g.ports keys ≤ sum_by g.places keys
  ports_below_places =
      let a = pigeons answers (λ y. 1) (λ x. 1) (pairs g.ports keys) (pairs g.places keys) (all_pairs (λ x. 1 ≤ met answers (λ y. 1) x (pairs g.places keys)) g.ports keys answered)
      (λ y. pairs_once g.ports (g.pred y.0 y.1).task (g.pred y.0 y.1).port keys (once (g.pred y.0 y.1).task)) in
      let b = pairs_many g.ports keys in let c = pairs_many g.places keys in omega (arith, a, b, c)
