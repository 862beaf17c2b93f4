-- What a spending answers is what the bits of the word say.
use Rattle.std.proofs.Common.{◌≡◌, ◌≢◌, ◌⊎◌, ℕ, zero, suc, ◌-◌, ◌^◌, ◌≤◌, ◌<◌, Bool, true, false, cond, eqb, bit_and, bit_or, ⊎_elim, inl, inr, sym, ap, refl, ◌∙◌, arith, subst}
use Rattle.std.specs.Int.{bit_at}
use mathlib.Core.Logic.{dite}
use native.Mathlib.Decide.{ℕ_discrete, dec_lt}
use Rattle.std.proofs.lemmas.Bool.{eqb-true, eqb-false, eq-eqb, both_ways}
use Rattle.std.proofs.lemmas.Nat.Bits.{bit_at_and, bit_at_ones, bit_at_ones_above, bit_at_cat_low, bit_at_cat_high, bit_at_above, bit_at-lt, same_from_bits}
use Rattle.std.proofs.Math.Pow.{pow-lt}
use Rattle.core_state.specs.Graph.{Graph}
use Rattle.core_state.specs.Words.{life_of, mark_of}
use Rattle.core_state.specs.Laws.{IsPlace}
use Rattle.core_state.specs.Effects.{place_mask, is_full, told_of}
use Rattle.core_state.specs.declared.answers.Told.{Told}
use Rattle.core_state.specs.declared.answers.Told.TheVariants.{Spent, Last, Already, Struck}
use Rattle.core_state.proofs.Base.Bits.{bit_set_here, bit_set_else}

-- all other places of the task show as spent
abbrev pub AllOthers : Graph → ℕ → ℕ → ℕ → Type 0
AllOthers g k j n = (i : ℕ) → IsPlace g k i → i ≢ j → bit_at n i ≡ 1

-- what an answer says of the bits of the word n
abbrev pub IsTold : Graph → ℕ → ℕ → ℕ → Told → Type 0
IsTold g k j n (Spent l) = (l ≡ life_of n) × (mark_of n ≡ 0) × (bit_at n j ≡ 0) × ((i : ℕ) × IsPlace g k i × (i ≢ j) × (bit_at n i ≡ 0))
IsTold g k j n (Last l) = (l ≡ life_of n) × (mark_of n ≡ 0) × (bit_at n j ≡ 0) × AllOthers g k j n
IsTold g k j n (Already l) = (l ≡ life_of n) × (mark_of n ≡ 0) × (bit_at n j ≡ 1)
IsTold g k j n (Struck l) = (l ≡ life_of n) × (mark_of n ≡ 1)

small_mask : (p : ℕ) → p ≤ 40 → 2 ^ p - 1 < 2 ^ 40
small_mask p h = dite (ℕ_discrete p 40) (λ e. rw e (omega arith)) (λ ne. let l : p < 40 = omega arith in let a : 2 ^ p < 2 ^ 40 = pow-lt l in omega arith)

mask_low : (p i : ℕ) → p ≤ 40 → i < 40 → bit_at (place_mask p) i ≡ bit_at (2 ^ p - 1) i
mask_low p i h l = ap (λ x. bit_at x i) (omega arith) ∙ bit_at_cat_low 1 40 (2 ^ p - 1) i l

mask_high : (p i : ℕ) → p ≤ 40 → 40 ≤ i → bit_at (place_mask p) i ≡ bit_at 1 (i - 40)
mask_high p i h l = ap (λ x. bit_at x i) (omega arith) ∙ bit_at_cat_high 1 40 (2 ^ p - 1) i (small_mask p h) l

-- a place has its bit in the mask, and no other number has
mask_place : (g : Graph) (k i : ℕ) → g.places k ≤ 40 → IsPlace g k i → bit_at (place_mask (g.places k)) i ≡ 1
mask_place g k i h at = ⊎_elim (λ l. mask_low (g.places k) i h (omega arith) ∙ bit_at_ones (g.places k) i l) (λ e. mask_high (g.places k) i h (omega arith) ∙ ap (λ x. bit_at 1 x) (let a : i - 40 ≡ 0 = omega arith in a)) at

high_bit : (i : ℕ) → 0 < i → bit_at 1 i ≡ 0
high_bit i h = bit_at_above 1 i i (let a : 2 ^ 0 < 2 ^ i = pow-lt h in a) (omega arith)

bit_zero : (n i : ℕ) → eqb (bit_at n i) 1 ≡ false → bit_at n i ≡ 0
bit_zero n i e = let a = bit_at-lt n i in let b = eqb-false (bit_at n i) 1 e in omega (arith, a, b)

place_or : (g : Graph) (k i : ℕ) → g.places k ≤ 40 → (IsPlace g k i) ⊎ (bit_at (place_mask (g.places k)) i ≡ 0)
place_or g k i h = dite (ℕ_discrete i 40) (λ e. inl (inr e)) (λ ne. dite (dec_lt i 40)
    (λ l. dite (dec_lt i (g.places k)) (λ m. inl (inl m)) (λ m. inr (mask_low (g.places k) i h l ∙ bit_at_ones_above (g.places k) i (omega arith))))
    (λ m. inr (mask_high (g.places k) i h (omega arith) ∙ high_bit (i - 40) (omega arith))))

-- each of the first p bits is set, or one is not
look_for : (n p : ℕ) → ((i : ℕ) × (i < p) × (bit_at n i ≡ 0)) ⊎ ((i : ℕ) → i < p → bit_at n i ≡ 1)
look_for n zero = inr (λ i l. absurd (omega arith))
look_for n (suc p) = ⊎_elim (λ q. inl (q.0, let a = q.1 in omega arith, q.2)) (λ q. dite (ℕ_discrete (bit_at n p) 0) (λ e. inl (p, omega arith, e))
    (λ ne. inr (λ i l. dite (ℕ_discrete i p) (λ e. let a = bit_at-lt n p in subst (λ u. bit_at n u ≡ 1) (sym e) (omega (arith, a, ne))) (λ d. q i (omega arith))))) (look_for n p)

full_all : (g : Graph) (k n i : ℕ) → g.places k ≤ 40 → is_full (g.places k) n ≡ true → IsPlace g k i → bit_at n i ≡ 1
full_all g k n i h e at = let m : ℕ = place_mask (g.places k) in let a : bit_and n m ≡ m = eqb-true (bit_and n m) m e in let b = bit_at_and n m i in let c = mask_place g k i h at in
    let d : bit_at (bit_and n m) i ≡ bit_at m i = ap (λ x. bit_at x i) a in let l = bit_at-lt n i in omega (arith, b, c, d, l)

all_full : (g : Graph) (k n : ℕ) → g.places k ≤ 40 → ((i : ℕ) → IsPlace g k i → bit_at n i ≡ 1) → is_full (g.places k) n ≡ true
all_full g k n h all = let m : ℕ = place_mask (g.places k) in eq-eqb (bit_and n m) m (same_from_bits (bit_and n m) m
    (λ i. let b = bit_at_and n m i in let l = bit_at-lt m i in ⊎_elim (λ at. let a = all i at in omega (arith, a, b, l)) (λ z. omega (arith, z, b)) (place_or g k i h)))

not_full : (g : Graph) (k n : ℕ) → g.places k ≤ 40 → is_full (g.places k) n ≡ false → (i : ℕ) × IsPlace g k i × (bit_at n i ≡ 0)
not_full g k n h e = ⊎_elim (λ q. (q.0, inl q.1, q.2)) (λ all. dite (ℕ_discrete (bit_at n 40) 0) (λ z. (40, inr refl, z))
    (λ ne. absurd (both_ways (is_full (g.places k) n) e (all_full g k n h (λ i at. ⊎_elim (all i) (λ q. let a = bit_at-lt n 40 in subst (λ u. bit_at n u ≡ 1) (sym q) (omega (arith, a, ne))) at)))))
    (look_for n (g.places k))

module _ (g : Graph) (k j n : ℕ) (small : g.places k ≤ 40) (place : IsPlace g k j) where
  -- by the three tests
  told_by : (a b c : Bool) → eqb (bit_at n 41) 1 ≡ a → eqb (bit_at n j) 1 ≡ b → is_full (g.places k) (bit_or n (2 ^ j)) ≡ c
      → IsTold g k j n (cond a (Struck (life_of n)) (cond b (Already (life_of n)) (cond c (Last (life_of n)) (Spent (life_of n)))))
  told_by true b c x y z = (refl, eqb-true (bit_at n 41) 1 x)
  told_by false true c x y z = (refl, bit_zero n 41 x, eqb-true (bit_at n j) 1 y)
  told_by false false true x y z = (refl, bit_zero n 41 x, bit_zero n j y, λ i at ne. sym (bit_set_else n j i ne) ∙ full_all g k (bit_or n (2 ^ j)) i small z at)
  told_by false false false x y z = let q = not_full g k (bit_or n (2 ^ j)) small z in
      let ne : q.0 ≢ j = λ e. let a = bit_set_here n j in let b = q.2 in let c = ap (bit_at (bit_or n (2 ^ j))) e in omega (arith, a, b, c) in
      (refl, bit_zero n 41 x, bit_zero n j y, (q.0, q.1, ne, sym (bit_set_else n j q.0 ne) ∙ q.2))

  pub told_is : IsTold g k j n (told_of (g.places k) j n)
  told_is = told_by (eqb (bit_at n 41) 1) (eqb (bit_at n j) 1) (is_full (g.places k) (bit_or n (2 ^ j))) refl refl refl
