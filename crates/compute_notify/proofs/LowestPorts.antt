-- The lowest port of some that are left, and the others.
use Rattle.std.proofs.Common.{◌≡◌, ◌≢◌, ℕ, zero, suc, ◌+◌, ◌-◌, ◌*◌, ◌/◌, ◌%◌, ◌^◌, ◌<◌, ◌≤◌, ◌∷◌, arith, ap, sym, ◌∙◌, subst}
use mathlib.Core.Logic.{dite}
use native.Mathlib.Decide.{ℕ_discrete, dec_lt}
use lib.Count.{ones_step}
use Rattle.std.specs.Prelude.{count_ones}
use Rattle.std.specs.Int.{bit_at, trailing_zeros, w64}
use Rattle.std.proofs.lemmas.Nat.{and_le_l, mod_below, ones-le, pow_pos}
use Rattle.std.proofs.lemmas.Nat.Bits.{bit_at_lowest, bit_at-suc, bit_at_and, bit_at_above, bit_at-lt, bit_at-trailing_zeros, same_from_bits}
use Rattle.core_state.specs.Effects.{ports_from}
use Rattle.core_state.proofs.Base.Bits.{low_bits}
use Rattle.core_state.proofs.Lines.Ports.{ports_after}
use Rattle.compute_notify.specs.Items.{next_ports}
use Rattle.core_state.proofs.Lines.Ports.{lowered}

-- the lowest bit of the ports
pub record IsLowest (n t : ℕ) : Type 0 where
  pub low : t < 40
  pub set : bit_at n t ≡ 1
  pub below : (i : ℕ) → i < t → bit_at n i ≡ 0

pub lowest : (n : ℕ) → n ≢ 0 → n < 2 ^ 40 → IsLowest n (trailing_zeros w64 n)
lowest n some small = let a = bit_at-trailing_zeros w64 n (omega (arith, some)) (omega (arith, small)) in record {
  low = dite (dec_lt (trailing_zeros w64 n) 40) (λ l. l) (λ g. absurd (let z = bit_at_above n 40 (trailing_zeros w64 n) small (omega (arith, g)) in let o = a.1 in omega (arith, z, o)));
  set = a.1;
  below = a.2;
}

-- a number with one bit less
ones_without : (t n m : ℕ) → bit_at n t ≡ 1 → bit_at m t ≡ 0 → ((i : ℕ) → i ≢ t → bit_at m i ≡ bit_at n i) → count_ones n ≡ count_ones m + 1
ones_without zero n m set unset same =
    let halves : n / 2 ≡ m / 2 = same_from_bits (n / 2) (m / 2) (λ i. sym (bit_at-suc n i) ∙ sym (same (suc i) (λ z. omega (arith, z))) ∙ bit_at-suc m i) in
    let a = ones_step n in let b = ones_step m in let odd : n % 2 ≡ 1 = sym (bit_at_lowest n) ∙ set in let even : m % 2 ≡ 0 = sym (bit_at_lowest m) ∙ unset in
    let rest : count_ones (n / 2) ≡ count_ones (m / 2) = ap count_ones halves in omega (arith, a, b, odd, even, rest)
ones_without (suc s) n m set unset same =
    let rest = ones_without s (n / 2) (m / 2) (sym (bit_at-suc n s) ∙ set) (sym (bit_at-suc m s) ∙ unset) (λ i ne. sym (bit_at-suc m i) ∙ same (suc i) (λ z. ne (omega (arith, z))) ∙ bit_at-suc n i) in
    let low : m % 2 ≡ n % 2 = sym (bit_at_lowest m) ∙ same 0 (λ z. omega (arith, z)) ∙ bit_at_lowest n in
    let a = ones_step n in let b = ones_step m in omega (arith, a, b, low, rest)

module _ (n t : ℕ) (is : IsLowest n t) where
  -- the others are one fewer
  pub ones_next : count_ones n ≡ count_ones (next_ports n) + 1
  ones_next = let x = lowered t n is.set is.below in ones_without t n (next_ports n) is.set
      (bit_at_and n (n - 1) t ∙ (let a = x.unset in omega (arith, a)))
      (λ i ne. bit_at_and n (n - 1) i ∙ dite (dec_lt i t) (λ l. let a = is.below i l in omega (arith, a)) (λ g. let a = x.above i (omega (arith, g, ne)) in omega (arith, a)))

  -- the list of ports begins with the lowest
  pub ports_split : (w : ℕ) → ports_from w n 0 40 ≡ (40 * w + t) ∷ ports_from w (next_ports n) 0 40
  ports_split w = ports_after w n t 0 40 (omega arith) (let a = is.low in omega (arith, a)) is.set is.below

-- the others are among the ports
pub next_small : (n : ℕ) → n < 2 ^ 40 → next_ports n < 2 ^ 40
next_small n small = let a = and_le_l n (n - 1) in omega (arith, a, small)

pub next_among : (n b : ℕ) → bit_at (next_ports n) b ≡ 1 → bit_at n b ≡ 1
next_among n b set = let a = bit_at_and n (n - 1) b in let c = bit_at-lt n b in let d = bit_at-lt (n - 1) b in omega (arith, a, c, d, set)

-- ports that are all below a bound are at most so many
pub few_ports : (n d : ℕ) → n < 2 ^ 40 → ((b : ℕ) → b < 40 → bit_at n b ≡ 1 → b < d) → (count_ones n ≤ d) × (count_ones n ≤ 40)
few_ports n d small inside = (dite (dec_lt d 40) (λ low. ones-le d n (below low)) (λ high. omega (arith, all, high)), all)
  where
    all : count_ones n ≤ 40
    all = ones-le 40 n small

    -- no bit is set from the bound on
    unset : (i : ℕ) → d ≤ i → bit_at n i ≡ 0
    unset i high = dite (dec_lt i 40) (λ low. dite (ℕ_discrete (bit_at n i) 1) (λ set. absurd (let a = inside i low set in omega (arith, a, high))) (λ ne. let a = bit_at-lt n i in omega (arith, a, ne))) (λ far. bit_at_above n 40 i small (omega (arith, far)))

    below : d < 40 → n < 2 ^ d
    below low = let small_rest = mod_below n (2 ^ d) (pow_pos d) in
        let whole : n % 2 ^ d ≡ n = same_from_bits (n % 2 ^ d) n (λ i. dite (dec_lt i d) (λ l. low_bits d n i l) (λ g. let high : d ≤ i = omega (arith, g) in bit_at_above (n % 2 ^ d) d i small_rest high ∙ sym (unset i high))) in
        subst (λ m. m < 2 ^ d) whole small_rest
