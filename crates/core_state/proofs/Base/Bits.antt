-- One bit set in a word.
use Rattle.std.proofs.Common.{◌≡◌, ◌≢◌, ℕ, ◌+◌, ◌-◌, ◌/◌, ◌%◌, ◌^◌, ◌<◌, bit_or, sym, ap, ◌∙◌, arith, subst}
use Rattle.std.specs.Int.{bit_at}
use Rattle.std.proofs.lemmas.Nat.Bits.{bit_at-zero, bit_at_above, bit_at_and, bit_at_ones, bit_at_or, bit_at-pow_same, bit_at-pow_other, bit_at-lt, same_from_bits, same_from_bits_below}
use Rattle.std.proofs.Math.Nat.{div-div-eq-div-mul}
use Rattle.std.proofs.lemmas.Nat.{pow-add, pow_below, pow_pos, mod_below, and_mask, or_lt, or_mod}
use Rattle.core_state.specs.Words.{life_of}

pub bit_set_here : (n j : ℕ) → bit_at (bit_or n (2 ^ j)) j ≡ 1
bit_set_here n j = let a = bit_at_or n (2 ^ j) j in let b = bit_at-pow_same j in let c = bit_at-lt n j in omega (arith, a, b, c)

pub bit_set_else : (n j i : ℕ) → i ≢ j → bit_at (bit_or n (2 ^ j)) i ≡ bit_at n i
bit_set_else n j i e = let a = bit_at_or n (2 ^ j) i in let b = bit_at-pow_other j i e in omega (arith, a, b)

quotient_bit : (n k i : ℕ) → bit_at (n / 2 ^ k) i ≡ bit_at n (k + i)
quotient_bit n k i = ap (λ (x : ℕ). x % 2) (div-div-eq-div-mul n (2 ^ k) (2 ^ i) ∙ ap (λ (x : ℕ). n / x) (sym (pow-add 2 k i)))

-- a bit below the life leaves it
pub life_set : (n j : ℕ) → j < 48 → life_of (bit_or n (2 ^ j)) ≡ life_of n
life_set n j h = ap (λ (x : ℕ). x + 1) (same_from_bits (bit_or n (2 ^ j) / 2 ^ 48) (n / 2 ^ 48)
    (λ i. quotient_bit (bit_or n (2 ^ j)) 48 i ∙ bit_set_else n j (48 + i) (λ e. omega arith) ∙ sym (quotient_bit n 48 i)))

-- bits below the life leave it
pub life_or : (n x : ℕ) → x < 2 ^ 48 → life_of (bit_or n x) ≡ life_of n
life_or n x small = ap (λ (y : ℕ). y + 1) (same_from_bits (bit_or n x / 2 ^ 48) (n / 2 ^ 48)
    (λ i. quotient_bit (bit_or n x) 48 i ∙ (let a = bit_at_or n x (48 + i) in let b = bit_at_above x 48 (48 + i) small (omega arith) in omega (arith, a, b)) ∙ sym (quotient_bit n 48 i)))

-- a bit that is set stays set
pub bit_or_here : (n x i : ℕ) → bit_at x i ≡ 1 → bit_at (bit_or n x) i ≡ 1
bit_or_here n x i is = let a = bit_at_or n x i in let b = bit_at-lt n i in omega (arith, a, b, is)

-- the low bits of a remainder
pub low_bits : (m n j : ℕ) → j < m → bit_at (n % 2 ^ m) j ≡ bit_at n j
low_bits m n j low = sym (ap (λ (x : ℕ). bit_at x j) (and_mask n m)) ∙ bit_at_and n (2 ^ m - 1) j ∙ (let a = bit_at_ones m j low in let b = bit_at-lt n j in omega (arith, a, b))

-- bits up to the mark that come leave those between the mark and the life as they were
pub or_low : (n x : ℕ) → n % 2 ^ 48 < 2 ^ 42 → x < 2 ^ 42 → bit_or n x % 2 ^ 48 < 2 ^ 42
or_low n x low small = subst (λ o. o < 2 ^ 42) (sym (or_mod n x 48)) (or_lt 42 (n % 2 ^ 48) (x % 2 ^ 48) low (omega (arith, small)))

-- and so does one such bit
pub set_low : (n j : ℕ) → n % 2 ^ 48 < 2 ^ 42 → j < 42 → bit_or n (2 ^ j) % 2 ^ 48 < 2 ^ 42
set_low n j low small = or_low n (2 ^ j) low (pow_below j 42 small)

-- where all low bits are 0, the remainder is
pub no_low_bits : (n m : ℕ) → ((i : ℕ) → i < m → bit_at n i ≡ 0) → n % 2 ^ m ≡ 0
no_low_bits n m bits = same_from_bits_below m (n % 2 ^ m) 0 (mod_below n (2 ^ m) (pow_pos m)) (pow_pos m) (λ i low. low_bits m n i low ∙ bits i low ∙ sym (bit_at-zero i))
