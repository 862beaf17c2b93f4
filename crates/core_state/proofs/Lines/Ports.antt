-- The ports that are still to be told or entered again, without the first one.
use Rattle.std.proofs.Common.{◌≡◌, ◌≢◌, ℕ, zero, suc, ◌+◌, ◌-◌, ◌*◌, ◌/◌, bit_and, ◌%◌, ◌^◌, ◌<◌, ◌≤◌, cond, nat_eq, [], ◌∷◌, refl, ap, sym, ◌∙◌, subst, arith}
use mathlib.Core.Logic.{dite}
use native.Mathlib.Decide.{ℕ_discrete, dec_lt}
use Rattle.std.specs.Int.{bit_at}
use Rattle.std.proofs.lemmas.Nat.Bits.{bit_at-zero, bit_at-suc, bit_at_lowest, bit_at_and}
use Rattle.core_state.specs.Effects.{ports_from, all_ports}
use Rattle.core_state.proofs.Base.Bits.{low_bits}

-- the ports from one on, of so many
pub ports_onward : (p m : ℕ) → p < m → all_ports p (m - p) ≡ p ∷ all_ports (p + 1) (m - (p + 1))
ports_onward p m low = ap (all_ports p) (let a : m - p ≡ suc (m - (p + 1)) = omega (arith, low) in a)

pub ports_over : (p m : ℕ) → m ≤ p → all_ports p (m - p) ≡ []
ports_over p m high = ap (all_ports p) (let a : m - p ≡ 0 = omega (arith, high) in a)

-- two numbers with the same bits have the same ports
pub same_ports : (w n m b c : ℕ) → ((i : ℕ) → b ≤ i → i < b + c → bit_at n i ≡ bit_at m i) → ports_from w n b c ≡ ports_from w m b c
unfolding ports_from
same_ports w n m b zero same = refl
same_ports w n m b (suc c) same = let here = same b (omega arith) (omega arith) in let rest = same_ports w n m (b + 1) c (λ i low high. same i (omega (arith, low)) (omega (arith, high))) in
    ap (λ x. cond (nat_eq x 1) ((40 * w + b) ∷ ports_from w n (b + 1) c) (ports_from w n (b + 1) c)) here ∙ ap (λ xs. cond (nat_eq (bit_at m b) 1) ((40 * w + b) ∷ xs) xs) rest

-- the bits above the ports tell nothing
pub ports_low : (w n : ℕ) → ports_from w (n % 2 ^ 40) 0 40 ≡ ports_from w n 0 40
ports_low w n = same_ports w (n % 2 ^ 40) n 0 40 (λ i low high. low_bits 40 n i high)

-- no bit, no port
pub ports_none : (w b c : ℕ) → ports_from w 0 b c ≡ []
unfolding ports_from
ports_none w b zero = refl
ports_none w b (suc c) = ap (λ x. cond (nat_eq x 1) ((40 * w + b) ∷ ports_from w 0 (b + 1) c) (ports_from w 0 (b + 1) c)) (bit_at-zero b) ∙ ports_none w (b + 1) c

-- the port of the lowest bit is the first, and the others are those of the number without this bit
pub ports_next : (w n m t b c : ℕ) → b ≤ t → t < b + c → bit_at n t ≡ 1 → ((i : ℕ) → i < t → bit_at n i ≡ 0) → bit_at m t ≡ 0 → ((i : ℕ) → i ≢ t → bit_at m i ≡ bit_at n i) → ports_from w n b c ≡ (40 * w + t) ∷ ports_from w m b c
unfolding ports_from
ports_next w n m t b zero low high set below unset same = absurd (omega (arith, low, high))
ports_next w n m t b (suc c) low high set below unset same = dite (ℕ_discrete b t)
    (λ z. subst (λ y. ports_from w n y (suc c) ≡ (40 * w + t) ∷ ports_from w m y (suc c)) (sym z)
    (ap (λ x. cond (nat_eq x 1) ((40 * w + t) ∷ ports_from w n (t + 1) c) (ports_from w n (t + 1) c)) set
    ∙ ap (λ xs. (40 * w + t) ∷ xs) (same_ports w n m (t + 1) c (λ i lo hi. sym (same i (omega (arith, lo)))) ∙ sym (ap (λ x. cond (nat_eq x 1) ((40 * w + t) ∷ ports_from w m (t + 1) c) (ports_from w m (t + 1) c)) unset))))
    (λ ne. let rest = ports_next w n m t (b + 1) c (omega (arith, low, ne)) (omega (arith, high)) set below unset same in
    let zero_here = below b (omega (arith, low, ne)) in
    ap (λ x. cond (nat_eq x 1) ((40 * w + b) ∷ ports_from w n (b + 1) c) (ports_from w n (b + 1) c)) zero_here ∙ rest
    ∙ ap (λ xs. (40 * w + t) ∷ xs) (sym (ap (λ x. cond (nat_eq x 1) ((40 * w + b) ∷ ports_from w m (b + 1) c) (ports_from w m (b + 1) c)) (same b ne ∙ zero_here))))

-- what is left of the bits of the number before it
pub record Lowered (n t : ℕ) : Type 0 where
  pub unset : bit_at (n - 1) t ≡ 0
  pub above : (i : ℕ) → t < i → bit_at (n - 1) i ≡ bit_at n i

pub lowered : (t n : ℕ) → bit_at n t ≡ 1 → ((i : ℕ) → i < t → bit_at n i ≡ 0) → Lowered n t
lowered zero n set below = let odd : n % 2 ≡ 1 = sym (bit_at_lowest n) ∙ set in record {
  unset = bit_at_lowest (n - 1) ∙ (let a : (n - 1) % 2 ≡ 0 = omega (arith, odd) in a);
  above = λ i high. higher i high odd;
}
  where
    higher : (i : ℕ) → 0 < i → n % 2 ≡ 1 → bit_at (n - 1) i ≡ bit_at n i
    higher zero high odd = absurd (omega (arith, high))
    higher (suc j) high odd = bit_at-suc (n - 1) j ∙ ap (λ (x : ℕ). bit_at x j) (let a : (n - 1) / 2 ≡ n / 2 = omega (arith, odd) in a) ∙ sym (bit_at-suc n j)
lowered (suc s) n set below = let even : n % 2 ≡ 0 = sym (bit_at_lowest n) ∙ below 0 (omega arith) in let half : bit_at (n / 2) s ≡ 1 = sym (bit_at-suc n s) ∙ set in
    let rest = lowered s (n / 2) half (λ i low. sym (bit_at-suc n i) ∙ below (suc i) (omega (arith, low))) in
    by even half rest.unset rest.above
  where
    by : n % 2 ≡ 0 → bit_at (n / 2) s ≡ 1 → bit_at (n / 2 - 1) s ≡ 0 → ((i : ℕ) → s < i → bit_at (n / 2 - 1) i ≡ bit_at (n / 2) i) → Lowered n (suc s)
    by even half unset above = let some : 0 < n / 2 = dite (ℕ_discrete (n / 2) 0) (λ z. absurd (let a : bit_at (n / 2) s ≡ 0 = ap (λ (x : ℕ). bit_at x s) z ∙ bit_at-zero s in omega (arith, a, half))) (λ ne. omega (arith, ne)) in
        let down : (n - 1) / 2 ≡ n / 2 - 1 = omega (arith, even, some) in record {
          unset = bit_at-suc (n - 1) s ∙ ap (λ (x : ℕ). bit_at x s) down ∙ unset;
          above = λ i high. higher i high down above;
        }
      where
        higher : (i : ℕ) → suc s < i → (n - 1) / 2 ≡ n / 2 - 1 → ((i : ℕ) → s < i → bit_at (n / 2 - 1) i ≡ bit_at (n / 2) i) → bit_at (n - 1) i ≡ bit_at n i
        higher zero high down above = absurd (omega (arith, high))
        higher (suc j) high down above = bit_at-suc (n - 1) j ∙ ap (λ (x : ℕ). bit_at x j) down ∙ above j (omega (arith, high)) ∙ sym (bit_at-suc n j)

-- the number without its lowest bit has the other ports
pub ports_after : (w n t b c : ℕ) → b ≤ t → t < b + c → bit_at n t ≡ 1 → ((i : ℕ) → i < t → bit_at n i ≡ 0) → ports_from w n b c ≡ (40 * w + t) ∷ ports_from w (bit_and n (n - 1)) b c
ports_after w n t b c low high set below = let x = lowered t n set below in ports_next w n (bit_and n (n - 1)) t b c low high set below
    (bit_at_and n (n - 1) t ∙ (let a = x.unset in omega (arith, a)))
    (λ i ne. bit_at_and n (n - 1) i ∙ dite (dec_lt i t) (λ l. let a = below i l in omega (arith, a)) (λ g. let a = x.above i (omega (arith, g, ne)) in omega (arith, a)))
