-- Rows of a key's path.
use Rattle.std.proofs.Common.{◌≡◌, ℕ, ◌+◌, ◌-◌, ◌*◌, ◌/◌, ◌%◌, ◌<◌, arith, sym, ap, ◌∙◌}
use mathlib.Core.Logic.{dite}
use native.Mathlib.Decide.{dec_lt}
use native.Mathlib.Nat.{div-add-mod', add-mul}
use Rattle.std.proofs.lemmas.Nat.{mod_below, mod-mul-add}
use Rattle.core_state.specs.Effects.{distance}

-- fewer steps than rows come back to the first row only where none was made
pub comes_back : (k d n : ℕ) → d < n → k % n ≡ (k + d) % n → d ≡ 0
comes_back k d n low e =
    let a : ℕ = k % n in let q : ℕ = k / n in let whole : q * n + a ≡ k = div-add-mod' k n in let small : a < n = mod_below k n (omega (arith, low)) in
    dite (dec_lt (a + d) n)
    (λ l. let x : q * n + (a + d) ≡ k + d = omega (arith, whole) in let y : (q * n + (a + d)) % n ≡ a + d = mod-mul-add q n (a + d) l in let z : (k + d) % n ≡ a + d = ap (λ (u : ℕ). u % n) (sym x) ∙ y in omega (arith, z, e))
    (λ l. let c : ℕ = a + d - n in let m : (q + 1) * n ≡ q * n + 1 * n = add-mul q 1 n in let x : (q + 1) * n + c ≡ k + d = omega (arith, m, whole, l) in
    let y : ((q + 1) * n + c) % n ≡ c = mod-mul-add (q + 1) n c (omega (arith, small, low, l)) in let z : (k + d) % n ≡ c = ap (λ (u : ℕ). u % n) (sym x) ∙ y in omega (arith, z, e, small, low, l))

-- a row lies on the path at its distance
pub reaches : (n k r : ℕ) → r < n → r ≡ (k + distance n k r) % n
reaches n k r low =
    let a : ℕ = k % n in let q : ℕ = k / n in let whole : q * n + a ≡ k = div-add-mod' k n in let small : a < n = mod_below k n (omega (arith, low)) in
    dite (dec_lt r a)
    (λ l. let x : distance n k r ≡ r + n - a = ap (λ (u : ℕ). u % n) (let y : r + n - a ≡ 0 * n + (r + n - a) = omega arith in y) ∙ mod-mul-add 0 n (r + n - a) (omega (arith, l, small)) in
    let m : (q + 1) * n ≡ q * n + 1 * n = add-mul q 1 n in let y : k + (r + n - a) ≡ (q + 1) * n + r = omega (arith, m, whole, l, small) in
    sym (ap (λ (u : ℕ). (k + u) % n) x ∙ ap (λ (u : ℕ). u % n) y ∙ mod-mul-add (q + 1) n r low))
    (λ l. let x : distance n k r ≡ r - a = ap (λ (u : ℕ). u % n) (let y : r + n - a ≡ 1 * n + (r - a) = omega (arith, l, small) in y) ∙ mod-mul-add 1 n (r - a) (omega (arith, l, low)) in
    let y : k + (r - a) ≡ q * n + r = omega (arith, whole, l) in
    sym (ap (λ (u : ℕ). (k + u) % n) x ∙ ap (λ (u : ℕ). u % n) y ∙ mod-mul-add q n r low))

pub distance_below : (n k r : ℕ) → r < n → distance n k r < n
distance_below n k r low = mod_below (r + n - k % n) n (omega (arith, low))

-- and at no other
pub at_distance : (n k r d : ℕ) → r < n → d < n → r ≡ (k + d) % n → d ≡ distance n k r
at_distance n k r d low less e =
    let a : ℕ = k % n in let q : ℕ = k / n in let whole : q * n + a ≡ k = div-add-mod' k n in let small : a < n = mod_below k n (omega (arith, low)) in
    dite (dec_lt (a + d) n)
    (λ l. let x : q * n + (a + d) ≡ k + d = omega (arith, whole) in let z : (k + d) % n ≡ a + d = ap (λ (u : ℕ). u % n) (sym x) ∙ mod-mul-add q n (a + d) l in
    let y : r + n - a ≡ 1 * n + d = omega (arith, z, e, small) in sym (ap (λ (u : ℕ). u % n) y ∙ mod-mul-add 1 n d less))
    (λ l. let c : ℕ = a + d - n in let m : (q + 1) * n ≡ q * n + 1 * n = add-mul q 1 n in let x : (q + 1) * n + c ≡ k + d = omega (arith, m, whole, l) in
    let z : (k + d) % n ≡ c = ap (λ (u : ℕ). u % n) (sym x) ∙ mod-mul-add (q + 1) n c (omega (arith, small, less, l)) in
    let y : r + n - a ≡ 0 * n + d = omega (arith, z, e, small, l) in sym (ap (λ (u : ℕ). u % n) y ∙ mod-mul-add 0 n d less))
