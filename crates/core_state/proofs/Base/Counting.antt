-- Two cases for a count after one entry was added: the entry is not the one that is counted, or it is that very one.
use Rattle.std.proofs.Common.{◌≡◌, ◌≢◌, ◌⊎◌, ℕ, ◌+◌, ◌<◌, ◌≤◌, Bool, true, false, ◌&&◌, eqb, sym, ap, refl, arith, subst, ⊎_elim, inl, inr, eq-eqb}
use mathlib.Core.Logic.{dite}
use native.Mathlib.Decide.{ℕ_discrete}
use Rattle.std.proofs.lemmas.Bool.Decides.{eqb_tells}
use Rattle.core_state.specs.Counts.{hit, bump}
use Rattle.core_state.specs.Tests.{two, three}

pub hit_le : (b : Bool) → hit b ≤ 1
hit_le true = omega arith
hit_le false = omega arith

pub alike : (P : ℕ → Type 0) (a x : ℕ) → a ≡ x → P x → P a
alike P a x e t = subst P (sym e) t

pub split : (P : ℕ → Type 0) (a x : ℕ) → (a ≢ x → P a) → P x → P a
split P a x f t = dite (ℕ_discrete a x) (λ e. alike P a x e t) (λ n. f n)

pub eqb_here : (a : ℕ) → eqb a a ≡ true
eqb_here a = eq-eqb a a refl

pub three_here : (a b c : ℕ) → hit (three a b c a b c) ≡ 1
three_here a b c = rw (eqb_here a, eqb_here b, eqb_here c)

pub three_else : (a b c x y z : ℕ) → (hit (three a b c x y z) ≡ 0) ⊎ ((a ≡ x) × (b ≡ y) × (c ≡ z))
three_else a b c x y z = ⊎_elim (λ p. ⊎_elim (λ q. ⊎_elim (λ r. inr (p.1, q.1, r.1)) (λ r. inl (rw (p.0, q.0, r.0))) (eqb_tells c z)) (λ q. inl (rw (p.0, q.0))) (eqb_tells b y)) (λ p. inl (rw p.0)) (eqb_tells a x)

pub three_apart : (a b c x y z : ℕ) → ((a ≡ x) × (b ≡ y) × (c ≡ z) → ⊥) → hit (three a b c x y z) ≡ 0
three_apart a b c x y z f = ⊎_elim (λ e. e) (λ e. absurd (f e)) (three_else a b c x y z)

pub bump_is : (b : Bool) (n : ℕ) → bump b n ≡ hit b + n
bump_is true n = omega arith
bump_is false n = omega arith

-- tests of two numbers
pub two_tells : (a b x y : ℕ) → (two a b x y ≡ false) ⊎ ((two a b x y ≡ true) × (a ≡ x) × (b ≡ y))
two_tells a b x y = ⊎_elim (λ p. ⊎_elim (λ q. inr (rw (p.0, q.0), p.1, q.1)) (λ q. inl (rw (p.0, q.0))) (eqb_tells b y)) (λ p. inl (rw p.0)) (eqb_tells a x)

pub two_here : (a b : ℕ) → two a b a b ≡ true
two_here a b = rw (eqb_here a, eqb_here b)

pub some_two : (a b x y : ℕ) → 0 < bump (two a b x y) 0 → (a ≡ x) × (b ≡ y)
some_two a b x y some = ⊎_elim (λ z. absurd (let p : bump (two a b x y) 0 ≡ 0 = ap (λ t. bump t 0) z in omega (arith, p, some))) (λ z. (z.1, z.2)) (two_tells a b x y)

pub some_one : (a x : ℕ) → 0 < bump (eqb a x) 0 → a ≡ x
some_one a x some = ⊎_elim (λ z. z.1) (λ z. absurd (let p : bump (eqb a x) 0 ≡ 0 = ap (λ t. bump t 0) z.0 in omega (arith, p, some))) (eqb_tells a x)

-- one of two numbers differs
pub not_two : (a b x y : ℕ) → ((a ≡ x) × (b ≡ y) → ⊥) → two a b x y ≡ false
not_two a b x y f = ⊎_elim (λ z. z) (λ z. absurd (f (z.1, z.2))) (two_tells a b x y)

pub bump_le : (b : Bool) → bump b 0 ≤ 1
bump_le true = omega arith
bump_le false = omega arith

pub not_here : (a x : ℕ) → a ≢ x → hit (eqb a x) ≡ 0
not_here a x ne = ⊎_elim (λ z. absurd (ne z.1)) (λ z. ap hit z.0) (eqb_tells a x)

-- what holds of two numbers and of all other pairs
pub split2 : (P : ℕ → ℕ → Type 0) (x y : ℕ) → ((a b : ℕ) → two a b x y ≡ false → P a b) → P x y → (a b : ℕ) → P a b
split2 P x y other here a b = ⊎_elim (λ z. other a b z) (λ z. subst (λ o. P o b) (sym z.1) (subst (λ o. P x o) (sym z.2) here)) (two_tells a b x y)

pub both : (a b : Bool) → (a && b) ≡ true → (a ≡ true) × (b ≡ true)
both true b e = (refl, e)
both false b e = absurd cc
