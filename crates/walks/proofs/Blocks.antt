-- Ways over a block of vertices: the last, the first or some vertex of the block that is on a way.
use Rattle.std.proofs.Common.{◌≡◌, ℕ, zero, suc, ◌+◌, ◌<◌, ◌≤◌, ℤ, ◌≤ℤ◌, ◌⊎◌, inl, inr, sym, subst, ◌∙◌, arith}
use Rattle.lane_kernels.specs.MinPlus.{plus}
use Rattle.walks.specs.Floyd.{floyd, AreEdges}
use Rattle.walks.proofs.Sums.{at_most_itself, at_most_both, plus_grows, plus_three, min_is}
use Rattle.walks.proofs.Floyds.{floyd_step, floyd_weight, over_old, over_next}

-- n more than m, counted up
abbrev pub more : ℕ → ℕ → ℕ
more m zero = m
more m (suc n) = suc (more m n)

pub more_is : (m n : ℕ) → more m n ≡ m + n
more_is m zero = omega arith
more_is m (suc n) = let e = more_is m n in omega (arith, e)

-- z is no less than the old one, or than the way over one of n vertices
abbrev pub Reaches : (ℕ → ℤ) → ℤ → ℕ → ℤ → Type 0
Reaches way old n z = (old ≤ℤ z) ⊎ ((k : ℕ) × (k < n) × (way k ≤ℤ z))

pub reaches_on : (way way' : ℕ → ℤ) (old : ℤ) (n n' : ℕ) (z z' : ℤ) → n ≤ n' → ((k : ℕ) → k < n → way' k ≤ℤ way k) → z ≤ℤ z' → Reaches way old n z → Reaches way' old n' z'
reaches_on way way' old n n' z z' le lower up (inl h) = inl (at_most_both old z z' h up)
reaches_on way way' old n n' z z' le lower up (inr (k, lt, h)) =
    inr (k, omega arith, at_most_both (way' k) z z' (at_most_both (way' k) (way k) z (lower k lt) h) up)

-- over the next vertex
pub next_is : (e : ℕ → ℕ → ℤ) (m u v : ℕ) → (floyd e (suc m) u v ≡ floyd e m u v) ⊎ (floyd e (suc m) u v ≡ plus (floyd e m u m) (floyd e m m v))
next_is e m u v = elim (min_is (floyd e m u v) (plus (floyd e m u m) (floyd e m m v))) [
  | inl h ↦ inl (floyd_step e m u v ∙ h)
  | inr h ↦ inr (floyd_step e m u v ∙ h)
]

at_least_same : (x y : ℤ) → x ≡ y → y ≤ℤ x
at_least_same x y e = subst (λ v. v ≤ℤ x) e (at_most_itself x)

-- the last vertex of the block on a way
pub last_in : (e : ℕ → ℕ → ℤ) (m n u v : ℕ) → AreEdges e → Reaches (λ k. plus (floyd e (more m n) u (more m k)) (floyd e m (more m k) v)) (floyd e m u v) n (floyd e (more m n) u v)
last_in e m zero u v h = inl (at_most_itself (floyd e m u v))
last_in e m (suc n) u v h =
    let s = more m n in
    let way : ℕ → ℤ = λ k. plus (floyd e s u (more m k)) (floyd e m (more m k) v) in
    let way' : ℕ → ℤ = λ k. plus (floyd e (suc s) u (more m k)) (floyd e m (more m k) v) in
    let old = floyd e m u v in
    let z = floyd e (suc s) u v in
    elim (next_is e s u v) [
      | inl same ↦
          reaches_on way way' old n (suc n) (floyd e s u v) z (omega arith)
          (λ k lt. plus_grows (floyd e (suc s) u (more m k)) (floyd e m (more m k) v) (floyd e s u (more m k)) (floyd e m (more m k) v) (over_old e s u (more m k)) (at_most_itself (floyd e m (more m k) v)))
          (at_least_same z (floyd e s u v) same) (last_in e m n u v h)
      | inr sum ↦ elim (last_in e m n s v h) [
        | inl direct ↦
            inr (
              n,
              omega arith,
              at_most_both (way' n) (plus (floyd e s u s) (floyd e s s v)) z
                  (plus_grows (floyd e (suc s) u s) (floyd e m s v) (floyd e s u s) (floyd e s s v) (over_old e s u s) direct) (at_least_same z (plus (floyd e s u s) (floyd e s s v)) sum),
            )
        | inr (k, lt, on) ↦
            let x = more m k in
            let ws = floyd_weight e s u s h in
            let wk = floyd_weight e s s x h in
            let wv = floyd_weight e m x v h in
            inr (
              k,
              omega arith,
              at_most_both (way' k) (plus (floyd e s u s) (floyd e s s v)) z
                  (at_most_both (way' k) (plus (floyd e s u s) (plus (floyd e s s x) (floyd e m x v))) (plus (floyd e s u s) (floyd e s s v))
                  (subst (λ y. way' k ≤ℤ y) (plus_three (floyd e s u s) (floyd e s s x) (floyd e m x v) ws wk wv)
                  (plus_grows (floyd e (suc s) u x) (floyd e m x v) (plus (floyd e s u s) (floyd e s s x)) (floyd e m x v) (over_next e s u x) (at_most_itself (floyd e m x v))))
                  (plus_grows (floyd e s u s) (plus (floyd e s s x) (floyd e m x v)) (floyd e s u s) (floyd e s s v) (at_most_itself (floyd e s u s)) on))
                  (at_least_same z (plus (floyd e s u s) (floyd e s s v)) sum),
            )
      ]
    ]

-- the first vertex of the block on a way
pub first_in : (e : ℕ → ℕ → ℤ) (m n u v : ℕ) → AreEdges e → Reaches (λ k. plus (floyd e m u (more m k)) (floyd e (more m n) (more m k) v)) (floyd e m u v) n (floyd e (more m n) u v)
first_in e m zero u v h = inl (at_most_itself (floyd e m u v))
first_in e m (suc n) u v h =
    let s = more m n in
    let way : ℕ → ℤ = λ k. plus (floyd e m u (more m k)) (floyd e s (more m k) v) in
    let way' : ℕ → ℤ = λ k. plus (floyd e m u (more m k)) (floyd e (suc s) (more m k) v) in
    let old = floyd e m u v in
    let z = floyd e (suc s) u v in
    elim (next_is e s u v) [
      | inl same ↦
          reaches_on way way' old n (suc n) (floyd e s u v) z (omega arith)
          (λ k lt. plus_grows (floyd e m u (more m k)) (floyd e (suc s) (more m k) v) (floyd e m u (more m k)) (floyd e s (more m k) v) (at_most_itself (floyd e m u (more m k))) (over_old e s (more m k) v))
          (at_least_same z (floyd e s u v) same) (first_in e m n u v h)
      | inr sum ↦ elim (first_in e m n u s h) [
        | inl direct ↦
            inr (
              n,
              omega arith,
              at_most_both (way' n) (plus (floyd e s u s) (floyd e s s v)) z
                  (plus_grows (floyd e m u s) (floyd e (suc s) s v) (floyd e s u s) (floyd e s s v) direct (over_old e s s v)) (at_least_same z (plus (floyd e s u s) (floyd e s s v)) sum),
            )
        | inr (k, lt, on) ↦
            let x = more m k in
            let wx = floyd_weight e m u x h in
            let wk = floyd_weight e s x s h in
            let wv = floyd_weight e s s v h in
            inr (
              k,
              omega arith,
              at_most_both (way' k) (plus (floyd e s u s) (floyd e s s v)) z
                  (at_most_both (way' k) (plus (plus (floyd e m u x) (floyd e s x s)) (floyd e s s v)) (plus (floyd e s u s) (floyd e s s v))
                  (subst (λ y. way' k ≤ℤ y) (sym (plus_three (floyd e m u x) (floyd e s x s) (floyd e s s v) wx wk wv))
                  (plus_grows (floyd e m u x) (floyd e (suc s) x v) (floyd e m u x) (plus (floyd e s x s) (floyd e s s v)) (at_most_itself (floyd e m u x)) (over_next e s x v)))
                  (plus_grows (plus (floyd e m u x) (floyd e s x s)) (floyd e s s v) (floyd e s u s) (floyd e s s v) on (at_most_itself (floyd e s s v))))
                  (at_least_same z (plus (floyd e s u s) (floyd e s s v)) sum),
            )
      ]
    ]

-- some vertex of the block on a way
pub some_in : (e : ℕ → ℕ → ℤ) (m n u v : ℕ) → Reaches (λ k. plus (floyd e (more m n) u (more m k)) (floyd e (more m n) (more m k) v)) (floyd e m u v) n (floyd e (more m n) u v)
some_in e m zero u v = inl (at_most_itself (floyd e m u v))
some_in e m (suc n) u v =
    let s = more m n in
    let way : ℕ → ℤ = λ k. plus (floyd e s u (more m k)) (floyd e s (more m k) v) in
    let way' : ℕ → ℤ = λ k. plus (floyd e (suc s) u (more m k)) (floyd e (suc s) (more m k) v) in
    let old = floyd e m u v in
    let z = floyd e (suc s) u v in
    elim (next_is e s u v) [
      | inl same ↦
          reaches_on way way' old n (suc n) (floyd e s u v) z (omega arith)
          (λ k lt. plus_grows (floyd e (suc s) u (more m k)) (floyd e (suc s) (more m k) v) (floyd e s u (more m k)) (floyd e s (more m k) v) (over_old e s u (more m k)) (over_old e s (more m k) v))
          (at_least_same z (floyd e s u v) same) (some_in e m n u v)
      | inr sum ↦
          inr (
            n,
            omega arith,
            at_most_both (way' n) (plus (floyd e s u s) (floyd e s s v)) z
                (plus_grows (floyd e (suc s) u s) (floyd e (suc s) s v) (floyd e s u s) (floyd e s s v) (over_old e s u s) (over_old e s s v))
                (at_least_same z (plus (floyd e s u s) (floyd e s s v)) sum),
          )
    ]
