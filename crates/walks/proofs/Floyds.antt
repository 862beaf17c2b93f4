-- Ways over more vertices are no longer, and ways over vertices that are done are no shorter.
use Rattle.std.proofs.Common.{◌≡◌, ℕ, zero, suc, ◌+◌, ◌<◌, ℤ, pos, ◌≤ℤ◌, inl, inr, refl, sym, subst, ◌∙◌, arith}
use Rattle.std.specs.Int.{int_min}
use Rattle.std.proofs.lemmas.Bool.{cases_eq}
use Rattle.lane_kernels.specs.MinPlus.{plus, IsWeight}
use Rattle.walks.specs.Floyd.{floyd, AreEdges}
use Rattle.walks.proofs.Sums.{at_most_itself, at_most_both, same_from_both, min_first, min_second, min_greatest, min_weight, plus_weight, plus_grows, plus_three, plus_first, plus_second, min_is}

pub floyd_start : (e : ℕ → ℕ → ℤ) (u v : ℕ) → floyd e 0 u v ≡ e u v
unfolding floyd
floyd_start e u v = refl

pub floyd_step : (e : ℕ → ℕ → ℤ) (m u v : ℕ) → floyd e (suc m) u v ≡ int_min (floyd e m u v) (plus (floyd e m u m) (floyd e m m v))
unfolding floyd
floyd_step e m u v = refl

pub floyd_weight : (e : ℕ → ℕ → ℤ) (m u v : ℕ) → AreEdges e → IsWeight (floyd e m u v)
unfolding floyd
floyd_weight e zero u v h = h.weights u v
floyd_weight e (suc m) u v h =
    min_weight (floyd e m u v) (plus (floyd e m u m) (floyd e m m v)) (floyd_weight e m u v h)
    (plus_weight (floyd e m u m) (floyd e m m v) (floyd_weight e m u m h) (floyd_weight e m m v h))

-- one vertex more
pub over_old : (e : ℕ → ℕ → ℤ) (m u v : ℕ) → floyd e (suc m) u v ≤ℤ floyd e m u v
over_old e m u v = rw floyd_step (min_first (floyd e m u v) (plus (floyd e m u m) (floyd e m m v)))

pub over_next : (e : ℕ → ℕ → ℤ) (m u v : ℕ) → floyd e (suc m) u v ≤ℤ plus (floyd e m u m) (floyd e m m v)
over_next e m u v = rw floyd_step (min_second (floyd e m u v) (plus (floyd e m u m) (floyd e m m v)))

pub over_least : (e : ℕ → ℕ → ℤ) (m u v : ℕ) (z : ℤ) → z ≤ℤ floyd e m u v → z ≤ℤ plus (floyd e m u m) (floyd e m m v) → z ≤ℤ floyd e (suc m) u v
over_least e m u v z p q = rw floyd_step (min_greatest (floyd e m u v) (plus (floyd e m u m) (floyd e m m v)) z p q)

pub floyd_self : (e : ℕ → ℕ → ℤ) (m u : ℕ) → AreEdges e → floyd e m u u ≡ pos 0
floyd_self e zero u h = floyd_start e u u ∙ h.itself u
floyd_self e (suc m) u h =
    let low : floyd e (suc m) u u ≤ℤ pos 0 = subst (λ z. floyd e (suc m) u u ≤ℤ z) (floyd_self e m u h) (over_old e m u u) in
    same_from_both (floyd e (suc m) u u) (pos 0) low (floyd_weight e (suc m) u u h).from_zero

pub floyd_falls : (e : ℕ → ℕ → ℤ) (m k u v : ℕ) → floyd e (m + k) u v ≤ℤ floyd e m u v
floyd_falls e m zero u v = subst (λ s. floyd e s u v ≤ℤ floyd e m u v) (let same : m ≡ m + 0 = omega arith in same) (at_most_itself (floyd e m u v))
floyd_falls e m (suc k) u v =
    subst (λ s. floyd e s u v ≤ℤ floyd e m u v) (let same : suc (m + k) ≡ m + suc k = omega arith in same)
    (at_most_both (floyd e (suc (m + k)) u v) (floyd e (m + k) u v) (floyd e m u v) (over_old e (m + k) u v) (floyd_falls e m k u v))

-- from and to the vertex that was just done nothing changes
to_next : (e : ℕ → ℕ → ℤ) (m u : ℕ) → AreEdges e → floyd e m u m ≤ℤ floyd e (suc m) u m
to_next e m u h =
    over_least e m u m (floyd e m u m) (at_most_itself (floyd e m u m)) (plus_first (floyd e m u m) (floyd e m m m) (floyd_weight e m u m h) (floyd_weight e m m m h))

from_next : (e : ℕ → ℕ → ℤ) (m v : ℕ) → AreEdges e → floyd e m m v ≤ℤ floyd e (suc m) m v
from_next e m v h =
    over_least e m m v (floyd e m m v) (at_most_itself (floyd e m m v)) (plus_second (floyd e m m m) (floyd e m m v) (floyd_weight e m m m h) (floyd_weight e m m v h))

-- a sum of four is no less than its outer two
outer : (a b c d : ℤ) → IsWeight a → IsWeight b → IsWeight c → IsWeight d → plus a d ≤ℤ plus (plus a b) (plus c d)
outer a b c d ha hb hc hd = plus_grows a d (plus a b) (plus c d) (plus_first a b ha hb) (plus_second c d hc hd)

at_sum : (z x y a b : ℤ) → x ≡ a → y ≡ b → z ≤ℤ plus a b → z ≤ℤ plus x y
at_sum z x y a b e f h = subst (λ v. z ≤ℤ plus v y) (sym e) (subst (λ v. z ≤ℤ plus a v) (sym f) h)

-- z is at most the direct way uv and the way over m; then also any sum of ways to k and from k, each of which may go over m
through : (z uv uk kv um mk km mv : ℤ) → IsWeight uk → IsWeight kv → IsWeight um → IsWeight mk → IsWeight km → IsWeight mv
    → z ≤ℤ uv → z ≤ℤ plus um mv → uv ≤ℤ plus uk kv → um ≤ℤ plus uk km → mv ≤ℤ plus mk kv
    → z ≤ℤ plus (int_min uk (plus um mk)) (int_min kv (plus km mv))
through z uv uk kv um mk km mv huk hkv hum hmk hkm hmv low low' direct to from = elim (min_is uk (plus um mk)) [
  | inl e ↦ elim (min_is kv (plus km mv)) [
    | inl f ↦ at_sum z _ _ uk kv e f (at_most_both z uv (plus uk kv) low direct)
    | inr f ↦ at_sum z _ _ uk (plus km mv) e f
        (at_most_both z (plus um mv) (plus uk (plus km mv)) low'
        (subst (λ v. plus um mv ≤ℤ v) (plus_three uk km mv huk hkm hmv) (plus_grows um mv (plus uk km) mv to (at_most_itself mv))))
  ]
  | inr e ↦ elim (min_is kv (plus km mv)) [
    | inl f ↦ at_sum z _ _ (plus um mk) kv e f
        (at_most_both z (plus um mv) (plus (plus um mk) kv) low'
        (subst (λ v. plus um mv ≤ℤ v) (sym (plus_three um mk kv hum hmk hkv)) (plus_grows um mv um (plus mk kv) (at_most_itself um) from)))
    | inr f ↦ at_sum z _ _ (plus um mk) (plus km mv) e f (at_most_both z (plus um mv) (plus (plus um mk) (plus km mv)) low' (outer um mk km mv hum hmk hkm hmv))
  ]
]

over_earlier : (e : ℕ → ℕ → ℤ) (m k u v : ℕ) → AreEdges e → ((x y : ℕ) → floyd e m x y ≤ℤ plus (floyd e m x k) (floyd e m k y))
    → floyd e (suc m) u v ≤ℤ plus (floyd e (suc m) u k) (floyd e (suc m) k v)
over_earlier e m k u v h done =
    at_sum (floyd e (suc m) u v) _ _ _ _ (floyd_step e m u k) (floyd_step e m k v)
    (through (floyd e (suc m) u v) (floyd e m u v) (floyd e m u k) (floyd e m k v) (floyd e m u m) (floyd e m m k) (floyd e m k m) (floyd e m m v)
    (floyd_weight e m u k h) (floyd_weight e m k v h) (floyd_weight e m u m h) (floyd_weight e m m k h) (floyd_weight e m k m h) (floyd_weight e m m v h)
    (over_old e m u v) (over_next e m u v) (done u v) (done u m) (done m v))

-- a way over a vertex that is done is no shorter
pub over_done : (e : ℕ → ℕ → ℤ) (m k u v : ℕ) → AreEdges e → k < m → floyd e m u v ≤ℤ plus (floyd e m u k) (floyd e m k v)
over_done e zero k u v h lt = absurd (omega arith)
over_done e (suc m) k u v h lt = elim (cases_eq k m) [
  | inl is ↦
      subst (λ x. floyd e (suc m) u v ≤ℤ plus (floyd e (suc m) u x) (floyd e (suc m) x v)) (sym is)
      (at_most_both (floyd e (suc m) u v) (plus (floyd e m u m) (floyd e m m v)) (plus (floyd e (suc m) u m) (floyd e (suc m) m v)) (over_next e m u v)
      (plus_grows (floyd e m u m) (floyd e m m v) (floyd e (suc m) u m) (floyd e (suc m) m v) (to_next e m u h) (from_next e m v h)))
  | inr ne ↦ over_earlier e m k u v h (λ x y. over_done e m k x y h (omega arith))
]
