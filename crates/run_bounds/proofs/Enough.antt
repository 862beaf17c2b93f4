-- Turns that are counted by a schedule, a plan, the tasks and their places are enough.
use Rattle.std.proofs.Common.{◌≡◌, ℕ, ◌+◌, ◌*◌, ◌-◌, ◌^◌, ◌<◌, ◌≤◌, min, max, length, arith, ap}
use Rattle.std.proofs.Math.Nat.{le-max_left, le-min}
use Rattle.graph_model.specs.Graph.{Graph as TaskGraph}
use Rattle.run_bounds.specs.Budgets.{all_places, enough_turns}
use Rattle.run_bounds.specs.Storm.{enough_turns_of}

-- a product is at least each factor, where the other is not zero
as_much : (x m : ℕ) → 0 < m → x ≤ x * m
as_much x m some = let a : x * 1 ≤ x * m = Rattle.std.proofs.Math.Nat.mul-le-mul_left x (omega (arith, some)) in omega (arith, a)

some_product : (a b : ℕ) → 0 < a → 0 < b → 0 < a * b
some_product a b some other = let c = as_much a b other in omega (arith, c, some)

ample : (s n t q : ℕ) → 0 < s → 0 < q → 200 * (t + 1) * q ≤ 200 * s * (2 * n + 1) * (t + 1) * q * q
ample s n t q some room = let m : ℕ = s * (2 * n + 1) * q in
    let positive : 0 < m = some_product (s * (2 * n + 1)) q (some_product s (2 * n + 1) some (omega arith)) room in
    let a = as_much (200 * (t + 1) * q) m positive in
    let b : 200 * (t + 1) * q * m ≡ 200 * s * (2 * n + 1) * (t + 1) * q * q = omega arith in omega (arith, a, b)

counted : (t p : ℕ) → t ≤ 1048576 → p ≤ 41943040 → 200 * (t + 1) * (p + t + 2) ≤ 2 ^ 64 - 1
counted t p tasks places =
    let a : (t + 1) * (p + t + 2) ≤ (t + 1) * 42991618 = Rattle.std.proofs.Math.Nat.mul-le-mul_left (t + 1) (omega (arith, tasks, places)) in
    let b : 200 * (t + 1) * (p + t + 2) ≡ 200 * ((t + 1) * (p + t + 2)) = omega arith in omega (arith, a, b, tasks)

-- as many as any schedule and plan get, and a counter holds
pub enough_ample : (g : TaskGraph) (schedule strikes : ℕ) → 0 < schedule → length g.keys ≤ 1048576 → all_places g ≤ 41943040
    → enough_turns g ≤ min (max (200 * schedule * (2 * strikes + 1) * (length g.keys + 1) * (all_places g + length g.keys + 2) * (all_places g + length g.keys + 2)) 1000000) (2 ^ 64 - 1)
enough_ample g schedule strikes some tasks places = let t : ℕ = length g.keys in let q : ℕ = all_places g + t + 2 in
    let a = ample schedule strikes t q some (omega arith) in
    let b = le-max_left (200 * schedule * (2 * strikes + 1) * (t + 1) * q * q) 1000000 in
    le-min (omega (arith, a, b)) (counted t (all_places g) tasks places)

-- and enough for a plan of which each strike replaces one life at most, where a counter holds so many
pub enough_planned : (g : TaskGraph) (schedule strikes : ℕ) → enough_turns_of g schedule strikes strikes < 2 ^ 64
    → enough_turns_of g schedule strikes strikes ≤ min (max (200 * schedule * (2 * strikes + 1) * (length g.keys + 1) * (all_places g + length g.keys + 2) * (all_places g + length g.keys + 2)) 1000000) (2 ^ 64 - 1)
enough_planned g schedule strikes counted = let t : ℕ = length g.keys + 1 in let q : ℕ = all_places g + length g.keys + 2 in
    let twice : strikes + strikes + 1 ≡ 2 * strikes + 1 = omega arith in
    let a : 200 * schedule * (strikes + strikes + 1) * t * q * q ≡ 200 * schedule * (2 * strikes + 1) * t * q * q = ap (λ n. 200 * schedule * n * t * q * q) twice in
    let b = le-max_left (200 * schedule * (2 * strikes + 1) * t * q * q) 1000000 in
    le-min (omega (arith, a, b)) (omega (arith, counted))
