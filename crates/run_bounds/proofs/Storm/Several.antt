-- Turns that are enough for several workers, where a third of the turns of each entry of the schedule are moves: a move is paid by a job that began, a life that was replaced, a bad block that was read or a strike that was made.
use Rattle.std.proofs.Common.{◌≡◌, ℕ, ◌+◌, ◌-◌, ◌*◌, ◌<◌, ◌≤◌, arith, subst}
use Rattle.std.proofs.Math.Nat.{mul-le-mul_left}
use Rattle.std.proofs.lemmas.Nat.{mul-le}

-- what one life more is charged: its jobs, its replacement and a bad block
abbrev life_charge : ℕ → ℕ → ℕ
life_charge t p = 80 * ((t + 1) * (2 * p + 4)) + 2 * (20 * (t + 1) * (p + 4))

-- what one strike more is charged: its two steps, its replacements, and a bad block of each task
abbrev strike_charge : ℕ → ℕ → ℕ
strike_charge t p = 8 + (20 * (t + 1) * (p + 4)) * (t + 1) + 2 * (20 * (t + 1) * (p + 4))

abbrev square : ℕ → ℕ → ℕ
square t p = (t + 1) * (p + t + 2) * (p + t + 2)

-- three times as much is no more than 200 times the square, where there is a task
life_sum : (s p : ℕ) → 3 * life_charge (s + 1) p + (s + 2) * (200 * (p * p) + 200 * (s * s) + 400 * (p * s) + 600 * p + 1200 * s + 360) ≡ 200 * square (s + 1) p
life_sum s p = grind arith

strike_sum : (s p : ℕ) → 3 * strike_charge (s + 1) p + (s + 2) * (200 * (p * p) + 200 * (s * s) + 340 * (p * s) + 960 * p + 960 * s + 828) + 12 * s ≡ 200 * square (s + 1) p
strike_sum s p = grind arith

first_sum : (s p : ℕ) → 3 * (160 * ((s + 1 + 1) * (p + (s + 1) + 2))) + 4 + ((s + 2) * (200 * (p * p) + 200 * (s * s) + 400 * (p * s) + 720 * p + 720 * s + 358) + 2 * s) ≡ 200 * square (s + 1) p
first_sum s p = grind arith

-- a schedule of m turns, n strikes, r replaced lives, t tasks with p places
module _ (m n r t p : ℕ) (some : 0 < m) (tasks : 0 < t) where
  one_more : t - 1 + 1 ≡ t
  one_more = omega (arith, tasks)

  life_low : 3 * life_charge t p ≤ 200 * square t p
  life_low = subst (λ (k : ℕ). 3 * life_charge k p ≤ 200 * square k p) one_more (let a = life_sum (t - 1) p in omega (arith, a))

  strike_low : 3 * strike_charge t p ≤ 200 * square t p
  strike_low = subst (λ (k : ℕ). 3 * strike_charge k p ≤ 200 * square k p) one_more (let a = strike_sum (t - 1) p in omega (arith, a))

  first_low : 3 * (160 * ((t + 1) * (p + t + 2))) + 4 ≤ 200 * square t p
  first_low = subst (λ (k : ℕ). 3 * (160 * ((k + 1) * (p + k + 2))) + 4 ≤ 200 * square k p) one_more (let a = first_sum (t - 1) p in omega (arith, a))

  -- what is counted for each turn of a schedule, with one more, is less than the number
  below : (each turns : ℕ) → each + 1 ≤ 200 * ((n + r + 1) * ((t + 1) * (p + t + 2)) * (p + t + 2)) → turns ≤ m * each → turns < 200 * m * (n + r + 1) * (t + 1) * (p + t + 2) * (p + t + 2)
  below each turns low made =
      let x : m * (each + 1) ≤ m * (200 * ((n + r + 1) * ((t + 1) * (p + t + 2)) * (p + t + 2))) = mul-le-mul_left m low in
      let y : m * (each + 1) ≡ m * each + m = grind arith in
      let z : m * (200 * ((n + r + 1) * ((t + 1) * (p + t + 2)) * (p + t + 2))) ≡ 200 * m * (n + r + 1) * (t + 1) * (p + t + 2) * (p + t + 2) = grind arith in omega (arith, x, y, z, made, some)

  -- what all moves together are charged
  charged : (most bads struck : ℕ) → most ≤ 20 * (t + 1) * (p + 4) → bads ≤ n * (t + 1) + r → struck ≤ n → most * (r + bads + 2 * struck) ≤ 2 * (r * (20 * (t + 1) * (p + 4))) + n * ((20 * (t + 1) * (p + 4)) * (t + 1) + 2 * (20 * (t + 1) * (p + 4)))
  charged most bads struck most_few bads_few struck_few =
      let a : most * (r + bads + 2 * struck) ≤ 20 * (t + 1) * (p + 4) * (r + (n * (t + 1) + r) + 2 * n) = mul-le most (r + bads + 2 * struck) (20 * (t + 1) * (p + 4)) (r + (n * (t + 1) + r) + 2 * n) most_few (omega (arith, bads_few, struck_few)) in
      let b : 20 * (t + 1) * (p + 4) * (r + (n * (t + 1) + r) + 2 * n) ≡ 2 * (r * (20 * (t + 1) * (p + 4))) + n * ((20 * (t + 1) * (p + 4)) * (t + 1) + 2 * (20 * (t + 1) * (p + 4))) = grind arith in omega (arith, a, b)

  pub several_enough : (jobs most bads struck moves turns : ℕ) → jobs ≤ 160 * ((t + 1) * (p + t + 2)) + r * (80 * ((t + 1) * (2 * p + 4))) + 8 * n → most ≤ 20 * (t + 1) * (p + 4) → bads ≤ n * (t + 1) + r → struck ≤ n
      → moves ≤ jobs + most * (r + bads + 2 * struck) → turns ≤ m * (3 * (moves + 1)) → turns < 200 * m * (n + r + 1) * (t + 1) * (p + t + 2) * (p + t + 2)
  several_enough jobs most bads struck moves turns jobs_few most_few bads_few struck_few moves_few made =
      let sum = charged most bads struck most_few bads_few struck_few in
      let lives : r * (3 * life_charge t p) ≤ r * (200 * square t p) = mul-le-mul_left r life_low in
      let strikes : n * (3 * strike_charge t p) ≤ n * (200 * square t p) = mul-le-mul_left n strike_low in
      let a : r * (3 * life_charge t p) ≡ 3 * (r * (80 * ((t + 1) * (2 * p + 4)))) + 3 * (2 * (r * (20 * (t + 1) * (p + 4)))) = grind arith in
      let b : n * (3 * strike_charge t p) ≡ 3 * (8 * n) + 3 * (n * ((20 * (t + 1) * (p + 4)) * (t + 1) + 2 * (20 * (t + 1) * (p + 4)))) = grind arith in
      let c : 200 * ((n + r + 1) * ((t + 1) * (p + t + 2)) * (p + t + 2)) ≡ n * (200 * square t p) + r * (200 * square t p) + 200 * square t p = grind arith in
      let d = first_low in
      below (3 * (moves + 1)) turns (omega (arith, sum, lives, strikes, a, b, c, d, jobs_few, moves_few)) made
