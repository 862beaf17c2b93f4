-- Products of numbers within limits.
use Rattle.std.proofs.Common.{ℕ, ◌+◌, ◌*◌, ◌≤◌, arith}
use Rattle.std.proofs.Math.Nat.{mul-le-mul_left, mul-le-mul_right}

product_within : (a b c d : ℕ) → a ≤ c → b ≤ d → a * b ≤ c * d
product_within a b c d low high = omega (arith, mul-le-mul_left a high, mul-le-mul_right d low)

-- the turns of a run, factor by factor
pub four_factors : (m n t e u : ℕ) → m ≤ 4096 → n ≤ 4096 → t ≤ 1048576 → e ≤ 41943040 → u ≤ 1048576
    → 200 * m * (2 * n + 1) * (t + 1) * (e + u + 2) ≤ 6711705600 * 1048577 * 42991618
four_factors m n t e u few short small thin low =
    product_within (200 * m * (2 * n + 1) * (t + 1)) (e + u + 2) (6711705600 * 1048577) 42991618
    (product_within (200 * m * (2 * n + 1)) (t + 1) 6711705600 1048577 (product_within (200 * m) (2 * n + 1) 819200 8193 (omega arith) (omega arith)) (omega arith))
    (omega arith)

pub five_factors : (m n t e u : ℕ) → m ≤ 4096 → n ≤ 4096 → t ≤ 1048576 → e ≤ 41943040 → u ≤ 1048576
    → 200 * m * (2 * n + 1) * (t + 1) * (e + u + 2) * (e + u + 2) ≤ 6711705600 * 1048577 * 42991618 * 42991618
five_factors m n t e u few short small thin low =
    product_within (200 * m * (2 * n + 1) * (t + 1) * (e + u + 2)) (e + u + 2) (6711705600 * 1048577 * 42991618) 42991618
    (four_factors m n t e u few short small thin low) (omega arith)
