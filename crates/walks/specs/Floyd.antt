-- Floyd-Warshall without tiles.
use Rattle.std.specs.Prelude.{◌≡◌, ℕ, zero, suc, ℤ, pos}
use Rattle.std.specs.Int.{int_min}
use Rattle.lane_kernels.specs.MinPlus.{plus, IsWeight}

-- from u to v by ways over the vertices below m
unfoldable pub floyd : (ℕ → ℕ → ℤ) → ℕ → ℕ → ℕ → ℤ
floyd e zero u v = e u v
floyd e (suc m) u v = int_min (floyd e m u v) (plus (floyd e m u m) (floyd e m m v))

-- weights between vertices, where the one to oneself is 0
pub record AreEdges (e : ℕ → ℕ → ℤ) : Type 0 where
  pub weights : (u v : ℕ) → IsWeight (e u v)
  pub itself : (u : ℕ) → e u u ≡ pos 0
