-- What stays true when records are added: each event adds at most one.
use Rattle.std.proofs.Common.{ℕ, ◌<◌, ◌≤◌, Bool, arith}
use Rattle.core_state.specs.Graph.{Graph, Plan}
use Rattle.core_state.specs.Tests.{is_replaced_for, is_struck, is_struck_version, is_version, is_later_version, is_replaced_below, is_closed}
use Rattle.core_state.specs.Laws.{Grounded, Shown, BlockStruck, AllClosed}
use Rattle.core_state.specs.Laws.Grounded.{descriptor as g_descriptor, notify as g_notify, struck as g_struck, newer, older}
use Rattle.core_state.specs.Laws.Shown.{descriptor as s_descriptor, notify as s_notify, struck as s_struck, other}
use Rattle.graph_model.specs.declared.record.Cause.{Cause}
use Rattle.graph_model.specs.declared.record.Record.{Record}

module _ (g : Graph) (m n : (Record → Bool) → ℕ) (more : (p : Record → Bool) → m p ≤ n p) where
  some : (p : Record → Bool) → 0 < m p → 0 < n p
  some p z = let a = more p in omega (arith, a, z)

  pub grounded_grows : (c : Cause) → Grounded g m c → Grounded g n c
  grounded_grows c g_descriptor = g_descriptor
  grounded_grows c g_notify = g_notify
  grounded_grows c (g_struck b v w) = g_struck b v w
  grounded_grows c (newer b v u k l d less not_root reads here by) = newer b v u k l d less not_root reads (some (is_replaced_for k l d) here) (grounded_grows d by)
  grounded_grows c (older b v u l d less here by) = older b v u l d less (some (is_replaced_for (g.writer b u) l d) here) (grounded_grows d by)

  pub shown_grows : (k l : ℕ) (c : Cause) → Shown g m (Grounded g m) k l c → Shown g n (Grounded g n) k l c
  shown_grows k l c (s_descriptor z) = s_descriptor (some (is_struck k l Rattle.graph_model.specs.declared.record.Hit.TheVariants.Descriptor) z)
  shown_grows k l c (s_notify w z) = s_notify w (some (is_struck k l (Rattle.graph_model.specs.declared.record.Hit.TheVariants.Notify w)) z)
  shown_grows k l c (s_struck b v of z) = s_struck b v of (some (is_struck_version b v) z)
  shown_grows k l c (other b v u of ne z by) = other b v u of ne (some (is_version b u) z) (grounded_grows (Rattle.graph_model.specs.declared.record.Cause.TheVariants.Block b v (Rattle.graph_model.specs.declared.record.Found.TheVariants.Other u)) by)

  -- the cause of a replacement that is shown is grounded
  pub shown_grounded : (k l : ℕ) (c : Cause) → Shown g m (Grounded g m) k l c → Grounded g m c
  shown_grounded k l c (s_descriptor z) = g_descriptor
  shown_grounded k l c (s_notify w z) = g_notify
  shown_grounded k l c (s_struck b v of z) = g_struck b v v
  shown_grounded k l c (other b v u of ne z by) = by

  pub block_struck_grows : (p : Plan) (k : ℕ) → BlockStruck g p m k → BlockStruck g p n k
  block_struck_grows p k z = let a = more (is_struck_version (g.block k) (g.version k)) in let b = more (is_later_version (g.block k) (g.version k)) in let c = more (is_replaced_below g (g.block k) (g.version k)) in omega (arith, a, b, c, z)

  pub all_closed_grows : (p : Plan) (k l : ℕ) → AllClosed g p m k l → AllClosed g p n k l
  all_closed_grows p k l all i low = some (is_closed k l i) (all i low)
