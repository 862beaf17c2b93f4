-- What lies in the root's block at home is the root's value, once it was written.
use Rattle.std.proofs.Common.{◌≡◌, ℕ, ◌<◌, Bool, true, false, cond, eqb, List, [], ◌∷◌, length, get_or, arith, sym, ap, refl, ◌∙◌, subst, Option, Some, None}
use mathlib.Core.Option.{some, none}
use Rattle.core_state.specs.Graph.{Setting, Sound}
use Rattle.core_state.specs.Graph.Reached.{itself}
use Rattle.core_state.specs.Counts.{bump, count, in_hand, total_of}
use Rattle.core_state.specs.Tests.{is_hand}
use Rattle.core_state.specs.Change.{block_of, cells_or, held_by, held_in, or_else}
use Rattle.core_state.specs.Invariant.{Invariant}
use Rattle.core_state.specs.Words.{Shape}
use Rattle.core_state.specs.declared.block.BlockCells.{BlockCells}
use Rattle.core_state.specs.declared.views.Hand.{Hand}
use Rattle.core_state.specs.declared.views.View.{View}
use Rattle.core_state.proofs.Base.Tables.{state_sums}
use Rattle.core_steps.proofs.AnyBlock.{root_good}
use Rattle.core_steps.specs.Seat.{cells_in}
use Rattle.core_steps.specs.Table.{Plain, IsSound, FitsCells, core_by, home_at}

pub none_in : (b : ℕ) (hs : List Hand) → count (is_hand b) hs ≡ 0 → held_in b hs ≡ none
none_in b [] z = refl
none_in b (x ∷ xs) z = by (none_in b xs) (eqb b x.block) z
  where
    by : (count (is_hand b) xs ≡ 0 → held_in b xs ≡ none) → (t : Bool) → bump t (count (is_hand b) xs) ≡ 0 → cond t (some x.held) (held_in b xs) ≡ none
    by r true y = absurd (omega (arith, y))
    by r false y = r y

pub none_held : (b : ℕ) (vs : List View) → total_of vs (in_hand b) ≡ 0 → held_by b vs ≡ none
unfolding total_of
none_held b [] z = refl
none_held b (v ∷ vs) z = ap (λ y. or_else y (held_by b vs)) (none_in b v.hands (omega (arith, z))) ∙ none_held b vs (omega (arith, z))

-- with words, blocks at home and views that meet the invariant, where a block that is at home is in no hand
module _ (e : Setting) (fit : Sound e) (h : Shape) (ws : List ℕ) (bs : List (Option BlockCells)) (vs : List View) (i : Invariant e (core_by h ws bs vs)) (home : (b : ℕ) (x : BlockCells) → get_or bs b None ≡ Some x → total_of vs (in_hand b) ≡ 0) where
  block_home : (b : ℕ) (x : BlockCells) → get_or bs b None ≡ Some x → (core_by h ws bs vs).block b ≡ x
  unfolding block_of
  block_home b x is = ap (cells_or (home_at bs b)) (none_held b vs (home b x is)) ∙ ap cells_in is

  -- what the root's block holds at home is the root's value, where it was written
  pub root_value : (x : BlockCells) → get_or bs (e.graph.block e.graph.root) None ≡ Some x → 0 < x.tag → x.cells ≡ e.graph.value e.graph.root
  root_value x is = subst (λ (y : BlockCells). 0 < y.tag → y.cells ≡ e.graph.value e.graph.root) (block_home (e.graph.block e.graph.root) x is)
      (root_good e (core_by h ws bs vs) i fit (state_sums {S = BlockCells} h (λ _. home_at bs) (record { words = ws; homes = []; views = vs })))

module _ (e : Setting) (p : Plain) (s : IsSound e p) where
  pub root_fits : FitsCells (home_at p.blocks (e.graph.block e.graph.root)) p.root_room
  root_fits = by (get_or p.blocks (e.graph.block e.graph.root) None) refl
    where
      by : (x : Option BlockCells) → get_or p.blocks (e.graph.block e.graph.root) None ≡ x → FitsCells (cells_in x) p.root_room
      by None q full = absurd (omega (arith, full))
      by (Some x) q full = ap length (root_value e s.setting p.shape p.words p.blocks p.views s.holds s.at_home x q full) ∙ s.setting.value_fits e.graph.root itself ∙ sym s.room_is
