-- Taking a block keeps a plain table sound.
use Rattle.std.proofs.Common.{◌≡◌, ℕ, ◌+◌, ◌<◌, Bool, false, cond, ne_eqb, length, get_or, set, length-set, get_or-set_same, arith, sym, ap, refl, ◌∙◌, subst, Option, Some, None}
use mathlib.Core.Option.{some}
use Rattle.core_state.specs.Graph.{Setting}
use Rattle.core_state.specs.Words.{place_of, turn}
use Rattle.core_state.specs.Counts.{bump, in_hand, total_of}
use Rattle.core_state.specs.Change.{block_of, cells_or, held_in}
use Rattle.core_state.specs.Guards.{CanTakeTurn}
use Rattle.core_state.specs.Events.{after, left}
use Rattle.core_state.specs.Events.Event.{take_turn}
use Rattle.core_state.specs.Views.{blank}
use Rattle.core_state.specs.declared.block.BlockCells.{BlockCells}
use Rattle.core_state.specs.declared.views.View.{View}
use Rattle.core_state.proofs.Base.Counting.{eqb_here}
use Rattle.core_state.proofs.Base.Words.{read_at}
use Rattle.core_state.proofs.Base.Sums.{total_set}
use Rattle.core_steps.proofs.BlocksMoved.{held_one, turn_stands, turn_inside}
use Rattle.core_steps.proofs.Changing.{elem_at}
use Rattle.core_steps.proofs.Rooting.{none_held}
use Rattle.core_steps.proofs.Sounding.{sound_quiet}
use Rattle.core_steps.specs.Seat.{cells_in}
use Rattle.core_steps.specs.Table.{Plain, view_at, home_at, taken_by, IsSound, IsTableStep, IsWordAt}
use Rattle.core_steps.specs.declared.kinds.Touched.{Touched}
use Rattle.core_steps.proofs.TableSteps.{table_step}

module _ (e : Setting) (p : Plain) (i : ℕ) (low : i < length p.views) (s : IsSound e p) (b : ℕ) (can : CanTakeTurn e (view_at p i) b) where
  pub in_table : b < p.shape.blocks
  in_table = subst (λ h. b < h.blocks) (sym s.shape_is) can.low

  pub turn_word : get_or p.words (place_of p.shape (turn b)) 0 ≡ total_of p.views (in_hand b)
  turn_word = sym (read_at p.shape p.words (turn b) (turn_inside e p i low s b in_table)) ∙ (s.holds.blocks.each b can.low).taken

  -- nobody has the block
  module _ (free : get_or p.words (place_of p.shape (turn b)) 0 ≡ 0) where
    pub none_has : total_of p.views (in_hand b) ≡ 0
    none_has = sym turn_word ∙ free

    pub at_home : block_of (home_at p.blocks) p.views b ≡ home_at p.blocks b
    unfolding block_of
    at_home = ap (cells_or (home_at p.blocks b)) (none_held b p.views none_has)

    pub home_is : get_or p.blocks b None ≡ Some (home_at p.blocks b)
    home_is = by (get_or p.blocks b None) refl
      where
        by : (y : Option BlockCells) → get_or p.blocks b None ≡ y → get_or p.blocks b None ≡ Some (cells_in y)
        by None q = absurd (let a = s.housed.away b in_table q in let f = none_has in omega (arith, a, f))
        by (Some x) q = q

    pub home_sized : length (home_at p.blocks b).cells ≡ e.graph.cells b
    home_sized = sym (ap (λ (x : BlockCells). length x.cells) at_home) ∙ s.housed.sized b in_table

    abbrev taker : View
    taker = after e (take_turn b (home_at p.blocks b)) 0 (view_at p i)

    pub one_has : total_of (set p.views i taker) (in_hand b) ≡ 1
    one_has = let v : View = view_at p i in let a = total_set p.views i (view_at p i) taker (in_hand b) (elem_at p.views i blank low) in let f = none_has in
        let g : in_hand b taker ≡ in_hand b (view_at p i) + 1 = ap (λ (y : Bool). bump y (in_hand b (view_at p i))) (eqb_here b) ∙ omega arith in omega (arith, a, f, g)

    pub stays : block_of (home_at (set p.blocks b None)) (set p.views i taker) b ≡ block_of (home_at p.blocks) p.views b
    unfolding block_of
    stays = ap (cells_or (home_at (set p.blocks b None) b)) (held_one b (set p.views i taker) i taker (home_at p.blocks b) (elem_at (set p.views i taker) i blank (let a = length-set p.views i taker in omega (arith, a, low)) ∙ ap some (get_or-set_same p.views i taker blank low))
        (ap (λ (y : Bool). cond y (some (home_at p.blocks b)) (held_in b (view_at p i).hands)) (eqb_here b)) (let a = one_has in let f : in_hand b taker ≡ in_hand b (view_at p i) + 1 = ap (λ (y : Bool). bump y (in_hand b (view_at p i))) (eqb_here b) ∙ omega arith in omega (arith, a, f))) ∙ sym at_home

    pub sound_taken : IsSound e (taken_by e p i b)
    sound_taken = sound_quiet e p i taker (set p.words (place_of p.shape (turn b)) 1) (set p.blocks b None) s low
        (turn_stands e p i low s b in_table taker None
        (λ d ne. (ap (λ (y : Bool). cond y (some (home_at p.blocks b)) (held_in d (view_at p i).hands)) (ne_eqb d b ne), ap (λ (y : Bool). bump y (in_hand d (view_at p i))) (ne_eqb d b ne)))
        (take_turn b (home_at p.blocks b)) 0 1 refl free refl refl can record { at_home = λ x q. absurd cc; away = λ q. let a = one_has in omega (arith, a); sized = ap (λ (x : BlockCells). length x.cells) stays ∙ s.housed.sized b in_table } at_home stays) refl

    -- unstruck, it holds the value of its version
    pub home_good : (home_at p.blocks b).struck ≡ false → 0 < (home_at p.blocks b).tag → (home_at p.blocks b).cells ≡ e.graph.value (e.graph.writer b (home_at p.blocks b).tag)
    home_good = subst (λ (x : BlockCells). x.struck ≡ false → 0 < x.tag → x.cells ≡ e.graph.value (e.graph.writer b x.tag)) at_home (s.holds.blocks.each b can.low).holds.good

  -- and what it is as a step
  pub taken_step : (t : Touched) → IsWordAt p (turn b) t → t.found ≡ 0 → IsSound e (taken_by e p i b) → IsTableStep e i (take_turn b (home_at p.blocks b)) t p (taken_by e p i b)
  taken_step t word zero now = table_step e i (take_turn b (home_at p.blocks b)) t p (taken_by e p i b) low can word s now
      (λ j. set p.words (sym word.at_is j) (left e (take_turn b (home_at p.blocks b)) (sym zero j))) (λ j. set p.views i (after e (take_turn b (home_at p.blocks b)) (sym zero j) (view_at p i)))
