-- A step that takes a block or gives it keeps a plain table sound, where the invariant is kept.
use Rattle.std.proofs.Common.{◌≡◌, ◌≢◌, ℕ, zero, suc, ◌<◌, ◌≤◌, true, List, [], ◌∷◌, length, get_or, set, length-set, get_or-set_same, get_or-set_other, arith, sym, ap, ◌∙◌, subst, Option, Some, None}
use Rattle.std.proofs.lemmas.Bool.{lt-ltb}
use mathlib.Core.Option.{some, some-injective, some-ne-none}
use mathlib.Core.Logic.{dite}
use native.Mathlib.Decide.{ℕ_discrete}
use lib.ListN.{get_elem?}
use Rattle.core_state.specs.Graph.{Setting}
use Rattle.core_state.specs.Words.{Spot, place_of, inside, turn}
use Rattle.core_state.specs.Counts.{in_hand, total_of}
use Rattle.core_state.specs.Change.{Change, block_of, cells_or, held_by, held_in, or_else}
use Rattle.core_state.specs.Cover.{Passed}
use Rattle.core_state.specs.Invariant.{Invariant}
use Rattle.core_state.specs.Prevented.{Prevented}
use Rattle.core_state.specs.Events.{Event, at, left, after, Can, Happens, block_left, block_was}
use Rattle.core_state.specs.Views.{blank}
use Rattle.core_state.specs.declared.block.BlockCells.{BlockCells}
use Rattle.core_state.specs.declared.views.View.{View}
use Rattle.core_state.proofs.Base.Words.{read_at, read_here, read_else}
use Rattle.core_state.proofs.Base.Sums.{total_set, total_within, total_alone}
use Rattle.core_steps.proofs.Changing.{elem_at, held_same, low_place}
use Rattle.core_steps.proofs.Rooting.{none_in}
use Rattle.core_state.proofs.Whole.EachEvent.{kept_event}
use Rattle.core_steps.proofs.Sounding.{Stands, sums_of}
use Rattle.core_steps.specs.Seat.{cells_in}
use Rattle.core_steps.specs.Table.{Plain, view_at, home_at, core_by, IsSound}

-- the one view that has the block in hand
pub held_one : (b : ℕ) (vs : List View) (i : ℕ) (v : View) (x : BlockCells) → get_elem? vs i ≡ some v → held_in b v.hands ≡ some x → total_of vs (in_hand b) ≤ in_hand b v → held_by b vs ≡ some x
unfolding total_of
held_one b [] i v x e has few = absurd (some-ne-none v (sym e))
held_one b (y ∷ ys) zero v x e has few = ap (λ o. or_else o (held_by b ys)) (ap (λ (u : View). held_in b u.hands) (some-injective y v e) ∙ has)
held_one b (y ∷ ys) (suc i) v x e has few = let a = total_within ys i v (in_hand b) e in
    ap (λ o. or_else o (held_by b ys)) (none_in b y.hands (omega (arith, a, few))) ∙ held_one b ys i v x e has (omega (arith, few))

-- the block whose turn a word is
abbrev turned : Spot → ℕ
turned (turn b) = b
turned _ = 0

module _ (e : Setting) (p : Plain) (i : ℕ) (low : i < length p.views) (s : IsSound e p) (b : ℕ) (in_table : b < p.shape.blocks) where
  here : get_elem? p.views i ≡ some (view_at p i)
  here = elem_at p.views i blank low

  pub turn_inside : inside p.shape (turn b) ≡ true
  turn_inside = lt-ltb b p.shape.blocks in_table

  -- the view of the worker and what is at home of the block change, and for each other block nothing
  module _ (w : View) (y : Option BlockCells) (others : (d : ℕ) → d ≢ b → (held_in d w.hands ≡ held_in d (view_at p i).hands) × (in_hand d w ≡ in_hand d (view_at p i))) where
    pub block_else : (d : ℕ) → d ≢ b → block_of (home_at (set p.blocks b y)) (set p.views i w) d ≡ block_of (home_at p.blocks) p.views d
    unfolding block_of
    block_else d ne = (λ j. cells_or (cells_in (get_or-set_other p.blocks b d y None ne j)) (held_same d p.views i (view_at p i) w here (others d ne).0 j))

    pub total_else : (d : ℕ) → d ≢ b → total_of (set p.views i w) (in_hand d) ≡ total_of p.views (in_hand d)
    total_else d ne = let a = total_set p.views i (view_at p i) w (in_hand d) here in let f = (others d ne).1 in omega (arith, a, f)

    pub turn_change : (m : ℕ) → Change (core_by p.shape p.words p.blocks p.views) (core_by p.shape (set p.words (place_of p.shape (turn b)) m) (set p.blocks b y) (set p.views i w)) (turn b) (get_or p.words (place_of p.shape (turn b)) 0) m (view_at p i) w
    turn_change m = record {
      found_is = read_at p.shape p.words (turn b) turn_inside;
      left_is = read_here p.shape p.words (turn b) m turn_inside (let x = low_place p.shape (turn b) turn_inside in let f = s.fits in omega (arith, x, f));
      others = λ a ne. read_else p.shape p.words (turn b) a m turn_inside ne;
      sums = λ f. total_set p.views i (view_at p i) w f here;
      within = λ f. total_within p.views i (view_at p i) f here;
      alone = λ f g zero few. total_alone p.views i (view_at p i) f g here zero few;
      blocks = λ d ne. block_else d (λ q. ne (ap turn q));
    }

    -- what holds of the block then, at home or in the hand
    pub record Moved : Type 0 where
      pub at_home : (x : BlockCells) → y ≡ Some x → total_of (set p.views i w) (in_hand b) ≡ 0
      pub away : y ≡ None → 0 < total_of (set p.views i w) (in_hand b)
      pub sized : length (block_of (home_at (set p.blocks b y)) (set p.views i w) b).cells ≡ e.graph.cells b

    pub moved_stands : (m : ℕ) → Moved → Invariant e (core_by p.shape (set p.words (place_of p.shape (turn b)) m) (set p.blocks b y) (set p.views i w)) × Passed e (core_by p.shape (set p.words (place_of p.shape (turn b)) m) (set p.blocks b y) (set p.views i w)) × Prevented e (core_by p.shape (set p.words (place_of p.shape (turn b)) m) (set p.blocks b y) (set p.views i w))
        → Stands e p i w (set p.words (place_of p.shape (turn b)) m) (set p.blocks b y)
    moved_stands m moved kept = let long : b < length p.blocks = let a = s.housed.many in omega (arith, a, in_table) in record {
      fits = length-set p.words (place_of p.shape (turn b)) m ∙ s.fits;
      kept = kept;
      at_home = λ d x home. dite (ℕ_discrete d b)
          (λ z. ap (λ o. total_of (set p.views i w) (in_hand o)) z ∙ moved.at_home x (sym (get_or-set_same p.blocks b y None long) ∙ ap (λ o. get_or (set p.blocks b y) o None) (sym z) ∙ home))
          (λ ne. total_else d ne ∙ s.at_home d x (sym (get_or-set_other p.blocks b d y None ne) ∙ home));
      housed = record {
        many = length-set p.blocks b y ∙ s.housed.many;
        away = λ d less none_home. dite (ℕ_discrete d b)
            (λ z. subst (λ o. 0 < total_of (set p.views i w) (in_hand o)) (sym z) (moved.away (sym (get_or-set_same p.blocks b y None long) ∙ ap (λ o. get_or (set p.blocks b y) o None) (sym z) ∙ none_home)))
            (λ ne. let a = s.housed.away d less (sym (get_or-set_other p.blocks b d y None ne) ∙ none_home) in let f = total_else d ne in omega (arith, a, f));
        within = λ d some_hand. dite (ℕ_discrete d b) (λ z. subst (λ o. o < p.shape.blocks) (sym z) in_table) (λ ne. s.housed.within d (let f = total_else d ne in omega (arith, f, some_hand)));
        sized = λ d less. dite (ℕ_discrete d b)
            (λ z. subst (λ o. length (block_of (home_at (set p.blocks b y)) (set p.views i w) o).cells ≡ e.graph.cells o) (sym z) moved.sized)
            (λ ne. ap (λ (x : BlockCells). length x.cells) (block_else d ne) ∙ s.housed.sized d less);
      };
    }

    -- an event on the turn of the block, which finds the number n, and what the block was and is
    pub turn_stands : (x : Event) (n m : ℕ) → at x ≡ turn b → get_or p.words (place_of p.shape (turn b)) 0 ≡ n → left e x n ≡ m → w ≡ after e x n (view_at p i) → Can e (view_at p i) x → Moved
        → block_of (home_at p.blocks) p.views b ≡ block_was e x n (block_of (home_at p.blocks) p.views b) → block_of (home_at (set p.blocks b y)) (set p.views i w) b ≡ block_left e x (block_of (home_at p.blocks) p.views b)
        → Stands e p i w (set p.words (place_of p.shape (turn b)) m) (set p.blocks b y)
    turn_stands x n m spot is leaves_m after_is can moved was now = moved_stands m moved
        (subst (λ u. Happens e x (core_by p.shape p.words p.blocks p.views) (core_by p.shape (set p.words (place_of p.shape (turn b)) m) (set p.blocks b y) (set p.views i w)) n (view_at p i) u → Invariant e (core_by p.shape (set p.words (place_of p.shape (turn b)) m) (set p.blocks b y) (set p.views i w)) × Passed e (core_by p.shape (set p.words (place_of p.shape (turn b)) m) (set p.blocks b y) (set p.views i w)) × Prevented e (core_by p.shape (set p.words (place_of p.shape (turn b)) m) (set p.blocks b y) (set p.views i w))) (sym after_is)
        (λ h. kept_event e s.setting (core_by p.shape p.words p.blocks p.views) (core_by p.shape (set p.words (place_of p.shape (turn b)) m) (set p.blocks b y) (set p.views i w)) (sums_of p) x n (view_at p i) can h (s.holds, s.passed, s.prevented))
        record {
          change = subst (λ a. Change (core_by p.shape p.words p.blocks p.views) (core_by p.shape (set p.words (place_of p.shape (turn b)) m) (set p.blocks b y) (set p.views i w)) a n (left e x n) (view_at p i) w) (sym spot)
              (subst (λ o. Change (core_by p.shape p.words p.blocks p.views) (core_by p.shape (set p.words (place_of p.shape (turn b)) m) (set p.blocks b y) (set p.views i w)) (turn b) n o (view_at p i) w) (sym leaves_m)
              (subst (λ o. Change (core_by p.shape p.words p.blocks p.views) (core_by p.shape (set p.words (place_of p.shape (turn b)) m) (set p.blocks b y) (set p.views i w)) (turn b) o m (view_at p i) w) is (turn_change m)));
          found_block = λ d to. subst (λ o. block_of (home_at p.blocks) p.views o ≡ block_was e x n (block_of (home_at p.blocks) p.views o)) (ap turned (sym spot ∙ to)) was;
          left_block = λ d to. subst (λ o. block_of (home_at (set p.blocks b y)) (set p.views i w) o ≡ block_left e x (block_of (home_at p.blocks) p.views o)) (ap turned (sym spot ∙ to)) now;
        })
