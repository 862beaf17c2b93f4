-- A step of a table, as a change of named words and of sums over the views: one lemma for the shared table and for the plain one.
use Rattle.std.proofs.Common.{◌≡◌, ◌≢◌, ℕ, ◌+◌, ◌-◌, ◌<◌, List, true, length, get_or, arith, refl}
use mathlib.Core.Option.{Option, some}
use lib.ListN.{get_elem?}
use Rattle.atomic_table.specs.Table.{State, Act, stepped}
use Rattle.core_state.specs.Words.{Shape, Spot, place_of, inside, turn}
use Rattle.core_state.specs.Change.{Core, Change, Shift, Sums, core_of}
use Rattle.core_state.specs.declared.block.BlockCells.{BlockCells}
use Rattle.core_state.specs.declared.views.View.{View}
use Rattle.core_state.proofs.Base.Sums.{total_set, total_within, total_none, total_add, total_below, total_alone, total_some}
use Rattle.core_state.proofs.Base.Words.{read_here, read_at, read_else}

module _ {S : Type 0} (h : Shape) (home : List (Option S) → ℕ → BlockCells) where
  -- what the blocks hold is a premise: it is refl for a step that takes and gives none
  pub stepped_change : (s : State S View) (a : Spot) (m id : ℕ) (v w : View) (c : List (ℕ × S)) (act : Act S) → inside h a ≡ true → place_of h a < length s.words → get_elem? s.views id ≡ some v
      → ((b : ℕ) → turn b ≢ a → (core_of h home (stepped s (place_of h a) m id c w act)).block b ≡ (core_of h home s).block b)
      → Change (core_of h home s) (core_of h home (stepped s (place_of h a) m id c w act)) a (get_or s.words (place_of h a) 0) m v w
  stepped_change s a m id v w c act x low at blocks = record {
    found_is = read_at h s.words a x;
    left_is = read_here h s.words a m x low;
    others = λ b ne. read_else h s.words a b m x ne;
    sums = λ f. total_set s.views id v w f at;
    within = λ f. total_within s.views id v f at;
    alone = λ f g zero low. total_alone s.views id v f g at zero low;
    blocks = blocks;
  }

  pub state_sums : (s : State S View) → Sums (core_of h home s)
  state_sums s = record { none = total_none s.views; add = total_add s.views; below = total_below s.views; some = total_some s.views }

-- An event whose view then settles, or whose seat published something before, is two changes with a core between them.
module _ (s t : Core) (at : Spot) (n m : ℕ) (v u w : View) where
  -- the words and blocks of the one and the sums of a view between
  between : Core
  between = record { word = t.word; total = λ f. s.total f - f v + f w; block = t.block }

  pub first_half : Change s t at n m v u → Change s (record { word = t.word; total = λ f. s.total f - f v + f w; block = t.block }) at n m v w
  first_half c = record {
    found_is = c.found_is;
    left_is = c.left_is;
    others = c.others;
    sums = λ f. let a = c.within f in omega (arith, a);
    within = c.within;
    alone = c.alone;
    blocks = c.blocks;
  }

  pub second_half : Change s t at n m v u → Shift (record { word = t.word; total = λ f. s.total f - f v + f w; block = t.block }) t w u
  second_half c = record {
    words = λ b. refl;
    sums = λ f. let a = c.within f in let b = c.sums f in omega (arith, a, b);
    within = λ f. let a = c.within f in omega (arith, a);
    blocks = λ b. refl;
  }
