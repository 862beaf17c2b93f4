-- What the step of a strike leaves of the block in hand and of the strikes that are made, whether the strike was made or its block was asked for.
use Rattle.std.proofs.Common.{◌≡◌, ℕ, Bool, true, false, cond, ◌&&◌, Option, sym, subst}
use mathlib.Core.Option.{some}
use Rattle.graph_model.specs.declared.plan.Point.{Point}
use Rattle.graph_model.specs.declared.plan.Target.{Target}
use Rattle.core_state.specs.Guards.{AtWork}
use Rattle.core_state.specs.Tests.{same_point, two}
use Rattle.core_state.specs.Graph.{Setting}
use Rattle.core_state.specs.Views.{passing}
use Rattle.core_state.specs.declared.block.BlockCells.{BlockCells}
use Rattle.core_state.specs.declared.views.Item.{Item}
use Rattle.core_state.specs.declared.views.View.{View}
use Rattle.compute_notify.specs.Striking.{FitsHand, FitsStrikes, StrikeTells}
use Rattle.compute_notify.specs.declared.strikes.Next.{Next}
use Rattle.compute_notify.proofs.Fitting.{HasNext, fits_else, fits_made, fits_same}

module _ (e : Setting) (v w : View) (k l : ℕ) (on : Target) (before now : Option BlockCells) (n : ℕ) where
  -- the block that may be in hand is there for the same strike
  pub struck_hand : (made : Bool) → StrikeTells e v w k l on before now n made → FitsHand e w k l now
  struck_hand true told = subst (FitsHand e w k l) (sym told.none_now) told.hands_free
  struck_hand false told = told.hand

  module _ (at : Point) (x : Item) (work : AtWork v x) (here : passing e.graph x ≡ some (record { at = at; key = k; life = l })) (next : Next) (has : HasNext e v at k l next) where
    -- so many strikes of the point are made now
    pub struck_fits : (made : Bool) (m : ℕ) → StrikeTells e v w k l on before now n made → FitsStrikes e v at k l m → FitsStrikes e w at k l (cond made next.made m)
    struck_fits true m told fits = fits_made e v at k l x work here w next has told.strikes_are
    struck_fits false m told fits = fits_same e v at k l w m told.same_strikes fits

    -- and as many as before of each other point, key or life
    pub struck_else : (made : Bool) → StrikeTells e v w k l on before now n made → (o : Point) (i j m : ℕ) → (same_point o at && two i j k l) ≡ false → FitsStrikes e v o i j m → FitsStrikes e w o i j m
    struck_else true told o i j m apart fits = fits_else e v at k l x work here w next has told.strikes_are o i j m apart fits
    struck_else false told o i j m apart fits = fits_same e v o i j w m told.same_strikes fits
