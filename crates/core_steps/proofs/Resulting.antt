-- That a result was made keeps a plain table sound, with the record of it.
use Rattle.std.proofs.Common.{◌≡◌, ℕ, ◌^◌, ◌<◌, [], ◌∷◌, ◌++◌, length, set, arith, ap, refl, ◌∙◌, Option}
use Rattle.core_state.specs.Graph.{Setting}
use Rattle.core_state.specs.Counts.{in_hand, total_of}
use Rattle.core_state.specs.Change.{Shift}
use Rattle.core_state.specs.Guards.{CanCompute}
use Rattle.core_state.specs.Effects.{after_computed}
use Rattle.core_state.specs.Views.{blank, key_of}
use Rattle.core_state.specs.declared.views.View.{View}
use Rattle.graph_model.specs.declared.record.Record.{Record}
use Rattle.graph_model.specs.declared.record.Record.TheVariants as record_of
use Rattle.core_state.proofs.Blocks.Computed.{keeps_computed}
use Rattle.core_state.proofs.Plan.PassesEach.{passed_computed}
use Rattle.core_state.proofs.Plan.PreventsEach.{prevented_computed}
use Rattle.core_state.proofs.Base.Sums.{total_set, total_within}
use Rattle.core_steps.proofs.Changing.{blocks_same, elem_at}
use Rattle.core_steps.proofs.Housing.{housed_same}
use Rattle.core_steps.proofs.Sounding.{sound_entered, sums_of}
use Rattle.core_steps.specs.Table.{Plain, view_at, home_at, core_by, as_list, computed_by, entered, IsSound}

module _ (e : Setting) (p : Plain) (i : ℕ) (low : i < length p.views) (s : IsSound e p) (k l : ℕ) (can : CanCompute e (view_at p i) k l) where
  abbrev w : View
  w = after_computed k l (view_at p i)

  same_hands : (b : ℕ) → total_of (set p.views i w) (in_hand b) ≡ total_of p.views (in_hand b)
  same_hands b = let a = total_set p.views i (view_at p i) w (in_hand b) (elem_at p.views i blank low) in omega (arith, a)

  pub shift : Shift (core_by p.shape p.words p.blocks p.views) (core_by p.shape p.words p.blocks (set p.views i w)) (view_at p i) w
  shift = record {
    words = λ b. refl;
    sums = λ f. total_set p.views i (view_at p i) w f (elem_at p.views i blank low);
    within = λ f. total_within p.views i (view_at p i) f (elem_at p.views i blank low);
    blocks = λ b. blocks_same (home_at p.blocks) b p.views i (view_at p i) w (elem_at p.views i blank low) refl;
  }

  pub sound_computed : (y : Option Record) → record_of.Computed (key_of k) l ∷ [] ≡ as_list y → IsSound e (entered (2 ^ 63) i y (computed_by p i k l))
  sound_computed y is = sound_entered e p i w p.words p.blocks s low
      record {
        fits = s.fits;
        kept = (
          keeps_computed e (core_by p.shape p.words p.blocks p.views) (core_by p.shape p.words p.blocks (set p.views i w)) (sums_of p) k l (view_at p i) can shift s.holds,
          passed_computed e (core_by p.shape p.words p.blocks p.views) (core_by p.shape p.words p.blocks (set p.views i w)) k l (view_at p i) can shift s.passed,
          prevented_computed e (core_by p.shape p.words p.blocks p.views) (core_by p.shape p.words p.blocks (set p.views i w)) k l (view_at p i) can shift s.prevented,
        );
        at_home = λ b x home. same_hands b ∙ s.at_home b x home;
        housed = housed_same e p.shape p.blocks p.views (set p.views i w) same_hands shift.blocks s.housed;
      } y (ap (λ rs. rs ++ (view_at p i).records) is)
