-- A computing before its look at the descriptor: whether a strike is next, and what each case leaves.
use Rattle.std.proofs.Common.{◌≡◌, ℕ, List, [], drop, Option, Some, None, ap, sym, refl, ◌∙◌, subst}
use mathlib.Core.Option.{none, some-ne-none}
use Rattle.graph_model.specs.Graph.{Graph as TaskGraph}
use Rattle.graph_model.specs.Plans.{hits}
use Rattle.graph_model.specs.declared.plan.Point.TheVariants as point
use Rattle.graph_model.specs.declared.plan.Strike.{Strike}
use Rattle.core_state.specs.Counts.{known_key}
use Rattle.core_state.specs.Graph.{Graph, Setting}
use Rattle.core_state.specs.Events.Event.{load_descriptor}
use Rattle.core_state.specs.Views.{strike_next}
use Rattle.core_state.specs.declared.block.BlockCells.{BlockCells}
use Rattle.core_state.specs.declared.views.View.{View}
use Rattle.compute_notify.specs.Eventing.{compute_event}
use Rattle.compute_notify.specs.Items.{Stands}
use Rattle.compute_notify.specs.Resting.{LetsFall, after_rest, item_rest}
use Rattle.compute_notify.specs.Rooms.{AfterScratch, HasRoom, HoldsValues, IsReady, came_scratch, left_scratch}
use Rattle.compute_notify.specs.Running.{Runs}
use Rattle.compute_notify.specs.Striking.{FitsHand, compute_left, next_hit, strike_left}
use Rattle.compute_notify.specs.Working.{ComputeHand, FitsTop}
use Rattle.compute_notify.specs.declared.compute.Compute.{Compute}
use Rattle.compute_notify.specs.declared.compute.Phase.TheVariants as phase
use Rattle.compute_notify.specs.declared.item.After.{After}
use Rattle.compute_notify.specs.declared.item.Item.TheVariants as item
use Rattle.compute_notify.specs.declared.scratch.Scratch.{Scratch}
use Rattle.compute_notify.specs.declared.strikes.Next.{Next}
use Rattle.compute_notify.proofs.Computing.Load.{load_is, none_next}

-- the strike that is found is the next one
pub sought_is : (g : Graph) (strikes : List Strike) (c : Compute) (made words : ℕ) (o : Option Next) → c.phase ≡ phase.Ready made → words ≡ g.notify_words c.duty.key.0 → o ≡ next_hit words made (drop made (hits point.Ready c.duty.key c.duty.life strikes)) → strike_left g strikes (item.Compute c) ≡ o
sought_is g strikes c made words o is many found = ap (compute_left g strikes c.duty) is ∙ ap (λ w. next_hit w made (drop made (hits point.Ready c.duty.key c.duty.life strikes))) (sym many) ∙ sym found

-- a block is in hand only for a strike that is next
hand_free : (e : Setting) (v : View) (k l : ℕ) (h : Option BlockCells) → FitsHand e v k l h → strike_next e.graph e.plan v ≡ none → (v.hands ≡ []) × (h ≡ None)
hand_free e v k l None fits past = (fits, refl)
hand_free e v k l (Some x) fits past = absurd (some-ne-none fits.2.strike (sym fits.2.is_next ∙ past))

module _ (g : TaskGraph) (e : Setting) (v : View) (c : Compute) (made : ℕ) (strikes : List Strike) (lives : ℕ) (runs : Runs g strikes lives e) (stands : Stands g e v (item.Compute c)) (ready : c.phase ≡ phase.Ready made) (over : strike_left e.graph strikes (item.Compute c) ≡ None) (h : Option BlockCells) (top : FitsTop e v h (item.Compute c)) where
  pub free_ready : (v.hands ≡ []) × (h ≡ None)
  free_ready = hand_free e v c.duty.key.0 c.duty.life h (subst (λ q. ComputeHand e v c.duty q h) ready top) (none_next g e v c made strikes lives runs stands ready over)

  -- the look's rest, with the block in hand that there is not
  pub loaded_falls : (n : ℕ) (now : Option BlockCells) (a : After) → now ≡ h → LetsFall e strikes (load_descriptor c.duty.row (known_key c.duty.row v)) n (item_rest e strikes None (item.Compute c)) (after_rest e strikes None a) → LetsFall e strikes (compute_event e v strikes h now c) n (item_rest e strikes h (item.Compute c)) (after_rest e strikes now a)
  loaded_falls n now a same falls =
      subst (λ x. LetsFall e strikes x n (item_rest e strikes h (item.Compute c)) (after_rest e strikes now a)) (load_is g e v c made strikes lives runs stands ready over h now)
      (subst (λ z. LetsFall e strikes (load_descriptor c.duty.row (known_key c.duty.row v)) n (item_rest e strikes z (item.Compute c)) (after_rest e strikes now a)) (sym free_ready.1)
      (subst (λ z. LetsFall e strikes (load_descriptor c.duty.row (known_key c.duty.row v)) n (item_rest e strikes None (item.Compute c)) (after_rest e strikes z a)) (sym (same ∙ free_ready.1)) falls))

-- a computing before its look needs no value in the scratch
pub ready_scratch : (g : TaskGraph) (e : Setting) (s : Scratch) (a : After) → IsReady a → HasRoom g s → AfterScratch e g s a
ready_scratch g e s a is room = let c = is.0 in
    subst (λ x. came_scratch e g s x a.left) (sym is.4) (subst (left_scratch e g s) (sym is.2) (room, subst (λ p. HoldsValues e.graph c.duty.key.0 p s) (sym is.3) tt))
