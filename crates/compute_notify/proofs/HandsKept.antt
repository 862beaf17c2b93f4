-- Turns of items that take no block leave none in hand.
use Rattle.std.proofs.Common.{◌≡◌, ℕ, Bool, true, false, cond, nat_lt, not, ◌&&◌, List, [], Option, None, refl, ◌∙◌, subst}
use Rattle.core_state.specs.Counts.{known_key}
use Rattle.core_state.specs.Events.{Event, after}
use Rattle.core_state.specs.Events.Event.{buy, post, renew_descriptor, renew_notify}
use Rattle.core_state.specs.Graph.{Setting}
use Rattle.core_state.specs.Outcome.{hands_left}
use Rattle.core_state.specs.declared.block.BlockCells.{BlockCells}
use Rattle.core_state.specs.declared.views.View.{View}
use Rattle.core_state.proofs.Lines.Outcomes.{leaves}
use Rattle.core_steps.specs.Serving.{work_life}
use Rattle.recovery.specs.Happening.{owe_event, phase_event as replacing_event, turn_event, way_event}
use Rattle.recovery.specs.declared.owe.Owe.{Owe}
use Rattle.recovery.specs.declared.recover.Phase.{Phase as Replacing}
use Rattle.recovery.specs.declared.recover.Phase.TheVariants as replacing
use Rattle.recovery.specs.declared.recover.Recover.{Recover}
use Rattle.recovery.specs.declared.reenter.Way.{Way}
use Rattle.recovery.specs.declared.reenter.Way.TheVariants as way
use Rattle.compute_notify.specs.Eventing.{look_event, notify_event}
use Rattle.compute_notify.specs.Stepping.{HasStepped}
use Rattle.compute_notify.specs.Working.{AfterHand}
use Rattle.compute_notify.specs.declared.item.After.{After}
use Rattle.compute_notify.specs.declared.look.Look.{Look}
use Rattle.compute_notify.specs.declared.look.Way.{Way as Looking}
use Rattle.compute_notify.specs.declared.look.Way.TheVariants as looking
use Rattle.compute_notify.specs.declared.notify.Notify.{Notify}
use Rattle.compute_notify.specs.declared.notify.Way.{Way as Telling}
use Rattle.compute_notify.specs.declared.notify.Way.TheVariants as telling
use Rattle.compute_notify.proofs.BelowStrikes.{stepped_view}
use Rattle.compute_notify.proofs.HandsFree.{after_free}

module _ (e : Setting) where
  pub notify_hands : (v : View) (n : Notify) (y : Telling) (m : ℕ) → hands_left e (notify_event e v n y) m v ≡ v.hands
  notify_hands v n telling.Start m = refl
  notify_hands v n (telling.Seek s) m = refl
  notify_hands v n (telling.Spend r) m = refl

  pub look_hands : (v : View) (x : Look) (y : Looking) (m : ℕ) → hands_left e (look_event e v x y) m v ≡ v.hands
  look_hands v x looking.Start m = refl
  look_hands v x (looking.Seek s) m = refl
  look_hands v x (looking.Load r) m = refl

  pub owe_hands : (v : View) (o : Owe) (m : ℕ) → hands_left e (owe_event v o) m v ≡ v.hands
  owe_hands v o m = by o.bought
    where
      by : (b : Bool) → hands_left e (cond b (post o.row o.job (known_key o.row v) o.life) buy) m v ≡ v.hands
      by true = refl
      by false = refl

  way_hands : (v : View) (r k q : ℕ) (y : Way) (m : ℕ) → hands_left e (way_event e v r k q y) m v ≡ v.hands
  way_hands v r k q way.Start m = refl
  way_hands v r k q (way.Seek s) m = refl
  way_hands v r k q (way.Load at) m = refl
  way_hands v r k q (way.Register at) m = refl
  way_hands v r k q (way.Spend at) m = refl

  replacing_hands : (v : View) (r : Recover) (y : Replacing) (m : ℕ) → hands_left e (replacing_event e v r y) m v ≡ v.hands
  replacing_hands v r replacing.Suspect m = refl
  replacing_hands v r (replacing.Renew done) m = by (nat_lt done (e.graph.notify_words r.key.0))
    where
      by : (b : Bool) → hands_left e (cond b (renew_notify r.row (known_key r.row v) (work_life v) done) (renew_descriptor r.row (known_key r.row v) (work_life v))) m v ≡ v.hands
      by true = refl
      by false = refl
  replacing_hands v r replacing.Finish m = refl
  replacing_hands v r (replacing.Owe owe behind) m = owe_hands v owe m
  replacing_hands v r (replacing.Reenter reenter) m = way_hands v r.row r.key.0 reenter.port reenter.way m
  replacing_hands v r replacing.Passed m = refl
  replacing_hands v r replacing.Over m = refl

  pub recover_hands : (v : View) (r : Recover) (m : ℕ) → hands_left e (turn_event e v r) m v ≡ v.hands
  recover_hands v r m = replacing_hands v r r.phase m

module _ {S : Type 0} {setting : S → Setting} {view : S → View} {made : S → ℕ} {last shown : S → ℕ × ℕ} {happened : S → Event → ℕ → S → Type 0} {lender : S → List ℕ} {others : S → List View} {s t : S} (spare : S → ℕ) where
  -- nothing is in hand after such a step
  pub stepped_free : {x : Event} → HasStepped setting view made spare last shown happened lender others (λ v. v) x s t → ((m : ℕ) → hands_left (setting s) x m (view s) ≡ (view s).hands) → (h : Option BlockCells) → ((view s).hands ≡ []) × (h ≡ None) → (a : After) → AfterHand (setting s) (view t) h a
  stepped_free {x} step kept h free a =
      let n : ℕ = (shown t).1 in
      let is : view t ≡ after (setting s) x n (view s) = subst (λ u. view t ≡ after (setting s) x n u) step.prepared_is (stepped_view spare step) in
      after_free (setting s) (view t) ((leaves (setting s) x n (view s) (view t) is).hands_are ∙ kept n ∙ free.0) h a free.1

-- a replacement that is left makes no step where its life is the last
pub last_stops : (passed last : Bool) → passed ≡ false → last ≡ not (not passed && not last)
last_stops true last left = absurd cc
last_stops false true left = refl
last_stops false false left = refl
