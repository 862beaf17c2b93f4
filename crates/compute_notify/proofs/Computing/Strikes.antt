-- A computing's turn that makes a step of a strike, and one that finds none left.
use Rattle.std.proofs.Common.{◌≡◌, ◌≢◌, ℕ, Bool, true, false, cond, List, Option, Some, ap, sym, refl, ◌∙◌, subst}
use Rattle.graph_model.specs.Graph.{Graph as TaskGraph}
use Rattle.graph_model.specs.declared.plan.Point.TheVariants as point
use Rattle.graph_model.specs.declared.plan.Strike.{Strike}
use Rattle.core_state.specs.Guards.{MakesStrike}
use Rattle.core_state.specs.Graph.{Graph, Setting}
use Rattle.core_state.specs.Events.{after, Event}
use Rattle.core_state.specs.declared.block.BlockCells.{BlockCells}
use Rattle.core_state.specs.declared.views.View.{View}
use Rattle.core_steps.specs.Serving.{work_life}
use Rattle.compute_notify.specs.Eventing.{compute_event, with_strike}
use Rattle.compute_notify.specs.Items.{Goes, Stands, item_lines}
use Rattle.compute_notify.specs.Resting.{LetsFall, after_rest, item_rest}
use Rattle.compute_notify.specs.Rooms.{IsReady}
use Rattle.compute_notify.specs.Running.{Runs}
use Rattle.compute_notify.specs.Stepping.{HasStepped}
use Rattle.compute_notify.specs.Striking.{FitsHand, StrikeTells, compute_left, next_at, strike_event, strike_left}
use Rattle.compute_notify.specs.Working.{AfterHand, ComputeHand, FitsTop}
use Rattle.compute_notify.specs.declared.compute.Compute.{Compute}
use Rattle.compute_notify.specs.declared.compute.Phase.{Phase}
use Rattle.compute_notify.specs.declared.compute.Phase.TheVariants as phase
use Rattle.compute_notify.specs.declared.duty.Duty.{Duty}
use Rattle.compute_notify.specs.declared.item.After.{After}
use Rattle.compute_notify.specs.declared.item.Item.TheVariants as item
use Rattle.compute_notify.specs.declared.strikes.Next.{Next}
use Rattle.compute_notify.proofs.Striking.Making.{strikes_task}
use Rattle.compute_notify.proofs.Striking.Points.{ready}
use Rattle.compute_notify.proofs.Striking.Turns.{life_at_work, ready_asks, ready_falls, ready_goes, ready_hand, ready_works, stays}

-- what a step that nothing was prepared for leaves of the view
pub stepped_view : {S : Type 0} {setting : S → Setting} {view : S → View} {made spare : S → ℕ} {last shown : S → ℕ × ℕ} {happened : S → Event → ℕ → S → Type 0} {lender : S → List ℕ} {others : S → List View} {x : Event} {s t : S}
    → HasStepped setting view made spare last shown happened lender others (λ v. v) x s t → view t ≡ after (setting s) x (shown t).1 (view s)
stepped_view {setting = setting} {view = view} {shown = shown} {x = x} {s = s} {t = t} did = did.step.view_is ∙ ap (λ f. after f x (shown t).1 (view did.ready)) did.same_setting ∙ ap (after (setting s) x (shown t).1) did.prepared_is

-- a strike is next only before the look at the descriptor
ready_with : (g : Graph) (strikes : List Strike) (duty : Duty) (p : Phase) (next : Next) → compute_left g strikes duty p ≡ Some next → (m : ℕ) × (p ≡ phase.Ready m) × (next_at g strikes point.Ready duty m ≡ Some next)
ready_with g strikes duty (phase.Ready m) next is = (m, refl, is)
ready_with g strikes duty (phase.Reading input) next is = absurd cc
ready_with g strikes duty phase.Writing next is = absurd cc

module _ (g : TaskGraph) (strikes : List Strike) (lives : ℕ) (e : Setting) (v : View) (runs : Runs g strikes lives e) (c : Compute) (stands : Stands g e v (item.Compute c)) (next : Next) (is : strike_left e.graph strikes (item.Compute c) ≡ Some next) where
  pub at : (m : ℕ) × (c.phase ≡ phase.Ready m) × (next_at e.graph strikes point.Ready c.duty m ≡ Some next)
  at = ready_with e.graph strikes c.duty c.phase next is

  stands_ready : Stands g e v (item.Compute (record { duty = c.duty; phase = phase.Ready at.0 }))
  stands_ready = subst (λ q. Stands g e v (item.Compute (record { duty = c.duty; phase = q }))) at.1 stands

  pub asks : MakesStrike e v c.duty.key.0 c.duty.life next.target
  asks = ready_asks g strikes lives e v runs next c.duty at.0 stands_ready at.2

  pub life_is : work_life v ≡ c.duty.life
  life_is = life_at_work v (ready c.duty) (ready_works g strikes lives e v runs next c.duty at.0 stands_ready at.2)

  pub is_task : c.duty.key.0 ≢ e.graph.root
  is_task = strikes_task g strikes lives e v c.duty.key.0 c.duty.life next.target runs asks

  pub hand_is : (h : Option BlockCells) → FitsTop e v h (item.Compute c) → FitsHand e v c.duty.key.0 c.duty.life h
  hand_is h top = subst (λ q. ComputeHand e v c.duty q h) at.1 top

  pub strike_is : (h now : Option BlockCells) → strike_event e v c.duty next.target h now ≡ compute_event e v strikes h now c
  strike_is h now = ap (with_strike e v h now (item.Compute c)) (sym is)

  module _ (w : View) (h now : Option BlockCells) (n : ℕ) (made : Bool) (told : StrikeTells e v w c.duty.key.0 c.duty.life next.target h now n made) where
    abbrev left : After
    left = stays (item.Compute (record { duty = c.duty; phase = phase.Ready (cond made next.made at.0) }))

    struck_goes : w ≡ after e (strike_event e v c.duty next.target h now) n v → Goes g e v w (item_lines e.graph (item.Compute c)) left
    struck_goes view_is = subst (λ q. Goes g e v w (item_lines e.graph (item.Compute (record { duty = c.duty; phase = q }))) left) (sym at.1) (ready_goes g strikes lives e v runs next c.duty at.0 stands_ready at.2 w h now n made told view_is)

    struck_falls : LetsFall e strikes (strike_event e v c.duty next.target h now) n (item_rest e strikes h (item.Compute c)) (after_rest e strikes now left)
    struck_falls = subst (λ q. LetsFall e strikes (strike_event e v c.duty next.target h now) n (item_rest e strikes h (item.Compute (record { duty = c.duty; phase = q }))) (after_rest e strikes now left)) (sym at.1) (ready_falls g strikes lives e v runs next c.duty at.0 stands_ready at.2 w h now n made told)

    pub left_goes : (a : After) → a ≡ left → w ≡ after e (strike_event e v c.duty next.target h now) n v → Goes g e v w (item_lines e.graph (item.Compute c)) a
    left_goes a a_is view_is = subst (λ x. Goes g e v w (item_lines e.graph (item.Compute c)) x) (sym a_is) (struck_goes view_is)

    pub left_top : (a : After) → a ≡ left → AfterHand e w now a
    left_top a a_is = subst (AfterHand e w now) (sym a_is) (ready_hand g strikes lives e v runs next c.duty at.0 stands_ready at.2 w h now n made told)

    pub left_falls : (a : After) → a ≡ left → LetsFall e strikes (strike_event e v c.duty next.target h now) n (item_rest e strikes h (item.Compute c)) (after_rest e strikes now a)
    left_falls a a_is = subst (λ x. LetsFall e strikes (strike_event e v c.duty next.target h now) n (item_rest e strikes h (item.Compute c)) (after_rest e strikes now x)) (sym a_is) struck_falls

  -- what is left, where the strike was made and where its block was asked for
  pub made_left : (w : View) (h now : Option BlockCells) (n : ℕ) (made : Bool) (told : StrikeTells e v w c.duty.key.0 c.duty.life next.target h now n made) (a : After) → made ≡ true → a ≡ stays (item.Compute (record c { phase = phase.Ready next.made })) → a ≡ left w h now n made told
  made_left w h now n made told a was a_is = a_is ∙ ap (λ (b : Bool). stays (item.Compute (record { duty = c.duty; phase = phase.Ready (cond b next.made at.0) }))) (sym was)

  pub asked_left : (w : View) (h now : Option BlockCells) (n : ℕ) (made : Bool) (told : StrikeTells e v w c.duty.key.0 c.duty.life next.target h now n made) (a : After) → made ≡ false → a ≡ stays (item.Compute c) → a ≡ left w h now n made told
  asked_left w h now n made told a was a_is = a_is ∙ ap (λ q. stays (item.Compute (record { duty = c.duty; phase = q }))) at.1 ∙ ap (λ (b : Bool). stays (item.Compute (record { duty = c.duty; phase = phase.Ready (cond b next.made at.0) }))) (sym was)

  pub is_ready : (a : After) (m : ℕ) → a ≡ stays (item.Compute (record c { phase = phase.Ready m })) → IsReady a
  is_ready a m a_is = (record c { phase = phase.Ready m }, m, ap (λ (x : After). x.left) a_is, refl, ap (λ (x : After). x.came) a_is)

  pub still_ready : (a : After) → a ≡ stays (item.Compute c) → IsReady a
  still_ready a a_is = (c, at.0, ap (λ (x : After). x.left) a_is, at.1, ap (λ (x : After). x.came) a_is)
