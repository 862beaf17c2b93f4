-- The event of an exploring's turn: at a place, where a strike is left behind the last place, and where none is.
use Rattle.std.proofs.Common.{◌≡◌, ℕ, ◌<◌, ◌≤◌, Bool, cond, List, Option, Some, None, ap, sym, ◌∙◌, subst}
use Rattle.std.specs.Prelude.{drop}
use Rattle.std.proofs.lemmas.Bool.{le-ltb, lt-ltb}
use Rattle.graph_model.specs.Plans.{hits}
use Rattle.graph_model.specs.declared.plan.Point.TheVariants as point
use Rattle.graph_model.specs.declared.plan.Strike.{Strike}
use Rattle.core_state.specs.Counts.{known_key}
use Rattle.core_state.specs.Graph.{Setting}
use Rattle.core_state.specs.Events.{Event}
use Rattle.core_state.specs.Events.Event.{spend}
use Rattle.core_state.specs.declared.block.BlockCells.{BlockCells}
use Rattle.core_state.specs.declared.views.View.{View}
use Rattle.compute_notify.specs.Eventing.{explore_event, item_event, with_strike}
use Rattle.compute_notify.specs.Resting.{LetsFall, after_rest, item_rest}
use Rattle.compute_notify.specs.Striking.{explore_left, next_at, next_hit, strike_event}
use Rattle.compute_notify.specs.declared.explore.Explore.{Explore}
use Rattle.compute_notify.specs.declared.item.After.{After}
use Rattle.compute_notify.specs.declared.item.Item.TheVariants as item
use Rattle.compute_notify.specs.declared.strikes.Next.{Next}

module _ (e : Setting) (v : View) (strikes : List Strike) (x : Explore) where
  none_at : x.place < e.graph.places x.duty.key.0 → explore_left e.graph strikes x ≡ None
  none_at low = ap (λ (b : Bool). cond b None (next_at e.graph strikes point.Explored x.duty x.made)) (lt-ltb x.place (e.graph.places x.duty.key.0) low)

  -- what is left behind the last place
  pub left_is : (o : Option Next) (words : ℕ) → e.graph.places x.duty.key.0 ≤ x.place → words ≡ e.graph.notify_words x.duty.key.0 → o ≡ next_hit words x.made (drop x.made (hits point.Explored x.duty.key x.duty.life strikes)) → explore_left e.graph strikes x ≡ o
  left_is o words past all is = ap (λ (b : Bool). cond b None (next_at e.graph strikes point.Explored x.duty x.made)) (le-ltb x.place (e.graph.places x.duty.key.0) past)
      ∙ ap (λ m. next_hit m x.made (drop x.made (hits point.Explored x.duty.key x.duty.life strikes))) (sym all) ∙ sym is

  module _ (h now : Option BlockCells) where
    pub place_event : x.place < e.graph.places x.duty.key.0 → explore_event e v x x.way ≡ item_event e v strikes h now (item.Explore x)
    place_event low = sym (ap (with_strike e v h now (item.Explore x)) (none_at low) ∙ ap (λ (b : Bool). cond b (explore_event e v x x.way) (spend x.duty.row (known_key x.duty.row v) 40)) (lt-ltb x.place (e.graph.places x.duty.key.0) low))

    pub ended_event : e.graph.places x.duty.key.0 ≤ x.place → explore_left e.graph strikes x ≡ None → spend x.duty.row (known_key x.duty.row v) 40 ≡ item_event e v strikes h now (item.Explore x)
    ended_event past none_left = sym (ap (with_strike e v h now (item.Explore x)) none_left ∙ ap (λ (b : Bool). cond b (explore_event e v x x.way) (spend x.duty.row (known_key x.duty.row v) 40)) (le-ltb x.place (e.graph.places x.duty.key.0) past))

    pub struck_event : (next : Next) → explore_left e.graph strikes x ≡ Some next → strike_event e v x.duty next.target h now ≡ item_event e v strikes h now (item.Explore x)
    struck_event next is = sym (ap (with_strike e v h now (item.Explore x)) is)

  -- how much is left after a step without a block, where none was in hand
  pub falls_free : (n : ℕ) (y : Event) (now : After) (h : Option BlockCells) → h ≡ None → y ≡ item_event e v strikes h h (item.Explore x) → LetsFall e strikes y n (item_rest e strikes None (item.Explore x)) (after_rest e strikes None now)
      → LetsFall e strikes (item_event e v strikes h h (item.Explore x)) n (item_rest e strikes h (item.Explore x)) (after_rest e strikes h now)
  falls_free n y now h none same falls = subst (λ z. LetsFall e strikes z n (item_rest e strikes h (item.Explore x)) (after_rest e strikes h now)) same
      (subst (λ z. LetsFall e strikes y n (item_rest e strikes z (item.Explore x)) (after_rest e strikes z now)) (sym none) falls)
