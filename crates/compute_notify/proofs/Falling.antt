-- The step of a strike lets the rest of an item fall, or another seat has the block.
use Rattle.std.proofs.Common.{◌≡◌, ◌∙◌, inl, inr, ℕ, ◌+◌, ◌-◌, ◌<◌, ◌≤◌, Bool, true, false, cond, List, [], ◌∷◌, drop, length, Option, Some, None, ap, sym, subst, refl, arith, length-drop}
use Rattle.graph_model.specs.Plans.{hits}
use Rattle.graph_model.specs.declared.plan.Point.{Point}
use Rattle.graph_model.specs.declared.plan.Strike.{Strike}
use Rattle.graph_model.specs.declared.plan.Target.{Target}
use Rattle.graph_model.specs.declared.plan.Target.TheVariants as target
use Rattle.core_state.specs.Change.{no_cells}
use Rattle.core_state.specs.Graph.{Graph, Setting}
use Rattle.core_state.specs.Events.Event.{take_turn}
use Rattle.core_state.specs.declared.block.BlockCells.{BlockCells}
use Rattle.core_state.specs.declared.views.View.{View}
use Rattle.block_store.specs.Turned.{blow_of, struck_home}
use Rattle.block_store.specs.declared.answers.Blow.{Blow}
use Rattle.block_store.specs.declared.answers.Blow.TheVariants as blow
use Rattle.compute_notify.specs.Resting.{Excuses, LetsFall, held, step_cost, strikes_rest}
use Rattle.compute_notify.specs.Resting.Excuses.{taken}
use Rattle.compute_notify.specs.Striking.{IsAsked, StrikeTells, has_target, next_at, next_hit, strike_event}
use Rattle.compute_notify.specs.declared.duty.Duty.{Duty}
use Rattle.compute_notify.specs.declared.strikes.Next.{Next}

-- the next strike is further on, and within the list
hit_within : (words n : ℕ) (ts : List Target) (next : Next) → next_hit words n ts ≡ Some next → (n < next.made) × (next.made ≤ n + length ts)
hit_within words n [] next z = absurd cc
hit_within words n (t ∷ ts) next z = by (λ w. hit_within words (n + 1) ts next w) (has_target words t) z
  where
    by : (next_hit words (n + 1) ts ≡ Some next → (n + 1 < next.made) × (next.made ≤ n + 1 + length ts)) → (b : Bool) → cond b (Some (record { target = t; made = n + 1 })) (next_hit words (n + 1) ts) ≡ Some next → (n < next.made) × (next.made ≤ n + length (t ∷ ts))
    by later true w = let here : Next = record { target = t; made = n + 1 } in let same : here ≡ next = cc in let a : n + 1 ≡ next.made = ap (λ (x : Next). x.made) same in (omega (arith, a), omega (arith, a))
    by later false w = let a = later w in let b = a.0 in let c = a.1 in (omega (arith, b), omega (arith, c))

pub next_within : (g : Graph) (strikes : List Strike) (at : Point) (duty : Duty) (m : ℕ) (next : Next) → next_at g strikes at duty m ≡ Some next → (m < next.made) × (next.made ≤ length (hits at duty.key duty.life strikes))
next_within g strikes at duty m next is =
    let a = hit_within (g.notify_words duty.key.0) m (drop m (hits at duty.key duty.life strikes)) next is in
    let b = a.0 in
    let c = a.1 in
    let long = length-drop m (hits at duty.key duty.life strikes) in
    (b, omega (arith, b, c, long))

held_few : (h : Option BlockCells) → held h ≤ 1
held_few None = omega arith
held_few (Some x) = omega arith

home_cost : (k l b : ℕ) (x : BlockCells) (answer : Blow) → step_cost (struck_home k l b answer x) ≡ 1
home_cost k l b x blow.Landed = refl
home_cost k l b x blow.Missed = refl
home_cost k l b x blow.Busy = refl

strike_cost : (e : Setting) (v : View) (duty : Duty) (on : Target) (h now : Option BlockCells) → step_cost (strike_event e v duty on h now) ≡ 1
strike_cost e v duty target.Descriptor h now = refl
strike_cost e v duty (target.Notify w) h now = refl
strike_cost e v duty target.Block None now = refl
strike_cost e v duty target.Block (Some x) now = home_cost duty.key.0 duty.life (e.graph.block duty.key.0) x (blow_of (e.graph.version duty.key.0) x)

module _ (e : Setting) (v w : View) (strikes : List Strike) (at : Point) (duty : Duty) (m : ℕ) (next : Next) (h now : Option BlockCells) (n : ℕ) (is : next_at e.graph strikes at duty m ≡ Some next) where
  -- a rest in which the strikes of a point and something more stand without the block in hand
  abbrev rest_of : ℕ → ℕ → ℕ → ℕ → Option BlockCells → ℕ
  rest_of a b c made block = a + ((strikes_rest strikes at duty made + c) - held block) + b

  asked : (a b c : ℕ) (o : Option BlockCells) → IsAsked e v w duty.key.0 duty.life next.target h o n → LetsFall e strikes (strike_event e v duty next.target h o) n (rest_of a b c m h) (rest_of a b c m o)
  asked a b c (Some x) told =
      let within = next_within e.graph strikes at duty m next is in
      let low = within.0 in
      let high = within.1 in
      let cost = strike_cost e v duty next.target h (Some x) in
      let free : held h ≡ 0 = ap held told.none_before in
      inl (omega (arith, low, high, cost, free))
  asked a b c None told =
      let event : take_turn (e.graph.block duty.key.0) no_cells ≡ strike_event e v duty next.target h None = ap (λ z. strike_event e v duty target.Block z None) (sym told.none_before) ∙ ap (λ t. strike_event e v duty t h None) (sym told.on_block) in
      let free : held h ≡ 0 = ap held told.none_before in
      inr (0, subst (λ z. Excuses e strikes z n 0) event (taken (e.graph.block duty.key.0) no_cells n told.turn), omega (arith, free))

  falls : (a b c : ℕ) (made : Bool) → StrikeTells e v w duty.key.0 duty.life next.target h now n made → LetsFall e strikes (strike_event e v duty next.target h now) n (rest_of a b c m h) (rest_of a b c (cond made next.made m) now)
  falls a b c true told =
      let within = next_within e.graph strikes at duty m next is in
      let low = within.0 in
      let high = within.1 in
      let cost = strike_cost e v duty next.target h now in
      let free : held now ≡ 0 = ap held told.none_now in
      let few = held_few h in
      inl (omega (arith, low, high, cost, free, few))
  falls a b c false told = asked a b c now told

  -- each item's rest has this form
  pub struck_falls : (a b c before after : ℕ) (made : Bool) → StrikeTells e v w duty.key.0 duty.life next.target h now n made
      → before ≡ a + ((strikes_rest strikes at duty m + c) - held h) + b → after ≡ a + ((strikes_rest strikes at duty (cond made next.made m) + c) - held now) + b
      → LetsFall e strikes (strike_event e v duty next.target h now) n before after
  struck_falls a b c before after made told was left = subst (λ z. LetsFall e strikes (strike_event e v duty next.target h now) n z after) (sym was) (subst (λ z. LetsFall e strikes (strike_event e v duty next.target h now) n (rest_of a b c m h) z) (sym left) (falls a b c made told))
