-- The next strike at the point of an item, as the list of strikes tells it and as the view has it.
use Rattle.std.proofs.Common.{◌≡◌, ◌∙◌, ℕ, ◌<◌, ◌≤◌, Bool, true, false, cond, nat_lt, eqb, List, Option, Some, None, ap, sym, refl, arith}
use Rattle.std.proofs.lemmas.Bool.{eq-eqb, le-ltb, lt-ltb, ne_eqb}
use mathlib.Core.Option.{some, none}
use mathlib.Core.Option as core
use Rattle.graph_model.specs.Graph.{Graph as TaskGraph}
use Rattle.graph_model.specs.declared.plan.Point.{Point}
use Rattle.graph_model.specs.declared.plan.Point.TheVariants as point
use Rattle.graph_model.specs.declared.plan.Strike.{Strike}
use Rattle.core_state.specs.Guards.{AtWork, MakesStrike}
use Rattle.core_state.specs.Graph.{Setting}
use Rattle.core_state.specs.Views.{Passing, passing, strike_at, strike_next, strike_of, top_items}
use Rattle.core_state.specs.declared.views.Item.{Item}
use Rattle.core_state.specs.declared.views.Item.TheVariants as item
use Rattle.core_state.specs.declared.views.View.{View}
use Rattle.compute_notify.specs.Running.{Runs}
use Rattle.compute_notify.specs.Striking.{FitsStrikes, close_left, explore_left, next_at}
use Rattle.compute_notify.specs.declared.close.Close.{Close}
use Rattle.compute_notify.specs.declared.duty.Duty.{Duty}
use Rattle.compute_notify.specs.declared.explore.Explore.{Explore}
use Rattle.compute_notify.specs.declared.strikes.Next.{Next}
use Rattle.compute_notify.proofs.Fitting.{HasNext, has_next, has_none, makes_next, makes_none}

abbrev pub at_point : Point → Duty → core.Option Passing
at_point at duty = some (record { at = at; key = duty.key.0; life = duty.life })

-- an item of exploring, of a computing at its beginning and of a closing
abbrev pub exploring : Explore → Item
exploring x = item.Explore x.duty.key.0 x.duty.life x.place

abbrev pub ready : Duty → Item
ready duty = item.Compute duty.key.0 duty.life false 0 false

abbrev pub closing : Close → Item
closing c = item.Close c.duty.key.0 c.duty.life c.word

-- behind a test, what is chosen is the same on both sides
chosen : {X Y : Type 0} (b : Bool) (o : Option X) (y : Y) (x : X) → cond b None o ≡ Some x → (cond b none (some y) ≡ some y) × (o ≡ Some x)
chosen true o y x z = absurd cc
chosen false o y x z = (refl, z)

passed : {X Y : Type 0} (b : Bool) (o : Option X) (y : Y) → b ≡ false → cond b None o ≡ None → (cond b none (some y) ≡ some y) × (o ≡ None)
passed true o y off z = absurd cc
passed false o y off z = (refl, z)

module _ (g : TaskGraph) (strikes : List Strike) (lives : ℕ) (e : Setting) (v : View) (runs : Runs g strikes lives e) where
  -- what is next at a point of a duty
  next_here : (at : Point) (duty : Duty) (made : ℕ) (next : Next) → FitsStrikes e v at duty.key.0 duty.life made → next_at e.graph strikes at duty made ≡ Some next → HasNext e v at duty.key.0 duty.life next
  next_here at duty made next fits is = has_next e v strikes at duty made runs.plan_is fits next runs.few_strikes is

  none_here : (at : Point) (duty : Duty) (made : ℕ) (x : Item) → AtWork v x → passing e.graph x ≡ at_point at duty → FitsStrikes e v at duty.key.0 duty.life made → next_at e.graph strikes at duty made ≡ None → strike_next e.graph e.plan v ≡ none
  none_here at duty made x work here fits is = makes_none e v at duty.key.0 duty.life x work here (has_none e v strikes at duty made runs.plan_is fits is)

  -- exploring, behind its last place
  module _ (x : Explore) (fits : FitsStrikes e v point.Explored x.duty.key.0 x.duty.life x.made) where
    pub explore_next : (next : Next) → explore_left e.graph strikes x ≡ Some next → (passing e.graph (exploring x) ≡ at_point point.Explored x.duty) × HasNext e v point.Explored x.duty.key.0 x.duty.life next
    explore_next next is = let a = chosen (nat_lt x.place (e.graph.places x.duty.key.0)) (next_at e.graph strikes point.Explored x.duty x.made) (record { at = point.Explored; key = x.duty.key.0; life = x.duty.life }) next is in
        (a.0, next_here point.Explored x.duty x.made next fits a.1)

    pub explore_makes : (next : Next) → AtWork v (exploring x) → explore_left e.graph strikes x ≡ Some next → MakesStrike e v x.duty.key.0 x.duty.life next.target
    explore_makes next work is = let a = explore_next next is in makes_next e v point.Explored x.duty.key.0 x.duty.life (exploring x) work a.0 next a.1

    pub explore_none : AtWork v (exploring x) → e.graph.places x.duty.key.0 ≤ x.place → explore_left e.graph strikes x ≡ None → strike_next e.graph e.plan v ≡ none
    explore_none work past is = let a = passed (nat_lt x.place (e.graph.places x.duty.key.0)) (next_at e.graph strikes point.Explored x.duty x.made) (record { at = point.Explored; key = x.duty.key.0; life = x.duty.life }) (le-ltb x.place (e.graph.places x.duty.key.0) past) is in
        none_here point.Explored x.duty x.made (exploring x) work a.0 fits a.1

  -- at a place of exploring there is no strike
  pub place_none : (x : Explore) → AtWork v (exploring x) → x.place < e.graph.places x.duty.key.0 → strike_next e.graph e.plan v ≡ none
  place_none x work low = ap (strike_of e.graph e.plan v.strikes) (ap top_items work.stacks_are ∙ work.items_are)
      ∙ ap (λ (b : Bool). strike_at e.graph e.plan v.strikes (cond b none (at_point point.Explored x.duty))) (lt-ltb x.place (e.graph.places x.duty.key.0) low)

  -- computing, before its look at the descriptor
  module _ (duty : Duty) (made : ℕ) (fits : FitsStrikes e v point.Ready duty.key.0 duty.life made) where
    pub ready_next : (next : Next) → next_at e.graph strikes point.Ready duty made ≡ Some next → HasNext e v point.Ready duty.key.0 duty.life next
    ready_next next is = next_here point.Ready duty made next fits is

    pub ready_makes : (next : Next) → AtWork v (ready duty) → next_at e.graph strikes point.Ready duty made ≡ Some next → MakesStrike e v duty.key.0 duty.life next.target
    ready_makes next work is = makes_next e v point.Ready duty.key.0 duty.life (ready duty) work refl next (ready_next next is)

    pub ready_none : AtWork v (ready duty) → next_at e.graph strikes point.Ready duty made ≡ None → strike_next e.graph e.plan v ≡ none
    ready_none work is = none_here point.Ready duty made (ready duty) work refl fits is

  -- closing, before its first word and behind its last
  module _ (c : Close) where
    pub record IsAt (at : Point) : Type 0 where
      pub here : passing e.graph (closing c) ≡ at_point at c.duty
      pub left_is : close_left e.graph strikes c ≡ next_at e.graph strikes at c.duty c.made

    abbrev point_by : Bool → Bool → core.Option Passing
    point_by first inside = cond first (at_point point.Computed c.duty) (cond inside none (at_point point.Notified c.duty))

    abbrev left_by : Bool → Bool → Option Next
    left_by first inside = cond first (next_at e.graph strikes point.Computed c.duty c.made) (cond inside None (next_at e.graph strikes point.Notified c.duty c.made))

    abbrev inside : Bool
    inside = nat_lt c.word (e.graph.notify_words c.duty.key.0)

    not_first : 0 < c.word → eqb c.word 0 ≡ false
    not_first later = ne_eqb c.word 0 (λ z. omega (arith, later, z))

    pub at_computed : c.word ≡ 0 → IsAt point.Computed
    at_computed first = let a = eq-eqb c.word 0 first in record { here = ap (λ b. point_by b inside) a; left_is = ap (λ b. left_by b inside) a }

    pub at_notified : 0 < c.word → e.graph.notify_words c.duty.key.0 ≤ c.word → IsAt point.Notified
    at_notified later past =
        let a = not_first later in
        let b = le-ltb c.word (e.graph.notify_words c.duty.key.0) past in
        record { here = ap (λ x. point_by x inside) a ∙ ap (λ x. point_by false x) b; left_is = ap (λ x. left_by x inside) a ∙ ap (λ x. left_by false x) b }

    module _ (at : Point) (is_at : IsAt at) (fits : FitsStrikes e v at c.duty.key.0 c.duty.life c.made) where
      pub close_next : (next : Next) → close_left e.graph strikes c ≡ Some next → HasNext e v at c.duty.key.0 c.duty.life next
      close_next next is = next_here at c.duty c.made next fits (sym is_at.left_is ∙ is)

      pub close_makes : (next : Next) → AtWork v (closing c) → close_left e.graph strikes c ≡ Some next → MakesStrike e v c.duty.key.0 c.duty.life next.target
      close_makes next work is = makes_next e v at c.duty.key.0 c.duty.life (closing c) work is_at.here next (close_next next is)

      pub close_none : AtWork v (closing c) → close_left e.graph strikes c ≡ None → strike_next e.graph e.plan v ≡ none
      close_none work is = none_here at c.duty c.made (closing c) work is_at.here fits (sym is_at.left_is ∙ is)

    -- between the first word and the last there is no strike
    pub word_left : 0 < c.word → c.word < e.graph.notify_words c.duty.key.0 → close_left e.graph strikes c ≡ None
    word_left later low = ap (λ x. left_by x inside) (not_first later) ∙ ap (λ x. left_by false x) (lt-ltb c.word (e.graph.notify_words c.duty.key.0) low)

    pub word_none : AtWork v (closing c) → 0 < c.word → c.word < e.graph.notify_words c.duty.key.0 → strike_next e.graph e.plan v ≡ none
    word_none work later low = ap (strike_of e.graph e.plan v.strikes) (ap top_items work.stacks_are ∙ work.items_are)
        ∙ ap (λ x. strike_at e.graph e.plan v.strikes (point_by x inside)) (not_first later)
        ∙ ap (λ x. strike_at e.graph e.plan v.strikes (point_by false x)) (lt-ltb c.word (e.graph.notify_words c.duty.key.0) low)
