-- How much is left of an exploring after each of its steps.
use Rattle.std.proofs.Common.{◌≡◌, ℕ, ◌+◌, ◌-◌, ◌*◌, ◌<◌, ◌≤◌, Bool, true, false, cond, eqb, List, Some, None, inr, arith, ap, sym, refl, ◌∙◌, subst}
use Rattle.std.proofs.lemmas.Bool.{eqb-true, le-ltb, lt-ltb}
use mathlib.Core.Logic.{dite}
use native.Mathlib.Decide.{dec_lt}
use native.Mathlib.Nat.{add-mul}
use Rattle.graph_model.specs.declared.graph.Edge.{Edge as TaskEdge}
use Rattle.graph_model.specs.declared.plan.Point.TheVariants as point
use Rattle.graph_model.specs.declared.plan.Strike.{Strike}
use Rattle.graph_model.specs.declared.record.Cause.TheVariants as cause
use Rattle.core_state.specs.Counts.{known_key}
use Rattle.core_state.specs.Effects.{registered_of, told_of}
use Rattle.core_state.specs.Graph.{Setting}
use Rattle.core_state.specs.Events.Event.{register, spend}
use Rattle.core_state.specs.Words.{closed_bit, life_of, mark_of}
use Rattle.core_state.specs.declared.answers.Registered.{Registered}
use Rattle.core_state.specs.declared.answers.Registered.TheVariants as registered
use Rattle.core_state.specs.declared.answers.Told.{Told}
use Rattle.core_state.specs.declared.views.View.{View}
use Rattle.compute_notify.specs.Items.{replaces, told_came}
use Rattle.compute_notify.specs.Resting.{LetsFall, after_rest, explore_rest, explore_way_rest, held, item_rest, strikes_rest, suspect_rest}
use Rattle.compute_notify.specs.Resting.Excuses.{marked_port}
use Rattle.compute_notify.specs.declared.explore.Explore.{Explore}
use Rattle.compute_notify.specs.declared.explore.Way.{Way}
use Rattle.compute_notify.specs.declared.explore.Way.TheVariants as reaching
use Rattle.compute_notify.specs.declared.item.After.{After}
use Rattle.compute_notify.specs.declared.item.Came.TheVariants as came
use Rattle.compute_notify.specs.declared.item.Item.TheVariants as item
use Rattle.compute_notify.proofs.Coming.{told_falls}
use Rattle.compute_notify.proofs.Exploring.{next_of}

-- the places behind the one at hand, and the strikes and the self place behind the last
abbrev pub behind_place : Setting → List Strike → Explore → ℕ
behind_place e p x = (e.graph.places x.duty.key.0 - (x.place + 1)) * (e.shape.rows + 14) + (strikes_rest p point.Explored x.duty x.made - held None) + 7

module _ (e : Setting) (p : List Strike) (x : Explore) (low : x.place < e.graph.places x.duty.key.0) where
  -- at a place the way to its predecessor comes first
  pub rest_at : (next : Way) → explore_rest e p None (record x { way = next }) ≡ explore_way_rest e.shape.rows next + behind_place e p x
  rest_at next = let c : ℕ = e.shape.rows + 14 in let m : ℕ = e.graph.places x.duty.key.0 - (x.place + 1) in let s : ℕ = strikes_rest p point.Explored x.duty x.made - held None in
      let a : explore_rest e p None (record x { way = next }) ≡ (explore_way_rest e.shape.rows next + m * c) + s + 7 = ap (λ (b : Bool). cond b (explore_way_rest e.shape.rows next + m * c) 0 + s + 7) (lt-ltb x.place (e.graph.places x.duty.key.0) low) in omega (arith, a)

  pub rest_next : explore_rest e p None (next_of x) ≤ behind_place e p x
  rest_next = let c : ℕ = e.shape.rows + 14 in let k : ℕ = e.graph.places x.duty.key.0 in let m : ℕ = k - ((x.place + 1) + 1) in let s : ℕ = strikes_rest p point.Explored x.duty x.made - held None in dite (dec_lt (x.place + 1) k)
      (λ more. let a : explore_rest e p None (next_of x) ≡ (c + m * c) + s + 7 = ap (λ (b : Bool). cond b (c + m * c) 0 + s + 7) (lt-ltb (x.place + 1) k more) in
      let split : (m + 1) * c ≡ m * c + 1 * c = add-mul m 1 c in
      let all : (k - (x.place + 1)) * c ≡ (m + 1) * c = ap (λ z. z * c) (let d : k - (x.place + 1) ≡ m + 1 = omega (arith, more) in d) in
      omega (arith, a, split, all))
      (λ last. let a : explore_rest e p None (next_of x) ≡ 0 + s + 7 = ap (λ (b : Bool). cond b (c + m * c) 0 + s + 7) (le-ltb (x.place + 1) k (omega (arith, last))) in omega (arith, a))

  rest_here : (next : Way) → x.way ≡ next → item_rest e p None (item.Explore x) ≡ explore_way_rest e.shape.rows next + behind_place e p x
  rest_here next at = rest_at x.way ∙ ap (λ y. explore_way_rest e.shape.rows y + behind_place e p x) at

  -- the registering
  module _ (v : View) (row : ℕ) (edge : TaskEdge) (at : x.way ≡ reaching.Register row) (n : ℕ) where
    struck_marked : (l : ℕ) → registered.Struck l ≡ registered_of n → mark_of n ≡ 1
    struck_marked l is = by (eqb (mark_of n) 1) (eqb (closed_bit n) 1) refl is
      where
        by : (a b : Bool) → eqb (mark_of n) 1 ≡ a → registered.Struck l ≡ cond a (registered.Struck (life_of n)) (cond b (registered.Closed (life_of n)) (registered.Waiting (life_of n))) → mark_of n ≡ 1
        by true b marked told = eqb-true (mark_of n) 1 marked
        by false true marked told = absurd cc
        by false false marked told = absurd cc

    pub falls_struck : (lives l : ℕ) (told : Registered) (now : After) → known_key row v ≡ edge.key.0 → told ≡ registered_of n → told ≡ registered.Struck l → now ≡ record { left = Some (item.Explore (record x { way = reaching.Register row })); came = came.Above (item.Recover (replaces (record { row = row; key = edge.key; life = l }) cause.Notify false lives)) }
        → LetsFall e p (register row (known_key row v) edge.port) n (item_rest e p None (item.Explore x)) (after_rest e p None now)
    falls_struck lives l told now known t struck left = inr (
      suspect_rest e (known_key row v),
      marked_port row (known_key row v) edge.port n (struck_marked l (sym struck ∙ t)),
      (let a = rest_here (reaching.Register row) at in let b = rest_at (reaching.Register row) in let c = ap (suspect_rest e) known in let d = ap (after_rest e p None) left in omega (arith, a, b, c, d)),
    )

  -- the spending of the place
  pub falls_spent : (v : View) (n lives : ℕ) (t : Told) (now : After) → x.way ≡ reaching.Spend → t ≡ told_of (e.graph.places x.duty.key.0) x.place n → known_key x.duty.row v ≡ x.duty.key.0 → now ≡ record { left = Some (item.Explore (next_of x)); came = told_came t x.duty.row x.duty.key lives }
      → LetsFall e p (spend x.duty.row (known_key x.duty.row v) x.place) n (item_rest e p None (item.Explore x)) (after_rest e p None now)
  falls_spent v n lives t now at told known left = subst (λ a. LetsFall e p (spend x.duty.row (known_key x.duty.row v) x.place) n (item_rest e p None (item.Explore x)) (after_rest e p None a)) (sym left)
      (told_falls e p v (e.graph.places x.duty.key.0) x.place n t x.duty.row x.duty.key lives (Some (item.Explore (next_of x))) (item_rest e p None (item.Explore x)) told known (let a = rest_here reaching.Spend at in let b = rest_next in omega (arith, a, b)))

-- the spending of the self place
pub falls_ended : (e : Setting) (p : List Strike) (x : Explore) (v : View) (n lives : ℕ) (t : Told) (now : After) → t ≡ told_of (e.graph.places x.duty.key.0) 40 n → known_key x.duty.row v ≡ x.duty.key.0 → now ≡ record { left = None; came = told_came t x.duty.row x.duty.key lives }
    → LetsFall e p (spend x.duty.row (known_key x.duty.row v) 40) n (item_rest e p None (item.Explore x)) (after_rest e p None now)
falls_ended e p x v n lives t now told known left = subst (λ a. LetsFall e p (spend x.duty.row (known_key x.duty.row v) 40) n (item_rest e p None (item.Explore x)) (after_rest e p None a)) (sym left)
    (told_falls e p v (e.graph.places x.duty.key.0) 40 n t x.duty.row x.duty.key lives None (item_rest e p None (item.Explore x)) told known (omega arith))
