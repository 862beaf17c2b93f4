-- The items of a view are those of its lines; the strike that an event makes is the next one of the first line.
use Rattle.std.proofs.Common.{◌≡◌, ◌≢◌, ne_eqb, ℕ, ◌+◌, ◌-◌, ◌<◌, Bool, true, false, cond, List, [], ◌∷◌, refl, ap, ◌∙◌, arith}
use mathlib.Core.Option.{some, none}
use Rattle.std.proofs.lemmas.Bool.{eq-eqb}
use Rattle.core_state.specs.Graph.{Setting}
use Rattle.core_state.specs.Counts.{hit, count, in_stacks, items}
use Rattle.core_state.specs.Tests.{is_exploring, notifies, suspects_block, is_owe}
use Rattle.core_state.specs.Views.{strike_next, strike_at, passing}
use Rattle.core_state.specs.Guards.{MakesStrike, CanBuy, InHand}
use Rattle.core_state.specs.Effects.{is_good}
use Rattle.core_state.specs.Events.{after}
use Rattle.core_state.specs.Events.Event.{strike_descriptor, strike_notify, drop_credit, take_turn, give_read, give_struck}
use Rattle.core_state.specs.Lines.{Line, of, credit, onto, flat, counted}
use Rattle.core_state.specs.Outcome.{strikes_left, spare_left, made_next}
use Rattle.graph_model.specs.declared.plan.Target.{Target}
use Rattle.graph_model.specs.declared.plan.Target.TheVariants as target
use Rattle.core_state.specs.declared.block.BlockCells.{BlockCells}
use Rattle.core_state.specs.declared.job.Job.{Job}
use Rattle.graph_model.specs.declared.record.Found.{Found}
use Rattle.graph_model.specs.declared.record.Cause.TheVariants as cause
use Rattle.core_state.specs.declared.views.Item.{Item}
use Rattle.core_state.specs.declared.views.Item.TheVariants as item
use Rattle.core_state.specs.declared.views.Stack.{Stack}
use Rattle.core_state.specs.declared.views.View.{View}
use Rattle.core_state.proofs.Base.Counting.{bump_is, eqb_here, two_here}
use Rattle.core_state.proofs.Lines.Outcomes.{leaves}
use Rattle.core_state.proofs.Lines.Top.{first_strike, credit_idle}

counted_onto : (p : Item → Bool) (xs : List Item) (b : List Line) → counted p (onto xs b) ≡ count p xs + counted p b
counted_onto p [] b = omega arith
counted_onto p (x ∷ xs) b = let h = counted_onto p xs b in let a = bump_is (p x) (counted p (onto xs b)) in let c = bump_is (p x) (count p xs) in omega (arith, h, a, c)

pub items_counted : (p : Item → Bool) (v : View) → items p v ≡ counted p (flat v.stacks)
items_counted p v = of_stacks v.stacks
  where
    of_stacks : (ss : List Stack) → in_stacks p ss ≡ counted p (flat ss)
    of_stacks [] = refl
    of_stacks (s ∷ ss) = let h = of_stacks ss in let a = counted_onto p s.items (credit ∷ flat ss) in omega (arith, h, a)

-- an item on top that passes is one of the view's
pub top_passes : (p : Item → Bool) (v : View) (x : Item) (b : List Line) → flat v.stacks ≡ of x ∷ b → p x ≡ true → 0 < items p v
top_passes p v x b is passes = let a = items_counted p v ∙ ap (counted p) is in let c = bump_is (p x) (counted p b) in let d = ap hit passes in omega (arith, a, c, d)

module _ (e : Setting) (v : View) where
  -- what a call that strikes asks, by the first line
  pub makes_strike : (x : Item) (b : List Line) (n k l : ℕ) (on : Target) → flat v.stacks ≡ of x ∷ b → strike_at e.graph e.plan v.strikes (passing e.graph x) ≡ some n → (e.plan.strike n).key.0 ≡ k → (e.plan.strike n).life ≡ l → (e.plan.strike n).target ≡ on → MakesStrike e v k l on
  makes_strike x b n k l on top next key_is life_is on_is = record { strike = n; is_next = first_strike e.graph e.plan v x b top ∙ next; of_key = key_is; of_life = life_is; on_target = on_is }

  -- the strike is made
  pub struck_descriptor : (r k l n : ℕ) → strike_next e.graph e.plan v ≡ some n → strikes_left e (strike_descriptor r k l) v ≡ n ∷ v.strikes
  struck_descriptor r k l n next = ap (λ o. made_next o v.strikes) next

  pub struck_notify : (r k l w n : ℕ) → strike_next e.graph e.plan v ≡ some n → strikes_left e (strike_notify r k l w) v ≡ n ∷ v.strikes
  struck_notify r k l w n next = ap (λ o. made_next o v.strikes) next

  pub struck_block : (k l b n : ℕ) (was now : BlockCells) → strike_next e.graph e.plan v ≡ some n → strikes_left e (give_struck k l b was now) v ≡ n ∷ v.strikes
  struck_block k l b n was now next = ap (λ o. made_next o v.strikes) next

  -- so it is where the block holds another thing
  pub missed_block : (b n : ℕ) (was : BlockCells) → strike_next e.graph e.plan v ≡ some n → (e.plan.strike n).target ≡ target.Block → b ≡ e.graph.block (e.plan.strike n).key.0 → is_good (e.graph.version (e.plan.strike n).key.0) was ≡ false → strikes_left e (give_read b was) v ≡ n ∷ v.strikes
  missed_block b n was next on of_key bad = rw (next, on, eq-eqb b (e.graph.block (e.plan.strike n).key.0) of_key, bad)

  -- where no strike is next, none is made
  pub no_strike : (b : ℕ) (was : BlockCells) → strike_next e.graph e.plan v ≡ none → strikes_left e (give_read b was) v ≡ v.strikes
  no_strike b was next = rw next

  -- none is next while inputs are read
  pub reading_unstruck : (k l i : ℕ) (made : Bool) (b : List Line) → flat v.stacks ≡ of (item.Compute k l true i made) ∷ b → strike_next e.graph e.plan v ≡ none
  reading_unstruck k l i made b top = first_strike e.graph e.plan v (item.Compute k l true i made) b top

  -- the credit of a stack goes, and no spare one
  pub drop_spares : (b : List Line) → flat v.stacks ≡ credit ∷ b → spare_left e drop_credit v ≡ v.spare
  drop_spares b top = ap (λ (c : Bool). cond c v.spare (v.spare - 1)) (credit_idle v.stacks b top)

-- What the first line gives to calls that ask for an item that the view holds.
module _ (v : View) where
  pub explorer_on_top : (k l j : ℕ) (b : List Line) → flat v.stacks ≡ of (item.Explore k l j) ∷ b → 0 < items (is_exploring k l j) v
  explorer_on_top k l j b top = top_passes (is_exploring k l j) v (item.Explore k l j) b top (rw (eqb_here k, eqb_here l, eqb_here j))

  pub notifier_on_top : (k l y q : ℕ) (qs : List ℕ) (b : List Line) → flat v.stacks ≡ of (item.Notify k l y (q ∷ qs)) ∷ b → 0 < items (notifies k q) v
  notifier_on_top k l y q qs b top = top_passes (notifies k q) v (item.Notify k l y (q ∷ qs)) b top (rw (eqb_here k, eqb_here q))

  pub suspect_on_top : (k l a u : ℕ) (f : Found) (waits : Bool) (b : List Line) → flat v.stacks ≡ of (item.Suspect k l (cause.Block a u f) waits) ∷ b → 0 < items (suspects_block a u) v
  suspect_on_top k l a u f waits b top = top_passes (suspects_block a u) v (item.Suspect k l (cause.Block a u f) waits) b top (two_here a u)

  pub owed_on_top : (k l : ℕ) (i : Job) (b : List Line) → flat v.stacks ≡ of (item.Owe k i l) ∷ b → 0 < items is_owe v
  owed_on_top k l i b top = top_passes is_owe v (item.Owe k i l) b top refl

  -- a credit is bought for it where none is spare
  pub can_buy : (e : Setting) (k l : ℕ) (i : Job) (b : List Line) → v.spare ≡ 0 → flat v.stacks ≡ of (item.Owe k i l) ∷ b → CanBuy e v
  can_buy e k l i b unspent top = record { needed = let a = owed_on_top k l i b top in omega (arith, a, unspent) }

-- the block that was taken is in hand, and the one in hand goes home
module _ (e : Setting) (n : ℕ) (v w : View) where
  pub taken_in_hand : (b : ℕ) (was : BlockCells) → n ≡ 0 → w ≡ after e (take_turn b was) n v → InHand w b was
  taken_in_hand b was free is = record { others = v.hands; hands_are = (leaves e (take_turn b was) n v w is).hands_are ∙ ap (λ (c : Bool). cond c (record { block = b; held = was } ∷ v.hands) v.hands) (eq-eqb n 0 free) }

  pub none_in_hand : (b : ℕ) (was : BlockCells) → n ≢ 0 → w ≡ after e (take_turn b was) n v → w.hands ≡ v.hands
  none_in_hand b was busy is = (leaves e (take_turn b was) n v w is).hands_are ∙ ap (λ (c : Bool). cond c (record { block = b; held = was } ∷ v.hands) v.hands) (ne_eqb n 0 busy)
