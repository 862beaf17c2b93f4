-- A view in which a result was made is as it was, but for that; and what a step adds to it.
use Rattle.std.proofs.Common.{◌≡◌, ℕ, ◌≤◌, Bool, true, false, cond, not, nat_lt, List, ◌∷◌, length, arith, refl, ap, sym, ◌∙◌, subst}
use mathlib.Core.Option.{Option, some, none}
use Rattle.graph_model.specs.Graph.{Graph as TaskGraph}
use Rattle.core_state.specs.Counts.{begun, hit, noted}
use Rattle.core_state.specs.Effects.{after_computed, missed, missed_by}
use Rattle.core_state.specs.Events.{Event, after}
use Rattle.core_state.specs.Events.Event.{give_read, give_struck, strike_descriptor, strike_notify}
use Rattle.core_state.specs.Graph.{Setting}
use Rattle.core_state.specs.Lines.{HasLines, Line, counted, flat, of}
use Rattle.core_state.specs.Outcome.{made_next, strikes_left}
use Rattle.core_state.specs.Tests.{carries, is_any_replaced, is_any_struck}
use Rattle.core_state.specs.Views.{strike_next}
use Rattle.core_state.specs.declared.block.BlockCells.{BlockCells}
use Rattle.core_state.specs.declared.job.Job.{Job}
use Rattle.core_state.specs.declared.job.Job.TheVariants as job
use Rattle.core_state.specs.declared.views.Item.TheVariants as line
use Rattle.core_state.specs.declared.views.View.{View}
use Rattle.core_state.proofs.Base.Counting.{bump_is}
use Rattle.core_state.proofs.Lines.After.{computed_lines, line_stands}
use Rattle.core_state.proofs.Lines.Counts.{items_counted}
use Rattle.core_state.proofs.Lines.Leaves.{HasLine}
use Rattle.core_state.proofs.Lines.Outcomes.{leaves}
use Rattle.compute_notify.specs.Eventing.{computes, item_prepared}
use Rattle.compute_notify.specs.Items.{Stands, compute_lines}
use Rattle.compute_notify.specs.declared.compute.Phase.{Phase}
use Rattle.compute_notify.specs.declared.compute.Phase.TheVariants as phase
use Rattle.compute_notify.specs.declared.item.Item.{Item}
use Rattle.compute_notify.specs.declared.item.Item.TheVariants as item
use Rattle.run_bounds.specs.Light.{lines_weight}
use Rattle.run_bounds.specs.Shared.{BehindPlain, IsPlain, IsTopped}

-- the item carries the same job once its result was made
carries_made : (i : Job) (a m k l read : ℕ) (loaded made : Bool) → carries i a m (line.Compute k l loaded read true) ≡ carries i a m (line.Compute k l loaded read made)
carries_made job.Explore a m k l read loaded made = refl
carries_made job.Compute a m k l read loaded made = refl

computed_begun : (v : View) (k l read : ℕ) (loaded made : Bool) (b : List Line) → flat v.stacks ≡ of (line.Compute k l loaded read made) ∷ b → (i : Job) (a m : ℕ) → begun i a m (after_computed k l v) ≡ begun i a m v
computed_begun v k l read loaded made b top i a m =
    let c = items_counted (carries i a m) (after_computed k l v) in let d = items_counted (carries i a m) v in let f = ap (counted (carries i a m)) (computed_lines v k l k l read loaded made b top) in let g = ap (counted (carries i a m)) top in
    let h = bump_is (carries i a m (line.Compute k l loaded read true)) (counted (carries i a m) b) in let o = bump_is (carries i a m (line.Compute k l loaded read made)) (counted (carries i a m) b) in let q = ap hit (carries_made i a m k l read loaded made) in omega (arith, c, d, f, g, h, o, q)

-- a view that is ready for a step: the same, or with a result that was made
pub record Prepared (e : Setting) (v u : View) : Type 0 where
  pub same_begun : (i : Job) (k l : ℕ) → begun i k l u ≡ begun i k l v
  pub same_replaced : noted is_any_replaced u ≡ noted is_any_replaced v
  pub same_struck : noted is_any_struck u ≡ noted is_any_struck v
  pub same_ended : u.ended ≡ v.ended
  pub same_strikes : u.strikes ≡ v.strikes
  pub same_hands : u.hands ≡ v.hands
  pub line_on : HasLine v → HasLine u
  pub weighs : lines_weight e (flat u.stacks) ≡ lines_weight e (flat v.stacks)
  pub plain_on : IsPlain v → IsPlain u
  pub topped_on : IsTopped v → IsTopped u

pub prepared_same : (e : Setting) (v : View) → Prepared e v v
prepared_same e v = record { same_begun = λ i k l. refl; same_replaced = refl; same_struck = refl; same_ended = refl; same_strikes = refl; same_hands = refl; line_on = λ has. has; weighs = refl; plain_on = λ plain. plain; topped_on = λ topped. topped }

pub prepared : (g : TaskGraph) (e : Setting) (v : View) (y : Item) → Stands g e v y → Prepared e v (item_prepared e.graph y v)
prepared g e v (item.Compute c) stands = by c.phase stands.top.lines_are
  where
    by : (q : Phase) → HasLines e v (compute_lines e.graph c.duty q stands.top.below) → Prepared e v (cond (computes e.graph c q) (after_computed c.duty.key.0 c.duty.life v) v)
    by (phase.Reading input) lines = to (not (nat_lt input (e.graph.inputs c.duty.key.0)))
      where
        to : (b : Bool) → Prepared e v (cond b (after_computed c.duty.key.0 c.duty.life v) v)
        to true = let below : List Line = stands.top.below in let top = line_stands e v (line.Compute c.duty.key.0 c.duty.life true input false) below refl lines in
            let now : flat (after_computed c.duty.key.0 c.duty.life v).stacks ≡ of (line.Compute c.duty.key.0 c.duty.life true input true) ∷ below = computed_lines v c.duty.key.0 c.duty.life c.duty.key.0 c.duty.life input true false below top in record {
              same_begun = computed_begun v c.duty.key.0 c.duty.life input true false below top;
              same_replaced = refl;
              same_struck = refl;
              same_ended = refl;
              same_strikes = refl;
              same_hands = refl;
              line_on = λ has. record { first = of (line.Compute c.duty.key.0 c.duty.life true input true); rest = below; lines_are = now };
              weighs = ap (lines_weight e) now ∙ sym (ap (lines_weight e) top);
              plain_on = λ plain. record { first = of (line.Compute c.duty.key.0 c.duty.life true input true); below = below; top = now; plain = refl };
              topped_on = λ topped. subst BehindPlain (sym now) (subst BehindPlain top topped);
            }
        to false = prepared_same e v
    by q lines = prepared_same e v
prepared g e v y stands = prepared_same e v

-- strikes that were made stay so
made_more : (o : Option ℕ) (xs : List ℕ) → length xs ≤ length (made_next o xs)
made_more none xs = omega arith
made_more (some n) xs = omega arith

missed_more : (e : Setting) (b : ℕ) (was : BlockCells) (o : Option ℕ) (xs : List ℕ) → length xs ≤ length (missed_by e.graph e.plan b was o xs)
missed_more e b was none xs = omega arith
missed_more e b was (some n) xs = by (missed e.graph b was (e.plan.strike n))
  where
    by : (f : Bool) → length xs ≤ length (cond f (n ∷ xs) xs)
    by true = omega arith
    by false = omega arith

left_more : (e : Setting) (x : Event) (v : View) → length v.strikes ≤ length (strikes_left e x v)
left_more e (strike_descriptor r k l) v = made_more (strike_next e.graph e.plan v) v.strikes
left_more e (strike_notify r k l w) v = made_more (strike_next e.graph e.plan v) v.strikes
left_more e (give_read b was) v = missed_more e b was (strike_next e.graph e.plan v) v.strikes
left_more e (give_struck k l b was now) v = made_more (strike_next e.graph e.plan v) v.strikes
left_more e x v = omega arith

pub strikes_more : (e : Setting) (x : Event) (n : ℕ) (v w : View) → w ≡ after e x n v → length v.strikes ≤ length w.strikes
strikes_more e x n v w is = let a = left_more e x v in let b = ap length (leaves e x n v w is).strikes_are in omega (arith, a, b)
