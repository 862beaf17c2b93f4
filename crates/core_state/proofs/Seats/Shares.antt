-- No step of a seat changes its share of the table.
use Rattle.std.proofs.Common.{◌≡◌, ℕ, Bool, true, false, cond, eqb, refl}
use mathlib.Core.Option.{Option, some, none}
use Rattle.core_state.specs.Graph.{Setting, Graph, Plan}
use Rattle.core_state.specs.Events.{Event, Event as event, after}
use Rattle.core_state.specs.Effects.{claim_of, after_claim, registered_of, after_register, told_of, after_spend, closing_of, after_close, elected_of, after_elect, has_idle, hitting_of, after_strike_descriptor, after_strike_notify}
use Rattle.core_state.specs.Views.{strike_next, strike_done}
use Rattle.graph_model.specs.declared.record.Cause.{Cause}
use Rattle.core_state.specs.declared.answers.Claim.{Claim}
use Rattle.core_state.specs.declared.answers.Claim.TheVariants as claim
use Rattle.core_state.specs.declared.answers.Registered.{Registered}
use Rattle.core_state.specs.declared.answers.Registered.TheVariants as registered
use Rattle.core_state.specs.declared.answers.Told.{Told}
use Rattle.core_state.specs.declared.answers.Told.TheVariants as told
use Rattle.core_state.specs.declared.answers.Closing.{Closing}
use Rattle.core_state.specs.declared.answers.Closing.TheVariants as closing
use Rattle.core_state.specs.declared.answers.Elected.{Elected}
use Rattle.core_state.specs.declared.answers.Elected.TheVariants as elected
use Rattle.core_state.specs.declared.answers.Hitting.{Hitting}
use Rattle.core_state.specs.declared.answers.Hitting.TheVariants as hitting
use Rattle.core_state.specs.declared.views.View.{View}

one_of : (q : Bool) (v w : View) (m : ℕ) → v.parts ≡ m → w.parts ≡ m → (cond q v w).parts ≡ m
one_of true v w m a b = a
one_of false v w m a b = b

on_claim : (r k : ℕ) (x : Claim) (v : View) → (after_claim r k x v).parts ≡ v.parts
on_claim r k claim.Made v = refl
on_claim r k claim.Found v = refl
on_claim r k (claim.Other a) v = refl

on_register : (g : Graph) (p q n : ℕ) (x : Registered) (v : View) → (after_register g p q n x v).parts ≡ v.parts
on_register g p q n (registered.Waiting m) v = refl
on_register g p q n (registered.Closed m) v = refl
on_register g p q n (registered.Struck m) v = refl

on_spend : (g : Graph) (k j n : ℕ) (x : Told) (v : View) → (after_spend g k j n x v).parts ≡ v.parts
on_spend g k j n (told.Spent l) v = refl
on_spend g k j n (told.Last l) v = refl
on_spend g k j n (told.Already l) v = refl
on_spend g k j n (told.Struck l) v = refl

on_close : (k l w n : ℕ) (x : Closing) (v : View) → (after_close k l w n x v).parts ≡ v.parts
on_close k l w n (closing.Edges ports) v = refl
on_close k l w n (closing.Stale m) v = refl
on_close k l w n (closing.Struck m) v = refl
on_close k l w n (closing.Moved m) v = refl

on_elect : (k l : ℕ) (c : Cause) (waits : Bool) (n : ℕ) (x : Elected) (v : View) → (after_elect k l c waits n x v).parts ≡ v.parts
on_elect k l c waits n elected.Yes v = refl
on_elect k l c waits n (elected.Replaced m) v = refl
on_elect k l c waits n (elected.Renewing m) v = refl

on_strike : (o : Option ℕ) (v : View) → (strike_done o v).parts ≡ v.parts
on_strike none v = refl
on_strike (some m) v = refl

on_descriptor : (g : Graph) (p : Plan) (k n : ℕ) (x : Hitting) (v : View) → (after_strike_descriptor g p k n x v).parts ≡ v.parts
on_descriptor g p k n (hitting.Landed l) v = on_strike (strike_next g p v) v
on_descriptor g p k n (hitting.Missed l) v = on_strike (strike_next g p v) v

on_notify : (g : Graph) (p : Plan) (k w n : ℕ) (x : Hitting) (v : View) → (after_strike_notify g p k w n x v).parts ≡ v.parts
on_notify g p k w n (hitting.Landed l) v = on_strike (strike_next g p v) v
on_notify g p k w n (hitting.Missed l) v = on_strike (strike_next g p v) v

pub parts_kept : (e : Setting) (x : Event) (n : ℕ) (v : View) → (after e x n v).parts ≡ v.parts
parts_kept e (event.claim r k) n v = on_claim r k (claim_of k n) v
parts_kept e (event.look r) n v = one_of (eqb n 0) _ _ v.parts refl refl
parts_kept e (event.load_descriptor r k) n v = refl
parts_kept e (event.load_notify r k w) n v = refl
parts_kept e (event.load_recovery r k) n v = refl
parts_kept e event.load_pending n v = refl
parts_kept e event.load_stop n v = refl
parts_kept e (event.register r p q) n v = on_register e.graph p q n (registered_of n) v
parts_kept e (event.spend r k j) n v = on_spend e.graph k j n (told_of (e.graph.places k) j n) v
parts_kept e (event.close r k l w seen) n v = on_close k l w n (closing_of l seen n) v
parts_kept e (event.elect r k l c waits) n v = on_elect k l c waits n (elected_of l n) v
parts_kept e (event.renew_notify r k l w) n v = refl
parts_kept e (event.renew_descriptor r k l) n v = refl
parts_kept e (event.finish r k l) n v = refl
parts_kept e (event.strike_descriptor r k l) n v = on_descriptor e.graph e.plan k n (hitting_of n) v
parts_kept e (event.strike_notify r k l w) n v = on_notify e.graph e.plan k w n (hitting_of n) v
parts_kept e (event.post r i k l) n v = refl
parts_kept e (event.take r i k) n v = refl
parts_kept e event.buy n v = refl
parts_kept e event.drop_credit n v = one_of (has_idle v.stacks) _ _ v.parts refl refl
parts_kept e (event.take_turn b was) n v = one_of (eqb n 0) _ _ v.parts refl refl
parts_kept e (event.give_read b was) n v = refl
parts_kept e (event.give_written k l b was now) n v = refl
parts_kept e (event.give_struck k l b was now) n v = on_strike (strike_next e.graph e.plan v) v
parts_kept e event.halt n v = refl
