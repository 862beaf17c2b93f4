-- Each step of a seat keeps what strikes of the plan prevent, where it keeps that the strikes of passed points were made.
use Rattle.std.proofs.Common.{ℕ, ◌+◌, ◌-◌}
use Rattle.core_state.specs.Graph.{Setting, Sound}
use Rattle.core_state.specs.Change.{Core, Change, Sums}
use Rattle.core_state.specs.Cover.{Passed}
use Rattle.core_state.specs.Prevented.{Prevented}
use Rattle.core_state.specs.Invariant.{Invariant}
use Rattle.core_state.specs.Events.{Event, at, left, raw, after, Can}
use Rattle.core_state.specs.Events.Event.{claim, look, load_descriptor, load_notify, load_recovery, load_pending, load_stop, register, spend, close, elect, renew_notify, renew_descriptor, finish, strike_descriptor, strike_notify, post, take, buy, drop_credit, take_turn, give_read, give_written, give_struck, halt}
use Rattle.core_state.specs.Effects.{claim_of, registered_of, elected_of, hitting_of}
use Rattle.core_state.specs.declared.views.View.{View}
use Rattle.core_state.proofs.Plan.PassesNone.{claim_passes, look_passes, load_notify_passes, load_recovery_passes, load_pending_passes, load_stop_passes, stop_passes, register_passes, elect_passes, renew_passes, finish_passes, strike_descriptor_passes, strike_notify_passes, buy_passes, drop_credit_passes, take_turn_passes, give_read_passes, give_written_passes, give_struck_passes}
use Rattle.core_state.proofs.Plan.Passed.{passed_event}
use Rattle.core_state.proofs.Credit.Jobs.{take_none, post_none}
use Rattle.core_state.proofs.Plan.PreventsEach.{prevented_load_descriptor, prevented_spend, prevented_close, prevented_settle}
use Rattle.core_state.proofs.Plan.Prevents.{none_prevented}
use Rattle.core_state.proofs.Base.Tables.{first_half, second_half}

module _ (e : Setting) (fit : Sound e) (s t : Core) (sums : Sums s) (n : ℕ) (v : View) (inv : Invariant e s) (passed : Passed e t) (old : Prevented e s) where
  pub prevented_event : (x : Event) → Can e v x → Change s t (at x) n (left e x n) v (raw e x n v) → Prevented e t
  prevented_event (claim r k) can c = none_prevented e s t v (raw e (claim r k) n v) c.sums (claim_passes r k v (claim_of k n)) old
  prevented_event (look r) can c = none_prevented e s t v (raw e (look r) n v) c.sums (look_passes e r n v) old
  prevented_event (load_descriptor r k) can c = prevented_load_descriptor e s t inv passed r k n v can c old
  prevented_event (load_notify r k w) can c = none_prevented e s t v (raw e (load_notify r k w) n v) c.sums (load_notify_passes e k w n v) old
  prevented_event (load_recovery r k) can c = none_prevented e s t v (raw e (load_recovery r k) n v) c.sums (load_recovery_passes k n v) old
  prevented_event load_pending can c = none_prevented e s t v (raw e load_pending n v) c.sums (load_pending_passes n v) old
  prevented_event load_stop can c = none_prevented e s t v (raw e load_stop n v) c.sums (load_stop_passes n v) old
  prevented_event (register r p q) can c = none_prevented e s t v (raw e (register r p q) n v) c.sums (register_passes e p q n v (registered_of n)) old
  prevented_event (spend r k j) can c = prevented_spend e fit s t sums r k j n v can c inv passed old
  prevented_event (close r k l w seen) can c = prevented_close e s t sums r k l w n seen v can inv passed c old
  prevented_event (elect r k l f waits) can c = none_prevented e s t v (raw e (elect r k l f waits) n v) c.sums (elect_passes k l f waits n v can.at_work (elected_of l n)) old
  prevented_event (renew_notify r k l w) can c = none_prevented e s t v (raw e (renew_notify r k l w) n v) c.sums (renew_passes k l w v can.at_work) old
  prevented_event (renew_descriptor r k l) can c = none_prevented e s t v (raw e (renew_descriptor r k l) n v) c.sums (renew_passes k l (e.graph.notify_words k) v can.at_work) old
  prevented_event (finish r k l) can c = none_prevented e s t v (raw e (finish r k l) n v) c.sums (finish_passes e k l (e.graph.notify_words k + 1) v can.at_work) old
  prevented_event (strike_descriptor r k l) can c = none_prevented e s t v (raw e (strike_descriptor r k l) n v) c.sums (strike_descriptor_passes e k n v (hitting_of n)) old
  prevented_event (strike_notify r k l w) can c = none_prevented e s t v (raw e (strike_notify r k l w) n v) c.sums (strike_notify_passes e k w n v (hitting_of n)) old
  prevented_event (post r i k l) can c = none_prevented e s t v (raw e (post r i k l) n v) c.sums (post_none e s t r i k n v l can c inv) old
  prevented_event (take r i k) can c = none_prevented e s t v (raw e (take r i k) n v) c.sums (take_none e s t r i k n v can c inv) old
  prevented_event buy can c = none_prevented e s t v (raw e buy n v) c.sums (buy_passes v) old
  prevented_event drop_credit can c = none_prevented e s t v (raw e drop_credit n v) c.sums (drop_credit_passes v) old
  prevented_event (take_turn b was) can c = none_prevented e s t v (raw e (take_turn b was) n v) c.sums (take_turn_passes b was n v) old
  prevented_event (give_read b was) can c = none_prevented e s t v (raw e (give_read b was) n v) c.sums (give_read_passes e b was v) old
  prevented_event (give_written k l b was now) can c = none_prevented e s t v (raw e (give_written k l b was now) n v) c.sums (give_written_passes k l b now.tag can.read v can.at_work) old
  prevented_event (give_struck k l b was now) can c = none_prevented e s t v (raw e (give_struck k l b was now) n v) c.sums (give_struck_passes e k l b now.tag v) old
  prevented_event halt can c = none_prevented e s t v (raw e halt n v) c.sums (stop_passes v) old

-- the event with what is finished gone
pub prevented_step : (e : Setting) (fit : Sound e) (s t : Core) (sums : Sums s) (n : ℕ) (v : View) → Invariant e s → Passed e s → Prevented e s → (x : Event) → Can e v x → Change s t (at x) n (left e x n) v (after e x n v) → Prevented e t
prevented_step e fit s t sums n v inv made old x can c = let half = first_half s t (at x) n (left e x n) v (after e x n v) (raw e x n v) c in
    prevented_settle e (record { word = t.word; total = λ f. s.total f - f v + f (raw e x n v); block = t.block }) t (raw e x n v) (second_half s t (at x) n (left e x n) v (after e x n v) (raw e x n v) c)
    (prevented_event e fit s (record { word = t.word; total = λ f. s.total f - f v + f (raw e x n v); block = t.block }) sums n v inv (passed_event e fit s (record { word = t.word; total = λ f. s.total f - f v + f (raw e x n v); block = t.block }) sums n v inv made x can half) old x can half)
