-- The kinds of step, with all that each one's word, view and block become.
use Rattle.std.specs.Prelude.{◌≡◌, ℕ, ◌+◌, ◌-◌, ◌/◌, ◌^◌, Bool, cond, eqb, bit_or}
use Rattle.core_state.specs.Graph.{Setting}
use Rattle.core_state.specs.Words.{Spot, pending, stop, key, descriptor, notify, recovery, posted, turn, empty_word, descriptor_strike, notify_strike}
use Rattle.core_state.specs.Change.{Core, Change}
use Rattle.core_state.specs.Views.{settle}
use Rattle.core_state.specs.Effects.{claim_of, claim_left, after_claim, after_look, after_load_descriptor, after_load_notify, after_load_recovery, after_load_pending, after_load_stop, registered_of, register_left, after_register, told_of, after_spend, closing_of, close_left, after_close, elected_of, elect_left, after_elect, after_renew, after_finish, finish_left, hitting_of, after_strike_descriptor, after_strike_notify, after_post, after_take, after_buy, after_drop_credit, turn_left, after_take_turn, after_give_read, after_give_written, after_give_struck, after_stop}
use Rattle.core_state.specs.Guards.{KnowsRow, InHand, CanClaim, CanLook, CanLoadNotify, CanRegister, CanSpend, CanClose, CanElect, CanRenewNotify, CanRenewDescriptor, CanFinish, CanStrikeDescriptor, CanStrikeNotify, CanPost, CanBuy, CanDropCredit, CanTakeTurn, CanGiveWritten, CanGiveStruck}
use Rattle.core_state.specs.declared.job.Job.{Job}
use Rattle.graph_model.specs.declared.record.Cause.{Cause}
use Rattle.core_state.specs.declared.block.BlockCells.{BlockCells}
use Rattle.core_state.specs.declared.views.View.{View}

-- r is a row, k or p a key, l a life, j a place, q a port, w a notify word, b a block
pub data Event : Type 0 where
  claim : (r k : ℕ) → Event
  look : (r : ℕ) → Event
  load_descriptor : (r k : ℕ) → Event
  load_notify : (r k w : ℕ) → Event
  load_recovery : (r k : ℕ) → Event
  load_pending : Event
  load_stop : Event
  register : (r p q : ℕ) → Event
  spend : (r k j : ℕ) → Event
  close : (r k l w seen : ℕ) → Event
  elect : (r k l : ℕ) (c : Cause) (waits : Bool) → Event
  renew_notify : (r k l w : ℕ) → Event
  renew_descriptor : (r k l : ℕ) → Event
  finish : (r k l : ℕ) → Event
  strike_descriptor : (r k l : ℕ) → Event
  strike_notify : (r k l w : ℕ) → Event
  post : (r : ℕ) (i : Job) (k l : ℕ) → Event
  take : (r : ℕ) (i : Job) (k : ℕ) → Event
  buy : Event
  drop_credit : Event
  take_turn : (b : ℕ) (was : BlockCells) → Event
  give_read : (b : ℕ) (was : BlockCells) → Event
  give_written : (k l b : ℕ) (was now : BlockCells) → Event
  give_struck : (k l b : ℕ) (was now : BlockCells) → Event
  halt : Event

-- the word on which it steps
abbrev pub at : Event → Spot
at (claim r k) = key r
at (look r) = key r
at (load_descriptor r k) = descriptor r
at (load_notify r k w) = notify r w
at (load_recovery r k) = recovery r
at load_pending = pending
at load_stop = stop
at (register r p q) = notify r (q / 40)
at (spend r k j) = descriptor r
at (close r k l w seen) = notify r w
at (elect r k l c waits) = recovery r
at (renew_notify r k l w) = notify r w
at (renew_descriptor r k l) = descriptor r
at (finish r k l) = recovery r
at (strike_descriptor r k l) = descriptor r
at (strike_notify r k l w) = notify r w
at (post r i k l) = posted i r
at (take r i k) = posted i r
at buy = pending
at drop_credit = pending
at (take_turn b was) = turn b
at (give_read b was) = turn b
at (give_written k l b was now) = turn b
at (give_struck k l b was now) = turn b
at halt = stop

module _ (e : Setting) where
  -- what it leaves of the number n that it found
  abbrev pub left : Event → ℕ → ℕ
  left (claim r k) n = claim_left k n
  left (look r) n = n
  left (load_descriptor r k) n = n
  left (load_notify r k w) n = n
  left (load_recovery r k) n = n
  left load_pending n = n
  left load_stop n = n
  left (register r p q) n = register_left q n
  left (spend r k j) n = bit_or n (2 ^ j)
  left (close r k l w seen) n = close_left seen n
  left (elect r k l c waits) n = elect_left l n
  left (renew_notify r k l w) n = empty_word (l + 1)
  left (renew_descriptor r k l) n = empty_word (l + 1)
  left (finish r k l) n = finish_left l
  left (strike_descriptor r k l) n = bit_or n descriptor_strike
  left (strike_notify r k l w) n = bit_or n notify_strike
  left (post r i k l) n = l
  left (take r i k) n = 0
  left buy n = n + 1
  left drop_credit n = n - 1
  left (take_turn b was) n = turn_left n
  left (give_read b was) n = 0
  left (give_written k l b was now) n = 0
  left (give_struck k l b was now) n = 0
  left halt n = 1

  -- what it leaves of the view that steps, before what is finished goes
  abbrev pub raw : Event → ℕ → View → View
  raw (claim r k) n v = after_claim r k (claim_of k n) v
  raw (look r) n v = after_look e.graph e.shape.rows r n v
  raw (load_descriptor r k) n v = after_load_descriptor e.graph e.plan k n v
  raw (load_notify r k w) n v = after_load_notify e.graph k w n v
  raw (load_recovery r k) n v = after_load_recovery k n v
  raw load_pending n v = after_load_pending n v
  raw load_stop n v = after_load_stop n v
  raw (register r p q) n v = after_register e.graph p q n (registered_of n) v
  raw (spend r k j) n v = after_spend e.graph k j n (told_of (e.graph.places k) j n) v
  raw (close r k l w seen) n v = after_close k l w n (closing_of l seen n) v
  raw (elect r k l c waits) n v = after_elect k l c waits n (elected_of l n) v
  raw (renew_notify r k l w) n v = after_renew k l w v
  raw (renew_descriptor r k l) n v = after_renew k l (e.graph.notify_words k) v
  raw (finish r k l) n v = after_finish e.graph k l v
  raw (strike_descriptor r k l) n v = after_strike_descriptor e.graph e.plan k n (hitting_of n) v
  raw (strike_notify r k l w) n v = after_strike_notify e.graph e.plan k w n (hitting_of n) v
  raw (post r i k l) n v = after_post i k n v
  raw (take r i k) n v = after_take i k n v
  raw buy n v = after_buy v
  raw drop_credit n v = after_drop_credit v
  raw (take_turn b was) n v = after_take_turn b was n v
  raw (give_read b was) n v = after_give_read e.graph e.plan b was v
  raw (give_written k l b was now) n v = after_give_written k l b now.tag v
  raw (give_struck k l b was now) n v = after_give_struck e.graph e.plan k l b now.tag v
  raw halt n v = after_stop v

  -- the view with what is finished gone
  abbrev pub after : Event → ℕ → View → View
  after x n v = settle e.graph e.plan (raw x n v)

  -- what the call asks of the view that steps
  abbrev pub Can : View → Event → Type 0
  Can v (claim r k) = CanClaim e v r k
  Can v (look r) = CanLook e v r
  Can v (load_descriptor r k) = KnowsRow e v r k
  Can v (load_notify r k w) = CanLoadNotify e v r k w
  Can v (load_recovery r k) = KnowsRow e v r k
  Can v load_pending = Unit {0}
  Can v load_stop = Unit {0}
  Can v (register r p q) = CanRegister e v r p q
  Can v (spend r k j) = CanSpend e v r k j
  Can v (close r k l w seen) = CanClose e v r k l w seen
  Can v (elect r k l c waits) = CanElect e v r k l c waits
  Can v (renew_notify r k l w) = CanRenewNotify e v r k l w
  Can v (renew_descriptor r k l) = CanRenewDescriptor e v r k l
  Can v (finish r k l) = CanFinish e v r k l
  Can v (strike_descriptor r k l) = CanStrikeDescriptor e v r k l
  Can v (strike_notify r k l w) = CanStrikeNotify e v r k l w
  Can v (post r i k l) = CanPost e v r i k l
  Can v (take r i k) = KnowsRow e v r k
  Can v buy = CanBuy e v
  Can v drop_credit = CanDropCredit e v
  Can v (take_turn b was) = CanTakeTurn e v b
  Can v (give_read b was) = InHand v b was
  Can v (give_written k l b was now) = CanGiveWritten e v k l b was now
  Can v (give_struck k l b was now) = CanGiveStruck e v k l b was now
  Can v halt = Unit {0}

  -- what it leaves of the block whose turn it is
  abbrev pub block_left : Event → BlockCells → BlockCells
  block_left (give_written k l b was now) x = now
  block_left (give_struck k l b was now) x = now
  block_left _ x = x

  -- what the block held that it takes or gives back; nothing is said of one whose turn, the number n, another has
  abbrev pub block_was : Event → ℕ → BlockCells → BlockCells
  block_was (take_turn b was) n x = cond (eqb n 0) was x
  block_was (give_read b was) n x = was
  block_was (give_written k l b was now) n x = was
  block_was (give_struck k l b was now) n x = was
  block_was _ n x = x

  -- the event happens, found the number n, and changes a view from v to w
  pub record Happens (x : Event) (s t : Core) (n : ℕ) (v w : View) : Type 0 where
    pub change : Change s t (at x) n (left x n) v w
    pub found_block : (b : ℕ) → at x ≡ turn b → s.block b ≡ block_was x n (s.block b)
    pub left_block : (b : ℕ) → at x ≡ turn b → t.block b ≡ block_left x (s.block b)
