-- The words on which a worker may step are words of the table.
use Rattle.std.proofs.Common.{◌≡◌, ℕ, ◌/◌, ◌<◌, ◌&&◌, Bool, true, nat_lt, length, arith, sym, ap, refl, ◌∙◌, subst}
use Rattle.std.proofs.lemmas.Bool.{lt-ltb}
use Rattle.core_state.specs.Graph.{Setting}
use Rattle.core_state.specs.Words.{Shape, notify, inside}
use Rattle.core_state.specs.Counts.{in_hand}
use Rattle.core_state.specs.Events.{Event, at, Can}
use Rattle.core_state.specs.Events.Event.{claim, look, load_descriptor, load_notify, load_recovery, load_pending, load_stop, register, spend, close, elect, renew_notify, renew_descriptor, finish, strike_descriptor, strike_notify, post, take, buy, drop_credit, take_turn, give_read, give_written, give_struck, halt}
use Rattle.core_state.specs.Views.{blank}
use Rattle.core_state.proofs.Base.Sums.{total_within}
use Rattle.core_steps.proofs.AnyBlock.{hand_some}
use Rattle.core_steps.proofs.AnyCore.{has_word}
use Rattle.core_steps.proofs.Changing.{elem_at}
use Rattle.core_steps.specs.Table.{Plain, view_at, IsSound}

-- a row of the setting is one of the table
pub row_inside : (e : Setting) (p : Plain) (r : ℕ) → IsSound e p → r < e.shape.rows → nat_lt r p.shape.rows ≡ true
row_inside e p r s less = lt-ltb r p.shape.rows (subst (λ (h : Shape). r < h.rows) (sym s.shape_is) less)

-- a notify word of a task is one of the table's
pub word_fits : (e : Setting) (p : Plain) (k w : ℕ) → IsSound e p → w < e.graph.notify_words k → w < p.shape.notify_words
word_fits e p k w s less = subst (λ (h : Shape). w < h.notify_words) (sym s.shape_is) (let a = s.setting.words_fit k in omega (arith, a, less))

pub notify_inside : (e : Setting) (p : Plain) (r k w : ℕ) → IsSound e p → r < e.shape.rows → w < e.graph.notify_words k → inside p.shape (notify r w) ≡ true
notify_inside e p r k w s low less = ap (λ (b : Bool). b && nat_lt w p.shape.notify_words) (row_inside e p r s low) ∙ lt-ltb w p.shape.notify_words (word_fits e p k w s less)

-- a block in hand is one of the table
pub held_low : (e : Setting) (p : Plain) (i : ℕ) (b : ℕ) → i < length p.views → IsSound e p → 0 < in_hand b (view_at p i) → b < p.shape.blocks
held_low e p i b low s some_block = s.housed.within b (let a = total_within p.views i (view_at p i) (in_hand b) (elem_at p.views i blank low) in omega (arith, a, some_block))

pub spot_inside : (e : Setting) (p : Plain) (i : ℕ) → i < length p.views → IsSound e p → (x : Event) → Can e (view_at p i) x → inside p.shape (at x) ≡ true
spot_inside e p i low s (claim r k) can = row_inside e p r s can.low
spot_inside e p i low s (look r) can = row_inside e p r s can.low
spot_inside e p i low s (load_descriptor r k) can = row_inside e p r s can.low
spot_inside e p i low s (load_notify r k w) can = notify_inside e p r k w s can.row.low can.word_in
spot_inside e p i low s (load_recovery r k) can = row_inside e p r s can.low
spot_inside e p i low s load_pending can = refl
spot_inside e p i low s load_stop can = refl
spot_inside e p i low s (register r k q) can = notify_inside e p r k (q / 40) s can.row.low (has_word e s.setting (view_at p i) k q can.edge)
spot_inside e p i low s (spend r k j) can = row_inside e p r s can.row.low
spot_inside e p i low s (close r k l w seen) can = notify_inside e p r k w s can.row.low can.word_in
spot_inside e p i low s (elect r k l c waits) can = row_inside e p r s can.row.low
spot_inside e p i low s (renew_notify r k l w) can = notify_inside e p r k w s can.row.low can.word_in
spot_inside e p i low s (renew_descriptor r k l) can = row_inside e p r s can.row.low
spot_inside e p i low s (finish r k l) can = row_inside e p r s can.row.low
spot_inside e p i low s (strike_descriptor r k l) can = row_inside e p r s can.row.low
spot_inside e p i low s (strike_notify r k l w) can = notify_inside e p r k w s can.row.low can.word_in
spot_inside e p i low s (post r j k l) can = row_inside e p r s can.row.low
spot_inside e p i low s (take r j k) can = row_inside e p r s can.low
spot_inside e p i low s buy can = refl
spot_inside e p i low s drop_credit can = refl
spot_inside e p i low s (take_turn b was) can = lt-ltb b p.shape.blocks (subst (λ (h : Shape). b < h.blocks) (sym s.shape_is) can.low)
spot_inside e p i low s (give_read b was) can = lt-ltb b p.shape.blocks (held_low e p i b low s (hand_some b was (view_at p i) can))
spot_inside e p i low s (give_written k l b was now) can = lt-ltb b p.shape.blocks (held_low e p i b low s (hand_some b was (view_at p i) can.hand))
spot_inside e p i low s (give_struck k l b was now) can = lt-ltb b p.shape.blocks (held_low e p i b low s (hand_some b was (view_at p i) can.hand))
spot_inside e p i low s halt can = refl
