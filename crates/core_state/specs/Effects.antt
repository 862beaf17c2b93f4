-- What each event leaves of its word and of the view of the seat that steps, by the number that it found.
use Rattle.std.specs.Prelude.{ℕ, zero, suc, ◌+◌, ◌-◌, ◌*◌, ◌/◌, ◌%◌, ◌^◌, Bool, true, false, cond, ◌&&◌, nat_lt, nat_eq, eqb, bit_and, bit_or, List, [], ◌∷◌}
use mathlib.Core.Option.{Option, some, none}
use Rattle.std.specs.Int.{bit_at}
use Rattle.core_state.specs.Graph.{Graph, Plan}
use Rattle.graph_model.specs.declared.plan.Strike.{Strike}
use Rattle.core_state.specs.Words.{life_of, mark_of, closed_bit, standing_life, life_shown, mark_shown}
use Rattle.core_state.specs.Packed.{notify_of}
use Rattle.core_state.specs.Counts.{word_in}
use Rattle.core_state.specs.Views.{key_of, note, learn, strike_done, on_top, change_top, top_items, without_first, push, drop_top, swap_top, arrived, arrive, none_left, strike_next, ends_with}
use Rattle.graph_model.specs.declared.record.Hit.TheVariants as hit_of
use Rattle.graph_model.specs.declared.record.Found.{Found}
use Rattle.graph_model.specs.declared.record.Found.TheVariants as found_of
use Rattle.graph_model.specs.declared.record.Cause.{Cause}
use Rattle.graph_model.specs.declared.record.Cause.TheVariants as cause
use Rattle.core_state.specs.declared.job.Job.{Job}
use Rattle.core_state.specs.declared.job.Job.TheVariants as job
use Rattle.graph_model.specs.declared.plan.Point.TheVariants as point
use Rattle.graph_model.specs.declared.plan.Target.{Target}
use Rattle.graph_model.specs.declared.plan.Target.TheVariants as target
use Rattle.core_state.specs.declared.views.Word.{Word}
use Rattle.core_state.specs.declared.views.Word.TheVariants as word
use Rattle.graph_model.specs.declared.record.Record.TheVariants as record_of
use Rattle.core_state.specs.declared.views.Item.{Item}
use Rattle.core_state.specs.declared.views.Item.TheVariants as item
use Rattle.core_state.specs.declared.views.Stack.{Stack}
use Rattle.core_state.specs.declared.views.Ended.{Ended}
use Rattle.core_state.specs.declared.block.BlockCells.{BlockCells}
use Rattle.core_state.specs.declared.views.Known.{Known}
use Rattle.core_state.specs.declared.views.Known.TheVariants as known
use Rattle.core_state.specs.declared.views.View.{View}
use Rattle.core_state.specs.declared.answers.Claim.{Claim}
use Rattle.core_state.specs.declared.answers.Claim.TheVariants as claim
use Rattle.core_state.specs.declared.answers.Registered.{Registered}
use Rattle.core_state.specs.declared.answers.Registered.TheVariants as registered
use Rattle.core_state.specs.declared.answers.Told.{Told}
use Rattle.core_state.specs.declared.answers.Told.TheVariants as told
use Rattle.core_state.specs.declared.answers.Closing.{Closing}
use Rattle.core_state.specs.declared.answers.Closing.TheVariants as closing
use Rattle.core_state.specs.declared.answers.Elected.{Elected}
use Rattle.core_state.specs.declared.answers.Elected.TheVariants as elected
use Rattle.core_state.specs.declared.answers.Hitting.{Hitting}
use Rattle.core_state.specs.declared.answers.Hitting.TheVariants as hitting

-- a word of the key showed a life, and perhaps the mark
abbrev pub seen : ℕ → Word → ℕ → List Known → List Known
seen k w n xs = cond (eqb (mark_shown w n) 1) (known.Mark k w (life_shown w n) ∷ known.Life k w (life_shown w n) ∷ xs) (known.Life k w (life_shown w n) ∷ xs)

-- the view learns what the word showed
abbrev pub saw : ℕ → Word → ℕ → View → View
saw k w n v = record v { known = seen k w n v.known }

-- the item at work goes on by one place or port; past its last place exploring leaves
abbrev pub moved_items : Graph → List Item → List Item
moved_items g [] = []
moved_items g (item.Explore k l j ∷ xs) = cond (nat_lt j (g.places k)) (item.Explore k l (j + 1) ∷ xs) xs
moved_items g (item.Notify k l w (q ∷ qs) ∷ xs) = item.Notify k l w qs ∷ xs
moved_items g (item.Reenter k l (q ∷ qs) ∷ xs) = item.Reenter k l qs ∷ xs
moved_items g (x ∷ xs) = x ∷ xs

-- exploring that has passed its last place has ended
abbrev pub moved_ended : Graph → List Item → List Ended → List Ended
moved_ended g (item.Explore k l j ∷ xs) es = cond (nat_lt j (g.places k)) es (record { job = job.Explore; key = k; life = l } ∷ es)
moved_ended g _ es = es

-- the view with its item at work moved on
abbrev pub moved : Graph → View → View
moved g v = record v { stacks = on_top (moved_items g) v.stacks; ended = moved_ended g (top_items v.stacks) v.ended }

-- the item at work is dropped, and the job that it carries ends
abbrev pub ends_top : List Item → List Ended → List Ended
ends_top [] es = es
ends_top (x ∷ xs) es = ends_with x es

-- the view without its item at work, whose job has ended
abbrev pub give_up : View → View
give_up v = record v { stacks = on_top without_first v.stacks; ended = ends_top (top_items v.stacks) v.ended }

-- Claiming a row for a key.
abbrev pub claim_of : ℕ → ℕ → Claim
claim_of k n = cond (eqb n 0) claim.Made (cond (eqb n (k + 1)) claim.Found (claim.Other (key_of (n - 1))))

-- the key word after a claim: the key plus 1 where it was empty
abbrev pub claim_left : ℕ → ℕ → ℕ
claim_left k n = cond (eqb n 0) (k + 1) n

-- each answer tells whose row it is; who made it owes the exploring of life 1
abbrev pub after_claim : ℕ → ℕ → Claim → View → View
after_claim r k claim.Made v = push (item.Owe k job.Explore 1) (note (record_of.Created (key_of k)) (learn (known.Row r k) v))
after_claim r k claim.Found v = learn (known.Row r k) v
after_claim r k (claim.Other key) v = learn (known.Row r key.0) v

-- Looking at a row. A row that is empty at the end of the path of the successor that is to be entered again shows that the successor has none.
abbrev pub is_other : ℕ → ℕ → Bool
is_other k n = cond (eqb n 0) false (cond (eqb n (k + 1)) false true)

-- the first d rows of the key's path are known to hold other keys
abbrev pub others_before : ℕ → ℕ → List Known → ℕ → Bool
others_before rows k xs zero = true
others_before rows k xs (suc d) = others_before rows k xs d && is_other k (word_in ((k + d) % rows) xs)

-- how far a row lies on the key's path
abbrev pub distance : ℕ → ℕ → ℕ → ℕ
distance rows k r = ((r + rows) - k % rows) % rows

-- the port to be entered again whose successor has no row leaves
abbrev pub skipped_items : Graph → ℕ → ℕ → List Known → List Item → List Item
skipped_items g rows r xs (item.Reenter k l (q ∷ qs) ∷ ys) = cond (others_before rows (g.succ k q).task xs (distance rows (g.succ k q).task r)) (item.Reenter k l qs ∷ ys) (item.Reenter k l (q ∷ qs) ∷ ys)
skipped_items g rows r xs ys = ys

-- the view after a look: it knows the row, or skips a port
abbrev pub after_look : Graph → ℕ → ℕ → ℕ → View → View
after_look g rows r n v = cond (eqb n 0) (change_top (skipped_items g rows r v.known) v) (learn (known.Row r (n - 1)) v)

-- Loading a descriptor: before computing, and before a successor is entered again.
abbrev pub loaded_items : Graph → Plan → List ℕ → ℕ → ℕ → List Item → List Item
loaded_items g p made k n (item.Compute key l false read m ∷ xs) =
    cond (eqb k key && none_left g p point.Ready key l made)
    (cond (eqb (mark_of n) 1) (item.Suspect key (life_of n) cause.Descriptor false ∷ xs) (cond (eqb (life_of n) l) (item.Compute key l true read m ∷ xs) xs))
    (item.Compute key l false read m ∷ xs)
loaded_items g p made k n (item.Reenter key l (q ∷ qs) ∷ xs) =
    cond (eqb k (g.succ key q).task)
    (cond (eqb (mark_of n) 1) (item.Suspect k (life_of n) cause.Descriptor false ∷ item.Reenter key l qs ∷ xs) (cond (eqb (bit_at n (g.succ key q).place) 1) (item.Reenter key l qs ∷ xs) (item.Reenter key l (q ∷ qs) ∷ xs)))
    (item.Reenter key l (q ∷ qs) ∷ xs)
loaded_items g p made k n xs = xs

-- a computing that a mark or a later life drops has ended
abbrev pub loaded_ended : Graph → Plan → List ℕ → ℕ → ℕ → List Item → List Ended → List Ended
loaded_ended g p made k n (item.Compute key l false read m ∷ xs) es =
    cond (eqb k key && none_left g p point.Ready key l made) (cond (eqb (mark_of n) 0 && eqb (life_of n) l) es (record { job = job.Compute; key = key; life = l } ∷ es)) es
loaded_ended g p made k n xs es = es

-- the view after the load of a descriptor
abbrev pub after_load_descriptor : Graph → Plan → ℕ → ℕ → View → View
after_load_descriptor g p k n v = record v {
  stacks = on_top (loaded_items g p v.strikes k n) v.stacks;
  ended = loaded_ended g p v.strikes k n (top_items v.stacks) v.ended;
  known = seen k word.Descriptor n v.known;
}

-- Loading a notify word: also the look at the writer of a bad block.
abbrev pub seen_notify : ℕ → ℕ → ℕ → List Known → List Known
seen_notify k w n xs = cond (eqb (mark_of n) 0 && eqb (closed_bit n) 1) (known.Closed k (life_of n) w ∷ known.Life k (word.Notify w) (life_of n) ∷ xs) (seen k (word.Notify w) n xs)

-- the look at the writer of a bad block: a mark makes its life suspect, and so does a closed word, with the end to be awaited
abbrev pub blamed_items : Graph → ℕ → ℕ → List Item → List Item
blamed_items g k n (item.Suspect key l (cause.Block b v f) waits ∷ xs) =
    cond (eqb k (g.writer b v) && cond (eqb k key) false true)
    (cond (eqb (mark_of n) 1) (item.Suspect k (life_of n) cause.Notify false ∷ item.Suspect key l (cause.Block b v f) waits ∷ xs)
    (cond (eqb (closed_bit n) 1) (item.Suspect k (life_of n) (cause.Block b v f) true ∷ item.Suspect key l (cause.Block b v f) waits ∷ xs) (item.Suspect key l (cause.Block b v f) waits ∷ xs)))
    (item.Suspect key l (cause.Block b v f) waits ∷ xs)
blamed_items g k n xs = xs

-- the view after the load of a notify word
abbrev pub after_load_notify : Graph → ℕ → ℕ → ℕ → View → View
after_load_notify g k w n v = record v { stacks = on_top (blamed_items g k n) v.stacks; known = seen_notify k w n v.known }

-- Loading a recovery word: a suspect whose life has ended goes.
abbrev pub cleared_items : ℕ → ℕ → List Item → List Item
cleared_items k n (item.Suspect key l c waits ∷ xs) = cond (eqb k key && nat_lt l (standing_life n)) xs (item.Suspect key l c waits ∷ xs)
cleared_items k n xs = xs

-- the view after the load of a recovery word
abbrev pub after_load_recovery : ℕ → ℕ → View → View
after_load_recovery k n v = record v { stacks = on_top (cleared_items k n) v.stacks; known = seen k word.Recovery n v.known }

-- the view after the load of pending
abbrev pub after_load_pending : ℕ → View → View
after_load_pending n v = record v { known = cond (eqb n 0) (known.Idle ∷ v.known) v.known }

-- the view after the load of stop
abbrev pub after_load_stop : ℕ → View → View
after_load_stop n v = record v { known = cond (eqb n 1) (known.Stopped ∷ v.known) v.known }

-- Registering port q of p.
abbrev pub registered_of : ℕ → Registered
registered_of n = cond (eqb (mark_of n) 1) (registered.Struck (life_of n)) (cond (eqb (closed_bit n) 1) (registered.Closed (life_of n)) (registered.Waiting (life_of n)))

-- the notify word with the port's bit
abbrev pub register_left : ℕ → ℕ → ℕ
register_left q n = bit_or n (2 ^ (q % 40))

-- Waiting: the port is registered, and the item moves on. Closed: the word is known to be closed. Struck: that life is suspected
abbrev pub after_register : Graph → ℕ → ℕ → ℕ → Registered → View → View
after_register g p q n (registered.Waiting m) v = learn (known.Waits p m q) (saw p (word.Notify (q / 40)) n (moved g v))
after_register g p q n (registered.Closed m) v = learn (known.Closed p m (q / 40)) (saw p (word.Notify (q / 40)) n v)
after_register g p q n (registered.Struck m) v = push (item.Suspect p m cause.Notify false) (saw p (word.Notify (q / 40)) n v)

-- Spending place j of k.
abbrev pub place_mask : ℕ → ℕ
place_mask places = 2 ^ 40 + (2 ^ places - 1)

-- all places of the task and its self place are spent
abbrev pub is_full : ℕ → ℕ → Bool
is_full places n = nat_eq (bit_and n (place_mask places)) (place_mask places)

-- what a descriptor tells to the spending of place j: the mark, that the place was spent, that it was the last one, or that it was spent now
abbrev pub told_of : ℕ → ℕ → ℕ → Told
told_of places j n = cond (nat_eq (mark_of n) 1) (told.Struck (life_of n)) (cond (nat_eq (bit_at n j) 1) (told.Already (life_of n)) (cond (is_full places (bit_or n (2 ^ j))) (told.Last (life_of n)) (told.Spent (life_of n))))

-- each answer moves the item on; a new spending is recorded, the last one makes computing ready, and a mark makes the life suspect
abbrev pub after_spend : Graph → ℕ → ℕ → ℕ → Told → View → View
after_spend g k j n (told.Spent l) v = note (record_of.Spent (key_of k) l j) (saw k word.Descriptor n (moved g v))
after_spend g k j n (told.Last l) v = push (item.Owe k job.Compute l) (note (record_of.Spent (key_of k) l j) (saw k word.Descriptor n (moved g v)))
after_spend g k j n (told.Already l) v = saw k word.Descriptor n (moved g v)
after_spend g k j n (told.Struck l) v = push (item.Suspect k l cause.Descriptor false) (saw k word.Descriptor n (moved g v))

-- Closing word w of life l of k, seen as the number m.
abbrev pub closing_of : ℕ → ℕ → ℕ → Closing
closing_of l m n = cond (nat_eq n m) (closing.Edges (n % 2 ^ 40)) (cond (nat_eq (mark_of n) 1) (closing.Struck (life_of n)) (cond (nat_lt l (life_of n)) (closing.Stale (life_of n)) (closing.Moved (notify_of n))))

-- the notify word with the closed bit, where it was as seen
abbrev pub close_left : ℕ → ℕ → ℕ
close_left m n = cond (nat_eq n m) (bit_or n (2 ^ 40)) n

-- the ports of word w whose bits are set among the first b bits of n, beginning with the lowest
unfoldable pub ports_from : ℕ → ℕ → ℕ → ℕ → List ℕ
ports_from w n b zero = []
ports_from w n b (suc c) = cond (nat_eq (bit_at n b) 1) ((40 * w + b) ∷ ports_from w n (b + 1) c) (ports_from w n (b + 1) c)

-- Edges: the word is closed, and its ports are to be told before the next word. Stale: closing ends. Struck: it ends, and the life is suspected. Moved: it is tried again
abbrev pub after_close : ℕ → ℕ → ℕ → ℕ → Closing → View → View
after_close k l w n (closing.Edges ports) v = learn (known.Closed k l w) (note (record_of.Closed (key_of k) l w) (saw k (word.Notify w) n (change_top (λ xs. item.Notify k l w (ports_from w n 0 40) ∷ item.Close k l (w + 1) ∷ without_first xs) v)))
after_close k l w n (closing.Stale m) v = saw k (word.Notify w) n (give_up v)
after_close k l w n (closing.Struck m) v = push (item.Suspect k m cause.Notify false) (saw k (word.Notify w) n (give_up v))
after_close k l w n (closing.Moved m) v = saw k (word.Notify w) n v

-- Electing a view to replace life l of k.
abbrev pub elected_of : ℕ → ℕ → Elected
elected_of l n = cond (nat_eq n (2 * (l - 1))) elected.Yes (cond (nat_lt l (standing_life n)) (elected.Replaced (standing_life n)) (elected.Renewing (standing_life n)))

-- the recovery word says that the life is being replaced, where it stood
abbrev pub elect_left : ℕ → ℕ → ℕ
elect_left l n = cond (nat_eq n (2 * (l - 1))) (n + 1) n

-- Yes: the suspect becomes the renewal. Replaced: it goes. Renewing: it goes where that life is its own and the end is not awaited
abbrev pub after_elect : ℕ → ℕ → Cause → Bool → ℕ → Elected → View → View
after_elect k l c waits n elected.Yes v = note (record_of.Replaced (key_of k) l c) (saw k word.Recovery n (swap_top (item.Renew k l 0) v))
after_elect k l c waits n (elected.Replaced m) v = saw k word.Recovery n (drop_top v)
after_elect k l c waits n (elected.Renewing m) v = saw k word.Recovery n (change_top (λ xs. cond (eqb m l && cond waits false true) (without_first xs) xs) v)

-- Renewing the words of life l of k, of which so many are done, and ending the election.
abbrev pub after_renew : ℕ → ℕ → ℕ → View → View
after_renew k l done v = swap_top (item.Renew k l (done + 1)) v

-- the c ports from b on
abbrev pub all_ports : ℕ → ℕ → List ℕ
all_ports b zero = []
all_ports b (suc c) = b ∷ all_ports (b + 1) c

-- the next life is to be explored, and all successors are to be entered again
abbrev pub after_finish : Graph → ℕ → ℕ → View → View
after_finish g k l v = change_top (λ xs. item.Owe k job.Explore (l + 1) ∷ item.Reenter k (l + 1) (all_ports 0 (g.ports k)) ∷ without_first xs) v

-- the recovery word that says that life l + 1 stands
abbrev pub finish_left : ℕ → ℕ
finish_left l = 2 * l

-- Making the next strike of the plan on a word.
abbrev pub hitting_of : ℕ → Hitting
hitting_of n = cond (nat_eq (mark_of n) 1) (hitting.Missed (life_of n)) (hitting.Landed (life_of n))

-- the strike was made, and is recorded where it landed
abbrev pub after_strike_descriptor : Graph → Plan → ℕ → ℕ → Hitting → View → View
after_strike_descriptor g p k n (hitting.Landed l) v = note (record_of.Struck (key_of k) l hit_of.Descriptor) (saw k word.Descriptor n (strike_done (strike_next g p v) v))
after_strike_descriptor g p k n (hitting.Missed l) v = saw k word.Descriptor n (strike_done (strike_next g p v) v)

-- the strike was made, and is recorded where it landed
abbrev pub after_strike_notify : Graph → Plan → ℕ → ℕ → ℕ → Hitting → View → View
after_strike_notify g p k w n (hitting.Landed l) v = note (record_of.Struck (key_of k) l (hit_of.Notify w)) (saw k (word.Notify w) n (strike_done (strike_next g p v) v))
after_strike_notify g p k w n (hitting.Missed l) v = saw k (word.Notify w) n (strike_done (strike_next g p v) v)

-- Posting a job uses up the owed item and a spare credit, and brings what stood there; taking brings it too.
abbrev pub after_post : Job → ℕ → ℕ → View → View
after_post i k n v = record v { stacks = arrived i k n (on_top without_first v.stacks); spare = v.spare - 1 }

-- taking a job brings a stack with it, where one was posted
abbrev pub after_take : Job → ℕ → ℕ → View → View
after_take i k n v = arrive i k n v

-- Credits.
abbrev pub after_buy : View → View
after_buy v = record v { spare = v.spare + 1 }

-- the stack has no item
abbrev pub is_idle_stack : List Item → Bool
is_idle_stack [] = true
is_idle_stack (x ∷ xs) = false

-- some stack has no item
abbrev pub has_idle : List Stack → Bool
has_idle [] = false
has_idle (s ∷ ss) = cond (is_idle_stack s.items) true (has_idle ss)

-- the stack without items that came last goes
abbrev pub without_idle : List Stack → List Stack
without_idle [] = []
without_idle (s ∷ ss) = cond (is_idle_stack s.items) ss (s ∷ without_idle ss)

-- a stack without items goes, or else a spare credit
abbrev pub after_drop_credit : View → View
after_drop_credit v = cond (has_idle v.stacks) (record v { stacks = without_idle v.stacks }) (record v { spare = v.spare - 1 })

-- Blocks.
abbrev pub turn_left : ℕ → ℕ
turn_left n = cond (eqb n 0) 1 n

-- the block is in hand, where it was at home
abbrev pub after_take_turn : ℕ → BlockCells → ℕ → View → View
after_take_turn b x n v = cond (eqb n 0) (record v { hands = record { block = b; held = x } ∷ v.hands }) v

-- the block holds this version, unstruck
abbrev pub is_good : ℕ → BlockCells → Bool
is_good v x = eqb x.tag v && cond x.struck false true

-- what a block holds in place of the version v, unstruck
abbrev pub found_in : ℕ → BlockCells → Found
found_in v x = cond (eqb x.tag v) (found_of.Struck v) (found_of.Other x.tag)

-- the input that is read next, where it lies in the block b
abbrev pub read_items : Graph → ℕ → BlockCells → List Item → List Item
read_items g b x (item.Compute k l true read made ∷ xs) = let p = (g.pred k read).task in
    cond (nat_lt read (g.inputs k) && eqb b (g.block p))
    (cond (is_good (g.version p) x) (item.Compute k l true (read + 1) made ∷ xs) (item.Suspect k l (cause.Block b (g.version p) (found_in (g.version p) x)) false ∷ xs))
    (item.Compute k l true read made ∷ xs)
read_items g b x xs = xs

-- a computing that meets a bad input has ended
abbrev pub read_ended : Graph → ℕ → BlockCells → List Item → List Ended → List Ended
read_ended g b x (item.Compute k l true read made ∷ xs) es = let p = (g.pred k read).task in
    cond (nat_lt read (g.inputs k) && eqb b (g.block p)) (cond (is_good (g.version p) x) es (record { job = job.Compute; key = k; life = l } ∷ es)) es
read_ended g b x xs es = es

-- the strike on the block b that is made next and can't land, as the block holds another version or the mark
abbrev pub missed : Graph → ℕ → BlockCells → Strike → Bool
missed g b x s = on_block s.target && (eqb b (g.block s.key.0) && cond (is_good (g.version s.key.0) x) false true)
  where
    on_block : Target → Bool
    on_block target.Block = true
    on_block _ = false

-- the next strike of the view was made, if it is one that this block lets miss
abbrev pub missed_by : Graph → Plan → ℕ → BlockCells → Option ℕ → List ℕ → List ℕ
missed_by g p b x none made = made
missed_by g p b x (some n) made = cond (missed g b x (p.strike n)) (n ∷ made) made

-- the view after a block went home as it was: one more input was read, or a bad one met, or a strike missed
abbrev pub after_give_read : Graph → Plan → ℕ → BlockCells → View → View
after_give_read g p b x v = record v {
  stacks = on_top (read_items g b x) v.stacks;
  ended = read_ended g b x (top_items v.stacks) v.ended;
  strikes = missed_by g p b x (strike_next g p v) v.strikes;
  hands = without_first v.hands;
}

-- the view after the block went home written: Written is recorded, and closing begins
abbrev pub after_give_written : ℕ → ℕ → ℕ → ℕ → View → View
after_give_written k l b ver v = record v {
  stacks = on_top (λ xs. item.Close k l 0 ∷ without_first xs) v.stacks;
  records = record_of.Written (key_of k) l b ver ∷ v.records;
  hands = without_first v.hands;
}

-- the view after the block went home struck: the strike was made and is recorded
abbrev pub after_give_struck : Graph → Plan → ℕ → ℕ → ℕ → ℕ → View → View
after_give_struck g p k l b ver v = let w = strike_done (strike_next g p v) v in record w {
  records = record_of.Struck (key_of k) l (hit_of.Block b ver) ∷ v.records;
  hands = without_first v.hands;
}

-- Stopping.
abbrev pub after_stop : View → View
after_stop v = learn known.Stops v

-- Making the result is no step on a word: it enters the view with the seat's next step.
abbrev pub made_items : ℕ → ℕ → List Item → List Item
made_items k l (item.Compute key life loaded read made ∷ xs) = item.Compute key life loaded read true ∷ xs
made_items k l xs = xs

-- the view in which the result of the key was made
abbrev pub after_computed : ℕ → ℕ → View → View
after_computed k l v = note (record_of.Computed (key_of k) l) (change_top (made_items k l) v)
