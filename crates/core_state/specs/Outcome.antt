-- What each event leaves of a view's lines, strikes, spare credits and hands, what it records and which jobs it ends, and what the view learns.
use Rattle.std.specs.Prelude.{ℕ, ◌+◌, ◌-◌, ◌/◌, Bool, true, false, cond, nat_lt, eqb, List, [], ◌∷◌}
use mathlib.Core.Option.{Option, some, none}
use Rattle.core_state.specs.Graph.{Setting}
use Rattle.core_state.specs.Views.{key_of, strike_next, without_first}
use Rattle.core_state.specs.Effects.{claim_of, loaded_items, loaded_ended, blamed_items, cleared_items, registered_of, told_of, closing_of, elected_of, hitting_of, seen, seen_notify, all_ports, read_items, read_ended, missed_by, has_idle}
use Rattle.core_state.specs.Events.{Event}
use Rattle.core_state.specs.Events.Event.{claim, look, load_descriptor, load_notify, load_recovery, load_pending, load_stop, register, spend, close, elect, renew_notify, renew_descriptor, finish, strike_descriptor, strike_notify, post, take, buy, drop_credit, take_turn, give_read, give_written, give_struck, halt}
use Rattle.core_state.specs.Lines.{Line, flat, first_ended, change_first, swap_first, drop_first, dropped, came_lines, claimed_lines, looked_lines, registered_lines, told_lines, closed_lines, elected_lines}
use Rattle.core_state.specs.Effects.{moved_items, moved_ended, ends_top}
use Rattle.graph_model.specs.declared.record.Cause.{Cause}
use Rattle.graph_model.specs.declared.record.Hit.{Hit}
use Rattle.graph_model.specs.declared.record.Hit.TheVariants as hit_of
use Rattle.graph_model.specs.declared.record.Record.{Record}
use Rattle.graph_model.specs.declared.record.Record.TheVariants as record_of
use Rattle.core_state.specs.declared.job.Job.TheVariants as job
use Rattle.core_state.specs.declared.views.Ended.{Ended}
use Rattle.core_state.specs.declared.views.Hand.{Hand}
use Rattle.core_state.specs.declared.views.Item.TheVariants as item
use Rattle.core_state.specs.declared.views.Known.{Known}
use Rattle.core_state.specs.declared.views.Known.TheVariants as known
use Rattle.core_state.specs.declared.views.Word.TheVariants as word
use Rattle.core_state.specs.declared.answers.Claim.{Claim}
use Rattle.core_state.specs.declared.answers.Claim.TheVariants as claimed
use Rattle.core_state.specs.declared.answers.Registered.{Registered}
use Rattle.core_state.specs.declared.answers.Registered.TheVariants as registered
use Rattle.core_state.specs.declared.answers.Closing.{Closing}
use Rattle.core_state.specs.declared.answers.Closing.TheVariants as closing
use Rattle.core_state.specs.declared.answers.Told.{Told}
use Rattle.core_state.specs.declared.answers.Told.TheVariants as told
use Rattle.core_state.specs.declared.answers.Elected.{Elected}
use Rattle.core_state.specs.declared.answers.Elected.TheVariants as elected
use Rattle.core_state.specs.declared.answers.Hitting.{Hitting}
use Rattle.core_state.specs.declared.answers.Hitting.TheVariants as hitting
use Rattle.core_state.specs.declared.views.View.{View}

-- the key that a claim tells of its row
abbrev pub key_told : ℕ → Claim → ℕ
key_told k claimed.Made = k
key_told k claimed.Found = k
key_told k (claimed.Other key) = key.0

-- what the registering of a port lets a view know, beside what the word showed
abbrev pub registered_known : ℕ → ℕ → Registered → List Known → List Known
registered_known p q (registered.Waiting m) xs = known.Waits p m q ∷ xs
registered_known p q (registered.Closed m) xs = known.Closed p m (q / 40) ∷ xs
registered_known p q (registered.Struck m) xs = xs

-- what the closing of a word lets a view know, beside what the word showed
abbrev pub closed_known : ℕ → ℕ → ℕ → Closing → List Known → List Known
closed_known k l w (closing.Edges ports) xs = known.Closed k l w ∷ xs
closed_known k l w (closing.Stale m) xs = xs
closed_known k l w (closing.Struck m) xs = xs
closed_known k l w (closing.Moved m) xs = xs

-- one more strike, if there is one
abbrev pub made_next : Option ℕ → List ℕ → List ℕ
made_next none xs = xs
made_next (some n) xs = n ∷ xs

-- the record of who made a row
abbrev pub claimed_entries : ℕ → Claim → List Record
claimed_entries k claimed.Made = record_of.Created (key_of k) ∷ []
claimed_entries k claimed.Found = []
claimed_entries k (claimed.Other key) = []

-- the record of a place that is spent now
abbrev pub told_entries : ℕ → ℕ → Told → List Record
told_entries k j (told.Spent l) = record_of.Spent (key_of k) l j ∷ []
told_entries k j (told.Last l) = record_of.Spent (key_of k) l j ∷ []
told_entries k j (told.Already l) = []
told_entries k j (told.Struck l) = []

-- the record of a word that is closed now
abbrev pub closed_entries : ℕ → ℕ → ℕ → Closing → List Record
closed_entries k l w (closing.Edges ports) = record_of.Closed (key_of k) l w ∷ []
closed_entries k l w (closing.Stale m) = []
closed_entries k l w (closing.Struck m) = []
closed_entries k l w (closing.Moved x) = []

-- the record of a life that is replaced by who was elected
abbrev pub elected_entries : ℕ → ℕ → Cause → Elected → List Record
elected_entries k l c elected.Yes = record_of.Replaced (key_of k) l c ∷ []
elected_entries k l c (elected.Replaced m) = []
elected_entries k l c (elected.Renewing m) = []

-- the record of a strike that landed on a word
abbrev pub hitting_entries : ℕ → Hit → Hitting → List Record
hitting_entries k hit (hitting.Landed l) = record_of.Struck (key_of k) l hit ∷ []
hitting_entries k hit (hitting.Missed l) = []

-- the jobs that have ended where the item goes on, for a port that waits, and else those that had
abbrev pub registered_ended : Registered → List Ended → List Ended → List Ended
registered_ended (registered.Waiting m) on es = on
registered_ended (registered.Closed m) on es = es
registered_ended (registered.Struck m) on es = es

-- the jobs that have ended where a closing is given up, for a later life and for a mark, and else those that had
abbrev pub closed_ended : Closing → List Ended → List Ended → List Ended
closed_ended (closing.Edges ports) gone es = es
closed_ended (closing.Stale m) gone es = gone
closed_ended (closing.Struck m) gone es = gone
closed_ended (closing.Moved x) gone es = es

-- events that may record something else than a replacement or the place of a predecessor
abbrev pub records_more : Event → Bool
records_more (claim r k) = true
records_more (spend r k j) = cond (nat_lt j 40) false true
records_more (close r k l w m) = true
records_more (strike_descriptor r k l) = true
records_more (strike_notify r k l w) = true
records_more (give_written k l b was now) = true
records_more (give_struck k l b was now) = true
records_more _ = false

module _ (e : Setting) where
  -- the records that the event adds, by the number that it found: at most one
  abbrev pub entries : Event → ℕ → List Record
  entries (claim r k) n = claimed_entries k (claim_of k n)
  entries (spend r k j) n = told_entries k j (told_of (e.graph.places k) j n)
  entries (close r k l w m) n = closed_entries k l w (closing_of l m n)
  entries (elect r k l c waits) n = elected_entries k l c (elected_of l n)
  entries (strike_descriptor r k l) n = hitting_entries k hit_of.Descriptor (hitting_of n)
  entries (strike_notify r k l w) n = hitting_entries k (hit_of.Notify w) (hitting_of n)
  entries (give_written k l b was now) n = record_of.Written (key_of k) l b now.tag ∷ []
  entries (give_struck k l b was now) n = record_of.Struck (key_of k) l (hit_of.Block b now.tag) ∷ []
  entries _ n = []

  -- the jobs that have ended, before what is finished goes
  abbrev pub ended_left : Event → ℕ → View → List Ended
  ended_left (load_descriptor r k) n v = first_ended (loaded_ended e.graph e.plan v.strikes k n) (flat v.stacks) v.ended
  ended_left (register r p q) n v = registered_ended (registered_of n) (first_ended (moved_ended e.graph) (flat v.stacks) v.ended) v.ended
  ended_left (spend r k j) n v = first_ended (moved_ended e.graph) (flat v.stacks) v.ended
  ended_left (close r k l w m) n v = closed_ended (closing_of l m n) (first_ended ends_top (flat v.stacks) v.ended) v.ended
  ended_left (give_read b was) n v = first_ended (read_ended e.graph b was) (flat v.stacks) v.ended
  ended_left _ n v = v.ended

  -- the facts that the event adds, the newest first, by the number that it found
  abbrev pub learned : Event → ℕ → List Known
  learned (claim r k) n = known.Row r (key_told k (claim_of k n)) ∷ []
  learned (look r) n = cond (eqb n 0) [] (known.Row r (n - 1) ∷ [])
  learned (load_descriptor r k) n = seen k word.Descriptor n []
  learned (load_notify r k w) n = seen_notify k w n []
  learned (load_recovery r k) n = seen k word.Recovery n []
  learned load_pending n = cond (eqb n 0) (known.Idle ∷ []) []
  learned load_stop n = cond (eqb n 1) (known.Stopped ∷ []) []
  learned (register r p q) n = registered_known p q (registered_of n) (seen p (word.Notify (q / 40)) n [])
  learned (spend r k j) n = seen k word.Descriptor n []
  learned (close r k l w m) n = closed_known k l w (closing_of l m n) (seen k (word.Notify w) n [])
  learned (elect r k l c waits) n = seen k word.Recovery n []
  learned (strike_descriptor r k l) n = seen k word.Descriptor n []
  learned (strike_notify r k l w) n = seen k (word.Notify w) n []
  learned halt n = known.Stops ∷ []
  learned _ n = []

  -- the lines before what is finished goes
  abbrev pub lines_left : Event → ℕ → View → List Line → List Line
  lines_left (claim r k) n v ls = claimed_lines k (claim_of k n) ls
  lines_left (look r) n v ls = looked_lines e.graph e.shape.rows r n v.known ls
  lines_left (load_descriptor r k) n v ls = change_first (loaded_items e.graph e.plan v.strikes k n) ls
  lines_left (load_notify r k w) n v ls = change_first (blamed_items e.graph k n) ls
  lines_left (load_recovery r k) n v ls = change_first (cleared_items k n) ls
  lines_left (register r p q) n v ls = registered_lines p (registered_of n) (change_first (moved_items e.graph) ls) ls
  lines_left (spend r k j) n v ls = told_lines k (told_of (e.graph.places k) j n) (change_first (moved_items e.graph) ls)
  lines_left (close r k l w m) n v ls = closed_lines k l w n (closing_of l m n) ls
  lines_left (elect r k l c waits) n v ls = elected_lines k l waits (elected_of l n) ls
  lines_left (renew_notify r k l w) n v ls = swap_first (item.Renew k l (w + 1)) ls
  lines_left (renew_descriptor r k l) n v ls = swap_first (item.Renew k l (e.graph.notify_words k + 1)) ls
  lines_left (finish r k l) n v ls = change_first (λ xs. item.Owe k job.Explore (l + 1) ∷ item.Reenter k (l + 1) (all_ports 0 (e.graph.ports k)) ∷ without_first xs) ls
  lines_left (post r i k l) n v ls = came_lines i k n (drop_first ls)
  lines_left (take r i k) n v ls = came_lines i k n ls
  lines_left drop_credit n v ls = dropped true ls
  lines_left (give_read b was) n v ls = change_first (read_items e.graph b was) ls
  lines_left (give_written k l b was now) n v ls = swap_first (item.Close k l 0) ls
  lines_left _ n v ls = ls

  -- the strikes that are made
  abbrev pub strikes_left : Event → View → List ℕ
  strikes_left (strike_descriptor r k l) v = made_next (strike_next e.graph e.plan v) v.strikes
  strikes_left (strike_notify r k l w) v = made_next (strike_next e.graph e.plan v) v.strikes
  strikes_left (give_read b was) v = missed_by e.graph e.plan b was (strike_next e.graph e.plan v) v.strikes
  strikes_left (give_struck k l b was now) v = made_next (strike_next e.graph e.plan v) v.strikes
  strikes_left _ v = v.strikes

  -- the spare credits
  abbrev pub spare_left : Event → View → ℕ
  spare_left (post r i k l) v = v.spare - 1
  spare_left buy v = v.spare + 1
  spare_left drop_credit v = cond (has_idle v.stacks) v.spare (v.spare - 1)
  spare_left _ v = v.spare

  -- the blocks in hand
  abbrev pub hands_left : Event → ℕ → View → List Hand
  hands_left (take_turn b was) n v = cond (eqb n 0) (record { block = b; held = was } ∷ v.hands) v.hands
  hands_left (give_read b was) n v = without_first v.hands
  hands_left (give_written k l b was now) n v = without_first v.hands
  hands_left (give_struck k l b was now) n v = without_first v.hands
  hands_left _ n v = v.hands
