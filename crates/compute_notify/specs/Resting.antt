-- How much of a task is left to do, as a number, and that each turn lets it fall or met one of some exceptions.
use Rattle.std.specs.Prelude.{◌≡◌, ◌≢◌, ◌⊎◌, ℕ, ◌+◌, ◌-◌, ◌*◌, ◌<◌, ◌≤◌, Bool, true, false, cond, nat_lt, eqb, List, [], ◌∷◌, ◌++◌, length, Option, Some, None}
use Rattle.std.specs.Prelude.{count_ones}
use Rattle.graph_model.specs.Plans.{hits}
use Rattle.graph_model.specs.declared.key.Key.{Key}
use Rattle.graph_model.specs.declared.plan.Point.{Point}
use Rattle.graph_model.specs.declared.plan.Point.TheVariants as point
use Rattle.graph_model.specs.declared.plan.Strike.{Strike}
use Rattle.graph_model.specs.declared.record.Cause.{Cause}
use Rattle.core_state.specs.Effects.{closing_of, elected_of, is_good}
use Rattle.core_state.specs.Graph.{Graph, Setting}
use Rattle.core_state.specs.Events.{Event, Event as event}
use Rattle.core_state.specs.Packed.{notify_word}
use Rattle.core_state.specs.Words.{mark_of, replacing}
use Rattle.core_state.specs.declared.answers.Closing.TheVariants as closing
use Rattle.core_state.specs.declared.block.BlockCells.{BlockCells}
use Rattle.core_state.specs.declared.job.Job.{Job}
use Rattle.core_state.specs.declared.words.NotifyWord.{NotifyWord}
use Rattle.recovery.specs.Recovering.{makes_step}
use Rattle.recovery.specs.Resting.{lets_go, owe_rest, ports_rest, recover_rest}
use Rattle.recovery.specs.declared.recover.Phase.TheVariants as replacing
use Rattle.compute_notify.specs.Items.{job_item}
use Rattle.compute_notify.specs.Striking.{seen_word, strike_left}
use Rattle.compute_notify.specs.declared.close.Close.{Close}
use Rattle.compute_notify.specs.declared.compute.Compute.{Compute}
use Rattle.compute_notify.specs.declared.compute.Phase.{Phase}
use Rattle.compute_notify.specs.declared.compute.Phase.TheVariants as phase
use Rattle.compute_notify.specs.declared.duty.Duty.{Duty}
use Rattle.compute_notify.specs.declared.explore.Explore.{Explore}
use Rattle.compute_notify.specs.declared.explore.Way.{Way as Reaching}
use Rattle.compute_notify.specs.declared.explore.Way.TheVariants as reaching
use Rattle.compute_notify.specs.declared.item.After.{After}
use Rattle.compute_notify.specs.declared.item.Came.{Came}
use Rattle.compute_notify.specs.declared.item.Came.TheVariants as came
use Rattle.compute_notify.specs.declared.item.Item.{Item}
use Rattle.compute_notify.specs.declared.item.Item.TheVariants as item
use Rattle.compute_notify.specs.declared.look.Look.{Look}
use Rattle.compute_notify.specs.declared.look.Way.{Way as Looking}
use Rattle.compute_notify.specs.declared.look.Way.TheVariants as looking
use Rattle.compute_notify.specs.declared.notify.Notify.{Notify}
use Rattle.compute_notify.specs.declared.notify.Way.{Way as Telling}
use Rattle.compute_notify.specs.declared.notify.Way.TheVariants as telling

-- a block in hand spares one step
abbrev pub held : Option BlockCells → ℕ
held None = 0
held (Some x) = 1

-- the strikes at a point of a duty behind so many: two steps each
abbrev pub strikes_rest : List Strike → Point → Duty → ℕ → ℕ
strikes_rest p at duty made = 2 * (length (hits at duty.key duty.life p) - made)

-- a replacement that was not begun
abbrev pub suspect_rest : Setting → ℕ → ℕ
suspect_rest e k = e.graph.notify_words k + 9 + ports_rest e k 0

-- the place at hand of an exploring
abbrev pub explore_way_rest : ℕ → Reaching → ℕ
explore_way_rest rows reaching.Start = rows + 14
explore_way_rest rows (reaching.Seek s) = (rows - s.passed) + 14
explore_way_rest rows (reaching.Register r) = 8
explore_way_rest rows reaching.Spend = 7

-- the places from the one at hand on
abbrev pub places_rest : Setting → Explore → ℕ
places_rest e x = cond (nat_lt x.place (e.graph.places x.duty.key.0)) (explore_way_rest e.shape.rows x.way + (e.graph.places x.duty.key.0 - (x.place + 1)) * (e.shape.rows + 14)) 0

abbrev pub explore_rest : Setting → List Strike → Option BlockCells → Explore → ℕ
explore_rest e p h x = places_rest e x + (strikes_rest p point.Explored x.duty x.made - held h) + 7

-- a word that was seen spares one step
abbrev pub seen_rest : Option NotifyWord → ℕ
seen_rest None = 0
seen_rest (Some x) = 1

-- the strikes of a closing, before its first word and behind its last
abbrev pub close_strikes : Setting → List Strike → Close → ℕ
close_strikes e p c = cond (eqb c.word 0) (strikes_rest p point.Computed c.duty c.made + strikes_rest p point.Notified c.duty 0) (strikes_rest p point.Notified c.duty c.made)

abbrev pub close_rest : Setting → List Strike → Option BlockCells → Close → ℕ
close_rest e p h c = (2 * (e.graph.notify_words c.duty.key.0 - c.word) - seen_rest c.seen) + (e.graph.ports c.duty.key.0 - 40 * c.word) * (e.shape.rows + 7) + (close_strikes e p c - held h)

-- a closing that was not begun
abbrev pub closing_rest : Setting → List Strike → Duty → ℕ
closing_rest e p duty = close_rest e p None (record { duty = duty; word = 0; seen = None; made = 0 })

-- what is left of a computing before its closing; the rows are for the way to the writer of a bad block
abbrev pub phase_rest : Setting → List Strike → Option BlockCells → Duty → Phase → ℕ
phase_rest e p h duty (phase.Ready made) = (strikes_rest p point.Ready duty made - held h) + 1 + 2 * e.graph.inputs duty.key.0 + 2 + (e.shape.rows + 2)
phase_rest e p h duty (phase.Reading input) = (2 * (e.graph.inputs duty.key.0 - input) + 2 - held h) + (e.shape.rows + 2)
phase_rest e p h duty phase.Writing = (2 - held h) + (e.shape.rows + 2)

-- the port at hand of a telling
abbrev pub notify_way_rest : ℕ → Telling → ℕ
notify_way_rest rows telling.Start = rows + 7
notify_way_rest rows (telling.Seek s) = (rows - s.passed) + 7
notify_way_rest rows (telling.Spend r) = 7

abbrev pub notify_rest : Setting → Notify → ℕ
notify_rest e n = cond (eqb n.ports 0) 0 (notify_way_rest e.shape.rows n.way + (count_ones n.ports - 1) * (e.shape.rows + 7))

-- the way to the writer of a bad block
abbrev pub look_way_rest : ℕ → Looking → ℕ
look_way_rest rows looking.Start = rows + 1
look_way_rest rows (looking.Seek s) = (rows - s.passed) + 1
look_way_rest rows (looking.Load r) = 1

-- both the writer and the reader may be replaced
abbrev pub look_rest : Setting → Look → ℕ
look_rest e x = look_way_rest e.shape.rows x.way + suspect_rest e (e.graph.pred x.duty.key.0 x.input).task + suspect_rest e x.duty.key.0

abbrev pub item_rest : Setting → List Strike → Option BlockCells → Item → ℕ
item_rest e p h item.Credit = 1
item_rest e p h (item.Explore x) = explore_rest e p h x
item_rest e p h (item.Compute c) = phase_rest e p h c.duty c.phase + closing_rest e p c.duty
item_rest e p h (item.Close c) = close_rest e p h c
item_rest e p h (item.Notify n) = notify_rest e n
item_rest e p h (item.Look x) = look_rest e x
item_rest e p h (item.Owe o) = owe_rest o
item_rest e p h (item.Recover r) = recover_rest e r

-- a task that begins, with the credit of its stack
abbrev pub job_rest : Setting → List Strike → Duty → Job → ℕ
job_rest e p duty i = item_rest e p None (job_item duty i) + 1

abbrev pub left_rest : Setting → List Strike → Option BlockCells → Option Item → ℕ
left_rest e p h None = 0
left_rest e p h (Some x) = item_rest e p h x

-- what came and what is left; the block in hand is that of the topmost
abbrev pub came_rest : Setting → List Strike → Option BlockCells → Came → Option Item → ℕ
came_rest e p h (came.Above x) left = item_rest e p h x + left_rest e p None left
came_rest e p h (came.Stack x) left = item_rest e p h x + 1 + left_rest e p None left
came_rest e p h _ left = left_rest e p h left

abbrev pub after_rest : Setting → List Strike → Option BlockCells → After → ℕ
after_rest e p h a = came_rest e p h a.came a.left

-- a step lets the rest fall by one, and a post by three more, for its hint
abbrev pub step_cost : Event → ℕ
step_cost (event.post r i k l) = 4
step_cost _ = 1

-- Why a step may not let the rest fall, by what its word showed, and by how much the rest may rise then.
pub data Excuses (e : Setting) (p : List Strike) : Event → ℕ → ℕ → Type 0 where
  -- another seat has the block
  taken : (b : ℕ) (was : BlockCells) (n : ℕ) → n ≡ 1 → Excuses e p (event.take_turn b was) n 0
  -- the word moved since it was seen
  moved : (r k l w seen n : ℕ) (x : NotifyWord) → closing_of l seen n ≡ closing.Moved x → Excuses e p (event.close r k l w seen) n 0
  -- a life is being replaced
  awaited : (r k l : ℕ) (c : Cause) (waits : Bool) (n : ℕ) → replacing n ≡ 1 → Excuses e p (event.elect r k l c waits) n 0
  -- a mark: its life may have to be replaced
  marked_descriptor : (r k n : ℕ) → mark_of n ≡ 1 → Excuses e p (event.load_descriptor r k) n (suspect_rest e k)
  marked_place : (r k j n : ℕ) → mark_of n ≡ 1 → Excuses e p (event.spend r k j) n (suspect_rest e k)
  marked_port : (r k q n : ℕ) → mark_of n ≡ 1 → Excuses e p (event.register r k q) n (suspect_rest e k)
  marked_word : (r k l w seen n : ℕ) → mark_of n ≡ 1 → Excuses e p (event.close r k l w seen) n (suspect_rest e k)
  -- an input was read that the block doesn't hold: its writer and its reader may have to be replaced
  bad : (k j n : ℕ) (was : BlockCells) → j < e.graph.inputs k → is_good (e.graph.version (e.graph.pred k j).task) was ≡ false → Excuses e p (event.give_read (e.graph.block (e.graph.pred k j).task) was) n (suspect_rest e (e.graph.pred k j).task + suspect_rest e k)
  -- a job came
  given : (r k l n : ℕ) (i : Job) (key : Key) → n ≢ 0 → key.0 ≡ k → Excuses e p (event.post r i k l) n (job_rest e p (record { row = r; key = key; life = n }) i)

-- the rest falls, or the step is excused and it rises by no more than that
abbrev pub LetsFall : Setting → List Strike → Event → ℕ → ℕ → ℕ → Type 0
LetsFall e p x n before now = (now + step_cost x ≤ before) ⊎ ((rise : ℕ) × Excuses e p x n rise × (now ≤ before + rise))

-- An input of a computing is read next, and the block in hand holds it.
pub record ReadsGood (e : Setting) (h : Option BlockCells) (c : Compute) : Type 0 where
  pub input : ℕ
  pub was : BlockCells
  pub reading : c.phase ≡ phase.Reading input
  pub is_input : input < e.graph.inputs c.duty.key.0
  pub in_hand : h ≡ Some was
  pub good : is_good (e.graph.version (e.graph.pred c.duty.key.0 input).task) was ≡ true

-- then the rest falls
abbrev pub FallsGood : Setting → Option BlockCells → Item → ℕ → ℕ → Type 0
FallsGood e h (item.Compute c) before now = ReadsGood e h c → now + 1 ≤ before
FallsGood e h _ before now = Unit {0}

-- A closing that makes no strike and finds its word moved has nothing above it and goes on with the word that it found; of a replacement whose election lets the suspect go nothing is left.
abbrev pub LooksAgain : Graph → List Strike → ℕ → Item → List Item → Type 0
LooksAgain g p n (item.Close c) left = strike_left g p (item.Close c) ≡ None → (x : NotifyWord) → closing_of c.duty.life (notify_word (seen_word c.duty.life c.seen)) n ≡ closing.Moved x → left ≡ item.Close (record c { seen = Some x }) ∷ []
LooksAgain g p n (item.Recover r) left = r.phase ≡ replacing.Suspect → makes_step r ≡ true → lets_go r.life r.wait (elected_of r.life n) ≡ true → left ≡ item.Recover (record r { phase = replacing.Over }) ∷ []
LooksAgain g p n _ left = Unit {0}

-- the others stay, with something above them: that closing alone, where it found its word moved, and nothing to do, where a suspect goes
pub record LeavesAbove (g : Graph) (p : List Strike) (n : ℕ) (x : Item) (others now : List Item) : Type 0 where
  pub above : List Item
  pub items_are : now ≡ others ++ above
  pub again : LooksAgain g p n x above
