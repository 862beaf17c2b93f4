-- An item as lines, what its next turn rests on, and what a turn leaves.
use Rattle.std.specs.Prelude.{◌≡◌, ◌≢◌, ℕ, ◌+◌, ◌-◌, ◌*◌, ◌^◌, ◌<◌, ◌≤◌, Bool, true, false, cond, nat_lt, eqb, bit_and, List, ◌∷◌, Option, Some, None}
use Rattle.std.specs.Int.{bit_at, trailing_zeros, w64}
use Rattle.graph_model.specs.Graph.{Graph as TaskGraph}
use Rattle.graph_model.specs.declared.key.Key.{Key}
use Rattle.graph_model.specs.declared.plan.Point.TheVariants as point
use Rattle.graph_model.specs.declared.plan.Strike.{Strike}
use Rattle.graph_model.specs.declared.record.Cause.{Cause}
use Rattle.graph_model.specs.declared.record.Cause.TheVariants as cause
use Rattle.graph_model.specs.declared.record.Found.{Found}
use Rattle.core_state.specs.Asked.{IsCoreKey}
use Rattle.core_state.specs.Guards.{KnowsClosed}
use Rattle.core_state.specs.Counts.{facts}
use Rattle.core_state.specs.Tests.{is_seen_closed}
use Rattle.core_state.specs.Effects.{ports_from}
use Rattle.core_state.specs.Graph.{Graph, Setting}
use Rattle.core_state.specs.Lines.{Line, HasLines, of, credit}
use Rattle.core_state.specs.Sure.{IsSure, IsOpen}
use Rattle.core_state.specs.declared.answers.Told.{Told}
use Rattle.core_state.specs.declared.answers.Told.TheVariants as told
use Rattle.core_state.specs.declared.job.Job.{Job}
use Rattle.core_state.specs.declared.job.Job.TheVariants as job
use Rattle.core_state.specs.declared.views.Item.TheVariants as line
use Rattle.core_state.specs.declared.views.View.{View}
use Rattle.core_state.specs.declared.words.NotifyWord.{NotifyWord}
use Rattle.core_steps.specs.Seat.{known_of}
use Rattle.key_table.specs.Path.{HasPassed}
use Rattle.key_table.specs.Seeking.{Seeking}
use Rattle.recovery.specs.Memory.{KnowsKey, IsOnTop}
use Rattle.recovery.specs.Owing.{owe_lines, owe_credits}
use Rattle.recovery.specs.Recovering.{Fits, is_over as is_passed, phase_credits, recover_lines}
use Rattle.recovery.specs.Reentering.{IsSearch, IsTold}
use Rattle.recovery.specs.declared.recover.Phase.TheVariants as replacing
use Rattle.recovery.specs.declared.recover.Recover.{Recover}
use Rattle.recovery.specs.declared.turn.Turn.{Turn}
use Rattle.recovery.specs.declared.turn.Turn.TheVariants as turn
use Rattle.compute_notify.specs.Running.{life_limit}
use Rattle.compute_notify.specs.Striking.{FitsStrikes, strike_left}
use Rattle.compute_notify.specs.declared.close.Close.{Close}
use Rattle.compute_notify.specs.declared.compute.Compute.{Compute}
use Rattle.compute_notify.specs.declared.compute.Computed.{Computed}
use Rattle.compute_notify.specs.declared.compute.Computed.TheVariants as computed
use Rattle.compute_notify.specs.declared.compute.Phase.{Phase}
use Rattle.compute_notify.specs.declared.compute.Phase.TheVariants as phase
use Rattle.compute_notify.specs.declared.duty.Duty.{Duty}
use Rattle.compute_notify.specs.declared.explore.Explore.{Explore}
use Rattle.compute_notify.specs.declared.explore.Explored.{Explored}
use Rattle.compute_notify.specs.declared.explore.Explored.TheVariants as explored
use Rattle.compute_notify.specs.declared.explore.Way.{Way as Reaching}
use Rattle.compute_notify.specs.declared.explore.Way.TheVariants as reaching
use Rattle.compute_notify.specs.declared.item.After.{After}
use Rattle.compute_notify.specs.declared.item.Came.{Came}
use Rattle.compute_notify.specs.declared.item.Came.TheVariants as came
use Rattle.compute_notify.specs.declared.item.Item.{Item}
use Rattle.compute_notify.specs.declared.item.Item.TheVariants as item
use Rattle.compute_notify.specs.declared.look.Look.{Look}
use Rattle.compute_notify.specs.declared.look.Way.{Way as Looking}
use Rattle.compute_notify.specs.declared.look.Way.TheVariants as looking
use Rattle.compute_notify.specs.declared.notify.Notified.{Notified}
use Rattle.compute_notify.specs.declared.notify.Notified.TheVariants as notified
use Rattle.compute_notify.specs.declared.notify.Notify.{Notify}
use Rattle.compute_notify.specs.declared.notify.Way.{Way as Telling}
use Rattle.compute_notify.specs.declared.notify.Way.TheVariants as telling

-- Items as they begin.
-- a closing from a word on, which was not seen yet
abbrev pub close_from : Duty → ℕ → Close
close_from duty word = record { duty = duty; word = word; seen = None; made = 0 }

-- the telling of these ports of a word, none of which was begun
abbrev pub notify_of : Key → ℕ → ℕ → ℕ → Notify
notify_of key life word ports = record { key = key; life = life; word = word; ports = ports; way = telling.Start }

-- the item with which a job begins
abbrev pub job_item : Duty → Job → Item
job_item duty job.Explore = item.Explore (record { duty = duty; place = 0; way = reaching.Start; made = 0 })
job_item duty job.Compute = item.Compute (record { duty = duty; phase = phase.Ready 0 })

-- the replacement of a life for a cause, as it begins
abbrev pub replaces : Duty → Cause → Bool → ℕ → Recover
replaces duty c waits lives = record { row = duty.row; key = duty.key; life = duty.life; cause = c; wait = waits; lives = life_limit duty.key.0 lives; phase = replacing.Suspect }

-- what the telling of a place brings
abbrev pub told_came : Told → ℕ → Key → ℕ → Came
told_came (told.Spent life) row key lives = came.Nothing
told_came (told.Already life) row key lives = came.Nothing
told_came (told.Last life) row key lives = came.Above (item.Owe (record { row = row; key = key; job = job.Compute; life = life; bought = false }))
told_came (told.Struck life) row key lives = came.Above (item.Recover (replaces (record { row = row; key = key; life = life }) cause.Descriptor false lives))

-- what a turn of a replacement brings
abbrev pub turn_came : Turn → ℕ → Came
turn_came turn.Going lives = came.Nothing
turn_came turn.Done lives = came.Nothing
turn_came (turn.Met row key life c) lives = came.Above (item.Recover (replaces (record { row = row; key = key; life = life }) c false lives))
turn_came (turn.Given row key i life) lives = came.Stack (job_item (record { row = row; key = key; life = life }) i)
turn_came (turn.LivesSpent key life c) lives = came.Spent key life c

-- The lowest port of a telling, and the ports without it.
abbrev pub first_port : Notify → ℕ
first_port n = 40 * n.word + trailing_zeros w64 n.ports

abbrev pub next_ports : ℕ → ℕ
next_ports ports = bit_and ports (ports - 1)

-- Lines of an item.
abbrev pub compute_lines : Graph → Duty → Phase → List Line → List Line
compute_lines g duty (phase.Ready made) b = of (line.Compute duty.key.0 duty.life false 0 false) ∷ b
compute_lines g duty (phase.Reading input) b = of (line.Compute duty.key.0 duty.life true input false) ∷ b
compute_lines g duty phase.Writing b = of (line.Compute duty.key.0 duty.life true (g.inputs duty.key.0) true) ∷ b

-- an item's lines, above others
abbrev pub item_lines : Graph → Item → List Line → List Line
item_lines g item.Credit b = credit ∷ b
item_lines g (item.Explore x) b = of (line.Explore x.duty.key.0 x.duty.life x.place) ∷ b
item_lines g (item.Compute c) b = compute_lines g c.duty c.phase b
item_lines g (item.Close c) b = of (line.Close c.duty.key.0 c.duty.life c.word) ∷ b
item_lines g (item.Notify n) b = of (line.Notify n.key.0 n.life n.word (ports_from n.word n.ports 0 40)) ∷ b
item_lines g (item.Look k) b = of (line.Suspect k.duty.key.0 k.duty.life k.cause false) ∷ b
item_lines g (item.Owe o) b = owe_lines o b
item_lines g (item.Recover r) b = recover_lines g r b

-- the spare credits while an item is on top
abbrev pub item_credits : Item → ℕ
item_credits (item.Owe o) = owe_credits o
item_credits (item.Recover r) = phase_credits r.phase
item_credits _ = 0

-- nothing is left of the item, and it gives nothing back
abbrev pub is_over : Graph → List Strike → Item → Bool
is_over g strikes (item.Close c) = cond (nat_lt c.word (g.notify_words c.duty.key.0)) false (is_none (strike_left g strikes (item.Close c)))
  where
    is_none : {X : Type 0} → Option X → Bool
    is_none None = true
    is_none (Some x) = false
is_over g strikes (item.Notify n) = eqb n.ports 0
is_over g strikes (item.Recover r) = is_passed r.phase
is_over g strikes _ = false

-- What the next turn of an item rests on.
-- a search that makes the row, and each row that it has passed is known to hold another key
pub record IsClaiming (e : Setting) (v : View) (key : ℕ) (s : Seeking) : Type 0 where
  pub key_is : s.key ≡ key
  pub rows_are : s.rows ≡ e.shape.rows
  pub makes_row : s.makes ≡ true
  pub within : s.passed < s.rows
  pub passed : HasPassed (known_of v) s.key s.rows s.passed

-- how far the predecessor at a place was reached
abbrev pub FitsReaching : Setting → View → ℕ → ℕ → Reaching → Type 0
FitsReaching e v k j reaching.Start = Unit {0}
FitsReaching e v k j (reaching.Seek s) = (j < e.graph.places k) × IsClaiming e v (e.graph.pred k j).task s
FitsReaching e v k j (reaching.Register r) = (j < e.graph.places k) × KnowsKey e v r (e.graph.pred k j).task
FitsReaching e v k j reaching.Spend = (j < e.graph.places k) × KnowsClosed e v (e.graph.pred k j).task (e.graph.pred k j).port

-- a duty of a task or the root, whose row the view knows
pub record FitsDuty (g : TaskGraph) (e : Setting) (v : View) (duty : Duty) : Type 0 where
  pub is_key : IsCoreKey g duty.key.0
  pub known : KnowsKey e v duty.row duty.key.0

pub record FitsExplore (g : TaskGraph) (e : Setting) (v : View) (x : Explore) : Type 0 where
  pub duty : FitsDuty g e v x.duty
  pub place : x.place ≤ e.graph.places x.duty.key.0
  pub reaching : FitsReaching e v x.duty.key.0 x.place x.way
  pub strikes : FitsStrikes e v point.Explored x.duty.key.0 x.duty.life x.made
  pub none_made : x.place < e.graph.places x.duty.key.0 → x.made ≡ 0

-- the strikes at a point of a computing's job, at which so many are made or passed over
abbrev pub FitsPhase : Setting → View → ℕ → ℕ → Phase → Type 0
FitsPhase e v k l (phase.Ready made) = FitsStrikes e v point.Ready k l made
FitsPhase e v k l (phase.Reading input) = input ≤ e.graph.inputs k
FitsPhase e v k l phase.Writing = Unit {0}

pub record FitsCompute (g : TaskGraph) (e : Setting) (v : View) (c : Compute) : Type 0 where
  pub duty : FitsDuty g e v c.duty
  pub in_phase : FitsPhase e v c.duty.key.0 c.duty.life c.phase
  pub computed : FitsStrikes e v point.Computed c.duty.key.0 c.duty.life 0
  pub notified : FitsStrikes e v point.Notified c.duty.key.0 c.duty.life 0

-- a word that was seen open may be closed
abbrev pub FitsSeen : ℕ → Option NotifyWord → Type 0
FitsSeen l None = Unit {0}
FitsSeen l (Some x) = IsOpen l x × (x.ports < 2 ^ 40)

pub record FitsClose (g : TaskGraph) (e : Setting) (v : View) (c : Close) : Type 0 where
  pub duty : FitsDuty g e v c.duty
  pub word : c.word ≤ e.graph.notify_words c.duty.key.0
  pub seen : FitsSeen c.duty.life c.seen
  -- strikes are made before the first word and behind the last
  pub before : c.word ≡ 0 → FitsStrikes e v point.Computed c.duty.key.0 c.duty.life c.made × FitsStrikes e v point.Notified c.duty.key.0 c.duty.life 0
  pub between : 0 < c.word → c.word < e.graph.notify_words c.duty.key.0 → c.made ≡ 0
  pub behind : 0 < c.word → FitsStrikes e v point.Notified c.duty.key.0 c.duty.life c.made

-- how far the successor at the lowest port was reached
abbrev pub FitsTelling : Setting → View → Notify → Telling → Type 0
FitsTelling e v n telling.Start = Unit {0}
FitsTelling e v n (telling.Seek s) = (n.ports ≢ 0) × IsSearch e v (e.graph.succ n.key.0 (first_port n)).task s
FitsTelling e v n (telling.Spend r) = (n.ports ≢ 0) × KnowsKey e v r (e.graph.succ n.key.0 (first_port n)).task

pub record FitsNotify (g : TaskGraph) (e : Setting) (v : View) (n : Notify) : Type 0 where
  pub is_key : IsCoreKey g n.key.0
  pub word : n.word < e.graph.notify_words n.key.0
  pub ports : n.ports < 2 ^ 40
  pub are_ports : (b : ℕ) → b < 40 → bit_at n.ports b ≡ 1 → 40 * n.word + b < e.graph.ports n.key.0
  pub closed : 0 < facts (is_seen_closed n.key.0 n.life n.word) v
  pub telling : FitsTelling e v n n.way

-- how far the writer of the bad block was reached
abbrev pub FitsLooking : Setting → View → ℕ → Looking → Type 0
FitsLooking e v k looking.Start = Unit {0}
FitsLooking e v k (looking.Seek s) = IsSearch e v k s
FitsLooking e v k (looking.Load r) = KnowsKey e v r k

pub record FitsLook (g : TaskGraph) (e : Setting) (v : View) (x : Look) : Type 0 where
  pub duty : FitsDuty g e v x.duty
  pub input : x.input < e.graph.inputs x.duty.key.0
  pub found : Found
  pub cause_is : x.cause ≡ cause.Block (e.graph.block (e.graph.pred x.duty.key.0 x.input).task) (e.graph.version (e.graph.pred x.duty.key.0 x.input).task) found
  pub looking : FitsLooking e v (e.graph.pred x.duty.key.0 x.input).task x.way

-- facts that the view doesn't lose, and which strikes of the item's life it has made
abbrev pub FitsItem : TaskGraph → Setting → View → Item → Type 0
FitsItem g e v item.Credit = Unit {0}
FitsItem g e v (item.Explore x) = FitsExplore g e v x
FitsItem g e v (item.Compute c) = FitsCompute g e v c
FitsItem g e v (item.Close c) = FitsClose g e v c
FitsItem g e v (item.Notify n) = FitsNotify g e v n
FitsItem g e v (item.Look x) = FitsLook g e v x
FitsItem g e v (item.Owe o) = IsTold g e v o.row o.key.0
FitsItem g e v (item.Recover r) = Fits g e v r

-- An item may stand below others where it has no credit, no block and nothing in the scratch.
abbrev pub IsBelow : Item → Type 0
IsBelow item.Credit = Unit {0}
IsBelow (item.Explore x) = x.made ≡ 0
IsBelow (item.Close c) = 0 < c.word
IsBelow (item.Notify n) = Unit {0}
IsBelow (item.Recover r) = phase_credits r.phase ≡ 0
IsBelow _ = ⊥

-- the item is on top, with all that its turn rests on
pub record Stands (g : TaskGraph) (e : Setting) (v : View) (x : Item) : Type 0 where
  pub fits : FitsItem g e v x
  pub top : IsOnTop e v (item_lines e.graph x)
  pub credits : v.spare ≡ item_credits x
  pub sure : IsSure e v

-- what a turn of an exploring left and brought
abbrev pub explored_after : Explore → ℕ → Explored → After
explored_after x lives (explored.On way) = record { left = Some (item.Explore (record x { way = way })); came = came.Nothing }
explored_after x lives (explored.At place) = record { left = Some (item.Explore (record x { place = place; way = reaching.Start })); came = came.Nothing }
explored_after x lives (explored.Struck made) = record { left = Some (item.Explore (record x { made = made })); came = came.Nothing }
explored_after x lives (explored.Made row key) = record { left = Some (item.Explore (record x { way = reaching.Register row })); came = came.Above (item.Owe (record { row = row; key = key; job = job.Explore; life = 1; bought = false })) }
explored_after x lives (explored.Marked writer) = record { left = Some (item.Explore (record x { way = reaching.Register writer.row })); came = came.Above (item.Recover (replaces writer cause.Notify false lives)) }
explored_after x lives (explored.Spent place told) = record { left = Some (item.Explore (record x { place = place; way = reaching.Start })); came = told_came told x.duty.row x.duty.key lives }
explored_after x lives (explored.Ended told) = record { left = None; came = told_came told x.duty.row x.duty.key lives }

-- an item that most of its turns only change
abbrev pub stays_often : Item → Bool
stays_often (item.Explore x) = true
stays_often (item.Compute c) = true
stays_often (item.Notify n) = true
stays_often _ = false

-- what a turn of a computing left and brought
abbrev pub computed_after : Compute → ℕ → Computed → After
computed_after c lives (computed.On p) = record { left = Some (item.Compute (record c { phase = p })); came = came.Nothing }
computed_after c lives (computed.Bad input why) = record { left = Some (item.Look (record { duty = c.duty; cause = why; input = input; way = looking.Start })); came = came.Nothing }
computed_after c lives computed.Written = record { left = Some (item.Close (close_from c.duty 0)); came = came.Nothing }
computed_after c lives computed.Left = record { left = None; came = came.Nothing }
computed_after c lives (computed.Marked life) = record { left = None; came = came.Above (item.Recover (replaces (record { row = c.duty.row; key = c.duty.key; life = life }) cause.Descriptor false lives)) }

-- what a turn of a notification left and brought
abbrev pub notified_after : Notify → ℕ → Notified → After
notified_after n lives (notified.On way) = record { left = Some (item.Notify (record n { way = way })); came = came.Nothing }
notified_after n lives (notified.Spent row key told) = record { left = Some (item.Notify (notify_of n.key n.life n.word (next_ports n.ports))); came = told_came told row key lives }

-- What a turn leaves.
abbrev pub left_lines : Graph → Option Item → List Line → List Line
left_lines g None b = b
left_lines g (Some x) b = item_lines g x b

abbrev pub came_above : Graph → Came → List Line → List Line
came_above g came.Nothing b = b
came_above g (came.Above x) b = item_lines g x b
came_above g (came.Stack x) b = item_lines g x (credit ∷ b)
came_above g (came.Spent k l c) b = b

-- the lines of what came above those of what is left
abbrev pub after_lines : Graph → After → List Line → List Line
after_lines g a b = came_above g a.came (left_lines g a.left b)

abbrev pub left_credits : Option Item → ℕ
left_credits None = 0
left_credits (Some x) = item_credits x

-- the spare credits are those of the topmost item
abbrev pub came_credits : Came → Option Item → ℕ
came_credits (came.Above x) left = item_credits x
came_credits (came.Stack x) left = item_credits x
came_credits _ left = left_credits left

abbrev pub FitsLeft : TaskGraph → Setting → View → Option Item → Type 0
FitsLeft g e v None = Unit {0}
FitsLeft g e v (Some x) = FitsItem g e v x

-- what is left may stand below what came
abbrev pub LiesBelow : Option Item → Type 0
LiesBelow None = Unit {0}
LiesBelow (Some x) = IsBelow x

abbrev pub FitsCame : TaskGraph → Setting → View → Came → Option Item → Type 0
FitsCame g e v (came.Above x) left = FitsItem g e v x × LiesBelow left
FitsCame g e v (came.Stack x) left = FitsItem g e v x × LiesBelow left
FitsCame g e v _ left = Unit {0}

-- a turn of an item with these lines: what it leaves of them, and what the next turns rest on
pub record Goes (g : TaskGraph) (e : Setting) (v w : View) (before : List Line → List Line) (now : After) : Type 0 where
  pub lines : (b : List Line) → HasLines e v (before b) → HasLines e w (after_lines e.graph now b)
  pub left : FitsLeft g e w now.left
  pub came : FitsCame g e w now.came now.left
  pub credits : w.spare ≡ came_credits now.came now.left

-- a turn that ends the run tells the life of the replacement
abbrev pub SpentTells : Came → Recover → Type 0
SpentTells (came.Spent k l c) r = (k ≡ r.key) × (l ≡ r.life) × (c ≡ r.cause)
SpentTells _ r = Unit {0}

abbrev pub is_spent : Came → Bool
is_spent (came.Spent k l c) = true
is_spent _ = false

-- a replacement alone ends the run, and tells its life
abbrev pub ItemSpends : Setting → Item → Came → Type 0
ItemSpends e (item.Recover r) now = SpentTells now r
ItemSpends e _ now = is_spent now ≡ false
