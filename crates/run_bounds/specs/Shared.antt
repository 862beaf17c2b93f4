-- A run of several workers, as its charges see it: what each worker is to them, what has been paid for their moves, and which turn of a worker is in vain.
use Rattle.std.specs.Prelude.{◌≡◌, ◌≢◌, ◌⊎◌, ℕ, ◌+◌, ◌*◌, ◌<◌, ◌≤◌, Bool, true, false, List, [], ◌∷◌, ◌++◌, length, slice_get, None, Some}
use Rattle.std.specs.List.{sum_by}
use Rattle.graph_model.specs.declared.plan.Strike.{Strike}
use Rattle.graph_model.specs.declared.record.Cause.{Cause}
use Rattle.graph_model.specs.declared.record.Cause.TheVariants as cause
use Rattle.core_state.specs.Change.{Core}
use Rattle.core_state.specs.Counts.{begun, count, ended, held, items, noted}
use Rattle.core_state.specs.Graph.{Setting, Sound}
use Rattle.core_state.specs.Invariant.{Invariant}
use Rattle.core_state.specs.Lines.{Line, flat, of}
use Rattle.core_state.specs.Packed.{notify_word}
use Rattle.core_state.specs.Rows.{HasKey}
use Rattle.core_state.specs.Tests.{is_any_replaced, is_any_struck, is_any_suspect}
use Rattle.core_state.specs.Words.{mark_of, notify, posted, recovery, replacing, standing_life, turn}
use Rattle.core_state.specs.declared.job.Job.{Job}
use Rattle.core_state.specs.declared.job.Job.TheVariants as job
use Rattle.core_state.specs.declared.views.Item.TheVariants as line
use Rattle.core_state.specs.declared.views.View.{View}
use Rattle.core_state.specs.declared.words.NotifyWord.{NotifyWord}
use Rattle.compute_notify.specs.Striking.{strike_left}
use Rattle.compute_notify.specs.Tasks.{task_items}
use Rattle.compute_notify.specs.declared.close.Close.{Close}
use Rattle.compute_notify.specs.declared.item.Item.{Item}
use Rattle.compute_notify.specs.declared.item.Item.TheVariants as item
use Rattle.compute_notify.specs.declared.task.Task.{Task}
use Rattle.run_bounds.specs.Hinting.{HasHints}
use Rattle.run_bounds.specs.Doing.{Doing, asked_hints, asking_rest, fresh_hints}
use Rattle.run_bounds.specs.Doing.Doing.{asks, idle, works}
use Rattle.run_bounds.specs.Light.{task_light}
use Rattle.run_bounds.specs.Moving.{IsDue, IsListed}
use Rattle.run_bounds.specs.Storm.{Lived, is_lived, job_cost, job_kind}
use Rattle.run_bounds.specs.Struck.{IsRenewed, by_mark}

-- one of several views between any two steps
pub record IsPart (e : Setting) (s : Core) (v : View) : Type 0 where
  pub sound : Sound e
  pub holds : Invariant e s
  pub within : (f : View → ℕ) → f v ≤ s.total f

-- a worker: its view, what it does next, and its hints
pub record Actor : Type 0 where
  pub view : View
  pub doing : Doing
  pub hints : List ℕ

-- neither a renewal nor a suspect for a mark
abbrev pub is_plain : Line → Bool
is_plain (of (line.Renew k l d)) = false
is_plain (of (line.Suspect k l cause.Descriptor waits)) = false
is_plain (of (line.Suspect k l cause.Notify waits)) = false
is_plain _ = true

-- such a line stands first
pub record IsPlain (v : View) : Type 0 where
  pub first : Line
  pub below : List Line
  pub top : flat v.stacks ≡ first ∷ below
  pub plain : is_plain first ≡ true

abbrev pub ArePlain : List Line → Type 0
ArePlain [] = Unit {0}
ArePlain (y ∷ b) = (is_plain y ≡ true) × ArePlain b

-- behind the first line are neither renewals nor suspects for a mark
abbrev pub BehindPlain : List Line → Type 0
BehindPlain [] = Unit {0}
BehindPlain (y ∷ b) = ArePlain b

abbrev pub IsTopped : View → Type 0
IsTopped v = BehindPlain (flat v.stacks)

-- how much is left of what a worker does, where a suspect of a mark weighs nothing, and of its hints: each is worth three
abbrev pub doing_light : Setting → List Strike → Doing → ℕ
doing_light e p idle = 0
doing_light e p (asks row key i) = asking_rest i
doing_light e p (works task) = task_light e p task

abbrev pub actor_left : Setting → List Strike → Actor → ℕ
actor_left e p a = doing_light e p a.doing + 3 * length a.hints

abbrev pub fresh_of : ℕ → Actor → ℕ
fresh_of r a = fresh_hints r a.doing a.hints

abbrev pub asked_of : ℕ → Actor → ℕ
asked_of r a = asked_hints r a.doing

abbrev pub hints_of : Actor → ℕ
hints_of a = length a.hints

-- how often a strike was made or missed by a view
abbrev pub strikes_of : View → ℕ
strikes_of v = length v.strikes

-- So many moves were made: each is paid by a job that began, by a life that was replaced, a bad block that was read or a strike that was made. No life of a task costs more to be replaced than `most`.
pub record Shares (e : Setting) (p : List Strike) (most : ℕ) (s : Core) (crew : List Actor) (moves : ℕ) : Type 0 where
  pub sound : Sound e
  pub holds : Invariant e s
  pub all : (f : View → ℕ) → s.total f ≡ sum_by (λ a. f a.view) crew
  pub jobs : List Lived
  pub bads : List Lived
  pub paid : moves + sum_by (actor_left e p) crew ≤ sum_by (job_cost e p) jobs + most * (s.total (noted is_any_replaced) + length bads + 2 * s.total strikes_of)
  pub jobs_once : (a k l : ℕ) → count (is_lived a k l) jobs ≤ 1
  pub jobs_begun : (a k l : ℕ) → 0 < count (is_lived a k l) jobs → (i : Job) × (a ≡ job_kind i) × (0 < s.total (held i k l) + s.total (ended i k l))
  pub bads_once : (a k l : ℕ) → count (is_lived a k l) bads ≤ 1
  pub bad : (a k l : ℕ) → 0 < count (is_lived a k l) bads → (a ≡ 0) × (0 < s.total (ended job.Compute k l))
  -- a bad block comes of a strike that landed
  pub faulted : 0 < length bads → 0 < s.total (noted is_any_struck)
  pub topped : (i : ℕ) (a : Actor) → slice_get crew i ≡ Some a → IsTopped a.view
  -- no hint is lost
  pub hinted : (r : ℕ) → r < e.shape.rows → HasHints (sum_by (fresh_of r) crew) (sum_by (asked_of r) crew) (s.word (posted job.Explore r)) (s.word (posted job.Compute r))

-- no life is being replaced, and no block is in a hand
pub record IsQuiet (e : Setting) (s : Core) : Type 0 where
  pub none_replaced : (r : ℕ) → r < e.shape.rows → replacing (s.word (recovery r)) ≡ 0
  pub none_taken : (b : ℕ) → b < e.shape.blocks → s.word (turn b) ≡ 0

-- a suspect for a mark stands first, of this life of the key of a row
pub record IsMarked (e : Setting) (s : Core) (v : View) (row life : ℕ) : Type 0 where
  pub key : ℕ
  pub has_key : HasKey e s row key
  pub cause : Cause
  pub waits : Bool
  pub below : List Line
  pub marked : by_mark cause ≡ true
  pub top : flat v.stacks ≡ of (line.Suspect key life cause waits) ∷ below

-- its life stands, so that its election is won
pub record IsWinner (e : Setting) (s : Core) (v : View) : Type 0 where
  pub row : ℕ
  pub life : ℕ
  pub suspect : IsMarked e s v row life
  pub stands : standing_life (s.word (recovery row)) ≡ life

-- or was replaced
pub record IsLoser (e : Setting) (s : Core) (v : View) : Type 0 where
  pub row : ℕ
  pub life : ℕ
  pub suspect : IsMarked e s v row life
  pub replaced : standing_life (s.word (recovery row)) ≢ life

-- a word is closed next that was seen as it stands, without a mark
pub record StandsSeen (e : Setting) (p : List Strike) (s : Core) (doing : Doing) : Type 0 where
  pub task : Task
  pub doing_is : doing ≡ works task
  pub left : List Item
  pub close : Close
  pub items_are : task_items task ≡ left ++ item.Close close ∷ []
  pub inside : close.word < e.graph.notify_words close.duty.key.0
  pub seen : NotifyWord
  pub seen_is : close.seen ≡ Some seen
  pub no_strike : strike_left e.graph p (item.Close close) ≡ None
  pub stands : s.word (notify close.duty.row close.word) ≡ notify_word seen
  pub unmarked : mark_of (notify_word seen) ≡ 0

-- a step that leaves recovery words, turn words and words without a mark
pub record KeepsWords (e : Setting) (s t : Core) : Type 0 where
  pub recovery_stays : (r : ℕ) → t.word (recovery r) ≡ s.word (recovery r)
  pub turns_stay : (b : ℕ) → t.word (turn b) ≡ s.word (turn b)
  pub unmarked_stays : (r w : ℕ) → mark_of (s.word (notify r w)) ≡ 0 → t.word (notify r w) ≡ s.word (notify r w)
  pub keys_on : (r k : ℕ) → HasKey e s r k → HasKey e t r k

-- A turn of a task in vain: it met the step of another worker. Where no life is being replaced and no block is taken it comes at most twice before a move, since then a mark was seen whose life stands, a word was seen as it stands, or a suspect was dropped whose life was replaced.
pub record Stall (e : Setting) (p : List Strike) (s t : Core) (a b : Actor) : Type 0 where
  pub before : Task
  pub worked_on : a.doing ≡ works before
  pub task : Task
  pub works_on : b.doing ≡ works task
  pub same_hints : length b.hints ≡ length a.hints
  pub free : a.view.hands ≡ []
  pub none_renewed : (k : ℕ) → IsRenewed a.view k → ⊥
  pub not_seen : StandsSeen e p s a.doing → ⊥
  pub words : KeepsWords e s t
  pub next : IsQuiet e s → (IsPlain a.view × (IsWinner e t b.view ⊎ StandsSeen e p t b.doing)) ⊎ (IsLoser e s a.view × IsPlain b.view)

-- what a move is charged
pub data Charge (e : Setting) (p : List Strike) (most : ℕ) (s t : Core) (v w : View) : ℕ → Type 0 where
  nothing : Charge e p most s t v w 0
  -- a job began
  begins : (i : Job) (k l : ℕ) → s.total (held i k l) + s.total (ended i k l) ≡ 0 → 0 < begun i k l w → Charge e p most s t v w (job_cost e p (record { kind = job_kind i; key = k; life = l }))
  -- an election was won
  replaces : noted is_any_replaced v + 1 ≤ noted is_any_replaced w → Charge e p most s t v w most
  -- a bad block was read
  reads : (k l : ℕ) → s.total (ended job.Compute k l) ≡ 0 → 0 < ended job.Compute k l w → 0 < items is_any_suspect w → Charge e p most s t v w most
  -- a strike was made or missed
  misses : strikes_of v + 1 ≤ strikes_of w → Charge e p most s t v w (2 * most)

-- what a turn pays: a move lets fall what is left, but for its charge; and a turn in vain doesn't let it rise
pub data Pays (e : Setting) (p : List Strike) (most : ℕ) (s t : Core) (a b : Actor) : Type 0 where
  moves : (cost : ℕ) → Charge e p most s t a.view b.view cost → actor_left e p b + 1 ≤ actor_left e p a + cost → Pays e p most s t a b
  stalls : actor_left e p b ≤ actor_left e p a → Stall e p s t a b → Pays e p most s t a b

-- what each step leaves of a view
pub record Grows (v w : View) : Type 0 where
  pub begun_on : (i : Job) (k l : ℕ) → begun i k l v ≤ begun i k l w
  pub ended_on : (k l : ℕ) → ended job.Compute k l v ≤ ended job.Compute k l w
  pub replaced_on : noted is_any_replaced v ≤ noted is_any_replaced w
  pub struck_on : noted is_any_struck v ≤ noted is_any_struck w
  pub strikes_on : strikes_of v ≤ strikes_of w

-- The turn of a worker, of which other workers hold the other hints.
pub record ActorTurn (e : Setting) (p : List Strike) (most : ℕ) (s t : Core) (a b : Actor) : Type 0 where
  pub grows : Grows a.view b.view
  pub topped : IsTopped b.view
  pub hinted : (r fresh asked : ℕ) → r < e.shape.rows → HasHints (fresh + fresh_of r a) (asked + asked_of r a) (s.word (posted job.Explore r)) (s.word (posted job.Compute r)) → HasHints (fresh + fresh_of r b) (asked + asked_of r b) (t.word (posted job.Explore r)) (t.word (posted job.Compute r))
  pub pays : Pays e p most s t a b

-- a worker without a task holds nothing, and one with a task has a line
abbrev pub IsHeld : Actor → Type 0
IsHeld a = ((task : Task) × (a.doing ≡ works task) × (y : Line) × (b : List Line) × (flat a.view.stacks ≡ y ∷ b)) ⊎ (((task : Task) → a.doing ≡ works task → ⊥) × (a.view.stacks ≡ []) × (a.view.spare ≡ 0) × (a.view.hands ≡ []))

abbrev pub AreHeld : List Actor → Type 0
AreHeld crew = (i : ℕ) (a : Actor) → slice_get crew i ≡ Some a → IsHeld a

-- whoever the schedule doesn't name is as it began
abbrev pub AreNamed : List ℕ → List Actor → Type 0
AreNamed schedule crew = (i : ℕ) (a : Actor) → slice_get crew i ≡ Some a → IsListed schedule i ⊎ ((a.doing ≡ idle) × (a.hints ≡ []))

-- so many of its turns a worker with a task makes in vain before it moves
pub data Vain (e : Setting) (p : List Strike) (s : Core) (a : Actor) : ℕ → Type 0 where
  renews : (k : ℕ) → IsRenewed a.view k → Vain e p s a 0
  holds : a.view.hands ≢ [] → Vain e p s a 0
  wins : IsQuiet e s → IsWinner e s a.view → Vain e p s a 0
  seen : IsQuiet e s → StandsSeen e p s a.doing → Vain e p s a 0
  plain : IsQuiet e s → IsPlain a.view → Vain e p s a 1
  loses : IsQuiet e s → IsLoser e s a.view → Vain e p s a 2

-- so many does any worker, where all workers together have so many hints
pub data Moves (e : Setting) (p : List Strike) (s : Core) (hints : ℕ) (a : Actor) : ℕ → Type 0 where
  works_on : (task : Task) (vain : ℕ) → a.doing ≡ works task → Vain e p s a vain → Moves e p s hints a vain
  serves : (row key : ℕ) (i : Job) → a.doing ≡ asks row key i → Moves e p s hints a 0
  looks : a.doing ≡ idle → 0 < hints → Moves e p s hints a 0

-- Some worker moves soon, whatever the others do. Alone and without a strike it moves in every other turn.
pub record IsPaced (e : Setting) (p : List Strike) (schedule : List ℕ) (s : Core) (crew : List Actor) (turns moves : ℕ) : Type 0 where
  pub worker : ℕ
  pub actor : Actor
  pub at : slice_get crew worker ≡ Some actor
  pub vain : ℕ
  pub few : vain ≤ 2
  pub mover : Moves e p s (sum_by hints_of crew) actor vain
  pub due : IsDue schedule turns moves worker vain
  pub calm : length crew ≡ 1 → s.total (noted is_any_struck) ≡ 0 → turns + vain ≤ 2 * moves + 1

-- so many turns were made, all moves are paid, and some worker moves soon
pub record IsOn (e : Setting) (p : List Strike) (most : ℕ) (schedule : List ℕ) (s : Core) (crew : List Actor) (turns : ℕ) : Type 0 where
  pub moves : ℕ
  pub shares : Shares e p most s crew moves
  pub named : AreNamed schedule crew
  pub paced : IsPaced e p schedule s crew turns moves
