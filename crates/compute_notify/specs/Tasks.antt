-- A whole task: its items as the lines of the view's stacks, what its next turn rests on, and what a turn tells.
use Rattle.std.specs.Prelude.{◌≡◌, ◌≢◌, ◌⊎◌, ℕ, ◌+◌, ◌*◌, ◌<◌, ◌≤◌, ◌==◌, ◌&&◌, filter, Bool, true, false, cond, eqb, List, [], ◌∷◌, ◌++◌, Option, Some, None, length, vec_capacity}
use Rattle.graph_model.specs.Graph.{Graph as TaskGraph}
use Rattle.graph_model.specs.Notes.{Note, noted as told_note}
use Rattle.graph_model.specs.declared.key.Key.{Key}
use Rattle.graph_model.specs.declared.plan.Strike.{Strike}
use Rattle.core_state.specs.Asked.{IsCoreKey}
use Rattle.core_state.specs.Counts.{items, noted}
use Rattle.core_state.specs.Tests.{is_suspect_for, is_computed}
use Rattle.core_state.specs.Graph.{Graph, Setting, greatest_life}
use Rattle.core_state.specs.Lines.{Line, HasLines}
use Rattle.core_state.specs.Rooted.{root_key}
use Rattle.core_state.specs.Sure.{IsSure}
use Rattle.core_state.specs.declared.block.BlockCells.{BlockCells}
use Rattle.core_state.specs.declared.views.View.{View}
use Rattle.recovery.specs.declared.turn.Turn.{Turn}
use Rattle.recovery.specs.declared.turn.Turn.TheVariants as turn
use Rattle.compute_notify.specs.Items.{FitsItem, Goes, IsBelow, ItemSpends, item_credits, item_lines, is_over}
use Rattle.compute_notify.specs.Resting.{item_rest}
use Rattle.compute_notify.specs.Rooms.{AfterScratch, FitsScratch, HasRoom}
use Rattle.compute_notify.specs.Running.{Runs}
use Rattle.compute_notify.specs.Working.{AfterHand, FitsTop}
use Rattle.compute_notify.specs.declared.item.After.{After}
use Rattle.compute_notify.specs.declared.item.Came.{Came}
use Rattle.compute_notify.specs.declared.item.Came.TheVariants as came
use Rattle.compute_notify.specs.declared.item.Item.{Item}
use Rattle.compute_notify.specs.declared.item.Item.TheVariants as item
use Rattle.compute_notify.specs.declared.scratch.Scratch.{Scratch}
use Rattle.compute_notify.specs.declared.task.Task.{Task}

-- one thing, or nothing, as a list
abbrev pub some_list : {X : Type 0} → Option X → List X
some_list None = []
some_list (Some x) = x ∷ []

abbrev pub some_count : {X : Type 0} → Option X → ℕ
some_count None = 0
some_count (Some x) = 1

-- what came, as items that stand behind what is left
abbrev pub came_items : Came → List Item
came_items came.Nothing = []
came_items (came.Above x) = x ∷ []
came_items (came.Stack x) = item.Credit ∷ x ∷ []
came_items (came.Spent k l c) = []

abbrev pub after_items : After → List Item
after_items a = some_list a.left ++ came_items a.came

-- the items of a job that has not begun: its credit, and the item with which it begins
abbrev pub begun_items : Option Item → List Item → List Item
begun_items None xs = xs
begun_items (Some x) xs = item.Credit ∷ x ∷ []

-- a task's items, the topmost last
abbrev pub task_items : Task → List Item
task_items t = begun_items t.begins t.items.items

-- the items as lines above others; the last item's come first
abbrev pub stacked : Graph → List Item → List Line → List Line
stacked g [] b = b
stacked g (x ∷ xs) b = stacked g xs (item_lines g x b)

-- each item's facts hold
abbrev pub FitsAll : TaskGraph → Setting → View → List Item → Type 0
FitsAll g e v [] = Unit {0}
FitsAll g e v (x ∷ xs) = FitsItem g e v x × FitsAll g e v xs

-- all but the last may stand below others
abbrev pub AllBelow : List Item → Type 0
AllBelow [] = Unit {0}
AllBelow (x ∷ []) = Unit {0}
AllBelow (x ∷ y ∷ ys) = IsBelow x × AllBelow (y ∷ ys)

-- the first item is the credit of a stack
abbrev pub FromCredit : List Item → Type 0
FromCredit [] = Unit {0}
FromCredit (x ∷ xs) = x ≡ item.Credit

-- the last of these items
abbrev pub last_of : List Item → Option Item
last_of [] = None
last_of (x ∷ []) = Some x
last_of (x ∷ y ∷ ys) = last_of (y ∷ ys)

abbrev pub some_credits : Option Item → ℕ
some_credits None = 0
some_credits (Some x) = item_credits x

-- the block in hand is that of the last item
abbrev pub SomeTop : Setting → View → Option BlockCells → Option Item → Type 0
SomeTop e v h None = (v.hands ≡ []) × (h ≡ None)
SomeTop e v h (Some x) = FitsTop e v h x

-- the job has begun, or nothing else is there
abbrev pub Unbegun : Option Item → List Item → Type 0
Unbegun None xs = Unit {0}
Unbegun (Some x) xs = xs ≡ []

-- the view's lines are those of the task's items, and all that the next turn rests on holds
pub record Holds (g : TaskGraph) (e : Setting) (v : View) (t : Task) : Type 0 where
  pub lines : HasLines e v (stacked e.graph (task_items t) [])
  pub fits : FitsAll g e v (task_items t)
  pub below : AllBelow (task_items t)
  pub bottom : FromCredit (task_items t)
  pub credits : v.spare ≡ some_credits (last_of (task_items t))
  pub top : SomeTop e v t.hand (last_of (task_items t))
  pub begun : Unbegun t.begins t.items.items
  pub sure : IsSure e v

abbrev pub SomeScratch : Setting → TaskGraph → Scratch → Option Item → Type 0
SomeScratch e g s None = HasRoom g s
SomeScratch e g s (Some x) = FitsScratch e g s x

-- the scratch stands as the task's turn before left it
abbrev pub TaskScratch : Setting → TaskGraph → Scratch → Task → Type 0
TaskScratch e g s t = SomeScratch e g s (last_of (task_items t))

-- a task that has only its first item
pub record IsNew (t : Task) (x : Item) : Type 0 where
  pub begins_with : t.begins ≡ Some x
  pub no_items : t.items.items ≡ []
  pub no_block : t.hand ≡ None

-- room for four more items than there are
pub record HasSpace (t : Task) : Type 0 where
  pub space : length t.items.items + 4 ≤ vec_capacity t.items
  pub begun : Unbegun t.begins t.items.items

-- only the room has changed
pub record SameTask (before now : Task) : Type 0 where
  pub same_begins : now.begins ≡ before.begins
  pub same_items : now.items.items ≡ before.items.items
  pub same_hand : now.hand ≡ before.hand

-- what is asked to tell whether an item is over
abbrev pub MayBeOver : TaskGraph → Item → Type 0
MayBeOver g (item.Close c) = IsCoreKey g c.duty.key.0 × (c.made ≤ 4096)
MayBeOver g _ = Unit {0}

abbrev pub AllMayBeOver : TaskGraph → List Item → Type 0
AllMayBeOver g [] = Unit {0}
AllMayBeOver g (x ∷ xs) = MayBeOver g x × AllMayBeOver g xs

-- these items are over
abbrev pub AllOver : Graph → List Strike → List Item → Type 0
AllOver g p [] = Unit {0}
AllOver g p (x ∷ xs) = (is_over g p x ≡ true) × AllOver g p xs

-- the items, less the last one that is not over and those behind it
abbrev pub IsNext : Graph → List Strike → List Item → List Item → Option Item → Type 0
IsNext g p xs left None = AllOver g p xs × (left ≡ [])
IsNext g p xs left (Some x) = (gone : List Item) × (xs ≡ left ++ x ∷ gone) × (is_over g p x ≡ false) × AllOver g p gone

-- the last of these items; of none, a credit
abbrev pub last_item : List Item → Item
last_item [] = item.Credit
last_item (x ∷ []) = x
last_item (x ∷ y ∷ ys) = last_item (y ∷ ys)

-- all but the last
abbrev pub but_last : List Item → List Item
but_last [] = []
but_last (x ∷ []) = []
but_last (x ∷ y ∷ ys) = x ∷ but_last (y ∷ ys)

-- the items, less those at the end that are over, if one is left
abbrev pub FindsNext : Graph → List Strike → List Item → List Item → Bool → Type 0
FindsNext g p xs now true = (now ≢ []) × IsNext g p xs (but_last now) (Some (last_item now))
FindsNext g p xs now false = IsNext g p xs now None

-- how much of the items is left; the block in hand is that of the last
abbrev pub items_rest : Setting → List Strike → Option BlockCells → List Item → ℕ
items_rest e p h [] = 0
items_rest e p h (x ∷ []) = item_rest e p h x
items_rest e p h (x ∷ y ∷ ys) = item_rest e p None x + items_rest e p h (y ∷ ys)

abbrev pub task_rest : Setting → List Strike → Task → ℕ
task_rest e p t = items_rest e p t.hand (task_items t)

-- the strikes of a plan for a life of a task
abbrev pub of_life : Key → ℕ → Strike → Bool
of_life key l s = (s.key.0 == key.0) && (s.life == l)

abbrev pub life_strikes : Key → ℕ → List Strike → List Strike
life_strikes key l p = filter (of_life key l) p

-- a bound on what is left of a job that begins: by the rows of the table, the places and the ports of its task, and the strikes for its life
abbrev pub few_left : Setting → List Strike → Key → ℕ → ℕ
few_left e p key l = 24 * e.shape.rows * (e.graph.places key.0 + e.graph.ports key.0 + 2) + 4 * length (life_strikes key l p)

-- so little is left of the task of this life of a key, wherever it is turned
abbrev pub HasFewLeft : Task → Key → ℕ → Type 0
HasFewLeft t key l = (g : TaskGraph) (strikes : List Strike) (lives : ℕ) (e : Setting) → Runs g strikes lives e → IsCoreKey g key.0 → task_rest e strikes t ≤ few_left e strikes key l

-- What a turn of a task tells: something is left, or the view has neither a stack nor a spare credit; or a suspect of the view is of the greatest life that its task may have.
abbrev pub TaskTells : Setting → View → Task → Turn → Type 0
TaskTells e v t turn.Going = task_items t ≢ []
TaskTells e v t turn.Done = (task_items t ≡ []) × (v.stacks ≡ []) × (v.spare ≡ 0)
TaskTells e v t (turn.LivesSpent k l c) = (l ≡ greatest_life e k.0) × (0 < items (is_suspect_for k.0 l c) v)
TaskTells e v t (turn.Met row k l c) = ⊥
TaskTells e v t (turn.Given row k i l) = ⊥

-- the run ends with the turn
abbrev pub ends_run : Turn → Bool
ends_run (turn.LivesSpent k l c) = true
ends_run _ = false

-- The kernel was not called and no result of a task was noted, or it was called for one result, which was noted. The root's result is its input, for which the kernel is not called.
pub data NewCalls (calls now : Option (List Note)) (v w : View) : Type 0 where
  none_new : now ≡ calls → ((k l : ℕ) → k ≢ root_key → noted (is_computed k l) w ≡ noted (is_computed k l) v) → NewCalls calls now v w
  one_new : (k l : ℕ) → k ≢ root_key → now ≡ told_note calls (k, l) → noted (is_computed k l) w ≡ noted (is_computed k l) v + 1 → ((i m : ℕ) → (i ≢ k) ⊎ (m ≢ l) → noted (is_computed i m) w ≡ noted (is_computed i m) v) → NewCalls calls now v w

-- what a turn tells of what the item brought, by how many items are there then
abbrev pub task_turn : Came → ℕ → Turn
task_turn (came.Spent k l c) left = turn.LivesSpent k l c
task_turn came.Nothing left = cond (eqb left 0) turn.Done turn.Going
task_turn (came.Above x) left = cond (eqb left 0) turn.Done turn.Going
task_turn (came.Stack x) left = cond (eqb left 0) turn.Done turn.Going

-- The turn of an item that was taken from others, which stay: what it leaves of the item stands on them, and all that the next turns rest on.
pub record HasTurned (g : TaskGraph) (e : Setting) (v w : View) (x : Item) (others : List Item) (now : Task) (s : Scratch) (told : Turn) : Type 0 where
  pub after : After
  pub goes : Goes g e v w (item_lines e.graph x) after
  pub items_are : now.items.items ≡ others ++ after_items after
  pub not_begun : now.begins ≡ None
  pub top : AfterHand e w now.hand after
  pub scratch : AfterScratch e g s after
  pub told_is : told ≡ task_turn after.came (length now.items.items)
  pub spends : ItemSpends e x after.came
