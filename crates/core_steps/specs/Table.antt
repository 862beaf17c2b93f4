-- The plain table as clauses see it, and what holds of it at all times.
use Rattle.std.specs.Prelude.{◌≡◌, ℕ, ℤ, ◌+◌, ◌-◌, ◌*◌, ◌%◌, ◌<◌, ◌≤◌, ◌^◌, min, ◌++◌, ◌&&◌, Bool, true, false, cond, eqb, List, [], ◌∷◌, Option, Some, None, length, replicate, slice_index, slice_index_or, slice_set}
use Rattle.core_state.specs.Graph.{Setting, Sound}
use Rattle.core_state.specs.Words.{Shape, Spot, width, place_of, inside, key, turn}
use Rattle.core_state.specs.Counts.{count, in_hand, noted, total_of}
use Rattle.core_state.specs.Tests.{key_named}
use Rattle.core_state.specs.Change.{Core, core_of, block_of}
use Rattle.core_state.specs.Effects.{after_computed}
use Rattle.core_state.specs.Cover.{Passed}
use Rattle.core_state.specs.Invariant.{Invariant}
use Rattle.core_state.specs.Prevented.{Prevented}
use Rattle.core_state.specs.Views.{bare, blank, opener, all_parts}
use Rattle.core_state.specs.Events.{after, at, left, Can, Event, Event as event}
use Rattle.core_state.specs.declared.block.BlockCells.{BlockCells}
use Rattle.core_state.specs.declared.layout.Layout.{Layout}
use Rattle.core_state.specs.declared.views.View.{View}
use Rattle.graph_model.specs.declared.record.Record.{Record}
use Rattle.graph_model.specs.declared.record.Record.TheVariants as record_of
use Rattle.core_steps.specs.Kinds.{event_of, block_event}
use Rattle.core_steps.specs.Seat.{Trace, IsStep, cells_in}
use Rattle.core_steps.specs.declared.kinds.BlockKind.{BlockKind}
use Rattle.core_steps.specs.declared.kinds.Kind.{Kind}
use Rattle.core_steps.specs.declared.kinds.Touched.{Touched}

-- records that are kept, and for how many more there is room
pub record Stored : Type 0 where
  pub records : List Record
  pub room : ℕ

-- the words, what the workers know and hold, the blocks at home, and the records that are kept
pub record Plain : Type 0 where
  pub words : List ℕ
  pub views : List View
  pub blocks : List (Option BlockCells)
  pub stores : List Stored
  pub root_replaced : List Record
  pub shape : Shape
  -- for how many cells there is room, once more than in the blocks
  pub root_room : ℕ
  -- for how many more of the root's replacements there is room
  pub replaced_room : ℕ

-- the view of a worker
abbrev pub view_in : List View → ℕ → View
view_in vs i = slice_index_or vs i blank

-- the view of a worker of a table
abbrev pub view_at : Plain → ℕ → View
view_at p i = view_in p.views i

-- the block b as it lies at home, or one that was never written
abbrev pub home_at : List (Option BlockCells) → ℕ → BlockCells
home_at bs b = cells_in (slice_index_or bs b None)

-- words, blocks and views as the parts of the invariant see them
abbrev pub core_by : Shape → List ℕ → List (Option BlockCells) → List View → Core
core_by h ws bs vs = core_of {S = BlockCells} h (λ _. home_at bs) (record { words = ws; homes = []; views = vs })

-- how many records of all stores pass a test
abbrev pub stored : (Record → Bool) → List Stored → ℕ
stored p [] = 0
stored p (x ∷ xs) = count p x.records + stored p xs

-- a Replaced
abbrev pub is_replacing : Record → Bool
is_replacing (record_of.Replaced k life cause) = true
is_replacing _ = false

-- a record of another key than the root
abbrev pub is_kept : ℕ → Record → Bool
is_kept root x = cond (eqb root (key_named x)) false true

-- a Replaced of the root
abbrev pub is_root_replaced : ℕ → Record → Bool
is_root_replaced root x = eqb root (key_named x) && is_replacing x

-- The records that are kept are those of all views, but of the root's only Replaced, in a list of their own.
pub record Keeps (root : ℕ) (vs : List View) (stores : List Stored) (root_replaced : List Record) : Type 0 where
  pub others : (p : Record → Bool) → stored p stores ≡ total_of vs (noted (λ x. p x && is_kept root x))
  pub replaced : (p : Record → Bool) → count p root_replaced ≡ total_of vs (noted (λ x. p x && is_root_replaced root x))

-- Where each block of the table is, and how many cells it has.
pub record IsHoused (e : Setting) (h : Shape) (bs : List (Option BlockCells)) (vs : List View) : Type 0 where
  pub many : length bs ≡ h.blocks
  -- a block that is not at home is in a hand
  pub away : (b : ℕ) → b < h.blocks → slice_index_or bs b None ≡ None → 0 < total_of vs (in_hand b)
  -- a block in a hand is one of the table
  pub within : (b : ℕ) → 0 < total_of vs (in_hand b) → b < h.blocks
  -- a block has as many cells as the graph says, at home or in a hand
  pub sized : (b : ℕ) → b < h.blocks → length (block_of (home_at bs) vs b).cells ≡ e.graph.cells b

-- how many words a table has
abbrev pub word_count : Shape → ℕ
word_count h = 2 + h.rows * width h + h.blocks

-- what holds of a table at all times
pub record IsSound (e : Setting) (p : Plain) : Type 0 where
  pub setting : Sound e
  pub shape_is : p.shape ≡ e.shape
  pub root_is : e.graph.root ≡ 2 ^ 63
  pub fits : length p.words ≡ word_count p.shape
  pub holds : Invariant e (core_by p.shape p.words p.blocks p.views)
  -- the strikes of each passed point were made, and before it was passed
  pub passed : Passed e (core_by p.shape p.words p.blocks p.views)
  pub prevented : Prevented e (core_by p.shape p.words p.blocks p.views)
  pub keeps : Keeps e.graph.root p.views p.stores p.root_replaced
  pub workers : length p.stores ≡ length p.views
  -- a block that is at home is in no hand
  pub at_home : (b : ℕ) (x : BlockCells) → slice_index_or p.blocks b None ≡ Some x → total_of p.views (in_hand b) ≡ 0
  pub housed : IsHoused e p.shape p.blocks p.views
  -- the last block is the root's, and there is room for its cells
  pub root_last : e.graph.block e.graph.root + 1 ≡ p.shape.blocks
  pub room_is : p.root_room ≡ e.graph.cells (e.graph.block e.graph.root)

-- the table after the step of a worker that found the number n at a place, left the number m there and recorded nothing
abbrev pub stepped_by : Setting → Plain → ℕ → Kind → ℕ → ℕ → ℕ → Plain
stepped_by e p i k place n m = record p { words = slice_set p.words place m; views = slice_set p.views i (after e (event_of (view_at p i) k) n (view_at p i)) }

-- the table after a worker took the block b, which was at home
abbrev pub taken_by : Setting → Plain → ℕ → ℕ → Plain
taken_by e p i b = record p { words = slice_set p.words (place_of p.shape (turn b)) 1; views = slice_set p.views i (after e (event.take_turn b (home_at p.blocks b)) 0 (view_at p i)); blocks = slice_set p.blocks b None }

-- the table after a worker gave the block b back, which holds x now
abbrev pub given_by : Setting → Plain → ℕ → BlockKind → ℕ → BlockCells → Plain
given_by e p i k b x = let n = slice_index p.words (place_of p.shape (turn b)) in record p { words = slice_set p.words (place_of p.shape (turn b)) 0; views = slice_set p.views i (after e (block_event (view_at p i) k b x) n (view_at p i)); blocks = slice_set p.blocks b (Some x) }

-- the table in which a worker has made the result of life l of k, by which no word changes
abbrev pub computed_by : Plain → ℕ → ℕ → ℕ → Plain
computed_by p i k l = record p { views = slice_set p.views i (after_computed k l (view_at p i)) }

-- one record more, in the room that there was
abbrev pub with_record : Stored → Record → Stored
with_record s x = record { records = s.records ++ x ∷ []; room = s.room - 1 }

-- a store without room
abbrev pub no_store : Stored
no_store = record { records = []; room = 0 }

-- the records that there are, in place of one that may be
abbrev pub as_list : Option Record → List Record
as_list None = []
as_list (Some x) = x ∷ []

-- what a store keeps of a record, if there is one: nothing of the root
abbrev pub kept_store : ℕ → Option Record → Stored → Stored
kept_store root None s = s
kept_store root (Some x) s = cond (eqb root (key_named x)) s (with_record s x)

-- what the list of the root's replacements keeps of it
abbrev pub kept_list : ℕ → Option Record → List Record → List Record
kept_list root None xs = xs
kept_list root (Some x) xs = cond (is_root_replaced root x) (xs ++ x ∷ []) xs

-- for how many more there is room in that list then
abbrev pub kept_room : ℕ → Option Record → ℕ → ℕ
kept_room root None n = n
kept_room root (Some x) n = cond (is_root_replaced root x) (n - 1) n

-- the table with what is kept of the record of a step of worker i
abbrev pub entered : ℕ → ℕ → Option Record → Plain → Plain
entered root i y p = record p { stores = slice_set p.stores i (kept_store root y (slice_index_or p.stores i no_store)); root_replaced = kept_list root y p.root_replaced; replaced_room = kept_room root y p.replaced_room }

-- how many more records of a worker there is room for, whichever they are: in its own store, and in the list of the root's replacements
abbrev pub spare_of : Plain → ℕ → ℕ
spare_of p i = min (slice_index_or p.stores i no_store).room p.replaced_room

-- the shape of a layout
abbrev pub shape_of : Layout → Shape
shape_of x = record { rows = x.rows; notify_words = x.words_per_row; blocks = length x.cells.items }

-- the views at the beginning: the first worker is to explore the root
abbrev pub first_views : Setting → ℕ → List View
first_views e workers = opener (all_parts - (workers - 1)) e.graph.root (e.graph.root % e.shape.rows) ∷ replicate (workers - 1) (bare 1 [])

-- this is the word of the table at the spot, with the number that it holds
pub record IsWordAt (p : Plain) (a : Spot) (t : Touched) : Type 0 where
  pub at_is : t.at ≡ place_of p.shape a
  pub found_is : t.found ≡ slice_index p.words t.at
  pub within : t.at < length p.words

-- the words of a table before and after an event of a seat that found the number n: it stood at the event's spot, where what the event leaves of it stands now, and all other words are the same
pub record WordsAfter (e : Setting) (x : Event) (n : ℕ) (before now : List ℕ) : Type 0 where
  pub within : inside e.shape (at x) ≡ true
  pub found_is : n ≡ slice_index before (place_of e.shape (at x))
  pub words_are : now ≡ slice_set before (place_of e.shape (at x)) (left e x n)

-- one event of a worker on the word that it touched: the view could make it, and made it, and the table is sound before and after
pub record IsTableStep (e : Setting) (i : ℕ) (x : Event) (t : Touched) (p q : Plain) : Type 0 where
  pub can : Can e (view_at p i) x
  pub at_is : t.at ≡ place_of e.shape (at x)
  pub words : WordsAfter e x t.found p.words q.words
  pub view_is : view_at q i ≡ after e x t.found (view_at p i)
  pub others_are : slice_set q.views i blank ≡ slice_set p.views i blank
  pub workers_are : length q.views ≡ length p.views
  pub low : i < length p.views
  pub before : IsSound e p
  pub afterwards : IsSound e q

-- a seat as its calls see it: the table, by which name it was lent, whose seat it is, the steps that were made, and the words that it found
pub record Sitting : Type 0 where
  pub table : Plain
  pub name : ℕ
  pub worker : ℕ
  pub steps : Trace
  pub lent : List ℕ

-- what who lent the table learns it by
abbrev pub lender_of : Sitting → List ℕ
lender_of s = s.name ∷ s.worker ∷ s.lent

-- one step of such a seat
abbrev pub IsSeatStep : Setting → Event → Sitting → Sitting → Type 0
IsSeatStep e x s t = IsStep {S = Sitting} (λ u. e) (λ u. view_at u.table u.worker) (λ u. u.steps.made) (λ u. u.steps.last) (λ u. u.steps.shown) (λ u y n w. WordsAfter e y n u.table.words w.table.words) lender_of (λ u. slice_set u.table.views u.worker blank) x s t

-- no block was ever written or struck
abbrev pub IsUnwritten : List (Option BlockCells) → Type 0
IsUnwritten bs = (b : ℕ) → ((home_at bs b).tag ≡ 0) × ((home_at bs b).struck ≡ false)

-- each block is at home, with so many cells
abbrev pub IsFilled : List ℕ → List (Option BlockCells) → Type 0
IsFilled cells bs = (b : ℕ) → b < length bs → (x : BlockCells) × (slice_index_or bs b None ≡ Some x) × (length x.cells ≡ slice_index cells b)

-- no store has a record
abbrev pub IsBare : List Stored → Type 0
IsBare ss = (p : Record → Bool) → stored p ss ≡ 0

-- the list has the records of all stores
abbrev pub IsAll : List Record → List Stored → Type 0
IsAll rs ss = (p : Record → Bool) → count p rs ≡ stored p ss

-- all records stand at the first worker
abbrev pub IsGathered : List Stored → Type 0
IsGathered ss = (p : Record → Bool) → stored p ss ≡ count p (slice_index_or ss 0 no_store).records

-- any record
abbrev pub any_record : Record → Bool
any_record x = true

-- the first worker has room for all records
abbrev pub HasRoom : List Stored → Type 0
HasRoom ss = let x : Stored = slice_index_or ss 0 no_store in stored any_record ss ≤ count any_record x.records + x.room

-- the words at the beginning: pending is 1, and the root's key stands in its row
abbrev pub words_of : Shape → ℕ → List ℕ
words_of h root = slice_set (slice_set (replicate (word_count h) 0) 0 1) (place_of h (key (root % h.rows))) (root + 1)

-- the words of a table at the beginning
abbrev pub first_words : Setting → List ℕ
first_words e = words_of e.shape e.graph.root

-- a table as it is made
pub record IsFirst (e : Setting) (workers : ℕ) (p : Plain) : Type 0 where
  pub words_are : p.words ≡ first_words e
  pub views_are : p.views ≡ first_views e workers
  pub no_records : IsBare p.stores

-- words, blocks and records that views meet, with which they are as the invariant says
pub record IsClosing (e : Setting) (vs : List View) (ws : List ℕ) (bs : List (Option BlockCells)) (records root_replaced : List Record) : Type 0 where
  pub setting : Sound e
  pub fits : length ws ≡ word_count e.shape
  pub holds : Invariant e (core_by e.shape ws bs vs)
  pub passed : Passed e (core_by e.shape ws bs vs)
  pub prevented : Prevented e (core_by e.shape ws bs vs)
  -- a block that is at home is in no hand, and one that is not is in a hand
  pub at_home : (b : ℕ) (x : BlockCells) → slice_index_or bs b None ≡ Some x → total_of vs (in_hand b) ≡ 0
  pub housed : IsHoused e e.shape bs vs
  pub others : (p : Record → Bool) → count p records ≡ total_of vs (noted (λ x. p x && is_kept e.graph.root x))
  pub replaced : (p : Record → Bool) → count p root_replaced ≡ total_of vs (noted (λ x. p x && is_root_replaced e.graph.root x))

-- the cells of a block that was written, and None of one that was not
abbrev pub ShowsCells : BlockCells → Option (List ℤ) → Type 0
ShowsCells x None = x.tag ≡ 0
ShowsCells x (Some cells) = (0 < x.tag) × (x.cells ≡ cells)

-- the cells of the root's block, where it was written; None where it never was
abbrev pub ShowsRoot : Setting → List (Option BlockCells) → Option (List ℤ) → Type 0
ShowsRoot e bs = ShowsCells (home_at bs (e.graph.block e.graph.root))

-- room for the cells that lie at home in a block that was written
abbrev pub FitsCells : BlockCells → ℕ → Type 0
FitsCells x room = 0 < x.tag → length x.cells ≡ room
