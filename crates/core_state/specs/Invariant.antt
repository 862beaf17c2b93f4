-- What holds between any two steps.
use Rattle.std.specs.Prelude.{◌≡◌, ℕ, ◌%◌, cond, eqb, suc, List, [], false}
use mathlib.Core.Option.{some}
use lib.ListN.{get_elem?}
use Rattle.core_state.specs.Graph.{Setting}
use Rattle.core_state.specs.Words.{Spot, pending, key, recovery, standing_life, replacing}
use Rattle.core_state.specs.Counts.{total_of, parts}
use Rattle.core_state.specs.Change.{Core, many}
use Rattle.core_state.specs.Laws.{AllClosed}
use Rattle.core_state.specs.Rows.{HasKey, Keys, Empty, Lives, Content, Facts}
use Rattle.core_state.specs.Work.{Work}
use Rattle.core_state.specs.Blocks.{Blocks}
use Rattle.core_state.specs.Records.{Records, Causes, Strikes}
use Rattle.core_state.specs.Cover.{Cover, Activity, NoFault}
use Rattle.core_state.specs.Views.{all_parts, blank, bare, opener}
use Rattle.core_state.specs.declared.views.View.{View}

module _ (e : Setting) (s : Core) where
  -- all parts of the invariant
  pub record Invariant : Type 0 where
    pub keys : Keys e s
    pub empty : Empty e s
    pub lives : Lives e s
    pub content : Content e s
    pub facts : Facts e s
    pub work : Work e s
    pub blocks : Blocks e s
    pub records : Records e s
    pub causes : Causes e s
    pub strikes : Strikes e s
    pub cover : Cover e s
    pub activity : Activity e s
    pub no_fault : NoFault e s

  -- nothing is left to do
  abbrev pub IsQuiet : Type 0
  IsQuiet = s.word pending ≡ 0

  -- what a quiet core has done: the sink has closed all words of the life that stands, and the root is written
  pub record Finished : Type 0 where
    pub row : ℕ
    pub has_key : HasKey e s row e.graph.sink
    pub stands : replacing (s.word (recovery row)) ≡ 0
    pub closed : AllClosed e.graph e.plan (many s) e.graph.sink (standing_life (s.word (recovery row)))
    pub root_tag : (s.block (e.graph.block e.graph.root)).tag ≡ 1
    pub root_cells : (s.block (e.graph.block e.graph.root)).cells ≡ e.graph.value e.graph.sink

  -- the words at the beginning
  abbrev pub first_word : Spot → ℕ
  first_word pending = 1
  first_word (key r) = cond (eqb r (e.graph.root % e.shape.rows)) (suc e.graph.root) 0
  first_word _ = 0

  -- the table at the beginning: the root's key stands, pending is 1, and of all views only one has something
  pub record Opening : Type 0 where
    pub parts_of : ℕ
    pub words : (a : Spot) → s.word a ≡ first_word a
    pub views : (f : View → ℕ) → ((p : ℕ) → f (bare p []) ≡ 0) → s.total f ≡ f (opener parts_of e.graph.root (e.graph.root % e.shape.rows))
    pub never_written : (b : ℕ) → ((s.block b).tag ≡ 0) × ((s.block b).struck ≡ false)

-- The seats of a table: their parts together are all, and a seat without parts has nothing. Who has all parts is the only one.
pub record Seats (vs : List View) : Type 0 where
  pub all : total_of vs parts ≡ all_parts
  pub spent : (i : ℕ) (v : View) → get_elem? vs i ≡ some v → v.parts ≡ 0 → v ≡ blank
