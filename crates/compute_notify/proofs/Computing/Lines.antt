-- A computing's lines, facts and hand from one of its steps to the next.
use Rattle.std.proofs.Common.{◌≡◌, ℕ, ◌<◌, Bool, true, false, cond, nat_lt, eqb, List, [], ◌∷◌, length, Option, Some, None, IfSome, ap, sym, refl, ◌∙◌, subst}
use Rattle.graph_model.specs.Graph.{Graph as TaskGraph}
use Rattle.graph_model.specs.declared.plan.Point.TheVariants as point
use Rattle.core_state.specs.Graph.{Setting}
use Rattle.core_state.specs.Events.{after}
use Rattle.core_state.specs.Events.Event.{take_turn}
use Rattle.core_state.specs.Lines.{Line, HasLines, flat, of}
use Rattle.core_state.specs.declared.block.BlockCells.{BlockCells}
use Rattle.core_state.specs.declared.views.Hand.{Hand}
use Rattle.core_state.specs.declared.views.Item.TheVariants as line
use Rattle.core_state.specs.declared.views.View.{View}
use Rattle.core_state.proofs.Lines.After.{line_stands}
use Rattle.core_state.proofs.Lines.Outcomes.{leaves}
use Rattle.core_steps.specs.Seat.{TurnTells, cells_in}
use Rattle.block_store.specs.Turned.{IsTaken}
use Rattle.recovery.specs.Memory.{Remembers}
use Rattle.recovery.proofs.Knowing.{key_stays}
use Rattle.compute_notify.specs.Items.{FitsCompute, FitsPhase, compute_lines, item_lines}
use Rattle.compute_notify.specs.Working.{AfterHand, ComputeHand, FitsTop, HasBlock, came_hand, left_hand}
use Rattle.compute_notify.specs.declared.compute.Compute.{Compute}
use Rattle.compute_notify.specs.declared.compute.Phase.{Phase}
use Rattle.compute_notify.specs.declared.compute.Phase.TheVariants as phase
use Rattle.compute_notify.specs.declared.duty.Duty.{Duty}
use Rattle.compute_notify.specs.declared.item.After.{After}
use Rattle.compute_notify.specs.declared.item.Came.{Came}
use Rattle.compute_notify.specs.declared.item.Came.TheVariants as came
use Rattle.compute_notify.specs.declared.item.Item.{Item}
use Rattle.compute_notify.specs.declared.item.Item.TheVariants as item
use Rattle.compute_notify.proofs.Fitting.{fits_same}

module _ (e : Setting) (v : View) (c : Compute) where
  -- the first line, by the phase
  in_phase : (p : Phase) → c.phase ≡ p → (b : List Line) → HasLines e v (item_lines e.graph (item.Compute c) b) → HasLines e v (compute_lines e.graph c.duty p b)
  in_phase p is b lines = subst (λ q. HasLines e v (compute_lines e.graph c.duty q b)) is lines

  pub ready_top : (made : ℕ) → c.phase ≡ phase.Ready made → (b : List Line) → HasLines e v (item_lines e.graph (item.Compute c) b) → flat v.stacks ≡ of (line.Compute c.duty.key.0 c.duty.life false 0 false) ∷ b
  ready_top made is b lines = line_stands e v (line.Compute c.duty.key.0 c.duty.life false 0 false) b refl (in_phase (phase.Ready made) is b lines)

  pub reading_top : (input : ℕ) → c.phase ≡ phase.Reading input → (b : List Line) → HasLines e v (item_lines e.graph (item.Compute c) b) → flat v.stacks ≡ of (line.Compute c.duty.key.0 c.duty.life true input false) ∷ b
  reading_top input is b lines = line_stands e v (line.Compute c.duty.key.0 c.duty.life true input false) b refl (in_phase (phase.Reading input) is b lines)

  pub writing_top : (b : List Line) → HasLines e v (item_lines e.graph (item.Compute (record c { phase = phase.Writing })) b) → flat v.stacks ≡ of (line.Compute c.duty.key.0 c.duty.life true (e.graph.inputs c.duty.key.0) true) ∷ b
  writing_top b lines = line_stands e v (line.Compute c.duty.key.0 c.duty.life true (e.graph.inputs c.duty.key.0) true) b refl lines

-- What a computing rests on stays in a later view that has made no further strike.
pub fits_later : (g : TaskGraph) (e : Setting) (v w : View) (c : Compute) (p : Phase) → FitsCompute g e v c → Remembers v w → w.strikes ≡ v.strikes → FitsPhase e w c.duty.key.0 c.duty.life p → FitsCompute g e w (record c { phase = p })
fits_later g e v w c p fits more same here = record {
  duty = record { is_key = fits.duty.is_key; known = key_stays e v w c.duty.row c.duty.key.0 more fits.duty.known };
  in_phase = here;
  computed = fits_same e v point.Computed c.duty.key.0 c.duty.life w 0 same fits.computed;
  notified = fits_same e v point.Notified c.duty.key.0 c.duty.life w 0 same fits.notified;
}

abbrev nothing : Option BlockCells
nothing = None

-- Where no block is in hand, none is for any item.
module _ (e : Setting) (w : View) (free : w.hands ≡ []) where
  free_reading : (duty : Duty) (input : ℕ) → ComputeHand e w duty (phase.Reading input) None
  free_reading duty input = by (nat_lt input (e.graph.inputs duty.key.0))
    where
      by : (b : Bool) → cond b (HasBlock e w (e.graph.block (e.graph.pred duty.key.0 input).task) None) ((w.hands ≡ []) × (nothing ≡ None))
      by true = free
      by false = (free, refl)

  free_compute : (duty : Duty) (p : Phase) → ComputeHand e w duty p None
  free_compute duty (phase.Ready made) = free
  free_compute duty (phase.Reading input) = free_reading duty input
  free_compute duty phase.Writing = free

  pub free_top : (x : Item) → FitsTop e w None x
  free_top (item.Explore x) = free
  free_top (item.Close c) = free
  free_top (item.Compute c) = free_compute c.duty c.phase
  free_top item.Credit = (free, refl)
  free_top (item.Notify n) = (free, refl)
  free_top (item.Look l) = (free, refl)
  free_top (item.Owe o) = (free, refl)
  free_top (item.Recover r) = (free, refl)

  free_left : (x : Option Item) → left_hand e w None x
  free_left None = (free, refl)
  free_left (Some x) = free_top x

  free_came : (x : Came) (left : Option Item) → came_hand e w None x left
  free_came came.Nothing left = free_left left
  free_came (came.Above x) left = free_top x
  free_came (came.Stack x) left = free_top x
  free_came (came.Spent k l c) left = free_left left

  pub free_after : (h : Option BlockCells) (a : After) → h ≡ None → AfterHand e w h a
  free_after h a none = subst (λ z. AfterHand e w z a) (sym none) (free_came a.came a.left)

-- A block that was asked for is in hand alone, if it came.
pub took_hand : (e : Setting) (v w : View) (n b : ℕ) (o : Option BlockCells) → w ≡ after e (take_turn b (cells_in o)) n v → TurnTells o n
    → IfSome o (λ x. length x.cells ≡ e.graph.cells b) → IfSome o (λ x. x.struck ≡ false → 0 < x.tag → x.cells ≡ e.graph.value (e.graph.writer b x.tag)) → v.hands ≡ [] → HasBlock e w b o
took_hand e v w n b None is told cells value free = let a = leaves e (take_turn b (cells_in None)) n v w is in
    a.hands_are ∙ ap (λ z. cond (eqb z 0) (record { block = b; held = cells_in None } ∷ v.hands) v.hands) told ∙ free
took_hand e v w n b (Some x) is told cells value free =
    let a = leaves e (take_turn b (cells_in (Some x))) n v w is in
    let hand : w.hands ≡ record { block = b; held = x } ∷ [] = a.hands_are ∙ ap (λ z. cond (eqb z 0) (record { block = b; held = x } ∷ v.hands) v.hands) told ∙ ap (λ (hs : List Hand). record { block = b; held = x } ∷ hs) free in
    (record { hand = record { others = []; hands_are = hand }; cells = cells; value = value }, hand)

-- where none was taken, none is in hand
pub free_here : (e : Setting) (v : View) (b : ℕ) (h : Option BlockCells) → h ≡ None → HasBlock e v b h → v.hands ≡ []
free_here e v b h empty has = subst (HasBlock e v b) empty has

-- a block that was taken is in hand
pub block_here : (e : Setting) (v : View) (b : ℕ) (h : Option BlockCells) (x : BlockCells) → h ≡ Some x → HasBlock e v b h → IsTaken e v b x
block_here e v b h x full has = (subst (HasBlock e v b) full has).0
