-- The look at the writer of a bad block: what its steps ask, what they leave, and how much is left.
use Rattle.std.proofs.Common.{◌≡◌, ◌≢◌, ℕ, ◌+◌, ◌-◌, ◌/◌, ◌<◌, Bool, true, false, eqb, List, ◌∷◌, Option, Some, None, inl, arith, ap, sym, refl, ◌∙◌, subst}
use Rattle.graph_model.specs.Graph.{Graph as TaskGraph}
use Rattle.graph_model.specs.declared.key.Key.{Key}
use Rattle.graph_model.specs.declared.plan.Strike.{Strike}
use Rattle.graph_model.specs.declared.record.Cause.TheVariants as cause
use Rattle.core_state.specs.Asked.{IsCoreKey}
use Rattle.core_state.specs.Guards.{CanLoadNotify}
use Rattle.core_state.specs.Counts.{known_key}
use Rattle.core_state.specs.Graph.{Edge, Graph, Lawful, Setting, greatest_life}
use Rattle.core_state.specs.Events.{after}
use Rattle.core_state.specs.Events.Event.{load_notify, look}
use Rattle.core_state.specs.Lines.{Line, HasLines, blamed_lines, flat, of}
use Rattle.core_state.specs.Packed.{notify_of}
use Rattle.core_state.specs.Words.{closed_bit, life_of, mark_of}
use Rattle.core_state.specs.declared.views.Item.TheVariants as line
use Rattle.core_state.specs.declared.views.View.{View}
use Rattle.core_state.specs.declared.words.NotifyWord.{NotifyWord}
use Rattle.core_state.proofs.Lines.After.{line_stands, loaded_writer, looked_still}
use Rattle.core_state.proofs.Lines.Counts.{suspect_on_top}
use Rattle.core_steps.specs.Seat.{Awaits, known_of}
use Rattle.core_steps.specs.Seat.Awaits.{by_block}
use Rattle.key_table.specs.Seeking.{Seeking, next_row, turned, TurnTells}
use Rattle.key_table.specs.declared.search.Sought.TheVariants as sought
use Rattle.recovery.specs.Happening.{first_search}
use Rattle.recovery.specs.Memory.{IsOnTop, KnowsKey, Remembers}
use Rattle.recovery.specs.Reentering.{IsSearch}
use Rattle.recovery.proofs.Knowing.{key_stays, known_is, row_known}
use Rattle.recovery.proofs.Seeking.{passed_by}
use Rattle.compute_notify.specs.Eventing.{look_event}
use Rattle.compute_notify.specs.Items.{FitsLook, FitsLooking, Goes, item_lines, replaces}
use Rattle.compute_notify.specs.Resting.{LetsFall, after_rest, item_rest, look_way_rest}
use Rattle.compute_notify.specs.Running.{Runs, life_limit}
use Rattle.compute_notify.specs.declared.item.After.{After}
use Rattle.compute_notify.specs.declared.item.Came.TheVariants as came
use Rattle.compute_notify.specs.declared.item.Item.{Item}
use Rattle.compute_notify.specs.declared.item.Item.TheVariants as item
use Rattle.compute_notify.specs.declared.look.Look.{Look}
use Rattle.compute_notify.specs.declared.look.Way.{Way}
use Rattle.compute_notify.specs.declared.look.Way.TheVariants as looking

-- the task that wrote the bad block, or was to write it
abbrev pub writer_of : Graph → Look → ℕ
writer_of g x = (g.pred x.duty.key.0 x.input).task

-- an input is a place
pub input_place : (g : TaskGraph) (e : Setting) (v : View) (x : Look) → Lawful e.graph → FitsLook g e v x → x.input < e.graph.places x.duty.key.0
input_place g e v x laws fits = let a = laws.few_inputs x.duty.key.0 in let b = fits.input in omega (arith, a, b)

module _ (g : TaskGraph) (e : Setting) (v : View) (x : Look) (fits : FitsLook g e v x) where
  look_top : (b : List Line) → HasLines e v (item_lines e.graph (item.Look x) b) → flat v.stacks ≡ of (line.Suspect x.duty.key.0 x.duty.life x.cause false) ∷ b
  look_top b lines = line_stands e v (line.Suspect x.duty.key.0 x.duty.life x.cause false) b refl lines

  -- the view suspects a life for the block, so its writer stands in the table
  pub awaits_writer : (strikes : List Strike) (lives : ℕ) → Runs g strikes lives e → IsCoreKey g (writer_of e.graph x) → IsOnTop e v (item_lines e.graph (item.Look x)) → Awaits e v (writer_of e.graph x)
  awaits_writer strikes lives runs key top = let k : ℕ = writer_of e.graph x in
      by_block (e.graph.block k) (e.graph.version k)
      (suspect_on_top v x.duty.key.0 x.duty.life (e.graph.block k) (e.graph.version k) fits.found false top.below
      (subst (λ c. flat v.stacks ≡ of (line.Suspect x.duty.key.0 x.duty.life c false) ∷ top.below) fits.cause_is (look_top top.below top.lines_are)))
      (runs.written_by k key)

  module _ (w : View) (more : Remembers v w) (credits : w.spare ≡ 0) where
    -- the look goes on
    pub stays : (next : Way) (now : After) → now ≡ record { left = Some (item.Look (record x { way = next })); came = came.Nothing } → ((b : List Line) → HasLines e v (item_lines e.graph (item.Look x) b) → HasLines e w (item_lines e.graph (item.Look x) b))
        → FitsLooking e w (writer_of e.graph x) next → Goes g e v w (item_lines e.graph (item.Look x)) now
    stays next now is lines rests = subst (λ a. Goes g e v w (item_lines e.graph (item.Look x)) a) (sym is) (record {
      lines = lines;
      left = record { duty = record { is_key = fits.duty.is_key; known = key_stays e v w x.duty.row x.duty.key.0 more fits.duty.known }; input = fits.input; found = fits.found; cause_is = fits.cause_is; looking = rests };
      came = tt;
      credits = credits;
    })

  -- What a look comes to, by the answer of the search.
  module _ (w : View) (m : ℕ) (more : Remembers v w) (credits : w.spare ≡ 0) (s : Seeking) (search : IsSearch e v (writer_of e.graph x) s) (known : ℕ → Option ℕ) (later : (r : ℕ) → known r ≡ known_of w r) (is : w ≡ after e (look (next_row s)) m v) where
    seen_lines : (b : List Line) → HasLines e v (item_lines e.graph (item.Look x) b) → HasLines e w (item_lines e.graph (item.Look x) b)
    seen_lines b lines = looked_still e v w m (next_row s) (of (line.Suspect x.duty.key.0 x.duty.life x.cause false)) b (look_top b lines) refl is

    pub goes_on : (t : Seeking) (now : After) → t ≡ turned sought.Going s → TurnTells sought.Going s known m → now ≡ record { left = Some (item.Look (record x { way = looking.Seek t })); came = came.Nothing } → Goes g e v w (item_lines e.graph (item.Look x)) now
    goes_on t now next tells left = stays w more credits (looking.Seek t) now left seen_lines
        (subst (IsSearch e w (writer_of e.graph x)) (sym next) (record { key_is = search.key_is; rows_are = search.rows_are; looks = search.looks; within = tells.0; passed = passed_by known (known_of w) s.key s.rows (s.passed + 1) later tells.1 }))

    pub goes_at : (row : ℕ) (made : Bool) (now : After) → TurnTells (sought.At row made) s known m → now ≡ record { left = Some (item.Look (record x { way = looking.Load row })); came = came.Nothing } → Goes g e v w (item_lines e.graph (item.Look x)) now
    goes_at row made now tells left = stays w more credits (looking.Load row) now left seen_lines
        (subst (KnowsKey e w row) search.key_is (record { low = subst (λ z. row < z) search.rows_are tells.1; key_is = sym (later row) ∙ tells.2 }))

-- How much is left.
module _ (e : Setting) (p : List Strike) (v : View) (x : Look) (s : Seeking) (n : ℕ) (search : IsSearch e v (writer_of e.graph x) s) (here : look_way_rest e.shape.rows x.way ≡ (e.shape.rows - s.passed) + 1) where
  pub falls_on : (t : Seeking) (now : After) → t ≡ turned sought.Going s → now ≡ record { left = Some (item.Look (record x { way = looking.Seek t })); came = came.Nothing } → LetsFall e p (look (next_row s)) n (item_rest e p None (item.Look x)) (after_rest e p None now)
  falls_on t now next left = inl (let a = search.within in let b = search.rows_are in let c : t.passed ≡ s.passed + 1 = ap (λ (y : Seeking). y.passed) next in let d = ap (after_rest e p None) left in omega (arith, a, b, c, d, here))

  pub falls_at : (row : ℕ) (now : After) → now ≡ record { left = Some (item.Look (record x { way = looking.Load row })); came = came.Nothing } → LetsFall e p (look (next_row s)) n (item_rest e p None (item.Look x)) (after_rest e p None now)
  falls_at row now left = inl (let a = search.within in let b = search.rows_are in let d = ap (after_rest e p None) left in omega (arith, a, b, d, here))

-- The event of a step, by the way to the writer.
module _ (e : Setting) (v : View) (x : Look) (here : Way) where
  pub start_event : (s : Seeking) (key rows : ℕ) → here ≡ looking.Start → s ≡ first_search key rows → rows ≡ e.shape.rows → writer_of e.graph x ≡ key → look (next_row s) ≡ look_event e v x here
  start_event s key rows is begins all task = ap (λ (y : Seeking). look (next_row y)) (begins ∙ ap (first_search key) all ∙ ap (λ k. first_search k e.shape.rows) (sym task)) ∙ ap (look_event e v x) (sym is)

-- The load of the writer's notify word.
module _ (g : TaskGraph) (e : Setting) (v : View) (x : Look) (row : ℕ) (edge : Key) (port : ℕ) (laws : Lawful e.graph) (fits : FitsLook g e v x) (at : x.way ≡ looking.Load row) (pred : e.graph.pred x.duty.key.0 x.input ≡ record { task = edge.0; port = port }) where
  task_is : writer_of e.graph x ≡ edge.0
  task_is = ap (λ (y : Edge). y.task) pred

  port_is : (e.graph.pred x.duty.key.0 x.input).port ≡ port
  port_is = ap (λ (y : Edge). y.port) pred

  pub knows_writer : KnowsKey e v row edge.0
  knows_writer = subst (KnowsKey e v row) task_is (subst (FitsLooking e v (writer_of e.graph x)) at fits.looking)

  pub may_load : CanLoadNotify e v row (known_key row v) (port / 40)
  may_load = subst (λ m. CanLoadNotify e v row m (port / 40)) (sym (known_is e v row edge.0 knows_writer)) (record {
    row = row_known e v row edge.0 knows_writer;
    word_in = let b = (laws.back x.duty.key.0 x.input (input_place g e v x laws fits)).0 in
        laws.enough_words edge.0 port (subst (λ k. port < e.graph.ports k) task_is (subst (λ q. q < e.graph.ports (writer_of e.graph x)) port_is b));
  })

  another : edge.0 ≢ x.duty.key.0
  another same = let a = laws.falls x.duty.key.0 x.input (input_place g e v x laws fits) in let b = ap e.graph.rank (task_is ∙ same) in omega (arith, a, b)

  module _ (w : View) (n : ℕ) (strikes : List Strike) (lives : ℕ) (runs : Runs g strikes lives e) (key : IsCoreKey g edge.0) (more : Remembers v w) (credits : w.spare ≡ 0) (limit : (k : ℕ) → life_limit k lives ≡ greatest_life e k) (is : w ≡ after e (load_notify row (known_key row v) (port / 40)) n v) (word : NotifyWord) (shows : word ≡ notify_of n) where
    abbrev behind : Item
    behind = item.Recover (replaces x.duty x.cause false lives)

    blames : (b : List Line) → HasLines e v (item_lines e.graph (item.Look x) b) → HasLines e w (blamed_lines (eqb (mark_of n) 1) (eqb (closed_bit n) 1) edge.0 (life_of n) x.cause (line.Suspect x.duty.key.0 x.duty.life x.cause false) b)
    blames b lines = let k : ℕ = writer_of e.graph x in
        subst (λ c. HasLines e w (blamed_lines (eqb (mark_of n) 1) (eqb (closed_bit n) 1) edge.0 (life_of n) c (line.Suspect x.duty.key.0 x.duty.life c false) b)) (sym fits.cause_is)
        (loaded_writer e v w n edge.0 (port / 40) x.duty.key.0 x.duty.life (e.graph.block k) (e.graph.version k) fits.found false (eqb (mark_of n) 1) (eqb (closed_bit n) 1) b
        (subst (λ c. flat v.stacks ≡ of (line.Suspect x.duty.key.0 x.duty.life c false) ∷ b) fits.cause_is (look_top g e v x fits b lines))
        (sym (ap (λ m. e.graph.writer (e.graph.block m) (e.graph.version m)) task_is ∙ runs.written_by edge.0 key)) another refl refl
        (subst (λ m. w ≡ after e (load_notify 0 m (port / 40)) n v) (known_is e v row edge.0 knows_writer) is))

    shown_as : (struck shut : Bool) → eqb (mark_of n) 1 ≡ struck → eqb (closed_bit n) 1 ≡ shut → (b : List Line) → HasLines e v (item_lines e.graph (item.Look x) b) → HasLines e w (blamed_lines struck shut edge.0 (life_of n) x.cause (line.Suspect x.duty.key.0 x.duty.life x.cause false) b)
    shown_as struck shut marks closes b lines = subst (λ z. HasLines e w (blamed_lines z shut edge.0 (life_of n) x.cause (line.Suspect x.duty.key.0 x.duty.life x.cause false) b)) marks
        (subst (λ z. HasLines e w (blamed_lines (eqb (mark_of n) 1) z edge.0 (life_of n) x.cause (line.Suspect x.duty.key.0 x.duty.life x.cause false) b)) closes (blames b lines))

    marks_are : eqb (mark_of n) 1 ≡ word.struck
    marks_are = sym (ap (λ (y : NotifyWord). y.struck) shows)

    closes_are : eqb (closed_bit n) 1 ≡ word.closed
    closes_are = sym (ap (λ (y : NotifyWord). y.closed) shows)

    known_still : KnowsKey e w x.duty.row x.duty.key.0
    known_still = key_stays e v w x.duty.row x.duty.key.0 more fits.duty.known

    pub goes_struck : (now : After) → now ≡ record { left = Some behind; came = came.Above (item.Recover (replaces (record { row = row; key = edge; life = word.life }) cause.Notify false lives)) } → word.struck ≡ true → Goes g e v w (item_lines e.graph (item.Look x)) now
    goes_struck now left struck = subst (λ a. Goes g e v w (item_lines e.graph (item.Look x)) a) (sym left) (record {
      lines = λ b lines. subst (λ l. HasLines e w (of (line.Suspect edge.0 l cause.Notify false) ∷ of (line.Suspect x.duty.key.0 x.duty.life x.cause false) ∷ b)) (sym (ap (λ (y : NotifyWord). y.life) shows)) (shown_as true (eqb (closed_bit n) 1) (marks_are ∙ struck) refl b lines);
      left = record { is_key = fits.duty.is_key; known = known_still; lives_are = limit x.duty.key.0; in_phase = tt };
      came = (record { is_key = key; known = key_stays e v w row edge.0 more knows_writer; lives_are = limit edge.0; in_phase = tt }, refl);
      credits = credits;
    })

    pub goes_closed : (now : After) → now ≡ record { left = Some behind; came = came.Above (item.Recover (replaces (record { row = row; key = edge; life = word.life }) x.cause true lives)) } → word.struck ≡ false → word.closed ≡ true → Goes g e v w (item_lines e.graph (item.Look x)) now
    goes_closed now left unstruck shut = subst (λ a. Goes g e v w (item_lines e.graph (item.Look x)) a) (sym left) (record {
      lines = λ b lines. subst (λ l. HasLines e w (of (line.Suspect edge.0 l x.cause true) ∷ of (line.Suspect x.duty.key.0 x.duty.life x.cause false) ∷ b)) (sym (ap (λ (y : NotifyWord). y.life) shows)) (shown_as false true (marks_are ∙ unstruck) (closes_are ∙ shut) b lines);
      left = record { is_key = fits.duty.is_key; known = known_still; lives_are = limit x.duty.key.0; in_phase = tt };
      came = (record { is_key = key; known = key_stays e v w row edge.0 more knows_writer; lives_are = limit edge.0; in_phase = tt }, refl);
      credits = credits;
    })

    pub goes_open : (now : After) → now ≡ record { left = Some behind; came = came.Nothing } → word.struck ≡ false → word.closed ≡ false → Goes g e v w (item_lines e.graph (item.Look x)) now
    goes_open now left unstruck open_still = subst (λ a. Goes g e v w (item_lines e.graph (item.Look x)) a) (sym left) (record {
      lines = λ b lines. shown_as false false (marks_are ∙ unstruck) (closes_are ∙ open_still) b lines;
      left = record { is_key = fits.duty.is_key; known = known_still; lives_are = limit x.duty.key.0; in_phase = tt };
      came = tt;
      credits = credits;
    })
