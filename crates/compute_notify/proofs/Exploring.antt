-- Exploring: what its steps at a place and behind the last place ask, and what they leave.
use Rattle.std.proofs.Common.{◌≡◌, ℕ, ◌+◌, ◌<◌, ◌≤◌, Bool, true, false, List, [], ◌∷◌, Option, Some, None, arith, ap, sym, refl, ◌∙◌, subst}
use Rattle.std.specs.Prelude.{MatchBool}
use Rattle.graph_model.specs.Graph.{Graph as TaskGraph}
use Rattle.graph_model.specs.declared.graph.Edge.{Edge as TaskEdge}
use Rattle.graph_model.specs.declared.plan.Point.TheVariants as point
use Rattle.graph_model.specs.declared.plan.Strike.{Strike}
use Rattle.graph_model.specs.declared.record.Cause.TheVariants as cause
use Rattle.core_state.specs.Guards.{AtWork, CanRegister, CanSpend, KnowsClosed}
use Rattle.core_state.specs.Guards.Registers.{exploring as registers}
use Rattle.core_state.specs.Guards.Spends.{exploring as spends_place, itself as spends_itself}
use Rattle.core_state.specs.Counts.{known_key}
use Rattle.core_state.specs.Effects.{registered_of, told_of}
use Rattle.core_state.specs.Graph.{Edge, Graph, Setting, greatest_life}
use Rattle.core_state.specs.Events.{after}
use Rattle.core_state.specs.Events.Event.{claim, register, spend}
use Rattle.core_state.specs.Lines.{Line, HasLines, flat, of, registered_lines}
use Rattle.core_state.specs.declared.answers.Registered.{Registered}
use Rattle.core_state.specs.declared.answers.Registered.TheVariants as registered
use Rattle.core_state.specs.declared.answers.Told.{Told}
use Rattle.core_state.specs.declared.block.BlockCells.{BlockCells}
use Rattle.core_state.specs.declared.job.Job.TheVariants as job
use Rattle.core_state.specs.declared.views.Item.{Item as LineItem}
use Rattle.core_state.specs.declared.views.Item.TheVariants as line
use Rattle.core_state.specs.declared.views.View.{View}
use Rattle.core_state.proofs.Lines.After.{explored_registers, explored_spends, itself_spends, line_stands}
use Rattle.core_state.proofs.Lines.Learns.{register_closes}
use Rattle.core_state.proofs.Lines.Counts.{explorer_on_top}
use Rattle.core_state.proofs.Lines.Top.{at_work}
use Rattle.core_steps.specs.Seat.{Explores, known_of}
use Rattle.key_table.specs.Seeking.{Seeking, next_row, turned, TurnTells}
use Rattle.key_table.specs.declared.search.Sought.TheVariants as sought
use Rattle.recovery.specs.Memory.{IsOnTop, KnowsKey, Remembers}
use Rattle.recovery.specs.declared.owe.Owe.{Owe}
use Rattle.recovery.proofs.Knowing.{key_stays, known_is, row_known}
use Rattle.recovery.proofs.Seeking.{passed_by}
use Rattle.compute_notify.specs.Eventing.{explore_event}
use Rattle.compute_notify.specs.Items.{FitsCame, FitsExplore, FitsReaching, Goes, IsClaiming, came_above, came_credits, item_lines, replaces, told_came}
use Rattle.compute_notify.specs.Running.{IsPlace, Runs, life_limit}
use Rattle.compute_notify.specs.Striking.{FitsHand, explore_left}
use Rattle.compute_notify.specs.declared.explore.Explore.{Explore}
use Rattle.compute_notify.specs.declared.explore.Way.{Way}
use Rattle.compute_notify.specs.declared.explore.Way.TheVariants as reaching
use Rattle.compute_notify.specs.declared.item.After.{After}
use Rattle.compute_notify.specs.declared.item.Came.{Came}
use Rattle.compute_notify.specs.declared.item.Came.TheVariants as came
use Rattle.compute_notify.specs.declared.item.Item.TheVariants as item
use Rattle.compute_notify.proofs.Claims.{full_lines, made_lines, other_full}
use Rattle.compute_notify.proofs.Coming.{told_above, told_credits, told_fits}
use Rattle.compute_notify.proofs.Fitting.{fits_same}
use Rattle.compute_notify.proofs.Striking.Points.{explore_none, place_none}

-- the predecessor at the place
abbrev pub pred_of : Graph → Explore → ℕ
pred_of g x = (g.pred x.duty.key.0 x.place).task

abbrev pub explorer : Explore → LineItem
explorer x = line.Explore x.duty.key.0 x.duty.life x.place

-- the exploring as its next place begins
abbrev pub next_of : Explore → Explore
next_of x = record x { place = x.place + 1; way = reaching.Start }

module _ (g : TaskGraph) (e : Setting) (v : View) (x : Explore) (fits : FitsExplore g e v x) where
  explore_top : (b : List Line) → HasLines e v (item_lines e.graph (item.Explore x) b) → flat v.stacks ≡ of (explorer x) ∷ b
  explore_top b lines = line_stands e v (explorer x) b refl lines

  module _ (top : IsOnTop e v (item_lines e.graph (item.Explore x))) where
    pub works : AtWork v (explorer x)
    works = at_work v (explorer x) top.below (explore_top top.below top.lines_are)

    pub explores : x.place < e.graph.places x.duty.key.0 → Explores e v (pred_of e.graph x)
    explores low = record {
      explorer = x.duty.key.0;
      life = x.duty.life;
      place = x.place;
      exploring = explorer_on_top v x.duty.key.0 x.duty.life x.place top.below (explore_top top.below top.lines_are);
      is_place = low;
      names = refl;
    }

    -- what the registering at the predecessor asks
    pub may_register : (row : ℕ) (edge : TaskEdge) → x.place < e.graph.places x.duty.key.0 → IsPlace g e.graph x.duty.key.0 x.place edge → KnowsKey e v row edge.key.0 → CanRegister e v row (known_key row v) edge.port
    may_register row edge low is knows = subst (λ m. CanRegister e v row m edge.port) (sym (known_is e v row edge.key.0 knows)) (record {
      row = row_known e v row edge.key.0 knows;
      edge = registers x.duty.key.0 x.duty.life x.place works low (ap (λ (y : Edge). y.task) is.pred_is) (ap (λ (y : Edge). y.port) is.pred_is);
    })

    module _ (strikes : List Strike) (lives : ℕ) (runs : Runs g strikes lives e) where
      -- what the spending of a place asks
      pub may_spend : x.place < e.graph.places x.duty.key.0 → x.way ≡ reaching.Spend → CanSpend e v x.duty.row (known_key x.duty.row v) x.place
      may_spend low at = subst (λ m. CanSpend e v x.duty.row m x.place) (sym (known_is e v x.duty.row x.duty.key.0 fits.duty.known)) (record {
        row = row_known e v x.duty.row x.duty.key.0 fits.duty.known;
        edge = spends_place x.duty.life works low (subst (FitsReaching e v x.duty.key.0 x.place) at fits.reaching).1;
        order = record { no_strike = place_none g strikes lives e v runs x works low };
      })

      -- what that of the self place asks
      pub may_end : x.place ≡ e.graph.places x.duty.key.0 → explore_left e.graph strikes x ≡ None → CanSpend e v x.duty.row (known_key x.duty.row v) 40
      may_end past none_left = subst (λ m. CanSpend e v x.duty.row m 40) (sym (known_is e v x.duty.row x.duty.key.0 fits.duty.known)) (record {
        row = row_known e v x.duty.row x.duty.key.0 fits.duty.known;
        edge = spends_itself x.duty.life (subst (λ j. AtWork v (line.Explore x.duty.key.0 x.duty.life j)) past works) refl;
        order = record { no_strike = explore_none g strikes lives e v runs x fits.strikes works (omega (arith, past)) none_left };
      })

      -- at a place nothing is in hand
      pub place_free : (h : Option BlockCells) → x.place < e.graph.places x.duty.key.0 → FitsHand e v x.duty.key.0 x.duty.life h → (v.hands ≡ []) × (h ≡ None)
      place_free None low hand = (hand, refl)
      place_free (Some y) low hand = absurd (let a = sym hand.2.is_next ∙ place_none g strikes lives e v runs x works low in cc)

      -- nor behind the last place, where no strike is left
      pub ended_free : (h : Option BlockCells) → e.graph.places x.duty.key.0 ≤ x.place → explore_left e.graph strikes x ≡ None → FitsHand e v x.duty.key.0 x.duty.life h → (v.hands ≡ []) × (h ≡ None)
      ended_free None past none_left hand = (hand, refl)
      ended_free (Some y) past none_left hand = absurd (let a = sym hand.2.is_next ∙ explore_none g strikes lives e v runs x fits.strikes works past none_left in cc)

  -- What stays of the exploring.
  module _ (w : View) (more : Remembers v w) (same : w.strikes ≡ v.strikes) where
    pub fits_on : (next : Way) → FitsReaching e w x.duty.key.0 x.place next → FitsExplore g e w (record x { way = next })
    fits_on next reaches = record {
      duty = record { is_key = fits.duty.is_key; known = key_stays e v w x.duty.row x.duty.key.0 more fits.duty.known };
      place = fits.place;
      reaching = reaches;
      strikes = fits_same e v point.Explored x.duty.key.0 x.duty.life w x.made same fits.strikes;
      none_made = fits.none_made;
    }

    pub fits_next : x.place < e.graph.places x.duty.key.0 → FitsExplore g e w (next_of x)
    fits_next low = record {
      duty = record { is_key = fits.duty.is_key; known = key_stays e v w x.duty.row x.duty.key.0 more fits.duty.known };
      place = omega (arith, low);
      reaching = tt;
      strikes = fits_same e v point.Explored x.duty.key.0 x.duty.life w x.made same fits.strikes;
      none_made = λ later. fits.none_made low;
    }

    goes_by : (y : Explore) (c : Came) (now : After) → now ≡ record { left = Some (item.Explore y); came = c } → ((b : List Line) → HasLines e v (item_lines e.graph (item.Explore x) b) → HasLines e w (came_above e.graph c (item_lines e.graph (item.Explore y) b)))
        → FitsExplore g e w y → FitsCame g e w c (Some (item.Explore y)) → w.spare ≡ came_credits c (Some (item.Explore y)) → Goes g e v w (item_lines e.graph (item.Explore x)) now
    goes_by y c now is lines left fits_came credits = subst (λ a. Goes g e v w (item_lines e.graph (item.Explore x)) a) (sym is) (record { lines = lines; left = left; came = fits_came; credits = credits })

    module _ (none : w.spare ≡ 0) (low : x.place < e.graph.places x.duty.key.0) where
      -- What a claim comes to, by the answer of the search.
      module _ (m : ℕ) (s : Seeking) (search : IsClaiming e v (pred_of e.graph x) s) (known : ℕ → Option ℕ) (later : (r : ℕ) → known r ≡ known_of w r) (is : w ≡ after e (claim (next_row s) s.key) m v) where
        pub goes_on : (t : Seeking) (now : After) → t ≡ turned sought.Going s → TurnTells sought.Going s known m → now ≡ record { left = Some (item.Explore (record x { way = reaching.Seek t })); came = came.Nothing } → Goes g e v w (item_lines e.graph (item.Explore x)) now
        goes_on t now next tells left = let passed = passed_by known (known_of w) s.key s.rows (s.passed + 1) later tells.1 in
            goes_by (record x { way = reaching.Seek t }) came.Nothing now left
            (λ b lines. full_lines e v w m (next_row s) s.key is (of (explorer x)) b (explore_top b lines) (other_full e v w m (next_row s) s.key is (passed.others s.passed (omega arith))))
            (fits_on (reaching.Seek t) (low, subst (IsClaiming e w (pred_of e.graph x)) (sym next) (record { key_is = search.key_is; rows_are = search.rows_are; makes_row = search.makes_row; within = tells.0; passed = passed }))) tt none

        found_at : (row : ℕ) → row < s.rows → known row ≡ Some s.key → KnowsKey e w row (pred_of e.graph x)
        found_at row inside is_known = subst (KnowsKey e w row) search.key_is (record { low = subst (λ z. row < z) search.rows_are inside; key_is = sym (later row) ∙ is_known })

        pub goes_found : (row : ℕ) (made : Bool) (now : After) → made ≡ false → TurnTells (sought.At row made) s known m → now ≡ record { left = Some (item.Explore (record x { way = reaching.Register row })); came = came.Nothing } → Goes g e v w (item_lines e.graph (item.Explore x)) now
        goes_found row made now not_made tells left = let number : m ≡ s.key + 1 = subst (λ b. MatchBool b ((m ≡ 0) × (s.makes ≡ true)) (m ≡ s.key + 1)) not_made tells.3 in
            goes_by (record x { way = reaching.Register row }) came.Nothing now left
            (λ b lines. full_lines e v w m (next_row s) s.key is (of (explorer x)) b (explore_top b lines) (λ z. omega (arith, number, z)))
            (fits_on (reaching.Register row) (low, found_at row tells.1 tells.2)) tt none

        -- a row that was made is owed an exploring
        pub goes_made : (row : ℕ) (made : Bool) (edge : TaskEdge) (owe : Owe) (now : After) → made ≡ true → TurnTells (sought.At row made) s known m → IsPlace g e.graph x.duty.key.0 x.place edge → owe ≡ record { row = row; key = edge.key; job = job.Explore; life = 1; bought = false }
            → now ≡ record { left = Some (item.Explore (record x { way = reaching.Register row })); came = came.Above (item.Owe owe) } → Goes g e v w (item_lines e.graph (item.Explore x)) now
        goes_made row made edge owe now is_made tells place owe_is left =
            let empty : m ≡ 0 = (subst (λ b. MatchBool b ((m ≡ 0) × (s.makes ≡ true)) (m ≡ s.key + 1)) is_made tells.3).0 in
            let first : Owe = record { row = row; key = edge.key; job = job.Explore; life = 1; bought = false } in
            let task : pred_of e.graph x ≡ edge.key.0 = ap (λ (y : Edge). y.task) place.pred_is in
            goes_by (record x { way = reaching.Register row }) (came.Above (item.Owe first)) now (left ∙ ap (λ o. record { left = Some (item.Explore (record x { way = reaching.Register row })); came = came.Above (item.Owe o) }) owe_is)
            (λ b lines. subst (λ k. HasLines e w (of (line.Owe k job.Explore 1) ∷ of (explorer x) ∷ b)) (search.key_is ∙ task) (made_lines e v w m (next_row s) s.key is (of (explorer x)) b (explore_top b lines) empty))
            (fits_on (reaching.Register row) (low, found_at row tells.1 tells.2))
            (record { is_key = place.is_key; known = subst (KnowsKey e w row) task (found_at row tells.1 tells.2) }, fits.none_made low) none

      -- What the registering comes to, by its answer.
      module _ (m row : ℕ) (edge : TaskEdge) (place : IsPlace g e.graph x.duty.key.0 x.place edge) (knows : KnowsKey e v row edge.key.0) (told : Registered) (t : told ≡ registered_of m) (is : w ≡ after e (register row (known_key row v) edge.port) m v) where
        registering : w ≡ after e (register row edge.key.0 edge.port) m v
        registering = subst (λ k. w ≡ after e (register row k edge.port) m v) (known_is e v row edge.key.0 knows) is

        come : (a : Registered) → told ≡ a → (b : List Line) → HasLines e v (item_lines e.graph (item.Explore x) b) → HasLines e w (registered_lines edge.key.0 a (item_lines e.graph (item.Explore (next_of x)) b) (item_lines e.graph (item.Explore x) b))
        come a same_told b lines = subst (λ z. HasLines e w (registered_lines edge.key.0 z (item_lines e.graph (item.Explore (next_of x)) b) (item_lines e.graph (item.Explore x) b))) same_told
            (explored_registers e v w m edge.key.0 edge.port x.duty.key.0 x.duty.life x.place told b low (explore_top b lines) t registering)

        pub goes_waiting : (l : ℕ) (now : After) → told ≡ registered.Waiting l → now ≡ record { left = Some (item.Explore (next_of x)); came = came.Nothing } → Goes g e v w (item_lines e.graph (item.Explore x)) now
        goes_waiting l now same_told left = goes_by (next_of x) came.Nothing now left (come (registered.Waiting l) same_told) (fits_next low) tt none

        pub goes_closed : (l : ℕ) (now : After) → told ≡ registered.Closed l → now ≡ record { left = Some (item.Explore (record x { way = reaching.Spend })); came = came.Nothing } → Goes g e v w (item_lines e.graph (item.Explore x)) now
        goes_closed l now same_told left = goes_by (record x { way = reaching.Spend }) came.Nothing now left (come (registered.Closed l) same_told)
            (fits_on reaching.Spend (low, subst (λ (y : Edge). KnowsClosed e w y.task y.port) (sym place.pred_is) (register_closes e m v w row edge.key.0 edge.port l (sym same_told ∙ t) registering))) tt none

        pub goes_struck : (lives l : ℕ) (now : After) → ((k : ℕ) → life_limit k lives ≡ greatest_life e k) → told ≡ registered.Struck l → now ≡ record { left = Some (item.Explore (record x { way = reaching.Register row })); came = came.Above (item.Recover (replaces (record { row = row; key = edge.key; life = l }) cause.Notify false lives)) } → Goes g e v w (item_lines e.graph (item.Explore x)) now
        goes_struck lives l now limit same_told left = let there : KnowsKey e w row edge.key.0 = key_stays e v w row edge.key.0 more knows in
            goes_by (record x { way = reaching.Register row }) (came.Above (item.Recover (replaces (record { row = row; key = edge.key; life = l }) cause.Notify false lives))) now left (come (registered.Struck l) same_told)
            (fits_on (reaching.Register row) (low, subst (KnowsKey e w row) (sym (ap (λ (y : Edge). y.task) place.pred_is)) there))
            (record { is_key = place.is_key; known = there; lives_are = limit edge.key.0; in_phase = tt }, fits.none_made low) none

      -- What the spending of the place comes to.
      pub goes_spent : (m lives : ℕ) (t : Told) (now : After) → t ≡ told_of (e.graph.places x.duty.key.0) x.place m → w ≡ after e (spend x.duty.row (known_key x.duty.row v) x.place) m v → ((k : ℕ) → life_limit k lives ≡ greatest_life e k)
          → now ≡ record { left = Some (item.Explore (next_of x)); came = told_came t x.duty.row x.duty.key lives } → Goes g e v w (item_lines e.graph (item.Explore x)) now
      goes_spent m lives t now told is limit left = goes_by (next_of x) (told_came t x.duty.row x.duty.key lives) now left
          (λ b lines. subst (HasLines e w) (sym (told_above e.graph t x.duty.row x.duty.key lives (item_lines e.graph (item.Explore (next_of x)) b)))
          (explored_spends e v w m x.duty.key.0 x.duty.life x.place t b low (explore_top b lines) told (subst (λ k. w ≡ after e (spend 0 k x.place) m v) (known_is e v x.duty.row x.duty.key.0 fits.duty.known) is)))
          (fits_next low)
          (told_fits g e w t x.duty.row x.duty.key lives (Some (item.Explore (next_of x))) (fits.none_made low) (record { is_key = fits.duty.is_key; known = key_stays e v w x.duty.row x.duty.key.0 more fits.duty.known }) (limit x.duty.key.0))
          (none ∙ sym (told_credits t x.duty.row x.duty.key lives (Some (item.Explore (next_of x))) refl))

    -- What the spending of the self place comes to.
    pub goes_ended : w.spare ≡ 0 → x.place ≡ e.graph.places x.duty.key.0 → (m lives : ℕ) (t : Told) (now : After) → t ≡ told_of (e.graph.places x.duty.key.0) 40 m → w ≡ after e (spend x.duty.row (known_key x.duty.row v) 40) m v → ((k : ℕ) → life_limit k lives ≡ greatest_life e k)
        → now ≡ record { left = None; came = told_came t x.duty.row x.duty.key lives } → Goes g e v w (item_lines e.graph (item.Explore x)) now
    goes_ended none past m lives t now told is limit left = subst (λ a. Goes g e v w (item_lines e.graph (item.Explore x)) a) (sym left) (record {
      lines = λ b lines. subst (HasLines e w) (sym (told_above e.graph t x.duty.row x.duty.key lives b))
          (itself_spends e v w m x.duty.key.0 x.duty.life x.place t b (omega (arith, past)) (explore_top b lines) told (subst (λ k. w ≡ after e (spend 0 k 40) m v) (known_is e v x.duty.row x.duty.key.0 fits.duty.known) is));
      left = tt;
      came = told_fits g e w t x.duty.row x.duty.key lives None tt (record { is_key = fits.duty.is_key; known = key_stays e v w x.duty.row x.duty.key.0 more fits.duty.known }) (limit x.duty.key.0);
      credits = none ∙ sym (told_credits t x.duty.row x.duty.key lives None refl);
    })

-- The event of a step at a place, by the way to the predecessor.
module _ (e : Setting) (v : View) (x : Explore) (here : Way) where
  pub start_event : (s : Seeking) (key rows : ℕ) → here ≡ reaching.Start → s ≡ record { key = key; rows = rows; passed = 0; makes = true } → rows ≡ e.shape.rows → pred_of e.graph x ≡ key → claim (next_row s) s.key ≡ explore_event e v x here
  start_event s key rows is begins all task = ap (λ (y : Seeking). claim (next_row y) y.key) (begins ∙ ap (λ m. record { key = key; rows = m; passed = 0; makes = true }) all ∙ ap (λ k. record { key = k; rows = e.shape.rows; passed = 0; makes = true }) (sym task)) ∙ ap (explore_event e v x) (sym is)

  pub register_event : (row : ℕ) (edge : TaskEdge) (g : TaskGraph) → here ≡ reaching.Register row → IsPlace g e.graph x.duty.key.0 x.place edge → register row (known_key row v) edge.port ≡ explore_event e v x here
  register_event row edge g is place = ap (λ (y : Edge). register row (known_key row v) y.port) (sym place.pred_is) ∙ ap (explore_event e v x) (sym is)

-- the predecessor that is to be registered at
pub registers_at : (g : TaskGraph) (e : Setting) (v : View) (x : Explore) (row : ℕ) (edge : TaskEdge) → FitsExplore g e v x → x.way ≡ reaching.Register row → IsPlace g e.graph x.duty.key.0 x.place edge → (x.place < e.graph.places x.duty.key.0) × KnowsKey e v row edge.key.0
registers_at g e v x row edge fits at place = let a = subst (FitsReaching e v x.duty.key.0 x.place) at fits.reaching in (a.0, subst (KnowsKey e v row) (ap (λ (y : Edge). y.task) place.pred_is) a.1)

pub claims_at : (g : TaskGraph) (e : Setting) (v : View) (x : Explore) (edge : TaskEdge) (s : Seeking) → IsPlace g e.graph x.duty.key.0 x.place edge → IsClaiming e v edge.key.0 s → IsClaiming e v (pred_of e.graph x) s
claims_at g e v x edge s place search = subst (λ k. IsClaiming e v k s) (sym (ap (λ (y : Edge). y.task) place.pred_is)) search
