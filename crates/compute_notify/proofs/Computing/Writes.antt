-- The halves of the writing of a result: what they ask and what they come to.
use Rattle.std.proofs.Common.{◌≡◌, ℕ, ◌+◌, ◌-◌, ◌≤◌, true, false, List, [], Option, Some, None, inl, inr, arith, ap, sym, refl, ◌∙◌, subst}
use Rattle.graph_model.specs.Graph.{Graph as TaskGraph}
use Rattle.graph_model.specs.declared.plan.Strike.{Strike}
use Rattle.core_state.specs.Guards.{AtWork, CanCompute, CanTakeTurn}
use Rattle.core_state.specs.Change.{no_cells}
use Rattle.core_state.specs.Effects.{after_computed}
use Rattle.core_state.specs.Graph.{Setting}
use Rattle.core_state.specs.Events.{after, Event}
use Rattle.core_state.specs.Events.Event.{give_written, take_turn}
use Rattle.core_state.specs.Lines.{Line, HasLines, of}
use Rattle.core_state.specs.declared.block.BlockCells.{BlockCells}
use Rattle.core_state.specs.declared.views.Item.{Item as Work}
use Rattle.core_state.specs.declared.views.Item.TheVariants as line
use Rattle.core_state.specs.declared.views.View.{View}
use Rattle.core_state.proofs.Lines.After.{computes, takes_turn, writes}
use Rattle.core_state.proofs.Lines.Outcomes.{leaves}
use Rattle.core_state.proofs.Lines.Top.{at_work}
use Rattle.core_steps.specs.Seat.{IsStep, TurnTells, cells_in}
use Rattle.block_store.specs.Turned.{WritesNext}
use Rattle.recovery.specs.Memory.{Remembers}
use Rattle.recovery.proofs.Knowing.{key_stays, remembers_apart}
use Rattle.compute_notify.specs.Eventing.{writing_event}
use Rattle.compute_notify.specs.Items.{FitsCompute, Goes, Stands, close_from, item_lines}
use Rattle.compute_notify.specs.Resting.{LetsFall, after_rest, closing_rest, item_rest}
use Rattle.compute_notify.specs.Resting.Excuses.{taken}
use Rattle.compute_notify.specs.Running.{Runs}
use Rattle.compute_notify.specs.Working.{AfterHand, HasBlock}
use Rattle.compute_notify.specs.declared.compute.Compute.{Compute}
use Rattle.compute_notify.specs.declared.compute.Phase.TheVariants as phase
use Rattle.compute_notify.specs.declared.item.After.{After}
use Rattle.compute_notify.specs.declared.item.Came.TheVariants as came
use Rattle.compute_notify.specs.declared.item.Item.TheVariants as item
use Rattle.compute_notify.proofs.Computing.Lines.{fits_later, reading_top, writing_top}
use Rattle.graph_model.specs.declared.plan.Point.TheVariants as point
use Rattle.compute_notify.proofs.Fitting.{fits_same}

-- the computing, its result made
abbrev pub made_of : Compute → Compute
made_of c = record c { phase = phase.Writing }

abbrev pub at_writing : Compute → After
at_writing c = record { left = Some (item.Compute (made_of c)); came = came.Nothing }

abbrev pub at_closing : Compute → After
at_closing c = record { left = Some (item.Close (close_from c.duty 0)); came = came.Nothing }

taken_weighs : (r k : ℕ) → ((2 - 1) + (r + 2) + k) + 1 ≤ (2 - 0) + (r + 2) + k
taken_weighs r k = omega arith

module _ (g : TaskGraph) (e : Setting) (v : View) (c : Compute) (strikes : List Strike) (lives : ℕ) (runs : Runs g strikes lives e) (stands : Stands g e v (item.Compute (made_of c))) where
  abbrev k : ℕ
  k = c.duty.key.0

  abbrev now_line : Work
  now_line = line.Compute c.duty.key.0 c.duty.life true (e.graph.inputs c.duty.key.0) true

  work : AtWork v now_line
  work = at_work v now_line stands.top.below (writing_top e v c stands.top.below stands.top.lines_are)

  pub may_take : (b : ℕ) → b ≡ e.graph.block k → b ≤ g.block_count → v.hands ≡ [] → CanTakeTurn e v b
  may_take b here inside free = record {
    low = let all = runs.blocks_are in omega (arith, all, inside);
    free = free;
    of_root = λ is. let root : k ≡ e.graph.root = runs.serves.lawful.root_block.1 k (sym here ∙ is) in
        (c.duty.life, e.graph.inputs k, subst (λ m. AtWork v (line.Compute m c.duty.life true (e.graph.inputs k) true)) root work);
  }

  pub next_written : (b version : ℕ) → b ≡ e.graph.block k → version ≡ e.graph.version k → WritesNext e v b k c.duty.life version
  next_written b version here of_version = record { read = e.graph.inputs k; at_work = work; block_is = here; version_is = of_version }

  pub take_goes : (w : View) (n b : ℕ) (o : Option BlockCells) (now : After) → w ≡ after e (take_turn b (cells_in o)) n v → now ≡ at_writing c → Goes g e v w (item_lines e.graph (item.Compute (made_of c))) now
  take_goes w n b o now is now_is = let left = leaves e (take_turn b (cells_in o)) n v w is in
      subst (λ a. Goes g e v w (item_lines e.graph (item.Compute (made_of c))) a) (sym now_is) (record {
        lines = λ below old. takes_turn e v w n b (cells_in o) (of now_line) below (writing_top e v c below old) is;
        left = fits_later g e v w (made_of c) phase.Writing stands.fits (remembers_apart e (take_turn b (cells_in o)) n v w refl is) left.strikes_are tt;
        came = tt;
        credits = left.spare_is ∙ stands.credits;
      })

  pub took_top : (w : View) (b : ℕ) (o : Option BlockCells) (now : After) → now ≡ at_writing c → b ≡ e.graph.block k → HasBlock e w b o → AfterHand e w o now
  took_top w b o now now_is here has = subst (λ a. AfterHand e w o a) (sym now_is) (subst (λ z. HasBlock e w z o) here has)

  pub give_goes : (w : View) (n b : ℕ) (x filled : BlockCells) (now : After) → w ≡ after e (give_written k c.duty.life b x filled) n v → now ≡ at_closing c → Goes g e v w (item_lines e.graph (item.Compute (made_of c))) now
  give_goes w n b x filled now is now_is =
      let left = leaves e (give_written k c.duty.life b x filled) n v w is in
      let more : Remembers v w = remembers_apart e (give_written k c.duty.life b x filled) n v w refl is in
      let notified = fits_same e v point.Notified k c.duty.life w 0 left.strikes_are stands.fits.notified in
      subst (λ a. Goes g e v w (item_lines e.graph (item.Compute (made_of c))) a) (sym now_is) (record {
        lines = λ below old. writes e v w n k c.duty.life (e.graph.inputs k) b x filled true true below (writing_top e v c below old) is;
        left = record {
          duty = record { is_key = stands.fits.duty.is_key; known = key_stays e v w c.duty.row k more stands.fits.duty.known };
          word = omega arith;
          seen = tt;
          before = λ first. (fits_same e v point.Computed k c.duty.life w 0 left.strikes_are stands.fits.computed, notified);
          between = λ later inside. refl;
          behind = λ later. notified;
        };
        came = tt;
        credits = left.spare_is ∙ stands.credits;
      })

  -- by the step that gave it
  pub give_step : {S : Type 0} {setting : S → Setting} {view : S → View} {made : S → ℕ} {last shown : S → ℕ × ℕ} {happened : S → Event → ℕ → S → Type 0} {lender : S → List ℕ} {others : S → List View} {b : ℕ} {x filled : BlockCells} {s t : S}
      → IsStep setting view made last shown happened lender others (give_written k c.duty.life b x filled) s t → setting s ≡ e → view s ≡ v → (now : After) → now ≡ at_closing c → Goes g e v (view t) (item_lines e.graph (item.Compute (made_of c))) now
  give_step {setting = setting} {view = view} {shown = shown} {b = b} {x = x} {filled = filled} {s = s} {t = t} step same_setting same_view now now_is =
      give_goes (view t) (shown t).1 b x filled now
      (step.view_is ∙ ap (λ f. after f (give_written k c.duty.life b x filled) (shown t).1 (view s)) same_setting ∙ ap (after e (give_written k c.duty.life b x filled) (shown t).1) same_view) now_is

-- How the rest falls with the first half.
module _ (e : Setting) (strikes : List Strike) (c : Compute) (n b : ℕ) where
  took_rest : (o : Option BlockCells) → TurnTells o n → LetsFall e strikes (take_turn b (cells_in o)) n (item_rest e strikes None (item.Compute (made_of c))) (after_rest e strikes o (at_writing c))
  took_rest None told = inr (0, taken b no_cells n told, omega arith)
  took_rest (Some x) told = inl (taken_weighs e.shape.rows (closing_rest e strikes c.duty))

  pub take_falls : (h o : Option BlockCells) (now : After) → h ≡ None → b ≡ e.graph.block c.duty.key.0 → now ≡ at_writing c → TurnTells o n → LetsFall e strikes (writing_event e h o c.duty) n (item_rest e strikes h (item.Compute (made_of c))) (after_rest e strikes o now)
  take_falls h o now empty here now_is told =
      subst (λ a. LetsFall e strikes (writing_event e h o c.duty) n (item_rest e strikes h (item.Compute (made_of c))) (after_rest e strikes o a)) (sym now_is)
      (subst (λ z. LetsFall e strikes (writing_event e z o c.duty) n (item_rest e strikes z (item.Compute (made_of c))) (after_rest e strikes o (at_writing c))) (sym empty)
      (subst (λ z. LetsFall e strikes (take_turn z (cells_in o)) n (item_rest e strikes None (item.Compute (made_of c))) (after_rest e strikes o (at_writing c))) here (took_rest o told)))

-- The making of the result.
module _ (g : TaskGraph) (e : Setting) (v : View) (c : Compute) (stands : Stands g e v (item.Compute c)) (reading : c.phase ≡ phase.Reading (e.graph.inputs c.duty.key.0)) where
  pub may_compute : CanCompute e v c.duty.key.0 c.duty.life
  may_compute = record { at_work = at_work v (line.Compute c.duty.key.0 c.duty.life true (e.graph.inputs c.duty.key.0) false) stands.top.below (reading_top e v c (e.graph.inputs c.duty.key.0) reading stands.top.below stands.top.lines_are) }

  module _ (w : View) (is : w ≡ after_computed c.duty.key.0 c.duty.life v) where
    pub computes_lines : (b : List Line) → HasLines e v (item_lines e.graph (item.Compute c) b) → HasLines e w (item_lines e.graph (item.Compute (made_of c)) b)
    computes_lines b old = computes e v w 0 c.duty.key.0 c.duty.life c.duty.key.0 c.duty.life (e.graph.inputs c.duty.key.0) true false b (reading_top e v c (e.graph.inputs c.duty.key.0) reading b old) is

    -- nothing that the view knows was lost
    same_memory : Remembers v w
    same_memory = subst (Remembers v) (sym is) (record { rows_stay = λ r key known. known; facts_stay = λ f. omega arith })

    pub computes_fits : FitsCompute g e w (made_of c)
    computes_fits = fits_later g e v w c phase.Writing stands.fits same_memory (ap (λ (u : View). u.strikes) is) tt

    pub computes_stands : Rattle.core_state.specs.Sure.IsSure e w → Stands g e w (item.Compute (made_of c))
    computes_stands sure = record {
      fits = computes_fits;
      top = record { below = stands.top.below; lines_are = computes_lines stands.top.below stands.top.lines_are };
      credits = ap (λ (u : View). u.spare) is ∙ stands.credits;
      sure = sure;
    }
