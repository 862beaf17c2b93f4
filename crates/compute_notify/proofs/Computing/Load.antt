-- The look of a computing at its descriptor, once its strikes are made: what it comes to by what the word showed.
use Rattle.std.proofs.Common.{◌≡◌, ℕ, ◌+◌, ◌-◌, ◌*◌, ◌≤◌, Bool, true, false, eqb, List, [], ◌∷◌, Option, Some, None, inl, inr, arith, ap, sym, refl, ◌∙◌, subst}
use Rattle.std.proofs.lemmas.Bool.{eq-eqb}
use mathlib.Core.Option.{none}
use Rattle.graph_model.specs.Graph.{Graph as TaskGraph}
use Rattle.graph_model.specs.declared.plan.Point.TheVariants as point
use Rattle.graph_model.specs.declared.plan.Strike.{Strike}
use Rattle.graph_model.specs.declared.record.Cause.TheVariants as cause
use Rattle.core_state.specs.Counts.{known_key}
use Rattle.core_state.specs.Graph.{Setting, greatest_life}
use Rattle.core_state.specs.Events.{after}
use Rattle.core_state.specs.Events.Event.{load_descriptor}
use Rattle.core_state.specs.Lines.{Line, HasLines, of, ready_lines}
use Rattle.core_state.specs.Views.{strike_next}
use Rattle.core_state.specs.Words.{life_of, mark_of}
use Rattle.core_state.specs.declared.block.BlockCells.{BlockCells}
use Rattle.core_state.specs.declared.views.Item.TheVariants as line
use Rattle.core_state.specs.declared.views.View.{View}
use Rattle.core_state.proofs.Lines.After.{loaded_ready}
use Rattle.core_state.proofs.Lines.Outcomes.{leaves}
use Rattle.core_state.proofs.Lines.Top.{at_work}
use Rattle.recovery.specs.Memory.{Remembers}
use Rattle.recovery.proofs.Knowing.{key_stays, known_is, remembers_apart}
use Rattle.compute_notify.specs.Eventing.{compute_event, with_strike}
use Rattle.compute_notify.specs.Items.{FitsPhase, Goes, Stands, item_lines, replaces}
use Rattle.compute_notify.specs.Resting.{LetsFall, after_rest, closing_rest, item_rest, phase_rest, strikes_rest, suspect_rest}
use Rattle.compute_notify.specs.Resting.Excuses.{marked_descriptor}
use Rattle.compute_notify.specs.Rooms.{AfterScratch, HasRoom}
use Rattle.compute_notify.specs.Running.{Runs, life_limit}
use Rattle.compute_notify.specs.Striking.{FitsStrikes, strike_left}
use Rattle.compute_notify.specs.declared.compute.Compute.{Compute}
use Rattle.compute_notify.specs.declared.compute.Phase.TheVariants as phase
use Rattle.compute_notify.specs.declared.item.After.{After}
use Rattle.compute_notify.specs.declared.item.Came.TheVariants as came
use Rattle.compute_notify.specs.declared.item.Item.TheVariants as item
use Rattle.compute_notify.specs.declared.scratch.Scratch.{Scratch}
use Rattle.graph_model.specs.Gathered.{Gathered}
use Rattle.compute_notify.proofs.Computing.Lines.{fits_later, ready_top}
use Rattle.compute_notify.proofs.Fitting.{has_none, makes_none}

-- what comes in the place of a computing whose life shows a mark
abbrev pub recovers : Compute → ℕ → ℕ → After
recovers c life lives = record { left = None; came = came.Above (item.Recover (replaces (record { row = c.duty.row; key = c.duty.key; life = life }) cause.Descriptor false lives)) }

module _ (g : TaskGraph) (e : Setting) (v : View) (c : Compute) (made : ℕ) (strikes : List Strike) (lives : ℕ) (runs : Runs g strikes lives e) (stands : Stands g e v (item.Compute c)) (ready : c.phase ≡ phase.Ready made) (over : strike_left e.graph strikes (item.Compute c) ≡ None) where
  strikes_fit : FitsStrikes e v point.Ready c.duty.key.0 c.duty.life made
  strikes_fit = subst (FitsPhase e v c.duty.key.0 c.duty.life) ready stands.fits.in_phase

  -- no strike is left for the view either
  pub none_next : strike_next e.graph e.plan v ≡ none
  none_next = let top = stands.top in
      makes_none e v point.Ready c.duty.key.0 c.duty.life (line.Compute c.duty.key.0 c.duty.life false 0 false)
      (at_work v (line.Compute c.duty.key.0 c.duty.life false 0 false) top.below (ready_top e v c made ready top.below top.lines_are)) refl
      (has_none e v strikes point.Ready c.duty made runs.plan_is strikes_fit (ap (λ p. Rattle.compute_notify.specs.Striking.compute_left e.graph strikes c.duty p) (sym ready) ∙ over))

  pub load_is : (h now : Option BlockCells) → load_descriptor c.duty.row (known_key c.duty.row v) ≡ compute_event e v strikes h now c
  load_is h now = ap (λ p. Rattle.compute_notify.specs.Eventing.phase_event e v h now c.duty p) (sym ready) ∙ ap (with_strike e v h now (item.Compute c)) (sym over)

  module _ (w : View) (n : ℕ) (is : w ≡ after e (load_descriptor c.duty.row (known_key c.duty.row v)) n v) where
    more : Remembers v w
    more = remembers_apart e (load_descriptor c.duty.row (known_key c.duty.row v)) n v w refl is

    keeps_strikes : w.strikes ≡ v.strikes
    keeps_strikes = (leaves e (load_descriptor c.duty.row (known_key c.duty.row v)) n v w is).strikes_are

    no_credits : w.spare ≡ 0
    no_credits = (leaves e (load_descriptor c.duty.row (known_key c.duty.row v)) n v w is).spare_is ∙ stands.credits

    pub no_hands : v.hands ≡ [] → w.hands ≡ []
    no_hands free = (leaves e (load_descriptor c.duty.row (known_key c.duty.row v)) n v w is).hands_are ∙ free

    lines_now : (struck same : Bool) → struck ≡ eqb (mark_of n) 1 → same ≡ eqb (life_of n) c.duty.life → (b : List Line) → HasLines e v (item_lines e.graph (item.Compute c) b) → HasLines e w (ready_lines struck same c.duty.key.0 (life_of n) (line.Compute c.duty.key.0 c.duty.life true 0 false) b)
    lines_now struck same s t b old = loaded_ready e v w n c.duty.key.0 c.duty.life 0 false struck same b (ready_top e v c made ready b old) none_next s t
        (subst (λ k. w ≡ after e (load_descriptor 0 k) n v) (known_is e v c.duty.row c.duty.key.0 stands.fits.duty.known) is)

    pub load_recovers : (life : ℕ) (now : After) → now ≡ recovers c life lives → life ≡ life_of n → eqb (mark_of n) 1 ≡ true → life_limit c.duty.key.0 lives ≡ greatest_life e c.duty.key.0 → Goes g e v w (item_lines e.graph (item.Compute c)) now
    load_recovers life now now_is shown marked limit = subst (λ a. Goes g e v w (item_lines e.graph (item.Compute c)) a) (sym now_is) (record {
      lines = λ b old. subst (λ m. HasLines e w (of (line.Suspect c.duty.key.0 m cause.Descriptor false) ∷ b)) (sym shown) (lines_now true (eqb (life_of n) c.duty.life) (sym marked) refl b old);
      left = tt;
      came = (record { is_key = stands.fits.duty.is_key; known = key_stays e v w c.duty.row c.duty.key.0 more stands.fits.duty.known; lives_are = limit; in_phase = tt }, tt);
      credits = no_credits;
    })

    pub load_leaves : (now : After) → now ≡ record { left = None; came = came.Nothing } → eqb (mark_of n) 1 ≡ false → eqb (life_of n) c.duty.life ≡ false → Goes g e v w (item_lines e.graph (item.Compute c)) now
    load_leaves now now_is clear other = subst (λ a. Goes g e v w (item_lines e.graph (item.Compute c)) a) (sym now_is) (record {
      lines = λ b old. lines_now false false (sym clear) (sym other) b old;
      left = tt;
      came = tt;
      credits = no_credits;
    })

    pub load_begins : (now : After) → now ≡ record { left = Some (item.Compute (record c { phase = phase.Reading 0 })); came = came.Nothing } → eqb (mark_of n) 1 ≡ false → eqb (life_of n) c.duty.life ≡ true → Goes g e v w (item_lines e.graph (item.Compute c)) now
    load_begins now now_is clear same = subst (λ a. Goes g e v w (item_lines e.graph (item.Compute c)) a) (sym now_is) (record {
      lines = λ b old. lines_now false true (sym clear) (sym same) b old;
      left = fits_later g e v w c (phase.Reading 0) stands.fits more keeps_strikes (omega arith);
      came = tt;
      credits = no_credits;
    })

-- How the rest falls with the look.
weighs : (s i r k : ℕ) → ((2 * (i - 0) + 2 - 0) + (r + 2) + k) + 1 ≤ ((s - 0) + 1 + 2 * i + 2 + (r + 2)) + k
weighs s i r k = omega arith

module _ (e : Setting) (p : List Strike) (v : View) (c : Compute) (made n : ℕ) (ready : c.phase ≡ phase.Ready made) where
  before_is : item_rest e p None (item.Compute c) ≡ phase_rest e p None c.duty (phase.Ready made) + closing_rest e p c.duty
  before_is = ap (λ q. phase_rest e p None c.duty q + closing_rest e p c.duty) ready

  pub recovers_rest : (life lives : ℕ) (now : After) → now ≡ recovers c life lives → eqb (mark_of n) 1 ≡ true → known_key c.duty.row v ≡ c.duty.key.0 → LetsFall e p (load_descriptor c.duty.row (known_key c.duty.row v)) n (item_rest e p None (item.Compute c)) (after_rest e p None now)
  recovers_rest life lives now now_is marked known = subst (λ a. LetsFall e p (load_descriptor c.duty.row (known_key c.duty.row v)) n (item_rest e p None (item.Compute c)) (after_rest e p None a)) (sym now_is)
      (inr (suspect_rest e (known_key c.duty.row v), marked_descriptor c.duty.row (known_key c.duty.row v) n (Rattle.std.proofs.lemmas.Bool.eqb-true (mark_of n) 1 marked), (let a = ap (suspect_rest e) known in omega (arith, a))))

  pub leaves_rest : (now : After) → now ≡ record { left = None; came = came.Nothing } → LetsFall e p (load_descriptor c.duty.row (known_key c.duty.row v)) n (item_rest e p None (item.Compute c)) (after_rest e p None now)
  leaves_rest now now_is = subst (λ a. LetsFall e p (load_descriptor c.duty.row (known_key c.duty.row v)) n (item_rest e p None (item.Compute c)) (after_rest e p None a)) (sym now_is)
      (inl (let a = before_is in let b = weighs (strikes_rest p point.Ready c.duty made) (e.graph.inputs c.duty.key.0) e.shape.rows (closing_rest e p c.duty) in omega (arith, a, b)))

  pub begins_rest : (now : After) → now ≡ record { left = Some (item.Compute (record c { phase = phase.Reading 0 })); came = came.Nothing } → LetsFall e p (load_descriptor c.duty.row (known_key c.duty.row v)) n (item_rest e p None (item.Compute c)) (after_rest e p None now)
  begins_rest now now_is = subst (λ a. LetsFall e p (load_descriptor c.duty.row (known_key c.duty.row v)) n (item_rest e p None (item.Compute c)) (after_rest e p None a)) (sym now_is)
      (inl (let a = before_is in let b = weighs (strikes_rest p point.Ready c.duty made) (e.graph.inputs c.duty.key.0) e.shape.rows (closing_rest e p c.duty) in omega (arith, a, b)))

-- The scratch that was cleared holds no value, and has the room that it had.
pub begins_scratch : (g : TaskGraph) (e : Setting) (c : Compute) (s : Scratch) (inputs : Gathered) (now : After) → now ≡ record { left = Some (item.Compute (record c { phase = phase.Reading 0 })); came = came.Nothing } → HasRoom g s → inputs ≡ record s.inputs { lists = [] } → AfterScratch e g (record { inputs = inputs; cells = s.cells }) now
begins_scratch g e c s inputs now now_is room cleared = subst (λ a. AfterScratch e g (record { inputs = inputs; cells = s.cells }) a) (sym now_is) (subst (λ i. AfterScratch e g (record { inputs = i; cells = s.cells }) (record { left = Some (item.Compute (record c { phase = phase.Reading 0 })); came = came.Nothing })) (sym cleared) (record { enough = room.enough }, refl))
