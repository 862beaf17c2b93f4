-- The step of the topmost item makes no strike of a job that an item below carries.
use Rattle.std.proofs.Common.{◌≡◌, ◌⊎◌, ⊎_elim, inl, inr, ℕ, Bool, true, false, cond, nat_lt, not, List, ◌∷◌, Option, Some, None, refl, ap, sym, ◌∙◌, subst, arith}
use mathlib.Core.Option.{some, none}
use mathlib.Core.Option as core
use Rattle.graph_model.specs.Graph.{Graph as TaskGraph}
use Rattle.graph_model.specs.declared.plan.Strike.{Strike}
use Rattle.graph_model.specs.declared.plan.Target.{Target}
use Rattle.graph_model.specs.declared.plan.Target.TheVariants as target
use Rattle.core_state.specs.Effects.{after_computed, missed, missed_by}
use Rattle.core_state.specs.Graph.{Graph, Plan, Setting}
use Rattle.core_state.specs.Events.{Event, after}
use Rattle.core_state.specs.Events.Event.{claim, look, load_descriptor, load_notify, load_recovery, load_pending, load_stop, register, spend, close, elect, renew_notify, renew_descriptor, finish, strike_descriptor, strike_notify, post, take, buy, drop_credit, take_turn, give_read, give_written, give_struck, halt}
use Rattle.core_state.specs.Lines.{Line, HasLines, of, flat}
use Rattle.core_state.specs.Outcome.{made_next, strikes_left}
use Rattle.core_state.specs.Sure.{IsSure}
use Rattle.core_state.specs.Views.{strike_next}
use Rattle.core_state.specs.declared.block.BlockCells.{BlockCells}
use Rattle.core_state.specs.declared.views.Item.{Item as Carried}
use Rattle.core_state.specs.declared.views.Item.TheVariants as line
use Rattle.core_state.specs.declared.views.View.{View}
use Rattle.core_state.proofs.Lines.After.{computed_lines, line_stands}
use Rattle.core_state.proofs.Lines.Counts.{reading_unstruck}
use Rattle.core_state.proofs.Lines.Outcomes.{leaves}
use Rattle.core_state.proofs.Lines.Remembers.{names_row}
use Rattle.block_store.specs.Turned.{blow_of, struck_home}
use Rattle.block_store.specs.declared.answers.Blow.{Blow}
use Rattle.block_store.specs.declared.answers.Blow.TheVariants as blow
use Rattle.recovery.specs.Memory.{Remembers}
use Rattle.recovery.proofs.Knowing.{remembers_apart, remembers_on}
use Rattle.recovery.specs.Happening.{owe_event, phase_event as replacing_event, way_event}
use Rattle.recovery.specs.declared.owe.Owe.{Owe}
use Rattle.recovery.specs.declared.recover.Phase.{Phase as Replacing}
use Rattle.recovery.specs.declared.recover.Phase.TheVariants as replacing
use Rattle.recovery.specs.declared.recover.Recover.{Recover}
use Rattle.recovery.specs.declared.reenter.Way.{Way}
use Rattle.recovery.specs.declared.reenter.Way.TheVariants as way
use Rattle.compute_notify.specs.Eventing.{computes, item_event, item_prepared, look_event, notify_event, phase_event, prepared, reading_event, with_strike, writing_event}
use Rattle.compute_notify.specs.Items.{FitsItem, compute_lines, is_over, item_lines}
use Rattle.compute_notify.specs.Running.{Runs}
use Rattle.compute_notify.specs.Striking.{strike_event, strike_left}
use Rattle.compute_notify.specs.Stepping.{HasStepped}
use Rattle.compute_notify.specs.declared.duty.Duty.{Duty}
use Rattle.compute_notify.specs.declared.close.Close.{Close}
use Rattle.compute_notify.specs.declared.compute.Compute.{Compute}
use Rattle.compute_notify.specs.declared.compute.Phase.{Phase}
use Rattle.compute_notify.specs.declared.compute.Phase.TheVariants as phase
use Rattle.compute_notify.specs.declared.item.Item.{Item}
use Rattle.compute_notify.specs.declared.item.Item.TheVariants as item
use Rattle.compute_notify.specs.declared.look.Look.{Look}
use Rattle.compute_notify.specs.declared.look.Way.{Way as Looking}
use Rattle.compute_notify.specs.declared.look.Way.TheVariants as looking
use Rattle.compute_notify.specs.declared.notify.Notify.{Notify}
use Rattle.compute_notify.specs.declared.notify.Way.{Way as Telling}
use Rattle.compute_notify.specs.declared.notify.Way.TheVariants as telling
use Rattle.compute_notify.specs.declared.strikes.Next.{Next}
use Rattle.compute_notify.proofs.Keeping.{KeepsStrikes, keeps_below, keeps_same}
use Rattle.compute_notify.proofs.Striking.Points.{closing, exploring}
use Rattle.compute_notify.proofs.Topmost.{close_unfinished}

-- an event makes the strike that is next, or none
abbrev MakesOne : core.Option ℕ → List ℕ → List ℕ → Type 0
MakesOne o before now = (now ≡ before) ⊎ ((n : ℕ) × (o ≡ some n) × (now ≡ n ∷ before))

makes_next : (o : core.Option ℕ) (xs : List ℕ) → MakesOne o xs (made_next o xs)
makes_next none xs = inl refl
makes_next (some n) xs = inr (n, refl, refl)

missed_one : (g : Graph) (p : Plan) (b : ℕ) (was : BlockCells) (o : core.Option ℕ) (xs : List ℕ) → MakesOne o xs (missed_by g p b was o xs)
missed_one g p b was none xs = inl refl
missed_one g p b was (some n) xs = by (missed g b was (p.strike n))
  where
    by : (q : Bool) → MakesOne (some n) xs (cond q (n ∷ xs) xs)
    by true = inr (n, refl, refl)
    by false = inl refl

module _ (e : Setting) where
  strikes_one : (x : Event) (v : View) → MakesOne (strike_next e.graph e.plan v) v.strikes (strikes_left e x v)
  strikes_one (claim r k) v = inl refl
  strikes_one (look r) v = inl refl
  strikes_one (load_descriptor r k) v = inl refl
  strikes_one (load_notify r k w) v = inl refl
  strikes_one (load_recovery r k) v = inl refl
  strikes_one load_pending v = inl refl
  strikes_one load_stop v = inl refl
  strikes_one (register r p q) v = inl refl
  strikes_one (spend r k j) v = inl refl
  strikes_one (close r k l w m) v = inl refl
  strikes_one (elect r k l c waits) v = inl refl
  strikes_one (renew_notify r k l w) v = inl refl
  strikes_one (renew_descriptor r k l) v = inl refl
  strikes_one (finish r k l) v = inl refl
  strikes_one (strike_descriptor r k l) v = makes_next (strike_next e.graph e.plan v) v.strikes
  strikes_one (strike_notify r k l w) v = makes_next (strike_next e.graph e.plan v) v.strikes
  strikes_one (post r i k l) v = inl refl
  strikes_one (take r i k) v = inl refl
  strikes_one buy v = inl refl
  strikes_one drop_credit v = inl refl
  strikes_one (take_turn b was) v = inl refl
  strikes_one (give_read b was) v = missed_one e.graph e.plan b was (strike_next e.graph e.plan v) v.strikes
  strikes_one (give_written k l b was now) v = inl refl
  strikes_one (give_struck k l b was now) v = makes_next (strike_next e.graph e.plan v) v.strikes
  strikes_one halt v = inl refl

  -- Items without a point make none.
  notify_none : (v : View) (n : Notify) (y : Telling) → strikes_left e (notify_event e v n y) v ≡ v.strikes
  notify_none v n telling.Start = refl
  notify_none v n (telling.Seek s) = refl
  notify_none v n (telling.Spend r) = refl

  look_none : (v : View) (x : Look) (y : Looking) → strikes_left e (look_event e v x y) v ≡ v.strikes
  look_none v x looking.Start = refl
  look_none v x (looking.Seek s) = refl
  look_none v x (looking.Load r) = refl

  owe_none : (v : View) (o : Owe) → strikes_left e (owe_event v o) v ≡ v.strikes
  owe_none v o = by o.bought
    where
      by : (b : Bool) → strikes_left e (cond b (post o.row o.job (Rattle.core_state.specs.Counts.known_key o.row v) o.life) buy) v ≡ v.strikes
      by true = refl
      by false = refl

  way_none : (v : View) (r k q : ℕ) (y : Way) → strikes_left e (way_event e v r k q y) v ≡ v.strikes
  way_none v r k q way.Start = refl
  way_none v r k q (way.Seek s) = refl
  way_none v r k q (way.Load at) = refl
  way_none v r k q (way.Register at) = refl
  way_none v r k q (way.Spend at) = refl

  replacing_none : (v : View) (r : Recover) (y : Replacing) → strikes_left e (replacing_event e v r y) v ≡ v.strikes
  replacing_none v r replacing.Suspect = refl
  replacing_none v r (replacing.Renew done) = by (nat_lt done (e.graph.notify_words r.key.0))
    where
      by : (b : Bool) → strikes_left e (cond b (renew_notify r.row (Rattle.core_state.specs.Counts.known_key r.row v) (Rattle.core_steps.specs.Serving.work_life v) done) (renew_descriptor r.row (Rattle.core_state.specs.Counts.known_key r.row v) (Rattle.core_steps.specs.Serving.work_life v))) v ≡ v.strikes
      by true = refl
      by false = refl
  replacing_none v r replacing.Finish = refl
  replacing_none v r (replacing.Owe owe behind) = owe_none v owe
  replacing_none v r (replacing.Reenter reenter) = way_none v r.row r.key.0 reenter.port reenter.way
  replacing_none v r replacing.Passed = refl
  replacing_none v r replacing.Over = refl

module _ (g : TaskGraph) (strikes : List Strike) (lives : ℕ) (e : Setting) (v w : View) (runs : Runs g strikes lives e) (sure : IsSure e v) (h now : Option BlockCells) (n : ℕ) where
  -- the item's line stands first, and makes one strike at most
  at_top : (x : Carried) (b : List Line) (y : Event) → flat v.stacks ≡ of x ∷ b → w ≡ after e y n v → KeepsStrikes e v w b
  at_top x b y top is = ⊎_elim
      (λ same. keeps_same e v w b ((leaves e y n v w is).strikes_are ∙ same))
      (λ one. keeps_below e v sure x b top w one.0 one.1 ((leaves e y n v w is).strikes_are ∙ one.2))
      (strikes_one e y v)

  computing : (c : Compute) (b : List Line) (r : View) (y : Phase) → c.phase ≡ y → r ≡ cond (computes e.graph c y) (after_computed c.duty.key.0 c.duty.life v) v → HasLines e v (compute_lines e.graph c.duty y b) → (x : Event) → w ≡ after e x n r → KeepsStrikes e v w b
  computing c b r (phase.Ready made) at is lines x step = let k = c.duty.key.0 in at_top (line.Compute k c.duty.life false 0 false) b x (line_stands e v (line.Compute k c.duty.life false 0 false) b refl lines) (subst (λ u. w ≡ after e x n u) is step)
  computing c b r phase.Writing at is lines x step = let k = c.duty.key.0 in at_top (line.Compute k c.duty.life true (e.graph.inputs k) true) b x (line_stands e v (line.Compute k c.duty.life true (e.graph.inputs k) true) b refl lines) (subst (λ u. w ≡ after e x n u) is step)
  computing c b r (phase.Reading input) at is lines x step = by (nat_lt input (e.graph.inputs c.duty.key.0)) is
    where
      stands : flat v.stacks ≡ of (line.Compute c.duty.key.0 c.duty.life true input false) ∷ b
      stands = line_stands e v (line.Compute c.duty.key.0 c.duty.life true input false) b refl lines

      by : (q : Bool) → r ≡ cond (not q) (after_computed c.duty.key.0 c.duty.life v) v → KeepsStrikes e v w b
      by true is_same = at_top (line.Compute c.duty.key.0 c.duty.life true input false) b x stands (subst (λ u. w ≡ after e x n u) is_same step)
      by false is_made =
          let u = after_computed c.duty.key.0 c.duty.life v in
          let step_on : w ≡ after e x n u = subst (λ z. w ≡ after e x n z) is_made step in
          let top : flat u.stacks ≡ of (line.Compute c.duty.key.0 c.duty.life true input true) ∷ b = computed_lines v c.duty.key.0 c.duty.life c.duty.key.0 c.duty.life input true false b stands in
          let none_next = reading_unstruck e u c.duty.key.0 c.duty.life input true b top in
          ⊎_elim
          (λ same. keeps_same e v w b ((leaves e x n u w step_on).strikes_are ∙ same))
          (λ one. absurd (let a = sym none_next ∙ one.1 in cc))
          (strikes_one e x u)

  closing_keeps : (c : Close) (b : List Line) → FitsItem g e v (item.Close c) → is_over e.graph strikes (item.Close c) ≡ false → HasLines e v (item_lines e.graph (item.Close c) b) → w ≡ after e (item_event e v strikes h now (item.Close c)) n v → KeepsStrikes e v w b
  closing_keeps c b fits left lines is = at_top (closing c) b (item_event e v strikes h now (item.Close c)) (line_stands e v (closing c) b (close_unfinished g strikes lives e v runs c fits left) lines) is

  pub step_keeps : (x : Item) (b : List Line) (r : View) → FitsItem g e v x → is_over e.graph strikes x ≡ false → HasLines e v (item_lines e.graph x b) → r ≡ item_prepared e.graph x v → w ≡ after e (item_event e v strikes h now x) n r → KeepsStrikes e v w b
  step_keeps item.Credit b r fits left lines is step = keeps_same e v w b ((leaves e drop_credit n r w step).strikes_are ∙ ap (λ (u : View). u.strikes) is)
  step_keeps (item.Explore x) b r fits left lines is step = at_top (exploring x) b (item_event e v strikes h now (item.Explore x)) (line_stands e v (exploring x) b refl lines) (subst (λ u. w ≡ after e (item_event e v strikes h now (item.Explore x)) n u) is step)
  step_keeps (item.Compute c) b r fits left lines is step = computing c b r c.phase refl is lines (item_event e v strikes h now (item.Compute c)) step
  step_keeps (item.Close c) b r fits left lines is step = closing_keeps c b fits left lines (subst (λ u. w ≡ after e (item_event e v strikes h now (item.Close c)) n u) is step)
  step_keeps (item.Notify m) b r fits left lines is step = keeps_same e v w b (let s = subst (λ u. w ≡ after e (item_event e v strikes h now (item.Notify m)) n u) is step in (leaves e (item_event e v strikes h now (item.Notify m)) n v w s).strikes_are ∙ notify_none e v m m.way)
  step_keeps (item.Look y) b r fits left lines is step = keeps_same e v w b (let s = subst (λ u. w ≡ after e (item_event e v strikes h now (item.Look y)) n u) is step in (leaves e (item_event e v strikes h now (item.Look y)) n v w s).strikes_are ∙ look_none e v y y.way)
  step_keeps (item.Owe o) b r fits left lines is step = keeps_same e v w b (let s = subst (λ u. w ≡ after e (item_event e v strikes h now (item.Owe o)) n u) is step in (leaves e (item_event e v strikes h now (item.Owe o)) n v w s).strikes_are ∙ owe_none e v o)
  step_keeps (item.Recover m) b r fits left lines is step = keeps_same e v w b (let s = subst (λ u. w ≡ after e (item_event e v strikes h now (item.Recover m)) n u) is step in (leaves e (item_event e v strikes h now (item.Recover m)) n v w s).strikes_are ∙ replacing_none e v m m.phase)

-- Events that tell of no row let the view forget nothing.
module _ (e : Setting) where
  read_row : (b : ℕ) (h now : Option BlockCells) → names_row (reading_event b h now) ≡ false
  read_row b None now = refl
  read_row b (Some x) now = refl

  written_row : (h now : Option BlockCells) (duty : Duty) → names_row (writing_event e h now duty) ≡ false
  written_row None now duty = refl
  written_row (Some x) now duty = refl

  phase_row : (v : View) (h now : Option BlockCells) (duty : Duty) (y : Phase) → names_row (phase_event e v h now duty y) ≡ false
  phase_row v h now duty (phase.Ready made) = refl
  phase_row v h now duty (phase.Reading input) = by (nat_lt input (e.graph.inputs duty.key.0))
    where
      by : (b : Bool) → names_row (cond b (reading_event (e.graph.block (e.graph.pred duty.key.0 input).task) h now) (writing_event e h now duty)) ≡ false
      by true = read_row (e.graph.block (e.graph.pred duty.key.0 input).task) h now
      by false = written_row h now duty
  phase_row v h now duty phase.Writing = written_row h now duty

  blow_row : (k l b : ℕ) (x : BlockCells) (answer : Blow) → names_row (struck_home k l b answer x) ≡ false
  blow_row k l b x blow.Landed = refl
  blow_row k l b x blow.Missed = refl
  blow_row k l b x blow.Busy = refl

  pub struck_row : (v : View) (duty : Duty) (on : Target) (h now : Option BlockCells) → names_row (strike_event e v duty on h now) ≡ false
  struck_row v duty target.Descriptor h now = refl
  struck_row v duty (target.Notify w) h now = refl
  struck_row v duty target.Block None now = refl
  struck_row v duty target.Block (Some x) now = blow_row duty.key.0 duty.life (e.graph.block duty.key.0) x (blow_of (e.graph.version duty.key.0) x)

  pub compute_row : (v : View) (p : List Strike) (h now : Option BlockCells) (c : Compute) → names_row (item_event e v p h now (item.Compute c)) ≡ false
  compute_row v p h now c = by (strike_left e.graph p (item.Compute c))
    where
      by : (o : Option Next) → names_row (with_strike e v h now (item.Compute c) o) ≡ false
      by None = phase_row v h now c.duty c.phase
      by (Some next) = struck_row v c.duty next.target h now

  pub close_row : (v : View) (p : List Strike) (h now : Option BlockCells) (c : Close) → names_row (item_event e v p h now (item.Close c)) ≡ false
  close_row v p h now c = by (strike_left e.graph p (item.Close c))
    where
      by : (o : Option Next) → names_row (with_strike e v h now (item.Close c) o) ≡ false
      by None = refl
      by (Some next) = struck_row v c.duty next.target h now

  pub owe_row : (v : View) (o : Owe) → names_row (owe_event v o) ≡ false
  owe_row v o = by o.bought
    where
      by : (b : Bool) → names_row (cond b (post o.row o.job (Rattle.core_state.specs.Counts.known_key o.row v) o.life) buy) ≡ false
      by true = refl
      by false = refl

-- a view remembers what it knows
pub same_knows : (v : View) → Remembers v v
same_knows v = record { rows_stay = λ r k known. known; facts_stay = λ f. omega arith }

-- one way or the other
pub by_truth : {X : Type 0} (b : Bool) → (b ≡ true → X) → (b ≡ false → X) → X
by_truth true first second = first refl
by_truth false first second = second refl

-- a result that is made changes nothing that the view knows
pub prepared_knows : (g : Graph) (c : Compute) (v : View) → Remembers v (prepared g c v)
prepared_knows g c v = by (computes g c c.phase)
  where
    by : (b : Bool) → Remembers v (cond b (after_computed c.duty.key.0 c.duty.life v) v)
    by true = record { rows_stay = λ r k known. known; facts_stay = λ f. omega arith }
    by false = record { rows_stay = λ r k known. known; facts_stay = λ f. omega arith }

module _ {S : Type 0} {setting : S → Setting} {view : S → View} {made : S → ℕ} {last shown : S → ℕ × ℕ} {happened : S → Event → ℕ → S → Type 0} {lender : S → List ℕ} {others : S → List View} {s t : S} (spare : S → ℕ) where
  -- the step of an event that tells of no row
  pub stepped_knows : {prepare : View → View} {x : Event} → HasStepped setting view made spare last shown happened lender others prepare x s t → names_row x ≡ false → Remembers (view s) (prepare (view s)) → Remembers (view s) (view t)
  stepped_knows {prepare} {x} step apart same = let r = step.ready in
      remembers_on (view s) (prepare (view s)) (view t) same
      (subst (λ u. Remembers u (view t)) step.prepared_is (remembers_apart (setting r) x (shown t).1 (view r) (view t) apart step.step.view_is))

  -- its view, by the setting and the view before it
  pub stepped_view : {prepare : View → View} {x : Event} → (step : HasStepped setting view made spare last shown happened lender others prepare x s t) → view t ≡ after (setting s) x (shown t).1 (view step.ready)
  stepped_view {prepare} {x} step = subst (λ e. view t ≡ after e x (shown t).1 (view step.ready)) step.same_setting step.step.view_is

  pub stepped_sure : {prepare : View → View} {x : Event} → HasStepped setting view made spare last shown happened lender others prepare x s t → IsSure (setting s) (view t)
  stepped_sure {prepare} {x} step = subst (λ e. IsSure e (view t)) (step.step.table.same_setting ∙ step.same_setting) step.step.table.sure
