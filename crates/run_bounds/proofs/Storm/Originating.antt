-- Which sort the step of an item is.
use Rattle.std.proofs.Common.{◌≡◌, ◌⊎◌, ℕ, ◌+◌, ◌/◌, ◌<◌, ◌≤◌, Bool, true, false, cond, not, nat_lt, eqb, eq-eqb, List, [], ◌∷◌, length, Option, Some, None, ⊎_elim, inl, inr, arith, refl, ap, sym, ◌∙◌, subst}
use Rattle.std.proofs.lemmas.Bool.{lt-ltb, ltb-true}
use mathlib.Core.Option.{none}
use Rattle.graph_model.specs.Graph.{Graph as TaskGraph}
use Rattle.graph_model.specs.declared.plan.Strike.{Strike}
use Rattle.graph_model.specs.declared.plan.Target.{Target}
use Rattle.graph_model.specs.declared.plan.Target.TheVariants as target
use Rattle.graph_model.specs.declared.record.Cause.{Cause}
use Rattle.graph_model.specs.declared.record.Cause.TheVariants as cause
use Rattle.core_state.specs.Change.{Core}
use Rattle.core_state.specs.Counts.{count, hit, known_key}
use Rattle.core_state.specs.Effects.{after_computed, is_good}
use Rattle.core_state.specs.Events.{Event, after}
use Rattle.core_state.specs.Events.Event.{elect, finish, give_read, load_descriptor, post, renew_descriptor, renew_notify, spend}
use Rattle.core_state.specs.Graph.{Reached, Setting}
use Rattle.core_state.specs.Graph.Reached.{through}
use Rattle.core_state.specs.Guards.{KnowsRow, MakesStrike}
use Rattle.core_state.specs.Lines.{Line, HasLines, credit, first_ended, flat, of}
use Rattle.core_state.specs.Tests.{carries, is_any_suspect, is_ended}
use Rattle.core_state.specs.Words.{life_of, mark_of}
use Rattle.core_state.specs.declared.block.BlockCells.{BlockCells}
use Rattle.core_state.specs.declared.job.Job.TheVariants as job
use Rattle.core_state.specs.declared.views.Item.{Item as Carried}
use Rattle.core_state.specs.declared.views.Item.TheVariants as line
use Rattle.core_state.specs.declared.views.View.{View}
use Rattle.core_state.proofs.Base.Counting.{bump_is, two_here}
use Rattle.core_state.proofs.Lines.After.{line_stands, loaded_ready, loaded_successor, reads}
use Rattle.core_state.proofs.Lines.Counts.{missed_block, top_passes}
use Rattle.core_state.proofs.Lines.Ends.{ended_settled, settled_keeps}
use Rattle.core_state.proofs.Lines.Outcomes.{leaves}
use Rattle.core_state.proofs.Lines.Top.{at_work}
use Rattle.core_steps.specs.Serving.{first_waits, work_life, work_waits}
use Rattle.core_state.specs.Views.{strike_next, top_items}
use Rattle.block_store.specs.Turned.{blow_of, struck_home}
use Rattle.block_store.specs.declared.answers.Blow.{Blow}
use Rattle.block_store.specs.declared.answers.Blow.TheVariants as blow
use Rattle.recovery.specs.Happening.{owe_event, phase_event, turn_event, way_event}
use Rattle.recovery.specs.Memory.{KnowsKey}
use Rattle.recovery.specs.Owing.{owe_hints}
use Rattle.recovery.specs.Recovering.{Fits, FitsPhase as ReplacingFits, phase_lines, turn_hints}
use Rattle.recovery.specs.Reentering.{FitsWay, port_lines}
use Rattle.recovery.specs.declared.owe.Owe.{Owe}
use Rattle.recovery.specs.declared.recover.Phase.{Phase as Replacing}
use Rattle.recovery.specs.declared.recover.Phase.TheVariants as replacing
use Rattle.recovery.specs.declared.recover.Recover.{Recover}
use Rattle.recovery.specs.declared.reenter.Way.{Way as Entering}
use Rattle.recovery.specs.declared.reenter.Way.TheVariants as entering
use Rattle.recovery.proofs.Entering.{behind as rest_ports, port_top as reenter_top}
use Rattle.recovery.proofs.Knowing.{known_is, row_here, row_known}
use Rattle.compute_notify.specs.Eventing.{computes, explore_event, item_event, item_hints, item_prepared, look_event, notify_event, phase_event as compute_step, plain_event, reading_event, with_strike, writing_event}
use Rattle.compute_notify.specs.Items.{FitsPhase, FitsReaching, FitsTelling, Stands, compute_lines, first_port, is_over, item_lines}
use Rattle.compute_notify.specs.Resting.{FallsGood}
use Rattle.compute_notify.specs.Running.{Runs}
use Rattle.compute_notify.specs.Striking.{FitsHand, close_left, compute_left, strike_event, strike_left}
use Rattle.compute_notify.specs.Working.{ComputeHand, FitsTop, HasBlock}
use Rattle.compute_notify.specs.declared.close.Close.{Close}
use Rattle.compute_notify.specs.declared.compute.Compute.{Compute}
use Rattle.compute_notify.specs.declared.compute.Phase.{Phase}
use Rattle.compute_notify.specs.declared.compute.Phase.TheVariants as phase
use Rattle.compute_notify.specs.declared.duty.Duty.{Duty}
use Rattle.compute_notify.specs.declared.explore.Explore.{Explore}
use Rattle.compute_notify.specs.declared.explore.Way.{Way as Reaching}
use Rattle.compute_notify.specs.declared.explore.Way.TheVariants as reaching
use Rattle.compute_notify.specs.declared.item.Item.{Item}
use Rattle.compute_notify.specs.declared.item.Item.TheVariants as item
use Rattle.compute_notify.specs.declared.look.Look.{Look}
use Rattle.compute_notify.specs.declared.look.Way.{Way as Looking}
use Rattle.compute_notify.specs.declared.look.Way.TheVariants as looking
use Rattle.compute_notify.specs.declared.notify.Notify.{Notify}
use Rattle.compute_notify.specs.declared.notify.Way.{Way as Telling}
use Rattle.compute_notify.specs.declared.notify.Way.TheVariants as telling
use Rattle.compute_notify.proofs.Striking.Points.{ready_none}
use Rattle.compute_notify.proofs.Striking.Turns.{close_asks, explore_asks, ready_asks}
use Rattle.compute_notify.proofs.Telling.{behind, port_top}
use Rattle.compute_notify.proofs.Topmost.{close_unfinished}
use Rattle.run_bounds.specs.Struck.{IsBlamed}
use Rattle.run_bounds.proofs.Shared.Parts.{known_row}
use Rattle.run_bounds.specs.Shared.{IsPart, IsPlain, is_plain}
use Rattle.run_bounds.proofs.Storm.Sorts.{Plain, ReadBad, Sort}

-- there is nothing, or something
abbrev pub IsSome : {X : Type 0} → Option X → Type 0
IsSome {X} o = (x : X) × (o ≡ Some x)

pub none_or_some : {X : Type 0} (o : Option X) → (o ≡ None) ⊎ IsSome o
none_or_some None = inl refl
none_or_some (Some x) = inr (x, refl)

-- a plain line that stands first
plain_top : (e : Setting) (v : View) (z : Carried) (b : List Line) → flat v.stacks ≡ of z ∷ b → is_plain (of z) ≡ true → IsPlain v
plain_top e v z b top plain = record { first = of z; below = b; top = top; plain = plain }

-- what the view says of the suspect that stands first
waits_here : (v : View) (k l : ℕ) (c : Cause) (waits : Bool) (b : List Line) → flat v.stacks ≡ of (line.Suspect k l c waits) ∷ b → work_waits v ≡ waits
waits_here v k l c waits b top = let it = at_work v (line.Suspect k l c waits) b top in ap (λ ss. first_waits (top_items ss)) it.stacks_are ∙ ap first_waits it.items_are

life_here : (v : View) (k l d : ℕ) (b : List Line) → flat v.stacks ≡ of (line.Renew k l d) ∷ b → work_life v ≡ l
life_here v k l d b top = let it = at_work v (line.Renew k l d) b top in ap (λ ss. Rattle.core_steps.specs.Serving.first_life (top_items ss)) it.stacks_are ∙ ap Rattle.core_steps.specs.Serving.first_life it.items_are

-- a computing that reads a bad block has ended
bad_ends : (e : Setting) (v w : View) (n k l i : ℕ) (was : BlockCells) (b : List Line) → i < e.graph.inputs k → flat v.stacks ≡ of (line.Compute k l true i false) ∷ b → is_good (e.graph.version (e.graph.pred k i).task) was ≡ false → w ≡ after e (give_read (e.graph.block (e.graph.pred k i).task) was) n v → ReadBad v w
bad_ends e v w n k l i was b low top bad is = let a : ℕ = e.graph.block (e.graph.pred k i).task in let x : Event = give_read a was in record {
  key = k;
  life = l;
  held_before = top_passes (carries job.Compute k l) v (line.Compute k l true i false) b top (two_here k l);
  suspects_now = let u : ℕ = e.graph.version (e.graph.pred k i).task in let c : Cause = cause.Block a u (Rattle.core_state.specs.Effects.found_in u was) in
      let lines = reads e v w n k l i a was false false b low refl top (sym bad) is in top_passes is_any_suspect w (line.Suspect k l c false) b (line_stands e w (line.Suspect k l c false) b refl lines) refl;
  ended_now =
      let all = ap (count (is_ended job.Compute k l)) (ended_settled e x n v w (λ z. absurd cc) is) in
      let first : Rattle.core_state.specs.Outcome.ended_left e x n v ≡ record { job = job.Compute; key = k; life = l } ∷ v.ended =
      ap (λ ls. first_ended (Rattle.core_state.specs.Effects.read_ended e.graph a was) ls v.ended) top ∙ rw (lt-ltb i (e.graph.inputs k) low, eq-eqb a a refl, bad) in
      let kept = settled_keeps e.graph e.plan w.strikes job.Compute k l (Rattle.core_state.specs.Outcome.lines_left e x n v (flat v.stacks)) (Rattle.core_state.specs.Outcome.ended_left e x n v) in
      let one = ap (count (is_ended job.Compute k l)) first in let c = bump_is (Rattle.core_state.specs.Tests.two k l k l) (count (is_ended job.Compute k l) v.ended) in let d = ap hit (two_here k l) in omega (arith, all, kept, one, c, d);
}

module _ {e : Setting} {s : Core} {v : View} (part : IsPart e s v) (w : View) (g : TaskGraph) (p : List Strike) (lives : ℕ) (runs : Runs g p lives e) (n : ℕ) (h now : Option BlockCells) (before rest : ℕ) where
  abbrev Falls : Type 0
  Falls = rest + 1 ≤ before

  abbrev SortOf : View → Item → Event → List ℕ → Type 0
  SortOf u y x rows = Sort e p v u w n Falls y x rows

  reached : (r k : ℕ) → KnowsKey e v r k → Reached e.graph k
  reached r k knows = part.holds.keys.reached r k (known_row part r k (row_known e v r k knows).row_known)

  -- the word of a port is one of the table
  port_word : (a q : ℕ) → q < e.graph.ports a → q / 40 < e.shape.notify_words
  port_word a q low = let b = part.sound.lawful.enough_words a q low in let c = part.sound.words_fit a in omega (arith, b, c)

  -- a strike
  module _ (y : Item) (duty : Duty) (z : Carried) (b : List Line) (top : flat v.stacks ≡ of z ∷ b) (plain : is_plain (of z) ≡ true) (knows : KnowsKey e v duty.row duty.key.0) where
    own_low : e.graph.block duty.key.0 < e.shape.blocks
    own_low = part.sound.blocks_fit duty.key.0 (reached duty.row duty.key.0 knows)

    strikes_block : (o : Option BlockCells) → FitsHand e v duty.key.0 duty.life o → MakesStrike e v duty.key.0 duty.life target.Block → w ≡ after e (strike_event e v duty target.Block o now) n v → SortOf v y (strike_event e v duty target.Block o now) []
    strikes_block None hand makes is = Sort.serves (hand, own_low) (plain_top e v z b top plain) refl
    strikes_block (Some x) hand makes is = by (blow_of (e.graph.version duty.key.0) x) refl is
      where
        by : (a : Blow) → blow_of (e.graph.version duty.key.0) x ≡ a → w ≡ after e (struck_home duty.key.0 duty.life (e.graph.block duty.key.0) a x) n v → SortOf v y (struck_home duty.key.0 duty.life (e.graph.block duty.key.0) a x) []
        by blow.Landed told here = Sort.serves tt (plain_top e v z b top plain) refl
        by blow.Busy told here = absurd (to (is_good (e.graph.version duty.key.0) x) told)
          where
            to : (f : Bool) → cond f blow.Landed blow.Missed ≡ blow.Busy → ⊥
            to true same = cc
            to false same = cc
        by blow.Missed told here = Sort.serves (inr (inr (let a = (leaves e (give_read (e.graph.block duty.key.0) x) n v w here).strikes_are ∙ missed_block e v (e.graph.block duty.key.0) makes.strike x makes.is_next makes.on_target
            (ap e.graph.block (sym makes.of_key)) (ap (λ k. is_good (e.graph.version k) x) makes.of_key ∙ bad (is_good (e.graph.version duty.key.0) x) told) in let c = ap length a in omega (arith, c)))) (plain_top e v z b top plain) refl
          where
            bad : (f : Bool) → cond f blow.Landed blow.Missed ≡ blow.Missed → f ≡ false
            bad true same = absurd cc
            bad false same = refl

    strikes : (on : Target) → FitsHand e v duty.key.0 duty.life h → MakesStrike e v duty.key.0 duty.life on → w ≡ after e (strike_event e v duty on h now) n v → SortOf v y (strike_event e v duty on h now) []
    strikes target.Descriptor hand makes is = Sort.serves tt (plain_top e v z b top plain) refl
    strikes (target.Notify m) hand makes is = Sort.serves tt (plain_top e v z b top plain) refl
    strikes target.Block hand makes is = strikes_block h hand makes is

  -- a place of an exploring
  explores : (x : Explore) → Stands g e v (item.Explore x) → SortOf v (item.Explore x) (plain_event e v h now (item.Explore x)) []
  explores x stands = Sort.serves (by (nat_lt x.place (e.graph.places x.duty.key.0)) x.way stands.fits.reaching) (plain_top e v (line.Explore x.duty.key.0 x.duty.life x.place) stands.top.below (line_stands e v (line.Explore x.duty.key.0 x.duty.life x.place) stands.top.below refl stands.top.lines_are) refl) refl
    where
      own : KnowsRow e v x.duty.row (known_key x.duty.row v)
      own = row_here e v x.duty.row x.duty.key.0 stands.fits.duty.known

      by : (b : Bool) (way : Reaching) → FitsReaching e v x.duty.key.0 x.place way → Plain e v v w n Falls (cond b (explore_event e v x way) (spend x.duty.row (known_key x.duty.row v) 40))
      by true reaching.Start fits = tt
      by true (reaching.Seek q) fits = tt
      by true (reaching.Register r) fits = (row_here e v r (e.graph.pred x.duty.key.0 x.place).task fits.1, port_word (e.graph.pred x.duty.key.0 x.place).task (e.graph.pred x.duty.key.0 x.place).port (part.sound.lawful.back x.duty.key.0 x.place fits.0).0)
      by true reaching.Spend fits = own
      by false way fits = own

  -- a port that is told
  tells : (m : Notify) → Stands g e v (item.Notify m) → is_over e.graph p (item.Notify m) ≡ false → SortOf v (item.Notify m) (plain_event e v h now (item.Notify m)) []
  tells m stands left = Sort.serves (by m.way stands.fits.telling) (plain_top e v (line.Notify m.key.0 m.life m.word (first_port m ∷ behind m)) stands.top.below (port_top g e v m (λ z. absurd (let a : true ≡ false = sym (eq-eqb m.ports 0 z) ∙ left in cc)) stands.fits stands.top.below stands.top.lines_are) refl) refl
    where
      by : (way : Telling) → FitsTelling e v m way → Plain e v v w n Falls (notify_event e v m way)
      by telling.Start fits = tt
      by (telling.Seek q) fits = tt
      by (telling.Spend r) fits = row_here e v r (e.graph.succ m.key.0 (first_port m)).task fits.1

  -- the way to the writer of a bad block
  looks : (x : Look) → Stands g e v (item.Look x) → SortOf v (item.Look x) (plain_event e v h now (item.Look x)) []
  looks x stands = Sort.serves (by x.way) (plain_top e v (line.Suspect x.duty.key.0 x.duty.life x.cause false) stands.top.below (line_stands e v (line.Suspect x.duty.key.0 x.duty.life x.cause false) stands.top.below refl stands.top.lines_are)
      (ap (λ c. is_plain (of (line.Suspect x.duty.key.0 x.duty.life c false))) stands.fits.cause_is)) refl
    where
      by : (way : Looking) → Plain e v v w n Falls (look_event e v x way)
      by looking.Start = tt
      by (looking.Seek q) = tt
      by (looking.Load r) = tt

  -- a job that is owed is bought a credit, and then posted
  owes : (y : Item) (o : Owe) (below : List Line) → KnowsKey e v o.row o.key.0 → flat v.stacks ≡ of (line.Owe o.key.0 o.job o.life) ∷ below → SortOf v y (owe_event v o) (owe_hints o [])
  owes y o below knows top = by o.bought
    where
      by : (b : Bool) → SortOf v y (cond b (post o.row o.job (known_key o.row v) o.life) Rattle.core_state.specs.Events.Event.buy) (cond b (o.row ∷ []) [])
      by true = Sort.posts o.row o.job o.key.0 o.life below (ap (λ k. post o.row o.job k o.life) (known_is e v o.row o.key.0 knows)) refl refl (row_known e v o.row o.key.0 knows) top
      by false = Sort.serves tt (plain_top e v (line.Owe o.key.0 o.job o.life) below top refl) refl

  -- a computing, away from strikes
  module _ (c : Compute) (stands : Stands g e v (item.Compute c)) where
    -- the load of its descriptor: a mark makes its life suspect
    loads : (made : ℕ) → HasLines e v (of (line.Compute c.duty.key.0 c.duty.life false 0 false) ∷ stands.top.below) → strike_next e.graph e.plan v ≡ none → w ≡ after e (load_descriptor c.duty.row (known_key c.duty.row v)) n v → SortOf v (item.Compute c) (load_descriptor c.duty.row (known_key c.duty.row v)) []
    loads made lines no_strike is = let b : List Line = stands.top.below in
        let top = line_stands e v (line.Compute c.duty.key.0 c.duty.life false 0 false) b refl lines in
        let same = known_is e v c.duty.row c.duty.key.0 stands.fits.duty.known in
        Sort.serves (
          row_here e v c.duty.row c.duty.key.0 stands.fits.duty.known,
          λ marked. subst (λ q. IsBlamed w q (life_of n)) (sym same)
              (let after_load = loaded_ready e v w n c.duty.key.0 c.duty.life 0 false true (eqb (life_of n) c.duty.life) b top no_strike (sym (eq-eqb (mark_of n) 1 marked)) refl (subst (λ q. w ≡ after e (load_descriptor c.duty.row q) n v) same is) in
              record { cause = cause.Descriptor; waits = false; below = b; marked = refl; top = line_stands e w (line.Suspect c.duty.key.0 (life_of n) cause.Descriptor false) b refl after_load }),
        )
        (plain_top e v (line.Compute c.duty.key.0 c.duty.life false 0 false) b top refl) refl

    own_fits : e.graph.block c.duty.key.0 < e.shape.blocks
    own_fits = part.sound.blocks_fit c.duty.key.0 (reached c.duty.row c.duty.key.0 stands.fits.duty.known)

    input_fits : (i : ℕ) → i < e.graph.inputs c.duty.key.0 → e.graph.block (e.graph.pred c.duty.key.0 i).task < e.shape.blocks
    input_fits i low = let few = part.sound.lawful.few_inputs c.duty.key.0 in
        part.sound.blocks_fit (e.graph.pred c.duty.key.0 i).task (through c.duty.key.0 i (reached c.duty.row c.duty.key.0 stands.fits.duty.known) (omega (arith, low, few)))

    -- the view from which a computing makes its step
    abbrev from : Phase → View
    from q = cond (computes e.graph c q) (after_computed c.duty.key.0 c.duty.life v) v

    reading : (input : ℕ) → flat v.stacks ≡ of (line.Compute c.duty.key.0 c.duty.life true input false) ∷ stands.top.below → (o : Option BlockCells) → (b : Bool) → nat_lt input (e.graph.inputs c.duty.key.0) ≡ b
        → cond b (HasBlock e v (e.graph.block (e.graph.pred c.duty.key.0 input).task) o) ((v.hands ≡ []) × (o ≡ None))
        → ((was : BlockCells) → o ≡ Some was → input < e.graph.inputs c.duty.key.0 → is_good (e.graph.version (e.graph.pred c.duty.key.0 input).task) was ≡ true → Falls)
        → w ≡ after e (cond b (reading_event (e.graph.block (e.graph.pred c.duty.key.0 input).task) o now) (writing_event e o now c.duty)) n (cond (not b) (after_computed c.duty.key.0 c.duty.life v) v)
        → Plain e v (cond (not b) (after_computed c.duty.key.0 c.duty.life v) v) w n Falls (cond b (reading_event (e.graph.block (e.graph.pred c.duty.key.0 input).task) o now) (writing_event e o now c.duty))
    reading input top None true is hand good step = (hand, input_fits input (ltb-true input (e.graph.inputs c.duty.key.0) is))
    reading input top (Some was) true is hand good step = by (is_good (e.graph.version (e.graph.pred c.duty.key.0 input).task) was) refl
      where
        by : (f : Bool) → is_good (e.graph.version (e.graph.pred c.duty.key.0 input).task) was ≡ f → Plain e v v w n Falls (give_read (e.graph.block (e.graph.pred c.duty.key.0 input).task) was)
        by true fine = inl (good was refl (ltb-true input (e.graph.inputs c.duty.key.0) is) fine)
        by false bad = inr (inl (bad_ends e v w n c.duty.key.0 c.duty.life input was stands.top.below (ltb-true input (e.graph.inputs c.duty.key.0) is) top bad step))
    reading input top None false is hand good step = (hand.0, own_fits)
    reading input top (Some was) false is hand good step = absurd (let a = hand.1 in cc)

    writes_own : (o : Option BlockCells) → HasBlock e v (e.graph.block c.duty.key.0) o → flat v.stacks ≡ of (line.Compute c.duty.key.0 c.duty.life true (e.graph.inputs c.duty.key.0) true) ∷ stands.top.below → Plain e v v w n Falls (writing_event e o now c.duty)
    writes_own None free top = (free, own_fits)
    writes_own (Some was) held top = (true, e.graph.inputs c.duty.key.0, true, stands.top.below, top)

    computes_so : (q : Phase) → c.phase ≡ q → HasLines e v (compute_lines e.graph c.duty q stands.top.below) → ComputeHand e v c.duty q h
        → ((input : ℕ) (was : BlockCells) → q ≡ phase.Reading input → h ≡ Some was → input < e.graph.inputs c.duty.key.0 → is_good (e.graph.version (e.graph.pred c.duty.key.0 input).task) was ≡ true → Falls)
        → compute_left e.graph p c.duty q ≡ None → w ≡ after e (compute_step e v h now c.duty q) n (from q) → SortOf (from q) (item.Compute c) (compute_step e v h now c.duty q) []
    computes_so (phase.Ready made) at lines hand good none_left step = loads made lines (ready_none g p lives e v runs c.duty made (subst (FitsPhase e v c.duty.key.0 c.duty.life) at stands.fits.in_phase)
        (at_work v (line.Compute c.duty.key.0 c.duty.life false 0 false) stands.top.below (line_stands e v (line.Compute c.duty.key.0 c.duty.life false 0 false) stands.top.below refl lines)) none_left) step
    computes_so (phase.Reading input) at lines hand good none_left step = let top = line_stands e v (line.Compute c.duty.key.0 c.duty.life true input false) stands.top.below refl lines in
        Sort.serves (reading input top h (nat_lt input (e.graph.inputs c.duty.key.0)) refl hand (λ was is low fine. good input was refl is low fine) step) (plain_top e v (line.Compute c.duty.key.0 c.duty.life true input false) stands.top.below top refl) refl
    computes_so phase.Writing at lines hand good none_left step = let top = line_stands e v (line.Compute c.duty.key.0 c.duty.life true (e.graph.inputs c.duty.key.0) true) stands.top.below refl lines in
        Sort.serves (writes_own h hand top) (plain_top e v (line.Compute c.duty.key.0 c.duty.life true (e.graph.inputs c.duty.key.0) true) stands.top.below top refl) refl

  -- a replacement
  module _ (r : Recover) (below : List Line) (fits : Fits g e v r) where
    same_key : known_key r.row v ≡ r.key.0
    same_key = known_is e v r.row r.key.0 fits.known

    row : KnowsRow e v r.row r.key.0
    row = row_known e v r.row r.key.0 fits.known

    elects_so : flat v.stacks ≡ of (line.Suspect r.key.0 r.life r.cause r.wait) ∷ below → SortOf v (item.Recover r) (elect r.row (known_key r.row v) r.life r.cause (work_waits v)) []
    elects_so top = Sort.elects r.row r.key.0 r.life r.cause r.wait below (ap (λ k. elect r.row k r.life r.cause (work_waits v)) same_key ∙ ap (elect r.row r.key.0 r.life r.cause) (waits_here v r.key.0 r.life r.cause r.wait below top)) refl refl row top

    renews_so : (done : ℕ) → flat v.stacks ≡ of (line.Renew r.key.0 r.life done) ∷ below → (b : Bool) → SortOf v (item.Recover r) (cond b (renew_notify r.row (known_key r.row v) (work_life v) done) (renew_descriptor r.row (known_key r.row v) (work_life v))) []
    renews_so done top b = by b
      where
        by : (b : Bool) → SortOf v (item.Recover r) (cond b (renew_notify r.row (known_key r.row v) (work_life v) done) (renew_descriptor r.row (known_key r.row v) (work_life v))) []
        by true = Sort.renews r.row r.key.0 r.life done below (inl (ap (λ k. renew_notify r.row k (work_life v) done) same_key ∙ ap (λ m. renew_notify r.row r.key.0 m done) (life_here v r.key.0 r.life done below top))) refl refl row top
        by false = Sort.renews r.row r.key.0 r.life done below (inr (inl (ap (λ k. renew_descriptor r.row k (work_life v)) same_key ∙ ap (renew_descriptor r.row r.key.0) (life_here v r.key.0 r.life done below top)))) refl refl row top

    ends_so : (done : ℕ) → flat v.stacks ≡ of (line.Renew r.key.0 r.life done) ∷ below → SortOf v (item.Recover r) (finish r.row (known_key r.row v) (work_life v)) []
    ends_so done top = Sort.renews r.row r.key.0 r.life done below (inr (inr (ap (λ k. finish r.row k (work_life v)) same_key ∙ ap (finish r.row r.key.0) (life_here v r.key.0 r.life done below top)))) refl refl row top

    -- a port of its successors
    enters : (q : ℕ) (way : Entering) → q < e.graph.ports r.key.0 → FitsWay e v r.key.0 q way → flat v.stacks ≡ of (line.Reenter r.key.0 (r.life + 1) (q ∷ rest_ports e.graph r.key.0 q)) ∷ below → w ≡ after e (way_event e v r.row r.key.0 q way) n v → SortOf v (item.Recover r) (way_event e v r.row r.key.0 q way) []
    enters q way low fit top is = Sort.serves (by way fit is) (plain_top e v (line.Reenter r.key.0 (r.life + 1) (q ∷ rest_ports e.graph r.key.0 q)) below top refl) refl
      where
        by : (way : Entering) → FitsWay e v r.key.0 q way → w ≡ after e (way_event e v r.row r.key.0 q way) n v → Plain e v v w n Falls (way_event e v r.row r.key.0 q way)
        by entering.Start a step = tt
        by (entering.Seek z) a step = tt
        by (entering.Load at) a step = let next : ℕ = (e.graph.succ r.key.0 q).task in let same = known_is e v at next a in (
          row_here e v at next a,
          λ marked. subst (λ z. IsBlamed w z (life_of n)) (sym same)
              (let ports : List ℕ = rest_ports e.graph r.key.0 q in let spent : Bool = eqb (Rattle.std.specs.Int.bit_at n (e.graph.succ r.key.0 q).place) 1 in
              let loaded = loaded_successor e v w n r.key.0 (r.life + 1) q ports true spent below top (sym (eq-eqb (mark_of n) 1 marked)) refl (subst (λ z. w ≡ after e (load_descriptor at z) n v) same step) in
              record { cause = cause.Descriptor; waits = false; below = of (line.Reenter r.key.0 (r.life + 1) ports) ∷ below; marked = refl; top = line_stands e w (line.Suspect next (life_of n) cause.Descriptor false) (of (line.Reenter r.key.0 (r.life + 1) ports) ∷ below) refl loaded }),
        )
        by (entering.Register at) a step = (row_here e v r.row r.key.0 fits.known, port_word r.key.0 q low)
        by (entering.Spend at) a step = row_here e v at (e.graph.succ r.key.0 q).task a.0

    recovers : HasLines e v (item_lines e.graph (item.Recover r) below) → is_over e.graph p (item.Recover r) ≡ false → w ≡ after e (turn_event e v r) n v → SortOf v (item.Recover r) (turn_event e v r) (item_hints (item.Recover r) [])
    recovers lines left is = by r.phase fits.in_phase lines left is
      where
        by : (q : Replacing) → ReplacingFits g e v r.key.0 r.life r.lives q → HasLines e v (phase_lines e.graph r.key.0 r.life r.cause r.wait q below) → Rattle.recovery.specs.Recovering.is_over q ≡ false → w ≡ after e (phase_event e v r q) n v → SortOf v (item.Recover r) (phase_event e v r q) (turn_hints q [])
        by replacing.Suspect f ls some step = elects_so (line_stands e v (line.Suspect r.key.0 r.life r.cause r.wait) below refl ls)
        by (replacing.Renew done) f ls some step = renews_so done (line_stands e v (line.Renew r.key.0 r.life done) below refl ls) (nat_lt done (e.graph.notify_words r.key.0))
        by replacing.Finish f ls some step = ends_so (e.graph.notify_words r.key.0 + 1) (line_stands e v (line.Renew r.key.0 r.life (e.graph.notify_words r.key.0 + 1)) below refl ls)
        by (replacing.Owe owe behind) f ls some step = let under : List Line = port_lines e.graph r.key.0 (r.life + 1) behind.port below in owes (item.Recover r) owe under f.0.known (line_stands e v (line.Owe owe.key.0 owe.job owe.life) under refl ls)
        by (replacing.Reenter reenter) f ls some step = enters reenter.port reenter.way f.0 f.2 (reenter_top e v r.key.0 (r.life + 1) reenter.port below f.0 ls) step
        by replacing.Passed f ls some step = absurd cc
        by replacing.Over f ls some step = absurd cc

  -- an item away from strikes
  plainly : (y : Item) → Stands g e v y → FitsTop e v h y → is_over e.graph p y ≡ false → strike_left e.graph p y ≡ None → FallsGood e h y before rest → w ≡ after e (plain_event e v h now y) n (item_prepared e.graph y v) → SortOf (item_prepared e.graph y v) y (plain_event e v h now y) (item_hints y [])
  plainly item.Credit stands top left none_left good is = Sort.serves tt (record { first = credit; below = stands.top.below; top = stands.top.lines_are.lines_are; plain = refl }) refl
  plainly (item.Explore x) stands top left none_left good is = explores x stands
  plainly (item.Compute c) stands top left none_left good is = computes_so c stands c.phase refl stands.top.lines_are top (λ input was reading_is hand low fine. good (record { input = input; was = was; reading = reading_is; is_input = low; in_hand = hand; good = fine })) none_left is
  plainly (item.Close c) stands top left none_left good is = Sort.closes c refl none_left
  plainly (item.Notify m) stands top left none_left good is = tells m stands left
  plainly (item.Look x) stands top left none_left good is = looks x stands
  plainly (item.Owe o) stands top left none_left good is = owes (item.Owe o) o stands.top.below stands.fits.known (line_stands e v (line.Owe o.key.0 o.job o.life) stands.top.below refl stands.top.lines_are)
  plainly (item.Recover r) stands top left none_left good is = recovers r stands.top.below stands.fits stands.top.lines_are left is

  -- a strike that is left at the item's point
  abbrev Strikes : View → Item → Type 0
  Strikes u y = (some : IsSome (strike_left e.graph p y)) → w ≡ after e (with_strike e v h now y (Some some.0)) n u → SortOf u y (with_strike e v h now y (Some some.0)) (item_hints y [])

  struck_phase : (c : Compute) → Stands g e v (item.Compute c) → (q : Phase) → c.phase ≡ q → ComputeHand e v c.duty q h → (some : IsSome (compute_left e.graph p c.duty q)) → w ≡ after e (with_strike e v h now (item.Compute c) (Some some.0)) n (cond (computes e.graph c q) (after_computed c.duty.key.0 c.duty.life v) v)
      → SortOf (cond (computes e.graph c q) (after_computed c.duty.key.0 c.duty.life v) v) (item.Compute c) (with_strike e v h now (item.Compute c) (Some some.0)) []
  struck_phase c stands (phase.Ready made) at hand some go = let it : Stands g e v (item.Compute (record { duty = c.duty; phase = phase.Ready made })) = subst (λ q. Stands g e v (item.Compute (record { duty = c.duty; phase = q }))) at stands in
      strikes (item.Compute c) c.duty (line.Compute c.duty.key.0 c.duty.life false 0 false) it.top.below (line_stands e v (line.Compute c.duty.key.0 c.duty.life false 0 false) it.top.below refl it.top.lines_are) refl stands.fits.duty.known _ hand (ready_asks g p lives e v runs some.0 c.duty made it some.1) go
  struck_phase c stands (phase.Reading input) at hand some go = absurd (let a = some.1 in cc)
  struck_phase c stands phase.Writing at hand some go = absurd (let a = some.1 in cc)

  not_over : (c : Close) → IsSome (strike_left e.graph p (item.Close c)) → is_over e.graph p (item.Close c) ≡ false
  not_over c some = by (nat_lt c.word (e.graph.notify_words c.duty.key.0)) refl
    where
      by : (b : Bool) → nat_lt c.word (e.graph.notify_words c.duty.key.0) ≡ b → is_over e.graph p (item.Close c) ≡ false
      by true low = rw low
      by false low = let left : close_left e.graph p c ≡ Some some.0 = some.1 in rw (left, low)

  struck : (y : Item) → Stands g e v y → FitsTop e v h y → Strikes (item_prepared e.graph y v) y
  struck item.Credit stands top = λ some step. absurd (let a = some.1 in cc)
  struck (item.Explore x) stands top = λ some step. strikes (item.Explore x) x.duty (line.Explore x.duty.key.0 x.duty.life x.place) stands.top.below (line_stands e v (line.Explore x.duty.key.0 x.duty.life x.place) stands.top.below refl stands.top.lines_are) refl stands.fits.duty.known _ top (explore_asks g p lives e v runs some.0 x stands some.1) step
  struck (item.Compute c) stands top = λ some step. struck_phase c stands c.phase refl top some step
  struck (item.Close c) stands top = λ some step. strikes (item.Close c) c.duty (line.Close c.duty.key.0 c.duty.life c.word) stands.top.below
      (line_stands e v (line.Close c.duty.key.0 c.duty.life c.word) stands.top.below (close_unfinished g p lives e v runs c stands.fits (not_over c some)) stands.top.lines_are) refl stands.fits.duty.known _ top (close_asks g p lives e v runs some.0 c stands some.1) step
  struck (item.Notify m) stands top = λ some step. absurd (let a = some.1 in cc)
  struck (item.Look x) stands top = λ some step. absurd (let a = some.1 in cc)
  struck (item.Owe o) stands top = λ some step. absurd (let a = some.1 in cc)
  struck (item.Recover r) stands top = λ some step. absurd (let a = some.1 in cc)

  -- the sort of an item's step
  pub sort_of : (y : Item) → Stands g e v y → FitsTop e v h y → is_over e.graph p y ≡ false → FallsGood e h y before rest → w ≡ after e (item_event e v p h now y) n (item_prepared e.graph y v) → SortOf (item_prepared e.graph y v) y (item_event e v p h now y) (item_hints y [])
  sort_of y stands top left good is = ⊎_elim
      (λ none_left. let same : item_event e v p h now y ≡ plain_event e v h now y = ap (with_strike e v h now y) none_left in
      subst (λ x. SortOf (item_prepared e.graph y v) y x (item_hints y [])) (sym same) (plainly y stands top left none_left good (subst (λ x. w ≡ after e x n (item_prepared e.graph y v)) same is)))
      (λ some. let same : item_event e v p h now y ≡ with_strike e v h now y (Some some.0) = ap (with_strike e v h now y) some.1 in
      subst (λ x. SortOf (item_prepared e.graph y v) y x (item_hints y [])) (sym same) (struck y stands top some (subst (λ x. w ≡ after e x n (item_prepared e.graph y v)) same is)))
      (none_or_some (strike_left e.graph p y))
