-- The halves of the reading of an input: what they ask and what they come to.
use Rattle.std.proofs.Common.{◌≡◌, ℕ, ◌+◌, ◌-◌, ◌*◌, ◌<◌, ◌≤◌, Bool, true, false, cond, List, [], ◌∷◌, Option, Some, None, inl, inr, arith, ap, sym, refl, ◌∙◌, subst}
use Rattle.std.proofs.lemmas.Bool.{lt-ltb}
use mathlib.Core.Option.{none}
use Rattle.graph_model.specs.Graph.{Graph as TaskGraph}
use Rattle.graph_model.specs.declared.plan.Strike.{Strike}
use Rattle.graph_model.specs.declared.record.Cause.{Cause}
use Rattle.graph_model.specs.declared.record.Cause.TheVariants as cause
use Rattle.graph_model.specs.declared.record.Found.{Found}
use Rattle.core_state.specs.Guards.{AtWork, CanTakeTurn}
use Rattle.core_state.specs.Change.{no_cells}
use Rattle.core_state.specs.Effects.{found_in, is_good, missed_by}
use Rattle.core_state.specs.Graph.{Setting}
use Rattle.core_state.specs.Events.{after}
use Rattle.core_state.specs.Events.Event.{give_read, take_turn}
use Rattle.core_state.specs.Lines.{HasLines, of}
use Rattle.core_state.specs.Views.{strike_next}
use Rattle.core_state.specs.declared.block.BlockCells.{BlockCells}
use Rattle.core_state.specs.declared.views.Item.{Item as Work}
use Rattle.core_state.specs.declared.views.Item.TheVariants as line
use Rattle.core_state.specs.declared.views.View.{View}
use Rattle.core_state.proofs.Lines.After.{reads, takes_turn}
use Rattle.core_state.proofs.Lines.Outcomes.{leaves}
use Rattle.core_state.proofs.Lines.Top.{at_work, first_strike}
use Rattle.core_steps.specs.Seat.{TurnTells, cells_in}
use Rattle.block_store.specs.Turned.{IsTaken, ReadsNext, read_of}
use Rattle.block_store.specs.declared.answers.Read.TheVariants as read
use Rattle.recovery.specs.Memory.{Remembers}
use Rattle.recovery.proofs.Knowing.{key_stays, remembers_apart}
use Rattle.compute_notify.specs.Eventing.{compute_event, reading_event, writing_event}
use Rattle.compute_notify.specs.Items.{Goes, Stands, item_lines}
use Rattle.compute_notify.specs.Resting.{Excuses, LetsFall, ReadsGood, after_rest, closing_rest, item_rest, phase_rest, suspect_rest}
use Rattle.compute_notify.specs.Resting.Excuses.{bad, taken}
use Rattle.compute_notify.specs.Running.{Runs}
use Rattle.compute_notify.specs.Working.{AfterHand, ComputeHand, FitsTop, HasBlock}
use Rattle.compute_notify.specs.declared.compute.Compute.{Compute}
use Rattle.compute_notify.specs.declared.compute.Phase.TheVariants as phase
use Rattle.compute_notify.specs.declared.item.After.{After}
use Rattle.compute_notify.specs.declared.item.Came.TheVariants as came
use Rattle.compute_notify.specs.declared.item.Item.TheVariants as item
use Rattle.compute_notify.specs.declared.look.Way.TheVariants as looking
use Rattle.compute_notify.proofs.Computing.Lines.{fits_later, reading_top}

-- what the answer of a reading tells of the block
pub good_was : (version : ℕ) (x : BlockCells) → read.Good ≡ read_of version x → is_good version x ≡ true
good_was version x told = by (is_good version x) told
  where
    by : (b : Bool) → read.Good ≡ cond b read.Good (read.Bad (found_in version x)) → b ≡ true
    by true z = refl
    by false z = absurd cc

pub bad_was : (version : ℕ) (x : BlockCells) (found : Found) → read.Bad found ≡ read_of version x → (is_good version x ≡ false) × (found ≡ found_in version x)
bad_was version x found told = by (is_good version x) told
  where
    by : (b : Bool) → read.Bad found ≡ cond b read.Good (read.Bad (found_in version x)) → (b ≡ false) × (found ≡ found_in version x)
    by true z = absurd cc
    by false z = (refl, cc)

pub never_busy : (version : ℕ) (x : BlockCells) → read.Busy ≡ read_of version x → ⊥
never_busy version x told = by (is_good version x) told
  where
    by : (b : Bool) → read.Busy ≡ cond b read.Good (read.Bad (found_in version x)) → ⊥
    by true z = absurd cc
    by false z = absurd cc

-- what is read as bad was not good
pub not_good : (e : Setting) (h : Option BlockCells) (c : Compute) (input version : ℕ) (x : BlockCells) → c.phase ≡ phase.Reading input → h ≡ Some x → version ≡ e.graph.version (e.graph.pred c.duty.key.0 input).task → is_good version x ≡ false → ReadsGood e h c → ⊥
not_good e h c input version x reading full of_version poor reads =
    let at : phase.Reading reads.input ≡ phase.Reading input = sym reads.reading ∙ reading in let same : reads.input ≡ input = cc in
    let has : Some reads.was ≡ Some x = sym reads.in_hand ∙ full in let held : reads.was ≡ x = cc in
    let good : is_good version x ≡ true = ap (λ u. is_good u x) of_version ∙ ap (λ i. is_good (e.graph.version (e.graph.pred c.duty.key.0 i).task) x) (sym same) ∙ ap (is_good (e.graph.version (e.graph.pred c.duty.key.0 reads.input).task)) (sym held) ∙ reads.good in
    let no : true ≡ false = sym good ∙ poor in cc

-- the computing, at this input
abbrev pub at_input : Compute → ℕ → After
at_input c input = record { left = Some (item.Compute (record c { phase = phase.Reading input })); came = came.Nothing }

-- the look at the writer of a bad block
abbrev pub looks_at : Compute → ℕ → Cause → After
looks_at c input why = record { left = Some (item.Look (record { duty = c.duty; cause = why; input = input; way = looking.Start })); came = came.Nothing }

-- the weight of the inputs that are left
take_weighs : (d r k : ℕ) → ((2 * d + 2 - 1) + (r + 2) + k) + 1 ≤ (2 * d + 2 - 0) + (r + 2) + k
take_weighs d r k = omega arith

good_weighs : (i n r k : ℕ) → n < i → ((2 * (i - (n + 1)) + 2 - 0) + (r + 2) + k) + 1 ≤ (2 * (i - n) + 2 - 1) + (r + 2) + k
good_weighs i n r k low = omega (arith, low)

bad_weighs : (d r k a b : ℕ) → (r + 1) + a + b ≤ ((2 * d + 2 - 1) + (r + 2) + k) + (a + b)
bad_weighs d r k a b = omega arith

module _ (g : TaskGraph) (e : Setting) (v : View) (c : Compute) (input : ℕ) (strikes : List Strike) (lives : ℕ) (runs : Runs g strikes lives e) (stands : Stands g e v (item.Compute c)) (reading : c.phase ≡ phase.Reading input) (low : input < e.graph.inputs c.duty.key.0) where
  abbrev k : ℕ
  k = c.duty.key.0

  abbrev p : ℕ
  p = (e.graph.pred c.duty.key.0 input).task

  abbrev now_line : Work
  now_line = line.Compute c.duty.key.0 c.duty.life true input false

  pub is_place : input < e.graph.places c.duty.key.0
  is_place = let few = runs.serves.lawful.few_inputs c.duty.key.0 in omega (arith, few, low)

  work : AtWork v now_line
  work = at_work v now_line stands.top.below (reading_top e v c input reading stands.top.below stands.top.lines_are)

  none_reading : strike_next e.graph e.plan v ≡ none
  none_reading = first_strike e.graph e.plan v now_line stands.top.below (reading_top e v c input reading stands.top.below stands.top.lines_are)

  pub may_take : (b : ℕ) → b ≡ e.graph.block p → b ≤ g.block_count → v.hands ≡ [] → CanTakeTurn e v b
  may_take b here inside free = record {
    low = let all = runs.blocks_are in omega (arith, all, inside);
    free = free;
    of_root = λ is. absurd (runs.serves.lawful.root_alone k input is_place (runs.serves.lawful.root_block.1 p (sym here ∙ is)));
  }

  pub next_read : (b version : ℕ) → b ≡ e.graph.block p → version ≡ e.graph.version p → ReadsNext e v b version
  next_read b version here of_version = record { key = k; life = c.duty.life; read = input; made = false; at_work = work; is_input = low; block_is = here; version_is = of_version }

  -- the block in hand
  pub input_hand : (h : Option BlockCells) → FitsTop e v h (item.Compute c) → HasBlock e v (e.graph.block p) h
  input_hand h top = subst (λ (t : Bool). cond t (HasBlock e v (e.graph.block p) h) ((v.hands ≡ []) × (h ≡ None))) (lt-ltb input (e.graph.inputs k) low) (subst (λ q. ComputeHand e v c.duty q h) reading top)

  pub none_taken : (h : Option BlockCells) → h ≡ None → FitsTop e v h (item.Compute c) → v.hands ≡ []
  none_taken h empty top = subst (HasBlock e v (e.graph.block p)) empty (input_hand h top)

  pub block_taken : (h : Option BlockCells) (x : BlockCells) (b : ℕ) → h ≡ Some x → b ≡ e.graph.block p → FitsTop e v h (item.Compute c) → IsTaken e v b x
  block_taken h x b full here top = subst (λ z. IsTaken e v z x) (sym here) (subst (HasBlock e v (e.graph.block p)) full (input_hand h top)).0

  pub took_top : (w : View) (b : ℕ) (o : Option BlockCells) (now : After) → now ≡ at_input c input → b ≡ e.graph.block p → HasBlock e w b o → AfterHand e w o now
  took_top w b o now now_is here has = subst (λ a. AfterHand e w o a) (sym now_is)
      (subst (λ (t : Bool). cond t (HasBlock e w (e.graph.block p) o) ((w.hands ≡ []) × (o ≡ None))) (sym (lt-ltb input (e.graph.inputs k) low)) (subst (λ z. HasBlock e w z o) here has))

  -- the event of the turn
  event_in : (h o : Option BlockCells) → reading_event (e.graph.block p) h o ≡ compute_event e v strikes h o c
  event_in h o = ap (λ (t : Bool). cond t (reading_event (e.graph.block p) h o) (writing_event e h o c.duty)) (sym (lt-ltb input (e.graph.inputs k) low))
      ∙ ap (λ q. compute_event e v strikes h o (record c { phase = q })) (sym reading)

  pub take_is : (b : ℕ) (h o : Option BlockCells) → h ≡ None → b ≡ e.graph.block p → take_turn b (cells_in o) ≡ compute_event e v strikes h o c
  take_is b h o empty here = ap (λ z. take_turn z (cells_in o)) here ∙ ap (λ z. reading_event (e.graph.block p) z o) (sym empty) ∙ event_in h o

  pub give_is : (b : ℕ) (h o : Option BlockCells) (x : BlockCells) → h ≡ Some x → b ≡ e.graph.block p → give_read b x ≡ compute_event e v strikes h o c
  give_is b h o x full here = ap (λ z. give_read z x) here ∙ ap (λ z. reading_event (e.graph.block p) z o) (sym full) ∙ event_in h o

  -- The block was asked for.
  module _ (w : View) (n b : ℕ) (o : Option BlockCells) (is : w ≡ after e (take_turn b (cells_in o)) n v) where
    pub take_goes : (now : After) → now ≡ at_input c input → Goes g e v w (item_lines e.graph (item.Compute c)) now
    take_goes now now_is = let left = leaves e (take_turn b (cells_in o)) n v w is in
        subst (λ a. Goes g e v w (item_lines e.graph (item.Compute c)) a) (sym now_is) (record {
          lines = λ below old. takes_turn e v w n b (cells_in o) (of now_line) below (reading_top e v c input reading below old) is;
          left = fits_later g e v w c (phase.Reading input) stands.fits (remembers_apart e (take_turn b (cells_in o)) n v w refl is) left.strikes_are (omega (arith, low));
          came = tt;
          credits = left.spare_is ∙ stands.credits;
        })

  -- The block went home.
  module _ (w : View) (n b : ℕ) (x : BlockCells) (here : b ≡ e.graph.block p) (is : w ≡ after e (give_read b x) n v) where
    more : Remembers v w
    more = remembers_apart e (give_read b x) n v w refl is

    no_credits : w.spare ≡ 0
    no_credits = (leaves e (give_read b x) n v w is).spare_is ∙ stands.credits

    keeps_strikes : w.strikes ≡ v.strikes
    keeps_strikes = (leaves e (give_read b x) n v w is).strikes_are ∙ ap (λ o. missed_by e.graph e.plan b x o v.strikes) none_reading

    pub home_hands : IsTaken e v b x → (h : Option BlockCells) → h ≡ Some x → FitsTop e v h (item.Compute c) → w.hands ≡ []
    home_hands has h full top = (leaves e (give_read b x) n v w is).hands_are ∙ ap Rattle.core_state.specs.Views.without_first (subst (HasBlock e v (e.graph.block p)) full (input_hand h top)).1

    pub good_goes : (version : ℕ) (now : After) → version ≡ e.graph.version p → now ≡ at_input c (input + 1) → is_good version x ≡ true → Goes g e v w (item_lines e.graph (item.Compute c)) now
    good_goes version now of_version now_is good = let is_true : true ≡ is_good (e.graph.version p) x = sym (ap (λ z. is_good z x) (sym of_version) ∙ good) in
        subst (λ a. Goes g e v w (item_lines e.graph (item.Compute c)) a) (sym now_is) (record {
          lines = λ below old. reads e v w n k c.duty.life input b x false true below low here (reading_top e v c input reading below old) is_true is;
          left = fits_later g e v w c (phase.Reading (input + 1)) stands.fits more keeps_strikes (omega (arith, low));
          came = tt;
          credits = no_credits;
        })

    pub bad_goes : (version : ℕ) (found : Found) (now : After) → version ≡ e.graph.version p → now ≡ looks_at c input (cause.Block b version found) → is_good version x ≡ false → found ≡ found_in version x → Goes g e v w (item_lines e.graph (item.Compute c)) now
    bad_goes version found now of_version now_is poor found_is =
        let is_false : false ≡ is_good (e.graph.version p) x = sym (ap (λ z. is_good z x) (sym of_version) ∙ poor) in
        let why : cause.Block b (e.graph.version p) (found_in (e.graph.version p) x) ≡ cause.Block b version found = ap (λ z. cause.Block b z (found_in z x)) (sym of_version) ∙ ap (cause.Block b version) (sym found_is) in
        subst (λ a. Goes g e v w (item_lines e.graph (item.Compute c)) a) (sym now_is) (record {
          lines = λ below old. subst (λ z. HasLines e w (of (line.Suspect k c.duty.life z false) ∷ below)) why (reads e v w n k c.duty.life input b x false false below low here (reading_top e v c input reading below old) is_false is);
          left = record {
            duty = record { is_key = stands.fits.duty.is_key; known = key_stays e v w c.duty.row k more stands.fits.duty.known };
            input = low;
            found = found;
            cause_is = ap (λ z. cause.Block z version found) here ∙ ap (λ z. cause.Block (e.graph.block p) z found) of_version;
            looking = tt;
          };
          came = tt;
          credits = no_credits;
        })

  -- How the rest falls.
  before_is : (h : Option BlockCells) → item_rest e strikes h (item.Compute c) ≡ phase_rest e strikes h c.duty (phase.Reading input) + closing_rest e strikes c.duty
  before_is h = ap (λ q. phase_rest e strikes h c.duty q + closing_rest e strikes c.duty) reading

  took_rest : (n b : ℕ) (o : Option BlockCells) → TurnTells o n → LetsFall e strikes (take_turn b (cells_in o)) n (phase_rest e strikes None c.duty (phase.Reading input) + closing_rest e strikes c.duty) (after_rest e strikes o (at_input c input))
  took_rest n b None told = inr (0, taken b no_cells n told, omega arith)
  took_rest n b (Some x) told = inl (take_weighs (e.graph.inputs k - input) e.shape.rows (closing_rest e strikes c.duty))

  pub take_falls : (n b : ℕ) (h o : Option BlockCells) (now : After) → now ≡ at_input c input → h ≡ None → b ≡ e.graph.block p → TurnTells o n → LetsFall e strikes (compute_event e v strikes h o c) n (item_rest e strikes h (item.Compute c)) (after_rest e strikes o now)
  take_falls n b h o now now_is empty here told =
      subst (λ a. LetsFall e strikes (compute_event e v strikes h o c) n (item_rest e strikes h (item.Compute c)) (after_rest e strikes o a)) (sym now_is)
      (subst (λ x. LetsFall e strikes x n (item_rest e strikes h (item.Compute c)) (after_rest e strikes o (at_input c input))) (take_is b h o empty here)
      (subst (λ m. LetsFall e strikes (take_turn b (cells_in o)) n m (after_rest e strikes o (at_input c input))) (sym (before_is h ∙ ap (λ z. phase_rest e strikes z c.duty (phase.Reading input) + closing_rest e strikes c.duty) empty)) (took_rest n b o told)))

  module _ (n b : ℕ) (h o : Option BlockCells) (x : BlockCells) (now : After) (full : h ≡ Some x) (empty : o ≡ None) (here : b ≡ e.graph.block p) where
    given_before : item_rest e strikes h (item.Compute c) ≡ phase_rest e strikes (Some x) c.duty (phase.Reading input) + closing_rest e strikes c.duty
    given_before = before_is h ∙ ap (λ z. phase_rest e strikes z c.duty (phase.Reading input) + closing_rest e strikes c.duty) full

    -- by plain names
    given : (last : After) → now ≡ last → LetsFall e strikes (give_read b x) n (phase_rest e strikes (Some x) c.duty (phase.Reading input) + closing_rest e strikes c.duty) (after_rest e strikes None last) → LetsFall e strikes (compute_event e v strikes h o c) n (item_rest e strikes h (item.Compute c)) (after_rest e strikes o now)
    given last now_is falls =
        subst (λ y. LetsFall e strikes y n (item_rest e strikes h (item.Compute c)) (after_rest e strikes o now)) (give_is b h o x full here)
        (subst (λ m. LetsFall e strikes (give_read b x) n m (after_rest e strikes o now)) (sym given_before)
        (subst (λ z. LetsFall e strikes (give_read b x) n (phase_rest e strikes (Some x) c.duty (phase.Reading input) + closing_rest e strikes c.duty) (after_rest e strikes z now)) (sym empty)
        (subst (λ a. LetsFall e strikes (give_read b x) n (phase_rest e strikes (Some x) c.duty (phase.Reading input) + closing_rest e strikes c.duty) (after_rest e strikes None a)) (sym now_is) falls)))

    pub good_falls : now ≡ at_input c (input + 1) → LetsFall e strikes (compute_event e v strikes h o c) n (item_rest e strikes h (item.Compute c)) (after_rest e strikes o now)
    good_falls now_is = given (at_input c (input + 1)) now_is (inl (good_weighs (e.graph.inputs k) input e.shape.rows (closing_rest e strikes c.duty) low))

    pub bad_falls : (version : ℕ) (why : Cause) → now ≡ looks_at c input why → version ≡ e.graph.version p → is_good version x ≡ false → LetsFall e strikes (compute_event e v strikes h o c) n (item_rest e strikes h (item.Compute c)) (after_rest e strikes o now)
    bad_falls version why now_is of_version poor = given (looks_at c input why) now_is
        (inr (suspect_rest e p + suspect_rest e k, subst (λ z. Excuses e strikes (give_read z x) n (suspect_rest e p + suspect_rest e k)) (sym here) (bad k input n x low (subst (λ u. is_good u x ≡ false) of_version poor)), bad_weighs (e.graph.inputs k - input) e.shape.rows (closing_rest e strikes c.duty) (suspect_rest e p) (suspect_rest e k)))
