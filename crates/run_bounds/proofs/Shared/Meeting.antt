-- What a step leaves that met the step of another worker: the words, and the life that stands; nothing is in hand then.
use Rattle.std.proofs.Common.{◌≡◌, ◌≢◌, ◌⊎◌, ℕ, Bool, true, false, cond, nat_lt, List, [], Option, Some, None, ⊎_elim, inl, inr, arith, refl, ap, sym, ◌∙◌, subst}
use mathlib.Core.Logic.{dite}
use native.Mathlib.Decide.{ℕ_discrete, dec_lt}
use Rattle.graph_model.specs.Graph.{Graph as TaskGraph}
use Rattle.graph_model.specs.declared.plan.Strike.{Strike}
use Rattle.graph_model.specs.declared.plan.Target.{Target}
use Rattle.graph_model.specs.declared.plan.Target.TheVariants as target
use Rattle.core_state.specs.Change.{Core}
use Rattle.core_state.specs.Counts.{known_key}
use Rattle.core_state.specs.Events.{Event, at, left}
use Rattle.core_state.specs.Events.Event.{buy, elect, load_descriptor, post, register, renew_descriptor, renew_notify, spend}
use Rattle.core_state.specs.Graph.{Setting}
use Rattle.core_state.specs.Rows.{HasKey, Standing}
use Rattle.core_state.specs.Words.{Spot, descriptor, inside, life_of, mark_of, notify, recovery, standing_life, turn}
use Rattle.core_state.specs.Lines.{HasLines}
use Rattle.core_state.specs.declared.block.BlockCells.{BlockCells}
use Rattle.core_state.specs.declared.views.Item.TheVariants as line
use Rattle.core_state.specs.declared.views.View.{View}
use Rattle.core_state.specs.declared.views.Word.TheVariants as word
use Rattle.core_state.proofs.Lines.After.{line_stands}
use Rattle.core_state.proofs.Lines.Top.{at_work}
use Rattle.core_state.proofs.Load.Recovery.{same_spot}
use Rattle.core_steps.specs.Serving.{work_life}
use Rattle.block_store.specs.Turned.{blow_of, struck_home}
use Rattle.block_store.specs.declared.answers.Blow.{Blow}
use Rattle.block_store.specs.declared.answers.Blow.TheVariants as blow
use Rattle.recovery.specs.Happening.{phase_event as renewal_event, way_event}
use Rattle.recovery.specs.declared.owe.Owe.{Owe}
use Rattle.recovery.specs.declared.recover.Phase.{Phase as Replacing}
use Rattle.recovery.specs.declared.recover.Phase.TheVariants as replacing
use Rattle.recovery.specs.declared.recover.Recover.{Recover}
use Rattle.recovery.specs.declared.reenter.Way.{Way as Entering}
use Rattle.recovery.specs.declared.reenter.Way.TheVariants as entering
use Rattle.compute_notify.specs.Eventing.{duty_of, explore_event, explored_event, item_event, look_event, notify_event, phase_event, reading_event, with_strike, writing_event}
use Rattle.compute_notify.specs.Items.{FitsPhase, Stands, compute_lines}
use Rattle.compute_notify.specs.Running.{Runs}
use Rattle.compute_notify.specs.Striking.{compute_left, strike_event, strike_left}
use Rattle.compute_notify.specs.Working.{ComputeHand, FitsTop}
use Rattle.compute_notify.specs.declared.compute.Compute.{Compute}
use Rattle.compute_notify.specs.declared.compute.Phase.{Phase}
use Rattle.compute_notify.specs.declared.compute.Phase.TheVariants as phase
use Rattle.compute_notify.specs.declared.duty.Duty.{Duty}
use Rattle.compute_notify.specs.declared.explore.Explore.{Explore}
use Rattle.compute_notify.specs.declared.explore.Way.{Way as Reaching}
use Rattle.compute_notify.specs.declared.explore.Way.TheVariants as reaching
use Rattle.compute_notify.specs.declared.item.Item.{Item}
use Rattle.compute_notify.specs.declared.item.Item.TheVariants as item
use Rattle.compute_notify.specs.declared.look.Look.{Look}
use Rattle.compute_notify.specs.declared.look.Way.{Way as Looking}
use Rattle.compute_notify.specs.declared.look.Way.TheVariants as looking
use Rattle.compute_notify.specs.declared.notify.Notify.{Notify}
use Rattle.compute_notify.specs.declared.notify.Way.{Way as Telling}
use Rattle.compute_notify.specs.declared.notify.Way.TheVariants as telling
use Rattle.compute_notify.proofs.Exploring.{ended_free, place_free}
use Rattle.compute_notify.proofs.Striking.Points.{ready_none}
use Rattle.run_bounds.specs.Shared.{IsPart, IsQuiet, IsWinner, KeepsWords}
use Rattle.run_bounds.specs.Struck.{IsBlamed, IsMade}
use Rattle.run_bounds.proofs.Shared.Parts.{life}
use Rattle.run_bounds.proofs.Storm.Words.{keys_on}
use Rattle.run_bounds.proofs.Storm.Originating.{IsSome, none_or_some}

-- the word of a turn is told apart from others
pub same_turn : (b : ℕ) (a : Spot) → (a ≡ turn b) ⊎ (a ≢ turn b)
same_turn b (turn c) = dite (ℕ_discrete c b) (λ same. inl (ap turn same)) (λ other. inr (λ q. other cc))
same_turn b a = inr (λ q. cc)

module _ {e : Setting} {s t : Core} {u w : View} (x : Event) (n : ℕ) (step : IsMade e x n s t u w) where
  -- a step that leaves its word as it was
  module _ (within : inside e.shape (at x) ≡ true) (same : left e x n ≡ n) (tells : (a : Spot) → (a ≡ at x) ⊎ (a ≢ at x)) where
    word_stays : (a : Spot) → t.word a ≡ s.word a
    word_stays a = ⊎_elim (λ here. ap t.word here ∙ step.left_is within ∙ same ∙ sym (step.found_is within) ∙ sym (ap s.word here)) (λ other. step.others a other) (tells a)

    pub keeps_all : KeepsWords e s t
    keeps_all = record { recovery_stays = λ r. word_stays (recovery r); turns_stay = λ b. word_stays (turn b); unmarked_stays = λ r m none. word_stays (notify r m); keys_on = keys_on x n step }

  -- one on a descriptor
  pub keeps_apart : (r : ℕ) → at x ≡ descriptor r → KeepsWords e s t
  keeps_apart r here = record {
    recovery_stays = λ q. step.others (recovery q) (λ same. let z : recovery q ≡ descriptor r = same ∙ here in cc);
    turns_stay = λ b. step.others (turn b) (λ same. let z : turn b ≡ descriptor r = same ∙ here in cc);
    unmarked_stays = λ q m none. step.others (notify q m) (λ same. let z : notify q m ≡ descriptor r = same ∙ here in cc);
    keys_on = keys_on x n step;
  }

  -- one on a word with a mark
  pub keeps_marked : (r m : ℕ) → at x ≡ notify r m → inside e.shape (at x) ≡ true → mark_of n ≡ 1 → KeepsWords e s t
  keeps_marked r m here within marked = record {
    recovery_stays = λ q. step.others (recovery q) (λ same. let z : recovery q ≡ notify r m = same ∙ here in cc);
    turns_stay = λ b. step.others (turn b) (λ same. let z : turn b ≡ notify r m = same ∙ here in cc);
    unmarked_stays = λ q i none. ⊎_elim (λ same. absurd (let a : s.word (notify q i) ≡ n = ap s.word (same ∙ sym here) ∙ step.found_is within in let b = ap mark_of a in omega (arith, b, none, marked)))
        (λ other. step.others (notify q i) (λ same. other (same ∙ here))) (same_spot r (word.Notify m) (notify q i));
    keys_on = keys_on x n step;
  }

-- Where no life is being replaced, a word with a mark shows the life that stands.
module _ {e : Setting} {s : Core} {v : View} (part : IsPart e s v) (quiet : IsQuiet e s) (r k : ℕ) (has : HasKey e s r k) where
  pub stands : Standing e s r k (standing_life (s.word (recovery r)))
  stands = (life part r k has).standing (quiet.none_replaced r has.0)

  pub descriptor_life : (n : ℕ) → s.word (descriptor r) ≡ n → life_of n ≡ standing_life (s.word (recovery r))
  descriptor_life n is = ap life_of (sym is) ∙ stands.descriptor_life

  pub notify_life : (m n : ℕ) → s.word (notify r m) ≡ n → mark_of n ≡ 1 → life_of n ≡ standing_life (s.word (recovery r))
  notify_life m n is marked = ap life_of (sym is) ∙ dite (dec_lt m (e.graph.notify_words k)) (λ low. stands.notify_life m low)
      (λ high. absurd (let z : s.word (notify r m) ≡ 0 = part.holds.empty.beyond r k m has (omega (arith, high)) in let a = ap mark_of z in let b : mark_of 0 ≡ 0 = refl in let c = ap mark_of is in omega (arith, a, b, c, marked)))

-- so its election is won
pub wins_next : {e : Setting} {s t : Core} {w : View} → KeepsWords e s t → (r k l : ℕ) → HasKey e s r k → IsBlamed w k l → l ≡ standing_life (s.word (recovery r)) → IsWinner e t w
wins_next {t = t} words r k l has it same = record {
  row = r;
  life = l;
  suspect = record { key = k; has_key = words.keys_on r k has; cause = it.cause; waits = it.waits; below = it.below; marked = it.marked; top = it.top };
  stands = ap standing_life (words.recovery_stays r) ∙ sym same;
}

-- an event that may see a mark, but for closings
abbrev pub MaySee : Event → Type 0
MaySee (load_descriptor r k) = Unit {0}
MaySee (register r k q) = Unit {0}
MaySee (spend r k j) = Unit {0}
MaySee _ = ⊥

abbrev pub MayElect : Event → Type 0
MayElect (elect r k l c waits) = Unit {0}
MayElect _ = ⊥

module _ (g : TaskGraph) (p : List Strike) (lives : ℕ) (e : Setting) (v : View) (runs : Runs g p lives e) (h now : Option BlockCells) where
  -- no strike sees a mark, and none elects
  home_sees : (k l b : ℕ) (a : Blow) (x : BlockCells) → MaySee (struck_home k l b a x) → ⊥
  home_sees k l b blow.Landed x may = may
  home_sees k l b blow.Missed x may = may
  home_sees k l b blow.Busy x may = may

  home_elects : (k l b : ℕ) (a : Blow) (x : BlockCells) → MayElect (struck_home k l b a x) → ⊥
  home_elects k l b blow.Landed x may = may
  home_elects k l b blow.Missed x may = may
  home_elects k l b blow.Busy x may = may

  strike_sees : (duty : Duty) (on : Target) (o : Option BlockCells) → MaySee (strike_event e v duty on o now) → ⊥
  strike_sees duty target.Descriptor o may = may
  strike_sees duty (target.Notify m) o may = may
  strike_sees duty target.Block None may = may
  strike_sees duty target.Block (Some x) may = home_sees duty.key.0 duty.life (e.graph.block duty.key.0) (blow_of (e.graph.version duty.key.0) x) x may

  strike_elects : (duty : Duty) (on : Target) (o : Option BlockCells) → MayElect (strike_event e v duty on o now) → ⊥
  strike_elects duty target.Descriptor o may = may
  strike_elects duty (target.Notify m) o may = may
  strike_elects duty target.Block None may = may
  strike_elects duty target.Block (Some x) may = home_elects duty.key.0 duty.life (e.graph.block duty.key.0) (blow_of (e.graph.version duty.key.0) x) x may

  -- a strike that is left comes first
  struck_sees : (y : Item) → IsSome (strike_left e.graph p y) → MaySee (item_event e v p h now y) → ⊥
  struck_sees y some may = strike_sees (duty_of y) some.0.target h (subst MaySee (ap (with_strike e v h now y) some.1) may)

  struck_elects : (y : Item) → IsSome (strike_left e.graph p y) → MayElect (item_event e v p h now y) → ⊥
  struck_elects y some may = strike_elects (duty_of y) some.0.target h (subst MayElect (ap (with_strike e v h now y) some.1) may)

  -- nothing is in hand at a step that may see a mark
  compute_free : (c : Compute) → Stands g e v (item.Compute c) → (q : Phase) → c.phase ≡ q → (o : Option BlockCells) → ComputeHand e v c.duty q o → compute_left e.graph p c.duty q ≡ None → MaySee (phase_event e v o now c.duty q) → v.hands ≡ []
  compute_free c stands (phase.Ready made) is None hand none_left may = hand
  compute_free c stands (phase.Ready made) is (Some x) hand none_left may = absurd (
      let lines : HasLines e v (compute_lines e.graph c.duty (phase.Ready made) stands.top.below) = subst (λ q. HasLines e v (compute_lines e.graph c.duty q stands.top.below)) is stands.top.lines_are in
      let none_next = ready_none g p lives e v runs c.duty made (subst (FitsPhase e v c.duty.key.0 c.duty.life) is stands.fits.in_phase)
      (at_work v (line.Compute c.duty.key.0 c.duty.life false 0 false) stands.top.below (line_stands e v (line.Compute c.duty.key.0 c.duty.life false 0 false) stands.top.below refl lines)) none_left in
      let a = sym hand.2.is_next ∙ none_next in cc)
  compute_free c stands (phase.Reading input) is o hand none_left may = absurd (by (nat_lt input (e.graph.inputs c.duty.key.0)) o may)
    where
      by : (b : Bool) (o : Option BlockCells) → MaySee (cond b (reading_event (e.graph.block (e.graph.pred c.duty.key.0 input).task) o now) (writing_event e o now c.duty)) → ⊥
      by true None m = m
      by true (Some x) m = m
      by false None m = m
      by false (Some x) m = m
  compute_free c stands phase.Writing is None hand none_left may = absurd may
  compute_free c stands phase.Writing is (Some x) hand none_left may = absurd may

  pub free_hands : (y : Item) → Stands g e v y → FitsTop e v h y → MaySee (item_event e v p h now y) → v.hands ≡ []
  free_hands item.Credit stands top may = top.0
  free_hands (item.Explore x) stands top may = ⊎_elim
      (λ none_left. dite (dec_lt x.place (e.graph.places x.duty.key.0)) (λ low. (place_free g e v x stands.fits stands.top p lives runs h low top).0) (λ past. (ended_free g e v x stands.fits stands.top p lives runs h (omega (arith, past)) none_left top).0))
      (λ some. absurd (struck_sees (item.Explore x) some may)) (none_or_some (strike_left e.graph p (item.Explore x)))
  free_hands (item.Compute c) stands top may = ⊎_elim
      (λ none_left. compute_free c stands c.phase refl h top none_left (subst MaySee (ap (with_strike e v h now (item.Compute c)) none_left) may))
      (λ some. absurd (struck_sees (item.Compute c) some may)) (none_or_some (strike_left e.graph p (item.Compute c)))
  free_hands (item.Close c) stands top may = absurd (⊎_elim (λ none_left. subst MaySee (ap (with_strike e v h now (item.Close c)) none_left) may) (λ some. struck_sees (item.Close c) some may) (none_or_some (strike_left e.graph p (item.Close c))))
  free_hands (item.Notify m) stands top may = top.0
  free_hands (item.Look x) stands top may = top.0
  free_hands (item.Owe o) stands top may = top.0
  free_hands (item.Recover r) stands top may = top.0

  -- who elects is a replacement that was not begun
  pub record IsElecting (y : Item) : Type 0 where
    pub recover : Recover
    pub is_item : y ≡ item.Recover recover
    pub in_phase : recover.phase ≡ replacing.Suspect

  explore_elects : (x : Explore) → MayElect (explored_event e v x) → ⊥
  explore_elects x may = by (nat_lt x.place (e.graph.places x.duty.key.0)) x.way may
    where
      by : (b : Bool) (way : Reaching) → MayElect (cond b (explore_event e v x way) (spend x.duty.row (known_key x.duty.row v) 40)) → ⊥
      by true reaching.Start m = m
      by true (reaching.Seek q) m = m
      by true (reaching.Register r) m = m
      by true reaching.Spend m = m
      by false way m = m

  compute_elects : (duty : Duty) (q : Phase) (o : Option BlockCells) → MayElect (phase_event e v o now duty q) → ⊥
  compute_elects duty (phase.Ready made) o may = may
  compute_elects duty (phase.Reading input) o may = to (nat_lt input (e.graph.inputs duty.key.0)) o may
    where
      to : (b : Bool) (o : Option BlockCells) → MayElect (cond b (reading_event (e.graph.block (e.graph.pred duty.key.0 input).task) o now) (writing_event e o now duty)) → ⊥
      to true None z = z
      to true (Some x) z = z
      to false None z = z
      to false (Some x) z = z
  compute_elects duty phase.Writing None may = may
  compute_elects duty phase.Writing (Some x) may = may

  notify_elects : (m : Notify) (way : Telling) → MayElect (notify_event e v m way) → ⊥
  notify_elects m telling.Start may = may
  notify_elects m (telling.Seek q) may = may
  notify_elects m (telling.Spend r) may = may

  look_elects : (x : Look) (way : Looking) → MayElect (look_event e v x way) → ⊥
  look_elects x looking.Start may = may
  look_elects x (looking.Seek q) may = may
  look_elects x (looking.Load r) may = may

  owe_elects : (o : Owe) (b : Bool) → MayElect (cond b (post o.row o.job (known_key o.row v) o.life) buy) → ⊥
  owe_elects o true may = may
  owe_elects o false may = may

  way_elects : (r k q : ℕ) (way : Entering) → MayElect (way_event e v r k q way) → ⊥
  way_elects r k q entering.Start may = may
  way_elects r k q (entering.Seek z) may = may
  way_elects r k q (entering.Load z) may = may
  way_elects r k q (entering.Register z) may = may
  way_elects r k q (entering.Spend z) may = may

  recover_elects : (r : Recover) (q : Replacing) → MayElect (renewal_event e v r q) → q ≡ replacing.Suspect
  recover_elects r replacing.Suspect may = refl
  recover_elects r (replacing.Renew done) may = absurd (by (nat_lt done (e.graph.notify_words r.key.0)) may)
    where
      by : (b : Bool) → MayElect (cond b (renew_notify r.row (known_key r.row v) (work_life v) done) (renew_descriptor r.row (known_key r.row v) (work_life v))) → ⊥
      by true m = m
      by false m = m
  recover_elects r replacing.Finish may = absurd may
  recover_elects r (replacing.Owe owe behind) may = absurd (owe_elects owe owe.bought may)
  recover_elects r (replacing.Reenter reenter) may = absurd (way_elects r.row r.key.0 reenter.port reenter.way may)
  recover_elects r replacing.Passed may = absurd may
  recover_elects r replacing.Over may = absurd may

  pub electing : (y : Item) → MayElect (item_event e v p h now y) → IsElecting y
  electing item.Credit may = absurd may
  electing (item.Explore x) may = absurd (⊎_elim (λ none_left. explore_elects x (subst MayElect (ap (with_strike e v h now (item.Explore x)) none_left) may)) (λ some. struck_elects (item.Explore x) some may) (none_or_some (strike_left e.graph p (item.Explore x))))
  electing (item.Compute c) may = absurd (⊎_elim (λ none_left. compute_elects c.duty c.phase h (subst MayElect (ap (with_strike e v h now (item.Compute c)) none_left) may)) (λ some. struck_elects (item.Compute c) some may) (none_or_some (strike_left e.graph p (item.Compute c))))
  electing (item.Close c) may = absurd (⊎_elim (λ none_left. subst MayElect (ap (with_strike e v h now (item.Close c)) none_left) may) (λ some. struck_elects (item.Close c) some may) (none_or_some (strike_left e.graph p (item.Close c))))
  electing (item.Notify m) may = absurd (notify_elects m m.way may)
  electing (item.Look x) may = absurd (look_elects x x.way may)
  electing (item.Owe o) may = absurd (owe_elects o o.bought may)
  electing (item.Recover r) may = record { recover = r; is_item = refl; in_phase = recover_elects r r.phase may }
