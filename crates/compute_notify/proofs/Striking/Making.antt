-- What the step of a strike asks of the view, and what it leaves of the block in hand and of the strikes.
use Rattle.std.proofs.Common.{◌≡◌, ◌≢◌, ◌∙◌, ℕ, ◌+◌, ◌^◌, ◌<◌, ◌≤◌, Bool, true, false, cond, eqb, List, [], ◌∷◌, length, Option, Some, None, IfSome, ap, sym, subst, refl, arith}
use Rattle.std.proofs.lemmas.Bool.{ltb-true}
use mathlib.Core.Option.{some, some-injective}
use Rattle.graph_model.specs.Graph.{Graph as TaskGraph}
use Rattle.graph_model.specs.declared.plan.Strike.{Strike}
use Rattle.graph_model.specs.declared.plan.Target.{Target}
use Rattle.graph_model.specs.declared.plan.Target.TheVariants as target
use Rattle.core_state.specs.Guards.{CanStrikeDescriptor, CanStrikeNotify, CanTakeTurn, MakesStrike}
use Rattle.core_state.specs.Counts.{known_key}
use Rattle.core_state.specs.Graph.{Setting}
use Rattle.core_state.specs.Events.{after, Event}
use Rattle.core_state.specs.Events.Event.{strike_descriptor, strike_notify, take_turn}
use Rattle.core_state.specs.Outcome.{hands_left, made_next, strikes_left}
use Rattle.core_state.specs.Rooted.{no_strike}
use Rattle.core_state.specs.Views.{has_word, strike_next, without_first}
use Rattle.core_state.specs.declared.block.BlockCells.{BlockCells}
use Rattle.core_state.specs.declared.views.Hand.{Hand}
use Rattle.core_state.specs.declared.views.View.{View}
use Rattle.core_state.proofs.Lines.Outcomes.{leaves}
use Rattle.core_state.proofs.Strike.Next.{next_strike_is}
use Rattle.core_steps.specs.Seat.{IsStep, TurnTells, cells_in}
use Rattle.core_steps.specs.Serving.{work_life}
use Rattle.block_store.proofs.Blows.{takes_next_strike}
use Rattle.block_store.specs.Turned.{IsTaken, StrikesNext, blow_of, struck_home}
use Rattle.block_store.specs.declared.answers.Blow.{Blow}
use Rattle.block_store.specs.declared.answers.Blow.TheVariants as blow
use Rattle.recovery.specs.Memory.{KnowsKey}
use Rattle.recovery.proofs.Knowing.{known_is, row_here}
use Rattle.compute_notify.specs.Running.{Runs}
use Rattle.compute_notify.specs.Stepping.{HasStepped}
use Rattle.compute_notify.specs.Striking.{FitsHand, IsAsked, IsStruck, StrikeTells, block_event, strike_event}
use Rattle.compute_notify.specs.declared.duty.Duty.{Duty}

-- a step that no preparing came before, with room for one record used
pub has_stepped : {S : Type 0} (setting : S → Setting) (view : S → View) (made spare : S → ℕ) (last shown : S → ℕ × ℕ) (happened : S → Event → ℕ → S → Type 0) (lender : S → List ℕ) (others : S → List View) (x y : Event) (s t : S)
    → y ≡ x → spare s ≤ spare t + 1 → IsStep setting view made last shown happened lender others y s t → HasStepped setting view made spare last shown happened lender others (λ v. v) x s t
has_stepped setting view made spare last shown happened lender others x y s t is room step = record {
  ready = s;
  prepared_is = refl;
  same_setting = refl;
  same_made = refl;
  same_last = refl;
  same_lender = refl;
  same_others = refl;
  step = subst (λ z. IsStep setting view made last shown happened lender others z s t) is step;
  room = omega (arith, room);
}

-- the view after a step that no preparing came before
pub stepped_view : {S : Type 0} {setting : S → Setting} {view : S → View} {made : S → ℕ} {last shown : S → ℕ × ℕ} {happened : S → Event → ℕ → S → Type 0} {lender : S → List ℕ} {others : S → List View} (spare : S → ℕ) {x : Event} {s t : S}
    → HasStepped setting view made spare last shown happened lender others (λ v. v) x s t → view t ≡ after (setting s) x (shown t).1 (view s)
stepped_view {setting = setting} {view = view} {shown = shown} spare {x = x} {s = s} {t = t} step =
    step.step.view_is ∙ ap (λ e. after e x (shown t).1 (view step.ready)) step.same_setting ∙ ap (λ v. after (setting s) x (shown t).1 v) step.prepared_is

-- a strike of the plan names a task, and not the root
pub strikes_task : (g : TaskGraph) (strikes : List Strike) (lives : ℕ) (e : Setting) (v : View) (k l : ℕ) (on : Target) → Runs g strikes lives e → MakesStrike e v k l on → k ≢ e.graph.root
strikes_task g strikes lives e v k l on runs makes root =
    let low = (next_strike_is e v makes.strike makes.is_next).low in
    let few : makes.strike < length strikes = subst (λ p. makes.strike < p.count) runs.plan_is low in
    let small = runs.task_strikes makes.strike no_strike few in
    let key : (e.plan.strike makes.strike).key.0 < 2 ^ 63 = subst (λ p. (p.strike makes.strike).key.0 < 2 ^ 63) (sym runs.plan_is) small in
    let at = makes.of_key in
    let top = runs.serves.graph.root in
    absurd (omega (arith, key, at, root, top))

module _ (e : Setting) (v : View) where
  -- one strike is next
  same_target : (k l : ℕ) (a b : Target) → MakesStrike e v k l a → MakesStrike e v k l b → a ≡ b
  same_target k l a b x y = sym x.on_target ∙ ap (λ n. (e.plan.strike n).target) (some-injective x.strike y.strike (sym x.is_next ∙ y.is_next)) ∙ y.on_target

  -- the target of the next strike, by its case
  pub makes_as : (k l : ℕ) (on is : Target) → on ≡ is → MakesStrike e v k l on → MakesStrike e v k l is
  makes_as k l on is same makes = subst (MakesStrike e v k l) same makes

  -- where a strike on a word is next, no block is in hand
  hand_free : (k l : ℕ) (on : Target) (h : Option BlockCells) → (on ≡ target.Block → ⊥) → MakesStrike e v k l on → FitsHand e v k l h → (v.hands ≡ []) × (h ≡ None)
  hand_free k l on None other makes fits = (fits, refl)
  hand_free k l on (Some x) other makes fits = absurd (other (same_target k l on target.Block makes fits.2))

  pub descriptor_free : (k l : ℕ) (h : Option BlockCells) → MakesStrike e v k l target.Descriptor → FitsHand e v k l h → (v.hands ≡ []) × (h ≡ None)
  descriptor_free k l h makes fits = hand_free k l target.Descriptor h (λ z. cc) makes fits

  pub notify_free : (k l w : ℕ) (h : Option BlockCells) → MakesStrike e v k l (target.Notify w) → FitsHand e v k l h → (v.hands ≡ []) × (h ≡ None)
  notify_free k l w h makes fits = hand_free k l (target.Notify w) h (λ z. cc) makes fits

  -- what is known of a block that is in hand, or isn't
  pub none_here : (k l : ℕ) (h : Option BlockCells) → h ≡ None → FitsHand e v k l h → v.hands ≡ []
  none_here k l h empty fits = subst (FitsHand e v k l) empty fits

  pub some_here : (k l : ℕ) (h : Option BlockCells) (x : BlockCells) → h ≡ Some x → FitsHand e v k l h → FitsHand e v k l (Some x)
  some_here k l h x full fits = subst (FitsHand e v k l) full fits

  pub taken_here : (b k l : ℕ) (h : Option BlockCells) (x : BlockCells) → b ≡ e.graph.block k → h ≡ Some x → FitsHand e v k l h → IsTaken e v b x
  taken_here b k l h x block full fits = subst (λ z. IsTaken e v z x) (sym block) (some_here k l h x full fits).0

  -- what the calls ask
  seat_makes : (r k l : ℕ) (on : Target) → KnowsKey e v r k → work_life v ≡ l → MakesStrike e v k l on → MakesStrike e v (known_key r v) (work_life v) on
  seat_makes r k l on knows life makes = subst (λ m. MakesStrike e v m (work_life v) on) (sym (known_is e v r k knows)) (subst (λ m. MakesStrike e v k m on) (sym life) makes)

  pub can_descriptor : (r k l : ℕ) → KnowsKey e v r k → work_life v ≡ l → MakesStrike e v k l target.Descriptor → CanStrikeDescriptor e v r (known_key r v) (work_life v)
  can_descriptor r k l knows life makes = record { row = row_here e v r k knows; strikes = seat_makes r k l target.Descriptor knows life makes }

  pub can_notify : (r k l w : ℕ) → KnowsKey e v r k → work_life v ≡ l → MakesStrike e v k l (target.Notify w) → CanStrikeNotify e v r (known_key r v) (work_life v) w
  can_notify r k l w knows life makes =
      let there = (next_strike_is e v makes.strike makes.is_next).word in
      let here : has_word e.graph k (target.Notify w) ≡ true = subst (λ t. has_word e.graph k t ≡ true) makes.on_target (subst (λ m. has_word e.graph m (e.plan.strike makes.strike).target ≡ true) makes.of_key there) in
      record {
        row = row_here e v r k knows;
        word_in = subst (λ m. w < e.graph.notify_words m) (sym (known_is e v r k knows)) (ltb-true w (e.graph.notify_words k) here);
        strikes = seat_makes r k l (target.Notify w) knows life makes;
      }

  pub can_take : (b k blocks : ℕ) → b ≡ e.graph.block k → b ≤ blocks → e.shape.blocks ≡ blocks + 1 → k ≢ e.graph.root → ((m : ℕ) → e.graph.block m ≡ e.graph.block e.graph.root → m ≡ e.graph.root) → v.hands ≡ [] → CanTakeTurn e v b
  can_take b k blocks block low all task alone free = record {
    low = omega (arith, low, all);
    free = free;
    of_root = λ is. absurd (task (alone k (sym block ∙ is)));
  }

  pub block_next : (b k l version : ℕ) → b ≡ e.graph.block k → version ≡ e.graph.version k → MakesStrike e v k l target.Block → StrikesNext e v b k l version
  block_next b k l version block is makes = record { strikes = makes; block_is = block; version_is = is }

  module _ (w : View) where
    -- a strike on a word leaves what is in hand
    pub word_tells : (x : Event) (m : ℕ) (h : Option BlockCells) → strikes_left e x v ≡ made_next (strike_next e.graph e.plan v) v.strikes → hands_left e x m v ≡ v.hands → w ≡ after e x m v → (v.hands ≡ []) × (h ≡ None) → IsStruck e v w h
    word_tells x m h strikes hands is free = let a = leaves e x m v w is in record {
      hands_free = a.hands_are ∙ hands ∙ free.0;
      none_now = free.1;
      strikes_are = λ n next. a.strikes_are ∙ strikes ∙ ap (λ o. made_next o v.strikes) next;
    }

    -- a block that goes home leaves none in hand
    home_hands : (m k l b : ℕ) (x : BlockCells) (answer : Blow) → hands_left e (struck_home k l b answer x) m v ≡ without_first v.hands
    home_hands m k l b x blow.Landed = refl
    home_hands m k l b x blow.Missed = refl
    home_hands m k l b x blow.Busy = refl

    pub home_tells : (m k l b : ℕ) (x : BlockCells) (answer : Blow) → w ≡ after e (struck_home k l b answer x) m v → v.hands ≡ record { block = e.graph.block k; held = x } ∷ [] → ((n : ℕ) → strike_next e.graph e.plan v ≡ some n → w.strikes ≡ n ∷ v.strikes) → (h : Option BlockCells) → h ≡ None → IsStruck e v w h
    home_tells m k l b x answer is hand strikes h empty = let a = leaves e (struck_home k l b answer x) m v w is in
        record { hands_free = a.hands_are ∙ home_hands m k l b x answer ∙ ap without_first hand; none_now = empty; strikes_are = strikes }

    -- a block that was asked for is in hand, if it came
    taken_hand : (m k l b version : ℕ) (o : Option BlockCells) → b ≡ e.graph.block k → version ≡ e.graph.version k → w ≡ after e (take_turn b (cells_in o)) m v → TurnTells o m
        → IfSome o (λ x. length x.cells ≡ e.graph.cells b) → IfSome o (λ x. x.struck ≡ false → 0 < x.tag → x.cells ≡ e.graph.value (e.graph.writer b x.tag))
        → v.hands ≡ [] → 0 < e.graph.notify_words k → MakesStrike e v k l target.Block → FitsHand e w k l o
    taken_hand m k l b version None block is_version is told cells value free some_word makes = let a = leaves e (take_turn b (cells_in None)) m v w is in
        a.hands_are ∙ ap (λ z. cond (eqb z 0) (record { block = b; held = cells_in None } ∷ v.hands) v.hands) told ∙ free
    taken_hand m k l b version (Some x) block is_version is told cells value free some_word makes =
        let a = leaves e (take_turn b (cells_in (Some x))) m v w is in
        let hand : w.hands ≡ record { block = b; held = x } ∷ [] = a.hands_are ∙ ap (λ z. cond (eqb z 0) (record { block = b; held = x } ∷ v.hands) v.hands) told ∙ ap (λ (hs : List Hand). record { block = b; held = x } ∷ hs) free in
        let here : IsTaken e w b x = record { hand = record { others = []; hands_are = hand }; cells = cells; value = value } in
        let next = takes_next_strike e v w b e x m k l version refl is some_word (block_next b k l version block is_version makes) in
        (subst (λ z. IsTaken e w z x) block here, subst (λ z. w.hands ≡ record { block = z; held = x } ∷ []) block hand, next.strikes)

    pub taken_tells : (m k l b version : ℕ) (h o : Option BlockCells) → h ≡ None → b ≡ e.graph.block k → version ≡ e.graph.version k → w ≡ after e (take_turn b (cells_in o)) m v → TurnTells o m
        → IfSome o (λ x. length x.cells ≡ e.graph.cells b) → IfSome o (λ x. x.struck ≡ false → 0 < x.tag → x.cells ≡ e.graph.value (e.graph.writer b x.tag))
        → v.hands ≡ [] → 0 < e.graph.notify_words k → MakesStrike e v k l target.Block → IsAsked e v w k l target.Block h o m
    taken_tells m k l b version h o empty block is_version is told cells value free some_word makes = let a = leaves e (take_turn b (cells_in o)) m v w is in record {
      on_block = refl;
      none_before = empty;
      turn = told;
      hand = taken_hand m k l b version o block is_version is told cells value free some_word makes;
      same_strikes = a.strikes_are;
    }

-- the event of a strike's step, by its target and by the block that was in hand
module _ (e : Setting) (v : View) (duty : Duty) (on : Target) (h now : Option BlockCells) where
  pub descriptor_event : on ≡ target.Descriptor → work_life v ≡ duty.life → strike_descriptor duty.row (known_key duty.row v) (work_life v) ≡ strike_event e v duty on h now
  descriptor_event is life = ap (strike_descriptor duty.row (known_key duty.row v)) life ∙ ap (λ t. strike_event e v duty t h now) (sym is)

  pub notify_event : (w : ℕ) → on ≡ target.Notify w → work_life v ≡ duty.life → strike_notify duty.row (known_key duty.row v) (work_life v) w ≡ strike_event e v duty on h now
  notify_event w is life = ap (λ l. strike_notify duty.row (known_key duty.row v) l w) life ∙ ap (λ t. strike_event e v duty t h now) (sym is)

  -- what a block's step tells is what the strike's step tells
  pub told_as : on ≡ target.Block → (w : View) (n : ℕ) (made : Bool) → StrikeTells e v w duty.key.0 duty.life target.Block h now n made → StrikeTells e v w duty.key.0 duty.life on h now n made
  told_as is w n made told = subst (λ t. StrikeTells e v w duty.key.0 duty.life t h now n made) (sym is) told

pub taking_event : (e : Setting) (duty : Duty) (b : ℕ) (h o : Option BlockCells) → h ≡ None → b ≡ e.graph.block duty.key.0 → take_turn b (cells_in o) ≡ block_event e duty h o
taking_event e duty b h o empty block = ap (λ z. take_turn z (cells_in o)) block ∙ ap (λ z. block_event e duty z o) (sym empty)

pub home_event : (e : Setting) (duty : Duty) (b version : ℕ) (x : BlockCells) (h now : Option BlockCells) (answer : Blow) → h ≡ Some x → b ≡ e.graph.block duty.key.0 → version ≡ e.graph.version duty.key.0 → answer ≡ blow_of version x → struck_home duty.key.0 duty.life b answer x ≡ block_event e duty h now
home_event e duty b version x h now answer full block is told =
    ap (λ z. struck_home duty.key.0 duty.life z answer x) block
    ∙ ap (λ z. struck_home duty.key.0 duty.life (e.graph.block duty.key.0) z x) told
    ∙ ap (λ z. struck_home duty.key.0 duty.life (e.graph.block duty.key.0) (blow_of z x) x) is
    ∙ ap (λ z. block_event e duty z now) (sym full)
