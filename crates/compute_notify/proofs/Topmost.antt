-- Items on top that are over go: lines, credits, the block in hand and the scratch are those of the next one.
use Rattle.std.proofs.Common.{◌≡◌, ℕ, ◌+◌, ◌-◌, ◌<◌, ◌≤◌, Bool, true, false, nat_lt, eqb, List, [], ◌∷◌, Option, Some, None, refl, ap, sym, ◌∙◌, subst, arith}
use Rattle.std.proofs.lemmas.Bool.{eqb-true, eqb-false, ltb-false, ltb-true, lt-ltb, le-ltb}
use mathlib.Core.Option.{some, none}
use mathlib.Core.Option as core
use Rattle.graph_model.specs.Graph.{Graph as TaskGraph}
use Rattle.graph_model.specs.declared.plan.Point.TheVariants as point
use Rattle.graph_model.specs.declared.plan.Strike.{Strike}
use Rattle.graph_model.specs.declared.plan.Target.TheVariants as target
use Rattle.core_state.specs.Guards.{MakesStrike}
use Rattle.core_state.specs.Effects.{all_ports, ports_from}
use Rattle.core_state.specs.Graph.{Graph, Setting}
use Rattle.core_state.specs.Lines.{Line, HasLines, of, credit, flat}
use Rattle.core_state.specs.Views.{Passing, is_finished, passing, strike_at}
use Rattle.core_state.specs.declared.block.BlockCells.{BlockCells}
use Rattle.core_state.specs.declared.views.Item.{Item as Carried}
use Rattle.core_state.specs.declared.views.Item.TheVariants as line
use Rattle.core_state.specs.declared.views.View.{View}
use Rattle.core_state.proofs.Lines.After.{close_has_ended, line_gone, line_stands}
use Rattle.core_state.proofs.Lines.Ports.{ports_none, ports_onward}
use Rattle.core_state.proofs.Lines.Top.{first_strike, no_strike_above}
use Rattle.recovery.specs.Recovering.{Fits, phase_lines}
use Rattle.recovery.specs.declared.recover.Phase.{Phase as Replacing}
use Rattle.recovery.specs.declared.recover.Phase.TheVariants as replacing
use Rattle.recovery.specs.declared.recover.Recover.{Recover}
use Rattle.recovery.proofs.Phases.{passed_gone}
use Rattle.compute_notify.specs.Items.{first_port, FitsItem, FitsClose, IsBelow, is_over, item_credits, item_lines}
use Rattle.compute_notify.specs.Rooms.{FitsScratch, HasRoom}
use Rattle.compute_notify.specs.Running.{Runs}
use Rattle.compute_notify.specs.Striking.{FitsHand, close_left}
use Rattle.compute_notify.specs.Tasks.{AllOver, FitsAll, stacked}
use Rattle.compute_notify.specs.Working.{FitsTop}
use Rattle.compute_notify.specs.declared.close.Close.{Close}
use Rattle.compute_notify.specs.declared.explore.Explore.{Explore}
use Rattle.compute_notify.specs.declared.item.Item.{Item}
use Rattle.compute_notify.specs.declared.item.Item.TheVariants as item
use Rattle.compute_notify.specs.declared.scratch.Scratch.{Scratch}
use Rattle.compute_notify.specs.declared.strikes.Next.{Next}
use Rattle.compute_notify.proofs.Fitting.{has_none, named_is}
use Rattle.compute_notify.proofs.Keeping.{next_named}
use Rattle.compute_notify.proofs.Striking.Points.{at_notified, close_next, closing, exploring}
use Rattle.compute_notify.proofs.Telling.{behind, port_top}

-- the two things that a closing which is over tells
record IsPast (g : Graph) (p : List Strike) (c : Close) : Type 0 where
  pub past : g.notify_words c.duty.key.0 ≤ c.word
  pub none_left : close_left g p c ≡ None

close_past : (g : Graph) (p : List Strike) (c : Close) → is_over g p (item.Close c) ≡ true → IsPast g p c
close_past g p c over = by (nat_lt c.word (g.notify_words c.duty.key.0)) (close_left g p c) refl refl
  where
    by : (b : Bool) (o : Option Next) → nat_lt c.word (g.notify_words c.duty.key.0) ≡ b → close_left g p c ≡ o → IsPast g p c
    by true o low left = let q : is_over g p (item.Close c) ≡ false = rw low in absurd (let a : true ≡ false = sym over ∙ q in cc)
    by false None low left = record { past = ltb-false c.word (g.notify_words c.duty.key.0) low; none_left = left }
    by false (Some x) low left = let q : is_over g p (item.Close c) ≡ false = rw (left, low) in absurd (let a : true ≡ false = sym over ∙ q in cc)

module _ (g : TaskGraph) (strikes : List Strike) (lives : ℕ) (e : Setting) (v : View) (runs : Runs g strikes lives e) where
  some_word : (k : ℕ) → 0 < e.graph.notify_words k
  some_word k = runs.serves.lawful.some_word k

  -- an item that is over has no line, or a finished one
  pub over_gone : (x : Item) (b : List Line) → is_over e.graph strikes x ≡ true → FitsItem g e v x → HasLines e v (item_lines e.graph x b) → HasLines e v b
  over_gone (item.Close c) b over fits lines =
      let p = close_past e.graph strikes c over in let words = some_word c.duty.key.0 in let far : 0 < c.word = let a = p.past in omega (arith, a, words) in
      let at = at_notified g strikes lives e v runs c far p.past in
      line_gone e v (closing c) b (close_has_ended e.graph e.plan v.strikes c.duty.key.0 c.duty.life c.word far p.past
      (ap (strike_at e.graph e.plan v.strikes) at.here ∙ has_none e v strikes point.Notified c.duty c.made runs.plan_is (fits.behind far) (sym at.left_is ∙ p.none_left))) lines
  over_gone (item.Notify n) b over fits lines = line_gone e v (line.Notify n.key.0 n.life n.word []) b refl
      (subst (λ qs. HasLines e v (of (line.Notify n.key.0 n.life n.word qs) ∷ b)) (ap (λ m. ports_from n.word m 0 40) (eqb-true n.ports 0 over) ∙ ports_none n.word 0 40) lines)
  over_gone (item.Recover r) b over fits lines = by r.phase over lines
    where
      by : (p : Replacing) → Rattle.recovery.specs.Recovering.is_over p ≡ true → HasLines e v (phase_lines e.graph r.key.0 r.life r.cause r.wait p b) → HasLines e v b
      by replacing.Passed z ls = passed_gone e v r.key.0 (r.life + 1) b ls
      by replacing.Over z ls = ls
      by replacing.Suspect z ls = absurd cc
      by (replacing.Renew done) z ls = absurd cc
      by replacing.Finish z ls = absurd cc
      by (replacing.Owe owe behind) z ls = absurd cc
      by (replacing.Reenter reenter) z ls = absurd cc
  over_gone item.Credit b over fits lines = absurd cc
  over_gone (item.Explore x) b over fits lines = absurd cc
  over_gone (item.Compute c) b over fits lines = absurd cc
  over_gone (item.Look k) b over fits lines = absurd cc
  over_gone (item.Owe o) b over fits lines = absurd cc

  pub all_gone : (xs : List Item) (b : List Line) → AllOver e.graph strikes xs → FitsAll g e v xs → HasLines e v (stacked e.graph xs b) → HasLines e v b
  all_gone [] b over fits lines = lines
  all_gone (x ∷ xs) b over fits lines = over_gone x b over.0 fits.0 (all_gone xs (item_lines e.graph x b) over.1 fits.1 lines)

  -- a closing that is not over is not finished
  pub close_unfinished : (c : Close) → FitsClose g e v c → is_over e.graph strikes (item.Close c) ≡ false → is_finished e.graph e.plan v.strikes (closing c) ≡ false
  close_unfinished c fits left = by (nat_lt c.word (e.graph.notify_words c.duty.key.0)) (close_left e.graph strikes c) refl refl
    where
      by : (b : Bool) (o : Option Next) → nat_lt c.word (e.graph.notify_words c.duty.key.0) ≡ b → close_left e.graph strikes c ≡ o → is_finished e.graph e.plan v.strikes (closing c) ≡ false
      by true o low is = rw low
      by false None low is = let q : is_over e.graph strikes (item.Close c) ≡ true = rw (is, low) in absurd (let a : false ≡ true = sym left ∙ q in cc)
      by false (Some next) low is =
          let past = ltb-false c.word (e.graph.notify_words c.duty.key.0) low in let words = some_word c.duty.key.0 in let far : 0 < c.word = omega (arith, past, words) in
          let at = at_notified g strikes lives e v runs c far past in let has = close_next g strikes lives e v runs c point.Notified at (fits.behind far) next is in
          let there = has.is_next in rw (low, there)

  -- A strike that is next is one of the item that is not over: where a block was taken for it, it is that of the item.
  module _ (k l : ℕ) (made : MakesStrike e v k l target.Block) where
    of_item : (x : Carried) (b : List Line) → flat v.stacks ≡ of x ∷ b → (q : core.Option Passing) → passing e.graph x ≡ q → strike_at e.graph e.plan v.strikes q ≡ some made.strike
    of_item x b top q is = ap (strike_at e.graph e.plan v.strikes) (sym is) ∙ sym (first_strike e.graph e.plan v x b top) ∙ made.is_next

    -- an item without a point makes none
    no_point : {X : Type 0} (x : Carried) (b : List Line) → flat v.stacks ≡ of x ∷ b → passing e.graph x ≡ none → X
    no_point x b top is = absurd (let a = of_item x b top none is in cc)

    -- the point is of the key and the life of the strike
    same_life : (x : Carried) (b : List Line) → flat v.stacks ≡ of x ∷ b → (y : Passing) → passing e.graph x ≡ some y → (y.key ≡ k) × (y.life ≡ l)
    same_life x b top y is =
        let a = named_is y.at y.key y.life (e.plan.strike made.strike) (next_named e.graph e.plan y.at y.key y.life made.strike v.strikes (of_item x b top (some y) is)) in
        (sym a.of_key ∙ made.of_key, sym a.of_life ∙ made.of_life)

    explores : (x : Explore) (b : List Line) → flat v.stacks ≡ of (exploring x) ∷ b → (x.duty.key.0 ≡ k) × (x.duty.life ≡ l)
    explores x b top = by (nat_lt x.place (e.graph.places x.duty.key.0)) refl
      where
        by : (q : Bool) → nat_lt x.place (e.graph.places x.duty.key.0) ≡ q → (x.duty.key.0 ≡ k) × (x.duty.life ≡ l)
        by true is = let a : passing e.graph (exploring x) ≡ none = rw is in no_point (exploring x) b top a
        by false is = let y : Passing = record { at = point.Explored; key = x.duty.key.0; life = x.duty.life } in let a : passing e.graph (exploring x) ≡ some y = rw is in same_life (exploring x) b top y a

    closes : (c : Close) (b : List Line) → flat v.stacks ≡ of (closing c) ∷ b → (c.duty.key.0 ≡ k) × (c.duty.life ≡ l)
    closes c b top = by (eqb c.word 0) (nat_lt c.word (e.graph.notify_words c.duty.key.0)) refl refl
      where
        by : (p q : Bool) → eqb c.word 0 ≡ p → nat_lt c.word (e.graph.notify_words c.duty.key.0) ≡ q → (c.duty.key.0 ≡ k) × (c.duty.life ≡ l)
        by true q first inside = let y : Passing = record { at = point.Computed; key = c.duty.key.0; life = c.duty.life } in let a : passing e.graph (closing c) ≡ some y = rw first in same_life (closing c) b top y a
        by false true first inside = let a : passing e.graph (closing c) ≡ none = rw (first, inside) in no_point (closing c) b top a
        by false false first inside = let y : Passing = record { at = point.Notified; key = c.duty.key.0; life = c.duty.life } in let a : passing e.graph (closing c) ≡ some y = rw (first, inside) in same_life (closing c) b top y a

    -- a replacement on top has no point
    replaces_none : {X : Type 0} (r : Recover) (b : List Line) → Fits g e v r → Rattle.recovery.specs.Recovering.is_over r.phase ≡ false → HasLines e v (item_lines e.graph (item.Recover r) b) → X
    replaces_none {X} r b fits left lines = by r.phase fits.in_phase left lines
      where
        by : (p : Replacing) → Rattle.recovery.specs.Recovering.FitsPhase g e v r.key.0 r.life r.lives p → Rattle.recovery.specs.Recovering.is_over p ≡ false → HasLines e v (phase_lines e.graph r.key.0 r.life r.cause r.wait p b) → X
        by replacing.Suspect f z ls = no_point (line.Suspect r.key.0 r.life r.cause r.wait) b (line_stands e v (line.Suspect r.key.0 r.life r.cause r.wait) b refl ls) refl
        by (replacing.Renew done) f z ls = no_point (line.Renew r.key.0 r.life done) b (line_stands e v (line.Renew r.key.0 r.life done) b refl ls) refl
        by replacing.Finish f z ls = no_point (line.Renew r.key.0 r.life (e.graph.notify_words r.key.0 + 1)) b (line_stands e v (line.Renew r.key.0 r.life (e.graph.notify_words r.key.0 + 1)) b refl ls) refl
        by (replacing.Owe owe behind) f z ls = let below = of (line.Reenter r.key.0 (r.life + 1) (all_ports behind.port (e.graph.ports r.key.0 - behind.port))) ∷ b in no_point (line.Owe owe.key.0 owe.job owe.life) below (line_stands e v (line.Owe owe.key.0 owe.job owe.life) below refl ls) refl
        by (replacing.Reenter reenter) f z ls = let q = reenter.port in let x = line.Reenter r.key.0 (r.life + 1) (q ∷ all_ports (q + 1) (e.graph.ports r.key.0 - (q + 1))) in
            no_point x b (line_stands e v x b refl (subst (λ qs. HasLines e v (of (line.Reenter r.key.0 (r.life + 1) qs) ∷ b)) (ports_onward q (e.graph.ports r.key.0) f.0) ls)) refl
        by replacing.Passed f z ls = absurd cc
        by replacing.Over f z ls = absurd cc

    -- the block in hand is that of an item that stood below others
    hand_below : (x : Item) (b : List Line) (was : BlockCells) → IsBelow x → is_over e.graph strikes x ≡ false → FitsItem g e v x → HasLines e v (item_lines e.graph x b) → FitsHand e v k l (Some was) → FitsTop e v (Some was) x
    hand_below item.Credit b was low left fits lines hand = absurd (let a : flat v.stacks ≡ credit ∷ b = lines.lines_are in let c = sym made.is_next ∙ no_strike_above e.graph e.plan v b a in cc)
    hand_below (item.Explore x) b was low left fits lines hand = let same = explores x b (line_stands e v (exploring x) b refl lines) in
        subst (λ i. FitsHand e v i x.duty.life (Some was)) (sym same.0) (subst (λ j. FitsHand e v k j (Some was)) (sym same.1) hand)
    hand_below (item.Compute c) b was low left fits lines hand = absurd low
    hand_below (item.Close c) b was low left fits lines hand = let same = closes c b (line_stands e v (closing c) b (close_unfinished c fits left) lines) in
        subst (λ i. FitsHand e v i c.duty.life (Some was)) (sym same.0) (subst (λ j. FitsHand e v k j (Some was)) (sym same.1) hand)
    hand_below (item.Notify n) b was low left fits lines hand = no_point (line.Notify n.key.0 n.life n.word (first_port n ∷ behind n)) b (port_top g e v n (λ z. absurd (let a : true ≡ false = sym (Rattle.std.proofs.lemmas.Bool.eq-eqb n.ports 0 z) ∙ left in cc)) fits b lines) refl
    hand_below (item.Look y) b was low left fits lines hand = absurd low
    hand_below (item.Owe o) b was low left fits lines hand = absurd low
    hand_below (item.Recover r) b was low left fits lines hand = replaces_none r b fits left lines

  -- nothing is in hand
  pub bare_below : (x : Item) → IsBelow x → v.hands ≡ [] → FitsTop e v None x
  bare_below item.Credit low bare = (bare, refl)
  bare_below (item.Explore x) low bare = bare
  bare_below (item.Compute c) low bare = absurd low
  bare_below (item.Close c) low bare = bare
  bare_below (item.Notify n) low bare = (bare, refl)
  bare_below (item.Look y) low bare = absurd low
  bare_below (item.Owe o) low bare = absurd low
  bare_below (item.Recover r) low bare = (bare, refl)

  -- the block in hand while the topmost items are over
  pub over_hand : (x y : Item) (b : List Line) (h : Option BlockCells) → IsBelow x → is_over e.graph strikes x ≡ false → is_over e.graph strikes y ≡ true → FitsItem g e v x → HasLines e v (item_lines e.graph x b) → FitsTop e v h y → FitsTop e v h x
  over_hand x (item.Close c) b None low left over fits lines top = bare_below x low top
  over_hand x (item.Close c) b (Some was) low left over fits lines top = hand_below c.duty.key.0 c.duty.life top.2 x b was low left fits lines top
  over_hand x (item.Notify n) b h low left over fits lines top = subst (λ o. FitsTop e v o x) (sym top.1) (bare_below x low top.0)
  over_hand x (item.Recover r) b h low left over fits lines top = subst (λ o. FitsTop e v o x) (sym top.1) (bare_below x low top.0)
  over_hand x item.Credit b h low left over fits lines top = absurd cc
  over_hand x (item.Explore y) b h low left over fits lines top = absurd cc
  over_hand x (item.Compute c) b h low left over fits lines top = absurd cc
  over_hand x (item.Look k) b h low left over fits lines top = absurd cc
  over_hand x (item.Owe o) b h low left over fits lines top = absurd cc

-- Credits and room.
pub below_credits : (x : Item) → IsBelow x → item_credits x ≡ 0
below_credits item.Credit low = refl
below_credits (item.Explore x) low = refl
below_credits (item.Compute c) low = absurd low
below_credits (item.Close c) low = refl
below_credits (item.Notify n) low = refl
below_credits (item.Look y) low = absurd low
below_credits (item.Owe o) low = absurd low
below_credits (item.Recover r) low = low

pub over_credits : (g : Graph) (p : List Strike) (x : Item) → is_over g p x ≡ true → item_credits x ≡ 0
over_credits g p (item.Close c) over = refl
over_credits g p (item.Notify n) over = refl
over_credits g p (item.Recover r) over = by r.phase over
  where
    by : (y : Replacing) → Rattle.recovery.specs.Recovering.is_over y ≡ true → Rattle.recovery.specs.Recovering.phase_credits y ≡ 0
    by replacing.Passed z = refl
    by replacing.Over z = refl
    by replacing.Suspect z = absurd cc
    by (replacing.Renew done) z = absurd cc
    by replacing.Finish z = absurd cc
    by (replacing.Owe owe behind) z = absurd cc
    by (replacing.Reenter reenter) z = absurd cc
over_credits g p item.Credit over = absurd cc
over_credits g p (item.Explore x) over = absurd cc
over_credits g p (item.Compute c) over = absurd cc
over_credits g p (item.Look k) over = absurd cc
over_credits g p (item.Owe o) over = absurd cc

pub scratch_room : (e : Setting) (g : TaskGraph) (s : Scratch) (x : Item) → FitsScratch e g s x → HasRoom g s
scratch_room e g s item.Credit fits = fits
scratch_room e g s (item.Explore x) fits = fits
scratch_room e g s (item.Compute c) fits = fits.0
scratch_room e g s (item.Close c) fits = fits
scratch_room e g s (item.Notify n) fits = fits
scratch_room e g s (item.Look y) fits = fits
scratch_room e g s (item.Owe o) fits = fits
scratch_room e g s (item.Recover r) fits = fits

pub below_scratch : (e : Setting) (g : TaskGraph) (s : Scratch) (x : Item) → IsBelow x → HasRoom g s → FitsScratch e g s x
below_scratch e g s item.Credit low room = room
below_scratch e g s (item.Explore x) low room = room
below_scratch e g s (item.Compute c) low room = absurd low
below_scratch e g s (item.Close c) low room = room
below_scratch e g s (item.Notify n) low room = room
below_scratch e g s (item.Look y) low room = absurd low
below_scratch e g s (item.Owe o) low room = absurd low
below_scratch e g s (item.Recover r) low room = room
