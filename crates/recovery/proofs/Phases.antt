-- How a replacement comes from one phase to the next.
use Rattle.std.proofs.Common.{◌≡◌, ◌⊎◌, ℕ, ◌+◌, ◌/◌, ◌≤◌, true, false, List, [], ◌∷◌, ⊎_elim, arith, sym, ap, refl, ◌∙◌, subst}
use Rattle.graph_model.specs.Graph.{Graph as TaskGraph}
use Rattle.graph_model.specs.declared.key.Key.{Key}
use Rattle.graph_model.specs.declared.record.Cause.{Cause}
use Rattle.core_state.specs.Tests.{is_seen_closed}
use Rattle.core_state.specs.Graph.{Graph, Setting}
use Rattle.core_state.specs.Events.{Event, after}
use Rattle.core_state.specs.Lines.{Line, HasLines, of}
use Rattle.core_state.specs.Outcome.{spare_left}
use Rattle.core_state.specs.Sure.{IsFresh}
use Rattle.core_state.specs.declared.job.Job.TheVariants as job
use Rattle.core_state.specs.declared.views.Item.TheVariants as item
use Rattle.core_state.specs.declared.views.View.{View}
use Rattle.core_state.proofs.Lines.After.{line_gone}
use Rattle.core_state.proofs.Lines.Outcomes.{leaves}
use Rattle.core_state.proofs.Lines.Ports.{ports_over}
use Rattle.core_steps.specs.Seat.{known_of}
use Rattle.key_table.proofs.Paths.{passed_stays}
use Rattle.recovery.specs.Memory.{Remembers}
use Rattle.recovery.specs.Owing.{owe_lines, paid_lines, paid_credits}
use Rattle.recovery.specs.Reentering.{port_lines, reached_lines, FitsWay, IsTold, ReachedTells, Reenters}
use Rattle.recovery.specs.Recovering.{recover_lines, phase_lines, phase_credits, turn_lines, Fits, FitsPhase, IsOnward, Recovers, SpendsLife, TurnTells, going, is_spent}
use Rattle.recovery.specs.declared.owe.Owe.{Owe}
use Rattle.recovery.specs.declared.owe.Paid.{Paid}
use Rattle.recovery.specs.declared.owe.Paid.TheVariants as paid
use Rattle.recovery.specs.declared.recover.Phase.{Phase}
use Rattle.recovery.specs.declared.recover.Phase.TheVariants as phase
use Rattle.recovery.specs.declared.recover.Recover.{Recover}
use Rattle.recovery.specs.declared.reenter.Reached.{Reached}
use Rattle.recovery.specs.declared.reenter.Reached.TheVariants as reached
use Rattle.recovery.specs.declared.reenter.Reenter.{Reenter}
use Rattle.recovery.specs.declared.reenter.Way.{Way}
use Rattle.recovery.specs.declared.reenter.Way.TheVariants as way
use Rattle.recovery.specs.declared.turn.Turn.{Turn}
use Rattle.recovery.specs.declared.turn.Turn.TheVariants as turn
use Rattle.recovery.proofs.Knowing.{key_stays}

-- an event that leaves the spare credits
pub credits_kept : (e : Setting) (x : Event) (n m : ℕ) (v w : View) → w ≡ after e x n v → spare_left e x v ≡ v.spare → v.spare ≡ m → w.spare ≡ m
credits_kept e x n m v w is same before = (leaves e x n v w is).spare_is ∙ same ∙ before

-- a turn that does not end the run tells no life
pub no_life : (t : Turn) (r : Recover) → is_spent t ≡ false → SpendsLife t r
no_life turn.Going r is = tt
no_life turn.Done r is = tt
no_life (turn.Met row k l c) r is = tt
no_life (turn.Given row k i l) r is = tt
no_life (turn.LivesSpent k l c) r is = absurd cc

module _ (g : TaskGraph) (e : Setting) (v w : View) (before : Recover) (fits : Fits g e v before) (knows : Remembers v w) where
  -- the replacement in its next phase, by what that rests on
  pub moves : (next : Phase) (now : Recover) (t told : Turn) → now ≡ record before { phase = next } → told ≡ t
      → ((b : List Line) → HasLines e v (recover_lines e.graph before b) → HasLines e w (turn_lines t (phase_lines e.graph before.key.0 before.life before.cause before.wait next b)))
      → FitsPhase g e w before.key.0 before.life before.lives next → TurnTells g e w next t → w.spare ≡ phase_credits next → Recovers g e v w before now told
  moves next now t told is tells_it lines rests tells credits = subst (λ x. Recovers g e v w before x told) (sym is) (subst (λ x. Recovers g e v w before (record before { phase = next }) x) (sym tells_it) (record {
    lines = lines;
    fits = record { is_key = fits.is_key; known = key_stays e v w before.row before.key.0 knows fits.known; lives_are = fits.lives_are; in_phase = rests };
    tells = tells;
    credits = credits;
    same = refl;
  }))

-- the lines in a known phase
pub lines_in : (e : Setting) (v : View) (r : Recover) (p : Phase) (b : List Line) → r.phase ≡ p → HasLines e v (recover_lines e.graph r b) → HasLines e v (phase_lines e.graph r.key.0 r.life r.cause r.wait p b)
lines_in e v r p b is lines = subst (λ x. HasLines e v (phase_lines e.graph r.key.0 r.life r.cause r.wait x b)) is lines

pub rests_in : (g : TaskGraph) (e : Setting) (v : View) (r : Recover) (p : Phase) → r.phase ≡ p → Fits g e v r → FitsPhase g e v r.key.0 r.life r.lives p
rests_in g e v r p is fits = subst (FitsPhase g e v r.key.0 r.life r.lives) is fits.in_phase

-- a re-entering without ports is gone where it is on top
pub passed_gone : (e : Setting) (v : View) (k l : ℕ) (b : List Line) → HasLines e v (of (item.Reenter k l []) ∷ b) → HasLines e v b
passed_gone e v k l b lines = line_gone e v (item.Reenter k l []) b refl lines

no_ports : (g : Graph) (k l q : ℕ) (b : List Line) → g.ports k ≤ q → port_lines g k l q b ≡ of (item.Reenter k l []) ∷ b
no_ports g k l q b high = ap (λ qs. of (item.Reenter k l qs) ∷ b) (ports_over q (g.ports k) high)

-- What comes after a step on the successors.
module _ (g : TaskGraph) (e : Setting) (v w : View) (before : Recover) (fits : Fits g e v before) (knows : Remembers v w) (reenter : Reenter) (way : FitsWay e w before.key.0 reenter.port reenter.way) (none : w.spare ≡ 0) where
  -- nothing was met
  pub goes_onward : (next : Phase) (now : Recover) (told : Turn) → IsOnward (e.graph.ports before.key.0) reenter phase.Over next → now ≡ record before { phase = next } → told ≡ going next
      → ((b : List Line) → HasLines e v (recover_lines e.graph before b) → HasLines e w (port_lines e.graph before.key.0 (before.life + 1) reenter.port b)) → Recovers g e v w before now told
  goes_onward next now told onward is tells lines = ⊎_elim
      (λ o. moves g e v w before fits knows (phase.Reenter reenter) now turn.Going told (is ∙ ap (λ p. record before { phase = p }) o.0) (tells ∙ ap going o.0) lines (o.1, o.2, way) refl none)
      (λ o. moves g e v w before fits knows phase.Over now turn.Done told (is ∙ ap (λ p. record before { phase = p }) o.0) (tells ∙ ap going o.0)
      (λ b old. passed_gone e w before.key.0 (before.life + 1) b (subst (HasLines e w) (no_ports e.graph before.key.0 (before.life + 1) reenter.port b o.1) (lines b old))) tt refl none)
      onward

  -- something stands above the rest
  pub stays_below : (next : Phase) (now : Recover) (t : Turn) → IsOnward (e.graph.ports before.key.0) reenter phase.Passed next → now ≡ record before { phase = next }
      → ((b : List Line) → HasLines e v (recover_lines e.graph before b) → HasLines e w (turn_lines t (port_lines e.graph before.key.0 (before.life + 1) reenter.port b)))
      → ((p : Phase) → phase_credits p ≡ 0 → TurnTells g e w p t) → Recovers g e v w before now t
  stays_below next now t onward is lines tells = ⊎_elim
      (λ o. moves g e v w before fits knows (phase.Reenter reenter) now t t (is ∙ ap (λ p. record before { phase = p }) o.0) refl lines (o.1, o.2, way) (tells (phase.Reenter reenter) refl) none)
      (λ o. moves g e v w before fits knows phase.Passed now t t (is ∙ ap (λ p. record before { phase = p }) o.0) refl
      (λ b old. subst (λ ls. HasLines e w (turn_lines t ls)) (no_ports e.graph before.key.0 (before.life + 1) reenter.port b o.1) (lines b old)) tt (tells phase.Passed refl) none)
      onward

-- What the way to a successor rests on stays.
pub way_stays : (e : Setting) (v w : View) (k q : ℕ) (y : Way) → Remembers v w → FitsWay e v k q y → FitsWay e w k q y
way_stays e v w k q way.Start more fits = tt
way_stays e v w k q (way.Seek s) more fits = record { key_is = fits.key_is; rows_are = fits.rows_are; looks = fits.looks; within = fits.within; passed = passed_stays (known_of v) (known_of w) s.key s.rows s.passed more.rows_stay fits.passed }
way_stays e v w k q (way.Load r) more fits = key_stays e v w r (e.graph.succ k q).task more fits
way_stays e v w k q (way.Register r) more fits = key_stays e v w r (e.graph.succ k q).task more fits
way_stays e v w k q (way.Spend r) more fits = (key_stays e v w r (e.graph.succ k q).task more fits.0, record { life = fits.1.life; closed_known = let a = more.facts_stay (is_seen_closed k fits.1.life (q / 40)) in let b = fits.1.closed_known in omega (arith, a, b) })

pub told_stays : (g : TaskGraph) (e : Setting) (v w : View) (r k : ℕ) → Remembers v w → IsTold g e v r k → IsTold g e w r k
told_stays g e v w r k more told = record { is_key = told.is_key; known = key_stays e v w r k more told.known }

phase_stays : (g : TaskGraph) (e : Setting) (v w : View) (k l lives : ℕ) (p : Phase) → Remembers v w → FitsPhase g e v k l lives p → FitsPhase g e w k l lives p
phase_stays g e v w k l lives phase.Suspect more fits = tt
phase_stays g e v w k l lives (phase.Renew done) more fits = fits
phase_stays g e v w k l lives phase.Finish more fits = fits
phase_stays g e v w k l lives (phase.Owe owe behind) more fits = (told_stays g e v w owe.row owe.key.0 more fits.0, way_stays e v w k behind.port behind.way more fits.1)
phase_stays g e v w k l lives (phase.Reenter reenter) more fits = (fits.0, fits.1, way_stays e v w k reenter.port reenter.way more fits.2)
phase_stays g e v w k l lives phase.Passed more fits = tt
phase_stays g e v w k l lives phase.Over more fits = tt

-- What a replacement rests on stays, whatever else its seat does.
pub fits_stays : (g : TaskGraph) (e : Setting) (v w : View) (r : Recover) → Remembers v w → Fits g e v r → Fits g e w r
fits_stays g e v w r more fits = record { is_key = fits.is_key; known = key_stays e v w r.row r.key.0 more fits.known; lives_are = fits.lives_are; in_phase = phase_stays g e v w r.key.0 r.life r.lives r.phase more fits.in_phase }

-- What the step for the job that is owed comes to.
module _ (g : TaskGraph) (e : Setting) (v w : View) (r : Recover) (fits : Fits g e v r) (more : Remembers v w) (owe : Owe) (behind : Reenter) (is : r.phase ≡ phase.Owe owe behind) (answer : Paid)
    (lines : (b : List Line) → HasLines e v (owe_lines owe b) → HasLines e w (paid_lines answer owe b)) (credits : w.spare ≡ paid_credits answer) where
  paid_as : (x : Paid) → answer ≡ x → (b : List Line) → HasLines e v (recover_lines e.graph r b) → HasLines e w (paid_lines x owe (port_lines e.graph r.key.0 (r.life + 1) behind.port b))
  paid_as x same b old = subst (λ y. HasLines e w (paid_lines y owe (port_lines e.graph r.key.0 (r.life + 1) behind.port b))) same (lines (port_lines e.graph r.key.0 (r.life + 1) behind.port b) (lines_in e v r (phase.Owe owe behind) b is old))

  rests : FitsPhase g e w r.key.0 r.life r.lives (phase.Owe owe behind)
  rests = phase_stays g e v w r.key.0 r.life r.lives (phase.Owe owe behind) more (rests_in g e v r (phase.Owe owe behind) is fits)

  pub goes_bought : (now : Recover) (told : Turn) (later : Owe) → answer ≡ paid.Bought → later ≡ record owe { bought = true } → now ≡ record r { phase = phase.Owe later behind } → told ≡ turn.Going → Recovers g e v w r now told
  goes_bought now told later paid_is later_is same tells = moves g e v w r fits more (phase.Owe (record owe { bought = true }) behind) now turn.Going told (same ∙ ap (λ o. record r { phase = phase.Owe o behind }) later_is) tells (paid_as paid.Bought paid_is) rests refl (credits ∙ ap paid_credits paid_is)

  pub goes_posted : (next : Phase) (now : Recover) (told : Turn) → answer ≡ paid.Posted → IsOnward (e.graph.ports r.key.0) behind phase.Over next → now ≡ record r { phase = next } → told ≡ going next → Recovers g e v w r now told
  goes_posted next now told paid_is onward same tells = goes_onward g e v w r fits more behind rests.1 (credits ∙ ap paid_credits paid_is) next now told onward same tells (paid_as paid.Posted paid_is)

  pub goes_given : (life : ℕ) (next : Phase) (now : Recover) (told : Turn) → answer ≡ paid.Given life → IsOnward (e.graph.ports r.key.0) behind phase.Passed next → now ≡ record r { phase = next } → told ≡ turn.Given owe.row owe.key owe.job life → IsFresh e w owe.job owe.key.0 life → Recovers g e v w r now told
  goes_given life next now told paid_is onward same tells fresh = subst (λ t. Recovers g e v w r now t) (sym tells)
      (stays_below g e v w r fits more behind rests.1 (credits ∙ ap paid_credits paid_is) next now (turn.Given owe.row owe.key owe.job life) onward same (paid_as (paid.Given life) paid_is) (λ p none. (rests.0, none, fresh)))

-- What the step for a successor comes to.
module _ (g : TaskGraph) (e : Setting) (v w : View) (r : Recover) (fits : Fits g e v r) (more : Remembers v w) (before reenter : Reenter) (is : r.phase ≡ phase.Reenter before) (answer : Reached) (goes : Reenters e v w r.key.0 before reenter answer) (none : w.spare ≡ 0) (tells : ReachedTells g e w answer) where
  reached_as : (x : Reached) → answer ≡ x → (b : List Line) → HasLines e v (recover_lines e.graph r b) → HasLines e w (reached_lines x (port_lines e.graph r.key.0 (r.life + 1) reenter.port b))
  reached_as x same b old = subst (λ y. HasLines e w (reached_lines y (port_lines e.graph r.key.0 (r.life + 1) reenter.port b))) same (goes.lines (r.life + 1) b (lines_in e v r (phase.Reenter before) b is old))

  pub goes_past : (next : Phase) (now : Recover) (told : Turn) → answer ≡ reached.Going → IsOnward (e.graph.ports r.key.0) reenter phase.Over next → now ≡ record r { phase = next } → told ≡ going next → Recovers g e v w r now told
  goes_past next now told reached_is onward same told_is = goes_onward g e v w r fits more reenter goes.way none next now told onward same told_is (reached_as reached.Going reached_is)

  pub goes_owing : (row life : ℕ) (key : Key) (owe : Owe) (now : Recover) (told : Turn) → answer ≡ reached.Last row key life → owe ≡ record { row = row; key = key; job = job.Compute; life = life; bought = false } → now ≡ record r { phase = phase.Owe owe reenter } → told ≡ turn.Going → Recovers g e v w r now told
  goes_owing row life key owe now told reached_is owe_is same told_is = let first : Owe = record { row = row; key = key; job = job.Compute; life = life; bought = false } in
      moves g e v w r fits more (phase.Owe first reenter) now turn.Going told (same ∙ ap (λ o. record r { phase = phase.Owe o reenter }) owe_is) told_is (reached_as (reached.Last row key life) reached_is) (subst (ReachedTells g e w) reached_is tells, goes.way) refl none

  pub goes_met : (row life : ℕ) (key : Key) (c : Cause) (next : Phase) (now : Recover) → answer ≡ reached.Mark row key life c → IsOnward (e.graph.ports r.key.0) reenter phase.Passed next → now ≡ record r { phase = next } → Recovers g e v w r now (turn.Met row key life c)
  goes_met row life key c next now reached_is onward same = stays_below g e v w r fits more reenter goes.way none next now (turn.Met row key life c) onward same (reached_as (reached.Mark row key life c) reached_is) (λ p spent. (subst (ReachedTells g e w) reached_is tells, spent))

-- Nothing is left.
pub goes_nowhere : (g : TaskGraph) (e : Setting) (v : View) (r now : Recover) (told : Turn) → Fits g e v r → (r.phase ≡ phase.Passed) ⊎ (r.phase ≡ phase.Over) → v.spare ≡ phase_credits r.phase → now ≡ record r { phase = phase.Over } → told ≡ turn.Done → Recovers g e v v r now told
goes_nowhere g e v r now told fits over credits same told_is = moves g e v v r fits (record { rows_stay = λ x k is. is; facts_stay = λ f. omega arith }) phase.Over now turn.Done told same told_is
    (λ b old. ⊎_elim (λ is. passed_gone e v r.key.0 (r.life + 1) b (lines_in e v r phase.Passed b is old)) (λ is. lines_in e v r phase.Over b is old) over) tt refl
    (credits ∙ ⊎_elim (λ is. ap phase_credits is) (λ is. ap phase_credits is) over)
