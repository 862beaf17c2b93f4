use Rattle.std.proofs.Common.{◌≡◌, ℕ, ◌+◌, Some, refl, subst, sym, ◌∙◌}
use Rattle.core_state.specs.Events.Event.{look}
use Rattle.core_steps.specs.Seat.{known_of}
use Rattle.key_table.specs.Seeking.{next_row}
use Rattle.key_table.specs.declared.search.Sought.TheVariants as sought
use Rattle.recovery.proofs.Knowing.{remembers}
use Rattle.recovery.proofs.Phases.{credits_kept}
use Rattle.recovery.proofs.Seeking.{look_is, look_right, look_step, spends, passed_by}
use Rattle.compute_notify.proofs.Stepped.{steps_once}
use Rattle.compute_notify.proofs.Telling.{awaits_successor, goes_on, goes_at}
use Rattle.compute_notify.proofs.notify.Notify.seek.Goals as goal

pub turn-requires-clause-passed : goal.turn-requires-clause-passed
turn-requires-clause-passed g c = let s = c.args.search in passed_by _ _ s.key s.rows s.passed (λ r. sym (g.met.T.Steps.known_is c.args.steps.now r)) c.requires.search.passed

pub unreachable-requires : goal.unreachable-requires
unreachable-requires g c = let e = g.T.Steps.setting c.args.steps.now in let v = g.T.Steps.view c.args.steps.now in
    c.turn.ensures.standing (subst (g.T.KeyWords.stands c.args.steps.now) (sym c.requires.search.key_is)
    (g.met.T.Steps.may_stand c.args.steps.now _ (awaits_successor _ e v c.args.self c.requires.left c.requires.stands.fits c.requires.stands.top))) c.in-Absent.is

pub returns-in-Going-clause-goes : goal.returns-in-Going-clause-goes
returns-in-Going-clause-goes g c = let s = c.args.search in let t = c.in-Going.ensures in let e = g.T.Steps.setting c.args.steps.now in let v = g.T.Steps.view c.args.steps.now in let w = g.T.Steps.view c.turn.new.words in
    let step = g.met.T.Steps.key_step c.args.steps.now c.turn.new.words _ _ t.did in let looks = c.requires.search.looks in
    let stays : (k : ℕ) → known_of v (next_row s) ≡ Some k → (g.T.KeyWords.last c.turn.new.words).1 ≡ k + 1 = λ k is. t.stays k (g.met.T.Steps.known_is c.args.steps.now _ ∙ is) in
    goes_on _ e v w (g.T.KeyWords.last c.turn.new.words).1 c.args.self c.requires.left c.requires.stands.fits
    (remembers e _ _ v w (look_right s looks step stays) (look_step s looks step).view_is)
    (credits_kept e (look (next_row s)) (g.T.KeyWords.last c.turn.new.words).1 0 v w (look_is s looks step) refl c.requires.stands.credits)
    s c.requires.search (g.T.KeyWords.known c.turn.new.words) stays (λ r. g.met.T.Steps.known_is c.turn.new.words r) (look_is s looks step) c.turn.new.self _ t.search t.tells refl

pub returns-in-At-clause-goes : goal.returns-in-At-clause-goes
returns-in-At-clause-goes g c = let s = c.args.search in let t = c.in-At.ensures in let e = g.T.Steps.setting c.args.steps.now in let v = g.T.Steps.view c.args.steps.now in let w = g.T.Steps.view c.turn.new.words in
    let step = g.met.T.Steps.key_step c.args.steps.now c.turn.new.words _ _ t.did in let looks = c.requires.search.looks in
    let stays : (k : ℕ) → known_of v (next_row s) ≡ Some k → (g.T.KeyWords.last c.turn.new.words).1 ≡ k + 1 = λ k is. t.stays k (g.met.T.Steps.known_is c.args.steps.now _ ∙ is) in
    goes_at _ e v w (g.T.KeyWords.last c.turn.new.words).1 c.args.self c.requires.left c.requires.stands.fits
    (remembers e _ _ v w (look_right s looks step stays) (look_step s looks step).view_is)
    (credits_kept e (look (next_row s)) (g.T.KeyWords.last c.turn.new.words).1 0 v w (look_is s looks step) refl c.requires.stands.credits)
    s c.requires.search (g.T.KeyWords.known c.turn.new.words) stays (λ r. g.met.T.Steps.known_is c.turn.new.words r) (look_is s looks step) c.in-At.row c.in-At.made _ t.tells refl

pub returns-in-Going-clause-step : goal.returns-in-Going-clause-step
returns-in-Going-clause-step g c = let s = c.args.search in let t = c.in-Going.ensures in let step = g.met.T.Steps.key_step c.args.steps.now c.turn.new.words _ _ t.did in
    steps_once g.T.KeyWords.spare (look_step s c.requires.search.looks step) (spends sought.Going _ _ t.room) _ refl

pub returns-in-At-clause-step : goal.returns-in-At-clause-step
returns-in-At-clause-step g c = let s = c.args.search in let t = c.in-At.ensures in let step = g.met.T.Steps.key_step c.args.steps.now c.turn.new.words _ _ t.did in
    steps_once g.T.KeyWords.spare (look_step s c.requires.search.looks step) (spends (sought.At c.in-At.row c.in-At.made) _ _ t.room) _ refl

pub returns-in-Going-clause-knows : goal.returns-in-Going-clause-knows
returns-in-Going-clause-knows g c = let s = c.args.search in let t = c.in-Going.ensures in let e = g.T.Steps.setting c.args.steps.now in let v = g.T.Steps.view c.args.steps.now in let w = g.T.Steps.view c.turn.new.words in
    let step = g.met.T.Steps.key_step c.args.steps.now c.turn.new.words _ _ t.did in let looks = c.requires.search.looks in
    remembers e _ _ v w (look_right s looks step (λ k is. t.stays k (g.met.T.Steps.known_is c.args.steps.now _ ∙ is))) (look_step s looks step).view_is

pub returns-in-At-clause-knows : goal.returns-in-At-clause-knows
returns-in-At-clause-knows g c = let s = c.args.search in let t = c.in-At.ensures in let e = g.T.Steps.setting c.args.steps.now in let v = g.T.Steps.view c.args.steps.now in let w = g.T.Steps.view c.turn.new.words in
    let step = g.met.T.Steps.key_step c.args.steps.now c.turn.new.words _ _ t.did in let looks = c.requires.search.looks in
    remembers e _ _ v w (look_right s looks step (λ k is. t.stays k (g.met.T.Steps.known_is c.args.steps.now _ ∙ is))) (look_step s looks step).view_is

pub returns-in-Going-clause-plain : goal.returns-in-Going-clause-plain
returns-in-Going-clause-plain g c = refl

pub returns-in-At-clause-plain : goal.returns-in-At-clause-plain
returns-in-At-clause-plain g c = refl
