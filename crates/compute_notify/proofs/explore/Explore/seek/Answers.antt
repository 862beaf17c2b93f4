use Rattle.std.proofs.Common.{◌≡◌, ℕ, ◌+◌, Some, ap, refl, subst, sym, ◌∙◌}
use Rattle.core_state.specs.Graph.{Edge}
use Rattle.core_state.specs.Events.Event.{claim}
use Rattle.core_state.proofs.Lines.Outcomes.{leaves}
use Rattle.core_steps.specs.Seat.{known_of}
use Rattle.key_table.specs.Seeking.{next_row}
use Rattle.key_table.specs.declared.search.Sought.TheVariants as sought
use Rattle.recovery.proofs.Knowing.{remembers}
use Rattle.recovery.proofs.Phases.{credits_kept}
use Rattle.recovery.proofs.Seeking.{spends}
use Rattle.compute_notify.proofs.Claims.{claim_is, claim_right, claim_step}
use Rattle.compute_notify.proofs.Exploring.{claims_at, explores, goes_found, goes_made, goes_on}
use Rattle.compute_notify.proofs.Stepped.{steps_once}
use Rattle.compute_notify.proofs.explore.Explore.seek.Goals as goal

pub turn-requires-clause-may : goal.turn-requires-clause-may
turn-requires-clause-may g c = λ makes. let e = g.T.Steps.setting c.args.steps.now in let v = g.T.Steps.view c.args.steps.now in
    subst (g.T.KeyWords.may c.args.steps.now) (ap (λ (y : Edge). y.task) c.requires.edge.pred_is ∙ sym c.requires.search.key_is)
    (g.met.T.Steps.may_claim c.args.steps.now _ (explores _ e v c.args.self c.requires.stands.fits c.requires.stands.top c.requires.place))

pub returns-in-Going-clause-goes : goal.returns-in-Going-clause-goes
returns-in-Going-clause-goes g c = let s = c.args.search in let t = c.in-Going.ensures in let e = g.T.Steps.setting c.args.steps.now in let v = g.T.Steps.view c.args.steps.now in let w = g.T.Steps.view c.turn.new.words in let m : ℕ = (g.T.KeyWords.last c.turn.new.words).1 in
    let step = g.met.T.Steps.key_step c.args.steps.now c.turn.new.words _ _ t.did in let claims = c.requires.search.makes_row in
    let stays : (k : ℕ) → known_of v (next_row s) ≡ Some k → m ≡ k + 1 = λ k is. t.stays k (g.met.T.Steps.known_is c.args.steps.now _ ∙ is) in
    goes_on _ e v c.args.self c.requires.stands.fits w (remembers e _ _ v w (claim_right s claims step stays) (claim_step s claims step).view_is) (leaves e (claim (next_row s) s.key) m v w (claim_is s claims step)).strikes_are
    (credits_kept e (claim (next_row s) s.key) m 0 v w (claim_is s claims step) refl c.requires.stands.credits) c.requires.place m s (claims_at _ e v c.args.self c.args.edge s c.requires.edge c.requires.search) (g.T.KeyWords.known c.turn.new.words) (λ r. g.met.T.Steps.known_is c.turn.new.words r) (claim_is s claims step)
    c.turn.new.self _ t.search t.tells refl

pub returns-in-At-default-true-clause-goes : goal.returns-in-At-default-true-clause-goes
returns-in-At-default-true-clause-goes g c = let s = c.args.search in let a = c.in-At-default-true in let t = a.ensures in let e = g.T.Steps.setting c.args.steps.now in let v = g.T.Steps.view c.args.steps.now in let w = g.T.Steps.view c.turn.new.words in let m : ℕ = (g.T.KeyWords.last c.turn.new.words).1 in
    let step = g.met.T.Steps.key_step c.args.steps.now c.turn.new.words _ _ t.did in let claims = c.requires.search.makes_row in
    let stays : (k : ℕ) → known_of v (next_row s) ≡ Some k → m ≡ k + 1 = λ k is. t.stays k (g.met.T.Steps.known_is c.args.steps.now _ ∙ is) in
    goes_made _ e v c.args.self c.requires.stands.fits w (remembers e _ _ v w (claim_right s claims step stays) (claim_step s claims step).view_is) (leaves e (claim (next_row s) s.key) m v w (claim_is s claims step)).strikes_are
    (credits_kept e (claim (next_row s) s.key) m 0 v w (claim_is s claims step) refl c.requires.stands.credits) c.requires.place m s (claims_at _ e v c.args.self c.args.edge s c.requires.edge c.requires.search) (g.T.KeyWords.known c.turn.new.words) (λ r. g.met.T.Steps.known_is c.turn.new.words r) (claim_is s claims step)
    a.row a.made c.args.edge _ _ a.made-test t.tells c.requires.edge refl refl

pub returns-in-At-default-false-clause-goes : goal.returns-in-At-default-false-clause-goes
returns-in-At-default-false-clause-goes g c = let s = c.args.search in let a = c.in-At-default-false in let t = a.ensures in let e = g.T.Steps.setting c.args.steps.now in let v = g.T.Steps.view c.args.steps.now in let w = g.T.Steps.view c.turn.new.words in let m : ℕ = (g.T.KeyWords.last c.turn.new.words).1 in
    let step = g.met.T.Steps.key_step c.args.steps.now c.turn.new.words _ _ t.did in let claims = c.requires.search.makes_row in
    let stays : (k : ℕ) → known_of v (next_row s) ≡ Some k → m ≡ k + 1 = λ k is. t.stays k (g.met.T.Steps.known_is c.args.steps.now _ ∙ is) in
    goes_found _ e v c.args.self c.requires.stands.fits w (remembers e _ _ v w (claim_right s claims step stays) (claim_step s claims step).view_is) (leaves e (claim (next_row s) s.key) m v w (claim_is s claims step)).strikes_are
    (credits_kept e (claim (next_row s) s.key) m 0 v w (claim_is s claims step) refl c.requires.stands.credits) c.requires.place m s (claims_at _ e v c.args.self c.args.edge s c.requires.edge c.requires.search) (g.T.KeyWords.known c.turn.new.words) (λ r. g.met.T.Steps.known_is c.turn.new.words r) (claim_is s claims step)
    a.row a.made _ a.made-test t.tells refl

pub returns-in-Going-clause-step : goal.returns-in-Going-clause-step
returns-in-Going-clause-step g c = let s = c.args.search in let t = c.in-Going.ensures in let step = g.met.T.Steps.key_step c.args.steps.now c.turn.new.words _ _ t.did in
    steps_once g.T.KeyWords.spare (claim_step s c.requires.search.makes_row step) (spends sought.Going _ _ t.room) _ refl

pub returns-in-At-default-true-clause-step : goal.returns-in-At-default-true-clause-step
returns-in-At-default-true-clause-step g c = let s = c.args.search in let a = c.in-At-default-true in let t = a.ensures in let step = g.met.T.Steps.key_step c.args.steps.now c.turn.new.words _ _ t.did in
    steps_once g.T.KeyWords.spare (claim_step s c.requires.search.makes_row step) (spends (sought.At a.row a.made) _ _ t.room) _ refl

pub returns-in-At-default-false-clause-step : goal.returns-in-At-default-false-clause-step
returns-in-At-default-false-clause-step g c = let s = c.args.search in let a = c.in-At-default-false in let t = a.ensures in let step = g.met.T.Steps.key_step c.args.steps.now c.turn.new.words _ _ t.did in
    steps_once g.T.KeyWords.spare (claim_step s c.requires.search.makes_row step) (spends (sought.At a.row a.made) _ _ t.room) _ refl

pub returns-in-Going-clause-knows : goal.returns-in-Going-clause-knows
returns-in-Going-clause-knows g c = let s = c.args.search in let t = c.in-Going.ensures in let e = g.T.Steps.setting c.args.steps.now in let v = g.T.Steps.view c.args.steps.now in let w = g.T.Steps.view c.turn.new.words in
    let step = g.met.T.Steps.key_step c.args.steps.now c.turn.new.words _ _ t.did in let claims = c.requires.search.makes_row in
    remembers e _ _ v w (claim_right s claims step (λ k is. t.stays k (g.met.T.Steps.known_is c.args.steps.now _ ∙ is))) (claim_step s claims step).view_is

pub returns-in-At-default-true-clause-knows : goal.returns-in-At-default-true-clause-knows
returns-in-At-default-true-clause-knows g c = let s = c.args.search in let t = c.in-At-default-true.ensures in let e = g.T.Steps.setting c.args.steps.now in let v = g.T.Steps.view c.args.steps.now in let w = g.T.Steps.view c.turn.new.words in
    let step = g.met.T.Steps.key_step c.args.steps.now c.turn.new.words _ _ t.did in let claims = c.requires.search.makes_row in
    remembers e _ _ v w (claim_right s claims step (λ k is. t.stays k (g.met.T.Steps.known_is c.args.steps.now _ ∙ is))) (claim_step s claims step).view_is

pub returns-in-At-default-false-clause-knows : goal.returns-in-At-default-false-clause-knows
returns-in-At-default-false-clause-knows g c = let s = c.args.search in let t = c.in-At-default-false.ensures in let e = g.T.Steps.setting c.args.steps.now in let v = g.T.Steps.view c.args.steps.now in let w = g.T.Steps.view c.turn.new.words in
    let step = g.met.T.Steps.key_step c.args.steps.now c.turn.new.words _ _ t.did in let claims = c.requires.search.makes_row in
    remembers e _ _ v w (claim_right s claims step (λ k is. t.stays k (g.met.T.Steps.known_is c.args.steps.now _ ∙ is))) (claim_step s claims step).view_is

pub returns-in-Going-clause-plain : goal.returns-in-Going-clause-plain
returns-in-Going-clause-plain g c = refl

pub returns-in-At-default-true-clause-plain : goal.returns-in-At-default-true-clause-plain
returns-in-At-default-true-clause-plain g c = refl

pub returns-in-At-default-false-clause-plain : goal.returns-in-At-default-false-clause-plain
returns-in-At-default-false-clause-plain g c = refl
