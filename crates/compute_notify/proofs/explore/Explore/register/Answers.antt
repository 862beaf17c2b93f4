use Rattle.std.proofs.Common.{ℕ, refl}
use Rattle.core_state.specs.Counts.{known_key}
use Rattle.core_state.specs.Events.Event.{register}
use Rattle.core_state.proofs.Lines.Outcomes.{leaves}
use Rattle.recovery.proofs.Knowing.{known_is, remembers_apart}
use Rattle.recovery.proofs.Phases.{credits_kept}
use Rattle.compute_notify.proofs.ExploreRests.{falls_struck}
use Rattle.compute_notify.proofs.Coming.{falls_as}
use Rattle.compute_notify.proofs.Exploring.{goes_closed, goes_struck, goes_waiting, may_register, register_event, registers_at}
use Rattle.compute_notify.proofs.Running.{limit_is}
use Rattle.compute_notify.proofs.explore.Explore.register.Goals as goal

pub register-requires-clause-can : goal.register-requires-clause-can
register-requires-clause-can g c = let e = g.T.Steps.setting c.args.steps.now in let v = g.T.Steps.view c.args.steps.now in let x = c.args.self in
    let at = registers_at _ e v x c.args.row c.args.edge c.requires.stands.fits c.requires.way c.requires.edge in
    may_register _ e v x c.requires.stands.fits c.requires.stands.top c.args.row c.args.edge at.0 c.requires.edge at.1

pub returns-in-Waiting-clause-goes : goal.returns-in-Waiting-clause-goes
returns-in-Waiting-clause-goes g c = let e = g.T.Steps.setting c.args.steps.now in let v = g.T.Steps.view c.args.steps.now in let x = c.args.self in let w = g.T.Steps.view c.register.new.self in let m : ℕ = (g.T.Steps.shown c.register.new.self).1 in
    let at = registers_at _ e v x c.args.row c.args.edge c.requires.stands.fits c.requires.way c.requires.edge in let step = c.register.ensures.step.view_is in
    goes_waiting _ e v x c.requires.stands.fits w (remembers_apart e (register c.args.row (known_key c.args.row v) c.args.edge.port) m v w refl step) (leaves e (register c.args.row (known_key c.args.row v) c.args.edge.port) m v w step).strikes_are
    (credits_kept e (register c.args.row (known_key c.args.row v) c.args.edge.port) m 0 v w step refl c.requires.stands.credits) at.0 m c.args.row c.args.edge c.requires.edge at.1 c.register.result c.register.ensures.told step c.in-Waiting.life _ c.in-Waiting.is
    refl

pub returns-in-Closed-clause-goes : goal.returns-in-Closed-clause-goes
returns-in-Closed-clause-goes g c = let e = g.T.Steps.setting c.args.steps.now in let v = g.T.Steps.view c.args.steps.now in let x = c.args.self in let w = g.T.Steps.view c.register.new.self in let m : ℕ = (g.T.Steps.shown c.register.new.self).1 in
    let at = registers_at _ e v x c.args.row c.args.edge c.requires.stands.fits c.requires.way c.requires.edge in let step = c.register.ensures.step.view_is in
    goes_closed _ e v x c.requires.stands.fits w (remembers_apart e (register c.args.row (known_key c.args.row v) c.args.edge.port) m v w refl step) (leaves e (register c.args.row (known_key c.args.row v) c.args.edge.port) m v w step).strikes_are
    (credits_kept e (register c.args.row (known_key c.args.row v) c.args.edge.port) m 0 v w step refl c.requires.stands.credits) at.0 m c.args.row c.args.edge c.requires.edge at.1 c.register.result c.register.ensures.told step c.in-Closed.life _ c.in-Closed.is
    refl

pub returns-in-Struck-clause-goes : goal.returns-in-Struck-clause-goes
returns-in-Struck-clause-goes g c = let e = g.T.Steps.setting c.args.steps.now in let v = g.T.Steps.view c.args.steps.now in let x = c.args.self in let w = g.T.Steps.view c.register.new.self in let m : ℕ = (g.T.Steps.shown c.register.new.self).1 in
    let at = registers_at _ e v x c.args.row c.args.edge c.requires.stands.fits c.requires.way c.requires.edge in let step = c.register.ensures.step.view_is in
    goes_struck _ e v x c.requires.stands.fits w (remembers_apart e (register c.args.row (known_key c.args.row v) c.args.edge.port) m v w refl step) (leaves e (register c.args.row (known_key c.args.row v) c.args.edge.port) m v w step).strikes_are
    (credits_kept e (register c.args.row (known_key c.args.row v) c.args.edge.port) m 0 v w step refl c.requires.stands.credits) at.0 m c.args.row c.args.edge c.requires.edge at.1 c.register.result c.register.ensures.told step c.args.terms.now.lives c.in-Struck.life _ (limit_is _ _ _ e c.requires.runs) c.in-Struck.is
    refl

pub returns-in-Struck-clause-rest : goal.returns-in-Struck-clause-rest
returns-in-Struck-clause-rest g c = let e = g.T.Steps.setting c.args.steps.now in let v = g.T.Steps.view c.args.steps.now in let x = c.args.self in let at = registers_at _ e v x c.args.row c.args.edge c.requires.stands.fits c.requires.way c.requires.edge in
    falls_as e _ _ _ _ (register_event e v x x.way c.args.row c.args.edge _ c.requires.way c.requires.edge) (falls_struck e c.args.terms.now.plan.now x at.0 v c.args.row c.args.edge c.requires.way (g.T.Steps.shown c.register.new.self).1 c.args.terms.now.lives c.in-Struck.life c.register.result _ (known_is e v c.args.row c.args.edge.key.0 at.1) c.register.ensures.told c.in-Struck.is
    refl)

pub returns-in-Waiting-clause-plain : goal.returns-in-Waiting-clause-plain
returns-in-Waiting-clause-plain g c = refl

pub returns-in-Closed-clause-plain : goal.returns-in-Closed-clause-plain
returns-in-Closed-clause-plain g c = refl

pub returns-in-Struck-clause-plain : goal.returns-in-Struck-clause-plain
returns-in-Struck-clause-plain g c = refl
