use Rattle.std.proofs.Common.{◌≡◌, ℕ, None, Some, ap, subst, sym, ◌∙◌}
use Rattle.core_state.specs.Counts.{known_key}
use Rattle.core_state.specs.Events.Event.{close}
use Rattle.core_state.specs.Packed.{notify_word}
use Rattle.core_state.specs.Sure.{PortsTell}
use Rattle.core_state.specs.declared.words.NotifyWord.{NotifyWord}
use Rattle.recovery.proofs.Knowing.{known_is}
use Rattle.compute_notify.specs.Items.{close_from}
use Rattle.compute_notify.specs.declared.close.Close.{Close}
use Rattle.compute_notify.specs.declared.item.Came.TheVariants as came
use Rattle.compute_notify.specs.declared.item.Item.TheVariants as item
use Rattle.compute_notify.specs.declared.notify.Notify.{Notify}
use Rattle.compute_notify.specs.Rooms.{plain_came, is_plain}
use Rattle.compute_notify.proofs.Plain.{plain_gone}
use Rattle.compute_notify.proofs.Closing.{can_close, goes_edges, goes_moved, goes_stale, goes_struck}
use Rattle.compute_notify.proofs.ClosingRest.{falls_edges, falls_moved, falls_struck}
use Rattle.compute_notify.proofs.Coming.{falls_as}
use Rattle.compute_notify.proofs.Running.{limit_is}
use Rattle.compute_notify.proofs.close.Close.close_word.Goals as goal

pub close-requires-clause-can : goal.close-requires-clause-can
close-requires-clause-can g c = can_close _ (g.T.Steps.setting c.args.steps.now) (g.T.Steps.view c.args.steps.now) c.args.self c.requires.stands.fits c.requires.left _ _ c.requires.runs c.requires.stands.top c.requires.none c.guess.result c.guess.ensures

pub returns-in-Edges-clause-goes : goal.returns-in-Edges-clause-goes
returns-in-Edges-clause-goes g c = let step = c.close.ensures in let ports = c.in-Edges.ports in
    goes_edges _ (g.T.Steps.setting c.args.steps.now) (g.T.Steps.view c.args.steps.now) (g.T.Steps.view c.close.new.self) (g.T.Steps.shown c.close.new.self).1 (notify_word c.guess.result) c.args.self c.requires.stands.fits c.requires.left c.requires.stands.credits c.close.result step.told step.step.view_is
    ports c.over.result c.in-Edges.is step.ports
    (c.over.ensures ∙ ap (λ (x : Close). record { left = Some (item.Close x); came = came.Above (item.Notify c.of-notify.result) }) c.from-close.ensures
    ∙ ap (λ (x : Notify). record { left = Some (item.Close (close_from c.args.self.duty (Rattle.std.proofs.Common.◌+◌ c.args.self.word 1))); came = came.Above (item.Notify x) }) c.of-notify.ensures)

pub returns-in-Stale-clause-goes : goal.returns-in-Stale-clause-goes
returns-in-Stale-clause-goes g c = let step = c.close.ensures in
    goes_stale _ (g.T.Steps.setting c.args.steps.now) (g.T.Steps.view c.args.steps.now) (g.T.Steps.view c.close.new.self) (g.T.Steps.shown c.close.new.self).1 (notify_word c.guess.result) c.args.self c.requires.stands.fits c.requires.left c.requires.stands.credits c.close.result step.told step.step.view_is
    c.in-Stale.life c.leaves.result c.in-Stale.is c.leaves.ensures

pub returns-in-Struck-clause-goes : goal.returns-in-Struck-clause-goes
returns-in-Struck-clause-goes g c = let step = c.close.ensures in
    goes_struck _ (g.T.Steps.setting c.args.steps.now) (g.T.Steps.view c.args.steps.now) (g.T.Steps.view c.close.new.self) (g.T.Steps.shown c.close.new.self).1 (notify_word c.guess.result) c.args.self c.requires.stands.fits c.requires.left c.requires.stands.credits c.close.result step.told step.step.view_is
    c.in-Struck.life c.args.terms.now.lives c.gone.result c.in-Struck.is (limit_is _ _ _ (g.T.Steps.setting c.args.steps.now) c.requires.runs c.args.self.duty.key.0) (c.gone.ensures ∙ ap (λ x. record { left = None; came = x }) c.recover.ensures)

pub returns-in-Moved-clause-goes : goal.returns-in-Moved-clause-goes
returns-in-Moved-clause-goes g c = let step = c.close.ensures in
    goes_moved _ (g.T.Steps.setting c.args.steps.now) (g.T.Steps.view c.args.steps.now) (g.T.Steps.view c.close.new.self) (g.T.Steps.shown c.close.new.self).1 (notify_word c.guess.result) c.args.self c.requires.stands.fits c.requires.left c.requires.stands.credits c.close.result step.told step.step.view_is
    c.in-Moved.word c.stays.result c.in-Moved.is step.moved c.stays.ensures

pub returns-in-Edges-clause-rest : goal.returns-in-Edges-clause-rest
returns-in-Edges-clause-rest g c = let step = c.close.ensures in let e = g.T.Steps.setting c.args.steps.now in let v = g.T.Steps.view c.args.steps.now in let s = c.args.self in
    falls_as e _ _ _ _ (ap (λ (x : NotifyWord). close s.duty.row (known_key s.duty.row v) s.duty.life s.word (notify_word x)) c.guess.ensures)
    (falls_edges e c.args.terms.now.plan.now s c.requires.left v (g.T.Steps.shown c.close.new.self).1 (notify_word c.guess.result) c.in-Edges.ports c.over.result (sym c.in-Edges.is ∙ step.told) (known_is e v s.duty.row s.duty.key.0 c.requires.stands.fits.duty.known)
    (subst (PortsTell (e.graph.ports (known_key s.duty.row v)) s.word) c.in-Edges.is step.ports) (λ later. c.requires.stands.fits.between later c.requires.left)
    (c.over.ensures ∙ ap (λ (x : Close). record { left = Some (item.Close x); came = came.Above (item.Notify c.of-notify.result) }) c.from-close.ensures
    ∙ ap (λ (x : Notify). record { left = Some (item.Close (close_from s.duty (Rattle.std.proofs.Common.◌+◌ s.word 1))); came = came.Above (item.Notify x) }) c.of-notify.ensures))

pub returns-in-Struck-clause-rest : goal.returns-in-Struck-clause-rest
returns-in-Struck-clause-rest g c = let step = c.close.ensures in let e = g.T.Steps.setting c.args.steps.now in let v = g.T.Steps.view c.args.steps.now in let s = c.args.self in
    falls_as e _ _ _ _ (ap (λ (x : NotifyWord). close s.duty.row (known_key s.duty.row v) s.duty.life s.word (notify_word x)) c.guess.ensures)
    (falls_struck e c.args.terms.now.plan.now s c.requires.left v (g.T.Steps.shown c.close.new.self).1 (notify_word c.guess.result) c.in-Struck.life c.args.terms.now.lives c.gone.result (sym c.in-Struck.is ∙ step.told) (known_is e v s.duty.row s.duty.key.0 c.requires.stands.fits.duty.known)
    (c.gone.ensures ∙ ap (λ x. record { left = None; came = x }) c.recover.ensures))

pub returns-in-Moved-clause-rest : goal.returns-in-Moved-clause-rest
returns-in-Moved-clause-rest g c = let step = c.close.ensures in let e = g.T.Steps.setting c.args.steps.now in let v = g.T.Steps.view c.args.steps.now in let s = c.args.self in
    falls_as e _ _ _ _ (ap (λ (x : NotifyWord). close s.duty.row (known_key s.duty.row v) s.duty.life s.word (notify_word x)) c.guess.ensures)
    (falls_moved e c.args.terms.now.plan.now s c.requires.left v (g.T.Steps.shown c.close.new.self).1 (notify_word c.guess.result) c.in-Moved.word c.stays.result (sym c.in-Moved.is ∙ step.told) c.stays.ensures)

pub returns-in-Struck-clause-plain : goal.returns-in-Struck-clause-plain
returns-in-Struck-clause-plain g c = plain_gone c.recover.result c.gone.result c.gone.ensures (ap plain_came c.recover.ensures)

pub returns-in-Edges-clause-plain : goal.returns-in-Edges-clause-plain
returns-in-Edges-clause-plain g c = ap is_plain c.over.ensures

pub returns-in-Stale-clause-plain : goal.returns-in-Stale-clause-plain
returns-in-Stale-clause-plain g c = ap is_plain c.leaves.ensures

pub returns-in-Moved-clause-plain : goal.returns-in-Moved-clause-plain
returns-in-Moved-clause-plain g c = ap is_plain c.stays.ensures
