use Rattle.std.proofs.Common.{arith, refl}
use Rattle.recovery.specs.declared.recover.Phase.TheVariants as phase
use Rattle.recovery.proofs.Phases.{rests_in}
use Rattle.recovery.proofs.Renewing.{may_renew_notify, may_renew_descriptor, goes_renewed, goes_all, renews_word, renews_last}
use Rattle.recovery.proofs.Noting.{makes_as}
use Rattle.recovery.proofs.Resting.{rests_renewed, rests_all}
use Rattle.recovery.proofs.recover.Recover.renew.Goals as goal

pub renew_notify-requires : goal.renew_notify-requires
renew_notify-requires g c = let e = g.T.Steps.setting c.args.steps.now in let r = c.args.self.now in let words = c.notify_words.ensures c.requires.serves.outcome e.graph c.requires.serves.graph in let low = c.if-done-notify_words.true in
    record { can = may_renew_notify e _ r c.requires.fits.known c.args.done c.requires.phase (omega (arith, words, low)) c.requires.top }

pub renew_descriptor-requires : goal.renew_descriptor-requires
renew_descriptor-requires g c = let e = g.T.Steps.setting c.args.steps.now in let v = g.T.Steps.view c.args.steps.now in let r = c.args.self.now in let words = c.notify_words.ensures c.requires.serves.outcome e.graph c.requires.serves.graph in let high = c.if-done-notify_words.false in
    let rests = rests_in _ e v r (phase.Renew c.args.done) c.requires.phase c.requires.fits in let few = rests.1 in
    record { can = may_renew_descriptor e v r c.requires.fits.known c.args.done c.requires.phase (omega (arith, words, high, few)) c.requires.top }

pub returns-then-done-notify_words-clause-goes : goal.returns-then-done-notify_words-clause-goes
returns-then-done-notify_words-clause-goes g c = let e = g.T.Steps.setting c.args.steps.now in let words = c.notify_words.ensures c.requires.serves.outcome e.graph c.requires.serves.graph in let low = c.if-done-notify_words.true in let step = c.renew_notify in
    goes_renewed _ e (g.T.Steps.view c.args.steps.now) (g.T.Steps.view step.new.self) (g.T.Steps.shown step.new.self).1 c.args.self.now c.requires.fits c.requires.credit c.args.done c.requires.phase c.go.new.self c.go.result (omega (arith, words, low)) step.ensures.step.view_is c.go.ensures.same c.go.ensures.turn

pub returns-else-done-notify_words-clause-goes : goal.returns-else-done-notify_words-clause-goes
returns-else-done-notify_words-clause-goes g c = let e = g.T.Steps.setting c.args.steps.now in let step = c.renew_descriptor in let go = c.go-else-done-notify_words in
    goes_all _ e (g.T.Steps.view c.args.steps.now) (g.T.Steps.view step.new.self) (g.T.Steps.shown step.new.self).1 c.args.self.now c.requires.fits c.requires.credit c.args.done c.requires.phase go.new.self go.result step.ensures.step.view_is go.ensures.same go.ensures.turn

pub returns-then-done-notify_words-clause-step : goal.returns-then-done-notify_words-clause-step
returns-then-done-notify_words-clause-step g c = let e = g.T.Steps.setting c.args.steps.now in let words = c.notify_words.ensures c.requires.serves.outcome e.graph c.requires.serves.graph in let low = c.if-done-notify_words.true in let room = c.renew_notify.ensures.room in
    makes_as g.T.KeyWords.spare c.renew_notify.ensures.step (omega (arith, room)) refl refl refl _ refl (renews_word (g.T.Steps.setting c.args.steps.now) (g.T.Steps.view c.args.steps.now) c.args.self.now c.args.done c.requires.phase (omega (arith, words, low)))

pub returns-else-done-notify_words-clause-step : goal.returns-else-done-notify_words-clause-step
returns-else-done-notify_words-clause-step g c = let e = g.T.Steps.setting c.args.steps.now in let words = c.notify_words.ensures c.requires.serves.outcome e.graph c.requires.serves.graph in let high = c.if-done-notify_words.false in let room = c.renew_descriptor.ensures.room in
    makes_as g.T.KeyWords.spare c.renew_descriptor.ensures.step (omega (arith, room)) refl refl refl _ refl (renews_last (g.T.Steps.setting c.args.steps.now) (g.T.Steps.view c.args.steps.now) c.args.self.now c.args.done c.requires.phase (omega (arith, words, high)))

pub returns-then-done-notify_words-clause-rest : goal.returns-then-done-notify_words-clause-rest
returns-then-done-notify_words-clause-rest g c = let e = g.T.Steps.setting c.args.steps.now in let words = c.notify_words.ensures c.requires.serves.outcome e.graph c.requires.serves.graph in let low = c.if-done-notify_words.true in
    rests_renewed e c.args.self.now (g.T.Steps.shown c.renew_notify.new.self).1 c.go.new.self c.go.result c.args.done c.requires.phase (omega (arith, words, low)) c.go.ensures.same c.go.ensures.turn

pub returns-else-done-notify_words-clause-rest : goal.returns-else-done-notify_words-clause-rest
returns-else-done-notify_words-clause-rest g c = let go = c.go-else-done-notify_words in
    rests_all (g.T.Steps.setting c.args.steps.now) c.args.self.now (g.T.Steps.shown c.renew_descriptor.new.self).1 go.new.self go.result c.args.done c.requires.phase go.ensures.same go.ensures.turn
