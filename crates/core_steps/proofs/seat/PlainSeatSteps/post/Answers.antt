use Rattle.std.proofs.Common.{refl, ◌<◌, sym, subst}
use Rattle.core_state.specs.Counts.{known_key}
use Rattle.core_state.specs.Events.{after}
use Rattle.core_state.specs.Events.Event.{post}
use Rattle.core_state.specs.Sure.{IsFresh}
use Rattle.core_state.specs.declared.views.View.{View}
use Rattle.core_state.proofs.Own.Answers.{fresh_post}
use Rattle.core_steps.specs.Table.{core_by, view_at}
use Rattle.core_steps.proofs.Seats.{found_word, seat_within}
use Rattle.core_steps.proofs.Seats.{seat_step}
use Rattle.core_steps.proofs.seat.PlainSeatSteps.post.Goals as goal

pub returns-clause-step : goal.returns-clause-step
returns-clause-step g c = let step = c.post-told.ensures.step in
    seat_step _ _ _ _ _ _ _ _ _ c.args.self.now _ c.args.self.now.worker c.post-told.result.1 c.args.self.now.table.now _ step refl refl refl refl refl refl (λ j. (c.stepped.ensures j).shown) (λ j. (c.stepped.ensures j).made) (λ j. (c.stepped.ensures j).last) step.words

pub returns-clause-fresh : goal.returns-clause-fresh
returns-clause-fresh g c some = let step = c.post-told.ensures.step in let p = c.args.self.now.table.now in let number = c.post-told.ensures.number in
    subst (λ (u : View). IsFresh g.C.Course.setting u c.args.job (known_key c.args.row (view_at p c.args.self.now.worker)) c.post-told.result.0) (sym step.view_is)
    (subst (λ n. 0 < n → IsFresh g.C.Course.setting (after g.C.Course.setting (post c.args.row c.args.job (known_key c.args.row (view_at p c.args.self.now.worker)) c.args.life) c.post-told.result.1.found (view_at p c.args.self.now.worker)) c.args.job (known_key c.args.row (view_at p c.args.self.now.worker)) n) (sym number)
    (fresh_post g.C.Course.setting (core_by p.shape p.words p.blocks p.views) step.before.holds (view_at p c.args.self.now.worker) (seat_within p c.args.self.now.worker step.low) c.args.row c.args.job (known_key c.args.row (view_at p c.args.self.now.worker)) c.args.life c.post-told.result.1.found c.requires.can (found_word g.C.Course.setting c.args.self.now.worker (post c.args.row c.args.job (known_key c.args.row (view_at p c.args.self.now.worker)) c.args.life) c.post-told.result.1 p _ step)) some)
