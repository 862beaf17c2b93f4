use Rattle.std.proofs.Common.{◌≡◌, ◌∙◌, ℕ, ap, sym, subst, arith, refl, Some}
use Rattle.core_state.specs.Guards.{AtWork}
use Rattle.core_state.specs.Counts.{known_key}
use Rattle.core_state.specs.Events.{after}
use Rattle.core_state.specs.Events.Event.{take}
use Rattle.core_state.specs.Views.{strike_of, top_items}
use Rattle.core_state.specs.declared.job.Job.TheVariants.{Explore}
use Rattle.core_state.specs.declared.views.Item.TheVariants as item
use Rattle.core_state.specs.declared.views.View.{View}
use Rattle.core_steps.specs.Seat.{known_of}
use Rattle.core_steps.specs.Table.{view_at}
use Rattle.core_steps.proofs.Others.{seated}
use Rattle.core_steps.proofs.Walking.{settled_at}
use Rattle.core_steps.proofs.Working.{key_is, knows, explored_can_spend, took, took_none}
use Rattle.core_tests.specs.OneTask.{at_root, one_task}
use Rattle.core_tests.proofs.one_task.take_job.Goals as goal

pub take-taken-requires-clause-can : goal.take-taken-requires-clause-can
take-taken-requires-clause-can g c =
    let seat = c.seat-seat.ensures in
    let opens : view_at c.reserve.new.self.table.now c.reserve.new.self.worker ≡ view_at c.args.table.now 1 = c.reserve.ensures.view ∙ seated c.args.table.now _ _ _ seat.table seat.worker in
    knows _ 1 1 (ap (λ v. known_of v 1) opens ∙ c.requires.row) one_task (omega arith)

pub take-requires-clause-can : goal.take-requires-clause-can
take-requires-clause-can g c =
    let seat = c.seat-seat.ensures in
    let opens : view_at c.reserve.new.self.table.now c.reserve.new.self.worker ≡ view_at c.args.table.now 1 = c.reserve.ensures.view ∙ seated c.args.table.now _ _ _ seat.table seat.worker in
    knows _ 1 1 (ap (λ v. known_of v 1) c.take-taken.ensures.step.view_is ∙ ap (λ v. known_of v 1) opens ∙ c.requires.row) one_task (omega arith)

pub spend-requires-clause-can : goal.spend-requires-clause-can
spend-requires-clause-can g c =
    let seat = c.seat-seat.ensures in
    let first : View = view_at c.reserve.new.self.table.now c.reserve.new.self.worker in
    let second : View = view_at c.take-taken.new.self.table.now c.take-taken.new.self.worker in
    let third : View = view_at c.take.new.self.table.now c.take.new.self.worker in
    let opens : first ≡ view_at c.args.table.now 1 = c.reserve.ensures.view ∙ seated c.args.table.now _ _ _ seat.table seat.worker in
    let known : known_of first 1 ≡ Some 1 = ap (λ v. known_of v 1) opens ∙ c.requires.row in
    let one : c.take-taken.result ≡ 1 = omega arith in
    let none : c.take.result ≡ 0 = omega arith in
    let begins : AtWork second (item.Explore (known_key 1 first) c.take-taken.result 0) = took one_task first second 1 (known_key 1 first) c.take-taken.result Explore (λ z. omega (arith, one, z)) (c.take-taken.ensures.step.view_is ∙ ap (λ n. after one_task (take 1 Explore (known_key 1 first)) n first) (sym c.take-taken.ensures.number)) in
    let work : AtWork second (item.Explore 1 1 0) = subst (λ l. AtWork second (item.Explore 1 l 0)) one (subst (λ k. AtWork second (item.Explore k c.take-taken.result 0)) (key_is first 1 1 known) begins) in
    let same : third ≡ second = took_none one_task second third 1 (known_key 1 second) Explore (settled_at one_task second (item.Explore 1 1 0) refl work) (subst (λ n. third ≡ after one_task (take 1 Explore (known_key 1 second)) n second) none (c.take.ensures.step.view_is ∙ ap (λ n. after one_task (take 1 Explore (known_key 1 second)) n second) (sym c.take.ensures.number))) in
    let works : AtWork third (item.Explore 1 1 0) = subst (λ v. AtWork v (item.Explore 1 1 0)) (sym same) work in
    explored_can_spend third 1 1 (ap (λ v. known_of v 1) (same ∙ c.take-taken.ensures.step.view_is) ∙ known) one_task 1 0 (omega arith) refl works (ap (strike_of one_task.graph one_task.plan third.strikes) (ap top_items works.stacks_are ∙ works.items_are))

pub spend-requires-clause-preds : goal.spend-requires-clause-preds
spend-requires-clause-preds g c =
    let seat = c.seat-seat.ensures in
    let opens : view_at c.reserve.new.self.table.now c.reserve.new.self.worker ≡ view_at c.args.table.now 1 = c.reserve.ensures.view ∙ seated c.args.table.now _ _ _ seat.table seat.worker in
    let known : known_of (view_at c.take.new.self.table.now c.take.new.self.worker) 1 ≡ Some 1 = ap (λ v. known_of v 1) c.take.ensures.step.view_is ∙ ap (λ v. known_of v 1) c.take-taken.ensures.step.view_is ∙ ap (λ v. known_of v 1) opens ∙ c.requires.row in
    subst (λ k. ◌≡◌ {A = ℕ} 0 (at_root k)) (sym (key_is _ 1 1 known)) refl
