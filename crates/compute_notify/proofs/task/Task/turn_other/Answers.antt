use Rattle.std.proofs.Common.{◌≡◌, true, subst, sym}
use Rattle.compute_notify.specs.Eventing.{item_event, steps_on}
use Rattle.compute_notify.specs.Resting.{LetsFall, item_rest}
use Rattle.compute_notify.specs.Tasks.{but_last, items_rest}
use Rattle.compute_notify.proofs.TaskRests.{left_falls}
use Rattle.compute_notify.proofs.task.Task.turn_other.Goals as goal

pub returns-clause-rest : goal.returns-clause-rest
returns-clause-rest g c on left is = let e = g.T.Steps.setting c.args.steps.now in let p = c.args.run.now.plan.now in let v = g.T.Steps.view c.args.steps.now in let n = (g.T.Steps.shown c.turn_item-after.new.steps).1 in let h = c.args.self.now.hand in let now_h = c.turn_item-after.new.hand in let x = c.last.result.now in
    subst (λ y. LetsFall e p (item_event e v p h now_h y) n (item_rest e p h y) (items_rest e p now_h left)) c.last.ensures
    (left_falls e p (item_event e v p h now_h x) n (item_rest e p h x) now_h c.turn_item-after.result (but_last c.args.self.now.items.items) c.settle.new.items.items left c.settle.ensures.items is (c.turn_item-after.ensures.rest (subst (λ y. steps_on y ≡ true) (sym c.last.ensures) on)))
