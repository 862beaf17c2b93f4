use Rattle.std.proofs.Common.{◌≡◌, subst, sym, ◌∙◌}
use Rattle.compute_notify.specs.Eventing.{item_event}
use Rattle.compute_notify.specs.Items.{Goes, ItemSpends, computed_after, explored_after, item_lines, notified_after}
use Rattle.compute_notify.specs.Resting.{FallsGood, LetsFall, after_rest, item_rest}
use Rattle.compute_notify.specs.Tasks.{but_last, items_rest, last_item}
use Rattle.compute_notify.specs.Working.{FitsTop}
use Rattle.compute_notify.specs.declared.item.Item.TheVariants as item
use Rattle.compute_notify.proofs.BelowStrikes.{compute_row, prepared_knows, stepped_knows}
use Rattle.compute_notify.proofs.HandsKept.{notify_hands, stepped_free}
use Rattle.compute_notify.proofs.Plain.{bare_scratch, plain_bare, plain_unspent}
use Rattle.compute_notify.proofs.TaskRests.{left_falls, left_good}
use Rattle.compute_notify.proofs.Topmost.{scratch_room}
use Rattle.compute_notify.proofs.task.Task.turn_next.Goals as goal

pub returns-in-Explore-clause-rest : goal.returns-in-Explore-clause-rest
returns-in-Explore-clause-rest g c on left is = let e = g.T.Steps.setting c.args.steps.now in let p = c.args.run.now.plan.now in let v = g.T.Steps.view c.args.steps.now in let n = (g.T.Steps.shown c.turn-told.new.steps).1 in let h = c.args.self.now.hand in let now_h = c.turn-told.new.hand in let x = item.Explore c.in-Explore.explore in
    subst (λ y. LetsFall e p (item_event e v p h now_h y) n (item_rest e p h y) (items_rest e p now_h left)) (sym c.in-Explore.is ∙ c.last.ensures)
    (left_falls e p (item_event e v p h now_h x) n (item_rest e p h x) now_h (explored_after c.in-Explore.explore c.args.run.now.lives c.turn-told.result) (but_last c.args.self.now.items.items) c.keep_explored.new.items.items left c.keep_explored.ensures.items is c.turn-told.ensures.rest)

pub returns-in-Compute-clause-rest : goal.returns-in-Compute-clause-rest
returns-in-Compute-clause-rest g c on left is = let e = g.T.Steps.setting c.args.steps.now in let p = c.args.run.now.plan.now in let v = g.T.Steps.view c.args.steps.now in let n = (g.T.Steps.shown c.turn-told-in-Compute.new.steps).1 in let h = c.args.self.now.hand in let now_h = c.turn-told-in-Compute.new.hand in let x = item.Compute c.in-Compute.compute in
    subst (λ y. LetsFall e p (item_event e v p h now_h y) n (item_rest e p h y) (items_rest e p now_h left)) (sym c.in-Compute.is ∙ c.last.ensures)
    (left_falls e p (item_event e v p h now_h x) n (item_rest e p h x) now_h (computed_after c.in-Compute.compute c.args.run.now.lives c.turn-told-in-Compute.result) (but_last c.args.self.now.items.items) c.keep_computed.new.items.items left c.keep_computed.ensures.items is c.turn-told-in-Compute.ensures.rest)

pub returns-in-Compute-clause-good : goal.returns-in-Compute-clause-good
returns-in-Compute-clause-good g c left is = let e = g.T.Steps.setting c.args.steps.now in let p = c.args.run.now.plan.now in let h = c.args.self.now.hand in let now_h = c.turn-told-in-Compute.new.hand in let x = item.Compute c.in-Compute.compute in
    subst (λ y. FallsGood e h y (item_rest e p h y) (items_rest e p now_h left)) (sym c.in-Compute.is ∙ c.last.ensures)
    (left_good e p h now_h x (item_rest e p h x) (computed_after c.in-Compute.compute c.args.run.now.lives c.turn-told-in-Compute.result) (but_last c.args.self.now.items.items) c.keep_computed.new.items.items left c.keep_computed.ensures.items is c.turn-told-in-Compute.ensures.good)

pub returns-in-Compute-clause-knows : goal.returns-in-Compute-clause-knows
returns-in-Compute-clause-knows g c = let e = g.T.Steps.setting c.args.steps.now in let v = g.T.Steps.view c.args.steps.now in let p = c.args.run.now.plan.now in let h = c.args.self.now.hand in
    stepped_knows g.T.KeyWords.spare c.turn-told-in-Compute.ensures.step (compute_row e v p h c.turn-told-in-Compute.new.hand c.in-Compute.compute) (prepared_knows e.graph c.in-Compute.compute v)

pub returns-in-Notify-clause-turned : goal.returns-in-Notify-clause-turned
returns-in-Notify-clause-turned g c = let e = g.T.Steps.setting c.args.steps.now in let v = g.T.Steps.view c.args.steps.now in let t = g.G.TaskGraph.graph c.args.run.now.graph.now in let h = c.args.self.now.hand in let n = c.in-Notify.notify in let s = c.args.run.now.scratch.now in
    let a = notified_after n c.args.run.now.lives c.turn-told-in-Notify.result in let last = last_item c.args.self.now.items.items in
    let is : item.Notify n ≡ last = sym c.in-Notify.is ∙ c.last.ensures in record {
      after = a;
      goes = subst (λ x. Goes t e v (g.T.Steps.view c.turn-told-in-Notify.new.steps) (item_lines e.graph x) a) is c.turn-told-in-Notify.ensures.goes;
      items_are = c.keep_notified.ensures.items;
      not_begun = c.requires.begun;
      top = stepped_free g.T.KeyWords.spare c.turn-told-in-Notify.ensures.step (notify_hands e v n n.way) h (subst (FitsTop e v h) (sym is) c.requires.top) a;
      scratch = bare_scratch e t s (scratch_room e t s last c.requires.scratch) a (plain_bare a c.turn-told-in-Notify.ensures.plain);
      told_is = c.keep_notified.ensures.told;
      spends = subst (λ x. ItemSpends e x a.came) is (plain_unspent a c.turn-told-in-Notify.ensures.plain);
    }

pub returns-in-Notify-clause-rest : goal.returns-in-Notify-clause-rest
returns-in-Notify-clause-rest g c on left is = let e = g.T.Steps.setting c.args.steps.now in let p = c.args.run.now.plan.now in let v = g.T.Steps.view c.args.steps.now in let n = (g.T.Steps.shown c.turn-told-in-Notify.new.steps).1 in let h = c.args.self.now.hand in let x = item.Notify c.in-Notify.notify in
    let a = notified_after c.in-Notify.notify c.args.run.now.lives c.turn-told-in-Notify.result in let last_is = sym c.in-Notify.is ∙ c.last.ensures in
    subst (λ y. LetsFall e p (item_event e v p h h y) n (item_rest e p h y) (items_rest e p h left)) last_is
    (left_falls e p (item_event e v p h h x) n (item_rest e p h x) h a (but_last c.args.self.now.items.items) c.keep_notified.new.items.items left c.keep_notified.ensures.items is
    (subst (λ i. LetsFall e p (item_event e v p h h x) n (item_rest e p i x) (after_rest e p i a)) (sym (subst (FitsTop e v h) (sym last_is) c.requires.top).1) c.turn-told-in-Notify.ensures.rest))
