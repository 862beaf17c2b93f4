use Rattle.std.proofs.Common.{◌≡◌, ◌++◌, arith, Bool, Some, false, true, ap, sym, subst, ◌∙◌, not, refl}
use Rattle.compute_notify.specs.Eventing.{item_event, item_hints, item_prepared, steps_on}
use Rattle.compute_notify.specs.Resting.{FallsGood, LetsFall, LooksAgain, item_rest}
use Rattle.compute_notify.specs.Stepping.{HasStepped}
use Rattle.compute_notify.specs.Tasks.{AllMayBeOver, IsNext, begun_items, but_last, items_rest, last_item, task_items, task_rest}
use Rattle.compute_notify.specs.Working.{FitsTop}
use Rattle.compute_notify.proofs.LastItems.{next_fits}
use Rattle.compute_notify.proofs.Stacking.{next_alone, next_once}
use Rattle.compute_notify.proofs.TaskRests.{task_falls, task_good}
use Rattle.compute_notify.proofs.TaskSteps.{turn_holds, turn_notes, turn_tells}
use Rattle.compute_notify.proofs.Turned.{all_may, next_scratch, next_stands, next_top, turned_scratch}
use Rattle.compute_notify.proofs.task.Task.turn.Goals as goal

pub next-requires-after_bounds : goal.next-requires-after_bounds
next-requires-after_bounds g c κs within = let e = g.T.Steps.setting c.args.steps.now in let t = g.G.TaskGraph.graph c.args.run.now.graph.now in
    subst (AllMayBeOver t) (sym c.begin.ensures.items) (all_may t e (g.T.Steps.view c.args.steps.now) (task_items c.args.self.now) c.requires.holds.fits)

pub turn_next-requires-clause-stands : goal.turn_next-requires-clause-stands
turn_next-requires-clause-stands g c κs within = let e = g.T.Steps.setting c.args.steps.now in let t = g.G.TaskGraph.graph c.args.run.now.graph.now in let p = c.args.run.now.plan.now in let runs = c.requires.runs in
    next_stands t p c.args.run.now.lives e (g.T.Steps.view c.args.steps.now) runs c.args.self.now c.requires.holds (but_last c.next.new.items.items) (last_item c.next.new.items.items)
    (subst (λ xs. IsNext e.graph p xs (but_last c.next.new.items.items) (Some (last_item c.next.new.items.items))) c.begin.ensures.items (c.if-next.ensures.next runs.serves.outcome e.graph runs.serves.graph).1)

pub turn_next-requires-clause-top : goal.turn_next-requires-clause-top
turn_next-requires-clause-top g c κs within = let e = g.T.Steps.setting c.args.steps.now in let t = g.G.TaskGraph.graph c.args.run.now.graph.now in let p = c.args.run.now.plan.now in let runs = c.requires.runs in let v = g.T.Steps.view c.args.steps.now in
    subst (λ h. FitsTop e v h (last_item c.next.new.items.items)) (sym c.begin.ensures.hand)
    (next_top t p c.args.run.now.lives e v runs c.args.self.now c.requires.holds (but_last c.next.new.items.items) (last_item c.next.new.items.items)
    (subst (λ xs. IsNext e.graph p xs (but_last c.next.new.items.items) (Some (last_item c.next.new.items.items))) c.begin.ensures.items (c.if-next.ensures.next runs.serves.outcome e.graph runs.serves.graph).1))

pub turn_next-requires-clause-scratch : goal.turn_next-requires-clause-scratch
turn_next-requires-clause-scratch g c κs within = let e = g.T.Steps.setting c.args.steps.now in let t = g.G.TaskGraph.graph c.args.run.now.graph.now in let p = c.args.run.now.plan.now in let runs = c.requires.runs in
    next_scratch t p c.args.run.now.lives e (g.T.Steps.view c.args.steps.now) runs c.args.self.now c.requires.holds (but_last c.next.new.items.items) (last_item c.next.new.items.items)
    (subst (λ xs. IsNext e.graph p xs (but_last c.next.new.items.items) (Some (last_item c.next.new.items.items))) c.begin.ensures.items (c.if-next.ensures.next runs.serves.outcome e.graph runs.serves.graph).1) c.args.run.now.scratch.now c.requires.scratch

pub turn_next-requires-clause-space : goal.turn_next-requires-clause-space
turn_next-requires-clause-space g c κs within = let runs = c.requires.runs in let fits = next_fits (g.T.Steps.setting c.args.steps.now).graph c.args.run.now.plan.now c.begin.new.self.items.items c.next.new.items.items (c.if-next.ensures.next runs.serves.outcome (g.T.Steps.setting c.args.steps.now).graph runs.serves.graph) in let same = c.next.ensures.capacity in let room = c.begin.ensures.room in
    omega (arith, fits, same, room)

going_on : (b : Bool) → not b ≡ false → b ≡ true
going_on true z = refl
going_on false z = absurd cc

pub returns-then-next-clause-holds : goal.returns-then-next-clause-holds
returns-then-next-clause-holds g c = let s = c.args.steps.now in let e = g.T.Steps.setting s in let v = g.T.Steps.view s in let t = g.G.TaskGraph.graph c.args.run.now.graph.now in let p = c.args.run.now.plan.now in let runs = c.requires.runs in let task = c.args.self.now in let left = but_last c.next.new.items.items in let x = last_item c.next.new.items.items in let now = c.turn_next.new.self in let u = c.turn_next.new.steps in
    let next : IsNext e.graph p (task_items task) left (Some x) = subst (λ xs. IsNext e.graph p xs left (Some x)) c.begin.ensures.items (c.if-next.ensures.next runs.serves.outcome e.graph runs.serves.graph).1 in
    let stepped : steps_on x ≡ true → HasStepped g.T.Steps.setting g.T.Steps.view g.T.KeyWords.made g.T.KeyWords.spare g.T.KeyWords.last g.T.Steps.shown g.T.Steps.happened g.T.Steps.lender g.T.Steps.others (item_prepared e.graph x) (item_event e v p task.hand now.hand x) s u = λ on. subst (λ h. HasStepped g.T.Steps.setting g.T.Steps.view g.T.KeyWords.made g.T.KeyWords.spare g.T.KeyWords.last g.T.Steps.shown g.T.Steps.happened g.T.Steps.lender g.T.Steps.others (item_prepared e.graph x) (item_event e v p h now.hand x) s u) c.begin.ensures.hand (c.turn_next.ensures.step on) in
    turn_holds g.T.KeyWords.spare t p c.args.run.now.lives runs task c.requires.holds left x next now c.turn_next.ensures.still stepped c.turn_next.new.run.scratch.now c.turn_next.result c.turn_next.ensures.turned c.turn_next.ensures.spent c.turn_next.ensures.knows c.turn_next.ensures.ends

pub returns-then-next-clause-tells : goal.returns-then-next-clause-tells
returns-then-next-clause-tells g c = let s = c.args.steps.now in let e = g.T.Steps.setting s in let v = g.T.Steps.view s in let t = g.G.TaskGraph.graph c.args.run.now.graph.now in let p = c.args.run.now.plan.now in let runs = c.requires.runs in let task = c.args.self.now in let left = but_last c.next.new.items.items in let x = last_item c.next.new.items.items in let now = c.turn_next.new.self in let u = c.turn_next.new.steps in
    let next : IsNext e.graph p (task_items task) left (Some x) = subst (λ xs. IsNext e.graph p xs left (Some x)) c.begin.ensures.items (c.if-next.ensures.next runs.serves.outcome e.graph runs.serves.graph).1 in
    let stepped : steps_on x ≡ true → HasStepped g.T.Steps.setting g.T.Steps.view g.T.KeyWords.made g.T.KeyWords.spare g.T.KeyWords.last g.T.Steps.shown g.T.Steps.happened g.T.Steps.lender g.T.Steps.others (item_prepared e.graph x) (item_event e v p task.hand now.hand x) s u = λ on. subst (λ h. HasStepped g.T.Steps.setting g.T.Steps.view g.T.KeyWords.made g.T.KeyWords.spare g.T.KeyWords.last g.T.Steps.shown g.T.Steps.happened g.T.Steps.lender g.T.Steps.others (item_prepared e.graph x) (item_event e v p h now.hand x) s u) c.begin.ensures.hand (c.turn_next.ensures.step on) in
    turn_tells g.T.KeyWords.spare t p c.args.run.now.lives runs task c.requires.holds left x next now c.turn_next.ensures.still stepped c.turn_next.new.run.scratch.now c.turn_next.result c.turn_next.ensures.turned c.turn_next.ensures.spent

pub returns-then-next-clause-scratch : goal.returns-then-next-clause-scratch
returns-then-next-clause-scratch g c = let s = c.args.steps.now in let e = g.T.Steps.setting s in let v = g.T.Steps.view s in let t = g.G.TaskGraph.graph c.args.run.now.graph.now in let p = c.args.run.now.plan.now in let runs = c.requires.runs in let task = c.args.self.now in let left = but_last c.next.new.items.items in let x = last_item c.next.new.items.items in let now = c.turn_next.new.self in let u = c.turn_next.new.steps in
    let next : IsNext e.graph p (task_items task) left (Some x) = subst (λ xs. IsNext e.graph p xs left (Some x)) c.begin.ensures.items (c.if-next.ensures.next runs.serves.outcome e.graph runs.serves.graph).1 in
    turned_scratch t p c.args.run.now.lives e v (g.T.Steps.view u) runs task c.requires.holds left x next now c.turn_next.new.run.scratch.now c.turn_next.result c.turn_next.ensures.turned

pub returns-then-next-clause-calls : goal.returns-then-next-clause-calls
returns-then-next-clause-calls g c = let s = c.args.steps.now in let e = g.T.Steps.setting s in let v = g.T.Steps.view s in let t = g.G.TaskGraph.graph c.args.run.now.graph.now in let p = c.args.run.now.plan.now in let runs = c.requires.runs in let task = c.args.self.now in let left = but_last c.next.new.items.items in let x = last_item c.next.new.items.items in let now = c.turn_next.new.self in let u = c.turn_next.new.steps in
    let next : IsNext e.graph p (task_items task) left (Some x) = subst (λ xs. IsNext e.graph p xs left (Some x)) c.begin.ensures.items (c.if-next.ensures.next runs.serves.outcome e.graph runs.serves.graph).1 in
    let stepped : steps_on x ≡ true → HasStepped g.T.Steps.setting g.T.Steps.view g.T.KeyWords.made g.T.KeyWords.spare g.T.KeyWords.last g.T.Steps.shown g.T.Steps.happened g.T.Steps.lender g.T.Steps.others (item_prepared e.graph x) (item_event e v p task.hand now.hand x) s u = λ on. subst (λ h. HasStepped g.T.Steps.setting g.T.Steps.view g.T.KeyWords.made g.T.KeyWords.spare g.T.KeyWords.last g.T.Steps.shown g.T.Steps.happened g.T.Steps.lender g.T.Steps.others (item_prepared e.graph x) (item_event e v p h now.hand x) s u) c.begin.ensures.hand (c.turn_next.ensures.step on) in
    turn_notes g.T.KeyWords.spare t p c.args.run.now.lives runs task c.requires.holds left x next now c.turn_next.ensures.still stepped (g.Ke.Kernel.calls c.args.run.now.kernel.now) (g.Ke.Kernel.calls c.turn_next.new.run.kernel.now) c.turn_next.ensures.calls

pub returns-then-next-clause-hints : goal.returns-then-next-clause-hints
returns-then-next-clause-hints g c others y is = let s = c.args.steps.now in let e = g.T.Steps.setting s in let v = g.T.Steps.view s in let t = g.G.TaskGraph.graph c.args.run.now.graph.now in let p = c.args.run.now.plan.now in let runs = c.requires.runs in let task = c.args.self.now in let left = but_last c.next.new.items.items in let x = last_item c.next.new.items.items in let now = c.turn_next.new.self in let u = c.turn_next.new.steps in
    let next : IsNext e.graph p (task_items task) left (Some x) = subst (λ xs. IsNext e.graph p xs left (Some x)) c.begin.ensures.items (c.if-next.ensures.next runs.serves.outcome e.graph runs.serves.graph).1 in
    let same : x ≡ y = next_once e.graph p left others x y next.0 is.0 next.2 is.2 next.3 is.3 (sym next.1 ∙ is.1) in
    c.turn_next.ensures.hints ∙ ap (λ z. item_hints z c.args.run.now.hints.now) same

pub returns-then-next-clause-step : goal.returns-then-next-clause-step
returns-then-next-clause-step g c others y is goes = let s = c.args.steps.now in let e = g.T.Steps.setting s in let v = g.T.Steps.view s in let t = g.G.TaskGraph.graph c.args.run.now.graph.now in let p = c.args.run.now.plan.now in let runs = c.requires.runs in let task = c.args.self.now in let left = but_last c.next.new.items.items in let x = last_item c.next.new.items.items in let now = c.turn_next.new.self in let u = c.turn_next.new.steps in
    let next : IsNext e.graph p (task_items task) left (Some x) = subst (λ xs. IsNext e.graph p xs left (Some x)) c.begin.ensures.items (c.if-next.ensures.next runs.serves.outcome e.graph runs.serves.graph).1 in
    let stepped : steps_on x ≡ true → HasStepped g.T.Steps.setting g.T.Steps.view g.T.KeyWords.made g.T.KeyWords.spare g.T.KeyWords.last g.T.Steps.shown g.T.Steps.happened g.T.Steps.lender g.T.Steps.others (item_prepared e.graph x) (item_event e v p task.hand now.hand x) s u = λ on. subst (λ h. HasStepped g.T.Steps.setting g.T.Steps.view g.T.KeyWords.made g.T.KeyWords.spare g.T.KeyWords.last g.T.Steps.shown g.T.Steps.happened g.T.Steps.lender g.T.Steps.others (item_prepared e.graph x) (item_event e v p h now.hand x) s u) c.begin.ensures.hand (c.turn_next.ensures.step on) in
    let same : x ≡ y = next_once e.graph p left others x y next.0 is.0 next.2 is.2 next.3 is.3 (sym next.1 ∙ is.1) in
    subst (λ z. HasStepped g.T.Steps.setting g.T.Steps.view g.T.KeyWords.made g.T.KeyWords.spare g.T.KeyWords.last g.T.Steps.shown g.T.Steps.happened g.T.Steps.lender g.T.Steps.others (item_prepared e.graph z) (item_event e v p task.hand now.hand z) s u) same (stepped (going_on (steps_on x) (sym c.turn_next.ensures.spent ∙ goes)))

pub returns-then-next-clause-rest : goal.returns-then-next-clause-rest
returns-then-next-clause-rest g c others y is goes = let s = c.args.steps.now in let e = g.T.Steps.setting s in let v = g.T.Steps.view s in let t = g.G.TaskGraph.graph c.args.run.now.graph.now in let p = c.args.run.now.plan.now in let runs = c.requires.runs in let task = c.args.self.now in let left = but_last c.next.new.items.items in let x = last_item c.next.new.items.items in let now = c.turn_next.new.self in let u = c.turn_next.new.steps in
    let next : IsNext e.graph p (task_items task) left (Some x) = subst (λ xs. IsNext e.graph p xs left (Some x)) c.begin.ensures.items (c.if-next.ensures.next runs.serves.outcome e.graph runs.serves.graph).1 in
    let same : x ≡ y = next_once e.graph p left others x y next.0 is.0 next.2 is.2 next.3 is.3 (sym next.1 ∙ is.1) in
    let falls = c.turn_next.ensures.rest (going_on (steps_on x) (sym c.turn_next.ensures.spent ∙ goes)) in let n = (g.T.Steps.shown u).1 in
    subst (λ z. LetsFall e p (item_event e v p task.hand now.hand z) n (task_rest e p task) (task_rest e p now)) same
    (task_falls e p t v (g.T.Steps.view u) (item_event e v p task.hand now.hand x) n task now left x c.turn_next.new.run.scratch.now c.turn_next.result next c.turn_next.ensures.turned
    (λ rest are. subst (λ h. LetsFall e p (item_event e v p h now.hand x) n (item_rest e p h x) (items_rest e p now.hand rest)) c.begin.ensures.hand (falls rest are)))

pub returns-then-next-clause-good : goal.returns-then-next-clause-good
returns-then-next-clause-good g c others y is = let s = c.args.steps.now in let e = g.T.Steps.setting s in let v = g.T.Steps.view s in let t = g.G.TaskGraph.graph c.args.run.now.graph.now in let p = c.args.run.now.plan.now in let runs = c.requires.runs in let task = c.args.self.now in let left = but_last c.next.new.items.items in let x = last_item c.next.new.items.items in let now = c.turn_next.new.self in let u = c.turn_next.new.steps in
    let next : IsNext e.graph p (task_items task) left (Some x) = subst (λ xs. IsNext e.graph p xs left (Some x)) c.begin.ensures.items (c.if-next.ensures.next runs.serves.outcome e.graph runs.serves.graph).1 in
    let same : x ≡ y = next_once e.graph p left others x y next.0 is.0 next.2 is.2 next.3 is.3 (sym next.1 ∙ is.1) in
    subst (λ z. FallsGood e task.hand z (task_rest e p task) (task_rest e p now)) same
    (task_good e p t v (g.T.Steps.view u) task now left x c.turn_next.new.run.scratch.now c.turn_next.result next c.turn_next.ensures.turned
    (λ rest are. subst (λ h. FallsGood e h x (item_rest e p h x) (items_rest e p now.hand rest)) c.begin.ensures.hand (c.turn_next.ensures.good rest are)))

pub returns-then-next-clause-again : goal.returns-then-next-clause-again
returns-then-next-clause-again g c others y is = let e = g.T.Steps.setting c.args.steps.now in let p = c.args.run.now.plan.now in let runs = c.requires.runs in let task = c.args.self.now in let left = but_last c.next.new.items.items in let x = last_item c.next.new.items.items in let now = c.turn_next.new.self in let n = (g.T.Steps.shown c.turn_next.new.steps).1 in
    let next : IsNext e.graph p (task_items task) left (Some x) = subst (λ xs. IsNext e.graph p xs left (Some x)) c.begin.ensures.items (c.if-next.ensures.next runs.serves.outcome e.graph runs.serves.graph).1 in
    let same = next_alone e.graph p left others x y next.0 is.0 next.2 is.2 next.3 is.3 (sym next.1 ∙ is.1) in let more = c.turn_next.ensures.again in
    record {
      above = more.above;
      items_are = ap (λ o. begun_items o now.items.items) c.turn_next.ensures.turned.not_begun ∙ more.items_are ∙ ap (λ xs. xs ++ more.above) same.0;
      again = subst (λ z. LooksAgain e.graph p n z more.above) same.1 more.again;
    }
