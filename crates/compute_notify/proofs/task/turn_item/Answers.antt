use Rattle.std.proofs.Common.{◌≡◌, ℕ, false, not, ap, refl, subst, sym, ◌∙◌}
use Rattle.recovery.specs.Recovering.{is_last, is_over as is_passed, makes_step}
use Rattle.compute_notify.specs.Eventing.{item_calls, item_event, item_hints, item_prepared, steps_on}
use Rattle.compute_notify.specs.Items.{Goes, ItemSpends, Stands, is_over, is_spent, item_lines}
use Rattle.compute_notify.specs.Resting.{FallsGood, LetsFall, LooksAgain, after_rest, item_rest}
use Rattle.compute_notify.specs.Rooms.{is_bare}
use Rattle.compute_notify.specs.Stepping.{HasStepped}
use Rattle.compute_notify.specs.Tasks.{after_items}
use Rattle.compute_notify.specs.Working.{AfterHand, FitsTop}
use Rattle.compute_notify.specs.declared.item.After.{After}
use Rattle.compute_notify.specs.declared.item.Item.TheVariants as item
use Rattle.compute_notify.proofs.BelowStrikes.{by_truth, close_row, owe_row, same_knows, stepped_knows}
use Rattle.compute_notify.proofs.HandsFree.{after_free}
use Rattle.compute_notify.proofs.HandsKept.{last_stops, look_hands, owe_hands, recover_hands, stepped_free}
use Rattle.compute_notify.proofs.Plain.{bare_scratch, plain_bare, plain_unspent}
use Rattle.compute_notify.proofs.Topmost.{scratch_room}
use Rattle.compute_notify.proofs.task.turn_item.Goals as goal

pub returns-in-Credit-clause-goes : goal.returns-in-Credit-clause-goes
returns-in-Credit-clause-goes g c = let e = g.T.Steps.setting c.args.steps.now in let v = g.T.Steps.view c.args.steps.now in let p = c.args.terms.now.plan.now in let t = g.G.TaskGraph.graph c.args.terms.now.graph.now in let h = c.args.hand.now in
    subst (λ x. Goes t e v (g.T.Steps.view c.give_up.new.steps) (item_lines e.graph x) c.give_up.result) (sym c.in-Credit.is) c.give_up.ensures.goes

pub returns-in-Credit-clause-top : goal.returns-in-Credit-clause-top
returns-in-Credit-clause-top g c = let e = g.T.Steps.setting c.args.steps.now in let v = g.T.Steps.view c.args.steps.now in let p = c.args.terms.now.plan.now in let t = g.G.TaskGraph.graph c.args.terms.now.graph.now in let h = c.args.hand.now in
    stepped_free g.T.KeyWords.spare c.give_up.ensures.step (λ m. refl) h (subst (FitsTop e v h) c.in-Credit.is c.requires.top) c.give_up.result

pub returns-in-Credit-clause-scratch : goal.returns-in-Credit-clause-scratch
returns-in-Credit-clause-scratch g c = let e = g.T.Steps.setting c.args.steps.now in let v = g.T.Steps.view c.args.steps.now in let p = c.args.terms.now.plan.now in let t = g.G.TaskGraph.graph c.args.terms.now.graph.now in let h = c.args.hand.now in
    bare_scratch e t c.args.scratch.now (scratch_room e t c.args.scratch.now c.args.item.now c.requires.scratch) c.give_up.result (ap is_bare c.give_up.ensures.gone)

pub returns-in-Credit-clause-hints : goal.returns-in-Credit-clause-hints
returns-in-Credit-clause-hints g c = ap (λ x. item_hints x c.args.hints.now) (sym c.in-Credit.is)

pub returns-in-Credit-clause-calls : goal.returns-in-Credit-clause-calls
returns-in-Credit-clause-calls g c = ap (λ x. item_calls (g.T.Steps.setting c.args.steps.now).graph x (g.Ke.Kernel.calls c.args.kernel.now)) (sym c.in-Credit.is)

pub returns-in-Credit-clause-spent : goal.returns-in-Credit-clause-spent
returns-in-Credit-clause-spent g c = ap (λ (a : After). is_spent a.came) c.give_up.ensures.gone ∙ ap (λ x. not (steps_on x)) (sym c.in-Credit.is)

pub returns-in-Credit-clause-cause : goal.returns-in-Credit-clause-cause
returns-in-Credit-clause-cause g c = subst (λ x. ItemSpends (g.T.Steps.setting c.args.steps.now) x c.give_up.result.came) (sym c.in-Credit.is) (ap (λ (a : After). is_spent a.came) c.give_up.ensures.gone)

pub returns-in-Credit-clause-still : goal.returns-in-Credit-clause-still
returns-in-Credit-clause-still g c off = absurd (let a = sym (ap steps_on c.in-Credit.is) ∙ off in cc)

pub returns-in-Credit-clause-step : goal.returns-in-Credit-clause-step
returns-in-Credit-clause-step g c on = let e = g.T.Steps.setting c.args.steps.now in let v = g.T.Steps.view c.args.steps.now in let p = c.args.terms.now.plan.now in let t = g.G.TaskGraph.graph c.args.terms.now.graph.now in let h = c.args.hand.now in
    subst (λ x. HasStepped g.T.Steps.setting g.T.Steps.view g.T.KeyWords.made g.T.KeyWords.spare g.T.KeyWords.last g.T.Steps.shown g.T.Steps.happened g.T.Steps.lender g.T.Steps.others (item_prepared e.graph x) (item_event e v p h h x) c.args.steps.now c.give_up.new.steps) (sym c.in-Credit.is) c.give_up.ensures.step

pub returns-in-Credit-clause-rest : goal.returns-in-Credit-clause-rest
returns-in-Credit-clause-rest g c on = let e = g.T.Steps.setting c.args.steps.now in let v = g.T.Steps.view c.args.steps.now in let p = c.args.terms.now.plan.now in let t = g.G.TaskGraph.graph c.args.terms.now.graph.now in let h = c.args.hand.now in
    let n : ℕ = (g.T.Steps.shown c.give_up.new.steps).1 in
    subst (λ x. LetsFall e p (item_event e v p h h x) n (item_rest e p h x) (after_rest e p h c.give_up.result)) (sym c.in-Credit.is)
    (subst (λ i. LetsFall e p (item_event e v p h h item.Credit) n (item_rest e p i item.Credit) (after_rest e p i c.give_up.result)) (sym (subst (FitsTop e v h) c.in-Credit.is c.requires.top).1) c.give_up.ensures.rest)

pub returns-in-Credit-clause-ends : goal.returns-in-Credit-clause-ends
returns-in-Credit-clause-ends g c credit = ap after_items c.give_up.ensures.gone

pub returns-in-Credit-clause-knows : goal.returns-in-Credit-clause-knows
returns-in-Credit-clause-knows g c = stepped_knows g.T.KeyWords.spare c.give_up.ensures.step refl (same_knows (g.T.Steps.view c.args.steps.now))

pub give_up-requires-clause-stands : goal.give_up-requires-clause-stands
give_up-requires-clause-stands g c κs within = let e = g.T.Steps.setting c.args.steps.now in let v = g.T.Steps.view c.args.steps.now in let p = c.args.terms.now.plan.now in let t = g.G.TaskGraph.graph c.args.terms.now.graph.now in let h = c.args.hand.now in
    subst (Stands t e v) c.in-Credit.is c.requires.stands

pub returns-in-Close-clause-goes : goal.returns-in-Close-clause-goes
returns-in-Close-clause-goes g c = let e = g.T.Steps.setting c.args.steps.now in let v = g.T.Steps.view c.args.steps.now in let p = c.args.terms.now.plan.now in let t = g.G.TaskGraph.graph c.args.terms.now.graph.now in let h = c.args.hand.now in
    subst (λ x. Goes t e v (g.T.Steps.view c.turn.new.steps) (item_lines e.graph x) c.turn.result) (sym c.in-Close.is) c.turn.ensures.goes

pub returns-in-Close-clause-top : goal.returns-in-Close-clause-top
returns-in-Close-clause-top g c = c.turn.ensures.top

pub returns-in-Close-clause-scratch : goal.returns-in-Close-clause-scratch
returns-in-Close-clause-scratch g c = let e = g.T.Steps.setting c.args.steps.now in let v = g.T.Steps.view c.args.steps.now in let p = c.args.terms.now.plan.now in let t = g.G.TaskGraph.graph c.args.terms.now.graph.now in let h = c.args.hand.now in
    bare_scratch e t c.args.scratch.now (scratch_room e t c.args.scratch.now c.args.item.now c.requires.scratch) c.turn.result (plain_bare c.turn.result c.turn.ensures.plain)

pub returns-in-Close-clause-hints : goal.returns-in-Close-clause-hints
returns-in-Close-clause-hints g c = ap (λ x. item_hints x c.args.hints.now) (sym c.in-Close.is)

pub returns-in-Close-clause-calls : goal.returns-in-Close-clause-calls
returns-in-Close-clause-calls g c = ap (λ x. item_calls (g.T.Steps.setting c.args.steps.now).graph x (g.Ke.Kernel.calls c.args.kernel.now)) (sym c.in-Close.is)

pub returns-in-Close-clause-spent : goal.returns-in-Close-clause-spent
returns-in-Close-clause-spent g c = plain_unspent c.turn.result c.turn.ensures.plain ∙ ap (λ x. not (steps_on x)) (sym c.in-Close.is)

pub returns-in-Close-clause-cause : goal.returns-in-Close-clause-cause
returns-in-Close-clause-cause g c = subst (λ x. ItemSpends (g.T.Steps.setting c.args.steps.now) x c.turn.result.came) (sym c.in-Close.is) (plain_unspent c.turn.result c.turn.ensures.plain)

pub returns-in-Close-clause-still : goal.returns-in-Close-clause-still
returns-in-Close-clause-still g c off = absurd (let a = sym (ap steps_on c.in-Close.is) ∙ off in cc)

pub returns-in-Close-clause-step : goal.returns-in-Close-clause-step
returns-in-Close-clause-step g c on = let e = g.T.Steps.setting c.args.steps.now in let v = g.T.Steps.view c.args.steps.now in let p = c.args.terms.now.plan.now in let t = g.G.TaskGraph.graph c.args.terms.now.graph.now in let h = c.args.hand.now in
    subst (λ x. HasStepped g.T.Steps.setting g.T.Steps.view g.T.KeyWords.made g.T.KeyWords.spare g.T.KeyWords.last g.T.Steps.shown g.T.Steps.happened g.T.Steps.lender g.T.Steps.others (item_prepared e.graph x) (item_event e v p h c.turn.new.hand x) c.args.steps.now c.turn.new.steps) (sym c.in-Close.is) c.turn.ensures.step

pub returns-in-Close-clause-rest : goal.returns-in-Close-clause-rest
returns-in-Close-clause-rest g c on = let e = g.T.Steps.setting c.args.steps.now in let v = g.T.Steps.view c.args.steps.now in let p = c.args.terms.now.plan.now in let t = g.G.TaskGraph.graph c.args.terms.now.graph.now in let h = c.args.hand.now in
    let n : ℕ = (g.T.Steps.shown c.turn.new.steps).1 in
    subst (λ x. LetsFall e p (item_event e v p h c.turn.new.hand x) n (item_rest e p h x) (after_rest e p c.turn.new.hand c.turn.result)) (sym c.in-Close.is)
    c.turn.ensures.rest

pub returns-in-Close-clause-ends : goal.returns-in-Close-clause-ends
returns-in-Close-clause-ends g c credit = absurd (let a = sym c.in-Close.is ∙ credit in cc)

pub returns-in-Close-clause-knows : goal.returns-in-Close-clause-knows
returns-in-Close-clause-knows g c = let e = g.T.Steps.setting c.args.steps.now in let v = g.T.Steps.view c.args.steps.now in let p = c.args.terms.now.plan.now in let t = g.G.TaskGraph.graph c.args.terms.now.graph.now in let h = c.args.hand.now in
    stepped_knows g.T.KeyWords.spare c.turn.ensures.step (close_row e v p h c.turn.new.hand c.in-Close.close) (same_knows v)

pub turn-requires-clause-stands : goal.turn-requires-clause-stands
turn-requires-clause-stands g c κs within = let e = g.T.Steps.setting c.args.steps.now in let v = g.T.Steps.view c.args.steps.now in let p = c.args.terms.now.plan.now in let t = g.G.TaskGraph.graph c.args.terms.now.graph.now in let h = c.args.hand.now in
    subst (Stands t e v) c.in-Close.is c.requires.stands

pub turn-requires-clause-top : goal.turn-requires-clause-top
turn-requires-clause-top g c κs within = let e = g.T.Steps.setting c.args.steps.now in let v = g.T.Steps.view c.args.steps.now in let p = c.args.terms.now.plan.now in let t = g.G.TaskGraph.graph c.args.terms.now.graph.now in let h = c.args.hand.now in
    subst (FitsTop e v h) c.in-Close.is c.requires.top

pub turn-requires-clause-left : goal.turn-requires-clause-left
turn-requires-clause-left g c κs within = subst (λ x. is_over (g.T.Steps.setting c.args.steps.now).graph c.args.terms.now.plan.now x ≡ false) c.in-Close.is c.requires.left

pub returns-in-Look-clause-goes : goal.returns-in-Look-clause-goes
returns-in-Look-clause-goes g c = let e = g.T.Steps.setting c.args.steps.now in let v = g.T.Steps.view c.args.steps.now in let p = c.args.terms.now.plan.now in let t = g.G.TaskGraph.graph c.args.terms.now.graph.now in let h = c.args.hand.now in
    subst (λ x. Goes t e v (g.T.Steps.view c.turn-in-Look.new.steps) (item_lines e.graph x) c.turn-in-Look.result) (sym c.in-Look.is) c.turn-in-Look.ensures.goes

pub returns-in-Look-clause-top : goal.returns-in-Look-clause-top
returns-in-Look-clause-top g c = let e = g.T.Steps.setting c.args.steps.now in let v = g.T.Steps.view c.args.steps.now in let p = c.args.terms.now.plan.now in let t = g.G.TaskGraph.graph c.args.terms.now.graph.now in let h = c.args.hand.now in
    stepped_free g.T.KeyWords.spare c.turn-in-Look.ensures.step (look_hands e v c.in-Look.look c.in-Look.look.way) h (subst (FitsTop e v h) c.in-Look.is c.requires.top) c.turn-in-Look.result

pub returns-in-Look-clause-scratch : goal.returns-in-Look-clause-scratch
returns-in-Look-clause-scratch g c = let e = g.T.Steps.setting c.args.steps.now in let v = g.T.Steps.view c.args.steps.now in let p = c.args.terms.now.plan.now in let t = g.G.TaskGraph.graph c.args.terms.now.graph.now in let h = c.args.hand.now in
    bare_scratch e t c.args.scratch.now (scratch_room e t c.args.scratch.now c.args.item.now c.requires.scratch) c.turn-in-Look.result (plain_bare c.turn-in-Look.result c.turn-in-Look.ensures.plain)

pub returns-in-Look-clause-hints : goal.returns-in-Look-clause-hints
returns-in-Look-clause-hints g c = ap (λ x. item_hints x c.args.hints.now) (sym c.in-Look.is)

pub returns-in-Look-clause-calls : goal.returns-in-Look-clause-calls
returns-in-Look-clause-calls g c = ap (λ x. item_calls (g.T.Steps.setting c.args.steps.now).graph x (g.Ke.Kernel.calls c.args.kernel.now)) (sym c.in-Look.is)

pub returns-in-Look-clause-spent : goal.returns-in-Look-clause-spent
returns-in-Look-clause-spent g c = plain_unspent c.turn-in-Look.result c.turn-in-Look.ensures.plain ∙ ap (λ x. not (steps_on x)) (sym c.in-Look.is)

pub returns-in-Look-clause-cause : goal.returns-in-Look-clause-cause
returns-in-Look-clause-cause g c = subst (λ x. ItemSpends (g.T.Steps.setting c.args.steps.now) x c.turn-in-Look.result.came) (sym c.in-Look.is) (plain_unspent c.turn-in-Look.result c.turn-in-Look.ensures.plain)

pub returns-in-Look-clause-still : goal.returns-in-Look-clause-still
returns-in-Look-clause-still g c off = absurd (let a = sym (ap steps_on c.in-Look.is) ∙ off in cc)

pub returns-in-Look-clause-step : goal.returns-in-Look-clause-step
returns-in-Look-clause-step g c on = let e = g.T.Steps.setting c.args.steps.now in let v = g.T.Steps.view c.args.steps.now in let p = c.args.terms.now.plan.now in let t = g.G.TaskGraph.graph c.args.terms.now.graph.now in let h = c.args.hand.now in
    subst (λ x. HasStepped g.T.Steps.setting g.T.Steps.view g.T.KeyWords.made g.T.KeyWords.spare g.T.KeyWords.last g.T.Steps.shown g.T.Steps.happened g.T.Steps.lender g.T.Steps.others (item_prepared e.graph x) (item_event e v p h h x) c.args.steps.now c.turn-in-Look.new.steps) (sym c.in-Look.is) c.turn-in-Look.ensures.step

pub returns-in-Look-clause-rest : goal.returns-in-Look-clause-rest
returns-in-Look-clause-rest g c on = let e = g.T.Steps.setting c.args.steps.now in let v = g.T.Steps.view c.args.steps.now in let p = c.args.terms.now.plan.now in let t = g.G.TaskGraph.graph c.args.terms.now.graph.now in let h = c.args.hand.now in
    let n : ℕ = (g.T.Steps.shown c.turn-in-Look.new.steps).1 in
    subst (λ x. LetsFall e p (item_event e v p h h x) n (item_rest e p h x) (after_rest e p h c.turn-in-Look.result)) (sym c.in-Look.is)
    (subst (λ i. LetsFall e p (item_event e v p h h (item.Look c.in-Look.look)) n (item_rest e p i (item.Look c.in-Look.look)) (after_rest e p i c.turn-in-Look.result)) (sym (subst (FitsTop e v h) c.in-Look.is c.requires.top).1) c.turn-in-Look.ensures.rest)

pub returns-in-Look-clause-ends : goal.returns-in-Look-clause-ends
returns-in-Look-clause-ends g c credit = absurd (let a = sym c.in-Look.is ∙ credit in cc)

pub returns-in-Look-clause-knows : goal.returns-in-Look-clause-knows
returns-in-Look-clause-knows g c = c.turn-in-Look.ensures.knows

pub turn-requires-in-Look-clause-stands : goal.turn-requires-in-Look-clause-stands
turn-requires-in-Look-clause-stands g c κs within = let e = g.T.Steps.setting c.args.steps.now in let v = g.T.Steps.view c.args.steps.now in let p = c.args.terms.now.plan.now in let t = g.G.TaskGraph.graph c.args.terms.now.graph.now in let h = c.args.hand.now in
    subst (Stands t e v) c.in-Look.is c.requires.stands

pub returns-in-Owe-clause-goes : goal.returns-in-Owe-clause-goes
returns-in-Owe-clause-goes g c = let e = g.T.Steps.setting c.args.steps.now in let v = g.T.Steps.view c.args.steps.now in let p = c.args.terms.now.plan.now in let t = g.G.TaskGraph.graph c.args.terms.now.graph.now in let h = c.args.hand.now in
    subst (λ x. Goes t e v (g.T.Steps.view c.pay.new.steps) (item_lines e.graph x) c.pay.result) (sym c.in-Owe.is) c.pay.ensures.goes

pub returns-in-Owe-clause-top : goal.returns-in-Owe-clause-top
returns-in-Owe-clause-top g c = let e = g.T.Steps.setting c.args.steps.now in let v = g.T.Steps.view c.args.steps.now in let p = c.args.terms.now.plan.now in let t = g.G.TaskGraph.graph c.args.terms.now.graph.now in let h = c.args.hand.now in
    stepped_free g.T.KeyWords.spare c.pay.ensures.step (owe_hands e v c.in-Owe.owe) h (subst (FitsTop e v h) c.in-Owe.is c.requires.top) c.pay.result

pub returns-in-Owe-clause-scratch : goal.returns-in-Owe-clause-scratch
returns-in-Owe-clause-scratch g c = let e = g.T.Steps.setting c.args.steps.now in let v = g.T.Steps.view c.args.steps.now in let p = c.args.terms.now.plan.now in let t = g.G.TaskGraph.graph c.args.terms.now.graph.now in let h = c.args.hand.now in
    bare_scratch e t c.args.scratch.now (scratch_room e t c.args.scratch.now c.args.item.now c.requires.scratch) c.pay.result (plain_bare c.pay.result c.pay.ensures.plain)

pub returns-in-Owe-clause-hints : goal.returns-in-Owe-clause-hints
returns-in-Owe-clause-hints g c = c.pay.ensures.hints ∙ ap (λ x. item_hints x c.args.hints.now) (sym c.in-Owe.is)

pub returns-in-Owe-clause-calls : goal.returns-in-Owe-clause-calls
returns-in-Owe-clause-calls g c = ap (λ x. item_calls (g.T.Steps.setting c.args.steps.now).graph x (g.Ke.Kernel.calls c.args.kernel.now)) (sym c.in-Owe.is)

pub returns-in-Owe-clause-spent : goal.returns-in-Owe-clause-spent
returns-in-Owe-clause-spent g c = plain_unspent c.pay.result c.pay.ensures.plain ∙ ap (λ x. not (steps_on x)) (sym c.in-Owe.is)

pub returns-in-Owe-clause-cause : goal.returns-in-Owe-clause-cause
returns-in-Owe-clause-cause g c = subst (λ x. ItemSpends (g.T.Steps.setting c.args.steps.now) x c.pay.result.came) (sym c.in-Owe.is) (plain_unspent c.pay.result c.pay.ensures.plain)

pub returns-in-Owe-clause-still : goal.returns-in-Owe-clause-still
returns-in-Owe-clause-still g c off = absurd (let a = sym (ap steps_on c.in-Owe.is) ∙ off in cc)

pub returns-in-Owe-clause-step : goal.returns-in-Owe-clause-step
returns-in-Owe-clause-step g c on = let e = g.T.Steps.setting c.args.steps.now in let v = g.T.Steps.view c.args.steps.now in let p = c.args.terms.now.plan.now in let t = g.G.TaskGraph.graph c.args.terms.now.graph.now in let h = c.args.hand.now in
    subst (λ x. HasStepped g.T.Steps.setting g.T.Steps.view g.T.KeyWords.made g.T.KeyWords.spare g.T.KeyWords.last g.T.Steps.shown g.T.Steps.happened g.T.Steps.lender g.T.Steps.others (item_prepared e.graph x) (item_event e v p h h x) c.args.steps.now c.pay.new.steps) (sym c.in-Owe.is) c.pay.ensures.step

pub returns-in-Owe-clause-rest : goal.returns-in-Owe-clause-rest
returns-in-Owe-clause-rest g c on = let e = g.T.Steps.setting c.args.steps.now in let v = g.T.Steps.view c.args.steps.now in let p = c.args.terms.now.plan.now in let t = g.G.TaskGraph.graph c.args.terms.now.graph.now in let h = c.args.hand.now in
    let n : ℕ = (g.T.Steps.shown c.pay.new.steps).1 in
    subst (λ x. LetsFall e p (item_event e v p h h x) n (item_rest e p h x) (after_rest e p h c.pay.result)) (sym c.in-Owe.is)
    (subst (λ i. LetsFall e p (item_event e v p h h (item.Owe c.in-Owe.owe)) n (item_rest e p i (item.Owe c.in-Owe.owe)) (after_rest e p i c.pay.result)) (sym (subst (FitsTop e v h) c.in-Owe.is c.requires.top).1) c.pay.ensures.rest)

pub returns-in-Owe-clause-ends : goal.returns-in-Owe-clause-ends
returns-in-Owe-clause-ends g c credit = absurd (let a = sym c.in-Owe.is ∙ credit in cc)

pub returns-in-Owe-clause-knows : goal.returns-in-Owe-clause-knows
returns-in-Owe-clause-knows g c = let e = g.T.Steps.setting c.args.steps.now in let v = g.T.Steps.view c.args.steps.now in let p = c.args.terms.now.plan.now in let t = g.G.TaskGraph.graph c.args.terms.now.graph.now in let h = c.args.hand.now in
    stepped_knows g.T.KeyWords.spare c.pay.ensures.step (owe_row e v c.in-Owe.owe) (same_knows v)

pub pay-requires-clause-stands : goal.pay-requires-clause-stands
pay-requires-clause-stands g c κs within = let e = g.T.Steps.setting c.args.steps.now in let v = g.T.Steps.view c.args.steps.now in let p = c.args.terms.now.plan.now in let t = g.G.TaskGraph.graph c.args.terms.now.graph.now in let h = c.args.hand.now in
    subst (Stands t e v) c.in-Owe.is c.requires.stands

pub returns-in-Recover-clause-goes : goal.returns-in-Recover-clause-goes
returns-in-Recover-clause-goes g c = let e = g.T.Steps.setting c.args.steps.now in let v = g.T.Steps.view c.args.steps.now in let p = c.args.terms.now.plan.now in let t = g.G.TaskGraph.graph c.args.terms.now.graph.now in let h = c.args.hand.now in
    subst (λ x. Goes t e v (g.T.Steps.view c.replace.new.steps) (item_lines e.graph x) c.replace.result) (sym c.in-Recover.is) c.replace.ensures.goes

pub returns-in-Recover-clause-top : goal.returns-in-Recover-clause-top
returns-in-Recover-clause-top g c = let e = g.T.Steps.setting c.args.steps.now in let v = g.T.Steps.view c.args.steps.now in let p = c.args.terms.now.plan.now in let t = g.G.TaskGraph.graph c.args.terms.now.graph.now in let h = c.args.hand.now in
    by_truth (makes_step c.in-Recover.recover) (λ makes. stepped_free g.T.KeyWords.spare (c.replace.ensures.step makes) (recover_hands e v c.in-Recover.recover) h (subst (FitsTop e v h) c.in-Recover.is c.requires.top) c.replace.result)
    (λ stops. subst (λ s. AfterHand e (g.T.Steps.view s) h c.replace.result) (sym (c.replace.ensures.still stops)) (after_free e v (subst (FitsTop e v h) c.in-Recover.is c.requires.top).0 h c.replace.result (subst (FitsTop e v h) c.in-Recover.is c.requires.top).1))

pub returns-in-Recover-clause-scratch : goal.returns-in-Recover-clause-scratch
returns-in-Recover-clause-scratch g c = let e = g.T.Steps.setting c.args.steps.now in let v = g.T.Steps.view c.args.steps.now in let p = c.args.terms.now.plan.now in let t = g.G.TaskGraph.graph c.args.terms.now.graph.now in let h = c.args.hand.now in
    bare_scratch e t c.args.scratch.now (scratch_room e t c.args.scratch.now c.args.item.now c.requires.scratch) c.replace.result c.replace.ensures.bare

pub returns-in-Recover-clause-hints : goal.returns-in-Recover-clause-hints
returns-in-Recover-clause-hints g c = c.replace.ensures.hints ∙ ap (λ x. item_hints x c.args.hints.now) (sym c.in-Recover.is)

pub returns-in-Recover-clause-calls : goal.returns-in-Recover-clause-calls
returns-in-Recover-clause-calls g c = ap (λ x. item_calls (g.T.Steps.setting c.args.steps.now).graph x (g.Ke.Kernel.calls c.args.kernel.now)) (sym c.in-Recover.is)

pub returns-in-Recover-clause-spent : goal.returns-in-Recover-clause-spent
returns-in-Recover-clause-spent g c = let r = c.in-Recover.recover in c.replace.ensures.spent ∙ last_stops (is_passed r.phase) (is_last r.phase r.life r.lives) (subst (λ x. is_over (g.T.Steps.setting c.args.steps.now).graph c.args.terms.now.plan.now x ≡ false) c.in-Recover.is c.requires.left) ∙ ap (λ x. not (steps_on x)) (sym c.in-Recover.is)

pub returns-in-Recover-clause-cause : goal.returns-in-Recover-clause-cause
returns-in-Recover-clause-cause g c = subst (λ x. ItemSpends (g.T.Steps.setting c.args.steps.now) x c.replace.result.came) (sym c.in-Recover.is) c.replace.ensures.cause

pub returns-in-Recover-clause-still : goal.returns-in-Recover-clause-still
returns-in-Recover-clause-still g c off = c.replace.ensures.still (sym (ap steps_on c.in-Recover.is) ∙ off)

pub returns-in-Recover-clause-step : goal.returns-in-Recover-clause-step
returns-in-Recover-clause-step g c on = let e = g.T.Steps.setting c.args.steps.now in let v = g.T.Steps.view c.args.steps.now in let p = c.args.terms.now.plan.now in let t = g.G.TaskGraph.graph c.args.terms.now.graph.now in let h = c.args.hand.now in
    subst (λ x. HasStepped g.T.Steps.setting g.T.Steps.view g.T.KeyWords.made g.T.KeyWords.spare g.T.KeyWords.last g.T.Steps.shown g.T.Steps.happened g.T.Steps.lender g.T.Steps.others (item_prepared e.graph x) (item_event e v p h h x) c.args.steps.now c.replace.new.steps) (sym c.in-Recover.is) (c.replace.ensures.step (sym (ap steps_on c.in-Recover.is) ∙ on))

pub returns-in-Recover-clause-rest : goal.returns-in-Recover-clause-rest
returns-in-Recover-clause-rest g c on = let e = g.T.Steps.setting c.args.steps.now in let v = g.T.Steps.view c.args.steps.now in let p = c.args.terms.now.plan.now in let t = g.G.TaskGraph.graph c.args.terms.now.graph.now in let h = c.args.hand.now in
    let n : ℕ = (g.T.Steps.shown c.replace.new.steps).1 in
    subst (λ x. LetsFall e p (item_event e v p h h x) n (item_rest e p h x) (after_rest e p h c.replace.result)) (sym c.in-Recover.is)
    (subst (λ i. LetsFall e p (item_event e v p h h (item.Recover c.in-Recover.recover)) n (item_rest e p i (item.Recover c.in-Recover.recover)) (after_rest e p i c.replace.result)) (sym (subst (FitsTop e v h) c.in-Recover.is c.requires.top).1) (c.replace.ensures.rest (sym (ap steps_on c.in-Recover.is) ∙ on)))

pub returns-in-Recover-clause-ends : goal.returns-in-Recover-clause-ends
returns-in-Recover-clause-ends g c credit = absurd (let a = sym c.in-Recover.is ∙ credit in cc)

pub returns-in-Recover-clause-knows : goal.returns-in-Recover-clause-knows
returns-in-Recover-clause-knows g c = c.replace.ensures.knows

pub replace-requires-clause-stands : goal.replace-requires-clause-stands
replace-requires-clause-stands g c κs within = let e = g.T.Steps.setting c.args.steps.now in let v = g.T.Steps.view c.args.steps.now in let p = c.args.terms.now.plan.now in let t = g.G.TaskGraph.graph c.args.terms.now.graph.now in let h = c.args.hand.now in
    subst (Stands t e v) c.in-Recover.is c.requires.stands

pub replace-requires-clause-left : goal.replace-requires-clause-left
replace-requires-clause-left g c κs within = subst (λ x. is_over (g.T.Steps.setting c.args.steps.now).graph c.args.terms.now.plan.now x ≡ false) c.in-Recover.is c.requires.left

pub returns-in-Credit-clause-good : goal.returns-in-Credit-clause-good
returns-in-Credit-clause-good g c = let e = g.T.Steps.setting c.args.steps.now in let p = c.args.terms.now.plan.now in let h = c.args.hand.now in
    subst (λ x. FallsGood e h x (item_rest e p h c.args.item.now) (after_rest e p h c.give_up.result)) (sym c.in-Credit.is) tt

pub returns-in-Credit-clause-again : goal.returns-in-Credit-clause-again
returns-in-Credit-clause-again g c = let e = g.T.Steps.setting c.args.steps.now in let p = c.args.terms.now.plan.now in let n = (g.T.Steps.shown c.give_up.new.steps).1 in
    subst (λ x. LooksAgain e.graph p n x (after_items c.give_up.result)) (sym c.in-Credit.is) tt

pub returns-in-Close-clause-good : goal.returns-in-Close-clause-good
returns-in-Close-clause-good g c = let e = g.T.Steps.setting c.args.steps.now in let p = c.args.terms.now.plan.now in let h = c.args.hand.now in
    subst (λ x. FallsGood e h x (item_rest e p h c.args.item.now) (after_rest e p c.turn.new.hand c.turn.result)) (sym c.in-Close.is) tt

pub returns-in-Close-clause-again : goal.returns-in-Close-clause-again
returns-in-Close-clause-again g c = let e = g.T.Steps.setting c.args.steps.now in let p = c.args.terms.now.plan.now in let n = (g.T.Steps.shown c.turn.new.steps).1 in
    subst (λ x. LooksAgain e.graph p n x (after_items c.turn.result)) (sym c.in-Close.is) c.turn.ensures.again

pub returns-in-Look-clause-good : goal.returns-in-Look-clause-good
returns-in-Look-clause-good g c = let e = g.T.Steps.setting c.args.steps.now in let p = c.args.terms.now.plan.now in let h = c.args.hand.now in
    subst (λ x. FallsGood e h x (item_rest e p h c.args.item.now) (after_rest e p h c.turn-in-Look.result)) (sym c.in-Look.is) tt

pub returns-in-Look-clause-again : goal.returns-in-Look-clause-again
returns-in-Look-clause-again g c = let e = g.T.Steps.setting c.args.steps.now in let p = c.args.terms.now.plan.now in let n = (g.T.Steps.shown c.turn-in-Look.new.steps).1 in
    subst (λ x. LooksAgain e.graph p n x (after_items c.turn-in-Look.result)) (sym c.in-Look.is) tt

pub returns-in-Owe-clause-good : goal.returns-in-Owe-clause-good
returns-in-Owe-clause-good g c = let e = g.T.Steps.setting c.args.steps.now in let p = c.args.terms.now.plan.now in let h = c.args.hand.now in
    subst (λ x. FallsGood e h x (item_rest e p h c.args.item.now) (after_rest e p h c.pay.result)) (sym c.in-Owe.is) tt

pub returns-in-Owe-clause-again : goal.returns-in-Owe-clause-again
returns-in-Owe-clause-again g c = let e = g.T.Steps.setting c.args.steps.now in let p = c.args.terms.now.plan.now in let n = (g.T.Steps.shown c.pay.new.steps).1 in
    subst (λ x. LooksAgain e.graph p n x (after_items c.pay.result)) (sym c.in-Owe.is) tt

pub returns-in-Recover-clause-good : goal.returns-in-Recover-clause-good
returns-in-Recover-clause-good g c = let e = g.T.Steps.setting c.args.steps.now in let p = c.args.terms.now.plan.now in let h = c.args.hand.now in
    subst (λ x. FallsGood e h x (item_rest e p h c.args.item.now) (after_rest e p h c.replace.result)) (sym c.in-Recover.is) tt

pub returns-in-Recover-clause-again : goal.returns-in-Recover-clause-again
returns-in-Recover-clause-again g c = let e = g.T.Steps.setting c.args.steps.now in let p = c.args.terms.now.plan.now in let n = (g.T.Steps.shown c.replace.new.steps).1 in
    subst (λ x. LooksAgain e.graph p n x (after_items c.replace.result)) (sym c.in-Recover.is) c.replace.ensures.again
