use Rattle.std.proofs.Common.{ap, arith, sym, ◌∙◌, subst, Contains}
use Rattle.core_state.specs.Graph.{Successor}
use Rattle.recovery.specs.Memory.{KnowsKey}
use Rattle.key_table.specs.Seeking.{Seeking}
use Rattle.recovery.specs.Happening.{way_event}
use Rattle.recovery.specs.Reentering.{FitsWay}
use Rattle.recovery.specs.Resting.{way_rest}
use Rattle.recovery.proofs.Knowing.{key_stays}
use Rattle.recovery.proofs.Entering.{place_low, spend_event, start_event, tells_about}
use Rattle.recovery.proofs.Noting.{as_event}
use Rattle.recovery.proofs.reenter.Reenter.turn.Goals as goal

pub seek-requires-clause-listed : goal.seek-requires-clause-listed
seek-requires-clause-listed g c = subst (λ s. Contains (g.T.Steps.setting c.args.steps.now).keys s.key) (sym c.find-search.ensures) (c.requires.serves.listed _ c.succ-place.ensures.key)

pub returns-in-Start-clause-goes : goal.returns-in-Start-clause-goes
returns-in-Start-clause-goes g c = let serves = c.requires.serves in let at = c.succ-place.ensures.succ serves.outcome _ serves.graph in
    c.seek.ensures.goes c.args.key.0 c.succ-place.result.1 (record { low = c.requires.port; task_is = ap (λ (s : Successor). s.task) at ∙ sym (ap (λ s. s.key) c.find-search.ensures); place_is = ap (λ (s : Successor). s.place) at })

pub returns-in-Seek-clause-goes : goal.returns-in-Seek-clause-goes
returns-in-Seek-clause-goes g c = let serves = c.requires.serves in let at = c.succ-place.ensures.succ serves.outcome _ serves.graph in
    let way = subst (FitsWay (g.T.Steps.setting c.args.steps.now) (g.T.Steps.view c.args.steps.now) c.args.key.0 c.args.self.now.port) c.in-Seek.is c.requires.way in
    c.seek-in-Seek.ensures.goes c.args.key.0 c.succ-place.result.1 (record { low = c.requires.port; task_is = sym way.key_is; place_is = ap (λ (s : Successor). s.place) at })

pub returns-in-Load-clause-tells : goal.returns-in-Load-clause-tells
returns-in-Load-clause-tells g c = tells_about _ _ _ c.load.result c.in-Load.at c.succ-place.result.0 c.load.ensures.about c.succ-place.ensures.key (key_stays _ (g.T.Steps.view c.args.steps.now) _ _ _ c.load.ensures.step.knows
    (subst (KnowsKey (g.T.Steps.setting c.args.steps.now) (g.T.Steps.view c.args.steps.now) c.in-Load.at) (ap (λ (s : Successor). s.task) (c.succ-place.ensures.succ c.requires.serves.outcome _ c.requires.serves.graph))
    (let way = subst (FitsWay (g.T.Steps.setting c.args.steps.now) (g.T.Steps.view c.args.steps.now) c.args.key.0 c.args.self.now.port) c.in-Load.is c.requires.way in way)))

pub returns-in-Register-clause-tells : goal.returns-in-Register-clause-tells
returns-in-Register-clause-tells g c = tells_about _ _ _ c.register.result c.args.row c.args.key c.register.ensures.about c.requires.key (key_stays _ (g.T.Steps.view c.args.steps.now) _ _ _ c.register.ensures.step.knows c.requires.row)

pub returns-in-Spend-clause-tells : goal.returns-in-Spend-clause-tells
returns-in-Spend-clause-tells g c = tells_about _ _ _ c.spend.result c.in-Spend.at c.succ-place.result.0 c.spend.ensures.about c.succ-place.ensures.key (key_stays _ (g.T.Steps.view c.args.steps.now) _ _ _ c.spend.ensures.step.knows
    (subst (KnowsKey (g.T.Steps.setting c.args.steps.now) (g.T.Steps.view c.args.steps.now) c.in-Spend.at) (ap (λ (s : Successor). s.task) (c.succ-place.ensures.succ c.requires.serves.outcome _ c.requires.serves.graph))
    (let way = subst (FitsWay (g.T.Steps.setting c.args.steps.now) (g.T.Steps.view c.args.steps.now) c.args.key.0 c.args.self.now.port) c.in-Spend.is c.requires.way in way.0)))

pub seek-requires-clause-way : goal.seek-requires-clause-way
seek-requires-clause-way g c = let rows = (g.T.Steps.setting c.args.steps.now).shape.rows in let a = ap (way_rest rows) c.in-Start.is in let b = ap (λ (s : Seeking). s.passed) c.find-search.ensures in omega (arith, a, b)

pub seek-requires-in-Seek-clause-way : goal.seek-requires-in-Seek-clause-way
seek-requires-in-Seek-clause-way g c = ap (way_rest (g.T.Steps.setting c.args.steps.now).shape.rows) c.in-Seek.is

pub spend-requires-clause-place : goal.spend-requires-clause-place
spend-requires-clause-place g c = let serves = c.requires.serves in place_low (g.T.Steps.setting c.args.steps.now).graph c.args.key.0 c.args.self.now.port c.succ-place.result.0.0 c.succ-place.result.1 serves.lawful c.requires.port (c.succ-place.ensures.succ serves.outcome _ serves.graph)

pub returns-in-Start-clause-step : goal.returns-in-Start-clause-step
returns-in-Start-clause-step g c = let serves = c.requires.serves in let at = c.succ-place.ensures.succ serves.outcome _ serves.graph in
    as_event (start_event (g.T.Steps.setting c.args.steps.now) (g.T.Steps.view c.args.steps.now) c.args.row c.args.key.0 c.args.self.now.port c.args.self.now.way c.find-search.result c.succ-place.result.0.0 c.rows.result c.in-Start.is c.find-search.ensures (c.rows.ensures.rows ∙ g.met.T.Steps.rows_are c.args.steps.now) (ap (λ (s : Successor). s.task) at)) c.seek.ensures.step

pub returns-in-Seek-clause-step : goal.returns-in-Seek-clause-step
returns-in-Seek-clause-step g c = as_event (ap (way_event (g.T.Steps.setting c.args.steps.now) (g.T.Steps.view c.args.steps.now) c.args.row c.args.key.0 c.args.self.now.port) (sym c.in-Seek.is)) c.seek-in-Seek.ensures.step

pub returns-in-Load-clause-step : goal.returns-in-Load-clause-step
returns-in-Load-clause-step g c = as_event (ap (way_event (g.T.Steps.setting c.args.steps.now) (g.T.Steps.view c.args.steps.now) c.args.row c.args.key.0 c.args.self.now.port) (sym c.in-Load.is)) c.load.ensures.step

pub returns-in-Register-clause-step : goal.returns-in-Register-clause-step
returns-in-Register-clause-step g c = as_event (ap (way_event (g.T.Steps.setting c.args.steps.now) (g.T.Steps.view c.args.steps.now) c.args.row c.args.key.0 c.args.self.now.port) (sym c.in-Register.is)) c.register.ensures.step

pub returns-in-Spend-clause-step : goal.returns-in-Spend-clause-step
returns-in-Spend-clause-step g c = let serves = c.requires.serves in
    as_event (spend_event (g.T.Steps.setting c.args.steps.now) (g.T.Steps.view c.args.steps.now) c.args.row c.args.key.0 c.args.self.now.port c.args.self.now.way c.in-Spend.at c.succ-place.result.0.0 c.succ-place.result.1 c.in-Spend.is (c.succ-place.ensures.succ serves.outcome _ serves.graph)) c.spend.ensures.step
