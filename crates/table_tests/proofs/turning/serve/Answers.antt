use Rattle.std.proofs.Common.{◌∙◌, Contains, IfOk, Option, ap, subst}
use Rattle.core_state.specs.Graph.{Setting}
use Rattle.compute_notify.specs.declared.task.Task.{Task}
use Rattle.table_tests.specs.Sitting.{HasScratch, WorksOn}
use Rattle.table_tests.proofs.turning.serve.Goals as goal

pub returns-in-Some-clause-works : goal.returns-in-Some-clause-works
returns-in-Some-clause-works g c = λ tasks names. let t = c.in-Holds.ensures in let key = c.in-Holds.key in let w = g.T.Steps.view c.job_at.new.steps in
    let step = g.met.T.Steps.key_step c.args.steps.now c.look.new.self _ _ t.did in
    let same = step.1.table.same_setting in
    let core = names key.0 (subst (λ ks. Contains ks key.0) (g.met.T.Steps.keys_are c.look.new.self ∙ ap (λ (x : Setting). x.keys) same) (t.rules.known_listed c.args.row key.0 t.known)) in
    subst (WorksOn tasks (g.T.Steps.setting c.args.steps.now) w) c.in-Some.is
    (subst (λ (d : Setting). WorksOn tasks d w c.in_ok-task.field-0) same (c.in_ok-task.ensures.works tasks core))

pub returns-in-Some-clause-scratch : goal.returns-in-Some-clause-scratch
returns-in-Some-clause-scratch g c = λ tasks s room. let t = c.in-Holds.ensures in
    let step = g.met.T.Steps.key_step c.args.steps.now c.look.new.self _ _ t.did in
    subst (HasScratch tasks (g.T.Steps.setting c.args.steps.now) s) c.in-Some.is
    (subst (λ (d : Setting). HasScratch tasks d s c.in_ok-task.field-0) step.1.table.same_setting (c.in_ok-task.ensures.scratch tasks s room))

pub returns-in-None-clause-works : goal.returns-in-None-clause-works
returns-in-None-clause-works g c = λ tasks names. let t = c.in-Holds.ensures in let key = c.in-Holds.key in
    let step = g.met.T.Steps.key_step c.args.steps.now c.look.new.self _ _ t.did in
    let same = step.1.table.same_setting in
    let core = names key.0 (subst (λ ks. Contains ks key.0) (g.met.T.Steps.keys_are c.look.new.self ∙ ap (λ (x : Setting). x.keys) same) (t.rules.known_listed c.args.row key.0 t.known)) in
    subst (λ (d : Setting). IfOk c.job_at-in-None.result (λ (x : Option Task). WorksOn tasks d (g.T.Steps.view c.job_at-in-None.new.steps) x)) (c.job_at.ensures.table.same_setting ∙ same)
    (c.job_at-in-None.ensures.works tasks core)

pub returns-in-None-clause-scratch : goal.returns-in-None-clause-scratch
returns-in-None-clause-scratch g c = λ tasks s room. let t = c.in-Holds.ensures in
    let step = g.met.T.Steps.key_step c.args.steps.now c.look.new.self _ _ t.did in
    subst (λ (d : Setting). IfOk c.job_at-in-None.result (λ (x : Option Task). HasScratch tasks d s x)) (c.job_at.ensures.table.same_setting ∙ step.1.table.same_setting)
    (c.job_at-in-None.ensures.scratch tasks s room)
