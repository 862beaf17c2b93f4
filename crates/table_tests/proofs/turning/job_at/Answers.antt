use Rattle.std.proofs.Common.{◌≢◌, ◌∙◌, arith, subst, sym}
use Rattle.core_state.specs.Graph.{Setting}
use Rattle.core_state.specs.Sure.{IsSure}
use Rattle.core_state.specs.declared.views.View.{View}
use Rattle.recovery.proofs.Knowing.{row_here}
use Rattle.recovery.specs.Memory.{KnowsKey}
use Rattle.worker_pool.proofs.Begun.{new_scratch}
use Rattle.worker_pool.proofs.Turns.{fresh_as, served_job, taken_as}
use Rattle.table_tests.proofs.turning.job_at.Goals as goal

pub take-life-requires-clause-can : goal.take-life-requires-clause-can
take-life-requires-clause-can g c = let r = c.reserve.ensures in
    row_here _ _ c.args.row c.args.key.0 (subst (λ (e : Setting). KnowsKey e (g.T.Steps.view c.reserve.new.self) c.args.row c.args.key.0) (sym r.table.same_setting)
    (subst (λ (v : View). KnowsKey (g.T.Steps.setting c.args.steps.now) v c.args.row c.args.key.0) (sym r.view) c.requires.known))

pub returns-then-life-gt0-clause-works : goal.returns-then-life-gt0-clause-works
returns-then-life-gt0-clause-works g c = λ tasks names. let r = c.reserve.ensures in let t = c.take-life.ensures in
    let e = g.T.Steps.setting c.args.steps.now in let v = g.T.Steps.view c.args.steps.now in let w = g.T.Steps.view c.take-life.new.self in
    let same = t.step.table.same_setting ∙ r.table.same_setting in
    let some : c.take-life.result ≢ 0 = omega (arith, c.if-life-gt0.true) in
    served_job tasks e v w (record { row = c.args.row; key = c.args.key; life = c.take-life.result }) c.args.job c.task_of.result c.requires.idle
    (taken_as e _ v _ w c.args.row c.args.key.0 c.take-life.result _ c.args.job r.table.same_setting r.view c.requires.known t.number t.step.view_is) c.task_of.ensures names c.requires.known some
    (fresh_as e _ v _ w c.args.row c.args.key.0 c.take-life.result c.args.job same r.view c.requires.known (t.fresh c.if-life-gt0.true)) (subst (λ (x : Setting). IsSure x w) same t.step.table.sure)

pub returns-then-life-gt0-clause-scratch : goal.returns-then-life-gt0-clause-scratch
returns-then-life-gt0-clause-scratch g c = λ tasks s room. new_scratch tasks (g.T.Steps.setting c.args.steps.now) (g.T.Steps.view c.take-life.new.self) (record { row = c.args.row; key = c.args.key; life = c.take-life.result }) c.task_of.result c.args.job c.task_of.ensures s room
