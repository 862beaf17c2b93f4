use Rattle.std.proofs.Common.{◌≡◌, ◌∙◌, ◌%◌, List, [], ap, arith, length, subst, sym}
use Rattle.core_state.specs.Rooted.{root_key}
use Rattle.core_state.specs.Views.{blank}
use Rattle.core_state.specs.declared.views.View.{View}
use Rattle.core_steps.specs.Table.{IsSound}
use Rattle.worker_pool.specs.Pooling.{AreNew}
use Rattle.worker_pool.proofs.Sharing.Beginning.{workers_begin}
use Rattle.worker_pool.proofs.First.{cells_are, first_called, first_count, first_hold, root_at, shape_is, views_sure}
use Rattle.worker_pool.proofs.pool.Pool.new.Goals as goal

pub new-requires-clause-shape : goal.new-requires-clause-shape
new-requires-clause-shape g c = shape_is (g.G.TaskGraph.graph c.args.graph.now) g.C.Course.setting c.in_ok-layout.layout c.requires.run c.in_ok-layout.ensures

pub new-requires-clause-cells : goal.new-requires-clause-cells
new-requires-clause-cells g c = cells_are (g.G.TaskGraph.graph c.args.graph.now) g.C.Course.setting c.in_ok-layout.layout c.requires.run c.in_ok-layout.ensures

pub returns-clause-holds : goal.returns-clause-holds
returns-clause-holds g c = let tasks = g.G.TaskGraph.graph c.args.graph.now in let e = g.C.Course.setting in let run = c.requires.run in let vs = c.in_ok-table.table.views in let ws = c.in_ok-new_workers.field-0.items in
    let views = c.in_ok-table.ensures.views_are in
    let count : length vs ≡ c.args.workers = ap (λ (us : List View). length us) views ∙ first_count e [] c.args.workers c.requires.workers.0 in
    let new : AreNew tasks (root_key % e.shape.rows) c.args.workers ws = subst (λ n. AreNew tasks n c.args.workers ws) (root_at tasks e c.in_ok-layout.layout run c.in_ok-layout.ensures c.root_row-row.result c.root_row-row.ensures) c.in_ok-new_workers.ensures in
    let sound : IsSound e c.in_ok-table.table = subst (IsSound e) c.drop.view_is c.drop.invariant in
    first_hold tasks e run [] c.args.workers vs views ws new (new.same_count ∙ sym count) (views_sure e c.in_ok-table.table sound 0 blank (omega (arith, count, c.requires.workers.0)))

pub returns-clause-begins : goal.returns-clause-begins
returns-clause-begins g c = λ strikes run. let tasks = g.G.TaskGraph.graph c.args.graph.now in let e = g.C.Course.setting in let table = c.in_ok-table.table in let ws = c.in_ok-new_workers.field-0.items in
    let new : AreNew tasks (root_key % e.shape.rows) c.args.workers ws = subst (λ n. AreNew tasks n c.args.workers ws) (root_at tasks e c.in_ok-layout.layout c.requires.run c.in_ok-layout.ensures c.root_row-row.result c.root_row-row.ensures) c.in_ok-new_workers.ensures in
    workers_begin tasks strikes e run table ws c.args.workers (let a = c.requires.workers.0 in omega (arith, a)) c.in_ok-table.ensures.views_are new (returns-clause-holds g c) (subst (IsSound e) c.drop.view_is c.drop.invariant)

pub returns-clause-calls : goal.returns-clause-calls
returns-clause-calls g c = λ before many. first_called (g.G.TaskGraph.graph c.args.graph.now) g.C.Course.setting c.requires.run [] c.args.workers c.in_ok-table.table.views c.in_ok-table.ensures.views_are before
