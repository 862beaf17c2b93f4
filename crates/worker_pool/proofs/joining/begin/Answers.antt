use Rattle.std.proofs.Common.{◌≡◌, ◌∙◌, ◌%◌, List, ap, length, subst, sym}
use Rattle.core_state.specs.Rooted.{root_key}
use Rattle.core_state.specs.declared.views.View.{View}
use Rattle.worker_pool.specs.Joining.{AreOf, parts_of, root_known, views_of}
use Rattle.worker_pool.specs.Pooling.{AreNew}
use Rattle.worker_pool.proofs.First.{cells_are, first_called, first_count, first_hold, root_at, shape_is}
use Rattle.worker_pool.proofs.Threading.Cutting.{begun_parts}
use Rattle.worker_pool.proofs.joining.begin.Goals as goal

pub new-requires-clause-shape : goal.new-requires-clause-shape
new-requires-clause-shape g c = shape_is (g.G.TaskGraph.graph c.args.graph.now) g.C.Course.setting c.in_ok-layout.layout c.requires.run c.in_ok-layout.ensures

pub new-requires-clause-cells : goal.new-requires-clause-cells
new-requires-clause-cells g c = cells_are (g.G.TaskGraph.graph c.args.graph.now) g.C.Course.setting c.in_ok-layout.layout c.requires.run c.in_ok-layout.ensures

pub returns-clause-tables : goal.returns-clause-tables
returns-clause-tables g c = subst (λ z. AreOf z c.in_ok-split.field-0.items) (sym c.table.view_is) c.in_ok-split.ensures.tables

pub returns-clause-holds : goal.returns-clause-holds
returns-clause-holds g c = let tasks = g.G.TaskGraph.graph c.args.graph.now in let e = g.C.Course.setting in let run = c.requires.run in let vs = views_of c.in_ok-split.field-0.items in let ws = c.in_ok-new_workers.field-0.items in
    let views = c.in_ok-split.ensures.views in
    let count : length vs ≡ c.args.workers = ap (λ (us : List View). length us) views ∙ first_count e (root_known e) c.args.workers c.requires.workers.0 in
    let new : AreNew tasks (root_key % e.shape.rows) c.args.workers ws = subst (λ n. AreNew tasks n c.args.workers ws) (root_at tasks e c.in_ok-layout.layout run c.in_ok-layout.ensures c.root_row-row.result c.root_row-row.ensures) c.in_ok-new_workers.ensures in
    first_hold tasks e run (root_known e) c.args.workers vs views ws new (new.same_count ∙ sym count) c.in_ok-split.ensures.sure

pub returns-clause-parts : goal.returns-clause-parts
returns-clause-parts g c = let e = g.C.Course.setting in ap parts_of c.in_ok-split.ensures.views ∙ begun_parts e (root_known e) c.args.workers c.requires.workers.0 c.requires.workers.1

pub returns-clause-calls : goal.returns-clause-calls
returns-clause-calls g c = λ before many. let e = g.C.Course.setting in first_called (g.G.TaskGraph.graph c.args.graph.now) e c.requires.run (root_known e) c.args.workers (views_of c.in_ok-split.field-0.items) c.in_ok-split.ensures.views before
