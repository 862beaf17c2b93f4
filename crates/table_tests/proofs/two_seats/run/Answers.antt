use Rattle.std.proofs.Common.{◌≡◌, ◌∙◌, false, is_some, ap, subst, sym}
use Rattle.acyclic_audit.specs.Views.{graph}
use Rattle.core_state.specs.Views.{less_one}
use Rattle.core_state.specs.Sure.{IsSure}
use Rattle.core_state.specs.declared.views.View.{View}
use Rattle.task_table.specs.Passes.{Passing}
use Rattle.task_table.proofs.Sitting.{sure_seated}
use Rattle.worker_pool.proofs.First.{cells_are, root_at, shape_is}
use Rattle.table_tests.proofs.Sitting.{copied, first_sits, free_hands, none_there}
use Rattle.table_tests.proofs.two_seats.run.Goals as goal

pub new-requires-clause-shape : goal.new-requires-clause-shape
new-requires-clause-shape g c = shape_is (graph c.args.graph.now) g.C.Course.setting c.in_ok-copy.field-0 c.requires.run (copied _ _ _ c.in_ok-layout.ensures c.in_ok-copy.ensures)

pub new-requires-clause-cells : goal.new-requires-clause-cells
new-requires-clause-cells g c = cells_are (graph c.args.graph.now) g.C.Course.setting c.in_ok-copy.field-0 c.requires.run (copied _ _ _ c.in_ok-layout.ensures c.in_ok-copy.ensures)

pub alternate-requires-clause-first : goal.alternate-requires-clause-first
alternate-requires-clause-first g c = let e = g.C.Course.setting in let of = c.in_ok-layout.ensures in let run = c.requires.run in let seat = c.seat-first.ensures in
    first_sits c.args.graph.now e run c.root_row-row.result (root_at (graph c.args.graph.now) e c.in_ok-layout.layout run of c.root_row-row.result c.root_row-row.ensures)
    c.seat-first.result.pass.view (ap (λ (p : Passing). p.view) seat ∙ c.split_pass-first.ensures.views.0 ∙ ap less_one c.in_ok-table.ensures.view)
    (subst (λ (p : Passing). IsSure e p.view) (sym seat) (sure_seated e c.split_pass-first.result.0.view c.is_pass.ensures.seated))
    c.task_of.result c.in_ok-scratch.scratch c.task_of.ensures c.in_ok-scratch.ensures

pub read_both-reads-requires-clause-hands : goal.read_both-reads-requires-clause-hands
read_both-reads-requires-clause-hands g c = let tasks = graph c.args.graph.now in let e = g.C.Course.setting in let left = c.alternate.new in let sits = c.in_ok-over.ensures in
    let one : is_some left.one.task ≡ false = cc in let other : is_some left.other.task ≡ false = cc in (
      ap (λ (v : View). v.hands) c.reserve.ensures.view ∙ free_hands tasks e left.first.pass.view left.one.task left.one.scratch sits.first (none_there left.one.task one),
      ap (λ (v : View). v.hands) c.reserve-2.ensures.view ∙ free_hands tasks e left.second.pass.view left.other.task left.other.scratch sits.second (none_there left.other.task other),
    )
