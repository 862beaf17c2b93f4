use Rattle.std.proofs.Common.{◌∙◌, List, Option, ap, arith, length, map, subst, sym}
use Rattle.std.proofs.lemmas.List.{length-map}
use Rattle.graph_model.specs.Notes.{Note}
use Rattle.core_state.specs.declared.views.View.{View}
use Rattle.task_table.specs.Passes.{Passing}
use Rattle.worker_pool.specs.Calling.{AreAlike, SameKernels}
use Rattle.worker_pool.specs.Joining.{parts_of, views_of}
use Rattle.worker_pool.specs.Pooling.{KernelsCalled, KernelsMake, WorkersHold}
use Rattle.worker_pool.specs.Threads.{slot_view, turned}
use Rattle.worker_pool.specs.declared.worker.Worker.{Worker}
use Rattle.worker_pool.proofs.Threading.Served.{all_ready, calls_served, ended_well, kernels_served, of_table, parts_served, turned_map}
use Rattle.worker_pool.proofs.Threading.Turned.{turned_length}
use Rattle.worker_pool.proofs.threads.run_workers.Goals as goal

pub serve_slots-slots-requires-clause-ready : goal.serve_slots-slots-requires-clause-ready
serve_slots-slots-requires-clause-ready g c = λ κs within. let tasks = g.G.TaskGraph.graph c.args.terms.now.graph.now in let e = g.C.Course.setting in let z = c.in_ok-table.field-0.table in let o = g.Ke.Kernel.outcome in let f = g.Ke.Kernel.fits in let ss = c.fill.new.slots.items in let fill = c.fill.ensures in
    all_ready e z o f g.Ke.Kernel.calls tasks ss
    (subst (λ (vs : List View). WorkersHold tasks e vs (turned (λ s. s.station.worker) ss)) (sym fill.views) (subst (λ (ws : List Worker). WorkersHold tasks e (views_of c.in_ok-table.field-0.passes.items) ws) (sym fill.workers) c.in_ok-table.ensures.holds))
    (fill.tables z c.in_ok-table.ensures.tables) fill.posted (subst (λ ks. KernelsMake tasks e o f ks) (sym fill.kernels) c.requires.outcome)

pub gather-ending-requires-clause-tables : goal.gather-ending-requires-clause-tables
gather-ending-requires-clause-tables g c = λ κs within. let z = c.in_ok-table.field-0.table in (z, of_table g.C.Course.setting z g.Ke.Kernel.outcome g.Ke.Kernel.fits g.Ke.Kernel.calls c.fill.new.slots.items c.serve_slots-slots.result.items c.serve_slots-slots.ensures.served)

pub gather-ending-requires-clause-ends : goal.gather-ending-requires-clause-ends
gather-ending-requires-clause-ends g c = λ κs within. ended_well g.C.Course.setting c.in_ok-table.field-0.table g.Ke.Kernel.outcome g.Ke.Kernel.fits g.Ke.Kernel.calls c.fill.new.slots.items c.serve_slots-slots.result.items c.serve_slots-slots.ensures.served

pub returns-clause-tables : goal.returns-clause-tables
returns-clause-tables g c = let z = c.in_ok-table.field-0.table in c.gather-ending.ensures.tables z (of_table g.C.Course.setting z g.Ke.Kernel.outcome g.Ke.Kernel.fits g.Ke.Kernel.calls c.fill.new.slots.items c.serve_slots-slots.result.items c.serve_slots-slots.ensures.served)

pub returns-clause-parts : goal.returns-clause-parts
returns-clause-parts g c = ap parts_of c.gather-ending.ensures.views ∙ parts_served g.C.Course.setting c.in_ok-table.field-0.table g.Ke.Kernel.outcome g.Ke.Kernel.fits g.Ke.Kernel.calls c.fill.new.slots.items c.serve_slots-slots.result.items c.serve_slots-slots.ensures.served ∙ ap parts_of c.fill.ensures.views ∙ c.in_ok-table.ensures.parts

pub returns-clause-count : goal.returns-clause-count
returns-clause-count g c = let ss = c.fill.new.slots.items in let ts = c.serve_slots-slots.result.items in
    let a = length-map c.gather-ending.new.passes.items (λ (p : Passing). p.view) in let b = ap length c.gather-ending.ensures.views in let d = turned_length slot_view ts in let e = c.serve_slots-slots.ensures.served.same_count in
    let f = turned_length (λ s. s.kernel) ss in let h = ap length c.fill.ensures.kernels in sym a ∙ b ∙ d ∙ e ∙ sym f ∙ h

pub returns-clause-calls : goal.returns-clause-calls
returns-clause-calls g c = let n = g.Ke.Kernel.calls in let ss = c.fill.new.slots.items in let ts = c.serve_slots-slots.result.items in let before = map n c.args.kernels.now.items in
    let many = length-map c.args.kernels.now.items n in
    let begun = c.in_ok-table.ensures.calls before (omega (arith, many, c.len-count.ensures, c.requires.kernels)) in
    let first : KernelsCalled before (turned (λ s. n s.kernel) ss) (turned slot_view ss) = subst (λ (vs : List View). KernelsCalled before (turned (λ s. n s.kernel) ss) vs) (sym c.fill.ensures.views)
    (subst (λ (cs : List (Option (List Note))). KernelsCalled before cs (views_of c.in_ok-table.field-0.passes.items)) (ap (map n) (sym c.fill.ensures.kernels) ∙ turned_map n (λ s. s.kernel) ss) begun) in
    let last = calls_served g.C.Course.setting c.in_ok-table.field-0.table g.Ke.Kernel.outcome g.Ke.Kernel.fits n ss ts c.serve_slots-slots.ensures.served before first in
    subst (λ (vs : List View). KernelsCalled before (map n c.gather-ending.new.kernels.items) vs) (sym c.gather-ending.ensures.views)
    (subst (λ (cs : List (Option (List Note))). KernelsCalled before cs (turned slot_view ts)) (sym (turned_map n (λ s. s.kernel) ts) ∙ ap (map n) (sym c.gather-ending.ensures.kernels)) last)

pub returns-clause-kernels : goal.returns-clause-kernels
returns-clause-kernels g c = let o = g.Ke.Kernel.outcome in let f = g.Ke.Kernel.fits in let ss = c.fill.new.slots.items in let ts = c.serve_slots-slots.result.items in let fill = c.fill.ensures.kernels in
    subst (λ ks. SameKernels o f c.args.kernels.now.items ks) (sym c.gather-ending.ensures.kernels)
    (subst (λ ks. SameKernels o f ks (turned (λ s. s.kernel) ts)) fill
    (kernels_served g.C.Course.setting c.in_ok-table.field-0.table o f g.Ke.Kernel.calls ss ts c.serve_slots-slots.ensures.served (subst (λ ks. AreAlike o f ks) (sym fill) c.requires.alike)))

pub gather-ending-requires-clause-kernels : goal.gather-ending-requires-clause-kernels
gather-ending-requires-clause-kernels g c = λ κs within. let a = c.serve_slots-slots.ensures.served.same_count in let b = turned_length (λ s. s.kernel) c.fill.new.slots.items in let d = ap length c.fill.ensures.kernels in
    (c.fill.ensures.empty.0, omega (arith, a, b, d, c.fill.ensures.room, c.args.kernels.now.ok))

pub gather-ending-requires-clause-passes : goal.gather-ending-requires-clause-passes
gather-ending-requires-clause-passes g c = λ κs within. let a = c.serve_slots-slots.ensures.served.same_count in let b = turned_length slot_view c.fill.new.slots.items in let d = ap length c.fill.ensures.views in let e = length-map c.in_ok-table.field-0.passes.items (λ (p : Passing). p.view) in
    (c.fill.ensures.empty.1, omega (arith, a, b, d, e, c.fill.ensures.room, c.in_ok-table.field-0.passes.ok))
