use Rattle.std.proofs.Common.{◌≡◌, ◌∙◌, ℕ, List, length, map, slice_index, ap, arith, sym}
use Rattle.std.proofs.lemmas.List.{length-map}
use Rattle.std.proofs.lemmas.Result.{IfErr-weaker}
use Rattle.run_bounds.specs.Storm.{IsStormRun}
use Rattle.worker_pool.specs.Calling.{first_outcome}
use Rattle.worker_pool.specs.Closing.{LeavesPending}
use Rattle.worker_pool.specs.Ends.{IsNotShort}
use Rattle.worker_pool.proofs.Sharing.Ending.{calm_ends, empty_ends, only_listed, paid_ends}
use Rattle.core_laws.proofs.Holding.{of_tasks}
use Rattle.worker_pool.proofs.Sums.{all_recorded, none_called_at_all, only_called, run_calls}
use Rattle.worker_pool.proofs.run.run_all.Goals as goal

pub returns-in_default-clause-calls : goal.returns-in_default-clause-calls
returns-in_default-clause-calls g c = none_called_at_all (g.G.TaskGraph.graph c.args.terms.now.graph.now) (map g.Ke.Kernel.calls c.args.kernels.now.items)

pub returns-in_default-close-clause-calls : goal.returns-in_default-close-clause-calls
returns-in_default-close-clause-calls g c =
    let calls = g.Ke.Kernel.calls in let before = map calls c.args.kernels.now.items in let pool = c.in-Ok.ensures in let run = c.run-stop.ensures in
    let n : length before ≡ length c.args.kernels.now.items = length-map c.args.kernels.now.items calls in
    only_called _ g.C.Course.setting before _ c.run-stop.new.self.table.views c.requires.run c.close.ensures.sure (omega (arith, n, run.count, pool.holds.same_count, pool.count, c.len.ensures)) (run.calls before (pool.calls before (omega (arith, n, c.len.ensures))))

pub ended-requires-after_bounds : goal.ended-requires-after_bounds
ended-requires-after_bounds g c κs within = c.stop_shown.ensures c.run-stop.new.self.table.views c.in-Some.ensures.closing c.run-stop.ensures.stop

pub returns-clause-tells : goal.returns-clause-tells
returns-clause-tells g c = c.ended.ensures.tells _ _ _ c.requires.setting

pub returns-clause-calls : goal.returns-clause-calls
returns-clause-calls g c =
    let calls = g.Ke.Kernel.calls in let before = map calls c.args.kernels.now.items in let pool = c.in-Ok.ensures in let run = c.run-stop.ensures in let vs = c.run-stop.new.self.table.views in let left = c.in-Some.closed in let e = g.C.Course.setting in
    let n : length before ≡ length c.args.kernels.now.items = length-map c.args.kernels.now.items calls in
    let many : length vs ≡ length before = omega (arith, n, run.count, pool.holds.same_count, pool.count, c.len.ensures) in
    let called = run.calls before (pool.calls before (omega (arith, n, c.len.ensures))) in
    run_calls _ before _ c.ended.result.0 c.ended.result.1.items (only_called _ e before _ vs c.requires.run c.close.ensures.sure many called)
    (λ all. all_recorded e vs left.words.items left.blocks.items left.records.items left.root_replaced.items c.ended.result.1.items before _ c.in-Some.ensures.closing (ap (λ s. s.graph.root) c.requires.setting) (of_tasks e _ _ _ _ left.meets) many called (c.ended.ensures.computed all))

pub returns-clause-paid : goal.returns-clause-paid
returns-clause-paid g c = λ listed enough. let tasks = g.G.TaskGraph.graph c.args.terms.now.graph.now in let strikes = c.args.terms.now.plan.now in let e = g.C.Course.setting in let x = c.run-stop.result in let q = c.run-stop.new.self.table in let closed = c.in-Some.closed in let records = c.ended.result.1.items in
    let run : IsStormRun tasks strikes e = record { outcome = first_outcome g.Ke.Kernel.outcome c.args.kernels.now.items; lives = c.args.terms.now.lives; setting_is = c.requires.setting; runs = c.requires.runs } in
    IfErr-weaker c.ended.result.0 (λ told. LeavesPending x closed.pending closed.records.items closed.root_replaced.items told records) IsNotShort
    (λ told left. paid_ends tasks strikes e x q closed.words.items closed.blocks.items closed.records.items closed.root_replaced.items records closed.pending (length c.args.schedule.now) c.args.turns told c.in-Some.ensures.closing
    (ap (λ (ws : List ℕ). slice_index ws 0) (sym c.in-Some.ensures.words) ∙ sym closed.pending_is) (c.run-stop.ensures.paid (c.in-Ok.ensures.begins strikes run) listed) left enough) c.ended.ensures.short

pub returns-clause-empty : goal.returns-clause-empty
returns-clause-empty g c = λ listed empty enough. let tasks = g.G.TaskGraph.graph c.args.terms.now.graph.now in let strikes = c.args.terms.now.plan.now in let e = g.C.Course.setting in let x = c.run-stop.result in let q = c.run-stop.new.self.table in let closed = c.in-Some.closed in let records = c.ended.result.1.items in
    let run : IsStormRun tasks strikes e = record { outcome = first_outcome g.Ke.Kernel.outcome c.args.kernels.now.items; lives = c.args.terms.now.lives; setting_is = c.requires.setting; runs = c.requires.runs } in
    IfErr-weaker c.ended.result.0 (λ told. LeavesPending x closed.pending closed.records.items closed.root_replaced.items told records) IsNotShort
    (λ told left. empty_ends tasks strikes e x q closed.words.items closed.blocks.items closed.records.items closed.root_replaced.items records closed.pending (length c.args.schedule.now) c.args.turns told c.in-Some.ensures.closing
    (ap (λ (ws : List ℕ). slice_index ws 0) (sym c.in-Some.ensures.words) ∙ sym closed.pending_is) (c.run-stop.ensures.paid (c.in-Ok.ensures.begins strikes run) listed) left empty enough) c.ended.ensures.short

pub returns-clause-calm : goal.returns-clause-calm
returns-clause-calm g c = λ one empty enough. let pool = c.in-Ok.ensures in let views : length c.run-stop.new.self.table.views ≡ 1 = omega (arith, c.run-stop.ensures.count, pool.holds.same_count, pool.count, c.len.ensures, one) in
    let listed = only_listed c.args.schedule.now (length c.args.kernels.now.items) c.requires.schedule c.requires.workers one in let tasks = g.G.TaskGraph.graph c.args.terms.now.graph.now in let strikes = c.args.terms.now.plan.now in let e = g.C.Course.setting in let x = c.run-stop.result in let q = c.run-stop.new.self.table in let closed = c.in-Some.closed in let records = c.ended.result.1.items in
    let run : IsStormRun tasks strikes e = record { outcome = first_outcome g.Ke.Kernel.outcome c.args.kernels.now.items; lives = c.args.terms.now.lives; setting_is = c.requires.setting; runs = c.requires.runs } in
    IfErr-weaker c.ended.result.0 (λ told. LeavesPending x closed.pending closed.records.items closed.root_replaced.items told records) IsNotShort
    (λ told left. calm_ends tasks strikes e x q closed.words.items closed.blocks.items closed.records.items closed.root_replaced.items records closed.pending (length c.args.schedule.now) c.args.turns told c.in-Some.ensures.closing
    (ap (λ (ws : List ℕ). slice_index ws 0) (sym c.in-Some.ensures.words) ∙ sym closed.pending_is) (c.run-stop.ensures.paid (c.in-Ok.ensures.begins strikes run) listed) left views empty enough) c.ended.ensures.short
