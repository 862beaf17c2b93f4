use Rattle.std.proofs.Common.{arith}
use Rattle.task_table.proofs.Sitting.{sure_seated}
use Rattle.worker_pool.proofs.Threading.Cutting.{cut_more, cut_sure, cut_tables, cut_views}
use Rattle.worker_pool.proofs.joining.split.Goals as goal

pub loop-preserved : goal.loop-preserved
loop-preserved g c = let s = c.split_pass-left.ensures in cut_more g.C.Course.setting c.args.table.now c.loop.counter c.loop.first c.loop.passes.items c.loop.invariant c.split_pass-left.result.0 c.split_pass-left.result.1 s.table.0 s.table.2 s.views.0 s.views.1 c.push.new.self.items c.in_ok-push.ensures.items

pub returns-clause-tables : goal.returns-clause-tables
returns-clause-tables g c = cut_tables g.C.Course.setting c.args.table.now c.loop.counter c.loop.first c.loop.passes.items c.loop.invariant c.insert.new.self.items c.in_ok-insert.ensures.items

pub returns-clause-views : goal.returns-clause-views
returns-clause-views g c = let high = c.loop.auto.counter-end c.requires.workers.0 in let low = c.loop-test.false in
    cut_views g.C.Course.setting c.args.table.now c.loop.counter c.loop.first c.loop.passes.items c.loop.invariant c.insert.new.self.items c.in_ok-insert.ensures.items c.args.workers (omega (arith, high, low))

pub returns-clause-sure : goal.returns-clause-sure
returns-clause-sure g c = cut_sure g.C.Course.setting c.args.table.now c.loop.counter c.loop.first c.loop.passes.items c.loop.invariant c.insert.new.self.items c.in_ok-insert.ensures.items (sure_seated g.C.Course.setting c.loop.first.view c.is_pass.ensures.seated)
