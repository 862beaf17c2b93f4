use Rattle.std.proofs.Common.{◌+◌, subst, sym, arith}
use Rattle.core_state.proofs.Start.Widest.{WidestOf, is_task, widest_none, widest_more, widest_whole}
use Rattle.core_state.proofs.layout.widest.Goals as goal

pub loop-i-init : goal.loop-i-init
loop-i-init g c = widest_none (g.G.TaskGraph.graph c.args.graph.now)

pub notify_words-requires-after_bounds : goal.notify_words-requires-after_bounds
notify_words-requires-after_bounds g c = λ κs o. is_task (g.G.TaskGraph.graph c.args.graph.now) c.loop-i.i c.task.result.0 c.task.ensures

pub loop-i-preserved : goal.loop-i-preserved
loop-i-preserved g c = let graph = g.G.TaskGraph.graph c.args.graph.now in
    subst (λ n. WidestOf graph (c.loop-i.i + 1) n) (sym c.max-widest.ensures)
    (widest_more graph c.loop-i.i c.loop-i.widest c.task.result.0 c.notify_words.result c.task.ensures c.notify_words.ensures c.loop-i.invariant)

pub returns : goal.returns
returns g c = let graph = g.G.TaskGraph.graph c.args.graph.now in
    widest_whole graph c.loop-i.widest (subst (λ i. WidestOf graph i c.loop-i.widest)
    (let same = c.task_count-i-end.ensures in let low = c.loop-i.auto.i-end in let high = c.loop-i-test.false in omega (arith, same, low, high)) c.loop-i.invariant)
