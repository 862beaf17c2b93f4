use Rattle.std.proofs.Common.{◌∙◌, ◌++◌, ap, map}
use Rattle.worker_pool.specs.Calling.{calls_for}
use Rattle.graph_runner.proofs.Probes.{calls-front, needed_front, no_news, run_told, told_whole}
use Rattle.graph_runner.proofs.workers.run_by_workers.Goals as goal

pub returns-clause-comes : goal.returns-clause-comes
returns-clause-comes g c before front =
    let run = c.run_kernels-made.ensures in
    let told = run_told (g.G.TaskGraph.graph c.args.graph.now) _ _ c.run_kernels-made.result.0 c.run_kernels-made.result.1.items run.calls in
    let rest = c.args.probes.now.items in (
      told.0 ++ no_news (map g.P.Probe.notes rest),
      told_whole g.P.Probe.notes _ _ (map g.P.Probe.notes rest) before c.put_back.new.probes.items told.0 front c.put_back.ensures told.1,
      record {
        tells = run.tells;
        answers = run.answers;
        noted = λ whole k l. ap (calls_for k l) (calls-front (map g.P.Probe.notes rest) told.0) ∙ told.2 whole k l;
        cleared = run.cleared;
        needed = needed_front (g.G.TaskGraph.graph c.args.graph.now) (map g.P.Probe.notes rest) c.run_kernels-made.result.0 told.0 told.3;
      },
    )
