use Rattle.std.proofs.Common.{◌≡◌, ◌∙◌, ◌+◌, ◌<◌, All, List, arith, ap, length, set, subst, sym}
use Rattle.std.proofs.lemmas.List.{length_push}
use Rattle.std.proofs.lemmas.List.Elements.{All-get_or, All-push}
use Rattle.worker_pool.specs.Pooling.{AreNew}
use Rattle.worker_pool.specs.Working.{IsNewWorker}
use Rattle.worker_pool.specs.declared.worker.Worker.{Worker}
use Rattle.worker_pool.proofs.First.{are_new}
use Rattle.worker_pool.proofs.pool.new_workers.Goals as goal

pub loop-preserved : goal.loop-preserved
loop-preserved g c = let tasks = g.G.TaskGraph.graph c.args.graph.now in let items = c.in_ok-push.ensures.items in let all = c.loop.invariant in record {
  count = ap length {x = c.push.new.self.items} items ∙ length_push c.loop.workers.items _ ∙ ap (λ n. n + 1) all.count;
  new = subst (All (IsNewWorker tasks)) (sym {A = List Worker} items) (All-push (IsNewWorker tasks) c.loop.workers.items _ all.new c.in_ok-new.ensures);
}

pub returns : goal.returns
returns g c = let tasks = g.G.TaskGraph.graph c.args.graph.now in let ws = c.loop.workers.items in let first = c.index_mut.result.now in
    let many : length ws ≡ c.args.count = omega arith in
    let low : 0 < length ws = omega (arith, many) in
    let new : IsNewWorker tasks first = subst (IsNewWorker tasks) (sym {A = Worker} c.index_mut.ensures.value) (All-get_or (IsNewWorker tasks) ws 0 first low c.loop.invariant.new) in
    subst (λ (w : Worker). AreNew tasks c.args.root_row c.args.count (set ws 0 w)) (sym {A = Worker} c.begin.ensures) (are_new tasks c.args.root_row c.args.count ws first c.explore.result c.loop.invariant.new many new c.explore.ensures.new)
