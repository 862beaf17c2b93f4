use Rattle.std.proofs.Common.{◌<◌, ℕ, subst, sym}
use Rattle.path_tasks.specs.Keys.{task_of}
use Rattle.path_tasks.specs.Paths.{tiles_of}
use Rattle.path_tasks.proofs.Calls.{succ_count_at, succ_answer}
use Rattle.apsp_graph.proofs.graph.PathGraphTaskGraph.succ.Goals as goal

pub succ-end-requires-clause-port : goal.succ-end-requires-clause-port
succ-end-requires-clause-port c =
    let s = c.args.self.now in
    let t = tiles_of s.n s.side in
    let e = succ_count_at c.tiles-b.result t c.task_at.result (task_of t c.args.key.0) c.tiles-b.ensures.value c.task_at.ensures.value in
    subst (λ (v : ℕ). c.args.port < v) (sym e) c.requires.port

pub returns : goal.returns
returns c =
    let s = c.args.self.now in
    let t = tiles_of s.n s.side in
    let x = c.task_at.result in
    let y = task_of t c.args.key.0 in
    let e = succ_count_at c.tiles-b.result t x y c.tiles-b.ensures.value c.task_at.ensures.value in
    succ_answer c.tiles-b.result t x y c.args.port c.key_of.result c.succ-end.result c.tiles-b.ensures.value c.task_at.ensures.value (subst (λ (v : ℕ). c.args.port < v) (sym e) c.requires.port) c.succ-end.ensures c.key_of.ensures
