use Rattle.std.proofs.Common.{◌<◌, ◌≤◌, ◌∙◌, ℕ, subst, sym}
use Rattle.path_tasks.specs.Keys.{task_of}
use Rattle.path_tasks.specs.Paths.{tiles_of}
use Rattle.path_tasks.proofs.Calls.{pred_count_at, input_count_at, known_at, pred_known, pred_answer}
use Rattle.apsp_graph.proofs.graph.PathGraphTaskGraph.pred.Goals as goal

pub pred-end-requires-clause-place : goal.pred-end-requires-clause-place
pred-end-requires-clause-place c =
    let s = c.args.self.now in
    let t = tiles_of s.n s.side in
    let e = pred_count_at c.tiles-b.result t c.task_at-task.result (task_of t c.args.key.0) c.tiles-b.ensures.value c.task_at-task.ensures.value in
    subst (λ (v : ℕ). c.args.j < v) (sym e) c.requires.place

pub key_of-requires-clause-known : goal.key_of-requires-clause-known
key_of-requires-clause-known c =
    let s = c.args.self.now in
    let t = tiles_of s.n s.side in
    let e = pred_count_at c.tiles-b.result t c.task_at-task.result (task_of t c.args.key.0) c.tiles-b.ensures.value c.task_at-task.ensures.value in
    pred_known c.tiles-b.result c.task_at-task.result c.args.j c.pred-end.result
    (known_at c.tiles-b.result t c.task_at-task.result c.tiles-b.ensures.value c.task_at-task.ensures.known)
    (subst (λ (v : ℕ). c.args.j < v) (sym e) c.requires.place)
    c.pred-end.ensures

pub returns-then-j-input_count : goal.returns-then-j-input_count
returns-then-j-input_count c =
    let s = c.args.self.now in
    let t = tiles_of s.n s.side in
    let x = c.task_at-task.result in
    let y = task_of t c.args.key.0 in
    let e = pred_count_at c.tiles-b.result t x y c.tiles-b.ensures.value c.task_at-task.ensures.value in
    let f = c.input_count.ensures ∙ input_count_at c.tiles-b.result t x y c.tiles-b.ensures.value c.task_at-task.ensures.value in
    record {
      pred = pred_answer c.tiles-b.result t x y c.args.j c.key_of.result c.pred-end.result c.tiles-b.ensures.value c.task_at-task.ensures.value (subst (λ (v : ℕ). c.args.j < v) (sym e) c.requires.place) c.pred-end.ensures c.key_of.ensures;
      kind = subst (λ (v : ℕ). c.args.j < v) f c.if-j-input_count.true;
    }

pub returns-else-j-input_count : goal.returns-else-j-input_count
returns-else-j-input_count c =
    let s = c.args.self.now in
    let t = tiles_of s.n s.side in
    let x = c.task_at-task.result in
    let y = task_of t c.args.key.0 in
    let e = pred_count_at c.tiles-b.result t x y c.tiles-b.ensures.value c.task_at-task.ensures.value in
    let f = c.input_count.ensures ∙ input_count_at c.tiles-b.result t x y c.tiles-b.ensures.value c.task_at-task.ensures.value in
    record {
      pred = pred_answer c.tiles-b.result t x y c.args.j c.key_of.result c.pred-end.result c.tiles-b.ensures.value c.task_at-task.ensures.value (subst (λ (v : ℕ). c.args.j < v) (sym e) c.requires.place) c.pred-end.ensures c.key_of.ensures;
      kind = subst (λ (v : ℕ). v ≤ c.args.j) f c.if-j-input_count.false;
    }
