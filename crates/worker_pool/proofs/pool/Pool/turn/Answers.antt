use Rattle.std.proofs.Common.{◌≡◌, ◌∙◌, ℕ, ◌<◌, List, Option, false, ap, arith, drop, length, subst, sym}
use Rattle.std.proofs.lemmas.Result.{IfOk-weaker}
use Rattle.graph_model.specs.Notes.{Note}
use Rattle.core_state.specs.declared.views.View.{View}
use Rattle.core_steps.proofs.Others.{seated}
use Rattle.core_steps.specs.Table.{Plain}
use Rattle.run_bounds.specs.Storm.{most_cost}
use Rattle.worker_pool.specs.Calling.{HasCalled}
use Rattle.worker_pool.specs.Sharing.{doing_of}
use Rattle.worker_pool.specs.Working.{WorkerHolds, is_idle}
use Rattle.worker_pool.specs.declared.worker.Worker.{Worker}
use Rattle.worker_pool.proofs.Sharing.Tables.{read_there, same_read, seat_shares, words_from, worker_turned}
use Rattle.run_bounds.proofs.Shared.Ending.{suspects_cost_twice}
use Rattle.worker_pool.proofs.Pooling.{calls_turned, held_at, kernels_still, lent_once, make_turned, same_turned, workers_hold}
use Rattle.worker_pool.proofs.pool.Pool.turn.Goals as goal

pub returns-then-is_idle-clause-holds : goal.returns-then-is_idle-clause-holds
returns-then-is_idle-clause-holds g c = c.look.ensures.holds (g.G.TaskGraph.graph c.args.terms.now.graph.now) c.requires.run c.requires.holds

pub returns-then-is_idle-clause-calls : goal.returns-then-is_idle-clause-calls
returns-then-is_idle-clause-calls g c = λ before. kernels_still before _ c.args.self.now.table.views c.look.new.self.table.views c.args.worker c.look.ensures.others c.look.ensures.results

pub turn-requires-clause-holds : goal.turn-requires-clause-holds
turn-requires-clause-holds g c = λ _ _. let tasks = g.G.TaskGraph.graph c.args.terms.now.graph.now in let e = g.C.Course.setting in let i = c.args.worker in let table = c.args.self.now.table in let is = c.seat-seat.ensures in
    let low : i < length c.args.self.now.workers.items = omega (arith, c.requires.worker, c.requires.kernels) in
    subst (λ (v : View). WorkerHolds tasks e v c.index_mut.result.now) (sym (seated table c.seat-seat.result.table.now i c.seat-seat.result.worker is.table is.worker))
    (held_at tasks e table.views c.args.self.now.workers.items i c.index_mut.result.now low c.index_mut.ensures.value c.requires.holds)

pub returns-clause-holds : goal.returns-clause-holds
returns-clause-holds g c = let tasks = g.G.TaskGraph.graph c.args.terms.now.graph.now in let e = g.C.Course.setting in let i = c.args.worker in let table = c.args.self.now.table in let seat = c.seat-seat.result in let left = c.turn.new.steps in let back = c.drop-seat.new.self.0 in
    let is = c.seat-seat.ensures in let same = c.turn.ensures.table in
    let turn = lent_once table seat.table.now left.table.now back i seat.worker left.worker _ _ _ _ is.table is.worker c.drop-seat.ensures same.same_lender same.same_others in
    workers_hold tasks e table.views back.views c.args.self.now.workers.items i c.turn.new.self turn.others c.requires.holds
    (subst (λ (v : View). WorkerHolds tasks e v c.turn.new.self) turn.after c.turn.ensures.holds)

pub returns-clause-calls : goal.returns-clause-calls
returns-clause-calls g c = let i = c.args.worker in let table = c.args.self.now.table in let seat = c.seat-seat.result in let left = c.turn.new.steps in let back = c.drop-seat.new.self.0 in let calls = g.Ke.Kernel.calls in
    let is = c.seat-seat.ensures in let same = c.turn.ensures.table in
    let turn = lent_once table seat.table.now left.table.now back i seat.worker left.worker _ _ _ _ is.table is.worker c.drop-seat.ensures same.same_lender same.same_others in
    λ before. calls_turned c.args.kernels.now.items i c.index_mut-2.result.now c.turn.new.kernel c.requires.worker c.index_mut-2.ensures.value calls before table.views back.views turn.others
    (λ (b : Option (List Note)) has. subst (HasCalled b (calls c.turn.new.kernel)) turn.after (c.turn.ensures.calls b (subst (HasCalled b (calls c.index_mut-2.result.now)) (sym turn.before) has)))

pub returns-clause-outcome : goal.returns-clause-outcome
returns-clause-outcome g c = make_turned c.args.kernels.now.items c.args.worker c.index_mut-2.result.now c.turn.new.kernel c.requires.worker c.index_mut-2.ensures.value g.Ke.Kernel.outcome g.Ke.Kernel.fits c.turn.ensures.kernel (g.G.TaskGraph.graph c.args.terms.now.graph.now) g.C.Course.setting c.requires.outcome

pub returns-clause-kernels : goal.returns-clause-kernels
returns-clause-kernels g c = same_turned c.args.kernels.now.items c.args.worker c.index_mut-2.result.now c.turn.new.kernel c.requires.worker c.index_mut-2.ensures.value g.Ke.Kernel.outcome g.Ke.Kernel.fits c.turn.ensures.kernel

pub returns-then-is_idle-clause-makes : goal.returns-then-is_idle-clause-makes
returns-then-is_idle-clause-makes g c = λ goes. c.look.ensures.makes (g.G.TaskGraph.graph c.args.terms.now.graph.now) c.args.terms.now.plan.now c.requires.run c.requires.holds

pub returns-clause-makes : goal.returns-clause-makes
returns-clause-makes g c = IfOk-weaker c.turn.result _ _ (λ spent pay goes. record {
  made = λ storm sound later some schedule listed turns next on. let tasks = g.G.TaskGraph.graph c.args.terms.now.graph.now in let e = g.C.Course.setting in let i = c.args.worker in let table = c.args.self.now.table in let seat = c.seat-seat.result in let left = c.turn.new.steps in let back = c.drop-seat.new.self.0 in
      let is = c.seat-seat.ensures in let same = c.turn.ensures.table in let ws = c.args.self.now.workers.items in let u = c.index_mut.result.now in let w = c.turn.new.self in let strikes = c.args.terms.now.plan.now in
      let turn = lent_once table seat.table.now left.table.now back i seat.worker left.worker _ _ _ _ is.table is.worker c.drop-seat.ensures same.same_lender same.same_others in
      let low : i < length ws = omega (arith, c.requires.worker, c.requires.kernels) in let many = c.requires.holds.same_count in
      let busy : is_idle u.work ≡ false = ap (λ (x : Worker). is_idle x.work) (same_read ws i u c.index.result.now low c.index_mut.ensures.value c.index.ensures) ∙ sym c.is_idle.ensures ∙ c.if-is_idle.false in
      worker_turned tasks e strikes table back ws i u w schedule turns many (read_there ws i u low c.index_mut.ensures.value) turn.others (returns-clause-holds g c) next listed later some
      (seat_shares _ _ _ _ e strikes (most_cost tasks) table back i seat left (doing_of u.work) (doing_of w.work) u.hints.items w.hints.items (pay goes (most_cost tasks) (suspects_cost_twice tasks strikes e storm) busy) sound later (omega (arith, many, low)) turn.others.same_count turn.before turn.after
      (λ ready x n as_new as_lent did. words_from e x n table.words ready.table.now.words left.table.now.words back.words (ready.unstepped (as_new ∙ is.unstepped) ∙ ap (λ (ns : List ℕ). drop 2 ns) as_lent ∙ is.lent) (ap (λ (q : Plain). q.words) c.drop-seat.ensures) did))
      on;
}) c.turn.ensures.pays
