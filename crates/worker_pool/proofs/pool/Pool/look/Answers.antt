use Rattle.std.proofs.Common.{◌≡◌, ◌∙◌, ℕ, ◌<◌, List, true, ap, arith, drop, length, subst, sym}
use Rattle.core_state.specs.declared.views.View.{View}
use Rattle.core_steps.specs.Table.{Plain, view_at, view_in}
use Rattle.recovery.specs.Memory.{SameResults}
use Rattle.run_bounds.specs.Doing.Doing.{idle}
use Rattle.run_bounds.specs.Storm.{most_cost}
use Rattle.worker_pool.specs.Sharing.{doing_of}
use Rattle.worker_pool.specs.Working.{IsIdle, WorkHolds, WorkerHolds, is_idle}
use Rattle.worker_pool.proofs.Sharing.Looking.{idle_turned, look_turned, some_worker}
use Rattle.worker_pool.proofs.Sharing.Tables.{read_there, seat_shares, words_from}
use Rattle.worker_pool.proofs.Turns.{idle_is}
use Rattle.worker_pool.proofs.Pooling.{held_at, lent_once, run_names, still_idle, workers_hold}
use Rattle.worker_pool.proofs.pool.Pool.look.Goals as goal

pub look-requires-clause-idle : goal.look-requires-clause-idle
look-requires-clause-idle g c = still_idle c.args.self.now.workers.items c.hint_for.new.workers.items c.args.worker c.index_mut.result.now c.hint_for.ensures.works c.requires.worker c.index_mut.ensures.value c.requires.idle

pub look-requires-clause-row : goal.look-requires-clause-row
look-requires-clause-row g c = c.in-Some.ensures.row c.requires.holds.0 _ _ c.requires.holds.1

pub returns-in-Some-clause-holds : goal.returns-in-Some-clause-holds
returns-in-Some-clause-holds g c = λ tasks run hold. let e = g.C.Course.setting in let i = c.args.worker in let table = c.args.self.now.table in let seat = c.seat-seat.result in let left = c.look.new.steps in let back = c.drop-seat.new.self.0 in
    let is = c.seat-seat.ensures in let same = c.look.ensures.table in
    let turn = lent_once table seat.table.now left.table.now back i seat.worker left.worker _ _ _ _ is.table is.worker c.drop-seat.ensures same.same_lender same.same_others in
    let workers = c.hint_for.new.workers.items in let kept = c.hint_for.ensures.holds tasks e table.views hold in
    let low : i < length workers = (let a = kept.same_count in let b = hold.same_count in let d = c.requires.worker in omega (arith, a, b, d)) in
    let held = held_at tasks e table.views workers i c.index_mut.result.now low c.index_mut.ensures.value kept in
    workers_hold tasks e table.views back.views workers i c.look.new.self turn.others kept
    (subst (λ (v : View). WorkerHolds tasks e v c.look.new.self) turn.after
    (c.look.ensures.holds tasks (run_names tasks e run) (subst (λ (v : View). WorkerHolds tasks e v c.index_mut.result.now) (sym turn.before) held)))

pub returns-in-Some-clause-results : goal.returns-in-Some-clause-results
returns-in-Some-clause-results g c = let i = c.args.worker in let table = c.args.self.now.table in let seat = c.seat-seat.result in let left = c.look.new.steps in let back = c.drop-seat.new.self.0 in
    let is = c.seat-seat.ensures in let same = c.look.ensures.table in
    let turn = lent_once table seat.table.now left.table.now back i seat.worker left.worker _ _ _ _ is.table is.worker c.drop-seat.ensures same.same_lender same.same_others in
    subst (λ (v : View). SameResults v (view_in back.views i)) turn.before
    (subst (λ (w : View). SameResults (view_at seat.table.now seat.worker) w) turn.after c.look.ensures.results)

pub returns-in_default-clause-holds : goal.returns-in_default-clause-holds
returns-in_default-clause-holds g c = λ tasks run hold. c.hint_for.ensures.holds tasks _ _ hold

pub returns-in-Some-clause-makes : goal.returns-in-Some-clause-makes
returns-in-Some-clause-makes g c = λ tasks strikes run hold. record {
  made = λ storm sound later some schedule listed turns next on. let e = g.C.Course.setting in let i = c.args.worker in let table = c.args.self.now.table in let seat = c.seat-seat.result in let left = c.look.new.steps in let back = c.drop-seat.new.self.0 in
      let is = c.seat-seat.ensures in let same = c.look.ensures.table in let ws = c.args.self.now.workers.items in let us = c.hint_for.new.workers.items in let u = c.index_mut.result.now in let w = c.look.new.self in
      let turn = lent_once table seat.table.now left.table.now back i seat.worker left.worker _ _ _ _ is.table is.worker c.drop-seat.ensures same.same_lender same.same_others in
      let kept = c.hint_for.ensures.holds tasks e table.views hold in
      let low : i < length us = (let a = kept.same_count in let b = hold.same_count in let d = c.requires.worker in omega (arith, a, b, d)) in
      let rests : is_idle u.work ≡ true = still_idle ws us i u c.hint_for.ensures.works c.requires.worker c.index_mut.ensures.value c.requires.idle in
      let resting : IsIdle (view_in table.views i) = subst (WorkHolds tasks e (view_in table.views i)) (idle_is u.work rests) (held_at tasks e table.views us i u low c.index_mut.ensures.value kept).work in
      look_turned tasks e strikes table ws us i hold c.hint_for.ensures.works back u w c.in-Some.row c.in-Some.ensures.taken kept.same_count (read_there us i u low c.index_mut.ensures.value) rests turn.others (returns-in-Some-clause-holds g c tasks run hold) later some schedule listed turns next
      (λ hints taken topped. seat_shares _ _ _ _ e strikes (most_cost tasks) table back i seat left idle (doing_of w.work) hints w.hints.items (c.look.ensures.pays strikes (most_cost tasks) hints (subst IsIdle (sym turn.before) resting) taken) sound later (let a = kept.same_count in omega (arith, a, low)) turn.others.same_count turn.before turn.after
      (λ ready x n as_new as_lent did. words_from e x n table.words ready.table.now.words left.table.now.words back.words (ready.unstepped (as_new ∙ is.unstepped) ∙ ap (λ (ns : List ℕ). drop 2 ns) as_lent ∙ is.lent) (ap (λ (q : Plain). q.words) c.drop-seat.ensures) did) topped)
      on;
}

pub returns-in_default-clause-makes : goal.returns-in_default-clause-makes
returns-in_default-clause-makes g c = λ tasks strikes run hold. let e = g.C.Course.setting in let i = c.args.worker in let table = c.args.self.now.table in let ws = c.args.self.now.workers.items in
    let there = some_worker ws i c.requires.worker in idle_turned tasks e strikes table ws c.hint_for.new.workers.items i hold c.hint_for.ensures.works c.in_default.ensures.taken there.0 there.1 (c.requires.idle there.0 there.1)
