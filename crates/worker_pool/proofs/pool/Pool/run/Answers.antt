use Rattle.std.proofs.Common.{◌≡◌, ◌≢◌, ◌%◌, ◌∙◌, ℕ, arith, length, refl, slice_index, slice_index_or, subst}
use Rattle.core_state.specs.Counts.{noted, total_of}
use Rattle.core_state.specs.Tests.{is_any_replaced}
use Rattle.worker_pool.specs.Sharing.{IsPaid}
use Rattle.worker_pool.proofs.Sharing.Tables.{long_enough, paid_for}
use Rattle.worker_pool.proofs.Pooling.{scheduled}
use Rattle.worker_pool.proofs.pool.Pool.run.Goals as goal

pub loop-i-init : goal.loop-i-init
loop-i-init g c = let r = c.requires in record {
  holds = r.holds;
  kept = r.posted;
  make = r.outcome;
  same = record { same_count = refl; same_outcome = r.alike.same_outcome; same_fits = r.alike.same_fits };
  views = refl;
  called = λ before called. called;
  paid = λ begins listed. record { sound = begins.sound; some = begins.some; made = begins.none_made c.args.schedule.now listed };
}

pub turn-requires-clause-worker : goal.turn-requires-clause-worker
turn-requires-clause-worker g c = let low = scheduled c.args.schedule.now (length c.args.kernels.now.items) c.loop-i.i c.requires.schedule c.requires.workers in omega (arith, low, c.loop-i.invariant.same.same_count)

pub stop-requires : goal.stop-requires
stop-requires g c = let low = scheduled c.args.schedule.now (length c.args.kernels.now.items) c.loop-i.i c.requires.schedule c.requires.workers in
    let r = c.requires in omega (arith, low, r.kernels, r.holds.same_count, c.loop-i.invariant.views, c.turn.ensures.count)

pub returns-in-Ok-Some-clause-stop : goal.returns-in-Ok-Some-clause-stop
returns-in-Ok-Some-clause-stop g c = let shown = rw c.in-Ok-Some.field-0-is at c.in-Ok-Some.ensures.spent in record { worker = slice_index_or c.args.schedule.now (c.loop-i.i % length c.args.schedule.now) 0; greatest = shown.0; suspected = shown.1 }

pub returns-in-Ok-Some-clause-calls : goal.returns-in-Ok-Some-clause-calls
returns-in-Ok-Some-clause-calls g c = λ before called. c.turn.ensures.calls before (c.loop-i.invariant.called before called)

pub returns-in-Ok-Some-clause-kernels : goal.returns-in-Ok-Some-clause-kernels
returns-in-Ok-Some-clause-kernels g c = c.turn.ensures.kernels _ c.loop-i.invariant.same

pub returns-in-Err-clause-calls : goal.returns-in-Err-clause-calls
returns-in-Err-clause-calls g c = λ before called. c.stop.ensures.views before _ (c.turn.ensures.calls before (c.loop-i.invariant.called before called))

pub returns-in-Err-clause-kernels : goal.returns-in-Err-clause-kernels
returns-in-Err-clause-kernels g c = c.turn.ensures.kernels _ c.loop-i.invariant.same

pub returns-then-pending-eq0-clause-calls : goal.returns-then-pending-eq0-clause-calls
returns-then-pending-eq0-clause-calls g c = λ before called. c.turn.ensures.calls before (c.loop-i.invariant.called before called)

pub returns-then-pending-eq0-clause-kernels : goal.returns-then-pending-eq0-clause-kernels
returns-then-pending-eq0-clause-kernels g c = c.turn.ensures.kernels _ c.loop-i.invariant.same

pub loop-i-preserved : goal.loop-i-preserved
loop-i-preserved g c = let turn = c.turn.ensures in let before = c.loop-i.invariant in record {
  holds = turn.holds;
  kept = turn.posted;
  make = turn.outcome;
  same = turn.kernels _ before.same;
  views = turn.count ∙ before.views;
  called = λ calls called. turn.calls calls (before.called calls called);
  paid = λ begins listed. let midway = before.paid begins listed in
      let some : slice_index c.turn.new.self.table.words 0 ≢ 0 = (λ none. c.if-pending-eq0.false (c.pending.ensures.word ∙ none)) in record {
        sound = c.pending.ensures.sound;
        some = some;
        made = (c.in-Ok-None.ensures.makes c.in-Ok-None.field-0-is).made begins.run midway.sound c.pending.ensures.sound some c.args.schedule.now listed c.loop-i.i refl midway.made;
      };
}

pub returns-clause-paid : goal.returns-clause-paid
returns-clause-paid g c = λ begins listed over some. let p = c.loop-i.self.table in let loop = c.loop-i.invariant in
    let tasks = g.G.TaskGraph.graph c.args.terms.now.graph.now in let strikes = c.args.terms.now.plan.now in let schedule = c.args.schedule.now in let made : c.loop-i.i ≡ c.args.turns = omega arith in
    subst (λ (n : ℕ). IsPaid tasks strikes (length p.views) (length schedule) n (total_of p.views (noted is_any_replaced))) made
    (paid_for tasks strikes g.C.Course.setting schedule p c.loop-i.self.workers.items c.loop-i.i begins.run loop.holds.same_count (long_enough schedule 0 listed) (loop.paid begins listed))
