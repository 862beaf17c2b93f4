use Rattle.std.proofs.Common.{◌∙◌, IfNone, rules, subst, sym}
use Rattle.core_state.specs.declared.views.View.{View}
use Rattle.task_table.specs.Passes.{lender_of}
use Rattle.worker_pool.specs.Calling.{HasCalled}
use Rattle.worker_pool.specs.Threads.{StationHolds}
use Rattle.worker_pool.proofs.Pooling.{makes_on, run_names}
use Rattle.worker_pool.proofs.Threading.Serving.{kernel_on}
use Rattle.worker_pool.proofs.serving.work.Goals as goal

pub returns-then-not-has_block-clause-ends : goal.returns-then-not-has_block-clause-ends
returns-then-not-has_block-clause-ends g c = let same = c.sees_stop.ensures.same in
    (λ j. (same.0 j).view.hands) ∙ c.has_block.ensures.none c.if-not-has_block.true (g.G.TaskGraph.graph c.args.terms.now.graph.now) g.C.Course.setting c.loop.seat.pass.view c.loop.invariant.2.worker

pub returns-then-not-has_block-clause-calls : goal.returns-then-not-has_block-clause-calls
returns-then-not-has_block-clause-calls g c = λ before has. let same = c.sees_stop.ensures.same in
    subst (λ (v : View). HasCalled before (g.Ke.Kernel.calls c.loop.kernel) v) (λ j. (sym same.0 j).view) (c.loop.invariant.3 before has)

pub round-requires-clause-names : goal.round-requires-clause-names
round-requires-clause-names g c κs within = run_names _ _ c.requires.run

pub round-requires-clause-outcome : goal.round-requires-clause-outcome
round-requires-clause-outcome g c κs within = makes_on _ _ _ _ _ _ c.loop.invariant.4 c.requires.outcome

pub returns-in-Some-round-clause-calls : goal.returns-in-Some-round-clause-calls
returns-in-Some-round-clause-calls g c = λ before has. let same = c.sees_stop.ensures.same in
    c.round.ensures.calls before (subst (λ (v : View). HasCalled before (g.Ke.Kernel.calls c.loop.kernel) v) (λ j. (sym same.0 j).view) (c.loop.invariant.3 before has))

pub returns-in-Some-round-clause-kernel : goal.returns-in-Some-round-clause-kernel
returns-in-Some-round-clause-kernel g c = kernel_on _ _ _ _ _ _ c.loop.invariant.4 c.round.ensures.kernel

pub loop-preserved : goal.loop-preserved
loop-preserved g c = let same = c.sees_stop.ensures.same in (
  (search rules),
  (search rules),
  subst (λ r. IfNone r (StationHolds (g.G.TaskGraph.graph c.args.terms.now.graph.now) g.C.Course.setting c.round.new.steps.pass.view c.round.new.station)) c.in-None-round.is c.round.ensures.holds,
  (λ before has. c.round.ensures.calls before (subst (λ (v : View). HasCalled before (g.Ke.Kernel.calls c.loop.kernel) v) (λ j. (sym same.0 j).view) (c.loop.invariant.3 before has))),
  kernel_on _ _ _ _ _ _ c.loop.invariant.4 c.round.ensures.kernel,
  c.round.ensures.table.same_lender ∙ (λ j. lender_of (same.0 j)) ∙ c.loop.invariant.5,
)
