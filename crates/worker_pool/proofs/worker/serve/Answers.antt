use Rattle.std.proofs.Common.{◌≡◌, ◌≢◌, ◌∙◌, ℕ, ap, arith, subst, sym}
use Rattle.core_state.specs.Counts.{known_key}
use Rattle.core_state.specs.Events.Event.{take}
use Rattle.core_state.specs.Graph.{Setting}
use Rattle.core_state.specs.Sure.{IsSure}
use Rattle.core_state.specs.declared.views.View.{View}
use Rattle.recovery.proofs.Knowing.{row_here}
use Rattle.recovery.specs.Memory.{KnowsKey}
use Rattle.worker_pool.proofs.Sharing.Serving.{free_lines, job_came, next_doing, none_came}
use Rattle.worker_pool.proofs.Sharing.Tasks.{stepped_after}
use Rattle.worker_pool.proofs.Turns.{fresh_as, served_job, taken_as}
use Rattle.run_bounds.specs.Doing.{Doing}
use Rattle.run_bounds.specs.Doing.Doing.{asks}
use Rattle.run_bounds.specs.Shared.{ActorTurn}
use Rattle.run_bounds.specs.Struck.{IsMade}
use Rattle.worker_pool.specs.Sharing.{doing_of}
use Rattle.worker_pool.proofs.worker.serve.Goals as goal
use Rattle.worker_pool.proofs.worker.serve.Goals.{in-Compute, in-Explore}

pub take-life-requires-clause-can : goal.take-life-requires-clause-can
take-life-requires-clause-can g c = let r = c.reserve.ensures in
    row_here _ _ c.args.row c.args.key.0 (subst (λ (e : Setting). KnowsKey e (g.T.Steps.view c.reserve.new.self) c.args.row c.args.key.0) (sym r.table.same_setting)
    (subst (λ (v : View). KnowsKey (g.T.Steps.setting c.args.steps.now) v c.args.row c.args.key.0) (sym r.view) c.requires.known))

pub returns-then-life-gt0-clause-holds : goal.returns-then-life-gt0-clause-holds
returns-then-life-gt0-clause-holds g c = λ tasks names. let r = c.reserve.ensures in let t = c.take-life.ensures in
    let e = g.T.Steps.setting c.args.steps.now in let v = g.T.Steps.view c.args.steps.now in let w = g.T.Steps.view c.take-life.new.self in
    let same = t.step.table.same_setting ∙ r.table.same_setting in
    let some : c.take-life.result ≢ 0 = omega (arith, c.if-life-gt0.true) in
    served_job tasks e v w (record { row = c.args.row; key = c.args.key; life = c.take-life.result }) c.args.job c.task_of.result c.requires.idle
    (taken_as e _ v _ w c.args.row c.args.key.0 c.take-life.result _ c.args.job r.table.same_setting r.view c.requires.known t.number t.step.view_is) c.task_of.ensures names c.requires.known some
    (fresh_as e _ v _ w c.args.row c.args.key.0 c.take-life.result c.args.job same r.view c.requires.known (t.fresh c.if-life-gt0.true)) (subst (λ (x : Setting). IsSure x w) same t.step.table.sure)

pub returns-then-life-gt0-clause-pays : goal.returns-then-life-gt0-clause-pays
returns-then-life-gt0-clause-pays g c = λ tasks p lives most hints runs. record {
  on = λ s t steps part later topped. let a = c.args in let e = g.T.Steps.setting a.steps.now in let v = g.T.Steps.view a.steps.now in let now = c.take-life.new.self in let w = g.T.Steps.view now in let did = c.take-life.ensures in let r = c.reserve.ensures in
      let some : c.take-life.result ≢ 0 = omega (arith, c.if-life-gt0.true) in
      job_came e p most s t v w part later (free_lines v c.requires.idle) c.take-life.result a.row a.key.0 c.requires.known hints tasks lives runs a.job
      (subst (λ (n : ℕ). IsMade e (take a.row a.job (known_key a.row v)) n s t v w) (sym did.number)
      (stepped_after e a.steps.now c.reserve.new.self now s t (λ (u : View). take a.row a.job (known_key a.row u)) r.table.same_setting r.view r.made r.table.same_lender steps did.step))
      some c.task_of.result c.task_of.ensures;
}

pub returns-clause-pays : goal.returns-clause-pays
returns-clause-pays g c = λ tasks p lives most hints runs. record {
  on = λ s t steps part later topped. let a = c.args in let e = g.T.Steps.setting a.steps.now in let v = g.T.Steps.view a.steps.now in let now = c.take-life.new.self in let w = g.T.Steps.view now in let did = c.take-life.ensures in let r = c.reserve.ensures in
      let none : c.take-life.result ≡ 0 = omega (arith, c.if-life-gt0.false) in
      let next : next_doing a.row a.key.0 a.job ≡ doing_of c.match-job.result = elim c.match-job.branch [ in-Explore b ↦ ap (next_doing a.row a.key.0) b.in-Explore.is ∙ sym (ap doing_of b.result-is) | in-Compute b ↦ ap (next_doing a.row a.key.0) b.in-Compute.is ∙ sym (ap doing_of b.result-is) ] in
      subst (λ (x : Doing). ActorTurn e p most s t (record { view = v; doing = asks a.row a.key.0 a.job; hints = hints }) (record { view = w; doing = x; hints = hints })) next
      (none_came e p most s t v w part later (free_lines v c.requires.idle) c.take-life.result a.row a.key.0 c.requires.known hints a.job
      (subst (λ (n : ℕ). IsMade e (take a.row a.job (known_key a.row v)) n s t v w) (sym did.number)
      (stepped_after e a.steps.now c.reserve.new.self now s t (λ (u : View). take a.row a.job (known_key a.row u)) r.table.same_setting r.view r.made r.table.same_lender steps did.step))
      none);
}
