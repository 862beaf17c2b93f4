use Rattle.std.proofs.Common.{◌<◌, ℕ, All, List, ◌∙◌, ap, subst, sym}
use Rattle.compute_notify.specs.Tasks.{TaskTells, ends_run}
use Rattle.run_bounds.specs.Hinting.{HintsPut}
use Rattle.run_bounds.specs.Doing.Doing.{idle, works}
use Rattle.run_bounds.specs.Shared.{ActorTurn}
use Rattle.run_bounds.proofs.Shared.Tasks.{done_turned, task_turned}
use Rattle.worker_pool.specs.Sharing.{doing_of}
use Rattle.worker_pool.specs.Working.{SpentShown, WorkHolds, WorkScratch}
use Rattle.worker_pool.proofs.Calls.{called_still}
use Rattle.worker_pool.proofs.Sharing.Tasks.{goes_on_told}
use Rattle.worker_pool.specs.declared.worker.Work.{Work}
use Rattle.worker_pool.proofs.Turns.{done_idle, done_scratch, left_items, spent_shown}
use Rattle.worker_pool.proofs.worker.Worker.turn.Goals as goal

pub returns-in_ok-self-in-Serve-clause-holds : goal.returns-in_ok-self-in-Serve-clause-holds
returns-in_ok-self-in-Serve-clause-holds g c = let tasks = g.G.TaskGraph.graph c.args.terms.now.graph.now in let e = g.T.Steps.setting c.args.steps.now in let holds = c.requires.holds in
    let served = c.in_ok-self-in-Serve.ensures in
    record {
      work = served.holds tasks (subst (WorkHolds tasks e (g.T.Steps.view c.args.steps.now)) c.in-Serve.is holds.work).2;
      scratch = served.scratch tasks c.args.self.now.scratch (subst (WorkScratch e tasks c.args.self.now.scratch) c.in-Serve.is holds.scratch);
      hints = holds.hints;
    }

pub returns-in_ok-self-in-Serve-clause-calls : goal.returns-in_ok-self-in-Serve-clause-calls
returns-in_ok-self-in-Serve-clause-calls g c = λ before. called_still before _ _ _ c.serve.ensures.results

pub returns-in-Done-clause-holds : goal.returns-in-Done-clause-holds
returns-in-Done-clause-holds g c = let tasks = g.G.TaskGraph.graph c.args.terms.now.graph.now in let e = g.T.Steps.setting c.args.steps.now in let w = g.T.Steps.view c.work_on.new.steps in
    let work = c.in_ok-turn-in-Busy.ensures in let tells = subst (TaskTells e w c.work_on.new.task) c.in-Done.is work.tells in
    record {
      work = done_idle tasks e w c.work_on.new.task c.work_on.ensures.holds tells;
      scratch = done_scratch tasks e w c.work_on.new.task c.work_on.new.scratch c.work_on.ensures.scratch tells;
      hints = c.keep.ensures.hints e.shape.rows (subst (All (λ row. row < e.shape.rows)) (sym {A = List ℕ} c.reserve.ensures.items) c.requires.holds.hints) c.work_on.ensures.posted;
    }

pub returns-in_default-clause-holds : goal.returns-in_default-clause-holds
returns-in_default-clause-holds g c = let tasks = g.G.TaskGraph.graph c.args.terms.now.graph.now in let e = g.T.Steps.setting c.args.steps.now in let w = g.T.Steps.view c.work_on.new.steps in
    record {
      work = (c.work_on.ensures.holds, left_items tasks e w c.work_on.new.task c.in_ok-turn-in-Busy.turn c.in_default.not-Done c.work_on.ensures.holds c.in_ok-turn-in-Busy.ensures.tells);
      scratch = c.work_on.ensures.scratch;
      hints = c.keep.ensures.hints e.shape.rows (subst (All (λ row. row < e.shape.rows)) (sym {A = List ℕ} c.reserve.ensures.items) c.requires.holds.hints) c.work_on.ensures.posted;
    }

pub returns-in_default-clause-spent : goal.returns-in_default-clause-spent
returns-in_default-clause-spent g c = let e = g.T.Steps.setting c.args.steps.now in let w = g.T.Steps.view c.work_on.new.steps in
    subst (SpentShown e w) (sym c.spent_of.ensures) (spent_shown (g.G.TaskGraph.graph c.args.terms.now.graph.now) e w c.work_on.new.task c.in_ok-turn-in-Busy.turn c.in_ok-turn-in-Busy.ensures.tells)

pub returns-in_ok-self-in-Serve-clause-pays : goal.returns-in_ok-self-in-Serve-clause-pays
returns-in_ok-self-in-Serve-clause-pays g c = λ goes most few busy. record {
  on = λ s t steps part later topped. let a = c.args in let e = g.T.Steps.setting a.steps.now in let v = g.T.Steps.view a.steps.now in let w = g.T.Steps.view c.serve.new.steps in let hints = a.self.now.hints.items in let p = a.terms.now.plan.now in
      subst (λ (x : Work). ActorTurn e p most s t (record { view = v; doing = doing_of x; hints = hints }) (record { view = w; doing = doing_of c.in_ok-self-in-Serve.field-0; hints = hints })) (sym c.in-Serve.is)
      ((c.in_ok-self-in-Serve.ensures.pays (g.G.TaskGraph.graph a.terms.now.graph.now) p a.terms.now.lives most hints c.requires.runs).on s t steps part later topped);
}

pub returns-in-Done-clause-pays : goal.returns-in-Done-clause-pays
returns-in-Done-clause-pays g c = λ goes most few busy. record {
  on = λ s t steps part later topped. let a = c.args in let tasks = g.G.TaskGraph.graph a.terms.now.graph.now in let e = g.T.Steps.setting a.steps.now in let v = g.T.Steps.view a.steps.now in let w = g.T.Steps.view c.work_on.new.steps in let hints = a.self.now.hints.items in let p = a.terms.now.plan.now in
      let work = c.in_ok-turn-in-Busy.ensures in let now = c.work_on.new.task in let left = c.keep.new.hints.items in
      let holds = subst (WorkHolds tasks e v) c.in-Busy.is c.requires.holds.work in let tells = subst (TaskTells e w now) c.in-Done.is work.tells in
      subst (λ (x : Work). ActorTurn e p most s t (record { view = v; doing = doing_of x; hints = hints }) (record { view = w; doing = idle; hints = left })) (sym c.in-Busy.is)
      (done_turned p most few part later topped tasks a.terms.now.lives c.requires.runs c.in-Busy.task now holds.0 c.work_on.ensures.holds hints c.work_on.new.posted left (work.turned s t steps (ap ends_run c.in-Done.is))
      (subst (λ (xs : List ℕ). HintsPut xs c.work_on.new.posted left) c.reserve.ensures.items c.keep.ensures.put) tells.0);
}

pub returns-in_default-clause-pays : goal.returns-in_default-clause-pays
returns-in_default-clause-pays g c = λ goes most few busy. record {
  on = λ s t steps part later topped. let a = c.args in let tasks = g.G.TaskGraph.graph a.terms.now.graph.now in let e = g.T.Steps.setting a.steps.now in let v = g.T.Steps.view a.steps.now in let w = g.T.Steps.view c.work_on.new.steps in let hints = a.self.now.hints.items in let p = a.terms.now.plan.now in
      let work = c.in_ok-turn-in-Busy.ensures in let now = c.work_on.new.task in let left = c.keep.new.hints.items in let holds = subst (WorkHolds tasks e v) c.in-Busy.is c.requires.holds.work in
      subst (λ (x : Work). ActorTurn e p most s t (record { view = v; doing = doing_of x; hints = hints }) (record { view = w; doing = works now; hints = left })) (sym c.in-Busy.is)
      (task_turned p most few part later topped tasks a.terms.now.lives c.requires.runs c.in-Busy.task now holds.0 c.work_on.ensures.holds hints c.work_on.new.posted left (work.turned s t steps (goes_on_told c.in_ok-turn-in-Busy.turn (sym c.spent_of.ensures ∙ goes)))
      (subst (λ (xs : List ℕ). HintsPut xs c.work_on.new.posted left) c.reserve.ensures.items c.keep.ensures.put));
}
