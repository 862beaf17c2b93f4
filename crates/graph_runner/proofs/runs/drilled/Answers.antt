use Rattle.std.proofs.Common.{List, refl, subst, arith}
use Rattle.std.proofs.lemmas.Result.{err_from_is_err_and}
use Rattle.acyclic_audit.specs.Views.{graph}
use Rattle.graph_runner.specs.Formulas.{formula_outcome}
use Rattle.graph_model.specs.Graph.{Graph}
use Rattle.graph_model.specs.declared.plan.Strike.{Strike}
use Rattle.graph_model.specs.declared.record.Record.{Record}
use Rattle.graph_runner.specs.Running.LacksRoom.{before}
use Rattle.graph_runner.specs.Workers.{IsDue}
use Rattle.graph_runner.proofs.Drills.{drill_short, drill_untold, drill_whole}
use Rattle.graph_runner.proofs.Makes.{never_over}
use Rattle.graph_runner.proofs.Probes.{no_news, told_none, calls-no_news}
use Rattle.graph_runner.proofs.runs.drilled.Goals as goal

pub returns-in_err-graph : goal.returns-in_err-graph
returns-in_err-graph g c =
    let p = err_from_is_err_and c.from_residual.result c.from_residual.ensures.1 in
    let ps = c.args.probes.now.items in
    (no_news ps, told_none g.P.Probe.notes ps, rw (p.1, p.2, c.in_err-graph.ensures) (before refl (record { unrecorded = c.requires.records; untold = calls-no_news ps })))

pub returns-in_err-tasks : goal.returns-in_err-tasks
returns-in_err-tasks g c =
    let p = err_from_is_err_and c.from_residual-in_err-tasks.result c.from_residual-in_err-tasks.ensures.1 in
    let ps = c.args.probes.now.items in
    (no_news ps, told_none g.P.Probe.notes ps, rw (p.1, p.2) (before refl (record { unrecorded = c.requires.records; untold = calls-no_news ps })))

pub returns-in-Err : goal.returns-in-Err
returns-in-Err g c =
    let told = c.filed.ensures.comes in
    let comes = rw (c.in-Err.is, c.requires.lives) at told.2 in
    let due = subst (λ (Over : Graph → List Strike → List Record → Type 0). IsDue Over (graph c.in_ok-graph.graph) c.in_ok-graph.plan c.filed.new.records.items c.in-Err.why) (never_over c.args.terms.now.workers c.args.terms.now.pace c.requires.threads) c.in-Err.ensures.due in (
      told.0,
      told.1,
      rw c.run_ending.ensures
          (drill_short c.args.number (graph c.in_ok-graph.graph) (formula_outcome c.in_ok-graph.graph) c.in_ok-graph.plan c.in-Err.why c.filed.new.records.items told.0 c.in_ok-graph.ensures comes due),
    )

pub returns-in_err-text : goal.returns-in_err-text
returns-in_err-text g c =
    let p = err_from_is_err_and c.from_residual-in_err-text.result c.from_residual-in_err-text.ensures.1 in
    let told = c.filed.ensures.comes in
    let comes = rw c.in-Ok.is at told.2 in (
      told.0,
      told.1,
      rw (p.1, p.2)
          (drill_untold c.args.number (graph c.in_ok-graph.graph) (formula_outcome c.in_ok-graph.graph) c.in_ok-graph.plan c.args.terms.now.lives c.in-Ok.value c.filed.new.records.items told.0
          c.in_ok-graph.ensures comes),
    )

pub returns : goal.returns
returns g c =
    let told = c.filed.ensures.comes in
    let comes = rw c.in-Ok.is at told.2 in
    let says = rw c.as_slice.ensures at c.in_ok-text.ensures in (
      told.0,
      told.1,
      drill_whole c.args.number (graph c.in_ok-graph.graph) (formula_outcome c.in_ok-graph.graph) c.in_ok-graph.plan c.args.terms.now.lives c.in-Ok.value c.in_ok-tasks.tasks c.filed.new.records.items told.0
          c.in_ok-text.text (omega arith) c.in_ok-graph.ensures comes c.in_ok-tasks.ensures says,
    )
