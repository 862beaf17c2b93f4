use Rattle.std.proofs.Common.{◌≡◌, List, subst, sym}
use Rattle.std.proofs.lemmas.Result.{err_from_is_err_and}
use Rattle.graph_model.specs.Graph.{Graph}
use Rattle.graph_model.specs.declared.plan.Strike.{Strike}
use Rattle.graph_model.specs.declared.record.Record.{Record}
use Rattle.apsp_graph.specs.Views.{graph}
use Rattle.worker_pool.specs.declared.end.Why.TheVariants as why
use Rattle.graph_runner.specs.Notes.{Told}
use Rattle.graph_runner.specs.Workers.{IsDue}
use Rattle.graph_runner.proofs.Kernels.{alike, as_made, can_run}
use Rattle.graph_runner.proofs.Outcomes.{unrun}
use Rattle.graph_runner.proofs.Makes.{never_over}
use Rattle.graph_runner.proofs.Probes.{no_news, told_none, calls-no_news}
use Rattle.graph_runner.proofs.Solves.{all_cells, solve_fails, solve_short, solved, unsolved}
use Rattle.graph_runner.proofs.paths.solved.Goals as goal

pub returns-in_err-graph : goal.returns-in_err-graph
returns-in_err-graph g c =
    let p = err_from_is_err_and c.from_residual.result c.from_residual.ensures.1 in
    let ps = c.args.probes.now.items in (
      no_news ps,
      told_none g.P.Probe.notes ps,
      rw (p.1, p.2) (solve_fails _ c.args.terms.now.lives c.args.records.now.items (no_news ps) c.in_err-graph.field-0.0 c.in_err-graph.ensures (record { unrecorded = c.requires.records; untold = calls-no_news ps })),
    )

pub returns-in_err-kernels : goal.returns-in_err-kernels
returns-in_err-kernels g c =
    let p = err_from_is_err_and c.from_residual-in_err-kernels.result c.from_residual-in_err-kernels.ensures.1 in
    let ps = c.args.probes.now.items in
    let same : c.kernels_of.new.probes.items ≡ ps = c.in_err-kernels.ensures.refused in (
      no_news ps,
      subst (λ qs. Told g.P.Probe.notes ps qs (no_news ps)) (sym same) (told_none g.P.Probe.notes ps),
      rw (p.1, p.2) (solve_short _ c.in_ok-graph.graph c.in_ok-graph.plan c.args.terms.now.lives why.OutOfMemory c.args.records.now.items (no_news ps) c.in_ok-graph.ensures (unrun _ _ _ _ _ _ c.requires.records (calls-no_news ps)) tt),
    )

pub run_by_workers-requires-clause-alike : goal.run_by_workers-requires-clause-alike
run_by_workers-requires-clause-alike g c = λ κs within. alike _ _ _ _ _ _ c.requires.terms.workers.0 c.in_ok-kernels.ensures.kernels

pub run_by_workers-requires-clause-can : goal.run_by_workers-requires-clause-can
run_by_workers-requires-clause-can g c = λ κs within. can_run _ _ _ _ _ _ _ c.requires.terms.workers.0 c.in_ok-kernels.ensures.kernels c.matrix_runs.ensures

pub returns-in-Err : goal.returns-in-Err
returns-in-Err g c =
    let told = c.run_by_workers.ensures.comes c.args.probes.now.items c.in_ok-kernels.ensures.front in
    let made = as_made _ _ _ _ _ _ c.requires.terms.workers.0 c.in_ok-kernels.ensures.kernels _ _ _ _ _ _ told.2 in
    let comes = rw c.in-Err.is at made in
    let due = subst (λ (Over : Graph → List Strike → List Record → Type 0). IsDue Over (graph c.in_ok-graph.graph) c.in_ok-graph.plan c.run_by_workers.new.records.items c.in-Err.why) (never_over c.args.terms.now.workers c.args.terms.now.pace c.requires.threads) c.in-Err.ensures.due in (
      told.0,
      told.1,
      rw c.run_ending.ensures (solve_short _ c.in_ok-graph.graph c.in_ok-graph.plan c.args.terms.now.lives c.in-Err.why c.run_by_workers.new.records.items told.0 c.in_ok-graph.ensures comes due),
    )

pub returns-in_err-text : goal.returns-in_err-text
returns-in_err-text g c =
    let p = err_from_is_err_and c.from_residual-in_err-text.result c.from_residual-in_err-text.ensures.1 in
    let told = c.run_by_workers.ensures.comes c.args.probes.now.items c.in_ok-kernels.ensures.front in
    let made = as_made _ _ _ _ _ _ c.requires.terms.workers.0 c.in_ok-kernels.ensures.kernels _ _ _ _ _ _ told.2 in
    let comes = rw c.in-Ok.is at made in (
      told.0,
      told.1,
      rw (p.1, p.2) (unsolved _ c.in_ok-graph.graph c.in_ok-graph.plan c.args.terms.now.lives c.in-Ok.value c.run_by_workers.new.records.items told.0 c.in_ok-graph.ensures comes),
    )

pub returns : goal.returns
returns g c =
    let told = c.run_by_workers.ensures.comes c.args.probes.now.items c.in_ok-kernels.ensures.front in
    let made = as_made _ _ _ _ _ _ c.requires.terms.workers.0 c.in_ok-kernels.ensures.kernels _ _ _ _ _ _ told.2 in
    let comes = rw c.in-Ok.is at made in
    let says = rw c.as_slice.ensures at c.in_ok-text.ensures in (
      told.0,
      told.1,
      solved _ c.in_ok-graph.graph c.in_ok-graph.plan c.args.terms.now.lives c.in-Ok.value c.run_by_workers.new.records.items told.0 c.in_ok-text.text c.in_ok-graph.ensures comes says,
    )

pub matrix_text-requires : goal.matrix_text-requires
matrix_text-requires g c =
    let told = c.run_by_workers.ensures.comes c.args.probes.now.items c.in_ok-kernels.ensures.front in
    let made = as_made _ _ _ _ _ _ c.requires.terms.workers.0 c.in_ok-kernels.ensures.kernels _ _ _ _ _ _ told.2 in
    let comes = rw c.in-Ok.is at made in
    rw c.as_slice.ensures (all_cells c.in_ok-graph.graph c.in_ok-graph.plan c.args.terms.now.lives c.in-Ok.value c.run_by_workers.new.records.items told.0 comes)
