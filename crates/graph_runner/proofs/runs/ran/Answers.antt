use Rattle.std.proofs.lemmas.Result.{err_from_is_err_and}
use Rattle.graph_runner.proofs.Files.{file_fails, file_short, unreported, whole}
use Rattle.graph_runner.proofs.Probes.{no_news, told_none, calls-no_news}
use Rattle.graph_runner.proofs.runs.ran.Goals as goal

pub returns-in_err-graph : goal.returns-in_err-graph
returns-in_err-graph g c =
    let p = err_from_is_err_and c.from_residual.result c.from_residual.ensures.1 in
    let ps = c.args.probes.now.items in (
      no_news ps,
      told_none g.P.Probe.notes ps,
      rw (p.1, p.2) (file_fails _ _ c.args.terms.now.lives c.args.terms.now.detail c.args.records.now.items (no_news ps) c.in_err-graph.field-0.0 c.in_err-graph.ensures
          (record { unrecorded = c.requires.records; untold = calls-no_news ps })),
    )

pub returns-in-Err : goal.returns-in-Err
returns-in-Err g c =
    let told = c.filed.ensures.comes in
    let comes = rw c.in-Err.is at told.2 in (
      told.0,
      told.1,
      rw c.run_ending.ensures
          (file_short _ c.in_ok-graph.graph c.in_ok-graph.plan _ c.args.terms.now.lives c.args.terms.now.detail c.in-Err.why c.filed.new.records.items told.0 c.in_ok-graph.ensures
          comes c.in-Err.ensures.due),
    )

pub returns-in_err-text : goal.returns-in_err-text
returns-in_err-text g c =
    let p = err_from_is_err_and c.from_residual-in_err-text.result c.from_residual-in_err-text.ensures.1 in
    let told = c.filed.ensures.comes in
    let comes = rw c.in-Ok.is at told.2 in (
      told.0,
      told.1,
      rw (p.1, p.2) (unreported _ c.in_ok-graph.graph c.in_ok-graph.plan c.args.terms.now.lives c.in-Ok.value c.filed.new.records.items told.0 c.in_ok-graph.ensures comes),
    )

pub returns : goal.returns
returns g c =
    let told = c.filed.ensures.comes in
    let comes = rw c.in-Ok.is at told.2 in
    let says = rw (c.as_slice.ensures, c.as_slice-2.ensures.value) at c.in_ok-text.ensures in (
      told.0,
      told.1,
      whole _ c.in_ok-graph.graph c.in_ok-graph.plan c.args.terms.now.lives c.in-Ok.value c.args.terms.now.detail c.filed.new.records.items told.0 c.in_ok-text.text c.in_ok-graph.ensures comes
          says,
    )
