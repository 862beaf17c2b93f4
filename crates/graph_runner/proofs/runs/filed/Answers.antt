use Rattle.std.proofs.Common.{◌≡◌, subst, sym}
use Rattle.graph_runner.specs.Notes.{Told}
use Rattle.graph_runner.proofs.Kernels.{alike, as_made, can_run}
use Rattle.graph_runner.proofs.Outcomes.{unrun}
use Rattle.graph_runner.proofs.Probes.{calls-no_news, no_news, told_none}
use Rattle.graph_runner.proofs.runs.filed.Goals as goal

pub run_by_workers-requires-clause-alike : goal.run_by_workers-requires-clause-alike
run_by_workers-requires-clause-alike g c = λ κs within. alike _ _ _ _ _ _ c.requires.terms.workers.0 c.in-Ok.ensures.kernels

pub run_by_workers-requires-clause-can : goal.run_by_workers-requires-clause-can
run_by_workers-requires-clause-can g c = λ κs within. can_run _ _ _ _ _ _ _ c.requires.terms.workers.0 c.in-Ok.ensures.kernels c.file_runs.ensures

pub returns-in-Ok-clause-comes : goal.returns-in-Ok-clause-comes
returns-in-Ok-clause-comes g c =
    let told = c.run_by_workers.ensures.comes c.args.probes.now.items c.in-Ok.ensures.front in
    (told.0, told.1, as_made _ _ _ _ _ _ c.requires.terms.workers.0 c.in-Ok.ensures.kernels _ _ _ _ _ _ told.2)

pub returns-in-Err-clause-comes : goal.returns-in-Err-clause-comes
returns-in-Err-clause-comes g c =
    let ps = c.args.probes.now.items in
    let same : c.kernels_of-kernels.new.probes.items ≡ ps = c.in-Err.ensures.refused in
    (no_news ps, subst (λ qs. Told g.P.Probe.notes ps qs (no_news ps)) (sym same) (told_none g.P.Probe.notes ps), unrun _ _ _ _ _ _ c.requires.records (calls-no_news ps))
