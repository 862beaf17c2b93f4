use Rattle.command_words.specs.Meaning.{asked}
use Rattle.graph_runner.proofs.Asking.{within}
use Rattle.graph_runner.proofs.Makes.{on_paths, on_terms, without_run}
use Rattle.graph_runner.proofs.Probes.{no_news, told_none, calls-no_news}
use Rattle.graph_runner.proofs.command.served.Goals as goal

pub ran-requires-clause-terms : goal.ran-requires-clause-terms
ran-requires-clause-terms g c = λ κs lives. within c.requires.words.0 (asked c.args.command.now) c.in-Some.terms c.requires.words.1 c.in-Some.ensures

pub returns-in_default : goal.returns-in_default
returns-in_default g c =
    let ps = c.args.probes.now.items in (
      no_news ps,
      told_none g.P.Probe.notes ps,
      without_run (asked c.args.command.now) _ c.args.records.now.items (no_news ps) c.shown.result c.in_default.ensures (record { unrecorded = c.requires.records; untold = calls-no_news ps }) c.shown.ensures,
    )

pub returns-in-Paths : goal.returns-in-Paths
returns-in-Paths g c =
    let told = c.solved.ensures in
    let has = rw c.in-Paths.is at c.in-Some.ensures in
    (told.0, told.1, rw c.in-Paths.is (on_paths c.in-Paths.workers c.in-Paths.lives c.in-Some.terms _ c.solved.new.records.items told.0 c.solved.result has told.2))

pub returns-in_default-command : goal.returns-in_default-command
returns-in_default-command g c =
    let told = c.ran.ensures in (
      told.0,
      told.1,
      on_terms c.args.command.now c.in-Some.terms _ c.ran.new.records.items told.0 c.ran.result c.in-Some.ensures c.in_default-command.not-Drill c.in_default-command.not-Paths told.2,
    )
