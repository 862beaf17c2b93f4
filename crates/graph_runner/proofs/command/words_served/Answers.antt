use Rattle.std.proofs.Common.{◌∙◌, Err, refl, ap}
use Rattle.std.proofs.lemmas.Result.{err_from_is_err_and}
use Rattle.command_words.specs.Meaning.{asked}
use Rattle.graph_runner.specs.Commands.{misused, refused, served}
use Rattle.graph_runner.proofs.Probes.{no_news, told_none, calls-no_news}
use Rattle.graph_runner.proofs.command.words_served.Goals as goal

pub returns-in_err-command : goal.returns-in_err-command
returns-in_err-command g c =
    let p = err_from_is_err_and c.from_residual.result c.from_residual.ensures.1 in
    let ps = c.args.probes.now.items in
    (no_news ps, told_none g.P.Probe.notes ps, refused (record { left = refl; faults = refl }) (record { unrecorded = c.requires.records; untold = calls-no_news ps }) (p.1 ∙ ap Err p.2))

pub returns-in-Some : goal.returns-in-Some
returns-in-Some g c =
    let told = c.served.ensures in
    let stands = rw c.in-Some.is at c.in_ok-command.ensures in
    (told.0, told.1, served (asked c.in-Some.command) stands told.2)

pub returns-in-None : goal.returns-in-None
returns-in-None g c =
    let ps = c.args.probes.now.items in
    let none = rw c.in-None.is at c.in_ok-command.ensures in
    (no_news ps, told_none g.P.Probe.notes ps, misused none (record { unrecorded = c.requires.records; untold = calls-no_news ps }) (record { unread = record { left = refl; faults = refl }; usage = refl }))
