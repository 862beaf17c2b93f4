use Rattle.command_words.specs.Meaning.{asked}
use Rattle.graph_runner.specs.Commands.{shown}
use Rattle.graph_runner.proofs.command.words_shown.Goals as goal

pub returns-in-Some : goal.returns-in-Some
returns-in-Some g c = let stands = rw c.in-Some.is at c.in_ok-command.ensures in shown (asked c.in-Some.command) stands c.shown.ensures
