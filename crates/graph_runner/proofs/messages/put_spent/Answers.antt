use Rattle.std.proofs.Common.{codes}
use Rattle.run_records.specs.Text.{cause_text}
use Rattle.graph_runner.specs.Messages.{task_text}
use Rattle.graph_runner.proofs.Pieces.{two_pieces}
use Rattle.graph_runner.proofs.messages.put_spent.Goals as goal

pub returns : goal.returns
returns c =
    let first = rw c.from.ensures at c.in_ok-put_task_fault.ensures in
    two_pieces c.put_cause.result _ _ _ (task_text c.args.key.0 (codes " has no life after ") c.args.life (codes ": ")) (cause_text c.args.cause.now) first c.put_cause.ensures
