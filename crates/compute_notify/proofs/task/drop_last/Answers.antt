use Rattle.std.proofs.Common.{◌∙◌}
use Rattle.compute_notify.proofs.LastItems.{take_rest}
use Rattle.compute_notify.proofs.task.drop_last.Goals as goal

pub returns-clause-items : goal.returns-clause-items
returns-clause-items c = let items = c.args.items.now in c.pop.ensures.rest ∙ take_rest items.len items.items items.ok.0
