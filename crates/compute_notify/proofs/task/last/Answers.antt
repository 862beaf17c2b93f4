use Rattle.std.proofs.Common.{◌∙◌}
use Rattle.compute_notify.proofs.LastItems.{last_at}
use Rattle.compute_notify.proofs.task.last.Goals as goal

pub returns : goal.returns
returns c = let items = c.args.items.now in c.index.ensures ∙ last_at c.len.result items.items c.index.result.now (c.len.ensures ∙ items.ok.0) c.requires
