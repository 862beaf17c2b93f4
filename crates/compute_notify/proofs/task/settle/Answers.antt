use Rattle.std.proofs.Common.{◌++◌, ap, ◌∙◌}
use Rattle.compute_notify.specs.Tasks.{after_items}
use Rattle.compute_notify.proofs.LastItems.{take_rest}
use Rattle.compute_notify.proofs.task.settle.Goals as goal

pub returns-clause-items : goal.returns-clause-items
returns-clause-items c = let items = c.args.items.now in
    c.put_after.ensures ∙ ap (λ xs. xs ++ after_items c.args.after.now) (c.pop.ensures.rest ∙ take_rest items.len items.items items.ok.0)
