use Rattle.std.proofs.Common.{◌∙◌}
use Rattle.compute_notify.specs.Items.{explored_after}
use Rattle.compute_notify.proofs.LastItems.{kept_last, last_at}
use Rattle.compute_notify.proofs.task.keep_explored.Goals as goal

pub returns-then-keep_explored-clause-items : goal.returns-then-keep_explored-clause-items
returns-then-keep_explored-clause-items c = let items = c.args.items.now in let long = c.len-last.ensures ∙ items.ok.0 in
    let last = c.index_mut.ensures.value ∙ last_at c.len-last.result items.items c.index_mut.result.now long c.requires.some ∙ c.requires.last in
    kept_last c.len-last.result items.items (explored_after c.args.explore.now c.args.lives c.args.told) c.keep_explored.new.self long c.requires.some (c.keep_explored.ensures.kept c.if-keep_explored.true c.args.explore.now c.args.lives last)
