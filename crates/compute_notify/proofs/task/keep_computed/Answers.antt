use Rattle.std.proofs.Common.{◌∙◌}
use Rattle.compute_notify.specs.Items.{computed_after}
use Rattle.compute_notify.proofs.LastItems.{kept_last, last_at}
use Rattle.compute_notify.proofs.task.keep_computed.Goals as goal

pub returns-then-keep_computed-clause-items : goal.returns-then-keep_computed-clause-items
returns-then-keep_computed-clause-items c = let items = c.args.items.now in let long = c.len-last.ensures ∙ items.ok.0 in
    let last = c.index_mut.ensures.value ∙ last_at c.len-last.result items.items c.index_mut.result.now long c.requires.some ∙ c.requires.last in
    kept_last c.len-last.result items.items (computed_after c.args.compute.now c.args.lives c.args.told) c.keep_computed.new.self long c.requires.some (c.keep_computed.ensures.kept c.if-keep_computed.true c.args.compute.now c.args.lives last)
