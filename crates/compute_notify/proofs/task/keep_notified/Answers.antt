use Rattle.std.proofs.Common.{◌≡◌, ◌≢◌, subst, sym, ◌∙◌}
use Rattle.compute_notify.specs.Items.{notified_after}
use Rattle.compute_notify.specs.declared.item.Item.TheVariants as item
use Rattle.compute_notify.specs.declared.notify.Notify.{Notify}
use Rattle.compute_notify.proofs.LastItems.{kept_last, last_at}
use Rattle.compute_notify.proofs.task.keep_notified.Goals as goal

by_item : {n m : Notify} → item.Notify n ≡ item.Notify m → n ≡ m
by_item is = cc

pub keep_notified-requires : goal.keep_notified-requires
keep_notified-requires c = let items = c.args.items.now in let long = c.len-last.ensures ∙ items.ok.0 in
    let last = c.index_mut.ensures.value ∙ last_at c.len-last.result items.items c.index_mut.result.now long c.requires.some ∙ c.requires.last in
    record { some = λ n is. let same : c.args.notify.now ≡ n = by_item (sym last ∙ is) in subst (λ (m : Notify). m.ports ≢ 0) same c.requires.left }

pub returns-then-keep_notified-clause-items : goal.returns-then-keep_notified-clause-items
returns-then-keep_notified-clause-items c = let items = c.args.items.now in let long = c.len-last.ensures ∙ items.ok.0 in
    let last = c.index_mut.ensures.value ∙ last_at c.len-last.result items.items c.index_mut.result.now long c.requires.some ∙ c.requires.last in
    kept_last c.len-last.result items.items (notified_after c.args.notify.now c.args.lives c.args.told) c.keep_notified.new.self long c.requires.some (c.keep_notified.ensures.kept c.if-keep_notified.true c.args.notify.now c.args.lives last)
