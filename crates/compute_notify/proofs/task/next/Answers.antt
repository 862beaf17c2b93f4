use Rattle.std.proofs.Common.{List, length, ◌<◌, ap, refl, subst, sym, ◌∙◌}
use Rattle.compute_notify.proofs.LastItems.{rest_shorter, some_items}
use Rattle.compute_notify.proofs.Popping.{found_next, may_last, may_rest, none_popped, one_popped}
use Rattle.compute_notify.specs.Items.{is_over}
use Rattle.compute_notify.specs.Tasks.{MayBeOver}
use Rattle.compute_notify.specs.declared.item.Item.{Item}
use Rattle.compute_notify.proofs.task.next.Goals as goal

pub loop-items-init : goal.loop-items-init
loop-items-init g c = (refl, c.requires, none_popped _ _ _)

pub is_over-requires-after_bounds : goal.is_over-requires-after_bounds
is_over-requires-after_bounds g c κs within = let t = g.G.TaskGraph.graph c.args.terms.now.graph.now in let now = c.loop-items.items.items in
    let some = some_items c.loop-items.items.len now c.is_empty.result c.loop-items.items.ok.0 c.is_empty.ensures c.loop-items-test.true in
    subst (MayBeOver t) (sym c.last.ensures) (may_last t c.args.terms.now.plan.now now some c.loop-items.invariant.1)

pub returns-then-not-is_over-clause-next : goal.returns-then-not-is_over-clause-next
returns-then-not-is_over-clause-next g c = let t = g.G.TaskGraph.graph c.args.terms.now.graph.now in let p = c.args.terms.now.plan.now in let now = c.loop-items.items.items in
    let some = some_items c.loop-items.items.len now c.is_empty.result c.loop-items.items.ok.0 c.is_empty.ensures c.loop-items-test.true in
    found_next t p c.args.items.now.items now c.loop-items.invariant.2 some (λ outcome r is. sym c.if-not-is_over.true ∙ c.is_over.ensures outcome r is ∙ ap (is_over r p) c.last.ensures)

pub loop-items-preserved : goal.loop-items-preserved
loop-items-preserved g c = let t = g.G.TaskGraph.graph c.args.terms.now.graph.now in let p = c.args.terms.now.plan.now in let now = c.loop-items.items.items in
    let some = some_items c.loop-items.items.len now c.is_empty.result c.loop-items.items.ok.0 c.is_empty.ensures c.loop-items-test.true in
    let rest = c.drop_last.ensures.items in (
      c.drop_last.ensures.capacity ∙ c.loop-items.invariant.0,
      may_rest t p now c.drop_last.new.items.items some rest c.loop-items.invariant.1,
      one_popped t p c.args.items.now.items now c.loop-items.invariant.2 some c.drop_last.new.items.items rest (λ outcome r is. sym c.if-not-is_over.false ∙ c.is_over.ensures outcome r is ∙ ap (is_over r p) c.last.ensures),
    )

pub loop-items-smaller : goal.loop-items-smaller
loop-items-smaller g c = let now = c.loop-items.items.items in
    let some = some_items c.loop-items.items.len now c.is_empty.result c.loop-items.items.ok.0 c.is_empty.ensures c.loop-items-test.true in
    subst (λ (zs : List Item). length zs < length now) (sym c.drop_last.ensures.items) (rest_shorter now some)
