use Rattle.std.proofs.Common.{◌++◌, ap, arith, sym, ◌∙◌}
use Rattle.atomic_table.specs.Seated.{TableId}
use Rattle.task_table.specs.Moments.{emptied}
use Rattle.task_table.specs.Passes.{Passing}
use Rattle.task_table.proofs.Dealing.{join_allowed, joined_pass}
use Rattle.task_table.proofs.table.TaskTable.take_in.Goals as goal

pub join_seat-requires : goal.join_seat-requires
join_seat-requires g c = let free = ap (λ (o : Passing). o.view.hands) c.left.view_is ∙ c.requires.hands in (
  ap (λ (o : Passing). o.table) c.into.view_is ∙ c.requires.table.0 ∙ sym c.words.ensures.table,
  ap (λ (o : Passing). o.table) c.left.view_is ∙ c.requires.table.1 ∙ sym c.words.ensures.table,
  c.left.invariant.0 ∙ ap emptied free,
  let a = c.words.ensures.wide.0 in let b = ap (λ (z : TableId). z.words) c.words.ensures.table in omega (arith, a, b),
  join_allowed g.C.Course.setting c.into.inside.seat.id c.into.inside.seat.me.0 c.left.inside.seat.id c.left.inside.seat.me.0 free,
)

pub invariant_of-into : goal.invariant_of-into
invariant_of-into g c = joined_pass g.C.Course.setting _ _ c.into.inside.seat.me.1 c.into.invariant c.left.invariant.1 (ap (λ (o : Passing). o.view.hands) c.left.view_is ∙ c.requires.hands) c.join_seat.new.seat.me c.glance.new.seat.me c.glance.result c.join_seat.ensures.2 c.glance.ensures.looked
    c.note_all.new.self c.append.new.list.items (c.note_all.ensures.records ∙ ap (λ rs. c.into.inside.store.records ++ rs) c.as_slice.ensures) (c.append.ensures ∙ ap (λ rs. c.into.inside.root_replaced.items ++ rs) c.as_slice-2.ensures.value) _ _ _
