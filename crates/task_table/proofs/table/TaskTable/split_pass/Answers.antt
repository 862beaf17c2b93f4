use Rattle.std.proofs.Common.{◌<◌, ap, arith, sym, subst, ◌∙◌}
use Rattle.atomic_table.specs.Seated.{TableId}
use Rattle.task_table.specs.Passes.{Passing}
use Rattle.task_table.proofs.Dealing.{less_pass, new_pass, split_allowed}
use Rattle.task_table.proofs.table.TaskTable.split_pass.Goals as goal

pub split_seat-seat-requires : goal.split_seat-seat-requires
split_seat-seat-requires g c = (
  ap (λ (o : Passing). o.table) c.pass.view_is ∙ c.requires.table ∙ sym c.words.ensures.table,
  let a = c.words.ensures.wide.0 in let b = ap (λ (z : TableId). z.words) c.words.ensures.table in omega (arith, a, b),
  split_allowed g.C.Course.setting c.pass.inside.seat.id c.pass.inside.seat.me.0 (subst (λ (o : Passing). 1 < o.view.parts) (sym c.pass.view_is) c.requires.parts),
)

pub invariant_of-pass : goal.invariant_of-pass
invariant_of-pass g c = less_pass g.C.Course.setting _ c.pass.inside.seat.me.1 c.pass.invariant (subst (λ (o : Passing). 1 < o.view.parts) (sym c.pass.view_is) c.requires.parts) c.split_seat-seat.new.seat.me _ _ _ c.split_seat-seat.ensures.2

pub invariant_of-other : goal.invariant_of-other
invariant_of-other g c = new_pass g.C.Course.setting _ c.pass.inside.seat.me.1 c.pass.invariant (subst (λ (o : Passing). 1 < o.view.parts) (sym c.pass.view_is) c.requires.parts) c.split_seat-seat.result.me _ _ _ c.split_seat-seat.ensures.4 c.new.result c.new-2.result.items c.new.ensures c.new-2.ensures.items
