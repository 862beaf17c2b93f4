use Rattle.std.proofs.Common.{◌≡◌, ◌∙◌, ◌<◌, ◌+◌, ◌*◌, ℕ, List, length, get_or, ap, sym, arith}
use Rattle.std.specs.Prelude.{sum_by}
use Rattle.audit_checks.specs.Rows.{rows_of, row}
use Rattle.audit_checks.proofs.RowLemmas.{row_at, rows_long}
use Rattle.audit_cycles.specs.Searching.{unseen}
use Rattle.audit_cycles.specs.Components.{walk_left}
use Rattle.audit_cycles.proofs.Walking.{walk_popped, walk_pushed, walk_ordered, place_within, row_short, next_falls}
use Rattle.audit_cycles.proofs.components.Walk.climb.Goals as goal

pub bounds-places-task : goal.bounds-places-task
bounds-places-task c =
    let w = walk_popped (length c.loop-task.self.seen.items) c.loop-task.self.path.items c.pop.new.self.items c.loop-task.self.order.items (c.in-Some.task, c.in-Some.j) c.loop-task.invariant.0 c.in-Some.ensures.items in
    omega (arith, w.1, c.loop-task.invariant.1)

pub enter-requires-in-Some-get-clause-walks : goal.enter-requires-in-Some-get-clause-walks
enter-requires-in-Some-get-clause-walks c =
    let w = walk_popped (length c.loop-task.self.seen.items) c.loop-task.self.path.items c.pop.new.self.items c.loop-task.self.order.items (c.in-Some.task, c.in-Some.j) c.loop-task.invariant.0 c.in-Some.ensures.items in
    walk_pushed (length c.loop-task.self.seen.items) c.pop.new.self.items c.push.new.self.items c.loop-task.self.order.items (c.in-Some.task, c.in-Some.j + 1) w.0 w.1 c.in_ok-push-in-Some-get.ensures.items

pub enter-requires-in-Some-get-clause-task : goal.enter-requires-in-Some-get-clause-task
enter-requires-in-Some-get-clause-task c =
    let h = c.in-Some-get.ensures.lookup in
    let w = walk_popped (length c.loop-task.self.seen.items) c.loop-task.self.path.items c.pop.new.self.items c.loop-task.self.order.items (c.in-Some.task, c.in-Some.j) c.loop-task.invariant.0 c.in-Some.ensures.items in
    let there : c.in-Some.task < length c.args.places.now = omega (arith, w.1, c.loop-task.invariant.1) in
    let r : c.deref.result.now ≡ row (rows_of c.args.places.now) c.in-Some.task = c.deref.ensures.value ∙ sym (row_at c.args.places.now c.in-Some.task c.index-places-task.result there c.index-places-task.is) in
    omega (
      arith,
      ap (λ (e : ℕ × ℕ). e.0) (h.3.1 (0, 0)),
      ap (λ (es : List (ℕ × ℕ)). (get_or es c.in-Some.j (0, 0)).0) r,
      place_within (rows_of c.args.places.now) (length c.args.places.now) c.in-Some.task c.in-Some.j c.requires.inside (omega (arith, rows_long c.args.places.now)) (omega (arith, ap length r, h.3.0)),
      c.loop-task.invariant.1,
    )

pub loop-task-smaller-in-Continue-branch-3 : goal.loop-task-smaller-in-Continue-branch-3
loop-task-smaller-in-Continue-branch-3 c =
    let h = c.in-Some-get.ensures.lookup in
    let most = sum_by length (rows_of c.args.places.now) in
    let w = walk_popped (length c.loop-task.self.seen.items) c.loop-task.self.path.items c.pop.new.self.items c.loop-task.self.order.items (c.in-Some.task, c.in-Some.j) c.loop-task.invariant.0 c.in-Some.ensures.items in
    let there : c.in-Some.task < length c.args.places.now = omega (arith, w.1, c.loop-task.invariant.1) in
    let r : c.deref.result.now ≡ row (rows_of c.args.places.now) c.in-Some.task = c.deref.ensures.value ∙ sym (row_at c.args.places.now c.in-Some.task c.index-places-task.result there c.index-places-task.is) in
    next_falls most c.in-Some.task c.in-Some.j (unseen c.loop-task.self.seen.items * (most + 2)) (walk_left most c.enter-in-Some-get.new.self) c.loop-task.self.path.items c.pop.new.self.items c.push.new.self.items
    c.in-Some.ensures.items c.in_ok-push-in-Some-get.ensures.items
    (row_short (rows_of c.args.places.now) c.in-Some.task c.in-Some.j (omega (arith, rows_long c.args.places.now)) (omega (arith, ap length r, h.3.0)))
    (c.in_ok-enter-in-Some-get.ensures.falls most)

pub loop-task-preserved : goal.loop-task-preserved
loop-task-preserved c =
    let w = walk_popped (length c.loop-task.self.seen.items) c.loop-task.self.path.items c.pop.new.self.items c.loop-task.self.order.items (c.in-Some.task, c.in-Some.j) c.loop-task.invariant.0 c.in-Some.ensures.items in (
      walk_ordered (length c.loop-task.self.seen.items) c.pop.new.self.items c.loop-task.self.order.items c.push-in-None.new.self.items c.in-Some.task w.0 w.1 c.in_ok-push-in-None.ensures.items,
      c.loop-task.invariant.1,
    )
