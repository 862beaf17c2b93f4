use Rattle.std.proofs.Common.{◌≡◌, ◌∙◌, ◌<◌, length, sym, subst, arith}
use Rattle.audit_checks.specs.Rows.{rows_of, row, IsWithin}
use Rattle.audit_checks.proofs.RowLemmas.{row_at, rows_long, within_at}
use Rattle.audit_cycles.proofs.Searching.{begin, popped_inside, step, finished}
use Rattle.audit_cycles.proofs.search.ancestors.Goals as goal

pub loop-k-init : goal.loop-k-init
loop-k-init c =
    begin (rows_of c.args.places.now) c.args.from (length c.args.places.now) c.see.new.self.seen.items c.see.new.self.left.items (rows_long c.args.places.now) c.in_ok-see.ensures.here
    (rw (← (c.in_ok-vec.ensures.items_if_clones_equal (λ y e. e)), ← c.new.ensures.items) c.in_ok-see.ensures.sees)

pub bounds-places-k : goal.bounds-places-k
bounds-places-k c = omega (
  arith,
  rows_long c.args.places.now,
  popped_inside (rows_of c.args.places.now) c.args.from c.loop-k.search.seen.items c.loop-k.search.left.items c.pop.new.self.items c.in-Some.k c.loop-k.invariant c.in-Some.ensures.items,
)

pub see_all-requires : goal.see_all-requires
see_all-requires c =
    let inside = popped_inside (rows_of c.args.places.now) c.args.from c.loop-k.search.seen.items c.loop-k.search.left.items c.pop.new.self.items c.in-Some.k c.loop-k.invariant c.in-Some.ensures.items in
    let there : c.in-Some.k < length c.args.places.now = omega (arith, rows_long c.args.places.now, inside) in
    let r : c.as_slice.result.now ≡ row (rows_of c.args.places.now) c.in-Some.k = c.as_slice.ensures.value ∙ sym (row_at c.args.places.now c.in-Some.k c.index-places-k.result there c.index-places-k.is) in
    let n : length c.args.places.now ≡ length c.loop-k.search.seen.items = omega (arith, rows_long c.args.places.now, c.loop-k.invariant.long) in
    subst (λ m. IsWithin m c.as_slice.result.now) n (subst (IsWithin (length c.args.places.now)) (sym r) (within_at c.args.places.now (length c.args.places.now) c.in-Some.k there c.requires.inside))

pub loop-k-preserved : goal.loop-k-preserved
loop-k-preserved c =
    let inside = popped_inside (rows_of c.args.places.now) c.args.from c.loop-k.search.seen.items c.loop-k.search.left.items c.pop.new.self.items c.in-Some.k c.loop-k.invariant c.in-Some.ensures.items in
    let there : c.in-Some.k < length c.args.places.now = omega (arith, rows_long c.args.places.now, inside) in
    let r : c.as_slice.result.now ≡ row (rows_of c.args.places.now) c.in-Some.k = c.as_slice.ensures.value ∙ sym (row_at c.args.places.now c.in-Some.k c.index-places-k.result there c.index-places-k.is) in
    step (rows_of c.args.places.now) c.args.from c.loop-k.search.seen.items c.loop-k.search.left.items c.pop.new.self.items c.see_all.new.self.seen.items c.see_all.new.self.left.items c.in-Some.k
    c.as_slice.result.now c.loop-k.invariant c.in-Some.ensures.items r c.in_ok-see_all.ensures.all c.in_ok-see_all.ensures.sees

pub returns-clause-complete : goal.returns-clause-complete
returns-clause-complete c =
    finished (rows_of c.args.places.now) c.args.from c.loop-k.search.seen.items c.loop-k.search.left.items c.loop-k.invariant (omega (arith, c.in_default.ensures.cases.0))
