use Rattle.std.proofs.Common.{◌≡◌, ◌∙◌, length, sym, subst, arith}
use Rattle.std.proofs.lemmas.List.{length-set}
use Rattle.audit_checks.specs.Rows.{rows_of, row, IsWithin, Names}
use Rattle.audit_checks.proofs.RowLemmas.{row_at, within_at}
use Rattle.audit_cycles.proofs.Walking.{searching_popped, searching_seen}
use Rattle.audit_cycles.proofs.components.spread.Goals as goal

pub index_mut-requires : goal.index_mut-requires
index_mut-requires c =
    let w = searching_popped (length c.args.succs.now) c.loop-k.search.seen.items c.loop-k.search.left.items c.pop.new.self.items c.in-Some.k c.loop-k.invariant.0 c.in-Some.ensures.items in
    omega (arith, w.1, c.loop-k.invariant.1)

pub bounds-succs-k : goal.bounds-succs-k
bounds-succs-k c =
    (searching_popped (length c.args.succs.now) c.loop-k.search.seen.items c.loop-k.search.left.items c.pop.new.self.items c.in-Some.k c.loop-k.invariant.0 c.in-Some.ensures.items).1

pub see_all-requires : goal.see_all-requires
see_all-requires c =
    let w = searching_popped (length c.args.succs.now) c.loop-k.search.seen.items c.loop-k.search.left.items c.pop.new.self.items c.in-Some.k c.loop-k.invariant.0 c.in-Some.ensures.items in
    let r : c.as_slice.result.now ≡ row (rows_of c.args.succs.now) c.in-Some.k = c.as_slice.ensures.value ∙ sym (row_at c.args.succs.now c.in-Some.k c.index-succs-k.result w.1 c.index-succs-k.is) in
    subst (λ m. IsWithin m c.as_slice.result.now) (sym c.loop-k.invariant.0.long)
    (subst (IsWithin (length c.args.succs.now)) (sym r) (within_at c.args.succs.now (length c.args.succs.now) c.in-Some.k w.1 c.requires.rows.within))

pub loop-k-preserved : goal.loop-k-preserved
loop-k-preserved c =
    let w = searching_popped (length c.args.succs.now) c.loop-k.search.seen.items c.loop-k.search.left.items c.pop.new.self.items c.in-Some.k c.loop-k.invariant.0 c.in-Some.ensures.items in (
      searching_seen (length c.args.succs.now) (Names c.as_slice.result.now) c.loop-k.search.seen.items c.pop.new.self.items c.see_all.new.self.seen.items c.see_all.new.self.left.items w.0 c.in_ok-see_all.ensures.sees,
      length-set c.loop-k.numbers.items c.in-Some.k c.args.number ∙ c.loop-k.invariant.1,
    )
