use Rattle.std.proofs.Common.{◌≡◌, ◌∙◌, ◌<◌, length, sym, subst, arith}
use Rattle.audit_checks.specs.Rows.{rows_of, row, IsWithin}
use Rattle.audit_checks.proofs.RowLemmas.{row_at, within_at}
use Rattle.audit_cycles.proofs.cycles.never_rises.Goals as goal

pub highest-requires : goal.highest-requires
highest-requires c =
    let here : c.loop-i.i < length c.args.places.now = omega arith in
    let r : c.as_slice.result.now ≡ row (rows_of c.args.places.now) c.loop-i.i = c.as_slice.ensures.value ∙ sym (row_at c.args.places.now c.loop-i.i c.index-places-i.result here c.index-places-i.is) in
    subst (λ n. IsWithin n c.as_slice.result.now) (sym c.requires.long)
    (subst (IsWithin (length c.args.places.now)) (sym r) (within_at c.args.places.now (length c.args.places.now) c.loop-i.i here c.requires.inside))
