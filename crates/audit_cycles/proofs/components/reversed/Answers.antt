use Rattle.std.proofs.Common.{◌≡◌, ◌∙◌, ◌<◌, ℕ, List, length, get_or, ap, sym, arith}
use Rattle.audit_checks.specs.Rows.{rows_of, row}
use Rattle.audit_checks.proofs.RowLemmas.{row_at, rows_long}
use Rattle.audit_cycles.proofs.Walking.{place_within, push_within}
use Rattle.audit_cycles.proofs.components.reversed.Goals as goal

pub push_at-requires : goal.push_at-requires
push_at-requires c =
    let here : c.loop-k.k < length c.args.places.now = omega arith in
    let r : c.deref-p-items.result.now ≡ row (rows_of c.args.places.now) c.loop-k.k = c.deref-p-items.ensures.value ∙ sym (row_at c.args.places.now c.loop-k.k c.index-places-k.result here c.index-places-k.is) in
    omega (
      arith,
      c.loop-p.invariant.long,
      ap (λ (es : List (ℕ × ℕ)). (get_or es c.loop-p.p-index (0, 0)).0) r,
      place_within (rows_of c.args.places.now) (length c.args.places.now) c.loop-k.k c.loop-p.p-index c.requires.inside (omega (arith, rows_long c.args.places.now)) (omega (arith, ap length r)),
    )

pub loop-p-preserved : goal.loop-p-preserved
loop-p-preserved c =
    let here : c.loop-k.k < length c.args.places.now = omega arith in
    let r : c.deref-p-items.result.now ≡ row (rows_of c.args.places.now) c.loop-k.k = c.deref-p-items.ensures.value ∙ sym (row_at c.args.places.now c.loop-k.k c.index-places-k.result here c.index-places-k.is) in
    push_within (length c.args.places.now) (get_or c.deref-p-items.result.now c.loop-p.p-index (0, 0)).0 c.loop-p.rows.items c.push_at.new.rows.items (c.loop-k.k, 0) c.loop-p.invariant here
    (omega (
      arith,
      ap (λ (es : List (ℕ × ℕ)). (get_or es c.loop-p.p-index (0, 0)).0) r,
      place_within (rows_of c.args.places.now) (length c.args.places.now) c.loop-k.k c.loop-p.p-index c.requires.inside (omega (arith, rows_long c.args.places.now)) (omega (arith, ap length r)),
    ))
    c.in_ok-push_at.ensures.ok
