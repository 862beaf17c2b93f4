use Rattle.std.proofs.Common.{◌≡◌, ◌∙◌, ℕ, List, false, length, get_or, ap, sym, subst, arith}
use Rattle.std.proofs.lemmas.List.{get_or_default}
use Rattle.audit_checks.specs.Rows.{rows_of, row, Names}
use Rattle.audit_checks.proofs.RowLemmas.{row_at, rows_long}
use Rattle.audit_cycles.specs.Ancestors.{Reaches}
use Rattle.audit_cycles.proofs.Searching.{named_at, place_of}
use Rattle.audit_cycles.proofs.Walking.{place_within}
use Rattle.audit_cycles.proofs.cycles.is_on_cycle.Goals as goal

pub ancestors-requires-clause-from : goal.ancestors-requires-clause-from
ancestors-requires-clause-from c =
    let r : c.deref-p-items.result.now ≡ row (rows_of c.args.places.now) c.args.k = c.deref-p-items.ensures.value ∙ sym (row_at c.args.places.now c.args.k c.index-places-k.result c.requires.task c.index-places-k.is) in
    omega (
      arith,
      ap (λ (es : List (ℕ × ℕ)). (get_or es c.loop-p.p-index (0, 0)).0) r,
      place_within (rows_of c.args.places.now) (length c.args.places.now) c.args.k c.loop-p.p-index c.requires.inside (omega (arith, c.requires.task, rows_long c.args.places.now)) (omega (arith, ap length r)),
    )

pub returns-then-index-clause-yes : goal.returns-then-index-clause-yes
returns-then-index-clause-yes c = λ _.
    let r : c.deref-p-items.result.now ≡ row (rows_of c.args.places.now) c.args.k = c.deref-p-items.ensures.value ∙ sym (row_at c.args.places.now c.args.k c.index-places-k.result c.requires.task c.index-places-k.is) in
    let p = (get_or c.deref-p-items.result.now c.loop-p.p-index (0, 0)).0 in
    record {
      by = p;
      names = subst (λ es. Names es p) r (named_at c.deref-p-items.result.now c.loop-p.p-index (omega arith));
      back = c.in_ok-seen.ensures.sound c.args.k
          (get_or_default c.in_ok-seen.seen.items c.args.k false c.index.result.now (omega (arith, c.in_ok-seen.ensures.long, c.requires.task)) ∙ (sym c.index.ensures ∙ c.if-index.true));
    }

pub returns-clause-no : goal.returns-clause-no
returns-clause-no c = λ _ on.
    let r : c.deref-p-items.result.now ≡ row (rows_of c.args.places.now) c.args.k = c.deref-p-items.ensures.value ∙ sym (row_at c.args.places.now c.args.k c.index-places-k.result c.requires.task c.index-places-k.is) in
    let at = place_of c.deref-p-items.result.now on.by (subst (λ es. Names es on.by) (sym r) on.names) in
    c.loop-p.invariant at.0 (omega (arith, at.1)) (subst (λ m. Reaches (rows_of c.args.places.now) m c.args.k) (sym at.2) on.back)
