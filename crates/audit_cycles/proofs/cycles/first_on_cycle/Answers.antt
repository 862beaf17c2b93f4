use Rattle.std.proofs.Common.{◌≡◌, ◌∙◌, ◌<◌, ◌≤◌, ℕ, length, get_or, ap, sym, subst, arith}
use Rattle.std.proofs.lemmas.List.{get_or_default}
use Rattle.audit_checks.specs.Rows.{rows_of, row, IsWithin, Names}
use Rattle.audit_checks.proofs.RowLemmas.{row_at, within_at}
use Rattle.audit_cycles.specs.Components.{NeverRises}
use Rattle.audit_cycles.proofs.CycleLaws.{none_more, cleared}
use Rattle.audit_cycles.proofs.cycles.first_on_cycle.Goals as goal

pub highest-requires : goal.highest-requires
highest-requires c =
    let here : c.loop-k.k < length c.args.places.now = omega arith in
    let r : c.as_slice-then-helpful-2.result.now ≡ row (rows_of c.args.places.now) c.loop-k.k = c.as_slice-then-helpful-2.ensures.value ∙ sym (row_at c.args.places.now c.loop-k.k c.index-places-k.result here c.index-places-k.is) in
    let n : length c.args.places.now ≡ length c.as_slice-then-helpful.result.now = omega (arith, ap length c.as_slice-then-helpful.ensures.value, c.in_ok-numbers.ensures) in
    subst (λ m. IsWithin m c.as_slice-then-helpful-2.result.now) n
    (subst (IsWithin (length c.args.places.now)) (sym r) (within_at c.args.places.now (length c.args.places.now) c.loop-k.k here c.requires.inside))

pub loop-k-preserved-then-highest-index : goal.loop-k-preserved-then-highest-index
loop-k-preserved-then-highest-index c =
    let places = rows_of c.args.places.now in
    let numbers = c.in_ok-numbers.numbers.items in
    let here : c.loop-k.k < length c.args.places.now = omega arith in
    let r : c.as_slice-then-helpful-2.result.now ≡ row places c.loop-k.k = c.as_slice-then-helpful-2.ensures.value ∙ sym (row_at c.args.places.now c.loop-k.k c.index-places-k.result here c.index-places-k.is) in
    let never : NeverRises numbers places = subst (λ l. NeverRises l places) c.as_slice.ensures.value (c.never_rises-helpful.ensures c.if-helpful.true) in
    let all : (p : ℕ) → Names (row places c.loop-k.k) p → get_or numbers p 0 ≤ c.highest.result =
    λ p names. subst (λ l. get_or l p 0 ≤ c.highest.result) c.as_slice-then-helpful.ensures.value (c.highest.ensures p (subst (λ es. Names es p) (sym r) names)) in
    let at : get_or numbers c.loop-k.k 0 ≡ c.index.result.now = get_or_default numbers c.loop-k.k 0 c.index.result.now (omega (arith, c.in_ok-numbers.ensures, here)) ∙ sym c.index.ensures in
    none_more places c.loop-k.k c.loop-k.invariant (cleared numbers places c.loop-k.k c.highest.result never all (omega (arith, at, c.if-highest-index.true)))

pub returns : goal.returns
returns c = λ i low. c.loop-k.invariant i (omega arith)
