use Rattle.std.proofs.Common.{◌≡◌, ◌≢◌, ◌∙◌, length, get_or, sym, ap, subst, refl, arith, inl, inr}
use Rattle.std.specs.Option.{option_map}
use Rattle.std.proofs.lemmas.Bool.{eqb-true, eqb-false}
use Rattle.apsp_graph.specs.Numbers.{capped}
use Rattle.apsp_graph.proofs.NumberLemmas.{IsReadTo, none_of, goes_on, stops, is_number}
use Rattle.apsp_graph.proofs.numbers.number.Goals as goal
use Rattle.apsp_graph.proofs.numbers.number.Goals.{then-b-lt48-via-then-b-lt48, then-b-lt48-via-else-b-lt48+then-b-gt57}

pub returns-then-is_empty-clause-value : goal.returns-then-is_empty-clause-value
returns-then-is_empty-clause-value c = sym (ap (option_map capped) (none_of c.args.word.now (eqb-true (length c.args.word.now) 0 (sym c.is_empty.ensures ∙ c.if-is_empty.true))))

pub returns-then-b-lt48-clause-value : goal.returns-then-b-lt48-clause-value
returns-then-b-lt48-clause-value c =
    let w' = c.args.word.now in
    let i = c.loop-b.b-index in
    elim c.then-b-lt48.branch [
      | then-b-lt48-via-then-b-lt48 w ↦ sym (ap (option_map capped) (stops w' i c.loop-b.value (get_or w' i 0) c.loop-b-test.true refl (inl w.if-b-lt48.true) c.loop-b.invariant))
      | then-b-lt48-via-else-b-lt48+then-b-gt57 w ↦ sym (ap (option_map capped) (stops w' i c.loop-b.value (get_or w' i 0) c.loop-b-test.true refl (inr w.if-b-gt57.true) c.loop-b.invariant))
    ]

pub loop-b-preserved : goal.loop-b-preserved
loop-b-preserved c =
    let w' = c.args.word.now in
    let i = c.loop-b.b-index in
    let r = c.from.ensures in
    let m = c.min-value.ensures in
    goes_on w' i c.loop-b.value (get_or w' i 0) c.min-value.result c.loop-b-test.true refl (omega arith) (omega arith) (omega (arith, r, m)) c.loop-b.invariant

pub returns-clause-value : goal.returns-clause-value
returns-clause-value c =
    let w' = c.args.word.now in
    let some : length w' ≢ 0 = eqb-false (length w') 0 (sym c.is_empty.ensures ∙ c.if-is_empty.false) in
    let end = c.loop-b.auto.b-index-end in
    let done = c.loop-b-test.false in
    let e : c.loop-b.b-index ≡ length w' = omega arith in
    sym (is_number w' c.loop-b.value (omega arith) (subst (λ i. IsReadTo w' i c.loop-b.value) e c.loop-b.invariant))
