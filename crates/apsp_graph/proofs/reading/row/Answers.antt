use Rattle.std.proofs.Common.{◌≡◌, ◌∷◌, [], ◌++◌, cond, eqb, Some, ◌∙◌, ap, arith}
use Rattle.std.proofs.lemmas.List.{length-append}
use Rattle.std.proofs.lemmas.Result.{err_from_is_err_and}
use Rattle.apsp_graph.specs.Lines.{words_of}
use Rattle.apsp_graph.specs.declared.fault.MatrixFault.TheVariants as faults
use Rattle.apsp_graph.proofs.ReadingLemmas.{row_shorter, row_fault, row_goes_on, row_longer, row_done, on_diagonal, off_diagonal, stopped, finished, passed}
use Rattle.apsp_graph.proofs.reading.row.Goals as goal
use Rattle.apsp_graph.proofs.reading.row.Goals.{then-i-j, else-i-j}

pub returns-in_default-clause-gives : goal.returns-in_default-clause-gives
returns-in_default-clause-gives c =
    let a = c.args in
    let l = c.loop-j in
    stopped l.weights.items _ _ (faults.Line a.number) (row_shorter a.number a.i l.j a.n (words_of l.rest.now) c.loop-j-test.true c.in_default.ensures) l.invariant.gives

pub returns-in_err-weight-clause-gives : goal.returns-in_err-weight-clause-gives
returns-in_err-weight-clause-gives c =
    let a = c.args in
    let l = c.loop-j in
    let p = err_from_is_err_and c.from_residual.result c.from_residual.ensures.1 in
    rw (p.1, p.2)
    (passed c.in_err-weight.field-0.0 _ _
    (λ fault h. stopped l.weights.items _ _ fault (row_fault a.number a.i l.j a.n c.in-Some.word.now (words_of l.rest.now) (words_of c.in-Some.after.now) fault c.loop-j-test.true c.in-Some.ensures h) l.invariant.gives)
    c.in_err-weight.ensures)

pub loop-j-preserved : goal.loop-j-preserved
loop-j-preserved c =
    let a = c.args in
    let l = c.loop-j in
    let x = c.in_ok-weight.weight in
    let value : c.if-i-j.push ≡ cond (eqb a.i l.j) (Some 0) x = elim c.if-i-j.branch [
      | then-i-j w ↦ on_diagonal a.i l.j x _ w.if-i-j.true w.push-is
      | else-i-j w ↦ off_diagonal a.i l.j x _ w.if-i-j.false w.push-is
    ] in
    let items = c.in_ok-push.ensures.items in
    let len = l.invariant.length in
    record {
      gives = row_goes_on a.number a.i l.j a.n c.in-Some.word.now (words_of l.rest.now) (words_of c.in-Some.after.now) x l.weights.items c.push.new.self.items _ c.loop-j-test.true c.in-Some.ensures c.in_ok-weight.ensures (items ∙ ap (λ v. l.weights.items ++ v ∷ []) value) l.invariant.gives;
      length = rw items (simp length-append (omega (arith, len)));
    }

pub returns-in-Some-next_word-clause-gives : goal.returns-in-Some-next_word-clause-gives
returns-in-Some-next_word-clause-gives c =
    let a = c.args in
    let l = c.loop-j in
    stopped l.weights.items _ _ (faults.Line a.number) (row_longer a.number a.i l.j a.n c.in-Some-next_word.field-0.0.now (words_of l.rest.now) (words_of c.in-Some-next_word.field-0.1.now) c.loop-j-test.false c.in-Some-next_word.ensures) l.invariant.gives

pub returns-in-None-clause-gives : goal.returns-in-None-clause-gives
returns-in-None-clause-gives c =
    let a = c.args in
    let l = c.loop-j in
    finished l.weights.items _ _ (row_done a.number a.i l.j a.n (words_of l.rest.now) c.loop-j-test.false c.in-None.ensures) l.invariant.gives
