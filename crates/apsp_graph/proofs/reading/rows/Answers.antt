use Rattle.std.proofs.Common.{arith}
use Rattle.std.proofs.lemmas.Result.{err_from_is_err_and}
use Rattle.apsp_graph.specs.Lines.{lines_of, words_of}
use Rattle.apsp_graph.specs.Steps.{words_left}
use Rattle.apsp_graph.proofs.ReadingLemmas.{lines_next, lines_end, rows_end, rows_fault, rows_go_on, rows_done, passed}
use Rattle.apsp_graph.proofs.reading.rows.Goals as goal

pub returns-in_default-clause-gives : goal.returns-in_default-clause-gives
returns-in_default-clause-gives c =
    let l = c.loop-i in
    rows_end c.args.n l.i l.at.number (words_left l.at) l.weights.items _ c.loop-i-test.true l.invariant.number (lines_end (lines_of l.at.rest.now) c.in_default.ensures.line) l.invariant.gives

pub returns-in_err-row-clause-gives : goal.returns-in_err-row-clause-gives
returns-in_err-row-clause-gives c =
    let l = c.loop-i in
    let next = lines_next (lines_of l.at.rest.now) (lines_of c.in-Some.after.rest.now) c.in-Some.line.now c.in-Some.ensures.line in
    let p = err_from_is_err_and c.from_residual.result c.from_residual.ensures.1 in
    rw (p.1, p.2)
    (passed c.in_err-row.field-0.0 _ _
    (λ fault h. rows_fault c.args.n l.i l.at.number (words_of c.in-Some.line.now) (words_left l.at) (words_left c.in-Some.after) l.weights.items fault _ c.loop-i-test.true l.invariant.number next h l.invariant.gives)
    c.in_err-row.ensures.gives)

pub loop-i-preserved : goal.loop-i-preserved
loop-i-preserved c =
    let l = c.loop-i in
    let next = lines_next (lines_of l.at.rest.now) (lines_of c.in-Some.after.rest.now) c.in-Some.line.now c.in-Some.ensures.line in
    let number = c.in-Some.ensures.number in
    let before = l.invariant.number in
    let length = c.in_ok-row.ensures.length in
    let so_far = l.invariant.length in
    record {
      gives = rows_go_on c.args.n l.i l.at.number (words_of c.in-Some.line.now) (words_left l.at) (words_left c.in-Some.after) l.weights.items c.row.new.weights.items _ c.loop-i-test.true l.invariant.number next c.in_ok-row.ensures.gives l.invariant.gives;
      number = omega (arith, number, before);
      length = omega (arith, length, so_far);
    }

pub returns-clause-gives : goal.returns-clause-gives
returns-clause-gives c = let l = c.loop-i in rows_done c.args.n l.i (words_left l.at) l.weights.items _ c.loop-i-test.false l.invariant.gives
