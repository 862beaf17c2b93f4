use Rattle.std.proofs.Common.{◌∙◌, sym, ap, Ok}
use Rattle.std.proofs.lemmas.Result.{err_from_is_err_and}
use Rattle.apsp_graph.specs.Steps.{words_left}
use Rattle.apsp_graph.proofs.ReadingLemmas.{passed, body_wrong, body_rows, body_strikes, body_is, rows_of_new, strikes_at, same_matrix}
use Rattle.apsp_graph.proofs.reading.body.Goals as goal

pub returns-in_default : goal.returns-in_default
returns-in_default c = body_wrong c.args.n c.args.side (words_left c.args.lines) c.in_default.ensures

pub returns-in_err-after : goal.returns-in_err-after
returns-in_err-after c =
    let a = c.args in
    let s = c.in-Some.ensures in
    let ls = words_left a.lines in
    let p = err_from_is_err_and c.from_residual.result c.from_residual.ensures.1 in
    rw (p.1, p.2)
    (passed c.in_err-after.field-0.0 _ _
    (λ fault h. body_rows a.n a.side ls fault s.is (rows_of_new a.n c.in-Some.size.n c.new-weights.result.items ls _ c.new-weights.ensures.items s.same_n h))
    c.in_err-after.ensures.gives)

pub returns-in_err-plan : goal.returns-in_err-plan
returns-in_err-plan c =
    let a = c.args in
    let s = c.in-Some.ensures in
    let ls = words_left a.lines in
    let after = c.in_ok-after.after in
    let rows = rows_of_new a.n c.in-Some.size.n c.new-weights.result.items ls _ c.new-weights.ensures.items s.same_n c.in_ok-after.ensures.gives in
    let p = err_from_is_err_and c.from_residual-in_err-plan.result c.from_residual-in_err-plan.ensures.1 in
    rw (p.1, p.2)
    (passed c.in_err-plan.field-0.0 _ _
    (λ fault h. body_strikes a.n a.side ls c.rows.new.weights.items (words_left after) fault s.is rows
    (strikes_at a.n a.side c.in-Some.size.tiles c.from-top.result after.number c.task_total.result c.in-Some.size.n (words_left after) _ s.tiled c.task_total.ensures.value c.from-top.ensures c.in_ok-after.ensures.number s.same_n h))
    c.in_err-plan.ensures)

pub returns : goal.returns
returns c =
    let a = c.args in
    let s = c.in-Some.ensures in
    let ls = words_left a.lines in
    let after = c.in_ok-after.after in
    let rows = rows_of_new a.n c.in-Some.size.n c.new-weights.result.items ls _ c.new-weights.ensures.items s.same_n c.in_ok-after.ensures.gives in
    let strikes = strikes_at a.n a.side c.in-Some.size.tiles c.from-top.result after.number c.task_total.result c.in-Some.size.n (words_left after) _ s.tiled c.task_total.ensures.value c.from-top.ensures c.in_ok-after.ensures.number s.same_n c.in_ok-plan.ensures in
    body_is a.n a.side ls c.rows.new.weights.items (words_left after) _ s.is rows strikes
    ∙ ap Ok (same_matrix _ _ _ _ _ _ _ (sym (c.new.ensures.n ∙ s.same_n)) (sym (c.new.ensures.side ∙ s.same_side)) (sym c.new.ensures.weights))
