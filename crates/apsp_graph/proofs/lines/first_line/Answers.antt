use Rattle.std.proofs.Common.{◌≢◌, ◌+◌, ◌∷◌, ◌<◌, ◌∙◌, length, drop, sym, ap, arith}
use Rattle.std.proofs.lemmas.Bool.{eqb-true, eqb-false}
use Rattle.apsp_graph.specs.Lines.{lines_of}
use Rattle.apsp_graph.proofs.LineLemmas.{no_lines, last_cut, line_first_at, rest_is}
use Rattle.apsp_graph.proofs.lines.first_line.Goals as goal

pub returns-then-is_empty-clause-line : goal.returns-then-is_empty-clause-line
returns-then-is_empty-clause-line c = no_lines c.args.text.now (eqb-true (length c.args.text.now) 0 (sym c.is_empty.ensures ∙ c.if-is_empty.true))

pub returns-then-end-text-clause-line : goal.returns-then-end-text-clause-line
returns-then-end-text-clause-line c =
    let t = c.args.text.now in
    let n = c.find-end.result in
    let some : length t ≢ 0 = eqb-false (length t) 0 (sym c.is_empty.ensures ∙ c.if-is_empty.false) in
    last_cut t n c.if-end-text.true (omega arith) c.find-end.ensures.before ∙ ap (λ l. t ∷ lines_of l) (sym (rest_is t n))

pub returns-clause-line : goal.returns-clause-line
returns-clause-line c =
    let t = c.args.text.now in
    let n = c.find-end.result in
    let within = c.find-end.ensures.within in
    let other = c.if-end-text.false in
    let lt : n < length t = omega arith in
    line_first_at t n (n + 1) (omega arith) lt c.find-end.ensures.before (c.find-end.ensures.found lt)
    ∙ ap (λ l. l ∷ lines_of (drop (n + 1) t)) (sym c.without_return.ensures)
    ∙ ap (λ l. c.without_return.result.now ∷ lines_of l) (sym (rest_is t (n + 1)))
