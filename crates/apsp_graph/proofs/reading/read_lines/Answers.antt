use Rattle.std.proofs.Common.{◌∙◌, Result, List, ℕ, map, ap, sym, subst}
use Rattle.std.proofs.lemmas.Result.{err_from_is_err_and}
use Rattle.apsp_graph.specs.Lines.{lines_of, words_of}
use Rattle.apsp_graph.specs.Views.{matrix_of}
use Rattle.apsp_graph.specs.Matrices.{Matrix}
use Rattle.apsp_graph.specs.declared.fault.MatrixFault.{MatrixFault}
use Rattle.apsp_graph.specs.Reading.{Gives, head_of}
use Rattle.apsp_graph.specs.Steps.{words_left, capped_head}
use Rattle.apsp_graph.proofs.ReadingLemmas.{passed, reading_head, reading_body}
use Rattle.apsp_graph.proofs.reading.read_lines.Goals as goal

pub returns-in_err-n : goal.returns-in_err-n
returns-in_err-n c =
    let p = err_from_is_err_and c.from_residual.result c.from_residual.ensures.1 in
    let at = ap (λ (t : List ℕ). capped_head (head_of (map words_of (lines_of t)))) c.of.ensures.text in
    rw (p.1, p.2) (passed c.in_err-n.field-0.0 _ _ (λ fault h. reading_head c.args.bytes.now fault (sym at ∙ h)) c.in_err-n.ensures.gives)

pub returns : goal.returns
returns c =
    let at = ap (λ (t : List ℕ). capped_head (head_of (map words_of (lines_of t)))) c.of.ensures.text in
    let e = reading_body c.args.bytes.now c.in_ok-n.n c.in_ok-n.side (words_left c.in_ok-n.lines) (sym at ∙ c.in_ok-n.ensures.gives) in
    subst (λ (read : Result Matrix MatrixFault). Gives (λ r. matrix_of r.0 r.1) c.body.result read) (sym e) c.body.ensures
