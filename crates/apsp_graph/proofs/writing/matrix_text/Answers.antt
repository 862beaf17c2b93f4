use Rattle.std.proofs.Common.{◌∙◌, ◌*◌, ℤ, ◌++◌, List, sym, ap}
use Rattle.apsp_graph.specs.Writing.{line_of, lines_to}
use Rattle.apsp_graph.proofs.WritingLemmas.{no_lines_to, one_more_line, row_inside, same_width, whole_cells}
use Rattle.apsp_graph.proofs.writing.matrix_text.Goals as goal

pub loop-i-init : goal.loop-i-init
loop-i-init c = c.new-text.ensures.items ∙ sym (no_lines_to _ _ _)

pub part-requires : goal.part-requires
part-requires c =
    let s = c.args.graph.now in
    row_inside s.n s.side c.loop-i.i _ _ _ s.wide c.loop-i-test.true c.vertices-n.ensures (same_width _ _ _ _ c.tiles.ensures.value c.side.ensures) (c.requires ∙ whole_cells _ _)

pub loop-i-preserved : goal.loop-i-preserved
loop-i-preserved c =
    c.in_ok-push_row.ensures
    ∙ ap (λ l. l ++ line_of c.part.result.now) c.loop-i.invariant
    ∙ ap (λ (row : List ℤ). lines_to (c.tiles.result * c.side.result) c.vertices-n.result c.args.cells.now c.loop-i.i ++ line_of row) c.part.ensures
    ∙ sym (one_more_line (c.tiles.result * c.side.result) c.vertices-n.result c.args.cells.now c.loop-i.i)
