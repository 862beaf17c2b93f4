use Rattle.std.proofs.Common.{rules, arith, length}
use Rattle.graph_model.proofs.Pieces.{piece, start_below, end_below}
use Rattle.graph_model.proofs.kernel.piece_of.Goals as goal

pub offset_bounds-cells-start : goal.offset_bounds-cells-start
offset_bounds-cells-start c =
    let up = start_below 0 c.args.ends.now (length c.args.cells.now) c.args.i c.requires.rising c.requires.place in
    let inside = end_below 0 c.args.ends.now (length c.args.cells.now) c.args.i c.requires.rising c.requires.place in
    search rules

pub slice_bounds-result-count : goal.slice_bounds-result-count
slice_bounds-result-count c =
    let up = start_below 0 c.args.ends.now (length c.args.cells.now) c.args.i c.requires.rising c.requires.place in
    omega (arith, c.start_of-start.ensures)

pub slice_bounds-result-start : goal.slice_bounds-result-start
slice_bounds-result-start c =
    let up = start_below 0 c.args.ends.now (length c.args.cells.now) c.args.i c.requires.rising c.requires.place in
    let inside = end_below 0 c.args.ends.now (length c.args.cells.now) c.args.i c.requires.rising c.requires.place in
    search rules

pub slice_bounds-result-end : goal.slice_bounds-result-end
slice_bounds-result-end c =
    let up = start_below 0 c.args.ends.now (length c.args.cells.now) c.args.i c.requires.rising c.requires.place in
    let inside = end_below 0 c.args.ends.now (length c.args.cells.now) c.args.i c.requires.rising c.requires.place in
    search rules

pub returns : goal.returns
returns c = rw c.start_of-start.ensures (piece 0 c.args.ends.now c.args.cells.now c.args.i c.requires.place)
