use Rattle.std.proofs.Common.{◌∙◌, ◌*◌, ap, sym, length}
use Rattle.path_tasks.specs.Tasks.{part}
use Rattle.path_tasks.specs.Paths.{tiles_of}
use Rattle.path_tasks.specs.declared.Task.{Task}
use Rattle.apsp_graph.specs.Blocked.{task_made}
use Rattle.apsp_graph.proofs.CellLemmas.{made_long, beside_long}
use Rattle.apsp_graph.proofs.tiles.compute_task.Goals as goal

pub compute_tile-requires-clause-square : goal.compute_tile-requires-clause-square
compute_tile-requires-clause-square c =
    let s = c.args.graph.now in
    let lists = c.args.inputs.now.lists in
    c.requires.cells
    ∙ ap (λ (x : Task). length (task_made s.n s.side s.weights.items (tiles_of s.n s.side) x lists)) (sym c.in-Tile.ensures.value)
    ∙ made_long s.n s.side s.weights.items c.in-Tile.i c.in-Tile.j (part c.in-Tile.t c.in-Tile.i c.in-Tile.j) lists s.wide

pub gather-requires-clause-whole : goal.gather-requires-clause-whole
gather-requires-clause-whole c =
    let s = c.args.graph.now in
    let lists = c.args.inputs.now.lists in
    c.requires.cells
    ∙ ap (λ (x : Task). length (task_made s.n s.side s.weights.items (tiles_of s.n s.side) x lists)) (sym c.in-Gather.ensures.value)
    ∙ beside_long (tiles_of s.n s.side) s.side lists
    ∙ ap (λ v. s.side * (v * s.side)) (sym c.tiles.ensures.value)
    ∙ ap (λ v. v * (c.tiles.result * v)) (sym c.side.ensures)
