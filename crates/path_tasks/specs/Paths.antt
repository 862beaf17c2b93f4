-- The graph of blocked paths over b tiles a side, each of side times side cells.
use Rattle.path_tasks.specs.declared.Task.{Task}
use Rattle.path_tasks.specs.declared.Task.TheVariants.{Tile, Gather, Sink}
use Rattle.path_tasks.specs.declared.End.{End}
use Rattle.path_tasks.specs.Tasks.{key_of, rank_of, pred_count_of, pred_of, succ_count_of, succ_of, block_of, version_of, input_count_of}
use Rattle.graph_model.specs.Graph.{Graph}
use Rattle.path_tasks.specs.Keys.{task_of, task_total}
use Rattle.std.specs.Prelude.{ℕ, ◌+◌, ◌-◌, ◌*◌, ◌/◌, ◌%◌, cond, ltb, List, map}
use Rattle.std.specs.List.{range_with_len}

-- how many tiles of a side cover n vertices
abbrev pub tiles_of : ℕ → ℕ → ℕ
tiles_of n side = (n + side - 1) / side

-- the other end of an edge, by its key
abbrev pub named : ℕ → End → ℕ × ℕ
named b e = (key_of b e.task, e.at)

-- the predecessors, place by place
unfoldable pub preds_of : ℕ → Task → List (ℕ × ℕ)
preds_of b x = map (λ n. named b (pred_of b x n)) (range_with_len 0 (pred_count_of b x))

-- the successors, port by port
unfoldable pub succs_of : ℕ → Task → List (ℕ × ℕ)
succs_of b x = map (λ n. named b (succ_of b x n)) (range_with_len 0 (succ_count_of b x))

-- a tile has a version for each round and one for its loading, a gather and the sink have one
abbrev pub versions_of : ℕ → ℕ → ℕ
versions_of b c = cond (ltb c (b * b)) (b + 1) 1

-- who writes version v of block c
unfoldable pub writer_of : ℕ → ℕ → ℕ → Task
writer_of b c v =
    cond (ltb c (b * b))
    (Tile (v - 1) (c / b) (c % b))
    (cond (ltb c (b * b + b)) (Gather (c - b * b)) Sink)

-- how many cells a block has: those of a tile, of a row of tiles, or of the whole
abbrev pub cells_of : ℕ → ℕ → ℕ → ℕ
cells_of b side c = cond (ltb c (b * b)) (side * side) (cond (ltb c (b * b + b)) (b * (side * side)) (b * b * (side * side)))

-- the graph by keys
abbrev pub path_graph : ℕ → ℕ → Graph
path_graph b side = record {
  keys = range_with_len 0 (task_total b);
  sink = key_of b Sink;
  preds = λ k. preds_of b (task_of b k);
  inputs = λ k. input_count_of b (task_of b k);
  succs = λ k. succs_of b (task_of b k);
  block = λ k. block_of b (task_of b k);
  version = λ k. version_of (task_of b k);
  block_count = b * b + b + 1;
  versions = versions_of b;
  writer = λ c v. key_of b (writer_of b c v);
  cells = cells_of b side;
  rank = λ k. rank_of b (task_of b k);
}
