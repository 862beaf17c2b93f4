-- What is written for a matrix.
use Rattle.std.specs.Prelude.{ℕ, ◌*◌, List}
use Rattle.path_tasks.specs.Paths.{tiles_of}
use Rattle.apsp_graph.specs.Blocked.{closure}
use Rattle.apsp_graph.specs.Matrices.{Matrix}
use Rattle.apsp_graph.specs.Writing.{text_of}

-- the text of its tiles after all rounds
abbrev pub answer_text : Matrix → List ℕ
answer_text m = text_of (tiles_of m.n m.side * m.side) m.n (closure m.n m.side m.weights)
