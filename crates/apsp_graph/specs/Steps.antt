-- What the readers say of the lines that are left.
use Rattle.std.specs.Prelude.{◌≡◌, ◌≤◌, ℕ, true, List, ◌++◌, map, Option, Result, Ok}
use Rattle.path_tasks.specs.Paths.{tiles_of}
use Rattle.apsp_graph.specs.declared.fault.MatrixFault.{MatrixFault}
use Rattle.apsp_graph.specs.declared.lines.Lines.{Lines}
use Rattle.apsp_graph.specs.Lines.{lines_of, words_of}
use Rattle.apsp_graph.specs.Numbers.{capped}
use Rattle.apsp_graph.specs.Matrices.{Words, is_size}
use Rattle.apsp_graph.specs.Reading.{◌>>=◌}

-- what was read before, and what is still read
abbrev pub with_front : {A : Type 0} → List A → Result (List A) MatrixFault → Result (List A) MatrixFault
with_front front read = read >>= λ xs. Ok (front ++ xs)

-- the same for rows, with the lines after them
abbrev pub with_rows : List (Option ℕ) → Result (List (Option ℕ) × List Words) MatrixFault → Result (List (Option ℕ) × List Words) MatrixFault
with_rows front read = read >>= λ r. Ok (front ++ r.0, r.1)

-- the first line as the code keeps it
abbrev pub capped_head : Result ((ℕ × ℕ) × List Words) MatrixFault → Result ((ℕ × ℕ) × List Words) MatrixFault
capped_head read = read >>= λ h. Ok ((capped h.0.0, capped h.0.1), h.1)

-- the words of each line that is left
abbrev pub words_left : Lines → List Words
words_left l = map words_of (lines_of l.rest.now)

-- a size within the limits
pub record IsSizeOf (n side n' side' tiles : ℕ) : Type 0 where
  pub is : is_size n side ≡ true
  pub same_n : n' ≡ n
  pub same_side : side' ≡ side
  pub tiled : tiles ≡ tiles_of n side
  pub some : 1 ≤ n
  pub few : n ≤ 512
  pub wide : 1 ≤ side
  pub narrow : side ≤ 32
  pub most : tiles ≤ 16
