-- Reading the lines of a matrix, each as its words: the first fault, line by line and from the left.
use Rattle.std.specs.Prelude.{ℕ, zero, suc, ◌+◌, nat_le, ◌==◌, List, [], ◌∷◌, ◌++◌, Option, Some, None, Result, Ok, Err, codes, map, if◌then◌else◌, ◌≡◌}
use Rattle.std.specs.Str.{bytes_eq}
use Rattle.graph_model.specs.declared.plan.Strike.{Strike}
use Rattle.apsp_graph.specs.declared.fault.MatrixFault.{MatrixFault}
use Rattle.apsp_graph.specs.declared.fault.MatrixFault.TheVariants as faults
use Rattle.apsp_graph.specs.Lines.{lines_of, words_of}
use Rattle.apsp_graph.specs.Numbers.{number_of}
use Rattle.apsp_graph.specs.Strikes.{strike_of}
use Rattle.apsp_graph.specs.Matrices.{Matrix, Words, top_of, is_size}

-- what is read next, unless there was a fault
infixl 10 ◌>>=◌
abbrev pub ◌>>=◌ : {A B : Type 0} → Result A MatrixFault → (A → Result B MatrixFault) → Result B MatrixFault
(Ok x) >>= f = f x
(Err e) >>= f = Err e

-- An error is the first fault of the reading, unless memory ran out.
abbrev pub Fails : {Y : Type 0} → MatrixFault → Result Y MatrixFault → Type 0
Fails faults.OutOfMemory read = Unit {0}
Fails faults.Head read = read ≡ Err faults.Head
Fails faults.Size read = read ≡ Err faults.Size
Fails (faults.Line l) read = read ≡ Err (faults.Line l)
Fails (faults.Weight l) read = read ≡ Err (faults.Weight l)
Fails (faults.Fault l) read = read ≡ Err (faults.Fault l)

-- What a function returned, seen by view, is what the reading gives, unless memory ran out.
abbrev pub Gives : {X Y : Type 0} → (X → Y) → Result X MatrixFault → Result Y MatrixFault → Type 0
Gives view (Ok x) read = read ≡ Ok (view x)
Gives view (Err e) read = Fails e read

-- the item of a line: none for `-`, else a number up to the greatest weight
unfoldable pub weight_of : ℕ → List ℕ → Result (Option ℕ) MatrixFault
weight_of line w =
    if bytes_eq w (codes "-") then Ok None
    else elim (number_of w) [
      | None ↦ Err (faults.Line line)
      | Some v ↦ if nat_le v 2147483647 then Ok (Some v) else Err (faults.Weight line)
    ]

-- the items of row i from column j on, of which k are left
unfoldable pub row_from : ℕ → ℕ → ℕ → ℕ → Words → Result (List (Option ℕ)) MatrixFault
row_from line i j zero [] = Ok []
row_from line i j zero (w ∷ ws) = Err (faults.Line line)
row_from line i j (suc k) [] = Err (faults.Line line)
row_from line i j (suc k) (w ∷ ws) = weight_of line w >>= λ x. row_from line i (j + 1) k ws >>= λ xs. Ok ((if i == j then Some 0 else x) ∷ xs)

-- the rows from row i on, of which k are left, and the lines after them
unfoldable pub rows_from : ℕ → ℕ → ℕ → List Words → Result (List (Option ℕ) × List Words) MatrixFault
rows_from n i zero ls = Ok ([], ls)
rows_from n i (suc k) [] = Err (faults.Line (i + 2))
rows_from n i (suc k) (l ∷ ls) = row_from (i + 2) i 0 n l >>= λ xs. rows_from n (i + 1) k ls >>= λ r. Ok (xs ++ r.0, r.1)

-- the strikes from a line on, with room for so many
unfoldable pub strikes_from : ℕ → ℕ → ℕ → List Words → Result (List Strike) MatrixFault
strikes_from top line room [] = Ok []
strikes_from top line room ([] ∷ ls) = strikes_from top (line + 1) room ls
strikes_from top line zero ((w ∷ ws) ∷ ls) = Err (faults.Fault line)
strikes_from top line (suc room) ((w ∷ ws) ∷ ls) = elim (strike_of top (w ∷ ws)) [
  | None ↦ Err (faults.Fault line)
  | Some s ↦ strikes_from top (line + 1) room ls >>= λ ss. Ok (s ∷ ss)
]

-- two numbers, where both are
abbrev pub both : Option ℕ → Option ℕ → Option (ℕ × ℕ)
both None b = None
both (Some n) None = None
both (Some n) (Some side) = Some (n, side)

-- the two numbers of a line that has two words
unfoldable pub sizes_of : Words → Option (ℕ × ℕ)
sizes_of [] = None
sizes_of (a ∷ []) = None
sizes_of (a ∷ b ∷ []) = both (number_of a) (number_of b)
sizes_of (a ∷ b ∷ c ∷ more) = None

-- what was found in the line above these
abbrev pub above : List Words → Option (ℕ × ℕ) → Result ((ℕ × ℕ) × List Words) MatrixFault
above ls None = Err faults.Head
above ls (Some sizes) = Ok (sizes, ls)

-- the two numbers of the first line, and the lines below it
unfoldable pub head_of : List Words → Result ((ℕ × ℕ) × List Words) MatrixFault
head_of [] = Err faults.Head
head_of (l ∷ ls) = above ls (sizes_of l)

-- the matrix of n vertices in tiles of this side that stands in the lines below the first
unfoldable pub body_of : ℕ → ℕ → List Words → Result Matrix MatrixFault
body_of n side ls =
    if is_size n side
    then (rows_from n 0 n ls >>= λ r. strikes_from (top_of n side) (n + 2) 4096 r.1 >>= λ ss. Ok (record { n = n; side = side; weights = r.0; strikes = ss }))
    else Err faults.Size

-- the matrix that a text stands for, or the first fault
unfoldable pub reading : List ℕ → Result Matrix MatrixFault
reading text = head_of (map words_of (lines_of text)) >>= λ h. body_of h.0.0 h.0.1 h.1
