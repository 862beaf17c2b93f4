-- Lists of one cell each.
use Rattle.std.proofs.Common.{◌≡◌, ℤ, List, [], ◌∷◌, length, All, slice_set, refl, arith, length-append}
use Rattle.std.proofs.lemmas.List.Elements.{All-head, All-tail}
use Rattle.graph_runner.specs.Formulas.{cells_of}

pub single_cells : (lists : List (List ℤ)) → All (λ cells. length cells ≡ 1) lists → length (cells_of lists) ≡ length lists
single_cells [] single = refl
single_cells (cells ∷ lists) single =
    omega (arith, length-append cells (cells_of lists), All-head (λ cells. length cells ≡ 1) cells lists single, single_cells lists (All-tail (λ cells. length cells ≡ 1) cells lists single))

pub one_set : (out : List ℤ) (z : ℤ) → length out ≡ 1 → slice_set out 0 z ≡ z ∷ []
one_set [] z one = absurd (omega arith)
one_set (y ∷ []) z one = refl
one_set (y ∷ x ∷ out) z one = absurd (omega arith)
