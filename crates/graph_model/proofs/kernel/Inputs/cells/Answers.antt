use Rattle.std.proofs.Common.{◌≡◌, ◌∙◌, ℤ, List, [], ◌∷◌, drop, refl, sym, ap}
use Rattle.std.specs.List.{flat_map}
use Rattle.graph_model.proofs.Pieces.{joined}
use Rattle.graph_model.proofs.kernel.Inputs.cells.Goals as goal

drop_no : (cells : List ℤ) → drop 0 cells ≡ cells
drop_no [] = refl
drop_no (z ∷ cells) = refl

pub returns : goal.returns
returns c =
    c.as_slice.ensures.value ∙ sym (ap (λ i. flat_map (λ piece. piece) i.lists) (sym c.self.view_is) ∙ joined 0 c.self.inside.ends.items c.self.inside.cells.items c.self.invariant.0 ∙ drop_no c.self.inside.cells.items)
