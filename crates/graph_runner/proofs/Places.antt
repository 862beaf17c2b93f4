-- How many places the tasks of a graph have.
use Rattle.std.proofs.Common.{◌≡◌, ◌∙◌, ℕ, ◌+◌, ◌<◌, ◌≤◌, length, take, Some, slice_get, sym, ap}
use Rattle.std.specs.List.{sum_by}
use Rattle.std.proofs.lemmas.List.Sums.{sum_by_more}
use Rattle.std.proofs.lemmas.Option.{get_or_from_slice_get, slice_get_within}
use Rattle.graph_model.specs.Graph.{Graph, IsLawful}

-- a graph's tasks are few, and each has few places
pub few_tasks : (g : Graph) → IsLawful g → length g.keys ≤ 1048576
few_tasks g lawful = lawful.few_tasks

pub few_places : (g : Graph) → IsLawful g → (i k : ℕ) → slice_get g.keys i ≡ Some k → length (g.preds k) ≤ 40
few_places g lawful i k here = lawful.few_places k (i, slice_get_within g.keys i k here, get_or_from_slice_get g.keys i k k here)

-- the places of one task more
pub places_more : (g : Graph) (i k n : ℕ) → slice_get g.keys i ≡ Some k → n ≡ sum_by (λ t. length (g.preds t)) (take i g.keys)
    → n + length (g.preds k) ≡ sum_by (λ t. length (g.preds t)) (take (i + 1) g.keys)
places_more g i k n here is =
    let inside : i < length g.keys = slice_get_within g.keys i k here in
    ap (λ m. m + length (g.preds k)) is
    ∙ ap (λ t. sum_by (λ t. length (g.preds t)) (take i g.keys) + length (g.preds t)) (sym (get_or_from_slice_get g.keys i k k here))
    ∙ sym (sum_by_more (λ t. length (g.preds t)) g.keys i k inside)
