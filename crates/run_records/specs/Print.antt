-- The order of records in print.
use Rattle.std.specs.Prelude.{ℕ, List, [], ◌∷◌, zero, suc, IsPermutation, IsSortedByKey}
use Rattle.std.specs.Ordering.{nat_cmp}
use Rattle.std.specs.Cmp.Lexicographic.{slice_cmp}
use Rattle.graph_model.specs.declared.record.Record.{Record}
use Rattle.graph_model.specs.declared.record.Record.TheVariants.{Created, Spent, Computed, Written, Closed, Struck, Replaced}
use Rattle.graph_model.specs.declared.record.Hit.{Hit}
use Rattle.graph_model.specs.declared.record.Hit.TheVariants as hit
use Rattle.graph_model.specs.declared.record.Cause.{Cause}
use Rattle.graph_model.specs.declared.record.Cause.TheVariants as cause
use Rattle.graph_model.specs.declared.record.Found.{Found}
use Rattle.graph_model.specs.declared.record.Found.TheVariants as found

-- what stood in a block: a struck version is before another version
abbrev pub found_rank : Found → List ℕ
found_rank (found.Struck version) = 0 ∷ version ∷ []
found_rank (found.Other version) = 1 ∷ version ∷ []

-- what a strike hit: the descriptor is before a notify word, and that before a block
abbrev pub hit_rank : Hit → List ℕ
hit_rank hit.Descriptor = 0 ∷ []
hit_rank (hit.Notify word) = 1 ∷ word ∷ []
hit_rank (hit.Block block version) = 2 ∷ block ∷ version ∷ []

-- why a life was replaced: the descriptor is before a notify word, and that before a block
abbrev pub cause_rank : Cause → List ℕ
cause_rank cause.Descriptor = 0 ∷ []
cause_rank cause.Notify = 1 ∷ []
cause_rank (cause.Block block version found) = 2 ∷ block ∷ version ∷ found_rank found

-- what decides where a record stands, from the left: its key, its life (0 for Created), its kind, and its other fields
abbrev pub rank_of : Record → List ℕ
rank_of (Created key) = key.0 ∷ 0 ∷ 0 ∷ []
rank_of (Spent key life place) = key.0 ∷ life ∷ 1 ∷ place ∷ []
rank_of (Computed key life) = key.0 ∷ life ∷ 2 ∷ []
rank_of (Written key life block version) = key.0 ∷ life ∷ 3 ∷ block ∷ version ∷ []
rank_of (Closed key life word) = key.0 ∷ life ∷ 4 ∷ word ∷ []
rank_of (Struck key life hit) = key.0 ∷ life ∷ 5 ∷ hit_rank hit
rank_of (Replaced key life cause) = key.0 ∷ life ∷ 6 ∷ cause_rank cause

-- the second list has the same records, as often each, in the order of print
pub record IsInPrint (records list : List Record) : Type 0 where
  pub same : IsPermutation records list
  pub ascending : IsSortedByKey rank_of (slice_cmp nat_cmp) list

-- so many numbers: those of the list, and then zeros
abbrev pub padded : ℕ → List ℕ → List ℕ
padded zero xs = []
padded (suc n) [] = 0 ∷ padded n []
padded (suc n) (x ∷ xs) = x ∷ padded n xs
