-- The laws of the order of print: it is total, and it ties a record with itself alone.
use Rattle.std.proofs.Common.{◌≡◌, refl, sym, ap, ◌∙◌, ℕ, List, [], ◌∷◌, zero, suc}
use Rattle.std.specs.Ordering.{on, nat_cmp, is_eq}
use Rattle.std.specs.declared.cmp.Ordering.TheVariants.{Equal}
use Rattle.std.specs.Cmp.{IsTotalOrder, on_total}
use Rattle.std.specs.Cmp.Lexicographic.{slice_cmp, nat_list_cmp_total, texts_ties, same_text}
use Rattle.graph_model.specs.declared.record.Record.{Record}
use Rattle.graph_model.specs.declared.record.Record.TheVariants.{Created, Spent, Computed, Written, Closed, Struck, Replaced}
use Rattle.graph_model.specs.declared.record.Hit.{Hit}
use Rattle.graph_model.specs.declared.record.Hit.TheVariants as hit
use Rattle.graph_model.specs.declared.record.Cause.{Cause}
use Rattle.graph_model.specs.declared.record.Cause.TheVariants as cause
use Rattle.graph_model.specs.declared.record.Found.{Found}
use Rattle.graph_model.specs.declared.record.Found.TheVariants as found
use Rattle.run_records.specs.Print.{rank_of}

-- what stood in a block, from the numbers of its rank
abbrev found_from : ℕ → ℕ → Found
found_from zero version = found.Struck version
found_from (suc _) version = found.Other version

-- what a strike hit, from its rank
abbrev hit_from : List ℕ → Hit
hit_from (zero ∷ rest) = hit.Descriptor
hit_from (suc zero ∷ word ∷ []) = hit.Notify word
hit_from (suc (suc zero) ∷ block ∷ version ∷ []) = hit.Block block version
hit_from _ = hit.Descriptor

-- a cause, from its rank
abbrev cause_from : List ℕ → Cause
cause_from (zero ∷ rest) = cause.Descriptor
cause_from (suc zero ∷ rest) = cause.Notify
cause_from (suc (suc zero) ∷ block ∷ version ∷ kind ∷ last ∷ []) = cause.Block block version (found_from kind last)
cause_from _ = cause.Descriptor

-- a record, from its rank
abbrev record_from : List ℕ → Record
record_from (key ∷ life ∷ zero ∷ rest) = Created (record { 0 = key })
record_from (key ∷ life ∷ suc zero ∷ place ∷ []) = Spent (record { 0 = key }) life place
record_from (key ∷ life ∷ suc (suc zero) ∷ []) = Computed (record { 0 = key }) life
record_from (key ∷ life ∷ suc (suc (suc zero)) ∷ block ∷ version ∷ []) = Written (record { 0 = key }) life block version
record_from (key ∷ life ∷ suc (suc (suc (suc zero))) ∷ word ∷ []) = Closed (record { 0 = key }) life word
record_from (key ∷ life ∷ suc (suc (suc (suc (suc zero)))) ∷ rest) = Struck (record { 0 = key }) life (hit_from rest)
record_from (key ∷ life ∷ suc (suc (suc (suc (suc (suc kind))))) ∷ rest) = Replaced (record { 0 = key }) life (cause_from rest)
record_from _ = Created (record { 0 = 0 })

-- a rank tells its record whole
record_from-rank_of : (a : Record) → record_from (rank_of a) ≡ a
record_from-rank_of (Created key) = refl
record_from-rank_of (Spent key life place) = refl
record_from-rank_of (Computed key life) = refl
record_from-rank_of (Written key life block version) = refl
record_from-rank_of (Closed key life word) = refl
record_from-rank_of (Struck key life hit.Descriptor) = refl
record_from-rank_of (Struck key life (hit.Notify word)) = refl
record_from-rank_of (Struck key life (hit.Block block version)) = refl
record_from-rank_of (Replaced key life cause.Descriptor) = refl
record_from-rank_of (Replaced key life cause.Notify) = refl
record_from-rank_of (Replaced key life (cause.Block block version (found.Struck last))) = refl
record_from-rank_of (Replaced key life (cause.Block block version (found.Other last))) = refl

pub rank_of-injective : (a b : Record) → rank_of a ≡ rank_of b → a ≡ b
rank_of-injective a b e = sym (record_from-rank_of a) ∙ ap record_from e ∙ record_from-rank_of b

-- the order of print is total
pub print_order_total : IsTotalOrder (on rank_of (slice_cmp nat_cmp))
print_order_total = on_total rank_of nat_list_cmp_total

-- records that the order does not tell apart are the same
pub print_order_ties : (a b : Record) → slice_cmp nat_cmp (rank_of a) (rank_of b) ≡ Equal → a ≡ b
print_order_ties a b e = rank_of-injective a b (same_text (rank_of a) (rank_of b) (sym (texts_ties (rank_of a) (rank_of b) ∙ ap is_eq e)))
