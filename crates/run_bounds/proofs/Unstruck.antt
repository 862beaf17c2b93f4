-- Where no strike landed on any hit none landed, and where no life of any key was replaced none was.
use Rattle.std.proofs.Common.{◌≡◌, ℕ, true, List, arith, refl}
use Rattle.std.proofs.lemmas.Bool.{le-leb}
use Rattle.graph_model.specs.declared.record.Hit.{Hit}
use Rattle.graph_model.specs.declared.record.Hit.TheVariants as hit_of
use Rattle.graph_model.specs.declared.record.Record.{Record}
use Rattle.graph_model.specs.declared.record.Record.TheVariants as record_of
use Rattle.core_state.specs.Counts.{count}
use Rattle.core_state.specs.Tests.{is_any_replaced, is_any_struck, is_replaced, is_struck_upto, same_hit}
use Rattle.core_state.proofs.Base.Counting.{eqb_here, two_here}
use Rattle.run_bounds.proofs.Counting.{none_of_each}

-- a hit is itself
hit_here : (h : Hit) → same_hit h h ≡ true
hit_here hit_of.Descriptor = refl
hit_here (hit_of.Notify w) = eqb_here w
hit_here (hit_of.Block b v) = two_here b v

-- where no strike landed on any hit up to any life, none landed
pub unstruck : (xs : List Record) → ((k l : ℕ) (h : Hit) → count (is_struck_upto k l h) xs ≡ 0) → count is_any_struck xs ≡ 0
unstruck xs none = none_of_each {I = ℕ × ℕ × Hit} is_any_struck (λ i. is_struck_upto i.0 i.1 i.2) by xs (λ i. none i.0 i.1 i.2)
  where
    by : (x : Record) → is_any_struck x ≡ true → (i : ℕ × ℕ × Hit) × (is_struck_upto i.0 i.1 i.2 x ≡ true)
    by (record_of.Struck key life h) is = ((key.0, life, h), rw (eqb_here key.0, le-leb life life (omega arith), hit_here h))
    by x is = absurd cc

-- and where no life of any key was replaced, none was
pub unreplaced : (xs : List Record) → ((k l : ℕ) → count (is_replaced k l) xs ≡ 0) → count is_any_replaced xs ≡ 0
unreplaced xs none = none_of_each {I = ℕ × ℕ} is_any_replaced (λ i. is_replaced i.0 i.1) by xs (λ i. none i.0 i.1)
  where
    by : (x : Record) → is_any_replaced x ≡ true → (i : ℕ × ℕ) × (is_replaced i.0 i.1 x ≡ true)
    by (record_of.Replaced key life cause) is = ((key.0, life), two_here key.0 life)
    by x is = absurd cc
