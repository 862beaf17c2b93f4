-- Arrays within their limit, and past it.
use Rattle.std.proofs.Common.{◌≡◌, ℕ, suc, ◌<◌, ◌≤◌, List, [], ◌∷◌, length, Bool, Some, refl, ap, arith, cond, nat_le, Option}
use Rattle.std.proofs.lemmas.Bool.Decides.{nat_tests}
use Rattle.serde_json.specs.Data.{Data}
use Rattle.serde_json.specs.Events.{items_len}
use Rattle.serde_json.specs.Find.{as_array}
use Rattle.serde_json.specs.View.{items_view}
use Rattle.serde_json.specs.declared.value.Value.{Value}
use Rattle.graph_reader.specs.Checks.{Check, each}
use Rattle.graph_reader.specs.Faults.{range}
use Rattle.graph_reader.specs.Format.{counted, strike_check, strikes_check}
use Rattle.graph_reader.specs.declared.fault.TextFault.{TextFault}

items_len-view : (vs : List Value) → items_len (items_view vs) ≡ length vs
items_len-view [] = refl
items_len-view (v ∷ vs) = ap suc (items_len-view vs)

pub within_limit : (n m : ℕ) (x y : Option TextFault) → n ≤ m → cond (nat_le n m) x y ≡ x
within_limit n m x y few = grind (arith, nat_tests)

past_limit : (n m : ℕ) (x y : Option TextFault) → m < n → cond (nat_le n m) x y ≡ y
past_limit n m x y many = grind (arith, nat_tests)

pub counted_few : (most : ℕ) (fault : TextFault) (check : Check Data) (vs : List Value) → length vs ≤ most → counted most fault check (items_view vs) ≡ each check 0 (items_view vs)
counted_few most fault check vs few = rw (items_len-view vs) (within_limit (length vs) most _ _ few)

pub counted_many : (most : ℕ) (fault : TextFault) (check : Check Data) (vs : List Value) → most < length vs → counted most fault check (items_view vs) ≡ Some fault
counted_many most fault check vs many = rw (items_len-view vs) (past_limit (length vs) most _ _ many)

-- more strikes than a plan may have
pub too_many_strikes : (is_task : ℕ → Bool) (d : Data) (vs : List Value) (e : TextFault) → Some (items_view vs) ≡ as_array d → 4096 < length vs → e ≡ range → strikes_check is_task d ≡ Some e
too_many_strikes is_task d vs e here many is = rw (← here, is) (counted_many 4096 range (strike_check is_task) vs many)
