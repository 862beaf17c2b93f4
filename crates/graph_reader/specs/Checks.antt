-- Checks of JSON values. A check says what is wrong with a value, if anything is.
use Rattle.std.specs.Prelude.{ℕ, suc, ◌&&◌, List, Bool, Option, None, Some, if◌then◌else◌, nat_le, option_and_then, unwrap_or, decimal}
use Rattle.std.specs.List.{list_any}
use Rattle.std.specs.Str.{bytes_eq}
use Rattle.std.specs.Option.{option_or}
use Rattle.serde_json.specs.Data.{Data, null, Items, no_items, item, Members, no_members, member}
use Rattle.serde_json.specs.Find.{get, as_number, as_u64, as_object}
use Rattle.graph_reader.specs.Faults.{shape, range, under, within}
use Rattle.graph_reader.specs.declared.fault.TextFault.{TextFault}

-- a fault, where there is one
abbrev pub Check : Type 0 → Type 0
Check X = X → Option TextFault

-- the check of what a value holds, where it is of the kind that holds such a thing
abbrev pub of_kind : {X : Type 0} → Check X → Option X → Option TextFault
of_kind check None = Some shape
of_kind check (Some x) = check x

-- the check that all pass
abbrev pub passes : {X : Type 0} → Check X
passes x = None

-- ---- numbers and arrays

-- the number of a value, where it is one of 64 bits without a sign
abbrev pub unsigned_of : Data → Option ℕ
unsigned_of d = option_and_then as_u64 (as_number d)

-- a number from the least to the greatest, both allowed
abbrev pub limits : ℕ → ℕ → Check ℕ
limits low high n = if nat_le low n && nat_le n high then None else Some range

-- an unsigned number within limits
abbrev pub number_check : ℕ → ℕ → Check Data
number_check low high d = of_kind (limits low high) (unsigned_of d)

-- each item in order, the next one at that position
abbrev pub each : Check Data → ℕ → Check Items
each check position no_items = None
each check position (item d ds) = option_or (within (decimal position) (check d)) (each check (suc position) ds)

-- ---- objects and their fields

-- an object
abbrev pub object_check : Check Data
object_check d = of_kind passes (as_object d)

-- the name is one of these
abbrev pub has_name : List (List ℕ) → List ℕ → Bool
has_name names name = list_any (bytes_eq name) names

-- the first name that is none of these; the members of a value stand in the order of their names' bytes
abbrev pub members_check : List (List ℕ) → Check Members
members_check names no_members = None
members_check names (member name d ms) = if has_name names name then members_check names ms else Some (under name shape)

-- an object's names; another value has none
abbrev pub names_check : List (List ℕ) → Check Data
names_check names d = option_and_then (members_check names) (as_object d)

-- what stands under a name, and null where nothing does
abbrev pub field : List ℕ → Data → Data
field name d = unwrap_or (get name d) null

-- A field that must be there. No kind has null, so an absent one is of another kind.
abbrev pub needed : List ℕ → Check Data → Check Data
needed name check d = within name (check (field name d))

-- a field that may be absent
abbrev pub optional : List ℕ → Check Data → Check Data
optional name check d = option_and_then (λ found. within name (check found)) (get name d)
