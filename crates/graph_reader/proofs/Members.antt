-- The names of an object, and the keys of the map that holds it.
use Rattle.std.proofs.Common.{◌≡◌, ℕ, List, [], ◌∷◌, String, string_bytes, Bool, true, false, not, cond, Option, None, Some, refl}
use Rattle.std.specs.List.{find}
use Rattle.std.specs.Map.{keys_of}
use Rattle.std.specs.declared.alloc.Global.{Global}
use Rattle.serde_json.specs.View.{members_view}
use Rattle.serde_json.specs.declared.value.Value.{Value}
use Rattle.graph_reader.specs.Checks.{has_name, members_check}
use Rattle.graph_reader.specs.Faults.{shape, under}
use Rattle.graph_reader.specs.declared.fault.TextFault.{TextFault}

abbrev Entries : Type 0
Entries = List (String Global × Value)

abbrev first_unknown : List (List ℕ) → Entries → Option (String Global)
first_unknown names es = find (λ name. not (has_name names (string_bytes name))) (keys_of es)

passes_one : (b : Bool) (n : String Global) (found : Option (String Global)) (rest : Option TextFault) → (found ≡ None → rest ≡ None)
    → cond (not b) (Some n) found ≡ None → cond b rest (Some (under (string_bytes n) shape)) ≡ None
passes_one true n found rest later none = later none
passes_one false n found rest later none = absurd (cc)

fails_one : (b : Bool) (n m : String Global) (found : Option (String Global)) (rest : Option TextFault) → (found ≡ Some m → rest ≡ Some (under (string_bytes m) shape))
    → cond (not b) (Some n) found ≡ Some m → cond b rest (Some (under (string_bytes n) shape)) ≡ Some (under (string_bytes m) shape)
fails_one true n m found rest later is = later is
fails_one false n m found rest later is = let same : n ≡ m = cc in rw same refl

pub names_pass : (names : List (List ℕ)) (es : Entries) → first_unknown names es ≡ None → members_check names (members_view es) ≡ None
names_pass names [] none = refl
names_pass names (e ∷ es) none = passes_one (has_name names (string_bytes e.0)) e.0 (first_unknown names es) _ (names_pass names es) none

pub names_fail : (names : List (List ℕ)) (es : Entries) (m : String Global) → first_unknown names es ≡ Some m → members_check names (members_view es) ≡ Some (under (string_bytes m) shape)
names_fail names [] m is = absurd (cc)
names_fail names (e ∷ es) m is = fails_one (has_name names (string_bytes e.0)) e.0 m (first_unknown names es) _ (names_fail names es m) is
