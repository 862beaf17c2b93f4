-- Fields: answers on a part, as answers on the whole.
use Rattle.std.proofs.Common.{◌≡◌, ◌⊎◌, ℕ, List, Option, None, Some, Result, Ok, Err, refl, inl, inr}
use Rattle.serde_json.specs.Data.{Data, null}
use Rattle.serde_json.specs.Find.{get}
use Rattle.graph_reader.specs.Checks.{Check, field, needed, optional}
use Rattle.graph_reader.specs.Faults.{shape, under, within, Answers, IsAt}
use Rattle.graph_reader.specs.declared.fault.TextFault.{TextFault}
use Rattle.graph_reader.specs.declared.fault.TextFault.TheVariants.{OutOfMemory}

err_at : {X Y : Type 0} (seen : X → Y) (part : List ℕ) (fault : Option TextFault) (value : Y) (e : TextFault) (r : Result X TextFault)
    → ((e ≡ OutOfMemory) ⊎ (fault ≡ Some e)) → ((r ≡ Err OutOfMemory) ⊎ (r ≡ Err (under part e))) → Answers seen (within part fault) value r
err_at seen part fault value e r was (inl memory) = rw memory (inl refl)
err_at seen part fault value e r (inl was) (inr is) = rw (is, was) (inl refl)
err_at seen part fault value e r (inr was) (inr is) = rw (is, was) (inr refl)

pub answers_at : {X Y : Type 0} (seen : X → Y) (part : List ℕ) (fault : Option TextFault) (value : Y) (r s : Result X TextFault)
    → Answers seen fault value r → IsAt part r s → Answers seen (within part fault) value s
answers_at seen part fault value (Ok x) s was is = rw (is, was.0) (refl, was.1)
answers_at seen part fault value (Err e) s was is = err_at seen part fault value e s was is

-- a needed field that is there
pub needed_found : {X Y : Type 0} (seen : X → Y) (name : List ℕ) (check : Check Data) (content : Data → Y) (d v : Data) (r s : Result X TextFault)
    → Some v ≡ get name d → Answers seen (check v) (content v) r → IsAt name r s → Answers seen (needed name check d) (content (field name d)) s
needed_found seen name check content d v r s here was is = rw (← here) (answers_at seen name (check v) (content v) r s was is)

-- one that is not
pub needed_missing : {X Y : Type 0} (seen : X → Y) (name : List ℕ) (check : Check Data) (content : Data → Y) (d : Data) (s : Result X TextFault)
    → None ≡ get name d → check null ≡ Some shape → IsAt {X = X} name (Err shape) s → Answers seen (needed name check d) (content (field name d)) s
needed_missing seen name check content d s absent wrong is = rw (← absent, wrong) (err_at seen name (Some shape) (content null) shape s (inr refl) is)

-- an optional field that is there
pub optional_found : {X Y : Type 0} (seen : X → Y) (name : List ℕ) (check : Check Data) (content : Option Data → Y) (d v : Data) (r s : Result X TextFault)
    → Some v ≡ get name d → Answers seen (check v) (content (Some v)) r → IsAt name r s → Answers seen (optional name check d) (content (get name d)) s
optional_found seen name check content d v r s here was is = rw (← here) (answers_at seen name (check v) (content (Some v)) r s was is)
