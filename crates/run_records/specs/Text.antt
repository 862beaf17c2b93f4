-- The text of records.
use Rattle.std.specs.Prelude.{◌≡◌, ℕ, ℤ, Bool, true, false, List, ◌++◌, codes, nat_eq, if◌then◌else◌}
use Rattle.std.specs.Fmt.{signed_decimal}
use Rattle.std.specs.List.{flat_map}
use Rattle.graph_model.specs.declared.record.Record.{Record}
use Rattle.graph_model.specs.declared.record.Record.TheVariants.{Created, Spent, Computed, Written, Closed, Struck, Replaced}
use Rattle.graph_model.specs.declared.record.Hit.{Hit}
use Rattle.graph_model.specs.declared.record.Hit.TheVariants as hit
use Rattle.graph_model.specs.declared.record.Cause.{Cause}
use Rattle.graph_model.specs.declared.record.Cause.TheVariants as cause
use Rattle.graph_model.specs.declared.record.Found.{Found}
use Rattle.graph_model.specs.declared.record.Found.TheVariants as found
use Rattle.graph_model.specs.declared.key.Key.{Key}
use Rattle.text_lines.specs.Fields.{field_text}
use Rattle.run_records.specs.Print.{IsInPrint}

-- words, the key and its life
abbrev pub life_text : List ℕ → Key → ℕ → List ℕ
life_text words key life = field_text words key.0 ++ field_text (codes " life ") life

-- words, the block's number and the version
abbrev pub block_text : List ℕ → ℕ → ℕ → List ℕ
block_text words block version = field_text words block ++ field_text (codes " version ") version

-- the place that was spent; 40 is the self place
abbrev pub place_text : ℕ → List ℕ
place_text place = if nat_eq place 40 then codes " self" else field_text (codes " place ") place

-- what stood in a block; a struck block is named by the version that was wanted, which stands before
abbrev pub found_text : Found → List ℕ
found_text (found.Struck version) = codes " struck"
found_text (found.Other version) = field_text (codes " found ") version

-- why a life was replaced
abbrev pub cause_text : Cause → List ℕ
cause_text cause.Descriptor = codes "descriptor"
cause_text cause.Notify = codes "notify"
cause_text (cause.Block block version found) = block_text (codes "block ") block version ++ found_text found

-- what a strike hit
abbrev pub hit_text : Hit → List ℕ
hit_text hit.Descriptor = codes " descriptor"
hit_text (hit.Notify word) = field_text (codes " notify ") word
hit_text (hit.Block block version) = block_text (codes " block ") block version

-- a record, without the end of its line
abbrev pub record_text : Record → List ℕ
record_text (Created key) = field_text (codes "created ") key.0
record_text (Spent key life place) = life_text (codes "spent ") key life ++ place_text place
record_text (Computed key life) = life_text (codes "computed ") key life
record_text (Written key life block version) = life_text (codes "written ") key life ++ block_text (codes " block ") block version
record_text (Closed key life word) = life_text (codes "closed ") key life ++ field_text (codes " word ") word
record_text (Struck key life hit) = life_text (codes "struck ") key life ++ hit_text hit
record_text (Replaced key life cause) = life_text (codes "replaced ") key life ++ codes " because " ++ cause_text cause

-- a record's line
abbrev pub line_of : Record → List ℕ
line_of event = record_text event ++ codes "\n"

-- a value's line
abbrev pub value_line : ℤ → List ℕ
value_line value = codes "value " ++ signed_decimal value ++ codes "\n"

-- the values' lines, and then a line for each record, in the order of print
pub record IsDetailed (values : List ℤ) (records : List Record) (text : List ℕ) : Type 0 where
  pub list : List Record
  pub order : IsInPrint records list
  pub is : text ≡ flat_map value_line values ++ flat_map line_of list

-- the report: the values' lines alone, or with detail the records' lines too
abbrev pub IsReport : List ℤ → List Record → Bool → List ℕ → Type 0
IsReport values records true text = IsDetailed values records text
IsReport values records false text = text ≡ flat_map value_line values
