-- Faults, and how those of a part are seen from the whole.
use Rattle.std.specs.Prelude.{◌≡◌, ◌⊎◌, ℕ, List, [], ◌∷◌, ◌++◌, Option, None, Some, Result, Ok, Err, option_map}
use Rattle.std.specs.Option.{option_or}
use Rattle.graph_reader.specs.Shown.{shown_name, IsOneLine}
use Rattle.graph_reader.specs.declared.fault.TextFault.{TextFault}
use Rattle.graph_reader.specs.declared.fault.TextFault.TheVariants.{NotJson, Shape, Range, Formula, TooManyTasks, Version, OutOfMemory}

-- a value of another kind than it should be, at the path of the value itself
abbrev pub shape : TextFault
shape = Shape []

-- a number outside its limits, at the path of the number itself
abbrev pub range : TextFault
range = Range []

-- a slash and the part's name, as a path shows it, or position go before the path
abbrev pub under : List ℕ → TextFault → TextFault
under part (Shape path) = Shape (47 ∷ (shown_name part ++ path))
under part (Range path) = Range (47 ∷ (shown_name part ++ path))
under part NotJson = NotJson
under part (Formula task fault) = Formula task fault
under part TooManyTasks = TooManyTasks
under part Version = Version
under part OutOfMemory = OutOfMemory

-- the path, where there is one, is one line of printable text
abbrev pub HasLinePath : TextFault → Type 0
HasLinePath (Shape path) = IsOneLine path
HasLinePath (Range path) = IsOneLine path
HasLinePath NotJson = Unit {0}
HasLinePath (Formula task fault) = Unit {0}
HasLinePath TooManyTasks = Unit {0}
HasLinePath Version = Unit {0}
HasLinePath OutOfMemory = Unit {0}

-- what is wrong with a part, where something is
abbrev pub within : List ℕ → Option TextFault → Option TextFault
within part fault = option_map (under part) fault

-- of checks in order the first that fails decides
abbrev pub first : List (Option TextFault) → Option TextFault
first [] = None
first (check ∷ checks) = option_or check (first checks)

-- Where nothing is wrong the value is answered, and else that fault, unless memory ran out.
abbrev pub Answers : {X Y : Type 0} → (X → Y) → Option TextFault → Y → Result X TextFault → Type 0
Answers seen fault value (Ok x) = (fault ≡ None) × (seen x ≡ value)
Answers seen fault value (Err e) = (e ≡ OutOfMemory) ⊎ (fault ≡ Some e)

-- a fault of a part, as one of the whole
abbrev pub IsUnder : List ℕ → TextFault → TextFault → Type 0
IsUnder part fault seen = (seen ≡ OutOfMemory) ⊎ (seen ≡ under part fault)

-- an answer on a part, as one on the whole
abbrev pub IsAt : {X : Type 0} → List ℕ → Result X TextFault → Result X TextFault → Type 0
IsAt part (Ok x) seen = seen ≡ Ok x
IsAt part (Err e) seen = (seen ≡ Err OutOfMemory) ⊎ (seen ≡ Err (under part e))
