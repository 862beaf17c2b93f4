-- A strike by the words of its line.
use Rattle.std.specs.Prelude.{ℕ, nat_le, ◌&&◌, List, [], ◌∷◌, Option, Some, None, codes, if◌then◌else◌}
use Rattle.std.specs.Str.{bytes_eq}
use Rattle.graph_model.specs.declared.plan.Strike.{Strike}
use Rattle.graph_model.specs.declared.plan.Point.{Point}
use Rattle.graph_model.specs.declared.plan.Point.TheVariants.{Explored, Ready, Computed, Notified}
use Rattle.graph_model.specs.declared.plan.Target.{Target}
use Rattle.graph_model.specs.declared.plan.Target.TheVariants.{Descriptor, Notify, Block}
use Rattle.apsp_graph.specs.Numbers.{number_of}

-- what is read next, where there was something
infixl 10 ◌>>=◌
abbrev pub ◌>>=◌ : {A B : Type 0} → Option A → (A → Option B) → Option B
None >>= f = None
(Some x) >>= f = f x

-- the number that a word writes, from least to greatest
unfoldable pub within : ℕ → ℕ → List ℕ → Option ℕ
within least greatest w = do
  v ← number_of w
  if nat_le least v && nat_le v greatest then Some v else None

-- the point that a word names
unfoldable pub point_of : List ℕ → Option Point
point_of w =
    if bytes_eq w (codes "explored") then Some Explored
    else if bytes_eq w (codes "ready") then Some Ready
    else if bytes_eq w (codes "computed") then Some Computed
    else if bytes_eq w (codes "notified") then Some Notified
    else None

-- the target that a word alone names, where `notify` has number 0
unfoldable pub bare_target : List ℕ → Option Target
bare_target w =
    if bytes_eq w (codes "descriptor") then Some Descriptor
    else if bytes_eq w (codes "notify") then Some (Notify 0)
    else if bytes_eq w (codes "block") then Some Block
    else None

-- the target that a word names with the words after it: `notify` may have a number up to 15
unfoldable pub target_of : List ℕ → List (List ℕ) → Option Target
target_of w [] = bare_target w
target_of w (v ∷ []) = if bytes_eq w (codes "notify") then (within 0 15 v >>= λ number. Some (Notify number)) else None
target_of w (v ∷ u ∷ more) = None

-- `fault KEY LIFE POINT TARGET`, where KEY is at most top and LIFE is 1 to 65,535
unfoldable pub strike_of : ℕ → List (List ℕ) → Option Strike
strike_of top [] = None
strike_of top (name ∷ []) = None
strike_of top (name ∷ key ∷ []) = None
strike_of top (name ∷ key ∷ life ∷ []) = None
strike_of top (name ∷ key ∷ life ∷ point ∷ []) = None
strike_of top (name ∷ key ∷ life ∷ point ∷ target ∷ more) = if bytes_eq name (codes "fault") then (do
  k ← within 0 top key
  l ← within 1 65535 life
  p ← point_of point
  t ← target_of target more
  Some (record { key = record { 0 = k }; life = l; point = p; target = t })) else None
