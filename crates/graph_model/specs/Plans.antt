-- What a plan of faults holds.
use Rattle.std.specs.Prelude.{◌≡◌, ℕ, ◌+◌, ◌*◌, ◌^◌, ◌<◌, List, Some, map, filter, take, slice_get, All, Bool, ◌&&◌, ◌==◌}
use Rattle.std.specs.Option.{option_map_or}
use Rattle.std.specs.List.Sorted.{IsNonDecreasingBy}
use Rattle.graph_model.specs.declared.key.Key.{Key}
use Rattle.graph_model.specs.declared.plan.Point.{Point}
use Rattle.graph_model.specs.declared.plan.Point.TheVariants.{Explored, Ready, Computed, Notified}
use Rattle.graph_model.specs.declared.plan.Target.{Target}
use Rattle.graph_model.specs.declared.plan.Strike.{Strike}

abbrev pub point_number : Point → ℕ
point_number Explored = 0
point_number Ready = 1
point_number Computed = 2
point_number Notified = 3

-- each strike names a key that a task can have
abbrev pub HasTaskKeys : List Strike → Type 0
HasTaskKeys plan = All (λ strike. strike.key.0 < 2 ^ 63) plan

-- whether the strike waits for this point of this life of the task
abbrev pub waits_for : Point → Key → ℕ → Strike → Bool
waits_for point key life strike =
    (strike.key.0 == key.0) && (strike.life == life) && (point_number strike.point == point_number point)

-- the targets of the strikes for these three, in the order of the plan
abbrev pub hits : Point → Key → ℕ → List Strike → List Target
hits point key life plan = map (λ strike. strike.target) (filter (waits_for point key life) plan)

-- a number for what a strike can wait for: the task, then the life, then the point
abbrev pub code : Key → ℕ → Point → ℕ
code key life point = (key.0 * 4294967296 + life) * 4 + point_number point

abbrev pub strike_code : Strike → ℕ
strike_code strike = code strike.key strike.life strike.point

-- the number of the strike at a place
abbrev pub code_in : List Strike → ℕ → ℕ
code_in plan place = option_map_or strike_code (slice_get plan place) 0

-- the places of the first n strikes, in the order of their numbers, and for one number in the order of the plan
pub record IsIndex (plan : List Strike) (n : ℕ) (places : List ℕ) : Type 0 where
  pub ascends : IsNonDecreasingBy (code_in plan) places
  pub same : (c : ℕ) → map (slice_get plan) (filter (λ place. code_in plan place == c) places) ≡ map Some (filter (λ strike. strike_code strike == c) (take n plan))
  pub lives : All (λ strike. strike.life < 2 ^ 32) (take n plan)
