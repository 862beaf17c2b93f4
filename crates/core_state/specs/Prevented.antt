-- What strikes of the plan prevent: who passes a point has made its strikes before, and a struck word of a life is neither spent at nor closed in this life.
use Rattle.std.specs.Prelude.{◌≡◌, ℕ, ◌+◌, ◌<◌}
use Rattle.core_state.specs.Graph.{Setting}
use Rattle.core_state.specs.Counts.{items}
use Rattle.core_state.specs.Tests.{is_spent, is_computed, is_closed, is_loaded}
use Rattle.core_state.specs.Change.{Core, many}
use Rattle.graph_model.specs.declared.plan.Strike.{Strike}
use Rattle.graph_model.specs.declared.plan.Point.TheVariants as point
use Rattle.graph_model.specs.declared.plan.Target.TheVariants as target

module _ (e : Setting) (s : Core) where
  -- what never happens where this strike is in the plan
  pub record PreventedBy (x : Strike) : Type 0 where
    pub explored_descriptor : x.point ≡ point.Explored → x.target ≡ target.Descriptor → x.life ≡ 1 → many s (is_spent x.key.0 1 40) ≡ 0
    pub explored_notify : (w : ℕ) → x.point ≡ point.Explored → x.target ≡ target.Notify w → x.life ≡ 1 → many s (is_closed x.key.0 1 w) ≡ 0
    pub ready_descriptor : x.point ≡ point.Ready → x.target ≡ target.Descriptor → many s (is_computed x.key.0 x.life) + s.total (items (is_loaded x.key.0 x.life)) ≡ 0
    pub ready_notify : (w : ℕ) → x.point ≡ point.Ready → x.target ≡ target.Notify w → many s (is_closed x.key.0 x.life w) ≡ 0
    pub computed_notify : (w : ℕ) → x.point ≡ point.Computed → x.target ≡ target.Notify w → many s (is_closed x.key.0 x.life w) ≡ 0

  -- so it is for each strike of the plan
  pub record Prevented : Type 0 where
    pub each : (n : ℕ) → n < e.plan.count → PreventedBy (e.plan.strike n)
