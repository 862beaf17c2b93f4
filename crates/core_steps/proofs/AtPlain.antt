-- A worker's view of a sound plain table is one of a core that meets the invariant, and a number that it finds is that of the core's word.
use Rattle.std.proofs.Common.{◌≡◌, ℕ, ◌<◌, true, length, get_or, sym, ap, ◌∙◌, arith}
use Rattle.core_state.specs.Graph.{Setting}
use Rattle.core_state.specs.Words.{Spot, inside}
use Rattle.core_state.specs.Change.{Core}
use Rattle.core_state.specs.Events.{Event}
use Rattle.core_state.proofs.Base.Words.{read_at}
use Rattle.core_steps.specs.Table.{Plain, IsSound, IsTableStep, IsWordAt, core_by, view_at}
use Rattle.core_steps.specs.declared.kinds.Touched.{Touched}
use Rattle.core_steps.proofs.AnyCore.{IsViewOf}
use Rattle.core_steps.proofs.Seats.{seat_within}
use Rattle.core_steps.proofs.Sounding.{sums_of}

-- the core of a table
abbrev pub core_at : Plain → Core
core_at p = core_by p.shape p.words p.blocks p.views

pub at_plain : (e : Setting) (p : Plain) (i : ℕ) → i < length p.views → IsSound e p → IsViewOf e (core_at p) (view_at p i)
at_plain e p i low s = record { fit = s.setting; sums = sums_of p; holds = s.holds; within = seat_within p i low }

-- a worker's view before a step, and after it
pub view_before : (e : Setting) (i : ℕ) (x : Event) (t : Touched) (p q : Plain) → IsTableStep e i x t p q → IsViewOf e (core_at p) (view_at p i)
view_before e i x t p q h = at_plain e p i h.low h.before

pub view_after : (e : Setting) (i : ℕ) (x : Event) (t : Touched) (p q : Plain) → IsTableStep e i x t p q → IsViewOf e (core_at q) (view_at q i)
view_after e i x t p q h = at_plain e q i (let a = h.workers_are in let b = h.low in omega (arith, a, b)) h.afterwards

-- the number that was found at a spot is that of the core's word
pub found_here : (p : Plain) (a : Spot) (t : Touched) → inside p.shape a ≡ true → IsWordAt p a t → t.found ≡ (core_at p).word a
found_here p a t here word = word.found_is ∙ ap (λ m. get_or p.words m 0) word.at_is ∙ sym (read_at p.shape p.words a here)
