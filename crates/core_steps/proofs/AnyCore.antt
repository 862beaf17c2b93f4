-- What the keys of a core that meets the invariant say to one of its views. Here and in the files that stand on this one no list of words or of views is in sight, so each table may cite them.
use Rattle.std.proofs.Common.{◌≡◌, ℕ, ◌+◌, ◌/◌, ◌^◌, ◌<◌, ◌≤◌, arith, subst}
use mathlib.Core.Logic.{dite}
use native.Mathlib.Decide.{ℕ_discrete}
use Rattle.core_state.specs.Graph.{Setting, Sound, Reached}
use Rattle.core_state.specs.Graph.Reached.{through}
use Rattle.core_state.specs.Words.{key}
use Rattle.core_state.specs.Change.{Core, Sums}
use Rattle.core_state.specs.Counts.{items, knows_row}
use Rattle.core_state.specs.Tests.{is_at, is_exploring}
use Rattle.core_state.specs.Guards.{CanClaim, KnowsRow, Registers}
use Rattle.core_state.specs.Guards.Registers.{exploring, reentering}
use Rattle.core_state.specs.Invariant.{Invariant}
use Rattle.core_state.specs.Rows.{HasKey}
use Rattle.core_state.specs.declared.views.View.{View}
use Rattle.core_state.proofs.Row.Made.{exploring_at}
use Rattle.core_state.proofs.Row.View.{fewer_items}
use Rattle.core_steps.specs.Seat.{Explores}

-- the view is one of a core that meets the invariant
pub record IsViewOf (e : Setting) (s : Core) (v : View) : Type 0 where
  pub fit : Sound e
  pub sums : Sums s
  pub holds : Invariant e s
  pub within : (f : View → ℕ) → f v ≤ s.total f

module _ {e : Setting} {s : Core} {v : View} (x : IsViewOf e s v) where
  -- a row that the view knows is that of its key
  pub known_has : (r k : ℕ) → KnowsRow e v r k → HasKey e s r k
  known_has r k can = x.holds.keys.known r k (let a = x.within (knows_row r k) in let b = can.row_known in omega (arith, a, b))

  -- and so its key word shows
  pub known_word : (r k : ℕ) → KnowsRow e v r k → s.word (key r) ≡ k + 1
  known_word r k can = let a = (known_has r k can).1 in omega (arith, a)

  -- a key at which the view explores can be reached
  pub explored_reached : (k : ℕ) → Explores e v k → Reached e.graph k
  explored_reached k y = let row = x.holds.keys.of_item y.explorer (let a = x.within (items (is_at y.explorer)) in
      let b : 0 < items (is_at y.explorer) v = dite (ℕ_discrete (items (is_at y.explorer) v) 0) (λ z. absurd (let d = fewer_items (is_at y.explorer) (is_exploring y.explorer y.life y.place) (exploring_at y.explorer y.life y.place) v.stacks z in let f = y.exploring in omega (arith, d, f))) (λ ne. omega (arith, ne)) in omega (arith, a, b)) in
      subst (Reached e.graph) y.names (through y.explorer y.place (x.holds.keys.reached row.0 y.explorer row.1) y.is_place)

  pub claimed_small : (r k : ℕ) → CanClaim e v r k → k + 1 < 2 ^ 64
  claimed_small r k can = let a = x.fit.small_keys k (explored_reached k (record { explorer = can.explorer; life = can.life; place = can.place; exploring = can.exploring; is_place = can.is_place; names = can.names })) in omega (arith, a)

-- a task has the word of its port
pub has_word : (e : Setting) (fit : Sound e) (v : View) (k q : ℕ) → Registers e v k q → q / 40 < e.graph.notify_words k
has_word e fit v k q (exploring a l j at less task port) = let back = fit.lawful.back a j less in fit.lawful.enough_words k q (subst (λ o. o < e.graph.ports k) port (subst (λ o. (e.graph.pred a j).port < e.graph.ports o) task back.0))
has_word e fit v k q (reentering l r qs at less known) = fit.lawful.enough_words k q less
