-- No turn of a replacement ends a job by itself: what ends goes as finished.
use Rattle.std.proofs.Common.{◌≡◌, ℕ, ◌+◌, Bool, true, false, cond, nat_lt, ◌∷◌, ap, refl}
use Rattle.graph_model.specs.Graph.{Graph as TaskGraph}
use Rattle.core_state.specs.Counts.{known_key}
use Rattle.core_state.specs.Effects.{loaded_ended, moved_ended, registered_of}
use Rattle.core_state.specs.Graph.{Setting}
use Rattle.core_state.specs.Events.{Event}
use Rattle.core_state.specs.Events.Event.{renew_notify, renew_descriptor, post, buy}
use Rattle.core_state.specs.Lines.{flat, of, first_ended}
use Rattle.core_state.specs.Outcome.{ended_left, registered_ended}
use Rattle.core_state.specs.declared.answers.Registered.{Registered}
use Rattle.core_state.specs.declared.answers.Registered.TheVariants as registered
use Rattle.core_state.specs.declared.views.Item.TheVariants as item
use Rattle.core_state.specs.declared.views.View.{View}
use Rattle.core_steps.specs.Serving.{work_life}
use Rattle.recovery.specs.Happening.{phase_event, turn_event, way_event}
use Rattle.recovery.specs.Memory.{IsOnTop}
use Rattle.recovery.specs.Recovering.{recover_lines, Fits}
use Rattle.recovery.specs.declared.recover.Phase.{Phase}
use Rattle.recovery.specs.declared.recover.Phase.TheVariants as phase
use Rattle.recovery.specs.declared.recover.Recover.{Recover}
use Rattle.recovery.specs.declared.reenter.Reenter.{Reenter}
use Rattle.recovery.specs.declared.reenter.Way.{Way}
use Rattle.recovery.specs.declared.reenter.Way.TheVariants as way
use Rattle.recovery.proofs.Entering.{behind, port_top}
use Rattle.recovery.proofs.Phases.{lines_in, rests_in}

module _ (g : TaskGraph) (e : Setting) (v : View) (n : ℕ) (r : Recover) (fits : Fits g e v r) (top : IsOnTop e v (recover_lines e.graph r)) where
  module _ (reenter : Reenter) (is : r.phase ≡ phase.Reenter reenter) where
    here : flat v.stacks ≡ of (item.Reenter r.key.0 (r.life + 1) (reenter.port ∷ behind e.graph r.key.0 reenter.port)) ∷ top.below
    here = port_top e v r.key.0 (r.life + 1) reenter.port top.below (rests_in g e v r (phase.Reenter reenter) is fits).0 (lines_in e v r (phase.Reenter reenter) top.below is top.lines_are)

    loads_none : (k : ℕ) → first_ended (loaded_ended e.graph e.plan v.strikes k n) (flat v.stacks) v.ended ≡ v.ended
    loads_none k = ap (λ ls. first_ended (loaded_ended e.graph e.plan v.strikes k n) ls v.ended) here

    moves_none : first_ended (moved_ended e.graph) (flat v.stacks) v.ended ≡ v.ended
    moves_none = ap (λ ls. first_ended (moved_ended e.graph) ls v.ended) here

    enrols_none : (x : Registered) → registered_ended x (first_ended (moved_ended e.graph) (flat v.stacks) v.ended) v.ended ≡ v.ended
    enrols_none (registered.Waiting m) = moves_none
    enrols_none (registered.Closed m) = refl
    enrols_none (registered.Struck m) = refl

    way_ends_none : (y : Way) → ended_left e (way_event e v r.row r.key.0 reenter.port y) n v ≡ v.ended
    way_ends_none way.Start = refl
    way_ends_none (way.Seek s) = refl
    way_ends_none (way.Load at) = loads_none (known_key at v)
    way_ends_none (way.Register at) = enrols_none (registered_of n)
    way_ends_none (way.Spend at) = moves_none

  renew_ends_none : (done : ℕ) (b : Bool) → ended_left e (cond b (renew_notify r.row (known_key r.row v) (work_life v) done) (renew_descriptor r.row (known_key r.row v) (work_life v))) n v ≡ v.ended
  renew_ends_none done true = refl
  renew_ends_none done false = refl

  owe_ends_none : (x : Event) (b : Bool) → ended_left e x n v ≡ v.ended → ended_left e (cond b x buy) n v ≡ v.ended
  owe_ends_none x true same = same
  owe_ends_none x false same = refl

  phase_ends_none : (p : Phase) → r.phase ≡ p → ended_left e (phase_event e v r p) n v ≡ v.ended
  phase_ends_none phase.Suspect is = refl
  phase_ends_none (phase.Renew done) is = renew_ends_none done (nat_lt done (e.graph.notify_words r.key.0))
  phase_ends_none phase.Finish is = refl
  phase_ends_none (phase.Owe owe behind) is = owe_ends_none (post owe.row owe.job (known_key owe.row v) owe.life) owe.bought refl
  phase_ends_none (phase.Reenter reenter) is = way_ends_none reenter is reenter.way
  phase_ends_none phase.Passed is = refl
  phase_ends_none phase.Over is = refl

  -- the event of a turn ends no job, before what is finished goes
  pub turn_ends_none : ended_left e (turn_event e v r) n v ≡ v.ended
  turn_ends_none = phase_ends_none r.phase refl
