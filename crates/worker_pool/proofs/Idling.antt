-- A worker without work looks at a row, and asks it for a job.
use Rattle.std.proofs.Common.{◌≡◌, ◌∙◌, ℕ, ◌-◌, Bool, true, false, cond, eqb, List, [], ap, subst, sym}
use Rattle.core_state.specs.Effects.{after_look, skipped_items}
use Rattle.core_state.specs.Graph.{Setting}
use Rattle.core_state.specs.Events.{after}
use Rattle.core_state.specs.Events.Event.{look, take}
use Rattle.core_state.specs.Lines.{flat, HasLines, came_lines}
use Rattle.core_state.specs.Views.{change_top, learn, on_top, settle, unfinished}
use Rattle.core_state.specs.declared.views.Item.{Item}
use Rattle.core_state.specs.declared.views.Known.{Known}
use Rattle.core_state.specs.declared.views.Known.TheVariants as known
use Rattle.core_state.specs.declared.job.Job.{Job}
use Rattle.core_state.specs.declared.views.Stack.{Stack}
use Rattle.core_state.specs.declared.views.View.{View}
use Rattle.core_state.proofs.Lines.After.{takes}
use Rattle.core_steps.specs.Seat.{known_of}
use Rattle.recovery.specs.Memory.{KnowsKey}
use Rattle.worker_pool.specs.Working.{IsIdle}

module _ (e : Setting) (v : View) (idle : IsIdle v) where
  -- a look changes no work
  settled_idle : (u : View) → IsIdle u → IsIdle (settle e.graph e.plan u)
  settled_idle u still = record { no_stacks = ap (λ (ss : List Stack). on_top (unfinished e.graph e.plan u.strikes) ss) still.no_stacks; no_credit = still.no_credit; no_hands = still.no_hands }

  either_idle : (b : Bool) (x y : View) → IsIdle x → IsIdle y → IsIdle (cond b x y)
  either_idle true x y first second = first
  either_idle false x y first second = second

  skipped_idle : (f : List Item → List Item) → IsIdle (change_top f v)
  skipped_idle f = record { no_stacks = ap (λ (ss : List Stack). on_top f ss) idle.no_stacks; no_credit = idle.no_credit; no_hands = idle.no_hands }

  learned_idle : (x : Known) → IsIdle (learn x v)
  learned_idle x = record { no_stacks = idle.no_stacks; no_credit = idle.no_credit; no_hands = idle.no_hands }

  pub looked : (r n : ℕ) (w : View) → w ≡ after e (look r) n v → IsIdle w
  looked r n w is = subst IsIdle (sym is) (settled_idle (after_look e.graph e.shape.rows r n v)
      (either_idle (eqb n 0) (change_top (skipped_items e.graph e.shape.rows r v.known) v) (learn (known.Row r (n - 1)) v) (skipped_idle _) (learned_idle _)))

  -- what came or not, there is no credit and no block
  pub taken_credit : (r : ℕ) (i : Job) (k n : ℕ) (w : View) → w ≡ after e (take r i k) n v → w.spare ≡ 0
  taken_credit r i k n w is = ap (λ (u : View). u.spare) is ∙ idle.no_credit

  pub taken_hands : (r : ℕ) (i : Job) (k n : ℕ) (w : View) → w ≡ after e (take r i k) n v → w.hands ≡ []
  taken_hands r i k n w is = ap (λ (u : View). u.hands) is ∙ idle.no_hands

  -- a job that came stands alone, and nothing else has changed
  pub taken_lines : (r : ℕ) (i : Job) (k n : ℕ) (w : View) → w ≡ after e (take r i k) n v → HasLines e w (came_lines i k n [])
  taken_lines r i k n w is = subst (λ ls. HasLines e w (came_lines i k n ls)) (ap flat idle.no_stacks) (takes e v w n i k is)

-- the asking of a row leaves what is known of rows
pub taken_knows : (e : Setting) (r : ℕ) (i : Job) (k n : ℕ) (v w : View) → w ≡ after e (take r i k) n v → (a b : ℕ) → KnowsKey e v a b → KnowsKey e w a b
taken_knows e r i k n v w is a b knows = record { low = knows.low; key_is = ap (λ (u : View). known_of u a) is ∙ knows.key_is }
