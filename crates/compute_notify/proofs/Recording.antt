-- What a turn notes: a result that the kernel was called for, or none. And its seat forgets nothing.
use Rattle.std.proofs.Common.{◌≡◌, ⊎_elim, ℕ, Bool, true, false, cond, ◌&&◌, not, eqb, List, Option, refl, ap, ◌∙◌}
use Rattle.std.proofs.lemmas.Bool.{eqb-true, eqb-false}
use Rattle.graph_model.specs.Notes.{Note, noted as told_note}
use Rattle.core_state.specs.Counts.{bump, noted}
use Rattle.core_state.specs.Tests.{is_computed, two}
use Rattle.core_state.specs.Effects.{after_computed}
use Rattle.core_state.specs.Graph.{Graph, Setting}
use Rattle.core_state.specs.Events.{Event, after}
use Rattle.core_state.specs.Rooted.{root_key}
use Rattle.core_state.specs.declared.views.View.{View}
use Rattle.core_state.proofs.Base.Counting.{not_two, two_here}
use Rattle.core_state.proofs.Lines.Entries.{computed_kept}
use Rattle.compute_notify.specs.Eventing.{computes, item_calls, item_prepared}
use Rattle.compute_notify.specs.Tasks.{NewCalls}
use Rattle.compute_notify.specs.Tasks.NewCalls.{none_new, one_new}
use Rattle.compute_notify.specs.declared.compute.Compute.{Compute}
use Rattle.compute_notify.specs.declared.item.Item.{Item}
use Rattle.compute_notify.specs.declared.item.Item.TheVariants as item

module _ (e : Setting) (y : Event) (n : ℕ) (v w r : View) (step : w ≡ after e y n r) (calls now : Option (List Note)) where
  kept : (k l : ℕ) → noted (is_computed k l) w ≡ noted (is_computed k l) r
  kept k l = computed_kept e y n k l r w step

  -- no result is made before the step
  same_calls : r ≡ v → now ≡ calls → NewCalls calls now v w
  same_calls is same = none_new same (λ k l task. kept k l ∙ ap (noted (is_computed k l)) is)

  -- a result is made, and the kernel is called for it where it is not the root's
  made_calls : (k l : ℕ) → r ≡ after_computed k l v → (b : Bool) → eqb k root_key ≡ b → now ≡ cond (not b) (told_note calls (k, l)) calls → NewCalls calls now v w
  made_calls k l is true root same = none_new same (λ i m task.
      let a : noted (is_computed i m) r ≡ bump (two i m k l) (noted (is_computed i m) v) = ap (noted (is_computed i m)) is in
      kept i m ∙ a ∙ ap (λ (b : Bool). bump b (noted (is_computed i m) v)) (not_two i m k l (λ z. task (z.0 ∙ eqb-true k root_key root))))
  made_calls k l is false root same = one_new k l (eqb-false k root_key root) same
      (let a : noted (is_computed k l) r ≡ bump (two k l k l) (noted (is_computed k l) v) = ap (noted (is_computed k l)) is in kept k l ∙ a ∙ ap (λ (b : Bool). bump b (noted (is_computed k l) v)) (two_here k l))
      (λ i m else. let a : noted (is_computed i m) r ≡ bump (two i m k l) (noted (is_computed i m) v) = ap (noted (is_computed i m)) is in
      kept i m ∙ a ∙ ap (λ (b : Bool). bump b (noted (is_computed i m) v)) (not_two i m k l (λ z. ⊎_elim (λ ne. ne z.0) (λ ne. ne z.1) else)))

  computed_calls : (g : Graph) (c : Compute) (b : Bool) → computes g c c.phase ≡ b → r ≡ cond b (after_computed c.duty.key.0 c.duty.life v) v → now ≡ cond (b && not (eqb c.duty.key.0 root_key)) (told_note calls (c.duty.key.0, c.duty.life)) calls → NewCalls calls now v w
  computed_calls g c true does is same = made_calls c.duty.key.0 c.duty.life is (eqb c.duty.key.0 root_key) refl same
  computed_calls g c false does is same = same_calls is same

  pub turn_calls : (g : Graph) (x : Item) → r ≡ item_prepared g x v → now ≡ item_calls g x calls → NewCalls calls now v w
  turn_calls g item.Credit is same = same_calls is same
  turn_calls g (item.Explore x) is same = same_calls is same
  turn_calls g (item.Compute c) is same = computed_calls g c (computes g c c.phase) refl is same
  turn_calls g (item.Close c) is same = same_calls is same
  turn_calls g (item.Notify m) is same = same_calls is same
  turn_calls g (item.Look k) is same = same_calls is same
  turn_calls g (item.Owe o) is same = same_calls is same
  turn_calls g (item.Recover m) is same = same_calls is same

-- nothing happened
pub still_calls : (v : View) (calls : Option (List Note)) → NewCalls calls calls v v
still_calls v calls = none_new refl (λ k l task. refl)
