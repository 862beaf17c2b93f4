-- What a turn of a task pays, by how its rest and the weight of its suspects change; and what lets its rest fall.
use Rattle.std.proofs.Common.{◌≡◌, ℕ, ◌+◌, ◌*◌, ◌≤◌, true, false, List, [], ◌∷◌, length, Some, arith, refl, ap, sym, ◌∙◌, ◌⊎◌, ◌++◌}
use Rattle.std.proofs.lemmas.Bool.{lt-ltb}
use Rattle.graph_model.specs.declared.plan.Strike.{Strike}
use Rattle.core_state.specs.Change.{Core}
use Rattle.core_state.specs.Graph.{Setting}
use Rattle.core_state.specs.Lines.{flat, of}
use Rattle.core_state.specs.declared.views.Item.TheVariants as line
use Rattle.core_state.specs.declared.views.View.{View}
use Rattle.core_state.specs.Effects.{elected_of}
use Rattle.core_state.specs.Events.{Event}
use Rattle.core_state.specs.Events.Event.{buy}
use Rattle.recovery.specs.Recovering.{makes_step}
use Rattle.recovery.specs.Resting.{lets_go, phase_rest}
use Rattle.recovery.specs.declared.recover.Phase.TheVariants as phase
use Rattle.recovery.specs.declared.recover.Recover.{Recover}
use Rattle.compute_notify.specs.Items.{is_over}
use Rattle.compute_notify.specs.Tasks.{IsNext, task_items, task_rest, items_rest}
use Rattle.compute_notify.specs.declared.item.Item.{Item}
use Rattle.compute_notify.specs.declared.item.Item.TheVariants as item
use Rattle.compute_notify.specs.declared.task.Task.{Task}
use Rattle.compute_notify.specs.Resting.{LeavesAbove, suspect_rest, step_cost}
use Rattle.compute_notify.proofs.Stacking.{next_alone, rest_behind}
use Rattle.compute_notify.proofs.TaskRests.{before_more}
use Rattle.run_bounds.specs.Doing.Doing.{works}
use Rattle.run_bounds.specs.Light.{lines_weight, task_light}
use Rattle.run_bounds.specs.Shared.{Charge, IsLoser, IsPlain, IsQuiet, IsWinner, KeepsWords, Pays, StandsSeen, is_plain}
use Rattle.run_bounds.specs.Struck.{IsRenewed}

-- a turn of a task that goes on is paid or in vain
abbrev pub Paid : Setting → Core → Core → View → View → List Strike → ℕ → Task → Task → List ℕ → List ℕ → Type 0
Paid e s t v w p most task now hints left = Pays e p most s t (record { view = v; doing = works task; hints = hints }) (record { view = w; doing = works now; hints = left })

-- a closing of a word that stands as it was seen is the next item
pub seen_next : (e : Setting) (p : List Strike) (s : Core) (task : Task) (left : List Item) (y : Item) → IsNext e.graph p (task_items task) left (Some y) → (seen : StandsSeen e p s (works task)) → y ≡ item.Close seen.close
seen_next e p s task left y next seen =
    let same : seen.task ≡ task = (let q = seen.doing_is in cc) in
    let stays : is_over e.graph p (item.Close seen.close) ≡ false = rw (lt-ltb seen.close.word (e.graph.notify_words seen.close.duty.key.0) seen.inside) in
    (next_alone e.graph p left seen.left y (item.Close seen.close) next.0 [] next.2 stays next.3 tt (sym next.1 ∙ ap task_items (sym same) ∙ seen.items_are)).1

-- a plain line is no renewal
pub plain_renews : (v : View) → IsPlain v → (k : ℕ) → IsRenewed v k → ⊥
plain_renews v plain k it = let same : plain.first ∷ plain.below ≡ of (line.Renew k it.life it.done) ∷ it.below = sym plain.top ∙ it.top in let first : plain.first ≡ of (line.Renew k it.life it.done) = cc in let z : true ≡ false = sym plain.plain ∙ ap is_plain first in cc

-- each step costs one at least
pub cost_some : (x : Event) → 1 ≤ step_cost x
cost_some buy = omega arith
cost_some x = omega arith

-- an election that lets its suspect go lets the rest fall by the whole replacement
pub lost_falls : (e : Setting) (p : List Strike) (n : ℕ) (task now : Task) (others : List Item) (r : Recover) → IsNext e.graph p (task_items task) others (Some (item.Recover r)) → LeavesAbove e.graph p n (item.Recover r) others (task_items now) → r.phase ≡ phase.Suspect → makes_step r ≡ true → lets_go r.life r.wait (elected_of r.life n) ≡ true
    → task_rest e p now + suspect_rest e r.key.0 ≤ task_rest e p task
lost_falls e p n task now others r next again at makes goes =
    let all : task_rest e p task ≡ items_rest e p task.hand (others ++ item.Recover r ∷ next.0) = ap (items_rest e p task.hand) next.1 in let more = before_more e p task.hand others (item.Recover r) next.0 in
    let items_now : task_items now ≡ others ++ item.Recover (record r { phase = phase.Over }) ∷ [] = again.items_are ∙ ap (λ xs. others ++ xs) (again.again at makes goes) in
    let whole : task_rest e p now ≡ items_rest e p now.hand (others ++ item.Recover (record r { phase = phase.Over }) ∷ []) = ap (items_rest e p now.hand) items_now in
    let less = rest_behind e p now.hand others (item.Recover (record r { phase = phase.Over })) [] in
    let here : phase_rest e r.key.0 r.phase ≡ suspect_rest e r.key.0 = ap (phase_rest e r.key.0) at in omega (arith, all, more, whole, less, here)

module _ (e : Setting) (s t : Core) (v w : View) (p : List Strike) (most : ℕ) (task now : Task) (hints left : List ℕ) (before : task_rest e p task ≡ task_light e p task + lines_weight e (flat v.stacks)) (later : task_rest e p now ≡ task_light e p now + lines_weight e (flat w.stacks)) where
  pub pays : (cost : ℕ) → Charge e p most s t v w cost → task_light e p now + 3 * length left + 1 ≤ task_light e p task + 3 * length hints + cost → Paid e s t v w p most task now hints left
  pays cost charge less = Pays.moves cost charge less

  -- the rest falls, and the weight doesn't
  pub falls : length left ≡ length hints → lines_weight e (flat v.stacks) ≤ lines_weight e (flat w.stacks) → task_rest e p now + 1 ≤ task_rest e p task → Paid e s t v w p most task now hints left
  falls same more less = pays 0 Charge.nothing (omega (arith, same, more, less, before, later))

  -- the turn is in vain
  pub stalls : length left ≡ length hints → task_light e p now ≤ task_light e p task → v.hands ≡ [] → ((k : ℕ) → IsRenewed v k → ⊥) → (StandsSeen e p s (works task) → ⊥) → KeepsWords e s t → (IsQuiet e s → (IsPlain v × (IsWinner e t w ⊎ StandsSeen e p t (works now))) ⊎ (IsLoser e s v × IsPlain w)) → Paid e s t v w p most task now hints left
  stalls same less free none_renewed not_seen words next = Pays.stalls (let low : task_light e p now + 3 * length left ≤ task_light e p task + 3 * length hints = omega (arith, less, same) in low) (record {
    before = task;
    worked_on = refl;
    task = now;
    works_on = refl;
    same_hints = same;
    free = free;
    none_renewed = none_renewed;
    not_seen = not_seen;
    words = words;
    next = next;
  })
