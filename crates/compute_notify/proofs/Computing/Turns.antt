-- A computing's whole turn, from that of its phase: what was prepared, the kernel's calls and the event.
use Rattle.std.proofs.Common.{◌≡◌, ℕ, ◌+◌, ◌-◌, ◌*◌, ◌<◌, ◌≤◌, Bool, true, false, ◌&&◌, not, cond, eqb, List, [], Option, None, arith, ap, sym, ◌∙◌, subst}
use Rattle.std.proofs.lemmas.Bool.{le-ltb, lt-ltb}
use Rattle.graph_model.specs.Graph.{Graph as TaskGraph}
use Rattle.graph_model.specs.Notes.{Note, noted as told_note}
use Rattle.graph_model.specs.declared.plan.Strike.{Strike}
use Rattle.core_state.specs.Effects.{after_computed}
use Rattle.core_state.specs.Graph.{Graph, Setting}
use Rattle.core_state.specs.Events.{Event}
use Rattle.core_state.specs.Lines.{Line, HasLines}
use Rattle.core_state.specs.Rooted.{root_key}
use Rattle.core_state.specs.declared.block.BlockCells.{BlockCells}
use Rattle.core_state.specs.declared.views.View.{View}
use Rattle.core_steps.specs.Seat.{IsSameTable}
use Rattle.compute_notify.specs.Eventing.{calls_after, compute_event, computes, prepared, reading_event, writing_event}
use Rattle.compute_notify.specs.Items.{Goes}
use Rattle.compute_notify.specs.Resting.{closing_rest, held, item_rest, phase_rest}
use Rattle.compute_notify.specs.Stepping.{HasStepped}
use Rattle.compute_notify.specs.Working.{ComputeHand, FitsTop, HasBlock}
use Rattle.compute_notify.specs.declared.compute.Compute.{Compute}
use Rattle.compute_notify.specs.declared.compute.Phase.TheVariants as phase
use Rattle.compute_notify.specs.declared.item.After.{After}
use Rattle.compute_notify.specs.declared.item.Item.TheVariants as item
use Rattle.compute_notify.proofs.Computing.Writes.{made_of}

-- The result is made once all inputs are read.
module _ (g : Graph) (c : Compute) where
  pub ready_quiet : (made : ℕ) → c.phase ≡ phase.Ready made → computes g c c.phase ≡ false
  ready_quiet made is = ap (computes g c) is

  pub reading_quiet : (input : ℕ) → c.phase ≡ phase.Reading input → input < g.inputs c.duty.key.0 → computes g c c.phase ≡ false
  reading_quiet input is low = ap (computes g c) is ∙ ap not (lt-ltb input (g.inputs c.duty.key.0) low)

  pub writing_quiet : c.phase ≡ phase.Writing → computes g c c.phase ≡ false
  writing_quiet is = ap (computes g c) is

  pub reading_makes : (input : ℕ) → c.phase ≡ phase.Reading input → g.inputs c.duty.key.0 ≤ input → computes g c c.phase ≡ true
  reading_makes input is high = ap (computes g c) is ∙ ap not (le-ltb input (g.inputs c.duty.key.0) high)

  pub same_view : computes g c c.phase ≡ false → (v : View) → prepared g c v ≡ v
  same_view quiet v = ap (λ (b : Bool). cond b (after_computed c.duty.key.0 c.duty.life v) v) quiet

  pub same_calls : computes g c c.phase ≡ false → (calls : Option (List Note)) → calls_after g c calls ≡ calls
  same_calls quiet calls = ap (λ (b : Bool). cond (b && not (eqb c.duty.key.0 root_key)) (told_note calls (c.duty.key.0, c.duty.life)) calls) quiet

  pub made_view : computes g c c.phase ≡ true → (v : View) → prepared g c v ≡ after_computed c.duty.key.0 c.duty.life v
  made_view loud v = ap (λ (b : Bool). cond b (after_computed c.duty.key.0 c.duty.life v) v) loud

  pub made_calls : computes g c c.phase ≡ true → (calls : Option (List Note)) → calls_after g c calls ≡ cond (not (eqb c.duty.key.0 root_key)) (told_note calls (c.duty.key.0, c.duty.life)) calls
  made_calls loud calls = ap (λ (b : Bool). cond (b && not (eqb c.duty.key.0 root_key)) (told_note calls (c.duty.key.0, c.duty.life)) calls) loud

-- A result that is written in the turn in which it was made, or in a later one.
module _ (e : Setting) (v : View) (strikes : List Strike) (c : Compute) where
  pub writes_now : (input : ℕ) (h now : Option BlockCells) → c.phase ≡ phase.Reading input → e.graph.inputs c.duty.key.0 ≤ input → writing_event e h now c.duty ≡ compute_event e v strikes h now c
  writes_now input h now is high = ap (λ (t : Bool). cond t (reading_event (e.graph.block (e.graph.pred c.duty.key.0 input).task) h now) (writing_event e h now c.duty)) (sym (le-ltb input (e.graph.inputs c.duty.key.0) high))
      ∙ ap (λ q. compute_event e v strikes h now (record c { phase = q })) (sym is)

  pub writes_later : (h now : Option BlockCells) → c.phase ≡ phase.Writing → writing_event e h now c.duty ≡ compute_event e v strikes h now c
  writes_later h now is = ap (λ q. compute_event e v strikes h now (record c { phase = q })) (sym is)

  made_weighs : (i h r k : ℕ) → (2 * (i - i) + 2 - h) + (r + 2) + k ≡ (2 - h) + (r + 2) + k
  made_weighs i h r k = omega arith

  -- the making of the result is no step
  pub made_rest : (h : Option BlockCells) → c.phase ≡ phase.Reading (e.graph.inputs c.duty.key.0) → item_rest e strikes h (item.Compute c) ≡ item_rest e strikes h (item.Compute (made_of c))
  made_rest h is = ap (λ q. phase_rest e strikes h c.duty q + closing_rest e strikes c.duty) is ∙ made_weighs (e.graph.inputs c.duty.key.0) (held h) e.shape.rows (closing_rest e strikes c.duty)

-- all inputs were read
pub all_read : (input inputs : ℕ) → input ≤ inputs → inputs ≤ input → input ≡ inputs
all_read input inputs low high = omega (arith, low, high)

-- what an item leaves, from the lines before the making of its result
pub goes_from : (g : TaskGraph) (e : Setting) (u v w : View) (before made : List Line → List Line) (now : After) → ((b : List Line) → HasLines e u (before b) → HasLines e v (made b)) → Goes g e v w made now → Goes g e u w before now
goes_from g e u v w before made now makes goes = record { lines = λ b old. goes.lines b (makes b old); left = goes.left; came = goes.came; credits = goes.credits }

module _ {S : Type 0} {setting : S → Setting} {view : S → View} {made spare : S → ℕ} {last shown : S → ℕ × ℕ} {happened : S → Event → ℕ → S → Type 0} {lender : S → List ℕ} {others : S → List View} where
  -- the same step by another name, where nothing was prepared
  pub stepped_plain : {x : Event} {s t : S} (prepare : View → View) (y : Event) → HasStepped setting view made spare last shown happened lender others (λ v. v) x s t → prepare (view s) ≡ view s → x ≡ y → HasStepped setting view made spare last shown happened lender others prepare y s t
  stepped_plain {x} {s} {t} prepare y did quiet same = subst (λ z. HasStepped setting view made spare last shown happened lender others prepare z s t) same (record {
    ready = did.ready;
    prepared_is = did.prepared_is ∙ sym quiet;
    same_setting = did.same_setting;
    same_made = did.same_made;
    same_last = did.same_last;
    same_lender = did.same_lender;
    same_others = did.same_others;
    step = did.step;
    room = did.room;
  })

  -- a step after the result was made
  pub stepped_made : {x : Event} {s m t : S} (prepare : View → View) (y : Event) → view m ≡ prepare (view s) → made m ≡ made s → last m ≡ last s → IsSameTable setting view lender others s m → spare s ≤ spare m + 1 → spare m ≤ spare t + 1
      → HasStepped setting view made spare last shown happened lender others (λ v. v) x m t → x ≡ y → HasStepped setting view made spare last shown happened lender others prepare y s t
  stepped_made {x} {s} {m} {t} prepare y seen same_made same_last table used more did same = subst (λ z. HasStepped setting view made spare last shown happened lender others prepare z s t) same (record {
    ready = did.ready;
    prepared_is = did.prepared_is ∙ seen;
    same_setting = did.same_setting ∙ table.same_setting;
    same_made = did.same_made ∙ same_made;
    same_last = did.same_last ∙ same_last;
    same_lender = did.same_lender ∙ table.same_lender;
    same_others = did.same_others ∙ table.same_others;
    step = did.step;
    room = omega (arith, used, more);
  })

-- While all inputs are read and the result isn't made, no block is in hand; nor is one once it was made.
pub made_hand : (e : Setting) (v w : View) (c : Compute) (h : Option BlockCells) → c.phase ≡ phase.Reading (e.graph.inputs c.duty.key.0) → w ≡ after_computed c.duty.key.0 c.duty.life v → FitsTop e v h (item.Compute c) → HasBlock e w (e.graph.block c.duty.key.0) h
made_hand e v w c h reading is top =
    let n : ℕ = e.graph.inputs c.duty.key.0 in
    let free : (v.hands ≡ []) × (h ≡ None) = subst (λ (t : Bool). cond t (HasBlock e v (e.graph.block (e.graph.pred c.duty.key.0 n).task) h) ((v.hands ≡ []) × (h ≡ None))) (le-ltb n n (omega arith)) (subst (λ q. ComputeHand e v c.duty q h) reading top) in
    subst (HasBlock e w (e.graph.block c.duty.key.0)) (sym free.1) (ap (λ (u : View). u.hands) is ∙ free.0)
