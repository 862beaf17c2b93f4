-- The workers of a table as the charges see them: each with its view, its doing and its hints.
use Rattle.std.proofs.Common.{◌≡◌, ◌≢◌, ◌∙◌, ℕ, zero, suc, Bool, true, false, cond, List, [], ◌∷◌, Some, length, map, set, slice_get, inl, inr, ap, subst, sym, refl, arith}
use Rattle.std.specs.List.{sum_by}
use Rattle.std.proofs.lemmas.List.Sums.{sum_by-cons}
use Rattle.std.proofs.lemmas.Option.{none-some, same_Some}
use Rattle.graph_model.specs.Graph.{Graph as TaskGraph}
use Rattle.core_state.specs.Counts.{total_of}
use Rattle.core_state.specs.Graph.{Graph, Plan, Setting}
use Rattle.core_state.specs.Lines.{Line, credit, of, settled}
use Rattle.core_state.specs.Views.{is_finished}
use Rattle.core_state.specs.declared.views.View.{View}
use Rattle.core_steps.specs.Table.{view_in}
use Rattle.recovery.specs.Recovering.{phase_lines}
use Rattle.recovery.specs.declared.recover.Phase.{Phase}
use Rattle.recovery.specs.declared.recover.Phase.TheVariants as replacing
use Rattle.graph_model.specs.declared.record.Cause.{Cause}
use Rattle.compute_notify.specs.Items.{compute_lines, item_lines}
use Rattle.compute_notify.specs.Tasks.{FromCredit, stacked, task_items}
use Rattle.compute_notify.specs.declared.compute.Phase.{Phase as Computing}
use Rattle.compute_notify.specs.declared.compute.Phase.TheVariants as computing
use Rattle.compute_notify.specs.declared.duty.Duty.{Duty}
use Rattle.compute_notify.specs.declared.item.Item.{Item}
use Rattle.compute_notify.specs.declared.item.Item.TheVariants as item
use Rattle.run_bounds.specs.Shared.{Actor, AreHeld, IsHeld}
use Rattle.worker_pool.specs.Pooling.{OthersStay, WorkersHold}
use Rattle.worker_pool.specs.Sharing.{actor_of, actors_of, all_hints, doing_of}
use Rattle.worker_pool.specs.Working.{WorkHolds}
use Rattle.worker_pool.specs.declared.worker.Work.{Work}
use Rattle.worker_pool.specs.declared.worker.Work.TheVariants as work
use Rattle.worker_pool.specs.declared.worker.Worker.{Worker}

-- as many as there are views
pub actors_many : (vs : List View) (ws : List Worker) → length ws ≡ length vs → length (actors_of vs ws) ≡ length vs
actors_many [] ws many = refl
actors_many (v ∷ vs) [] many = absurd (omega (arith, many))
actors_many (v ∷ vs) (w ∷ ws) many = let a = actors_many vs ws (omega (arith, many)) in omega (arith, a)

-- the one at a place
pub actor_at : (vs : List View) (ws : List Worker) (i : ℕ) (w : Worker) → length ws ≡ length vs → slice_get ws i ≡ Some w → slice_get (actors_of vs ws) i ≡ Some (actor_of (view_in vs i) w)
actor_at [] [] i w many at = absurd (none-some w at)
actor_at [] (x ∷ ws) i w many at = absurd (omega (arith, many))
actor_at (v ∷ vs) [] i w many at = absurd (none-some w at)
actor_at (v ∷ vs) (x ∷ ws) zero w many at = ap (λ (y : Worker). Some (actor_of v y)) (same_Some x w at)
actor_at (v ∷ vs) (x ∷ ws) (suc i) w many at = actor_at vs ws i w (omega (arith, many)) at

-- whoever stands at a place is its worker
pub worker_at : (vs : List View) (ws : List Worker) (i : ℕ) (a : Actor) → slice_get (actors_of vs ws) i ≡ Some a → (w : Worker) × (slice_get ws i ≡ Some w) × (actor_of (view_in vs i) w ≡ a)
worker_at [] ws i a at = absurd (none-some a at)
worker_at (v ∷ vs) [] i a at = absurd (none-some a at)
worker_at (v ∷ vs) (w ∷ ws) zero a at = (w, refl, same_Some (actor_of v w) a at)
worker_at (v ∷ vs) (w ∷ ws) (suc i) a at = worker_at vs ws i a at

-- the sum over all views
pub all_views : (vs : List View) (ws : List Worker) (f : View → ℕ) → length ws ≡ length vs → total_of vs f ≡ sum_by (λ (a : Actor). f a.view) (actors_of vs ws)
unfolding total_of
all_views [] ws f many = refl
all_views (v ∷ vs) [] f many = absurd (omega (arith, many))
all_views (v ∷ vs) (w ∷ ws) f many = let a = all_views vs ws f (omega (arith, many)) in let b = sum_by-cons (λ (x : Actor). f x.view) (actor_of v w) (actors_of vs ws) in omega (arith, a, b)

-- lists of views with the same view at each place
same_views : (vs us : List View) → length us ≡ length vs → ((i : ℕ) → view_in us i ≡ view_in vs i) → us ≡ vs
same_views [] [] many each = refl
same_views [] (u ∷ us) many each = absurd (omega (arith, many))
same_views (v ∷ vs) [] many each = absurd (omega (arith, many))
same_views (v ∷ vs) (u ∷ us) many each = ap (λ (x : View). x ∷ us) (each 0) ∙ ap (λ (xs : List View). v ∷ xs) (same_views vs us (omega (arith, many)) (λ i. each (suc i)))

-- after a turn of one of them
pub actors_set : (vs us : List View) (ws : List Worker) (i : ℕ) (w : Worker) → OthersStay vs us i → length ws ≡ length vs → actors_of us (set ws i w) ≡ set (actors_of vs ws) i (actor_of (view_in us i) w)
actors_set [] [] ws i w stay many = refl
actors_set [] (u ∷ us) ws i w stay many = absurd (let a = stay.same_count in omega (arith, a))
actors_set (v ∷ vs) [] ws i w stay many = absurd (let a = stay.same_count in omega (arith, a))
actors_set (v ∷ vs) (u ∷ us) [] i w stay many = absurd (omega (arith, many))
actors_set (v ∷ vs) (u ∷ us) (x ∷ ws) zero w stay many = ap (λ (xs : List View). actor_of u w ∷ actors_of xs ws) (same_views vs us (let a = stay.same_count in omega (arith, a)) (λ i. stay.others (suc i) (λ e. omega (arith, e))))
actors_set (v ∷ vs) (u ∷ us) (x ∷ ws) (suc i) w stay many = ap (λ (y : View). actor_of y x ∷ actors_of us (set ws i w)) (stay.others 0 (λ e. omega (arith, e)))
    ∙ ap (λ (xs : List Actor). actor_of v x ∷ xs) (actors_set vs us ws i w (record { same_count = let a = stay.same_count in omega (arith, a); others = λ j ne. stay.others (suc j) (λ e. ne (omega (arith, e))) }) (omega (arith, many)))

-- the same by their views, works and hints
actors_by : List View → List Work → List (List ℕ) → List Actor
actors_by [] xs hs = []
actors_by (v ∷ vs) [] hs = []
actors_by (v ∷ vs) (x ∷ xs) [] = []
actors_by (v ∷ vs) (x ∷ xs) (h ∷ hs) = record { view = v; doing = doing_of x; hints = h } ∷ actors_by vs xs hs

by_parts : (vs : List View) (ws : List Worker) → actors_of vs ws ≡ actors_by vs (map (λ (w : Worker). w.work) ws) (all_hints ws)
unfolding actors_by
by_parts [] ws = refl
by_parts (v ∷ vs) [] = refl
by_parts (v ∷ vs) (w ∷ ws) = ap (λ (xs : List Actor). actor_of v w ∷ xs) (by_parts vs ws)

set_part : (vs : List View) (xs : List Work) (hs : List (List ℕ)) (i : ℕ) (left : List ℕ) (c : Actor) → slice_get (actors_by vs xs hs) i ≡ Some c → actors_by vs xs (set hs i left) ≡ set (actors_by vs xs hs) i (record c { hints = left })
unfolding actors_by
set_part [] xs hs i left c at = refl
set_part (v ∷ vs) [] hs i left c at = refl
set_part (v ∷ vs) (x ∷ xs) [] i left c at = refl
set_part (v ∷ vs) (x ∷ xs) (h ∷ hs) zero left c at = ap (λ (a : Actor). record a { hints = left } ∷ actors_by vs xs hs) (same_Some (record { view = v; doing = doing_of x; hints = h }) c at)
set_part (v ∷ vs) (x ∷ xs) (h ∷ hs) (suc i) left c at = ap (λ (as' : List Actor). record { view = v; doing = doing_of x; hints = h } ∷ as') (set_part vs xs hs i left c at)

module _ (vs : List View) (ws us : List Worker) (works_stay : map (λ (w : Worker). w.work) us ≡ map (λ (w : Worker). w.work) ws) where
  -- nothing has changed
  pub actors_stay : all_hints us ≡ all_hints ws → actors_of vs us ≡ actors_of vs ws
  actors_stay hints_stay = by_parts vs us ∙ ap (λ (xs : List Work). actors_by vs xs (all_hints us)) works_stay ∙ ap (actors_by vs (map (λ (w : Worker). w.work) ws)) hints_stay ∙ sym (by_parts vs ws)

  -- one has other hints
  pub actors_taken : (i : ℕ) (left : List ℕ) (c : Actor) → slice_get (actors_of vs ws) i ≡ Some c → all_hints us ≡ set (all_hints ws) i left → actors_of vs us ≡ set (actors_of vs ws) i (record c { hints = left })
  actors_taken i left c at taken = by_parts vs us ∙ ap (λ (xs : List Work). actors_by vs xs (all_hints us)) works_stay ∙ ap (actors_by vs (map (λ (w : Worker). w.work) ws)) taken
      ∙ set_part vs (map (λ (w : Worker). w.work) ws) (all_hints ws) i left c (ap (λ (xs : List Actor). slice_get xs i) (sym (by_parts vs ws)) ∙ at) ∙ ap (λ (xs : List Actor). set xs i (record c { hints = left })) (sym (by_parts vs ws))

-- a credit stands among lines
HasCredit : List Line → Type 0
HasCredit [] = ⊥
HasCredit (credit ∷ b) = Unit {0}
HasCredit (of x ∷ b) = HasCredit b

-- lines of an item stand above it
phase_credit : (g : Graph) (k l : ℕ) (c : Cause) (waits : Bool) (x : Phase) (b : List Line) → HasCredit b → HasCredit (phase_lines g k l c waits x b)
unfolding HasCredit
phase_credit g k l c waits replacing.Suspect b has = has
phase_credit g k l c waits (replacing.Renew done) b has = has
phase_credit g k l c waits replacing.Finish b has = has
phase_credit g k l c waits (replacing.Owe owe behind) b has = has
phase_credit g k l c waits (replacing.Reenter reenter) b has = has
phase_credit g k l c waits replacing.Passed b has = has
phase_credit g k l c waits replacing.Over b has = has

computing_credit : (g : Graph) (duty : Duty) (x : Computing) (b : List Line) → HasCredit b → HasCredit (compute_lines g duty x b)
unfolding HasCredit
computing_credit g duty (computing.Ready made) b has = has
computing_credit g duty (computing.Reading input) b has = has
computing_credit g duty computing.Writing b has = has

item_credit : (g : Graph) (x : Item) (b : List Line) → HasCredit b → HasCredit (item_lines g x b)
unfolding HasCredit
item_credit g item.Credit b has = tt
item_credit g (item.Explore x) b has = has
item_credit g (item.Compute c) b has = computing_credit g c.duty c.phase b has
item_credit g (item.Close c) b has = has
item_credit g (item.Notify n) b has = has
item_credit g (item.Look x) b has = has
item_credit g (item.Owe o) b has = has
item_credit g (item.Recover r) b has = phase_credit g r.key.0 r.life r.cause r.wait r.phase b has

stacked_credit : (g : Graph) (xs : List Item) (b : List Line) → HasCredit b → HasCredit (stacked g xs b)
stacked_credit g [] b has = has
stacked_credit g (x ∷ xs) b has = stacked_credit g xs (item_lines g x b) (item_credit g x b has)

-- so some line is left
settled_some : (g : Graph) (p : Plan) (made : List ℕ) (ls : List Line) → HasCredit ls → (y : Line) × (b : List Line) × (settled g p made ls ≡ y ∷ b)
unfolding HasCredit
settled_some g p made [] has = absurd has
settled_some g p made (credit ∷ b) has = (credit, b, refl)
settled_some g p made (of x ∷ b) has = by (settled_some g p made b has) (is_finished g p made x)
  where
    by : (y : Line) × (c : List Line) × (settled g p made b ≡ y ∷ c) → (d : Bool) → (y : Line) × (c : List Line) × (cond d (settled g p made b) (of x ∷ b) ≡ y ∷ c)
    by rest true = rest
    by rest false = (of x, b, refl)

-- the first item is the task's credit
items_credit : (g : Graph) (xs : List Item) → FromCredit xs → xs ≢ [] → HasCredit (stacked g xs [])
unfolding HasCredit
items_credit g [] bottom some = absurd (some refl)
items_credit g (x ∷ xs) bottom some = stacked_credit g xs (item_lines g x []) (subst (λ (y : Item). HasCredit (item_lines g y [])) (sym bottom) tt)

-- a worker holds what the charges want of it
work_held : (g : TaskGraph) (e : Setting) (v : View) (x : Work) (hints : List ℕ) → WorkHolds g e v x → IsHeld (record { view = v; doing = doing_of x; hints = hints })
work_held g e v work.Idle hints holds = inr ((λ task is. cc), holds.no_stacks, holds.no_credit, holds.no_hands)
work_held g e v (work.Serve row key i) hints holds = inr ((λ task is. cc), holds.0.no_stacks, holds.0.no_credit, holds.0.no_hands)
work_held g e v (work.Busy t) hints holds = let some = settled_some e.graph e.plan v.strikes (stacked e.graph (task_items t) []) (items_credit e.graph (task_items t) holds.0.bottom holds.1) in inl (t, refl, some.0, some.1, holds.0.lines.lines_are ∙ some.2)

pub actors_held : (g : TaskGraph) (e : Setting) (vs : List View) (ws : List Worker) → WorkersHold g e vs ws → AreHeld (actors_of vs ws)
actors_held g e vs ws hold = λ i a at. let here = worker_at vs ws i a at in subst IsHeld here.2 (work_held g e (view_in vs i) here.0.work here.0.hints.items (hold.each i here.0 here.1).work)
