-- The hints that a turn of a task gives are rows of the table.
use Rattle.std.proofs.Common.{◌≡◌, ◌≢◌, ◌⊎◌, ◌∙◌, ℕ, zero, suc, ◌<◌, ◌≤◌, Bool, true, false, cond, List, [], ◌∷◌, ◌++◌, Some, All, length, slice_index_or, ⊎_elim, inl, inr, ap, subst, sym, refl, arith}
use Rattle.std.proofs.lemmas.List.Elements.{All-pop, All-push}
use mathlib.Core.Bool.{true≢false}
use Rattle.graph_model.specs.Graph.{Graph as TaskGraph}
use Rattle.graph_model.specs.declared.plan.Strike.{Strike}
use Rattle.core_state.specs.Graph.{Graph, Setting}
use Rattle.core_state.specs.declared.views.View.{View}
use Rattle.recovery.specs.declared.recover.Phase.{Phase}
use Rattle.recovery.specs.declared.recover.Phase.TheVariants as replacing
use Rattle.recovery.specs.Recovering.{FitsPhase, turn_hints}
use Rattle.compute_notify.specs.Eventing.{item_hints}
use Rattle.compute_notify.specs.Items.{FitsItem, is_over}
use Rattle.compute_notify.specs.Tasks.{AllOver, FitsAll, FromCredit, Holds, IsNext, task_items}
use Rattle.compute_notify.specs.declared.item.Item.{Item}
use Rattle.compute_notify.specs.declared.item.Item.TheVariants as item
use Rattle.compute_notify.specs.declared.task.Task.{Task}
use Rattle.worker_pool.proofs.Sharing.Hints.{few_hints}

-- the last item that is not over, if there is one
module _ (g : Graph) (p : List Strike) where
  scan : (xs : List Item) → AllOver g p xs ⊎ ((left : List Item) × (x : Item) × IsNext g p xs left (Some x))
  scan [] = inl tt
  scan (x ∷ xs) = ⊎_elim
      (λ over. by over (is_over g p x) refl)
      (λ next. inr (x ∷ next.0, next.1, (next.2.0, ap (λ ys. x ∷ ys) next.2.1, next.2.2, next.2.3)))
      (scan xs)
    where
      by : AllOver g p xs → (b : Bool) → is_over g p x ≡ b → AllOver g p (x ∷ xs) ⊎ ((left : List Item) × (y : Item) × IsNext g p (x ∷ xs) left (Some y))
      by over true is = inl (is, over)
      by over false left = inr ([], x, (xs, refl, left, over))

  -- a task that has some item has a next one, since its credit is never over
  pub has_next : (xs : List Item) → FromCredit xs → xs ≢ [] → (left : List Item) × (x : Item) × IsNext g p xs left (Some x)
  has_next [] bottom some = absurd (some refl)
  has_next (x ∷ xs) bottom some = ⊎_elim
      (λ over. absurd (true≢false (sym over.0 ∙ ap (is_over g p) bottom)))
      (λ next. next)
      (scan (x ∷ xs))

module _ (g : TaskGraph) (e : Setting) (v : View) where
  -- the facts of an item among others
  fits_at : (left : List Item) (x : Item) (gone : List Item) → FitsAll g e v (left ++ x ∷ gone) → FitsItem g e v x
  fits_at [] x gone fits = fits.0
  fits_at (y ∷ left) x gone fits = fits_at left x gone fits.1

  one_row : (row : ℕ) → row < e.shape.rows → (k d : ℕ) → k < length (row ∷ []) → slice_index_or (row ∷ []) k d < e.shape.rows
  one_row row low zero d within = low
  one_row row low (suc k) d within = absurd (omega (arith, within))

  no_rows : All (λ r. r < e.shape.rows) []
  no_rows = λ k d within. absurd (omega (arith, within))

  owed_row : (b : Bool) (row : ℕ) → row < e.shape.rows → All (λ r. r < e.shape.rows) (cond b ([] ++ row ∷ []) [])
  owed_row true row low = one_row row low
  owed_row false row low = no_rows

  phase_rows : (k l lives : ℕ) (p : Phase) → FitsPhase g e v k l lives p → All (λ r. r < e.shape.rows) (turn_hints p [])
  phase_rows k l lives (replacing.Owe owe behind) fits = owed_row owe.bought owe.row fits.0.known.low
  phase_rows k l lives _ fits = no_rows

  -- a turn of an item hints at rows of the table alone
  hinted_rows : (x : Item) → FitsItem g e v x → All (λ r. r < e.shape.rows) (item_hints x [])
  hinted_rows (item.Owe o) fits = owed_row o.bought o.row fits.known.low
  hinted_rows (item.Recover r) fits = phase_rows r.key.0 r.life r.lives r.phase fits.in_phase
  hinted_rows item.Credit fits = no_rows
  hinted_rows (item.Explore x) fits = no_rows
  hinted_rows (item.Compute c) fits = no_rows
  hinted_rows (item.Close c) fits = no_rows
  hinted_rows (item.Notify n) fits = no_rows
  hinted_rows (item.Look x) fits = no_rows

  -- so does a turn of a task
  pub turn_rows : (p : List Strike) (t : Task) (rows now : List ℕ) → Holds g e v t → task_items t ≢ [] → rows ≡ [] → ((left : List Item) (x : Item) → IsNext e.graph p (task_items t) left (Some x) → now ≡ item_hints x rows) → All (λ r. r < e.shape.rows) now
  turn_rows p t rows now holds some none hinted = let next = has_next e.graph p (task_items t) holds.bottom some in
      subst (All (λ r. r < e.shape.rows)) (sym (hinted next.0 next.1 next.2 ∙ ap (item_hints next.1) none))
      (hinted_rows next.1 (fits_at next.0 next.1 next.2.0 (subst (FitsAll g e v) next.2.1 holds.fits)))

-- a turn of a task brings few of them
pub turn_few : (g : Graph) (p : List Strike) (t : Task) (rows now : List ℕ) → FromCredit (task_items t) → task_items t ≢ [] → rows ≡ [] → ((left : List Item) (x : Item) → IsNext g p (task_items t) left (Some x) → now ≡ item_hints x rows) → length now ≤ 2
turn_few g p t rows now bottom some none hinted = let next = has_next g p (task_items t) bottom some in
    let few = few_hints next.1 in let is : length now ≡ length (item_hints next.1 []) = ap length (hinted next.0 next.1 next.2 ∙ ap (item_hints next.1) none) in omega (arith, few, is)

-- a row that was posted is kept, and the others are rows still
pub kept_rows : (rows row : ℕ) (hints now posted left : List ℕ) → now ≡ hints ++ row ∷ [] → posted ≡ left ++ row ∷ [] → All (λ r. r < rows) hints → All (λ r. r < rows) posted → All (λ r. r < rows) now × All (λ r. r < rows) left
kept_rows rows row hints now posted left is split all given = let rest : All (λ r. r < rows) left × (row < rows) = All-pop (λ r. r < rows) posted left (Some row) split given in
    (subst (λ (xs : List ℕ). All (λ r. r < rows) xs) (sym is) (All-push (λ r. r < rows) hints row all rest.1), rest.0)
