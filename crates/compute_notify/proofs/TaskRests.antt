-- How much of a task is left: the sum over its items falls as that of the topmost one does.
use Rattle.std.proofs.Common.{◌≡◌, ⊎_elim, inl, inr, ℕ, ◌+◌, ◌≤◌, List, [], ◌∷◌, ◌++◌, Option, Some, None, refl, ap, sym, ◌∙◌, subst, arith}
use Rattle.graph_model.specs.Graph.{Graph as TaskGraph}
use Rattle.graph_model.specs.declared.plan.Strike.{Strike}
use Rattle.core_state.specs.Graph.{Setting}
use Rattle.core_state.specs.Events.{Event}
use Rattle.core_state.specs.declared.block.BlockCells.{BlockCells}
use Rattle.core_state.specs.declared.views.View.{View}
use Rattle.compute_notify.specs.Resting.{FallsGood, LetsFall, after_rest, came_rest, item_rest, phase_rest}
use Rattle.compute_notify.specs.Tasks.{HasTurned, IsNext, after_items, begun_items, came_items, items_rest, some_list, task_items, task_rest}
use Rattle.compute_notify.specs.Working.{came_hand}
use Rattle.compute_notify.specs.declared.compute.Phase.{Phase}
use Rattle.compute_notify.specs.declared.compute.Phase.TheVariants as phase
use Rattle.compute_notify.specs.declared.duty.Duty.{Duty}
use Rattle.compute_notify.specs.declared.item.After.{After}
use Rattle.compute_notify.specs.declared.item.Came.{Came}
use Rattle.compute_notify.specs.declared.item.Came.TheVariants as came
use Rattle.compute_notify.specs.declared.item.Item.{Item}
use Rattle.compute_notify.specs.declared.item.Item.TheVariants as item
use Rattle.compute_notify.specs.declared.scratch.Scratch.{Scratch}
use Rattle.compute_notify.specs.declared.task.Task.{Task}
use Rattle.recovery.specs.declared.turn.Turn.{Turn}
use Rattle.compute_notify.proofs.Stacking.{low_rest, none_behind, rest_behind, rest_low}

-- what comes behind a list is told by the whole
pub same_behind : {X : Type 0} (xs ys zs : List X) → xs ++ ys ≡ xs ++ zs → ys ≡ zs
same_behind [] ys zs same = same
same_behind (x ∷ xs) ys zs same = same_behind xs ys zs cc

module _ (e : Setting) (p : List Strike) where
  -- a block in hand spares a step
  phase_less : (h : Option BlockCells) (duty : Duty) (y : Phase) → phase_rest e p h duty y ≤ phase_rest e p None duty y
  phase_less h duty (phase.Ready made) = omega arith
  phase_less h duty (phase.Reading input) = omega arith
  phase_less h duty phase.Writing = omega arith

  item_less : (h : Option BlockCells) (x : Item) → item_rest e p h x ≤ item_rest e p None x
  item_less h item.Credit = omega arith
  item_less h (item.Explore x) = omega arith
  item_less h (item.Compute c) = let a = phase_less h c.duty c.phase in omega (arith, a)
  item_less h (item.Close c) = omega arith
  item_less h (item.Notify n) = omega arith
  item_less h (item.Look k) = omega arith
  item_less h (item.Owe o) = omega arith
  item_less h (item.Recover r) = omega arith

  -- the items that a turn leaves have the rest of what it leaves
  rest_as : (h : Option BlockCells) (l : Option Item) (c : Came) → items_rest e p h (some_list l ++ came_items c) ≡ came_rest e p h c l
  rest_as h None came.Nothing = refl
  rest_as h None (came.Above x) = omega arith
  rest_as h None (came.Stack x) = omega arith
  rest_as h None (came.Spent k i c) = refl
  rest_as h (Some y) came.Nothing = refl
  rest_as h (Some y) (came.Above x) = omega arith
  rest_as h (Some y) (came.Stack x) = omega arith
  rest_as h (Some y) (came.Spent k i c) = refl

  pub left_falls : (x : Event) (n before : ℕ) (h : Option BlockCells) (a : After) (others now left : List Item) → now ≡ others ++ after_items a → now ≡ others ++ left → LetsFall e p x n before (after_rest e p h a) → LetsFall e p x n before (items_rest e p h left)
  left_falls x n before h a others now left are is falls =
      let same : after_items a ≡ left = same_behind others (after_items a) left (sym are ∙ is) in
      subst (LetsFall e p x n before) (sym (rest_as h a.left a.came) ∙ ap (items_rest e p h) same) falls

  -- with others below
  raised : (x : Event) (n before now low total whole : ℕ) → low + before ≤ total → whole ≤ low + now → LetsFall e p x n before now → LetsFall e p x n total whole
  raised x n before now low total whole below above falls = ⊎_elim
      (λ less. inl (omega (arith, below, above, less)))
      (λ more. inr (more.0, more.1, (let m = more.2 in omega (arith, below, above, m))))
      falls

  pub before_more : (h : Option BlockCells) (left : List Item) (x : Item) (gone : List Item) → low_rest e p left + item_rest e p h x ≤ items_rest e p h (left ++ x ∷ gone)
  before_more h left x [] = let a = rest_behind e p h left x [] in omega (arith, a)
  before_more h left x (y ∷ ys) = let a = rest_behind e p h left x (y ∷ ys) in let b = item_less h x in omega (arith, a, b)

  now_less : (v : View) (h : Option BlockCells) (left : List Item) (l : Option Item) (c : Came) → came_hand e v h c l → items_rest e p h (left ++ (some_list l ++ came_items c)) ≤ low_rest e p left + items_rest e p h (some_list l ++ came_items c)
  now_less v h left None came.Nothing top = let a = ap (items_rest e p h) (none_behind left) ∙ ap (λ o. items_rest e p o left) top.1 ∙ rest_low e p left in omega (arith, a)
  now_less v h left None (came.Above x) top = let a = rest_behind e p h left x [] in omega (arith, a)
  now_less v h left None (came.Stack x) top = let a = rest_behind e p h left item.Credit (x ∷ []) in omega (arith, a)
  now_less v h left None (came.Spent k i c) top = let a = ap (items_rest e p h) (none_behind left) ∙ ap (λ o. items_rest e p o left) top.1 ∙ rest_low e p left in omega (arith, a)
  now_less v h left (Some y) came.Nothing top = let a = rest_behind e p h left y [] in omega (arith, a)
  now_less v h left (Some y) (came.Above x) top = let a = rest_behind e p h left y (x ∷ []) in omega (arith, a)
  now_less v h left (Some y) (came.Stack x) top = let a = rest_behind e p h left y (item.Credit ∷ x ∷ []) in omega (arith, a)
  now_less v h left (Some y) (came.Spent k i c) top = let a = rest_behind e p h left y [] in omega (arith, a)

  pub task_falls : (g : TaskGraph) (v w : View) (y : Event) (n : ℕ) (t now : Task) (left : List Item) (x : Item) (s : Scratch) (told : Turn) → IsNext e.graph p (task_items t) left (Some x) → HasTurned g e v w x left now s told
      → ((rest : List Item) → now.items.items ≡ left ++ rest → LetsFall e p y n (item_rest e p t.hand x) (items_rest e p now.hand rest)) → LetsFall e p y n (task_rest e p t) (task_rest e p now)
  task_falls g v w y n t now left x s told next turned falls =
      let a = turned.after in
      let items_now : task_items now ≡ left ++ after_items a = ap (λ o. begun_items o now.items.items) turned.not_begun ∙ turned.items_are in
      let all : task_rest e p t ≡ items_rest e p t.hand (left ++ x ∷ next.0) = ap (items_rest e p t.hand) next.1 in
      let whole : task_rest e p now ≡ items_rest e p now.hand (left ++ after_items a) = ap (items_rest e p now.hand) items_now in
      let more = before_more t.hand left x next.0 in let less = now_less w now.hand left a.left a.came turned.top in
      raised y n (item_rest e p t.hand x) (items_rest e p now.hand (after_items a)) (low_rest e p left) (task_rest e p t) (task_rest e p now) (omega (arith, all, more)) (omega (arith, whole, less)) (falls (after_items a) turned.items_are)

  -- a good input lets the rest of the whole task fall
  pub good_more : (h : Option BlockCells) (x : Item) (before now low total whole : ℕ) → low + before ≤ total → whole ≤ low + now → FallsGood e h x before now → FallsGood e h x total whole
  good_more h (item.Compute c) before now low total whole below above falls = λ reads. let a = falls reads in omega (arith, a, below, above)
  good_more h item.Credit before now low total whole below above falls = tt
  good_more h (item.Explore x) before now low total whole below above falls = tt
  good_more h (item.Close c) before now low total whole below above falls = tt
  good_more h (item.Notify n) before now low total whole below above falls = tt
  good_more h (item.Look k) before now low total whole below above falls = tt
  good_more h (item.Owe o) before now low total whole below above falls = tt
  good_more h (item.Recover r) before now low total whole below above falls = tt

  pub left_good : (h now_h : Option BlockCells) (x : Item) (before : ℕ) (a : After) (others now left : List Item) → now ≡ others ++ after_items a → now ≡ others ++ left → FallsGood e h x before (after_rest e p now_h a) → FallsGood e h x before (items_rest e p now_h left)
  left_good h now_h x before a others now left are is falls =
      let same : after_items a ≡ left = same_behind others (after_items a) left (sym are ∙ is) in
      subst (FallsGood e h x before) (sym (rest_as now_h a.left a.came) ∙ ap (items_rest e p now_h) same) falls

  pub task_good : (g : TaskGraph) (v w : View) (t now : Task) (left : List Item) (x : Item) (s : Scratch) (told : Turn) → IsNext e.graph p (task_items t) left (Some x) → HasTurned g e v w x left now s told
      → ((rest : List Item) → now.items.items ≡ left ++ rest → FallsGood e t.hand x (item_rest e p t.hand x) (items_rest e p now.hand rest)) → FallsGood e t.hand x (task_rest e p t) (task_rest e p now)
  task_good g v w t now left x s told next turned falls =
      let a = turned.after in
      let items_now : task_items now ≡ left ++ after_items a = ap (λ o. begun_items o now.items.items) turned.not_begun ∙ turned.items_are in
      let all : task_rest e p t ≡ items_rest e p t.hand (left ++ x ∷ next.0) = ap (items_rest e p t.hand) next.1 in
      let whole : task_rest e p now ≡ items_rest e p now.hand (left ++ after_items a) = ap (items_rest e p now.hand) items_now in
      let more = before_more t.hand left x next.0 in let less = now_less w now.hand left a.left a.came turned.top in
      good_more t.hand x (item_rest e p t.hand x) (items_rest e p now.hand (after_items a)) (low_rest e p left) (task_rest e p t) (task_rest e p now) (omega (arith, all, more)) (omega (arith, whole, less)) (falls (after_items a) turned.items_are)
