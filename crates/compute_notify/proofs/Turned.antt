-- A task's turn: what its next item rests on, and what the task holds once the item was turned.
use Rattle.std.proofs.Common.{◌≡◌, ◌≢◌, ◌⊎◌, ⊎_elim, inl, inr, ℕ, ◌+◌, ◌<◌, ◌≤◌, Bool, true, false, cond, not, eqb, List, [], ◌∷◌, ◌++◌, length, Option, Some, None, refl, ap, sym, ◌∙◌, subst, arith}
use Rattle.std.proofs.lemmas.Bool.{eqb-true, eqb-false}
use mathlib.Core.Logic.{dite}
use native.Mathlib.Decide.{ℕ_discrete}
use Rattle.graph_model.specs.Graph.{Graph as TaskGraph}
use Rattle.graph_model.specs.declared.key.Key.{Key}
use Rattle.graph_model.specs.declared.plan.Strike.{Strike}
use Rattle.graph_model.specs.declared.record.Cause.{Cause}
use Rattle.core_state.specs.Counts.{items}
use Rattle.core_state.specs.Tests.{is_suspect_for}
use Rattle.core_state.specs.Graph.{Graph, Setting, greatest_life}
use Rattle.core_state.specs.Lines.{Line, HasLines, flat}
use Rattle.core_state.specs.Sure.{IsSure}
use Rattle.core_state.specs.declared.block.BlockCells.{BlockCells}
use Rattle.core_state.specs.declared.views.Item.TheVariants as line
use Rattle.core_state.specs.declared.views.View.{View}
use Rattle.core_state.proofs.Lines.After.{line_stands}
use Rattle.core_state.proofs.Blocks.Blame.{cause_here}
use Rattle.core_state.proofs.Base.Counting.{two_here}
use Rattle.core_state.proofs.Lines.Counts.{top_passes}
use Rattle.core_state.proofs.Lines.Top.{lines_empty}
use Rattle.recovery.specs.Memory.{Remembers}
use Rattle.recovery.specs.Recovering.{Fits, is_last, is_over as is_passed, phase_lines}
use Rattle.recovery.specs.declared.recover.Phase.{Phase as Replacing}
use Rattle.recovery.specs.declared.recover.Phase.TheVariants as replacing
use Rattle.recovery.specs.declared.turn.Turn.{Turn}
use Rattle.recovery.specs.declared.turn.Turn.TheVariants as turn
use Rattle.compute_notify.specs.Eventing.{steps_on}
use Rattle.compute_notify.specs.Items.{FitsCame, FitsItem, FitsLeft, Goes, IsBelow, ItemSpends, LiesBelow, Stands, after_lines, came_credits, is_over, is_spent, item_credits, item_lines}
use Rattle.compute_notify.specs.Rooms.{FitsScratch, came_scratch}
use Rattle.compute_notify.specs.Running.{Runs}
use Rattle.compute_notify.specs.Tasks.{AllBelow, AllMayBeOver, AllOver, FitsAll, FromCredit, HasTurned, Holds, IsNext, MayBeOver, SomeScratch, SomeTop, TaskScratch, TaskTells, Unbegun, after_items, begun_items, came_items, last_of, some_credits, some_list, stacked, task_items, task_turn}
use Rattle.compute_notify.specs.Working.{FitsTop, came_hand}
use Rattle.compute_notify.specs.declared.item.After.{After}
use Rattle.compute_notify.specs.declared.item.Came.{Came}
use Rattle.compute_notify.specs.declared.item.Came.TheVariants as came
use Rattle.compute_notify.specs.declared.item.Item.{Item}
use Rattle.compute_notify.specs.declared.item.Item.TheVariants as item
use Rattle.compute_notify.specs.declared.scratch.Scratch.{Scratch}
use Rattle.compute_notify.specs.declared.task.Task.{Task}
use Rattle.compute_notify.proofs.Keeping.{AllLow, KeepsStrikes, all_stay}
use Rattle.compute_notify.proofs.Stacking.{below_both, credit_stays, fits_both, fits_first, fits_second, last_behind, last_low, low_first, low_next, none_behind, stacked_on}
use Rattle.compute_notify.proofs.Topmost.{all_gone, bare_below, below_credits, below_scratch, over_credits, over_hand, scratch_room}

-- the last of items that are over
pub record LastOver (g : Graph) (p : List Strike) (xs : List Item) : Type 0 where
  pub last : Item
  pub is_last : last_of xs ≡ Some last
  pub over : is_over g p last ≡ true

last_over : (g : Graph) (p : List Strike) (x : Item) (xs : List Item) → AllOver g p (x ∷ xs) → LastOver g p (x ∷ xs)
last_over g p x [] over = record { last = x; is_last = refl; over = over.0 }
last_over g p x (y ∷ xs) over = let a = last_over g p y xs over.1 in record { last = a.last; is_last = a.is_last; over = a.over }

-- the last item before those that stand behind is below others
low_last : (xs : List Item) (x y : Item) (ys : List Item) → AllBelow (xs ++ x ∷ y ∷ ys) → last_of (xs ++ x ∷ y ∷ ys) ≡ last_of (y ∷ ys)
low_last xs x y ys below = last_behind xs x (y ∷ ys)

-- what the item that is next rests on
module _ (g : TaskGraph) (strikes : List Strike) (lives : ℕ) (e : Setting) (v : View) (runs : Runs g strikes lives e) (t : Task) (holds : Holds g e v t) (left : List Item) (x : Item) (next : IsNext e.graph strikes (task_items t) left (Some x)) where
  abbrev gone : List Item
  gone = next.0

  all_are : task_items t ≡ left ++ x ∷ gone
  all_are = next.1

  fits_all : FitsAll g e v (x ∷ gone)
  fits_all = fits_second g e v left (x ∷ gone) (subst (FitsAll g e v) all_are holds.fits)

  below_all : AllBelow (left ++ x ∷ gone)
  below_all = subst AllBelow all_are holds.below

  pub next_low : AllLow left
  next_low = low_first left x gone below_all

  pub next_fits : FitsAll g e v left
  next_fits = fits_first g e v left (x ∷ gone) (subst (FitsAll g e v) all_are holds.fits)

  pub next_lines : HasLines e v (item_lines e.graph x (stacked e.graph left []))
  next_lines = all_gone g strikes lives e v runs gone (item_lines e.graph x (stacked e.graph left [])) next.3 fits_all.1
      (subst (HasLines e v) (stacked_on e.graph left (x ∷ gone) []) (subst (λ xs. HasLines e v (stacked e.graph xs [])) all_are holds.lines))

  next_credits : v.spare ≡ item_credits x
  next_credits = by gone refl
    where
      by : (ys : List Item) → gone ≡ ys → v.spare ≡ item_credits x
      by [] is = holds.credits ∙ ap (λ xs. some_credits (last_of xs)) (all_are ∙ ap (λ ys. left ++ x ∷ ys) is) ∙ ap some_credits (last_behind left x [])
      by (y ∷ ys) is = let a = last_over e.graph strikes y ys (subst (AllOver e.graph strikes) is next.3) in
          holds.credits ∙ ap (λ xs. some_credits (last_of xs)) (all_are ∙ ap (λ zs. left ++ x ∷ zs) is) ∙ ap some_credits (last_behind left x (y ∷ ys) ∙ a.is_last) ∙ over_credits e.graph strikes a.last a.over
          ∙ sym (below_credits x (low_next left x y ys (subst (λ zs. AllBelow (left ++ x ∷ zs)) is below_all)))

  pub next_stands : Stands g e v x
  next_stands = record { fits = fits_all.0; top = record { below = stacked e.graph left []; lines_are = next_lines }; credits = next_credits; sure = holds.sure }

  pub next_top : FitsTop e v t.hand x
  next_top = by gone refl
    where
      by : (ys : List Item) → gone ≡ ys → FitsTop e v t.hand x
      by [] is = subst (SomeTop e v t.hand) (ap last_of (all_are ∙ ap (λ ys. left ++ x ∷ ys) is) ∙ last_behind left x []) holds.top
      by (y ∷ ys) is = let a = last_over e.graph strikes y ys (subst (AllOver e.graph strikes) is next.3) in
          over_hand g strikes lives e v runs x a.last (stacked e.graph left []) t.hand (low_next left x y ys (subst (λ zs. AllBelow (left ++ x ∷ zs)) is below_all)) next.2 a.over fits_all.0 next_lines
          (subst (SomeTop e v t.hand) (ap last_of (all_are ∙ ap (λ zs. left ++ x ∷ zs) is) ∙ last_behind left x (y ∷ ys) ∙ a.is_last) holds.top)

  pub next_scratch : (s : Scratch) → TaskScratch e g s t → FitsScratch e g s x
  next_scratch s fits = by gone refl
    where
      by : (ys : List Item) → gone ≡ ys → FitsScratch e g s x
      by [] is = subst (SomeScratch e g s) (ap last_of (all_are ∙ ap (λ ys. left ++ x ∷ ys) is) ∙ last_behind left x []) fits
      by (y ∷ ys) is = let a = last_over e.graph strikes y ys (subst (AllOver e.graph strikes) is next.3) in
          below_scratch e g s x (low_next left x y ys (subst (λ zs. AllBelow (left ++ x ∷ zs)) is below_all))
          (scratch_room e g s a.last (subst (SomeScratch e g s) (ap last_of (all_are ∙ ap (λ zs. left ++ x ∷ zs) is) ∙ last_behind left x (y ∷ ys) ∙ a.is_last) fits))

-- a replacement that ends the run is of the greatest life, which the view suspects
module _ (g : TaskGraph) (strikes : List Strike) (lives : ℕ) (e : Setting) (v : View) (runs : Runs g strikes lives e) (left : List Item) where
  spent_life : (x : Item) → Stands g e v x → is_over e.graph strikes x ≡ false → (k : Key) (l : ℕ) (c : Cause) → ItemSpends e x (came.Spent k l c) → not (steps_on x) ≡ true → (l ≡ greatest_life e k.0) × (0 < items (is_suspect_for k.0 l c) v)
  spent_life (item.Recover r) stands left_over k l c spends still = by r.phase refl left_over still
    where
      fits : Fits g e v r
      fits = stands.fits

      by : (p : Replacing) → r.phase ≡ p → is_passed p ≡ false → not (Rattle.std.proofs.Common.◌&&◌ (not (is_passed p)) (not (is_last p r.life r.lives))) ≡ true → (l ≡ greatest_life e k.0) × (0 < items (is_suspect_for k.0 l c) v)
      by replacing.Suspect at on stops =
          let last : r.life ≡ r.lives = of (eqb r.life r.lives) refl stops in
          let top : flat v.stacks ≡ Rattle.core_state.specs.Lines.of (line.Suspect r.key.0 r.life r.cause r.wait) ∷ stands.top.below = line_stands e v (line.Suspect r.key.0 r.life r.cause r.wait) stands.top.below refl (subst (λ p. HasLines e v (phase_lines e.graph r.key.0 r.life r.cause r.wait p stands.top.below)) at stands.top.lines_are) in
          let here = top_passes (is_suspect_for r.key.0 r.life r.cause) v (line.Suspect r.key.0 r.life r.cause r.wait) stands.top.below top (rw (two_here r.key.0 r.life, cause_here r.cause)) in
          let greatest : r.life ≡ greatest_life e r.key.0 = last ∙ fits.lives_are in (
            spends.1 ∙ greatest ∙ ap (λ (z : Key). greatest_life e z.0) (sym spends.0),
            subst (λ (z : Key). 0 < items (is_suspect_for z.0 l c) v) (sym spends.0) (subst (λ z. 0 < items (is_suspect_for r.key.0 z c) v) (sym spends.1) (subst (λ z. 0 < items (is_suspect_for r.key.0 r.life z) v) (sym spends.2) here)),
          )
        where
          of : (b : Bool) → eqb r.life r.lives ≡ b → not (Rattle.std.proofs.Common.◌&&◌ true (not b)) ≡ true → r.life ≡ r.lives
          of true same z = eqb-true r.life r.lives same
          of false same z = absurd cc
      by (replacing.Renew done) at on stops = absurd cc
      by replacing.Finish at on stops = absurd cc
      by (replacing.Owe owe behind) at on stops = absurd cc
      by (replacing.Reenter reenter) at on stops = absurd cc
      by replacing.Passed at on stops = absurd cc
      by replacing.Over at on stops = absurd cc
  spent_life item.Credit stands left_over k l c spends still = absurd cc
  spent_life (item.Explore x) stands left_over k l c spends still = absurd cc
  spent_life (item.Compute x) stands left_over k l c spends still = absurd cc
  spent_life (item.Close x) stands left_over k l c spends still = absurd cc
  spent_life (item.Notify x) stands left_over k l c spends still = absurd cc
  spent_life (item.Look x) stands left_over k l c spends still = absurd cc
  spent_life (item.Owe x) stands left_over k l c spends still = absurd cc

-- What a turn leaves, as items.
-- the topmost of what is left and what came
abbrev top_item : Option Item → Came → Option Item
top_item l (came.Above x) = Some x
top_item l (came.Stack x) = Some x
top_item l came.Nothing = l
top_item l (came.Spent k i c) = l

abbrev under : Option Item → Option Item → Option Item
under o None = o
under o (Some x) = Some x

after_last : (xs : List Item) (l : Option Item) (c : Came) → last_of (xs ++ (some_list l ++ came_items c)) ≡ under (last_of xs) (top_item l c)
after_last xs None came.Nothing = ap last_of (none_behind xs)
after_last xs None (came.Above x) = last_behind xs x []
after_last xs None (came.Stack x) = last_behind xs item.Credit (x ∷ [])
after_last xs None (came.Spent k i c) = ap last_of (none_behind xs)
after_last xs (Some y) came.Nothing = last_behind xs y []
after_last xs (Some y) (came.Above x) = last_behind xs y (x ∷ [])
after_last xs (Some y) (came.Stack x) = last_behind xs y (item.Credit ∷ x ∷ [])
after_last xs (Some y) (came.Spent k i c) = last_behind xs y []

lines_as : (g : Graph) (l : Option Item) (c : Came) (b : List Line) → Rattle.compute_notify.specs.Items.came_above g c (Rattle.compute_notify.specs.Items.left_lines g l b) ≡ stacked g (some_list l ++ came_items c) b
lines_as g None came.Nothing b = refl
lines_as g None (came.Above x) b = refl
lines_as g None (came.Stack x) b = refl
lines_as g None (came.Spent k i c) b = refl
lines_as g (Some y) came.Nothing b = refl
lines_as g (Some y) (came.Above x) b = refl
lines_as g (Some y) (came.Stack x) b = refl
lines_as g (Some y) (came.Spent k i c) b = refl

fits_as : (g : TaskGraph) (e : Setting) (w : View) (l : Option Item) (c : Came) → FitsLeft g e w l → FitsCame g e w c l → FitsAll g e w (some_list l ++ came_items c)
fits_as g e w None came.Nothing a b = tt
fits_as g e w None (came.Above x) a b = (b.0, tt)
fits_as g e w None (came.Stack x) a b = (tt, (b.0, tt))
fits_as g e w None (came.Spent k i c) a b = tt
fits_as g e w (Some y) came.Nothing a b = (a, tt)
fits_as g e w (Some y) (came.Above x) a b = (a, (b.0, tt))
fits_as g e w (Some y) (came.Stack x) a b = (a, (tt, (b.0, tt)))
fits_as g e w (Some y) (came.Spent k i c) a b = (a, tt)

below_as : (g : TaskGraph) (e : Setting) (w : View) (l : Option Item) (c : Came) → FitsCame g e w c l → AllBelow (some_list l ++ came_items c)
below_as g e w None came.Nothing b = tt
below_as g e w None (came.Above x) b = tt
below_as g e w None (came.Stack x) b = (tt, tt)
below_as g e w None (came.Spent k i c) b = tt
below_as g e w (Some y) came.Nothing b = tt
below_as g e w (Some y) (came.Above x) b = (b.1, tt)
below_as g e w (Some y) (came.Stack x) b = (b.1, (tt, tt))
below_as g e w (Some y) (came.Spent k i c) b = tt

credits_as : (l : Option Item) (c : Came) → came_credits c l ≡ some_credits (top_item l c)
credits_as None came.Nothing = refl
credits_as None (came.Above x) = refl
credits_as None (came.Stack x) = refl
credits_as None (came.Spent k i c) = refl
credits_as (Some y) came.Nothing = refl
credits_as (Some y) (came.Above x) = refl
credits_as (Some y) (came.Stack x) = refl
credits_as (Some y) (came.Spent k i c) = refl

hand_as : (e : Setting) (w : View) (h : Option BlockCells) (l : Option Item) (c : Came) → came_hand e w h c l → SomeTop e w h (top_item l c)
hand_as e w h None came.Nothing top = top
hand_as e w h None (came.Above x) top = top
hand_as e w h None (came.Stack x) top = top
hand_as e w h None (came.Spent k i c) top = top
hand_as e w h (Some y) came.Nothing top = top
hand_as e w h (Some y) (came.Above x) top = top
hand_as e w h (Some y) (came.Stack x) top = top
hand_as e w h (Some y) (came.Spent k i c) top = top

scratch_as : (e : Setting) (g : TaskGraph) (s : Scratch) (l : Option Item) (c : Came) → came_scratch e g s c l → SomeScratch e g s (top_item l c)
scratch_as e g s None came.Nothing fits = fits
scratch_as e g s None (came.Above x) fits = fits
scratch_as e g s None (came.Stack x) fits = fits
scratch_as e g s None (came.Spent k i c) fits = fits
scratch_as e g s (Some y) came.Nothing fits = fits
scratch_as e g s (Some y) (came.Above x) fits = fits
scratch_as e g s (Some y) (came.Stack x) fits = fits
scratch_as e g s (Some y) (came.Spent k i c) fits = fits

-- the topmost item, or the last of those below it
under_credits : (o p : Option Item) → ((x : Item) → o ≡ Some x → IsBelow x) → some_credits (under o p) ≡ some_credits p
under_credits None None low = refl
under_credits (Some x) None low = below_credits x (low x refl)
under_credits o (Some y) low = refl

module _ (g : TaskGraph) (strikes : List Strike) (lives : ℕ) (e : Setting) (runs : Runs g strikes lives e) (w : View) (h : Option BlockCells) where
  under_top : (o p : Option Item) → ((x : Item) → o ≡ Some x → IsBelow x) → SomeTop e w h p → SomeTop e w h (under o p)
  under_top None None low top = top
  under_top (Some x) None low top = subst (λ i. FitsTop e w i x) (sym top.1) (bare_below g strikes lives e w runs x (low x refl) top.0)
  under_top o (Some y) low top = top

under_scratch : (e : Setting) (g : TaskGraph) (s : Scratch) (o p : Option Item) → ((x : Item) → o ≡ Some x → IsBelow x) → SomeScratch e g s p → SomeScratch e g s (under o p)
under_scratch e g s None None low fits = fits
under_scratch e g s (Some x) None low fits = below_scratch e g s x (low x refl) fits
under_scratch e g s o (Some y) low fits = fits

none_longer : (xs : List Item) → length xs ≡ 0 → xs ≡ []
none_longer [] is = refl
none_longer (x ∷ xs) is = absurd (omega (arith, is))

-- what the task holds then
module _ (g : TaskGraph) (strikes : List Strike) (lives : ℕ) (e : Setting) (v w : View) (runs : Runs g strikes lives e) (t : Task) (holds : Holds g e v t) (left : List Item) (x : Item) (next : IsNext e.graph strikes (task_items t) left (Some x))
    (now : Task) (s : Scratch) (told : Turn) (turned : HasTurned g e v w x left now s told) where
  abbrev a : After
  a = turned.after

  items_now : task_items now ≡ left ++ after_items a
  items_now = ap (λ o. begun_items o now.items.items) turned.not_begun ∙ turned.items_are

  low_now : (y : Item) → last_of left ≡ Some y → IsBelow y
  low_now y is = last_low left y (next_low g strikes lives e v runs t holds left x next) is

  last_now : last_of (task_items now) ≡ under (last_of left) (top_item a.left a.came)
  last_now = ap last_of items_now ∙ after_last left a.left a.came

  lines_now : HasLines e w (stacked e.graph (task_items now) [])
  lines_now = subst (λ xs. HasLines e w (stacked e.graph xs [])) (sym items_now) (subst (HasLines e w) (lines_as e.graph a.left a.came (stacked e.graph left []) ∙ sym (stacked_on e.graph left (after_items a) []))
      (turned.goes.lines (stacked e.graph left []) (next_lines g strikes lives e v runs t holds left x next)))

  credits_now : w.spare ≡ some_credits (last_of (task_items now))
  credits_now = turned.goes.credits ∙ credits_as a.left a.came ∙ sym (under_credits (last_of left) (top_item a.left a.came) low_now) ∙ ap some_credits (sym last_now)

  pub turned_scratch : TaskScratch e g s now
  turned_scratch = subst (SomeScratch e g s) (sym last_now) (under_scratch e g s (last_of left) (top_item a.left a.came) low_now (scratch_as e g s a.left a.came turned.scratch))

  module _ (more : Remembers v w) (keeps : KeepsStrikes e v w (stacked e.graph left [])) (sure : IsSure e w) (ends : x ≡ item.Credit → now.items.items ≡ left) where
    bottom_now : FromCredit (left ++ after_items a)
    bottom_now = credit_stays left (x ∷ next.0) (after_items a) (subst FromCredit next.1 holds.bottom)
        (λ empty. let is_credit : x ≡ item.Credit = subst FromCredit (next.1 ∙ ap (λ xs. xs ++ x ∷ next.0) empty) holds.bottom in
        let none_came : after_items a ≡ [] = ap (λ xs. xs ++ after_items a) (sym empty) ∙ sym turned.items_are ∙ ends is_credit ∙ empty in subst FromCredit (sym none_came) tt)

    pub turned_holds : Holds g e w now
    turned_holds = record {
      lines = lines_now;
      fits = subst (FitsAll g e w) (sym items_now) (fits_both g e w left (after_items a)
          (all_stay g e v w more left [] (next_low g strikes lives e v runs t holds left x next) keeps (next_fits g strikes lives e v runs t holds left x next))
          (fits_as g e w a.left a.came turned.goes.left turned.goes.came));
      below = subst AllBelow (sym items_now) (below_both left (after_items a) (next_low g strikes lives e v runs t holds left x next) (below_as g e w a.left a.came turned.goes.came));
      bottom = subst FromCredit (sym items_now) bottom_now;
      credits = credits_now;
      top = subst (SomeTop e w now.hand) (sym last_now) (under_top g strikes lives e runs w now.hand (last_of left) (top_item a.left a.came) low_now (hand_as e w now.hand a.left a.came turned.top));
      begun = subst (λ o. Unbegun o now.items.items) (sym turned.not_begun) tt;
      sure = sure;
    }

  -- what the turn tells
  rest_tells : cond (eqb (length now.items.items) 0) turn.Done turn.Going ≡ told → TaskTells e w now told
  rest_tells is = by (eqb (length now.items.items) 0) refl is
    where
      by : (b : Bool) → eqb (length now.items.items) 0 ≡ b → cond b turn.Done turn.Going ≡ told → TaskTells e w now told
      by true some same =
          let empty : now.items.items ≡ [] = none_longer now.items.items (eqb-true (length now.items.items) 0 some) in
          let none_left : task_items now ≡ [] = ap (λ o. begun_items o now.items.items) turned.not_begun ∙ empty in
          let lines : HasLines e w [] = subst (λ xs. HasLines e w (stacked e.graph xs [])) none_left lines_now in
          subst (TaskTells e w now) same (none_left, lines_empty w.stacks lines.lines_are, credits_now ∙ ap (λ xs. some_credits (last_of xs)) none_left)
      by false some same = subst (TaskTells e w now) same (λ none_left.
          let empty : now.items.items ≡ [] = sym (ap (λ o. begun_items o now.items.items) turned.not_begun) ∙ none_left in
          absurd (eqb-false (length now.items.items) 0 some (ap length empty)))

  pub turned_tells : is_spent a.came ≡ not (steps_on x) → (is_spent a.came ≡ true → w ≡ v) → TaskTells e w now told
  turned_tells spent still = by a.came refl
    where
      by : (c : Came) → a.came ≡ c → TaskTells e w now told
      by came.Nothing is = rest_tells (sym (turned.told_is ∙ ap (λ c. task_turn c (length now.items.items)) is))
      by (came.Above y) is = rest_tells (sym (turned.told_is ∙ ap (λ c. task_turn c (length now.items.items)) is))
      by (came.Stack y) is = rest_tells (sym (turned.told_is ∙ ap (λ c. task_turn c (length now.items.items)) is))
      by (came.Spent k l c) is = subst (TaskTells e w now) (sym (turned.told_is ∙ ap (λ z. task_turn z (length now.items.items)) is))
          (let u = spent_life g strikes lives e v runs left x (next_stands g strikes lives e v runs t holds left x next) next.2 k l c (subst (ItemSpends e x) is turned.spends) (sym spent ∙ ap is_spent is) in
          (u.0, subst (λ z. 0 < items (is_suspect_for k.0 l c) z) (sym (still (ap is_spent is))) u.1))

-- What is asked before the next item is sought, and the room for what comes.
may_be : (g : TaskGraph) (e : Setting) (v : View) (x : Item) → FitsItem g e v x → MayBeOver g x
may_be g e v (item.Close c) fits = (fits.duty.is_key, dite (ℕ_discrete c.word 0) (λ z. (fits.before z).0.few) (λ ne. (fits.behind (omega (arith, ne))).few))
may_be g e v item.Credit fits = tt
may_be g e v (item.Explore x) fits = tt
may_be g e v (item.Compute c) fits = tt
may_be g e v (item.Notify n) fits = tt
may_be g e v (item.Look k) fits = tt
may_be g e v (item.Owe o) fits = tt
may_be g e v (item.Recover r) fits = tt

pub all_may : (g : TaskGraph) (e : Setting) (v : View) (xs : List Item) → FitsAll g e v xs → AllMayBeOver g xs
all_may g e v [] fits = tt
all_may g e v (x ∷ xs) fits = (may_be g e v x fits.0, all_may g e v xs fits.1)
