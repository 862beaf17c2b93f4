-- What the steps for a job that is owed ask, and what they leave of the lines.
use Rattle.std.proofs.Common.{◌≡◌, ◌≢◌, ℕ, ◌<◌, Bool, true, false, cond, List, ◌∷◌, arith, sym, ap, refl, ◌∙◌, subst}
use Rattle.core_state.specs.Guards.{CanBuy, CanPost, AtWork}
use Rattle.core_state.specs.Counts.{known_key}
use Rattle.core_state.specs.Graph.{Setting}
use Rattle.core_state.specs.Events.{after}
use Rattle.core_state.specs.Events.Event.{post, buy}
use Rattle.core_state.specs.Lines.{Line, HasLines, of, credit, flat, begins, came_lines}
use Rattle.core_state.specs.Sure.{IsFresh}
use Rattle.core_state.specs.declared.job.Job.{Job}
use Rattle.core_state.specs.declared.views.Item.TheVariants as item
use Rattle.core_state.specs.declared.views.View.{View}
use Rattle.core_state.proofs.Lines.After.{line_stands, buys, posts, came_none, came_some}
use Rattle.core_state.proofs.Lines.Counts as counts
use Rattle.core_state.proofs.Lines.Top.{at_work}
use Rattle.recovery.specs.Happening.{owe_event}
use Rattle.recovery.specs.Memory.{KnowsKey}
use Rattle.recovery.specs.declared.owe.Owe.{Owe}
use Rattle.recovery.proofs.Knowing.{row_here, known_is}

-- a credit that was not bought, and one that was
pub unspent : (bought : Bool) (n : ℕ) → n ≡ cond bought 1 0 → bought ≡ false → n ≡ 0
unspent bought n is not_yet = is ∙ ap (λ (b : Bool). cond b 1 0) not_yet

pub one_spare : (bought : Bool) (n : ℕ) → n ≡ cond bought 1 0 → bought ≡ true → 0 < n
one_spare bought n is done = let a : n ≡ 1 = is ∙ ap (λ (b : Bool). cond b 1 0) done in omega (arith, a)

-- the event, by whether a credit was bought
pub owe_buys : (v : View) (o : Owe) → o.bought ≡ false → buy ≡ owe_event v o
owe_buys v o not_yet = ap (λ (b : Bool). cond b (post o.row o.job (known_key o.row v) o.life) buy) (sym not_yet)

pub owe_posts : (v : View) (o : Owe) → o.bought ≡ true → post o.row o.job (known_key o.row v) o.life ≡ owe_event v o
owe_posts v o done = ap (λ (b : Bool). cond b (post o.row o.job (known_key o.row v) o.life) buy) (sym done)

-- of a job that a post brought no strike was made
pub posted_fresh : (e later : Setting) (v w : View) (r k n : ℕ) (i : Job) → later ≡ e → KnowsKey e v r k → (0 < n → IsFresh later w i (known_key r v) n) → n ≢ 0 → IsFresh e w i k n
posted_fresh e later v w r k n i same knows fresh some = subst (λ m. IsFresh e w i m n) (known_is e v r k knows) (subst (λ x. IsFresh x w i (known_key r v) n) same (fresh (omega (arith, some))))

module _ (e : Setting) (v : View) (k l : ℕ) (i : Job) (b : List Line) (lines : HasLines e v (of (item.Owe k i l) ∷ b)) where
  owe_top : flat v.stacks ≡ of (item.Owe k i l) ∷ b
  owe_top = line_stands e v (item.Owe k i l) b refl lines

  pub may_buy : v.spare ≡ 0 → CanBuy e v
  may_buy none = counts.can_buy v e k l i b none owe_top

  pub may_post : (r : ℕ) → KnowsKey e v r k → 0 < v.spare → CanPost e v r i (known_key r v) l
  may_post r knows some = record { row = row_here e v r k knows; at_work = subst (λ m. AtWork v (item.Owe m i l)) (sym (known_is e v r k knows)) (at_work v (item.Owe k i l) b owe_top); credit = some }

  module _ (w : View) (n : ℕ) where
    pub bought_lines : w ≡ after e buy n v → HasLines e w (of (item.Owe k i l) ∷ b)
    bought_lines is = buys e v w n (of (item.Owe k i l)) b owe_top is

    posted_lines : (r : ℕ) → KnowsKey e v r k → w ≡ after e (post r i (known_key r v) l) n v → HasLines e w (came_lines i k n b)
    posted_lines r knows is = posts e v w n i k l b owe_top (subst (λ m. w ≡ after e (post 0 i m l) n v) (known_is e v r k knows) is)

    -- the post brings nothing, or a job that stood there
    pub posted_none : (r : ℕ) → KnowsKey e v r k → w ≡ after e (post r i (known_key r v) l) n v → n ≡ 0 → HasLines e w b
    posted_none r knows is none = subst (HasLines e w) (came_none i k n b none) (posted_lines r knows is)

    pub posted_some : (r m : ℕ) → KnowsKey e v r k → w ≡ after e (post r i (known_key r v) l) n v → m ≡ n → m ≢ 0 → HasLines e w (of (begins i k m) ∷ credit ∷ b)
    posted_some r m knows is number some = subst (λ x. HasLines e w (of (begins i k x) ∷ credit ∷ b)) (sym number) (subst (HasLines e w) (came_some i k n b (λ z. some (number ∙ z))) (posted_lines r knows is))
