-- What credits and job words leave at work, and what a view that knows a row may do there.
use Rattle.std.proofs.Common.{◌≡◌, ◌≢◌, ℕ, ◌+◌, ◌<◌, Bool, false, cond, ne_eqb, [], ◌∷◌, arith, sym, ap, refl, ◌∙◌, subst, Some}
use Rattle.core_state.specs.Graph.{Setting}
use Rattle.core_state.specs.Counts.{word_in, known_key, known_word}
use Rattle.core_state.specs.Guards.{AtWork, KnowsRow, CanPost, CanSpend}
use Rattle.core_state.specs.Guards.Spends.{itself}
use Rattle.core_state.specs.Events.{after}
use Rattle.core_state.specs.Events.Event.{buy, take}
use Rattle.core_state.specs.Views.{settle, fresh, is_finished, strike_next}
use mathlib.Core.Option.{none}
use Rattle.core_state.specs.declared.job.Job.{Job}
use Rattle.core_state.specs.declared.job.Job.TheVariants.{Explore, Compute}
use Rattle.core_state.specs.declared.views.Item.{Item}
use Rattle.core_state.specs.declared.views.Item.TheVariants as item
use Rattle.core_state.specs.declared.views.View.{View}
use Rattle.core_state.proofs.Row.View.{word_known}
use Rattle.core_steps.specs.Seat.{known_of}
use Rattle.core_steps.proofs.Telling.{number_of}
use Rattle.core_steps.proofs.Walking.{IsSettled, settled_at}

module _ (v : View) (r k : ℕ) (known : known_of v r ≡ Some k) where
  -- the key by which calls name the row
  pub key_is : known_key r v ≡ k
  unfolding known_key known_word
  key_is = let a = number_of (word_in r v.known) k known in omega (arith, a)

  pub knows : (e : Setting) → r < e.shape.rows → KnowsRow e v r (known_key r v)
  unfolding known_key known_word
  knows e low = record { low = low; row_known = word_known r v.known (let a = number_of (word_in r v.known) k known in omega (arith, a)) }

  -- exploring that has passed the last place spends the self place, where no strike is left
  pub explored_can_spend : (e : Setting) (l j : ℕ) → r < e.shape.rows → j ≡ e.graph.places k → AtWork v (item.Explore k l j) → strike_next e.graph e.plan v ≡ none → CanSpend e v r (known_key r v) 40
  explored_can_spend e l j low all work order = record { order = record { no_strike = order }; row = knows e low; edge = itself l (subst (λ y. AtWork v (item.Explore y l (e.graph.places y))) (sym key_is) (subst (λ i. AtWork v (item.Explore k l i)) all work)) refl }

-- a credit comes, and the item at work stays
pub bought : (e : Setting) (v w : View) (x : Item) (n : ℕ) → is_finished e.graph e.plan v.strikes x ≡ false → AtWork v x → w ≡ after e buy n v → w ≡ record v { spare = v.spare + 1 }
bought e v w x n left work is = is ∙ settled_at e (record v { spare = v.spare + 1 }) x left (record { stack = work.stack; others = work.others; below = work.below; stacks_are = work.stacks_are; items_are = work.items_are })

-- with which a job that is owed can be posted
pub bought_can_post : (e : Setting) (v w : View) (r k l n : ℕ) (j : Job) → r < e.shape.rows → known_of v r ≡ Some k → AtWork v (item.Owe k j l) → w ≡ after e buy n v → CanPost e w r j (known_key r w) l
bought_can_post e v w r k l n j low known work is = let same = bought e v w (item.Owe k j l) n refl work is in
    let here : known_of w r ≡ Some k = ap (λ u. known_of u r) same ∙ known in record {
      row = knows w r k here e low;
      at_work = subst (λ y. AtWork w (item.Owe y j l)) (sym (key_is w r k here)) (record { stack = work.stack; others = work.others; below = work.below; stacks_are = ap (λ (u : View). u.stacks) same ∙ work.stacks_are; items_are = work.items_are });
      credit = let a = ap (λ (u : View). u.spare) same in omega (arith, a);
    }

-- the item with which a job begins
abbrev pub first_item : Job → ℕ → ℕ → Item
first_item Explore k l = item.Explore k l 0
first_item Compute k l = item.Compute k l false 0 false

-- a job that was taken is at work
pub took : (e : Setting) (v w : View) (r k n : ℕ) (j : Job) → n ≢ 0 → w ≡ after e (take r j k) n v → AtWork w (first_item j k n)
took e v w r k n j some is = by j (is ∙ ap (λ (b : Bool). settle e.graph e.plan (record v { stacks = cond b v.stacks (fresh j k n ∷ v.stacks) })) (ne_eqb n 0 some))
  where
    by : (j : Job) → w ≡ settle e.graph e.plan (record v { stacks = fresh j k n ∷ v.stacks }) → AtWork w (first_item j k n)
    by Explore is = record { stack = fresh Explore k n; others = v.stacks; below = []; stacks_are = ap (λ (u : View). u.stacks) is; items_are = refl }
    by Compute is = record { stack = fresh Compute k n; others = v.stacks; below = []; stacks_are = ap (λ (u : View). u.stacks) is; items_are = refl }

-- where none was posted, nothing comes
pub took_none : (e : Setting) (v w : View) (r k : ℕ) (j : Job) → IsSettled e v → w ≡ after e (take r j k) 0 v → w ≡ v
took_none e v w r k j settled is = is ∙ settled
