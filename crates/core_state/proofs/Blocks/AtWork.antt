-- What a computing that a view is at work on says of the counts: its job is held once and nowhere else, and all places of its life are spent.
use Rattle.std.proofs.Common.{◌≡◌, ℕ, ◌+◌, ◌<◌, ◌≤◌, Bool, true, false, cond, ◌&&◌, eqb, ne_eqb, List, ◌∷◌, inr, arith, ap, refl, ◌∙◌, subst}
use mathlib.Core.Logic.{dite}
use native.Mathlib.Decide.{ℕ_discrete}
use Rattle.core_state.specs.Graph.{Setting, Reached}
use Rattle.core_state.specs.Words.{posted}
use Rattle.core_state.specs.Counts.{hit, items, owed, held, ended, noted}
use Rattle.core_state.specs.Tests.{is_at, is_compute, is_unmade, carries, is_of, is_spent, is_computed, is_written}
use Rattle.core_state.specs.Change.{Core, Sums, many}
use Rattle.core_state.specs.Laws.{IsPlace}
use Rattle.core_state.specs.Rows.{HasKey, HasRow}
use Rattle.core_state.specs.Work.{Computing, is_made_early}
use Rattle.core_state.specs.Invariant.{Invariant}
use Rattle.core_state.specs.Guards.{AtWork}
use Rattle.core_state.specs.declared.job.Job.TheVariants.{Compute}
use Rattle.core_state.specs.declared.views.Item.{Item}
use Rattle.core_state.specs.declared.views.Item.TheVariants as item
use Rattle.core_state.specs.declared.views.View.{View}
use Rattle.core_state.proofs.Base.Counting.{eqb_here, two_here}
use Rattle.core_state.proofs.Row.View.{fewer, items_below}
use Rattle.core_state.proofs.Credit.JobView.{popped_items}
use Rattle.core_state.proofs.Row.Made.{spent_of}

-- the item at work is counted
pub at_work : (p : Item → Bool) (v : View) (x : Item) (at : AtWork v x) → hit (p x) ≤ items p v
at_work p v x at = let a = popped_items p v.stacks at.stack x at.below at.others at.stacks_are at.items_are in omega (arith, a)

-- a computing is carried as an item
compute_held : (k l : ℕ) (x : Item) → is_compute k l x ≡ true → carries Compute k l x ≡ true
compute_held k l (item.Compute a b c d f) z = z
compute_held k l x z = absurd cc

pub unmade_compute : (k l : ℕ) (x : Item) → is_unmade k l x ≡ true → is_compute k l x ≡ true
unmade_compute k l (item.Compute a b c d f) z = by (Rattle.core_state.specs.Tests.two k l a b) z
  where
    by : (y : Bool) → (y && Rattle.std.proofs.Common.cond f false true) ≡ true → y ≡ true
    by true q = refl
    by false q = absurd cc
unmade_compute k l x z = absurd cc

module _ (e : Setting) (s : Core) (sums : Sums s) (k l read : ℕ) (made : Bool) (v : View) (at : AtWork v (item.Compute k l true read made)) (within : (f : View → ℕ) → f v ≤ s.total f) (inv : Invariant e s) where
  pub some_item : (p : Item → Bool) → p (item.Compute k l true read made) ≡ true → 0 < s.total (items p)
  some_item p z = let a = at_work p v (item.Compute k l true read made) at in let b = ap hit z in let d = within (items p) in omega (arith, a, b, d)

  pub key_row : HasRow e s k
  key_row = inv.keys.of_item k (some_item (is_at k) (eqb_here k))

  pub key_reached : Reached e.graph k
  key_reached = inv.keys.reached key_row.0 k key_row.1

  pub held_here : 0 < s.total (held Compute k l)
  held_here = some_item (carries Compute k l) (two_here k l)

  pub computing_here : 0 < s.total (items (is_compute k l))
  computing_here = some_item (is_compute k l) (two_here k l)

  pub life_some : 0 < l
  life_some = dite (ℕ_discrete l 0) (λ z. absurd (let a = inv.work.jobs.some_life Compute k in let b = held_here in let d = ap (λ y. s.total (held Compute k y)) z in omega (arith, a, b, d))) (λ ne. omega (arith, ne))

  -- the job is nowhere else
  pub job_once : (r : ℕ) → HasKey e s r k → s.total (owed Compute k l) + s.total (held Compute k l) + s.total (ended Compute k l) + hit (eqb l (s.word (posted Compute r))) ≤ 1
  job_once r has = inv.work.jobs.computed r k l has life_some

  pub computing_once : s.total (items (is_compute k l)) ≤ 1
  computing_once = let a = sums.below (items (is_compute k l)) (held Compute k l) (λ o. items_below (is_compute k l) (carries Compute k l) (compute_held k l) o.stacks) in let b = job_once key_row.0 key_row.1 in omega (arith, a, b)

  pub all_spent : (j : ℕ) → IsPlace e.graph k j → 0 < many s (is_spent k l j)
  all_spent j place = inv.work.jobs.ready key_row.0 k l j key_row.1 life_some (let a = held_here in omega (arith, a)) place

  pub life_named : 0 < many s (is_of k l)
  life_named = dite (ℕ_discrete (many s (is_of k l)) 0)
      (λ z. absurd (let a = sums.none (noted (is_of k l)) (noted (is_spent k l 40)) (λ o f. fewer (is_of k l) (is_spent k l 40) (spent_of k l 40) o.records f) z in let b = all_spent 40 (inr refl) in omega (arith, a, b)))
      (λ ne. omega (arith, ne))

  pub computing : Computing e s key_row.0 k l
  computing = inv.work.computings.each key_row.0 k l key_row.1 life_some

  pub not_written : many s (is_written k l) ≡ 0
  not_written = computing.unwritten (let a = computing_here in omega (arith, a))

  -- what has still to read was not made
  pub not_made_yet : read < e.graph.inputs k → made ≡ false
  not_made_yet low = by made refl
    where
      by : (m : Bool) → made ≡ m → m ≡ false
      by false q = refl
      by true q = absurd (let a : is_made_early e.graph (item.Compute k l true read made) ≡ true = ap (λ (o : Bool). o && cond (eqb read (e.graph.inputs k)) false true) q ∙ ap (λ (o : Bool). cond o false true) (ne_eqb read (e.graph.inputs k) (λ z. omega (arith, z, low))) in
          let b = some_item (is_made_early e.graph) a in let d = inv.work.computings.none_early in omega (arith, b, d))
