-- Posting a job and taking one keep every part.
use Rattle.std.proofs.Common.{◌≡◌, ℕ, ◌+◌, ◌≤◌, ◌<◌, Bool, true, false, cond, ◌&&◌, nat_le, eqb, ne_eqb, List, ◌∷◌, arith, ap, refl, ◌∙◌}
use mathlib.Core.Logic.{dite}
use native.Mathlib.Decide.{ℕ_discrete}
use Rattle.std.proofs.lemmas.Bool.Decides.{nat_tests}
use Rattle.core_state.specs.Graph.{Setting}
use Rattle.core_state.specs.Words.{posted}
use Rattle.core_state.specs.Counts.{hit, in_stacks, owed, knows_row}
use Rattle.core_state.specs.Tests.{two, is_at, is_owed, is_owe, carries, explores, is_unmade, is_compute, came_with}
use Rattle.core_state.specs.Change.{Core, Change}
use Rattle.core_state.specs.Rows.{HasKey}
use Rattle.core_state.specs.Cover.{Passed}
use Rattle.core_state.specs.Guards.{KnowsRow, CanPost}
use Rattle.core_state.specs.Effects.{after_post, after_take}
use Rattle.core_state.specs.Invariant.{Invariant}
use Rattle.core_state.specs.Views.{on_top, without_first, arrived}
use Rattle.core_state.specs.declared.job.Job.{Job}
use Rattle.core_state.specs.declared.job.Job.TheVariants.{Explore, Compute}
use Rattle.core_state.specs.declared.views.Item.{Item}
use Rattle.core_state.specs.declared.views.Item.TheVariants as item
use Rattle.core_state.specs.declared.views.Stack.{Stack}
use Rattle.core_state.specs.declared.views.View.{View}
use Rattle.core_state.proofs.Base.Counting.{two_here}
use Rattle.core_state.proofs.Base.Tops.{push_came, push_length}
use Rattle.core_state.proofs.Credit.JobView.{job_hit, brought, first_item, arrived_items, arrived_aside, arrived_came, arrived_length, popped_items, popped_aside}
use Rattle.core_state.proofs.Plan.Passes.{PassesNone}
use Rattle.core_state.proofs.Credit.JobParts.{Aside, JobView, job_keeps, job_none, job_passed}

first_aside : (p : Item → Bool) → Aside p → (i : Job) (k n : ℕ) → p (first_item i k n) ≡ false
first_aside p q Explore k n = q.explore k n
first_aside p q Compute k n = q.compute k n

-- the first item of a stack carries its job, and nothing is owed by it
first_owed : (j : Job) (m l : ℕ) (i : Job) (k n : ℕ) → is_owed j m l (first_item i k n) ≡ false
first_owed j m l Explore k n = refl
first_owed j m l Compute k n = refl

first_owe : (i : Job) (k n : ℕ) → is_owe (first_item i k n) ≡ false
first_owe Explore k n = refl
first_owe Compute k n = refl

first_carries : (j : Job) (m l : ℕ) (i : Job) (k n : ℕ) → hit (carries j m l (first_item i k n)) ≡ job_hit j m l i k n
first_carries Explore m l Explore k n = refl
first_carries Explore m l Compute k n = refl
first_carries Compute m l Explore k n = refl
first_carries Compute m l Compute k n = refl

and_true : (b : Bool) → (b && true) ≡ b
and_true true = refl
and_true false = refl

first_unmade : (m l : ℕ) (i : Job) (k n : ℕ) → hit (is_unmade m l (first_item i k n)) ≡ job_hit Compute m l i k n
first_unmade m l Explore k n = refl
first_unmade m l Compute k n = ap hit (and_true (two m l k n))

first_compute : (m l : ℕ) (i : Job) (k n : ℕ) → hit (is_compute m l (first_item i k n)) ≡ job_hit Compute m l i k n
first_compute m l Explore k n = refl
first_compute m l Compute k n = refl

least : (j : ℕ) → nat_le 0 j ≡ true
least j = grind (arith, nat_tests)

first_explores : (m l j : ℕ) (i : Job) (k n : ℕ) → hit (explores m l j (first_item i k n)) ≡ job_hit Explore m l i k n
first_explores m l j Explore k n = ap (λ (b : Bool). hit (two m l k n && b)) (least j) ∙ ap hit (and_true (two m l k n))
first_explores m l j Compute k n = refl

first_at : (m : ℕ) (i : Job) (k n : ℕ) → hit (is_at m (first_item i k n)) ≡ hit (eqb m k)
first_at m Explore k n = refl
first_at m Compute k n = refl

at_most : (b : Bool) (n : ℕ) → cond b 0 n ≤ n
at_most true n = omega arith
at_most false n = omega arith

-- what a stack that comes adds to the stacks ss, of which the view had the items as counted
came_items : (p : Item → Bool) (i : Job) (k n : ℕ) (ss : List Stack) (d : ℕ) → hit (p (first_item i k n)) ≡ d → in_stacks p (arrived i k n ss) ≡ in_stacks p ss + cond (eqb n 0) 0 d
came_items p i k n ss d is = arrived_items p i k n ss ∙ ap (λ x. in_stacks p ss + cond (eqb n 0) 0 x) is

came_at : (m : ℕ) (i : Job) (k n : ℕ) (ss : List Stack) → in_stacks (is_at m) (arrived i k n ss) ≤ in_stacks (is_at m) ss + hit (eqb m k)
came_at m i k n ss = let a = came_items (is_at m) i k n ss (hit (eqb m k)) (first_at m i k n) in let b = at_most (eqb n 0) (hit (eqb m k)) in omega (arith, a, b)

take_view : (i : Job) (k n : ℕ) (v : View) → JobView i k n 0 v (after_take i k n v)
take_view i k n v = record {
  its = λ p q. arrived_aside p i k n v.stacks (first_aside p q i k n);
  owes = λ j m l. let a = arrived_aside (is_owed j m l) i k n v.stacks (first_owed j m l i k n) in omega (arith, a);
  holds = λ j m l. came_items (carries j m l) i k n v.stacks (job_hit j m l i k n) (first_carries j m l i k n);
  unmade = λ m l. came_items (is_unmade m l) i k n v.stacks (job_hit Compute m l i k n) (first_unmade m l i k n);
  computes = λ m l. came_items (is_compute m l) i k n v.stacks (job_hit Compute m l i k n) (first_compute m l i k n);
  explored = λ m l j. came_items (explores m l j) i k n v.stacks (job_hit Explore m l i k n) (first_explores m l j i k n);
  at = λ m. came_at m i k n v.stacks;
  comes = λ j m l. arrived_came j m l i k n v.stacks;
  records_are = refl;
  hands_are = refl;
  strikes_are = refl;
  ended_are = refl;
  known_are = refl;
  credits = let a = arrived_length i k n v.stacks in omega (arith, a);
  few = let a = arrived_aside is_owe i k n v.stacks (first_owe i k n) in omega (arith, a);
}

owe_carries : (j : Job) (m l a : ℕ) (i : Job) (b : ℕ) → carries j m l (item.Owe a i b) ≡ false
owe_carries Explore m l a i b = refl
owe_carries Compute m l a i b = refl

module _ (i : Job) (k l n : ℕ) (v : View) (some : 0 < l) (credit : 0 < v.spare) (u : Stack) (xs : List Item) (rest : List Stack) (is : v.stacks ≡ u ∷ rest) (has : u.items ≡ item.Owe k i l ∷ xs) where
  ss : List Stack
  ss = on_top without_first v.stacks

  gone : (p : Item → Bool) → p (item.Owe k i l) ≡ false → in_stacks p (on_top without_first v.stacks) ≡ in_stacks p v.stacks
  gone p fails = popped_aside p v.stacks u (item.Owe k i l) xs rest is has fails

  pub post_view : JobView i k n l v (after_post i k n v)
  post_view = record {
    its = λ p q. arrived_aside p i k n (on_top without_first v.stacks) (first_aside p q i k n) ∙ gone p (q.owe k l i);
    owes = λ j m d. let a = arrived_aside (is_owed j m d) i k n (on_top without_first v.stacks) (first_owed j m d i k n) in let b = popped_items (is_owed j m d) v.stacks u (item.Owe k i l) xs rest is has in
        let f : brought j m d i k l ≡ job_hit j m d i k l = ap (λ (x : Bool). cond x 0 (job_hit j m d i k l)) (ne_eqb l 0 (λ z. omega (arith, some, z))) in omega (arith, a, b, f);
    holds = λ j m d. came_items (carries j m d) i k n (on_top without_first v.stacks) (job_hit j m d i k n) (first_carries j m d i k n) ∙ ap (λ x. x + brought j m d i k n) (gone (carries j m d) (owe_carries j m d k i l));
    unmade = λ m d. came_items (is_unmade m d) i k n (on_top without_first v.stacks) (job_hit Compute m d i k n) (first_unmade m d i k n) ∙ ap (λ x. x + brought Compute m d i k n) (gone (is_unmade m d) refl);
    computes = λ m d. came_items (is_compute m d) i k n (on_top without_first v.stacks) (job_hit Compute m d i k n) (first_compute m d i k n) ∙ ap (λ x. x + brought Compute m d i k n) (gone (is_compute m d) refl);
    explored = λ m d j. came_items (explores m d j) i k n (on_top without_first v.stacks) (job_hit Explore m d i k n) (first_explores m d j i k n) ∙ ap (λ x. x + brought Explore m d i k n) (gone (explores m d j) refl);
    at = λ m. let a = came_at m i k n (on_top without_first v.stacks) in let b = popped_items (is_at m) v.stacks u (item.Owe k i l) xs rest is has in omega (arith, a, b);
    comes = λ j m d. arrived_came j m d i k n (on_top without_first v.stacks) ∙ ap (λ x. x + brought j m d i k n) (push_came j m d without_first v.stacks);
    records_are = refl;
    hands_are = refl;
    strikes_are = refl;
    ended_are = refl;
    known_are = refl;
    credits = let a = arrived_length i k n (on_top without_first v.stacks) in let b = push_length without_first v.stacks in omega (arith, a, b, some, credit);
    few = let a = arrived_aside is_owe i k n (on_top without_first v.stacks) (first_owe i k n) in let b = popped_items is_owe v.stacks u (item.Owe k i l) xs rest is has in omega (arith, a, b, credit);
  }

module _ (e : Setting) (s t : Core) (r : ℕ) (i : Job) (k n : ℕ) (v : View) where
  row_is : KnowsRow e v r k → (((f : View → ℕ) → f v ≤ s.total f)) → Invariant e s → HasKey e s r k
  row_is can within inv = inv.keys.known r k (let a = within (knows_row r k) in let b = can.row_known in omega (arith, a, b))

  pub keeps_take : KnowsRow e v r k → Change s t (posted i r) n 0 v (after_take i k n v) → Invariant e s → Invariant e t
  keeps_take can c inv = job_keeps e s t i r k n 0 v (after_take i k n v) c (row_is can c.within inv) (take_view i k n v) inv

  pub take_passed : KnowsRow e v r k → Change s t (posted i r) n 0 v (after_take i k n v) → Invariant e s → Passed e s → Passed e t
  take_passed can c inv = job_passed e s t i r k n 0 v (after_take i k n v) c (row_is can c.within inv) (take_view i k n v) inv

  -- a computing that comes is not loaded
  pub take_none : KnowsRow e v r k → Change s t (posted i r) n 0 v (after_take i k n v) → Invariant e s → PassesNone v (after_take i k n v)
  take_none can c inv = job_none e s t i r k n 0 v (after_take i k n v) c (row_is can c.within inv) (take_view i k n v) inv

  module _ (l : ℕ) (can : CanPost e v r i k l) (c : Change s t (posted i r) n l v (after_post i k n v)) (inv : Invariant e s) where
    owes_it : 0 < owed i k l v
    owes_it = let a = popped_items (is_owed i k l) v.stacks can.at_work.stack (item.Owe k i l) can.at_work.below can.at_work.others can.at_work.stacks_are can.at_work.items_are in let b = same_self i in omega (arith, a, b)
      where
        same_self : (j : Job) → hit (Rattle.core_state.specs.Tests.same_job j j && two k l k l) ≡ 1
        same_self Explore = ap hit (two_here k l)
        same_self Compute = ap hit (two_here k l)

    -- a life is at least 1
    pub posted_life : 0 < l
    posted_life = dite (ℕ_discrete l 0) (λ z. absurd (let a = inv.work.jobs.some_life i k in let b = c.within (owed i k l) in let d = owes_it in let f : s.total (owed i k l) ≡ s.total (owed i k 0) = ap (λ x. s.total (owed i k x)) z in omega (arith, a, b, d, f))) (λ ne. omega (arith, ne))

    left_view : JobView i k n l v (after_post i k n v)
    left_view = post_view i k l n v posted_life can.credit can.at_work.stack can.at_work.below can.at_work.others can.at_work.stacks_are can.at_work.items_are

    pub keeps_post : Invariant e t
    keeps_post = job_keeps e s t i r k n l v (after_post i k n v) c (row_is can.row c.within inv) left_view inv

    pub post_passed : Passed e s → Passed e t
    post_passed = job_passed e s t i r k n l v (after_post i k n v) c (row_is can.row c.within inv) left_view inv

    pub post_none : PassesNone v (after_post i k n v)
    post_none = job_none e s t i r k n l v (after_post i k n v) c (row_is can.row c.within inv) left_view inv
