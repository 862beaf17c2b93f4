-- A job goes from a view into a job word, and one that stood there comes to the view: what such a step changes in counts.
use Rattle.std.proofs.Common.{◌≡◌, ◌≢◌, ◌⊎◌, ℕ, zero, suc, ◌+◌, ◌<◌, Bool, true, false, cond, ◌&&◌, eqb, ne_eqb, min, List, ◌∷◌, length, ⊎_elim, inl, inr, arith, sym, ap, refl, ◌∙◌, subst}
use mathlib.Core.Logic.{dite}
use native.Mathlib.Decide.{ℕ_discrete}
use Rattle.core_state.specs.Graph.{Setting}
use Rattle.core_state.specs.Words.{Spot, posted}
use Rattle.core_state.specs.Counts.{hit, count, in_stacks}
use Rattle.core_state.specs.Tests.{two, same_job, came_with}
use Rattle.core_state.specs.Change.{Core, Change}
use Rattle.core_state.specs.Rows.{HasKey, Keys}
use Rattle.core_state.specs.Work.{posted_count}
use Rattle.core_state.specs.Views.{on_top, without_first, fresh, arrived}
use Rattle.core_state.specs.declared.job.Job.{Job}
use Rattle.core_state.specs.declared.job.Job.TheVariants.{Explore, Compute}
use Rattle.core_state.specs.declared.views.Item.{Item}
use Rattle.core_state.specs.declared.views.Item.TheVariants as item
use Rattle.core_state.specs.declared.views.Stack.{Stack}
use Rattle.core_state.specs.declared.views.View.{View}
use Rattle.core_state.proofs.Base.Counting.{eqb_here, bump_is}

-- two jobs of lives are the same
abbrev pub job_hit : Job → ℕ → ℕ → Job → ℕ → ℕ → ℕ
job_hit i k l j a m = hit (same_job i j && two k l a m)

-- the same, where the number m of a job word stands for a job
abbrev pub brought : Job → ℕ → ℕ → Job → ℕ → ℕ → ℕ
brought i k l j a m = cond (eqb m 0) 0 (job_hit i k l j a m)

pub and_false : (b : Bool) → (b && false) ≡ false
and_false true = refl
and_false false = refl

pub both_zero : (b : Bool) (n : ℕ) → n ≡ 0 → cond b 0 n ≡ 0
both_zero true n z = refl
both_zero false n z = z

-- at the same job and key only the life decides
job_life : (i : Job) (k l m : ℕ) → job_hit i k l i k m ≡ hit (eqb l m)
job_life Explore k l m = rw (eqb_here k)
job_life Compute k l m = rw (eqb_here k)

other_key : (i j : Job) (k l a m : ℕ) → k ≢ a → job_hit i k l j a m ≡ 0
other_key Explore Explore k l a m ne = rw (ne_eqb k a ne)
other_key Compute Compute k l a m ne = rw (ne_eqb k a ne)
other_key Explore Compute k l a m ne = refl
other_key Compute Explore k l a m ne = refl

pub same_or : (i j : Job) → (i ≡ j) ⊎ ((i ≢ j) × ((k l a m : ℕ) → job_hit i k l j a m ≡ 0))
same_or Explore Explore = inl refl
same_or Compute Compute = inl refl
same_or Explore Compute = inr ((λ q. cc), λ k l a m. refl)
same_or Compute Explore = inr ((λ q. cc), λ k l a m. refl)

brought_life : (i : Job) (k l m : ℕ) → 0 < l → brought i k l i k m ≡ hit (eqb l m)
brought_life i k l m some = dite (ℕ_discrete m 0)
    (λ z. subst (λ x. brought i k l i k x ≡ hit (eqb l x)) (sym z) (sym (ap hit (ne_eqb l 0 (λ q. omega (arith, q, some))))))
    (λ ne. ap (λ (b : Bool). cond b 0 (job_hit i k l i k m)) (ne_eqb m 0 ne) ∙ job_life i k l m)

brought_apart : (i j : Job) (k l a m : ℕ) → k ≢ a → brought i k l j a m ≡ 0
brought_apart i j k l a m ne = both_zero (eqb m 0) (job_hit i k l j a m) (other_key i j k l a m ne)

-- a job word of 0 brings nothing, and no job has life 0
pub brought_never : (i j : Job) (k a m : ℕ) → brought i k 0 j a m ≡ 0
brought_never i j k a m = dite (ℕ_discrete m 0)
    (λ z. ap (λ x. brought i k 0 j a x) z)
    (λ ne. both_zero (eqb m 0) (job_hit i k 0 j a m) (ap (λ (b : Bool). hit (same_job i j && (eqb k a && b))) (ne_eqb 0 m (λ q. ne (sym q))) ∙ ap (λ (b : Bool). hit (same_job i j && b)) (and_false (eqb k a)) ∙ ap hit (and_false (same_job i j))))

-- the item with which a stack comes
abbrev pub first_item : Job → ℕ → ℕ → Item
first_item Explore k l = item.Explore k l 0
first_item Compute k l = item.Compute k l false 0 false

pub arrived_items : (p : Item → Bool) (j : Job) (a n : ℕ) (ss : List Stack) → in_stacks p (arrived j a n ss) ≡ in_stacks p ss + cond (eqb n 0) 0 (hit (p (first_item j a n)))
arrived_items p Explore a n ss = elim (eqb n 0) as (λ b. in_stacks p (cond b ss (fresh Explore a n ∷ ss)) ≡ in_stacks p ss + cond b 0 (hit (p (item.Explore a n 0)))) [ true ↦ omega arith | false ↦ (let x = bump_is (p (item.Explore a n 0)) 0 in omega (arith, x)) ]
arrived_items p Compute a n ss = elim (eqb n 0) as (λ b. in_stacks p (cond b ss (fresh Compute a n ∷ ss)) ≡ in_stacks p ss + cond b 0 (hit (p (item.Compute a n false 0 false)))) [ true ↦ omega arith | false ↦ (let x = bump_is (p (item.Compute a n false 0 false)) 0 in omega (arith, x)) ]

pub arrived_aside : (p : Item → Bool) (j : Job) (a n : ℕ) (ss : List Stack) → p (first_item j a n) ≡ false → in_stacks p (arrived j a n ss) ≡ in_stacks p ss
arrived_aside p j a n ss fails = let x = arrived_items p j a n ss in let y = both_zero (eqb n 0) (hit (p (first_item j a n))) (ap hit fails) in omega (arith, x, y)

pub arrived_came : (i : Job) (k l : ℕ) (j : Job) (a n : ℕ) (ss : List Stack) → count (came_with i k l) (arrived j a n ss) ≡ count (came_with i k l) ss + brought i k l j a n
arrived_came i k l Explore a n ss = elim (eqb n 0) as (λ b. count (came_with i k l) (cond b ss (fresh Explore a n ∷ ss)) ≡ count (came_with i k l) ss + cond b 0 (job_hit i k l Explore a n)) [ true ↦ omega arith | false ↦ (let x = bump_is (same_job i Explore && two k l a n) (count (came_with i k l) ss) in omega (arith, x)) ]
arrived_came i k l Compute a n ss = elim (eqb n 0) as (λ b. count (came_with i k l) (cond b ss (fresh Compute a n ∷ ss)) ≡ count (came_with i k l) ss + cond b 0 (job_hit i k l Compute a n)) [ true ↦ omega arith | false ↦ (let x = bump_is (same_job i Compute && two k l a n) (count (came_with i k l) ss) in omega (arith, x)) ]

pub arrived_length : (j : Job) (a n : ℕ) (ss : List Stack) → length (arrived j a n ss) ≡ length ss + min 1 n
arrived_length j a n ss = dite (ℕ_discrete n 0) (λ z. rw z (omega arith)) (λ ne. rw (ne_eqb n 0 ne) (omega (arith, ne)))

-- the topmost item leaves the stack that came last
pub popped_items : (p : Item → Bool) (ss : List Stack) (u : Stack) (x : Item) (xs : List Item) (rest : List Stack) → ss ≡ u ∷ rest → u.items ≡ x ∷ xs → in_stacks p (on_top without_first ss) + hit (p x) ≡ in_stacks p ss
popped_items p ss u x xs rest is has = rw (is, has) (let a = bump_is (p x) (count p xs) in omega (arith, a))

pub popped_aside : (p : Item → Bool) (ss : List Stack) (u : Stack) (x : Item) (xs : List Item) (rest : List Stack) → ss ≡ u ∷ rest → u.items ≡ x ∷ xs → p x ≡ false → in_stacks p (on_top without_first ss) ≡ in_stacks p ss
popped_aside p ss u x xs rest is has fails = let a = popped_items p ss u x xs rest is has in let b = ap hit fails in omega (arith, a, b)

-- one job word changes
posted_below : (p q : Spot → ℕ) (n : ℕ) → ((i : Job) (r : ℕ) → r < n → q (posted i r) ≡ p (posted i r)) → posted_count q n ≡ posted_count p n
posted_below p q zero e = refl
posted_below p q (suc n) e = let a = posted_below p q n (λ i r l. e i r (omega (arith, l))) in let b = e Explore n (omega arith) in let c = e Compute n (omega arith) in omega (arith, a, b, c)

pub posted_change : (p q : Spot → ℕ) (n : ℕ) (i : Job) (r : ℕ) → r < n → ((j : Job) (x : ℕ) → posted j x ≢ posted i r → q (posted j x) ≡ p (posted j x))
    → posted_count q n + min 1 (p (posted i r)) ≡ posted_count p n + min 1 (q (posted i r))
posted_change p q zero i r b e = absurd (omega (arith, b))
posted_change p q (suc n) Explore r b e = dite (ℕ_discrete r n)
    (λ z. subst (λ u. posted_count q (suc n) + min 1 (p (posted Explore u)) ≡ posted_count p (suc n) + min 1 (q (posted Explore u))) (sym z)
    (let a = posted_below p q n (λ j x l. e j x (λ y. let f : x ≡ r = cc in omega (arith, f, z, l))) in let d = e Compute n (λ y. cc) in omega (arith, a, d)))
    (λ z. let a = posted_change p q n Explore r (omega (arith, b, z)) e in let d = e Explore n (λ y. let f : n ≡ r = cc in z (sym f)) in let f = e Compute n (λ y. cc) in omega (arith, a, d, f))
posted_change p q (suc n) Compute r b e = dite (ℕ_discrete r n)
    (λ z. subst (λ u. posted_count q (suc n) + min 1 (p (posted Compute u)) ≡ posted_count p (suc n) + min 1 (q (posted Compute u))) (sym z)
    (let a = posted_below p q n (λ j x l. e j x (λ y. let f : x ≡ r = cc in omega (arith, f, z, l))) in let d = e Explore n (λ y. cc) in omega (arith, a, d)))
    (λ z. let a = posted_change p q n Compute r (omega (arith, b, z)) e in let d = e Compute n (λ y. let f : n ≡ r = cc in z (sym f)) in let f = e Explore n (λ y. cc) in omega (arith, a, d, f))

module _ (e : Setting) (s t : Core) where
  pub same_key : (r k m : ℕ) → HasKey e s r k → HasKey e s r m → m ≡ k
  same_key r k m a b = let x = a.1 in let y = b.1 in omega (arith, x, y)

  -- what the change of a job word says of one job
  pub word_moves : (i : Job) (r k n left : ℕ) (v w : View) → Change s t (posted i r) n left v w → HasKey e s r k → Keys e s
      → (j : Job) (x m l : ℕ) → HasKey e s x m → 0 < l → hit (eqb l (t.word (posted j x))) + brought j m l i k n ≡ hit (eqb l (s.word (posted j x))) + brought j m l i k left
  word_moves i r k n left v w c has keys j x m l it some = dite (ℕ_discrete x r)
      (λ q. let kk : m ≡ k = same_key r k m has (subst (λ y. HasKey e s y m) q it) in ⊎_elim
      (λ z. let new : t.word (posted j x) ≡ left = ap (λ y. t.word (posted j y)) q ∙ ap (λ (y : Job). t.word (posted y r)) z ∙ c.left_is in
      let old : s.word (posted j x) ≡ n = ap (λ y. s.word (posted j y)) q ∙ ap (λ (y : Job). s.word (posted y r)) z ∙ c.found_is in
      let a : brought j m l i k left ≡ hit (eqb l left) = subst (λ (y : Job). brought j m l y k left ≡ hit (eqb l left)) z (subst (λ y. brought j m l j y left ≡ hit (eqb l left)) kk (brought_life j m l left some)) in
      let b : brought j m l i k n ≡ hit (eqb l n) = subst (λ (y : Job). brought j m l y k n ≡ hit (eqb l n)) z (subst (λ y. brought j m l j y n ≡ hit (eqb l n)) kk (brought_life j m l n some)) in
      let d = ap (λ y. hit (eqb l y)) new in let f = ap (λ y. hit (eqb l y)) old in omega (arith, a, b, d, f))
      (λ z. let a = both_zero (eqb left 0) (job_hit j m l i k left) (z.1 m l k left) in let b = both_zero (eqb n 0) (job_hit j m l i k n) (z.1 m l k n) in
      let d = ap (λ y. hit (eqb l y)) (c.others (posted j x) (λ y. z.0 cc)) in omega (arith, a, b, d))
      (same_or j i))
      (λ ne. let apart : m ≢ k = λ z. ne (keys.one_row x r k (subst (HasKey e s x) z it) has) in let a = brought_apart j i m l k left apart in let b = brought_apart j i m l k n apart in
      let d = ap (λ y. hit (eqb l y)) (c.others (posted j x) (λ y. ne cc)) in omega (arith, a, b, d))
