-- Finished items leave the last stack: most counts stay, a job that ends is counted as ended, and a closing leaves only when all words are closed.
use Rattle.std.proofs.Common.{◌≡◌, ◌⊎◌, ℕ, ◌+◌, ◌<◌, ◌≤◌, Bool, true, false, cond, eqb, nat_lt, List, [], ◌∷◌, ⊎_elim, inl, inr, arith, sym, ap, refl, ◌∙◌, subst}
use mathlib.Core.Logic.{dite}
use native.Mathlib.Decide.{dec_lt}
use Rattle.std.proofs.lemmas.Bool.{lt-ltb}
use Rattle.core_state.specs.Graph.{Graph, Plan, Setting}
use Rattle.core_state.specs.Words.{Spot, descriptor, posted, life_of}
use Rattle.core_state.specs.Counts.{hit, bump, count, in_stacks, items, held, owed, ended, begun}
use Rattle.core_state.specs.Tests.{carries, is_owed, is_suspect, is_renew_of, is_close_from, is_ended, is_spent, is_closed, two, three}
use Rattle.core_state.specs.Change.{Core, Shift, many}
use Rattle.core_state.specs.Laws.{AllClosed}
use Rattle.core_state.specs.Views.{is_finished, unfinished, ends_with, ends_finished, on_top, top_items, settle, none_left}
use Rattle.core_state.specs.Rows.{HasKey}
use Rattle.core_state.specs.Cover.{works, Activity}
use Rattle.core_state.specs.declared.views.Ended.{Ended}
use Rattle.core_state.specs.declared.views.Item.{Item}
use Rattle.core_state.specs.declared.views.Item.TheVariants as item
use Rattle.core_state.specs.declared.job.Job.{Job}
use Rattle.core_state.specs.declared.job.Job.TheVariants as job
use Rattle.graph_model.specs.declared.plan.Point.TheVariants as point
use Rattle.core_state.specs.declared.views.Stack.{Stack}
use Rattle.core_state.specs.declared.views.View.{View}
use Rattle.core_state.proofs.Base.Counting.{bump_is, eqb_here, two_tells}

module _ (g : Graph) (p : Plan) (made : List ℕ) where
  Steady : (Item → Bool) → Type 0
  Steady q = (x : Item) → is_finished g p made x ≡ true → q x ≡ false

  -- a test that no finished item passes
  pub unfinished_same : (q : Item → Bool) → ((x : Item) → is_finished g p made x ≡ true → q x ≡ false) → (xs : List Item) → count q (unfinished g p made xs) ≡ count q xs
  unfinished_same q h [] = refl
  unfinished_same q h (x ∷ xs) = by (unfinished_same q h xs) (is_finished g p made x) refl
    where
      by : count q (unfinished g p made xs) ≡ count q xs → (b : Bool) → is_finished g p made x ≡ b → count q (cond b (unfinished g p made xs) (x ∷ xs)) ≡ count q (x ∷ xs)
      by r true e = r ∙ ap (λ (u : Bool). bump u (count q xs)) (sym (h x e))
      by r false e = refl

  pub unfinished_falls : (q : Item → Bool) (xs : List Item) → count q (unfinished g p made xs) ≤ count q xs
  unfinished_falls q [] = omega arith
  unfinished_falls q (x ∷ xs) = by (unfinished_falls q xs) (is_finished g p made x)
    where
      by : count q (unfinished g p made xs) ≤ count q xs → (b : Bool) → count q (cond b (unfinished g p made xs) (x ∷ xs)) ≤ count q (x ∷ xs)
      by r true = let a = bump_is (q x) (count q xs) in omega (arith, a, r)
      by r false = omega arith

  -- the job that an item carries ends with it
  pub ends_carry : (j : Job) (k l : ℕ) (x : Item) (es : List Ended) → count (is_ended j k l) (ends_with x es) ≡ hit (carries j k l x) + count (is_ended j k l) es
  ends_carry job.Explore k l (item.Explore a b d) es = bump_is (two k l a b) (count (is_ended job.Explore k l) es)
  ends_carry job.Explore k l (item.Compute a b d f h) es = omega arith
  ends_carry job.Explore k l (item.Close a b d) es = omega arith
  ends_carry job.Explore k l (item.Notify a b d f) es = omega arith
  ends_carry job.Explore k l (item.Suspect a b d f) es = omega arith
  ends_carry job.Explore k l (item.Renew a b d) es = omega arith
  ends_carry job.Explore k l (item.Reenter a b d) es = omega arith
  ends_carry job.Explore k l (item.Owe a b d) es = omega arith
  ends_carry job.Compute k l (item.Explore a b d) es = omega arith
  ends_carry job.Compute k l (item.Compute a b d f h) es = bump_is (two k l a b) (count (is_ended job.Compute k l) es)
  ends_carry job.Compute k l (item.Close a b d) es = bump_is (two k l a b) (count (is_ended job.Compute k l) es)
  ends_carry job.Compute k l (item.Notify a b d f) es = omega arith
  ends_carry job.Compute k l (item.Suspect a b d f) es = omega arith
  ends_carry job.Compute k l (item.Renew a b d) es = omega arith
  ends_carry job.Compute k l (item.Reenter a b d) es = omega arith
  ends_carry job.Compute k l (item.Owe a b d) es = omega arith

  pub finished_begun : (j : Job) (k l : ℕ) (xs : List Item) (es : List Ended) → count (carries j k l) (unfinished g p made xs) + count (is_ended j k l) (ends_finished g p made xs es) ≡ count (carries j k l) xs + count (is_ended j k l) es
  finished_begun j k l [] es = refl
  finished_begun j k l (x ∷ xs) es = by (finished_begun j k l xs (ends_with x es)) (is_finished g p made x)
    where
      by : count (carries j k l) (unfinished g p made xs) + count (is_ended j k l) (ends_finished g p made xs (ends_with x es)) ≡ count (carries j k l) xs + count (is_ended j k l) (ends_with x es)
          → (b : Bool) → count (carries j k l) (cond b (unfinished g p made xs) (x ∷ xs)) + count (is_ended j k l) (cond b (ends_finished g p made xs (ends_with x es)) es) ≡ count (carries j k l) (x ∷ xs) + count (is_ended j k l) es
      by r true = let a = ends_carry j k l x es in let b = bump_is (carries j k l x) (count (carries j k l) xs) in omega (arith, a, b, r)
      by r false = refl

  -- computing that leaves is a closing past the last word
  abbrev pub LeavesClosed : ℕ → ℕ → List Item → Type 0
  LeavesClosed k l xs = (w : ℕ) × (g.notify_words k ≤ w) × (0 < count (is_close_from k l w) xs)

  pub one_leaves : (k l : ℕ) (x : Item) → is_finished g p made x ≡ true → (carries job.Compute k l x ≡ false) ⊎ ((w : ℕ) × (g.notify_words k ≤ w) × (is_close_from k l w x ≡ true))
  one_leaves k l (item.Close a b w) e = ⊎_elim (λ z. inl z) (λ z. inr (
    w,
    subst (λ y. g.notify_words y ≤ w) (sym z.1) (dite (dec_lt w (g.notify_words a)) (λ low. absurd (let f : is_finished g p made (item.Close a b w) ≡ false = ap (λ (u : Bool). cond u false (none_left g p point.Notified a b made)) (lt-ltb w (g.notify_words a) low) in cc)) (λ high. omega (arith, high))),
    subst (λ y. three y l w a b w ≡ true) (sym z.1) (subst (λ y. three a y w a b w ≡ true) (sym z.2) (rw (eqb_here a, eqb_here b, eqb_here w))),
  )) (two_tells k l a b)
  one_leaves k l (item.Notify a b w qs) e = inl refl
  one_leaves k l (item.Reenter a b qs) e = inl refl
  one_leaves k l (item.Explore a b d) e = absurd cc
  one_leaves k l (item.Compute a b d f h) e = absurd cc
  one_leaves k l (item.Suspect a b d f) e = absurd cc
  one_leaves k l (item.Renew a b d) e = absurd cc
  one_leaves k l (item.Owe a b d) e = absurd cc

  pub leaves : (k l : ℕ) (xs : List Item) → (count (carries job.Compute k l) (unfinished g p made xs) ≡ count (carries job.Compute k l) xs) ⊎ LeavesClosed k l xs
  leaves k l [] = inl refl
  leaves k l (x ∷ xs) = by (leaves k l xs) (is_finished g p made x) refl
    where
      by : (count (carries job.Compute k l) (unfinished g p made xs) ≡ count (carries job.Compute k l) xs) ⊎ LeavesClosed k l xs → (b : Bool) → is_finished g p made x ≡ b
          → (count (carries job.Compute k l) (cond b (unfinished g p made xs) (x ∷ xs)) ≡ count (carries job.Compute k l) (x ∷ xs)) ⊎ LeavesClosed k l (x ∷ xs)
      by r true e = ⊎_elim
          (λ z. ⊎_elim (λ q. inl (q ∙ ap (λ (u : Bool). bump u (count (carries job.Compute k l) xs)) (sym z))) (λ q. inr (q.0, q.1, let a = bump_is (is_close_from k l q.0 x) (count (is_close_from k l q.0) xs) in let b = q.2 in omega (arith, a, b))) r)
          (λ z. inr (z.0, z.1, let a = bump_is (is_close_from k l z.0 x) (count (is_close_from k l z.0) xs) in let b = ap hit z.2 in omega (arith, a, b))) (one_leaves k l x e)
      by r false e = inl refl

-- the same for a view
module _ (g : Graph) (p : Plan) where
  pub settled_same : (q : Item → Bool) (v : View) → ((x : Item) → is_finished g p v.strikes x ≡ true → q x ≡ false) → items q (settle g p v) ≡ items q v
  settled_same q v h = of v.stacks
    where
      of : (ss : List Stack) → in_stacks q (on_top (unfinished g p v.strikes) ss) ≡ in_stacks q ss
      of [] = refl
      of (s ∷ ss) = ap (λ x. x + in_stacks q ss) (unfinished_same g p v.strikes q h s.items)

  pub settled_falls : (q : Item → Bool) (v : View) → items q (settle g p v) ≤ items q v
  settled_falls q v = of v.stacks
    where
      of : (ss : List Stack) → in_stacks q (on_top (unfinished g p v.strikes) ss) ≤ in_stacks q ss
      of [] = omega arith
      of (s ∷ ss) = let a = unfinished_falls g p v.strikes q s.items in omega (arith, a)

  pub settled_begun : (j : Job) (k l : ℕ) (v : View) → begun j k l (settle g p v) ≡ begun j k l v
  settled_begun j k l v = of v.stacks
    where
      of : (ss : List Stack) → in_stacks (carries j k l) (on_top (unfinished g p v.strikes) ss) + count (is_ended j k l) (ends_finished g p v.strikes (top_items ss) v.ended) ≡ in_stacks (carries j k l) ss + count (is_ended j k l) v.ended
      of [] = refl
      of (s ∷ ss) = let a = finished_begun g p v.strikes j k l s.items v.ended in omega (arith, a)

  pub settled_leaves : (k l : ℕ) (v : View) → (held job.Compute k l (settle g p v) ≡ held job.Compute k l v) ⊎ ((w : ℕ) × (g.notify_words k ≤ w) × (0 < items (is_close_from k l w) v))
  settled_leaves k l v = of v.stacks
    where
      of : (ss : List Stack) → (in_stacks (carries job.Compute k l) (on_top (unfinished g p v.strikes) ss) ≡ in_stacks (carries job.Compute k l) ss) ⊎ ((w : ℕ) × (g.notify_words k ≤ w) × (0 < in_stacks (is_close_from k l w) ss))
      of [] = inl refl
      of (s ∷ ss) = ⊎_elim (λ z. inl (ap (λ x. x + in_stacks (carries job.Compute k l) ss) z)) (λ z. inr (z.0, z.1, let a = z.2 in omega (arith, a))) (leaves g p v.strikes k l s.items)

-- finished items are of three kinds
steady_owed : (g : Graph) (p : Plan) (made : List ℕ) (j : Job) (k l : ℕ) (x : Item) → is_finished g p made x ≡ true → is_owed j k l x ≡ false
steady_owed g p made j k l (item.Owe a b d) e = absurd cc
steady_owed g p made j k l x e = refl

steady_suspect : (g : Graph) (p : Plan) (made : List ℕ) (k l : ℕ) (x : Item) → is_finished g p made x ≡ true → is_suspect k l x ≡ false
steady_suspect g p made k l (item.Suspect a b d f) e = absurd cc
steady_suspect g p made k l x e = refl

steady_renew : (g : Graph) (p : Plan) (made : List ℕ) (k l : ℕ) (x : Item) → is_finished g p made x ≡ true → is_renew_of k l x ≡ false
steady_renew g p made k l (item.Renew a b d) e = absurd cc
steady_renew g p made k l x e = refl

-- a key stays active, or has closed all its words
module _ (e : Setting) (s t : Core) (v : View) (c : Shift s t v (settle e.graph e.plan v)) where
  same : (f : View → ℕ) → f (settle e.graph e.plan v) ≡ f v → t.total f ≡ s.total f
  same f q = let a = c.sums f in omega (arith, a, q)

  pub settle_activity : ((k l : ℕ) → 0 < l → (r : ℕ) → HasKey e s r k → (w i : ℕ) → 0 < s.total (items (is_close_from k l w)) → many s (is_closed k l i) ≡ hit (nat_lt i w)) → Activity e s → Activity e t
  settle_activity closing i = record {
    each = λ r k has all. let l : ℕ = life_of (s.word (descriptor r)) in let old : HasKey e s r k = (has.0, sym (c.words (Rattle.core_state.specs.Words.key r)) ∙ has.1) in
        let recs : (q : Rattle.graph_model.specs.declared.record.Record.Record → Bool) → many t q ≡ many s q = λ q. same (Rattle.core_state.specs.Counts.noted q) refl in
        subst (λ n. (0 < t.total (works k (life_of n)) + hit (eqb (life_of n) (t.word (posted job.Compute r)))) ⊎ AllClosed e.graph e.plan (many t) k (life_of n)) (sym (c.words (descriptor r)))
        (⊎_elim
        (λ z. ⊎_elim
        (λ q. inl (let a = same (works k l) (let x = settled_same e.graph e.plan (is_owed job.Compute k l) v (steady_owed e.graph e.plan v.strikes job.Compute k l) in let y = settled_same e.graph e.plan (is_suspect k l) v (steady_suspect e.graph e.plan v.strikes k l) in let u = settled_same e.graph e.plan (is_renew_of k l) v (steady_renew e.graph e.plan v.strikes k l) in omega (arith, x, y, u, q)) in
        let b = ap (λ n. hit (eqb l n)) (c.words (posted job.Compute r)) in omega (arith, a, b, z)))
        (λ q. inr (λ j low. let a = closing k l (omega arith) r old q.0 j (let x = c.within (items (is_close_from k l q.0)) in let y = q.2 in omega (arith, x, y)) in let b = recs (is_closed k l j) in let d : hit (nat_lt j q.0) ≡ 1 = ap hit (lt-ltb j q.0 (let m = q.1 in omega (arith, m, low))) in omega (arith, a, b, d)))
        (settled_leaves e.graph e.plan k l v))
        (λ z. inr (λ j low. let a = z j low in let b = recs (is_closed k l j) in omega (arith, a, b)))
        (i.each r k old (λ j place. let a = recs (is_spent k l j) in let b = subst (λ n. 0 < many t (is_spent k (life_of n) j)) (c.words (descriptor r)) (all j place) in omega (arith, a, b))));
  }
