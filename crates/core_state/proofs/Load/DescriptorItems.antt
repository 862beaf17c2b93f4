-- What a load of a descriptor does to the items of the stack that came last, as what goes and what comes.
use Rattle.std.proofs.Common.{◌≡◌, ◌≢◌, ◌⊎◌, ℕ, ◌+◌, ◌<◌, ◌≤◌, Bool, true, false, cond, ◌&&◌, eqb, ne_eqb, List, [], ◌∷◌, ⊎_elim, inl, inr, arith, sym, ap, refl, ◌∙◌, subst}
use Rattle.std.specs.Int.{bit_at}
use Rattle.std.proofs.lemmas.Bool.{eqb-true, eqb-false}
use Rattle.std.proofs.lemmas.Bool.Decides.{eqb_tells}
use Rattle.std.proofs.lemmas.Nat.Bits.{bit_at-lt}
use Rattle.core_state.specs.Graph.{Graph, Plan}
use Rattle.core_state.specs.Words.{life_of, mark_of}
use Rattle.core_state.specs.Counts.{hit, bump, count, items, in_stacks}
use Rattle.core_state.specs.Tests.{two, same_job, is_in, is_at, is_ended, is_suspect, is_made_any, carries, reenters}
use Rattle.core_state.specs.Views.{none_left, on_top, top_items}
use Rattle.core_state.specs.Effects.{loaded_items, loaded_ended, after_load_descriptor}
use Rattle.graph_model.specs.declared.plan.Point.TheVariants as point
use Rattle.graph_model.specs.declared.record.Cause.TheVariants as cause
use Rattle.core_state.specs.declared.job.Job.{Job}
use Rattle.core_state.specs.declared.job.Job.TheVariants.{Explore, Compute}
use Rattle.core_state.specs.declared.views.Item.{Item}
use Rattle.core_state.specs.declared.views.Item.TheVariants as item
use Rattle.core_state.specs.declared.views.Ended.{Ended}
use Rattle.core_state.specs.declared.views.Stack.{Stack}
use Rattle.core_state.specs.declared.views.View.{View}
use Rattle.core_state.proofs.Base.Counting.{bump_is, bump_le, two_tells, two_here, not_two, both}
use Rattle.core_state.proofs.Credit.JobView.{and_false}
use Rattle.core_state.proofs.Base.ItemMoves.{port_over}

-- nothing; computing is loaded, dropped for a later life, or becomes a suspect; a port leaves below a suspect, or since its place is spent
pub data Loading : Type 0 where
  nothing : Loading
  readies : (l read : ℕ) (m : Bool) → Loading
  drops : (l read : ℕ) (m : Bool) → Loading
  suspects : (l read : ℕ) (m : Bool) → Loading
  blames : (p l q : ℕ) (qs : List ℕ) → Loading
  skips : (p l q : ℕ) (qs : List ℕ) → Loading

pub one_more : {A : Type 0} (p : A → Bool) (x : A) (xs : List A) → count p (x ∷ xs) ≡ count p xs + count p (x ∷ [])
one_more p x xs = let a = bump_is (p x) (count p xs) in let b = bump_is (p x) 0 in omega (arith, a, b)

module _ (g : Graph) (k n : ℕ) where
  -- the items that go
  abbrev pub goes : Loading → List Item
  goes nothing = []
  goes (readies l read m) = item.Compute k l false read m ∷ []
  goes (drops l read m) = item.Compute k l false read m ∷ []
  goes (suspects l read m) = item.Compute k l false read m ∷ []
  goes (blames p l q qs) = item.Reenter p l (q ∷ qs) ∷ []
  goes (skips p l q qs) = item.Reenter p l (q ∷ qs) ∷ []

  -- the items that come
  abbrev pub comes : Loading → List Item
  comes nothing = []
  comes (readies l read m) = item.Compute k l true read m ∷ []
  comes (drops l read m) = []
  comes (suspects l read m) = item.Suspect k (life_of n) cause.Descriptor false ∷ []
  comes (blames p l q qs) = item.Suspect k (life_of n) cause.Descriptor false ∷ item.Reenter p l qs ∷ []
  comes (skips p l q qs) = item.Reenter p l qs ∷ []

  -- the job that ends
  abbrev pub ends : Loading → List Ended
  ends nothing = []
  ends (readies l read m) = []
  ends (drops l read m) = record { job = Compute; key = k; life = l } ∷ []
  ends (suspects l read m) = record { job = Compute; key = k; life = l } ∷ []
  ends (blames p l q qs) = []
  ends (skips p l q qs) = []

  -- what the descriptor's number n says then
  abbrev pub IsLoading : Loading → Type 0
  IsLoading nothing = Unit {0}
  IsLoading (readies l read m) = Unit {0}
  IsLoading (drops l read m) = life_of n ≢ l
  IsLoading (suspects l read m) = mark_of n ≡ 1
  IsLoading (blames p l q qs) = (mark_of n ≡ 1) × (k ≡ (g.succ p q).task)
  IsLoading (skips p l q qs) = (mark_of n ≡ 0) × (k ≡ (g.succ p q).task) × (bit_at n (g.succ p q).place ≡ 1)

  -- the items xs became ys, and the ended jobs es became fs
  pub record Becomes (ys xs : List Item) (fs es : List Ended) : Type 0 where
    pub kind : Loading
    pub is : IsLoading kind
    pub items_are : (p : Item → Bool) → count p ys + count p (goes kind) ≡ count p xs + count p (comes kind)
    pub ended_are : (p : Ended → Bool) → count p fs ≡ count p es + count p (ends kind)

  one_ends : (i : Job) (m l a : ℕ) → (bump (same_job i Compute && two m l k a) 0 ≡ 0) ⊎ (m ≡ k)
  one_ends Explore m l a = inl refl
  one_ends Compute m l a = ⊎_elim (λ q. inl (ap (λ (x : Bool). bump x 0) q)) (λ q. inr q.1) (two_tells m l k a)

  stays : (xs : List Item) (es : List Ended) → Becomes xs xs es es
  stays xs es = record { kind = nothing; is = tt; items_are = λ p. refl; ended_are = λ p. omega arith }

  one_for_one : {A : Type 0} (p : A → Bool) (x y : A) (xs : List A) → count p (y ∷ xs) + count p (x ∷ []) ≡ count p (x ∷ xs) + count p (y ∷ [])
  one_for_one p x y xs = let a = bump_is (p x) (count p xs) in let b = bump_is (p y) (count p xs) in let c = bump_is (p x) 0 in let d = bump_is (p y) 0 in omega (arith, a, b, c, d)

  unmarked : mark_of n ≢ 1 → mark_of n ≡ 0
  unmarked ne = let a = bit_at-lt n 41 in omega (arith, a, ne)

  -- computing of the key, with no strike left
  computing : (l read : ℕ) (m : Bool) (xs : List Item) (es : List Ended) (marked plain same : Bool) → eqb (mark_of n) 1 ≡ marked → eqb (mark_of n) 0 ≡ plain → eqb (life_of n) l ≡ same
      → Becomes (cond marked (item.Suspect k (life_of n) cause.Descriptor false ∷ xs) (cond same (item.Compute k l true read m ∷ xs) xs)) (item.Compute k l false read m ∷ xs) (cond (plain && same) es (record { job = Compute; key = k; life = l } ∷ es)) es
  computing l read m xs es true true same a b d = absurd (let x = eqb-true (mark_of n) 1 a in let y = eqb-true (mark_of n) 0 b in omega (arith, x, y))
  computing l read m xs es true false same a b d = record {
    kind = suspects l read m;
    is = eqb-true (mark_of n) 1 a;
    items_are = λ p. one_for_one p (item.Compute k l false read m) (item.Suspect k (life_of n) cause.Descriptor false) xs;
    ended_are = λ p. one_more p (record { job = Compute; key = k; life = l }) es;
  }
  computing l read m xs es false false same a b d = absurd (eqb-false (mark_of n) 0 b (unmarked (eqb-false (mark_of n) 1 a)))
  computing l read m xs es false true true a b d = record {
    kind = readies l read m;
    is = tt;
    items_are = λ p. one_for_one p (item.Compute k l false read m) (item.Compute k l true read m) xs;
    ended_are = λ p. omega arith;
  }
  computing l read m xs es false true false a b d = record {
    kind = drops l read m;
    is = eqb-false (life_of n) l d;
    items_are = λ p. let x = one_more p (item.Compute k l false read m) xs in omega (arith, x);
    ended_are = λ p. one_more p (record { job = Compute; key = k; life = l }) es;
  }

  -- a port whose successor is the key
  entering : (p l q : ℕ) (qs : List ℕ) (xs : List Item) (es : List Ended) (marked spent : Bool) → k ≡ (g.succ p q).task → eqb (mark_of n) 1 ≡ marked → eqb (bit_at n (g.succ p q).place) 1 ≡ spent
      → Becomes (cond marked (item.Suspect k (life_of n) cause.Descriptor false ∷ item.Reenter p l qs ∷ xs) (cond spent (item.Reenter p l qs ∷ xs) (item.Reenter p l (q ∷ qs) ∷ xs))) (item.Reenter p l (q ∷ qs) ∷ xs) es es
  entering p l q qs xs es true spent here a b = record {
    kind = blames p l q qs;
    is = (eqb-true (mark_of n) 1 a, here);
    items_are = λ f. let x : Item = item.Suspect k (life_of n) cause.Descriptor false in let y = one_for_one f (item.Reenter p l (q ∷ qs)) (item.Reenter p l qs) xs in let z = bump_is (f x) (count f (item.Reenter p l qs ∷ xs)) in let o = bump_is (f x) (count f (item.Reenter p l qs ∷ [])) in omega (arith, y, z, o);
    ended_are = λ f. omega arith;
  }
  entering p l q qs xs es false true here a b = record {
    kind = skips p l q qs;
    is = (unmarked (eqb-false (mark_of n) 1 a), here, eqb-true (bit_at n (g.succ p q).place) 1 b);
    items_are = λ f. one_for_one f (item.Reenter p l (q ∷ qs)) (item.Reenter p l qs) xs;
    ended_are = λ f. omega arith;
  }
  entering p l q qs xs es false false here a b = stays (item.Reenter p l (q ∷ qs) ∷ xs) es

  module _ (plan : Plan) (made : List ℕ) where
    becomes : (xs : List Item) (es : List Ended) → Becomes (loaded_items g plan made k n xs) xs (loaded_ended g plan made k n xs es) es
    becomes (item.Compute a l false read m ∷ xs) es = by (eqb k a && none_left g plan point.Ready a l made) (λ z. eqb-true k a (both (eqb k a) (none_left g plan point.Ready a l made) z).0)
      where
        by : (here : Bool) → (here ≡ true → k ≡ a) → Becomes (cond here (cond (eqb (mark_of n) 1) (item.Suspect a (life_of n) cause.Descriptor false ∷ xs) (cond (eqb (life_of n) l) (item.Compute a l true read m ∷ xs) xs)) (item.Compute a l false read m ∷ xs)) (item.Compute a l false read m ∷ xs)
            (cond here (cond (eqb (mark_of n) 0 && eqb (life_of n) l) es (record { job = Compute; key = a; life = l } ∷ es)) es) es
        by true is = subst (λ o. Becomes (cond (eqb (mark_of n) 1) (item.Suspect o (life_of n) cause.Descriptor false ∷ xs) (cond (eqb (life_of n) l) (item.Compute o l true read m ∷ xs) xs)) (item.Compute o l false read m ∷ xs) (cond (eqb (mark_of n) 0 && eqb (life_of n) l) es (record { job = Compute; key = o; life = l } ∷ es)) es) (is refl)
            (computing l read m xs es (eqb (mark_of n) 1) (eqb (mark_of n) 0) (eqb (life_of n) l) refl refl refl)
        by false is = stays (item.Compute a l false read m ∷ xs) es
    becomes (item.Reenter p l (q ∷ qs) ∷ xs) es = by (eqb k (g.succ p q).task) refl
      where
        by : (here : Bool) → eqb k (g.succ p q).task ≡ here → Becomes (cond here (cond (eqb (mark_of n) 1) (item.Suspect k (life_of n) cause.Descriptor false ∷ item.Reenter p l qs ∷ xs) (cond (eqb (bit_at n (g.succ p q).place) 1) (item.Reenter p l qs ∷ xs) (item.Reenter p l (q ∷ qs) ∷ xs))) (item.Reenter p l (q ∷ qs) ∷ xs)) (item.Reenter p l (q ∷ qs) ∷ xs) es es
        by true is = entering p l q qs xs es (eqb (mark_of n) 1) (eqb (bit_at n (g.succ p q).place) 1) (eqb-true k (g.succ p q).task is) refl refl
        by false is = stays (item.Reenter p l (q ∷ qs) ∷ xs) es
    becomes (item.Compute a l true read m ∷ xs) es = stays (item.Compute a l true read m ∷ xs) es
    becomes (item.Reenter p l [] ∷ xs) es = stays (item.Reenter p l [] ∷ xs) es
    becomes [] es = stays [] es
    becomes (item.Explore a l j ∷ xs) es = stays (item.Explore a l j ∷ xs) es
    becomes (item.Close a l w ∷ xs) es = stays (item.Close a l w ∷ xs) es
    becomes (item.Notify a l w ps ∷ xs) es = stays (item.Notify a l w ps ∷ xs) es
    becomes (item.Suspect a l d b ∷ xs) es = stays (item.Suspect a l d b ∷ xs) es
    becomes (item.Renew a l d ∷ xs) es = stays (item.Renew a l d ∷ xs) es
    becomes (item.Owe a j l ∷ xs) es = stays (item.Owe a j l ∷ xs) es

  -- what a load does to a view
  pub record Loaded (v w : View) : Type 0 where
    pub kind : Loading
    pub is : IsLoading kind
    pub items_are : (p : Item → Bool) → items p w + count p (goes kind) ≡ items p v + count p (comes kind)
    pub ended_are : (p : Ended → Bool) → count p w.ended ≡ count p v.ended + count p (ends kind)

  pub loaded_view : (plan : Plan) (v : View) → Loaded v (after_load_descriptor g plan k n v)
  loaded_view plan v = let u = of v.stacks in record { kind = u.0; is = u.1; items_are = u.2; ended_are = u.3 }
    where
      of : (ss : List Stack) → (kind : Loading) × IsLoading kind × ((p : Item → Bool) → in_stacks p (on_top (loaded_items g plan v.strikes k n) ss) + count p (goes kind) ≡ in_stacks p ss + count p (comes kind)) × ((p : Ended → Bool) → count p (loaded_ended g plan v.strikes k n (top_items ss) v.ended) ≡ count p v.ended + count p (ends kind))
      of [] = (nothing, tt, λ p. refl, λ p. omega arith)
      of (u ∷ ss) = let b = becomes plan v.strikes u.items v.ended in (b.kind, b.is, (λ p. let a = b.items_are p in omega (arith, a)), b.ended_are)

  -- a test that a computing fails, and for which the number of ports is nothing
  pub same_before : (p : Item → Bool) → ((l read : ℕ) (b m : Bool) → p (item.Compute k l b read m) ≡ false) → (mark_of n ≡ 1 → p (item.Suspect k (life_of n) cause.Descriptor false) ≡ false) → ((a l q : ℕ) (qs : List ℕ) → p (item.Reenter a l qs) ≡ p (item.Reenter a l (q ∷ qs)))
      → (u : Loading) → IsLoading u → count p (comes u) ≡ count p (goes u)
  same_before p compute suspect reenter nothing is = refl
  same_before p compute suspect reenter (readies l read m) is = ap (λ (b : Bool). bump b 0) (compute l read true m ∙ sym (compute l read false m))
  same_before p compute suspect reenter (drops l read m) is = sym (ap (λ (b : Bool). bump b 0) (compute l read false m))
  same_before p compute suspect reenter (suspects l read m) is = ap (λ (b : Bool). bump b 0) (suspect is ∙ sym (compute l read false m))
  same_before p compute suspect reenter (blames a l q qs) is = ap (λ (b : Bool). bump b (bump (p (item.Reenter a l qs)) 0)) (suspect is.0) ∙ ap (λ (b : Bool). bump b 0) (reenter a l q qs)
  same_before p compute suspect reenter (skips a l q qs) is = ap (λ (b : Bool). bump b 0) (reenter a l q qs)

  -- a test for which it is nothing whether the descriptor was loaded
  pub fewer_before : (p : Item → Bool) → ((l read : ℕ) (m : Bool) → p (item.Compute k l true read m) ≡ p (item.Compute k l false read m)) → p (item.Suspect k (life_of n) cause.Descriptor false) ≡ false → ((a l q : ℕ) (qs : List ℕ) → p (item.Reenter a l qs) ≡ p (item.Reenter a l (q ∷ qs)))
      → (u : Loading) → count p (comes u) ≤ count p (goes u)
  fewer_before p compute suspect reenter nothing = omega arith
  fewer_before p compute suspect reenter (readies l read m) = let a = ap (λ (b : Bool). bump b 0) (compute l read m) in omega (arith, a)
  fewer_before p compute suspect reenter (drops l read m) = omega arith
  fewer_before p compute suspect reenter (suspects l read m) = let a : bump (p (item.Suspect k (life_of n) cause.Descriptor false)) 0 ≡ 0 = ap (λ (b : Bool). bump b 0) suspect in omega (arith, a)
  fewer_before p compute suspect reenter (blames a l q qs) = let x : bump (p (item.Suspect k (life_of n) cause.Descriptor false)) (bump (p (item.Reenter a l qs)) 0) ≡ bump (p (item.Reenter a l (q ∷ qs))) 0 = ap (λ (b : Bool). bump b (bump (p (item.Reenter a l qs)) 0)) suspect ∙ ap (λ (b : Bool). bump b 0) (reenter a l q qs) in omega (arith, x)
  fewer_before p compute suspect reenter (skips a l q qs) = let x = ap (λ (b : Bool). bump b 0) (reenter a l q qs) in omega (arith, x)

  -- no suspect goes
  pub keeps_suspects : (m l : ℕ) (u : Loading) → count (is_suspect m l) (goes u) ≡ 0
  keeps_suspects m l nothing = refl
  keeps_suspects m l (readies a read b) = refl
  keeps_suspects m l (drops a read b) = refl
  keeps_suspects m l (suspects a read b) = refl
  keeps_suspects m l (blames p a q qs) = refl
  keeps_suspects m l (skips p a q qs) = refl

  -- a computing that goes has ended
  pub held_ends : (i : Job) (m l : ℕ) (u : Loading) → count (carries i m l) (comes u) + count (is_ended i m l) (ends u) ≡ count (carries i m l) (goes u)
  held_ends i m l nothing = refl
  held_ends Explore m l (readies a read b) = refl
  held_ends Compute m l (readies a read b) = omega arith
  held_ends Explore m l (drops a read b) = refl
  held_ends Compute m l (drops a read b) = omega arith
  held_ends Explore m l (suspects a read b) = refl
  held_ends Compute m l (suspects a read b) = omega arith
  held_ends Explore m l (blames p a q qs) = refl
  held_ends Compute m l (blames p a q qs) = refl
  held_ends Explore m l (skips p a q qs) = refl
  held_ends Compute m l (skips p a q qs) = refl

  -- only a job of the key ends
  pub ends_here : (i : Job) (m l : ℕ) (u : Loading) → (count (is_ended i m l) (ends u) ≡ 0) ⊎ (m ≡ k)
  ends_here i m l (drops a read b) = one_ends i m l a
  ends_here i m l (suspects a read b) = one_ends i m l a
  ends_here i m l nothing = inl refl
  ends_here i m l (readies a read b) = inl refl
  ends_here i m l (blames p a q qs) = inl refl
  ends_here i m l (skips p a q qs) = inl refl

  -- what comes is at the key, or was there
  pub at_key : (m : ℕ) (u : Loading) → count (is_at m) (comes u) ≤ count (is_at m) (goes u) + hit (eqb m k)
  at_key m nothing = omega arith
  at_key m (readies a read b) = omega arith
  at_key m (drops a read b) = omega arith
  at_key m (suspects a read b) = omega arith
  at_key m (blames p a q qs) = let x = bump_is (eqb m k) (bump (eqb m p) 0) in omega (arith, x)
  at_key m (skips p a q qs) = omega arith

  -- computing of another key stays, and that of the life shown becomes a suspect
  pub works_else : (m l : ℕ) → m ≢ k → (u : Loading) → count (carries Compute m l) (goes u) ≡ 0
  works_else m l ne nothing = refl
  works_else m l ne (readies a read b) = ap (λ (x : Bool). bump (x && eqb l a) 0) (ne_eqb m k ne)
  works_else m l ne (drops a read b) = ap (λ (x : Bool). bump (x && eqb l a) 0) (ne_eqb m k ne)
  works_else m l ne (suspects a read b) = ap (λ (x : Bool). bump (x && eqb l a) 0) (ne_eqb m k ne)
  works_else m l ne (blames p a q qs) = refl
  works_else m l ne (skips p a q qs) = refl

  pub works_here : (u : Loading) → IsLoading u → count (carries Compute k (life_of n)) (goes u) ≤ count (carries Compute k (life_of n)) (comes u) + count (is_suspect k (life_of n)) (comes u)
  works_here nothing is = omega arith
  works_here (readies a read b) is = omega arith
  works_here (drops a read b) is = let x : bump (two k (life_of n) k a) 0 ≡ 0 = ap (λ (o : Bool). bump o 0) (not_two k (life_of n) k a (λ q. is q.1)) in omega (arith, x)
  works_here (suspects a read b) is = let x = bump_le (two k (life_of n) k a) in let y : bump (two k (life_of n) k (life_of n)) 0 ≡ 1 = ap (λ (o : Bool). bump o 0) (two_here k (life_of n)) in omega (arith, x, y)
  works_here (blames p a q qs) is = omega arith
  works_here (skips p a q qs) is = omega arith

  -- a port leaves where a suspect of the key comes, or its place shows as spent
  pub port_goes : (a b : ℕ) (u : Loading) → IsLoading u → (count (reenters a b) (goes u) ≤ count (reenters a b) (comes u))
      ⊎ (((g.succ a b).task ≡ k) × ((0 < count (is_suspect k (life_of n)) (comes u)) ⊎ ((mark_of n ≡ 0) × (bit_at n (g.succ a b).place ≡ 1))))
  port_goes a b nothing is = inl (omega arith)
  port_goes a b (readies l read m) is = inl (omega arith)
  port_goes a b (drops l read m) is = inl (omega arith)
  port_goes a b (suspects l read m) is = inl (omega arith)
  port_goes a b (blames p l q qs) is = ⊎_elim (λ f. inl (let x = bump_is (eqb a p && is_in b qs) 0 in let y = bump_is (eqb a p && is_in b (q ∷ qs)) 0 in omega (arith, f, x, y)))
      (λ f. inr (ap (λ o. (g.succ o b).task) f.0 ∙ ap (λ o. (g.succ p o).task) f.1 ∙ sym is.1, inl (let y : bump (two k (life_of n) k (life_of n)) 0 ≡ 1 = ap (λ (o : Bool). bump o 0) (two_here k (life_of n)) in omega (arith, y)))) (port_over a b q qs p)
  port_goes a b (skips p l q qs) is = ⊎_elim (λ f. inl (let x = bump_is (eqb a p && is_in b qs) 0 in let y = bump_is (eqb a p && is_in b (q ∷ qs)) 0 in omega (arith, f, x, y)))
      (λ f. inr (ap (λ o. (g.succ o b).task) f.0 ∙ ap (λ o. (g.succ p o).task) f.1 ∙ sym is.1, inr (is.0, ap (λ o. bit_at n (g.succ o b).place) f.0 ∙ ap (λ o. bit_at n (g.succ p o).place) f.1 ∙ is.2))) (port_over a b q qs p)

  -- a result that goes was made for a life that is marked, or not the one shown
  pub made_goes : (m : ℕ) (u : Loading) → IsLoading u → (count (is_made_any m) (comes u) ≡ count (is_made_any m) (goes u)) ⊎ ((m ≡ k) × ((mark_of n ≡ 1) ⊎ ((l : ℕ) × (read : ℕ) × (life_of n ≢ l) × (u ≡ drops l read true))))
  made_goes m nothing is = inl refl
  made_goes m (readies l read b) is = inl refl
  made_goes m (drops l read false) is = inl (ap (λ (x : Bool). bump x 0) (sym (and_false (eqb m k))))
  made_goes m (drops l read true) is = ⊎_elim (λ q. inr (q.1, inr (l, read, is, refl))) (λ q. inl (sym (ap (λ (x : Bool). bump (x && true) 0) q.0))) (eqb_tells m k)
  made_goes m (suspects l read b) is = ⊎_elim (λ q. inr (q.1, inl is)) (λ q. inl (sym (ap (λ (x : Bool). bump (x && b) 0) q.0))) (eqb_tells m k)
  made_goes m (blames p l q qs) is = inl refl
  made_goes m (skips p l q qs) is = inl refl
