-- Rounds over a list ground no more causes after as many of them as there are records: so what a round grounds at any time, the last one does.
use Rattle.std.proofs.Common.{◌≡◌, ◌⊎◌, ℕ, zero, suc, ◌+◌, ◌-◌, ◌<◌, ◌≤◌, Bool, true, false, cond, ◌&&◌, nat_lt, eqb, List, [], ◌∷◌, length, ⊎_elim, inl, inr, arith, sym, ap, refl, ◌∙◌, subst}
use mathlib.Core.Logic.{dite}
use native.Mathlib.Decide.{ℕ_discrete}
use Rattle.std.proofs.lemmas.Bool.{and_from, lt-ltb, ltb-true}
use Rattle.core_state.specs.Graph.{Graph}
use Rattle.core_state.specs.Counts.{hit, count}
use Rattle.core_state.specs.Laws.{grounds, reads_upto, grounded_upto, IsGrounded}
use Rattle.graph_model.specs.declared.record.Cause.{Cause}
use Rattle.graph_model.specs.declared.record.Cause.TheVariants as cause
use Rattle.graph_model.specs.declared.record.Found.TheVariants as found
use Rattle.graph_model.specs.declared.record.Record.{Record}
use Rattle.graph_model.specs.declared.record.Record.TheVariants as record_of
use Rattle.core_state.proofs.Base.Counting.{bump_is, hit_le, both}
use Rattle.core_state.proofs.End.Lists.{count_below}

-- where one test implies the other and both count the same, they agree on each entry, and so do tests that follow them
same_count : {A : Type 0} (p q f h : A → Bool) → ((x : A) → p x ≡ true → q x ≡ true) → ((x : A) → p x ≡ q x → f x ≡ h x) → (xs : List A) → count p xs ≡ count q xs → count f xs ≡ count h xs
same_count p q f h more follow [] z = refl
same_count p q f h more follow (x ∷ xs) z = by (same_count p q f h more follow xs) (p x) (q x) refl refl
  where
    below : count p xs ≤ count q xs
    below = count_below p q more xs

    from : (count p xs ≡ count q xs → count f xs ≡ count h xs) → p x ≡ q x → count f (x ∷ xs) ≡ count h (x ∷ xs)
    from o e = let a = bump_is (p x) (count p xs) in let b = bump_is (q x) (count q xs) in let c = ap hit e in let rest = o (omega (arith, a, b, c, z)) in
        let l = bump_is (f x) (count f xs) in let m = bump_is (h x) (count h xs) in let n = ap hit (follow x e) in omega (arith, rest, l, m, n)

    by : (count p xs ≡ count q xs → count f xs ≡ count h xs) → (t u : Bool) → p x ≡ t → q x ≡ u → count f (x ∷ xs) ≡ count h (x ∷ xs)
    by o true u e d = from o (e ∙ sym (more x e))
    by o false false e d = from o (e ∙ sym d)
    by o false true e d = absurd (let a = bump_is (p x) (count p xs) in let b = bump_is (q x) (count q xs) in let c = ap hit e in let f' = ap hit d in let low = below in omega (arith, a, b, c, f', low, z))

count_length : {A : Type 0} (p : A → Bool) (xs : List A) → count p xs ≤ length xs
count_length p [] = omega arith
count_length p (x ∷ xs) = let a = bump_is (p x) (count p xs) in let b = hit_le (p x) in let c = count_length p xs in omega (arith, a, b, c)

module _ (g : Graph) (xs : List Record) where
  up_none : (c : Cause) → grounded_upto g xs zero c ≡ false
  unfolding grounded_upto
  up_none c = refl

  up_descriptor : (n : ℕ) → grounded_upto g xs (suc n) cause.Descriptor ≡ true
  unfolding grounded_upto
  up_descriptor n = refl

  up_notify : (n : ℕ) → grounded_upto g xs (suc n) cause.Notify ≡ true
  unfolding grounded_upto
  up_notify n = refl

  up_struck : (n b v w : ℕ) → grounded_upto g xs (suc n) (cause.Block b v (found.Struck w)) ≡ true
  unfolding grounded_upto
  up_struck n b v w = refl

  up_other : (n b v u : ℕ) → grounded_upto g xs (suc n) (cause.Block b v (found.Other u)) ≡ nat_lt 0 (count (grounds g b v u (grounded_upto g xs n)) xs)
  unfolding grounded_upto
  up_other n b v u = refl

  grounds_more : (b v u : ℕ) (f h : Cause → Bool) → ((c : Cause) → f c ≡ true → h c ≡ true) → (x : Record) → grounds g b v u f x ≡ true → grounds g b v u h x ≡ true
  grounds_more b v u f h more (record_of.Replaced a l c) z = let parts = both (cond (nat_lt v u) (reads_upto g a.0 b v (g.inputs a.0)) (nat_lt u v && eqb a.0 (g.writer b u))) (f c) z in and_from (cond (nat_lt v u) (reads_upto g a.0 b v (g.inputs a.0)) (nat_lt u v && eqb a.0 (g.writer b u))) (h c) parts.0 (more c parts.1)
  grounds_more b v u f h more x z = absurd cc

  -- each round grounds what the one before did
  more_up : (n : ℕ) (c : Cause) → grounded_upto g xs n c ≡ true → grounded_upto g xs (suc n) c ≡ true
  more_up zero c z = absurd (let a = up_none c in cc)
  more_up (suc n) cause.Descriptor z = up_descriptor (suc n)
  more_up (suc n) cause.Notify z = up_notify (suc n)
  more_up (suc n) (cause.Block b v (found.Struck w)) z = up_struck (suc n) b v w
  more_up (suc n) (cause.Block b v (found.Other u)) z = up_other (suc n) b v u ∙ lt-ltb 0 _ (let a = ltb-true 0 _ (sym (up_other n b v u) ∙ z) in let b' = count_below (grounds g b v u (grounded_upto g xs n)) (grounds g b v u (grounded_upto g xs (suc n))) (grounds_more b v u (grounded_upto g xs n) (grounded_upto g xs (suc n)) (more_up n)) xs in omega (arith, a, b'))

  -- a replacement whose cause is grounded in the round
  abbrev is_up : ℕ → Record → Bool
  is_up n (record_of.Replaced a l c) = grounded_upto g xs n c
  is_up n x = false

  is_up_more : (n : ℕ) (x : Record) → is_up n x ≡ true → is_up (suc n) x ≡ true
  is_up_more n (record_of.Replaced a l c) z = more_up n c z
  is_up_more n x z = absurd cc

  follows : (n b v u : ℕ) (x : Record) → is_up n x ≡ is_up (suc n) x → grounds g b v u (grounded_upto g xs n) x ≡ grounds g b v u (grounded_upto g xs (suc n)) x
  follows n b v u (record_of.Replaced a l c) z = ap (λ (t : Bool). cond (nat_lt v u) (reads_upto g a.0 b v (g.inputs a.0)) (nat_lt u v && eqb a.0 (g.writer b u)) && t) z
  follows n b v u (record_of.Created a) z = refl
  follows n b v u (record_of.Spent a l j) z = refl
  follows n b v u (record_of.Computed a l) z = refl
  follows n b v u (record_of.Written a l c w) z = refl
  follows n b v u (record_of.Closed a l w) z = refl
  follows n b v u (record_of.Struck a l h) z = refl

  -- where a round grounds no more replacements, the next one grounds no more causes
  stays : (n : ℕ) → count (is_up n) xs ≡ count (is_up (suc n)) xs → (c : Cause) → grounded_upto g xs (suc n) c ≡ grounded_upto g xs (suc (suc n)) c
  stays n z cause.Descriptor = up_descriptor n ∙ sym (up_descriptor (suc n))
  stays n z cause.Notify = up_notify n ∙ sym (up_notify (suc n))
  stays n z (cause.Block b v (found.Struck w)) = up_struck n b v w ∙ sym (up_struck (suc n) b v w)
  stays n z (cause.Block b v (found.Other u)) = up_other n b v u ∙ ap (nat_lt 0) (same_count (is_up n) (is_up (suc n)) (grounds g b v u (grounded_upto g xs n)) (grounds g b v u (grounded_upto g xs (suc n))) (is_up_more n) (follows n b v u) xs z) ∙ sym (up_other (suc n) b v u)

  still : (n : ℕ) → count (is_up n) xs ≡ count (is_up (suc n)) xs → count (is_up (suc n)) xs ≡ count (is_up (suc (suc n))) xs
  still n z = same_count (is_up n) (is_up n) (is_up (suc n)) (is_up (suc (suc n))) (λ x t. t) (λ x t. by x) xs refl
    where
      by : (x : Record) → is_up (suc n) x ≡ is_up (suc (suc n)) x
      by (record_of.Replaced a l c) = stays n z c
      by (record_of.Created a) = refl
      by (record_of.Spent a l j) = refl
      by (record_of.Computed a l) = refl
      by (record_of.Written a l c w) = refl
      by (record_of.Closed a l w) = refl
      by (record_of.Struck a l h) = refl

  -- the first m rounds each ground one more, or one of them none
  some_stable : (m : ℕ) → ((n : ℕ) × (n < m) × (count (is_up n) xs ≡ count (is_up (suc n)) xs)) ⊎ (m ≤ count (is_up m) xs)
  some_stable zero = inr (omega arith)
  some_stable (suc m) = ⊎_elim (λ z. inl (z.0, (let a = z.1 in omega (arith, a)), z.2))
      (λ low. dite (ℕ_discrete (count (is_up m) xs) (count (is_up (suc m)) xs)) (λ q. inl (m, omega arith, q)) (λ ne. inr (let a = count_below (is_up m) (is_up (suc m)) (is_up_more m) xs in omega (arith, a, ne, low)))) (some_stable m)

  -- from then on a later round is the same
  later_same : (d n : ℕ) → count (is_up n) xs ≡ count (is_up (suc n)) xs → (c : Cause) → grounded_upto g xs (suc (d + n)) c ≡ grounded_upto g xs (suc n) c
  later_same zero n z c = ap (λ y. grounded_upto g xs (suc y) c) (let q : zero + n ≡ n = omega arith in q)
  later_same (suc d) n z c = ap (λ y. grounded_upto g xs (suc y) c) (let q : suc d + n ≡ d + suc n = omega arith in q) ∙ later_same d (suc n) (still n z) c ∙ sym (stays n z c)

  up_by : (d n : ℕ) (c : Cause) → grounded_upto g xs n c ≡ true → grounded_upto g xs (d + n) c ≡ true
  up_by zero n c z = subst (λ y. grounded_upto g xs y c ≡ true) (let q : n ≡ zero + n = omega arith in q) z
  up_by (suc d) n c z = subst (λ y. grounded_upto g xs y c ≡ true) (let q : suc (d + n) ≡ suc d + n = omega arith in q) (more_up (d + n) c (up_by d n c z))

  -- what the round after the last grounds, the last one grounds
  last_up : (c : Cause) → grounded_upto g xs (suc (length xs + 1)) c ≡ true → grounded_upto g xs (length xs + 1) c ≡ true
  last_up c z = ⊎_elim
      (λ n. let k : ℕ = n.0 in let low : k < length xs + 1 = n.1 in let d : ℕ = length xs - k in
      let one : grounded_upto g xs (suc k) c ≡ true = sym (later_same (suc d) k n.2 c) ∙ subst (λ y. grounded_upto g xs y c ≡ true) (let q : suc (length xs + 1) ≡ suc (suc d + k) = omega (arith, low) in q) z in
      subst (λ y. grounded_upto g xs y c ≡ true) (let q : d + suc k ≡ length xs + 1 = omega (arith, low) in q) (up_by d (suc k) c one))
      (λ high. absurd (let a = count_length (is_up (length xs + 1)) xs in omega (arith, a, high))) (some_stable (length xs + 1))

  -- the causes that a list grounds, by rules
  at_once : (c : Cause) → grounded_upto g xs (suc (length xs)) c ≡ true → IsGrounded g xs c
  at_once c z = subst (λ y. grounded_upto g xs y c ≡ true) (let q : suc (length xs) ≡ length xs + 1 = omega arith in q) z

  pub by_descriptor : IsGrounded g xs cause.Descriptor
  by_descriptor = at_once cause.Descriptor (up_descriptor (length xs))

  pub by_notify : IsGrounded g xs cause.Notify
  by_notify = at_once cause.Notify (up_notify (length xs))

  pub by_struck : (b v w : ℕ) → IsGrounded g xs (cause.Block b v (found.Struck w))
  by_struck b v w = at_once (cause.Block b v (found.Struck w)) (up_struck (length xs) b v w)

  pub by_other : (b v u : ℕ) → 0 < count (grounds g b v u (grounded_upto g xs (length xs + 1))) xs → IsGrounded g xs (cause.Block b v (found.Other u))
  by_other b v u z = last_up (cause.Block b v (found.Other u)) (up_other (length xs + 1) b v u ∙ lt-ltb 0 _ z)
