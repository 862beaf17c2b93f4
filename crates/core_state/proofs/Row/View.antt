-- Claiming a row for a key.
use Rattle.std.proofs.Common.{◌≡◌, ◌≢◌, ℕ, zero, suc, ◌+◌, ◌-◌, ◌%◌, ◌<◌, ◌≤◌, Bool, true, false, cond, eqb, List, [], ◌∷◌, ⊎_elim, arith, sym, ap, refl, ◌∙◌, subst}
use mathlib.Core.Logic.{dite}
use native.Mathlib.Decide.{ℕ_discrete, dec_lt}
use Rattle.std.proofs.lemmas.Bool.Decides.{eqb_tells}
use Rattle.std.proofs.lemmas.Bool.{eq-eqb}
use Rattle.core_state.specs.Graph.{Setting}
use Rattle.core_state.specs.Words.{key}
use Rattle.core_state.specs.Counts.{hit, bump, count, items, in_stacks, noted, knows_row, word_in}
use Rattle.core_state.specs.Tests.{two, is_at, is_of, is_row}
use Rattle.core_state.specs.Change.{Core, Sums, many}
use Rattle.core_state.specs.Rows.{HasKey, HasRow, Keys}
use Rattle.core_state.specs.Records.{Records}
use Rattle.core_state.specs.Effects.{is_other, others_before, distance}
use Rattle.core_state.specs.declared.views.Item.{Item}
use Rattle.core_state.specs.declared.views.Known.{Known}
use Rattle.core_state.specs.declared.views.Known.TheVariants as known
use Rattle.graph_model.specs.declared.record.Record.{Record}
use Rattle.core_state.specs.declared.views.Stack.{Stack}
use Rattle.core_state.specs.declared.views.View.{View}
use Rattle.core_state.proofs.Base.Paths.{reaches, distance_below}
use Rattle.core_state.proofs.Base.Counting.{bump_is, both}

-- what a view knows of a row's key word is one of its facts
pub word_known : (r : ℕ) (xs : List Known) → 0 < word_in r xs → 0 < count (is_row r (word_in r xs - 1)) xs
word_known r [] z = z
word_known r (known.Row row m ∷ xs) z = by (word_known r xs) (eqb r row) refl z
  where
    by : (0 < word_in r xs → 0 < count (is_row r (word_in r xs - 1)) xs) → (b : Bool) → eqb r row ≡ b → 0 < cond b (m + 1) (word_in r xs) → 0 < bump (two r (cond b (m + 1) (word_in r xs) - 1) row m) (count (is_row r (cond b (m + 1) (word_in r xs) - 1)) xs)
    by h true e z = let n : ℕ = count (is_row r (m + 1 - 1)) xs in let a : bump (two r (m + 1 - 1) row m) n ≡ hit (two r (m + 1 - 1) row m) + n = bump_is (two r (m + 1 - 1) row m) n in
        let b : hit (two r (m + 1 - 1) row m) ≡ 1 = rw (e, eq-eqb (m + 1 - 1) m (omega arith)) in omega (arith, a, b)
    by h false e z = let n : ℕ = count (is_row r (word_in r xs - 1)) xs in let a : bump (two r (word_in r xs - 1) row m) n ≡ hit (two r (word_in r xs - 1) row m) + n = bump_is (two r (word_in r xs - 1) row m) n in let b : 0 < n = h z in omega (arith, a, b)
word_known r (known.Idle ∷ xs) z = word_known r xs z
word_known r (known.Stopped ∷ xs) z = word_known r xs z
word_known r (known.Stops ∷ xs) z = word_known r xs z
word_known r (known.Life k w l ∷ xs) z = word_known r xs z
word_known r (known.Mark k w l ∷ xs) z = word_known r xs z
word_known r (known.Closed k w l ∷ xs) z = word_known r xs z
word_known r (known.Waits k w l ∷ xs) z = word_known r xs z

-- each row before the end of the path is known to hold another key
pub before : (rows k : ℕ) (xs : List Known) (d i : ℕ) → others_before rows k xs d ≡ true → i < d → is_other k (word_in ((k + i) % rows) xs) ≡ true
before rows k xs zero i e low = absurd (omega (arith, low))
before rows k xs (suc d) i e low = let q = both (others_before rows k xs d) (is_other k (word_in ((k + d) % rows) xs)) e in dite (ℕ_discrete i d)
    (λ z. subst (λ x. is_other k (word_in ((k + x) % rows) xs) ≡ true) (sym z) q.1)
    (λ z. before rows k xs d i q.0 (omega (arith, low, z)))

other_is : (k n : ℕ) → is_other k n ≡ true → (0 < n) × (n ≢ k + 1)
other_is k n e = ⊎_elim (λ z. absurd (let a : is_other k n ≡ false = ap (λ (b : Bool). cond b false (cond (eqb n (k + 1)) false true)) z.0 in cc)) (λ z. (
  let a = z.1 in dite (dec_lt 0 n) (λ l. l) (λ l. absurd (z.1 (omega (arith, l)))),
  λ y. let a : is_other k n ≡ cond (eqb n (k + 1)) false true = ap (λ (b : Bool). cond b false (cond (eqb n (k + 1)) false true)) z.0 in
      ⊎_elim (λ u. let b : cond (eqb n (k + 1)) false true ≡ false = ap (λ (b : Bool). cond b false true) u.0 in absurd cc) (λ u. u.1 y) (eqb_tells n (k + 1)),
)) (eqb_tells n 0)

-- where every view has none of p, none has any of q
pub fewer : {A : Type 0} (p q : A → Bool) → ((x : A) → q x ≡ true → p x ≡ true) → (xs : List A) → count p xs ≡ 0 → count q xs ≡ 0
fewer p q h [] z = refl
fewer p q h (x ∷ xs) z = let a = bump_is (p x) (count p xs) in let b = bump_is (q x) (count q xs) in let c : count q xs ≡ 0 = fewer p q h xs (omega (arith, a, z)) in
    let d : hit (q x) ≡ 0 = by (q x) refl (omega (arith, a, z)) in omega (arith, b, c, d)
  where
    by : (t : Bool) → q x ≡ t → hit (p x) ≡ 0 → hit t ≡ 0
    by true e n = let a : hit (p x) ≡ 1 = ap hit (h x e) in absurd (omega (arith, a, n))
    by false e n = refl

pub count_below : {A : Type 0} (p q : A → Bool) → ((x : A) → p x ≡ true → q x ≡ true) → (xs : List A) → count p xs ≤ count q xs
count_below p q h [] = omega arith
count_below p q h (x ∷ xs) = let a = bump_is (p x) (count p xs) in let b = bump_is (q x) (count q xs) in let c = count_below p q h xs in let d : hit (p x) ≤ hit (q x) = by (p x) refl in omega (arith, a, b, c, d)
  where
    by : (t : Bool) → p x ≡ t → hit t ≤ hit (q x)
    by true e = let a = ap hit (h x e) in omega (arith, a)
    by false e = omega arith

-- the items of one kind are no more than those of a wider one
pub items_below : (p q : Item → Bool) → ((x : Item) → p x ≡ true → q x ≡ true) → (ss : List Stack) → in_stacks p ss ≤ in_stacks q ss
items_below p q h [] = omega arith
items_below p q h (s ∷ ss) = let a = count_below p q h s.items in let b = items_below p q h ss in omega (arith, a, b)

pub fewer_items : (p q : Item → Bool) → ((x : Item) → q x ≡ true → p x ≡ true) → (ss : List Stack) → in_stacks p ss ≡ 0 → in_stacks q ss ≡ 0
fewer_items p q h [] z = refl
fewer_items p q h (s ∷ ss) z = let a : count q s.items ≡ 0 = fewer p q h s.items (omega (arith, z)) in let b = fewer_items p q h ss (omega (arith, z)) in omega (arith, a, b)

module _ (e : Setting) (s : Core) (r k : ℕ) (v : View) where
  -- a row on the path before the one that is claimed holds another key
  pub other_there : Keys e s → ((f : View → ℕ) → f v ≤ s.total f) → others_before e.shape.rows k v.known (distance e.shape.rows k r) ≡ true → (i : ℕ) → i < distance e.shape.rows k r → (m : ℕ) × HasKey e s ((k + i) % e.shape.rows) m × (m ≢ k)
  other_there keys within path i low = let x : ℕ = (k + i) % e.shape.rows in let o = other_is k (word_in x v.known) (before e.shape.rows k v.known (distance e.shape.rows k r) i path low) in let m : ℕ = word_in x v.known - 1 in
      let there : HasKey e s x m = keys.known x m (let a = within (knows_row x m) in let b : 0 < count (is_row x m) v.known = word_known x v.known o.0 in omega (arith, a, b)) in
      (m, there, λ z. let n = o.1 in let p = o.0 in n (omega (arith, z, p)))

  -- the key has no row yet
  pub no_row : Keys e s → ((f : View → ℕ) → f v ≤ s.total f) → r < e.shape.rows → others_before e.shape.rows k v.known (distance e.shape.rows k r) ≡ true → s.word (key r) ≡ 0 → HasRow e s k → ⊥
  no_row keys within inside path z has = let rows : ℕ = e.shape.rows in let x : ℕ = has.0 in let d : ℕ = distance rows k x in let f : ℕ = distance rows k r in let low : x < rows = has.1.0 in let to_x = reaches rows k x low in let to_r = reaches rows k r inside in
      dite (dec_lt d f)
      (λ l. let o = other_there keys within path d l in let a : s.word (key x) ≡ suc o.0 = ap (λ y. s.word (key y)) to_x ∙ o.1.1 in let b = has.1.1 in o.2 (omega (arith, a, b)))
      (λ l. dite (dec_lt f d)
      (λ m. let a = keys.path x k d f has.1 (distance_below rows k x low) to_x m in let b : s.word (key ((k + f) % rows)) ≡ 0 = ap (λ y. s.word (key y)) (sym to_r) ∙ z in omega (arith, a, b))
      (λ m. let q : d ≡ f = omega (arith, l, m) in let w : x ≡ r = to_x ∙ ap (λ y. (k + y) % rows) q ∙ sym to_r in let a = has.1.1 in let b : s.word (key x) ≡ 0 = ap (λ y. s.word (key y)) w ∙ z in omega (arith, a, b)))

  -- no record and no item is of the key
  pub no_record : Sums s → Records e s → (HasRow e s k → ⊥) → Keys e s → (l : ℕ) → many s (is_of k l) ≡ 0
  no_record sums recs none keys l = dite (ℕ_discrete (many s (is_of k l)) 0) (λ z. z) (λ z. absurd (none (keys.of_created k (let a = recs.lives.created_once k l (omega (arith, z)) in omega (arith, a)))))

  pub no_record_such : Sums s → Records e s → (HasRow e s k → ⊥) → Keys e s → (l : ℕ) (p : Record → Bool) → ((x : Record) → p x ≡ true → is_of k l x ≡ true) → many s p ≡ 0
  no_record_such sums recs none keys l p h = sums.none (noted (is_of k l)) (noted p) (λ u z. fewer (is_of k l) p h u.records z) (no_record sums recs none keys l)

  pub no_item : Sums s → (HasRow e s k → ⊥) → Keys e s → (p : Item → Bool) → ((x : Item) → p x ≡ true → is_at k x ≡ true) → s.total (items p) ≡ 0
  no_item sums none keys p h = sums.none (items (is_at k)) (items p) (λ u z. fewer_items (is_at k) p h u.stacks z) (dite (ℕ_discrete (s.total (items (is_at k))) 0) (λ z. z) (λ z. absurd (none (keys.of_item k (omega (arith, z))))))
