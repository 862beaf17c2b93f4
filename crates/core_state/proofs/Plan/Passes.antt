-- That the strikes of a passed point were made: what a step has to leave for it, and that nothing left at a point means that all of its strikes were made.
use Rattle.std.proofs.Common.{◌≡◌, ◌⊎◌, ℕ, zero, suc, ◌+◌, ◌<◌, ◌≤◌, Bool, true, false, cond, eqb, List, [], ◌∷◌, ⊎_elim, inl, inr, arith, sym, refl, ◌∙◌, subst}
use mathlib.Core.Logic.{dite}
use mathlib.Core.Option.{Option, some, none, some-ne-none}
use native.Mathlib.Decide.{ℕ_discrete}
use Rattle.core_state.specs.Graph.{Setting, Graph, Plan}
use Rattle.core_state.specs.Counts.{bump, count, items, noted, struck_by}
use Rattle.core_state.specs.Tests.{is_in, same_point, is_loaded, is_close, is_spent, is_computed, is_closed}
use Rattle.core_state.specs.Change.{Core, many}
use Rattle.core_state.specs.Laws.{AllClosed}
use Rattle.core_state.specs.Cover.{Passed}
use Rattle.core_state.specs.Views.{has_word, is_left, first_of, next_strike, none_left}
use Rattle.graph_model.specs.declared.plan.Strike.{Strike}
use Rattle.graph_model.specs.declared.plan.Point.{Point}
use Rattle.graph_model.specs.declared.plan.Point.TheVariants as point
use Rattle.graph_model.specs.declared.record.Record.{Record}
use Rattle.core_state.specs.declared.views.Item.{Item}
use Rattle.core_state.specs.declared.views.View.{View}
use Rattle.core_state.proofs.Base.Counting.{two_here}

-- each strike of the plan at this point of the life, on a word that the task has, was made
abbrev pub AllMade : Setting → Core → Point → ℕ → ℕ → Type 0
AllMade e t at k l = (n : ℕ) → n < e.plan.count → has_word e.graph (e.plan.strike n).key.0 (e.plan.strike n).target ≡ true → (e.plan.strike n).point ≡ at → (e.plan.strike n).key.0 ≡ k → (e.plan.strike n).life ≡ l → 0 < t.total (struck_by n)

first_none : (p : ℕ → Bool) (i m n : ℕ) → first_of p i m ≡ none → i ≤ n → n < i + m → p n ≡ false
first_none p i zero n z low high = absurd (omega (arith, low, high))
first_none p i (suc m) n z low high = by (first_none p (i + 1) m n) (p i) refl z
  where
    by : (first_of p (i + 1) m ≡ none → i + 1 ≤ n → n < i + 1 + m → p n ≡ false) → (b : Bool) → p i ≡ b → cond b (some i) (first_of p (i + 1) m) ≡ none → p n ≡ false
    by r true q z = absurd (some-ne-none i z)
    by r false q z = dite (ℕ_discrete i n) (λ same. subst (λ o. p o ≡ false) same q) (λ ne. r z (omega (arith, low, ne)) (omega (arith, high)))

same_point_here : (a : Point) → same_point a a ≡ true
same_point_here point.Explored = refl
same_point_here point.Ready = refl
same_point_here point.Computed = refl
same_point_here point.Notified = refl

in_counted : (n : ℕ) (xs : List ℕ) → cond (is_in n xs) false true ≡ false → 0 < count (eqb n) xs
in_counted n [] z = absurd cc
in_counted n (x ∷ xs) z = by (in_counted n xs) (eqb n x) z
  where
    by : (cond (is_in n xs) false true ≡ false → 0 < count (eqb n) xs) → (b : Bool) → cond (cond b true (is_in n xs)) false true ≡ false → 0 < bump b (count (eqb n) xs)
    by r true z = omega arith
    by r false z = r z

-- no strike is left at a point: each of them is among those that were made
pub none_next : (g : Graph) (p : Plan) (at : Point) (k l : ℕ) (made : List ℕ) → next_strike g p at k l made ≡ none
    → (n : ℕ) → n < p.count → has_word g (p.strike n).key.0 (p.strike n).target ≡ true → (p.strike n).point ≡ at → (p.strike n).key.0 ≡ k → (p.strike n).life ≡ l → 0 < count (eqb n) made
none_next g p at k l made z n low word on_point on_key on_life = let x : Strike = p.strike n in
    let left : is_left g p at k l made n ≡ false = first_none (is_left g p at k l made) 0 p.count n z (omega arith) (omega (arith, low)) in
    let here : is_left g p (p.strike n).point (p.strike n).key.0 (p.strike n).life made n ≡ false = subst (λ (o : Point). is_left g p o (p.strike n).key.0 (p.strike n).life made n ≡ false) (sym on_point) (subst (λ o. is_left g p at o (p.strike n).life made n ≡ false) (sym on_key) (subst (λ o. is_left g p at k o made n ≡ false) (sym on_life) left)) in
    let plain : is_left g p (p.strike n).point (p.strike n).key.0 (p.strike n).life made n ≡ cond (is_in n made) false true = rw (same_point_here (p.strike n).point, two_here (p.strike n).key.0 (p.strike n).life, word) refl in in_counted n made (sym plain ∙ here)

pub left_none : (g : Graph) (p : Plan) (at : Point) (k l : ℕ) (made : List ℕ) → none_left g p at k l made ≡ true → next_strike g p at k l made ≡ none
left_none g p at k l made z = by (next_strike g p at k l made) refl
  where
    by : (o : Option ℕ) → next_strike g p at k l made ≡ o → o ≡ none
    by none is = refl
    by (some n) is = absurd (let f : none_left g p at k l made ≡ false = rw is refl in cc)

module _ (e : Setting) (s t : Core) (v w : View) (change : (f : View → ℕ) → t.total f + f v ≡ s.total f + f w) (within : (f : View → ℕ) → f v ≤ s.total f) where
  -- a view to which nothing is left at a point has made the strikes of the point, and they stay made
  pub view_made : ((n : ℕ) → struck_by n v ≤ struck_by n w) → (at : Point) (k l : ℕ) → next_strike e.graph e.plan at k l v.strikes ≡ none → AllMade e t at k l
  view_made struck at k l z n low word on_point on_key on_life = let a = none_next e.graph e.plan at k l v.strikes z n low word on_point on_key on_life in let b = change (struck_by n) in let c = within (struck_by n) in let d = struck n in omega (arith, a, b, c, d)

-- what a step leaves of what tells that a point was passed
pub record Passes (e : Setting) (s t : Core) : Type 0 where
  pub struck : (n : ℕ) → s.total (struck_by n) ≤ t.total (struck_by n)
  pub explored : (k : ℕ) → 0 < many t (is_spent k 1 40) → (0 < many s (is_spent k 1 40)) ⊎ AllMade e t point.Explored k 1
  pub ready : (k l : ℕ) → 0 < many t (is_computed k l) + t.total (items (is_loaded k l)) → (0 < many s (is_computed k l) + s.total (items (is_loaded k l))) ⊎ AllMade e t point.Ready k l
  pub computed : (k l : ℕ) → 0 < many t (is_closed k l 0) → (0 < many s (is_closed k l 0)) ⊎ AllMade e t point.Computed k l
  -- a life whose words are all closed is still being closed, or its strikes were made, or nothing changed for it
  pub notified : (k l : ℕ) → AllClosed e.graph e.plan (many t) k l → (0 < t.total (items (is_close k l))) ⊎ (AllMade e t point.Notified k l ⊎ (AllClosed e.graph e.plan (many s) k l × (s.total (items (is_close k l)) ≤ t.total (items (is_close k l)))))

pub passes_keep : (e : Setting) (s t : Core) → Passes e s t → Passed e s → Passed e t
passes_keep e s t u i = record {
  each = λ n low word. let old = i.each n low word in let x : Strike = e.plan.strike n in let more : 0 < s.total (struck_by n) → 0 < t.total (struck_by n) = (λ z. let a = u.struck n in omega (arith, a, z)) in record {
    explored = λ at one z. ⊎_elim (λ q. more (old.explored at one q)) (λ f. f n low word at refl one) (u.explored x.key.0 z);
    ready = λ at z. ⊎_elim (λ q. more (old.ready at q)) (λ f. f n low word at refl refl) (u.ready x.key.0 x.life z);
    computed = λ at z. ⊎_elim (λ q. more (old.computed at q)) (λ f. f n low word at refl refl) (u.computed x.key.0 x.life z);
    notified = λ at all. ⊎_elim (λ q. inl q) (λ r. ⊎_elim (λ f. inr (f n low word at refl refl)) (λ q. ⊎_elim (λ y. inl (let a = q.1 in omega (arith, y, a))) (λ y. inr (more y)) (old.notified at q.0)) r) (u.notified x.key.0 x.life all);
  };
}

-- no such item or record comes or goes, and the strikes that were made stay
pub same_passed : (e : Setting) (s t : Core) → ((p : Item → Bool) → t.total (items p) ≡ s.total (items p)) → ((p : Record → Bool) → many t p ≡ many s p) → ((n : ℕ) → t.total (struck_by n) ≡ s.total (struck_by n)) → Passed e s → Passed e t
same_passed e s t its recs by = passes_keep e s t record {
  struck = λ n. let a = by n in omega (arith, a);
  explored = λ k z. inl (let a = recs (is_spent k 1 40) in omega (arith, a, z));
  ready = λ k l z. inl (let a = recs (is_computed k l) in let b = its (is_loaded k l) in omega (arith, a, b, z));
  computed = λ k l z. inl (let a = recs (is_closed k l 0) in omega (arith, a, z));
  notified = λ k l all. inr (inr ((λ i low. let a = recs (is_closed k l i) in let b = all i low in omega (arith, a, b)), let a = its (is_close k l) in omega (arith, a)));
}

-- a view that passes no point: no such record came, no computing was loaded, and no closing went
pub record PassesNone (v w : View) : Type 0 where
  pub struck : (n : ℕ) → struck_by n v ≤ struck_by n w
  pub spent : (k : ℕ) → noted (is_spent k 1 40) w ≡ noted (is_spent k 1 40) v
  pub computed : (k l : ℕ) → noted (is_computed k l) w ≡ noted (is_computed k l) v
  pub closed : (k l i : ℕ) → noted (is_closed k l i) w ≡ noted (is_closed k l i) v
  pub loads : (k l : ℕ) → items (is_loaded k l) w ≤ items (is_loaded k l) v
  pub closes : (k l : ℕ) → items (is_close k l) v ≤ items (is_close k l) w

module _ (e : Setting) (s t : Core) (v w : View) (change : (f : View → ℕ) → t.total f + f v ≡ s.total f + f w) where
  pub same_closed : ((k l i : ℕ) → noted (is_closed k l i) w ≡ noted (is_closed k l i) v) → (k l : ℕ) → AllClosed e.graph e.plan (many t) k l → AllClosed e.graph e.plan (many s) k l
  same_closed closed k l all i low = let a = change (noted (is_closed k l i)) in let b = closed k l i in let c = all i low in omega (arith, a, b, c)

  pub none_passed : PassesNone v w → Passed e s → Passed e t
  none_passed u = passes_keep e s t record {
    struck = λ n. let a = change (struck_by n) in let b = u.struck n in omega (arith, a, b);
    explored = λ k z. inl (let a = change (noted (is_spent k 1 40)) in let b = u.spent k in omega (arith, a, b, z));
    ready = λ k l z. inl (let a = change (noted (is_computed k l)) in let b = u.computed k l in let c = change (items (is_loaded k l)) in let d = u.loads k l in omega (arith, a, b, c, d, z));
    computed = λ k l z. inl (let a = change (noted (is_closed k l 0)) in let b = u.closed k l 0 in omega (arith, a, b, z));
    notified = λ k l all. inr (inr (same_closed u.closed k l all, let a = change (items (is_close k l)) in let b = u.closes k l in omega (arith, a, b)));
  }
