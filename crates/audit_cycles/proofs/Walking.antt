-- The walks that find components stay inside, and end.
use Rattle.std.proofs.Common.{◌≡◌, ◌∙◌, ℕ, ◌+◌, ◌*◌, ◌-◌, ◌<◌, ◌≤◌, inl, inr, Bool, true, false, List, [], ◌∷◌, ◌++◌, length, get_or, set, ap, sym, subst, arith, Contains, All, Vec, replicate}
use Rattle.std.specs.Prelude.{sum_by}
use Rattle.std.specs.declared.alloc.Global.{Global}
use Rattle.std.proofs.lemmas.Bool.{cases_eq}
use Rattle.std.proofs.lemmas.List.{length-set, get_or-set_same, get_or-set_other, get_or-replicate, length-replicate}
use Rattle.std.proofs.lemmas.List.Sums.{sum_by-append, sum_by-cons, get_or-le-sum_by}
use Rattle.std.proofs.lemmas.List.Elements.{Contains-push, Contains-append_left, Contains-push_cases}
use Rattle.audit_checks.specs.Rows.{rows_of, row, IsWithin}
use Rattle.audit_checks.proofs.RowLemmas.{rows_long}
use Rattle.audit_cycles.specs.Searching.{unseen, Sees}
use Rattle.audit_cycles.specs.Components.{AreRows, IsWalk, IsSearching}
use Rattle.audit_cycles.proofs.Searching.{named_at, named_within, unseen_set, seen_inside}

within_push : (n : ℕ) (es : List (ℕ × ℕ)) (e : ℕ × ℕ) → IsWithin n es → e.0 < n → IsWithin n (es ++ e ∷ [])
within_push n [] e within inside = (inside, tt)
within_push n (x ∷ xs) e within inside = (within.0, within_push n xs e within.1 inside)

within_pop : (n : ℕ) (es : List (ℕ × ℕ)) (e : ℕ × ℕ) → IsWithin n (es ++ e ∷ []) → IsWithin n es × (e.0 < n)
within_pop n [] e within = (tt, within.0)
within_pop n (x ∷ xs) e within = let w = within_pop n xs e within.1 in ((within.0, w.0), w.1)

-- what stands at place j of row k
pub place_within : (places : List (List (ℕ × ℕ))) (n k j : ℕ) → All (IsWithin n) places → k < length places → j < length (row places k) → (get_or (row places k) j (0, 0)).0 < n
place_within places n k j all inside there = named_within n (row places k) (get_or (row places k) j (0, 0)).0 (all k [] inside) (named_at (row places k) j there)

-- ---- a walk

pub walk_pushed : (n : ℕ) (path path' : List (ℕ × ℕ)) (order : List ℕ) (e : ℕ × ℕ) → IsWalk n path order → e.0 < n → path' ≡ path ++ e ∷ [] → IsWalk n path' order
walk_pushed n path path' order e walk inside is = record { ahead = subst (IsWithin n) (sym is) (within_push n path e walk.ahead inside); done = walk.done }

pub walk_popped : (n : ℕ) (old path : List (ℕ × ℕ)) (order : List ℕ) (e : ℕ × ℕ) → IsWalk n old order → old ≡ path ++ e ∷ [] → IsWalk n path order × (e.0 < n)
walk_popped n old path order e walk is = let w = within_pop n path e (subst (IsWithin n) is walk.ahead) in (record { ahead = w.0; done = walk.done }, w.1)

pub walk_ordered : (n : ℕ) (path : List (ℕ × ℕ)) (order order' : List ℕ) (k : ℕ) → IsWalk n path order → k < n → order' ≡ order ++ k ∷ [] → IsWalk n path order'
walk_ordered n path order order' k walk inside is = record {
  ahead = walk.ahead;
  done = λ i has. elim (Contains-push_cases order k i (subst (λ l. Contains l i) is has)) [
    | inl before ↦ walk.done i before
    | inr same ↦ subst (λ m. m < n) same inside
  ];
}

pub no_walk : (n : ℕ) (path : List (ℕ × ℕ)) (order : List ℕ) → path ≡ [] → order ≡ [] → IsWalk n path order
no_walk n path order none_ahead none_done = record {
  ahead = subst (IsWithin n) (sym none_ahead) tt;
  done = λ k has. absurd (omega (arith, has.1, ap length none_done));
}

abbrev pub steps : ℕ → List (ℕ × ℕ) → ℕ
steps most path = sum_by (λ e. most - e.1 + 1) path

pub steps_push : (most : ℕ) (path : List (ℕ × ℕ)) (e : ℕ × ℕ) → steps most (path ++ e ∷ []) ≡ steps most path + (most - e.1 + 1)
steps_push most path e = omega (arith, sum_by-append (λ (x : ℕ × ℕ). most - x.1 + 1) path (e ∷ []), sum_by-cons (λ (x : ℕ × ℕ). most - x.1 + 1) e [])

pub enter_falls : (seen : List Bool) (path path' : List (ℕ × ℕ)) (p most : ℕ) → p < length seen → get_or seen p false ≡ false → path' ≡ path ++ (p, 0) ∷ []
    → steps most path' + unseen (set seen p true) * (most + 2) ≤ steps most path + unseen seen * (most + 2)
enter_falls seen path path' p most inside new is =
    omega (arith, ap (steps most) is, steps_push most path (p, 0), ap (λ n. n * (most + 2)) (unseen_set seen p inside new))

pub row_short : (places : List (List (ℕ × ℕ))) (k j : ℕ) → k < length places → j < length (row places k) → j < sum_by length places
row_short places k j inside there = omega (arith, get_or-le-sum_by length places k [] inside)

-- the next place is looked at
pub next_falls : (most task j more after : ℕ) (old path path' : List (ℕ × ℕ)) → old ≡ path ++ (task, j) ∷ [] → path' ≡ path ++ (task, j + 1) ∷ [] → j < most
    → after ≤ steps most path' + more → after < steps most old + more
next_falls most task j more after old path path' was is low at_most =
    omega (arith, ap (steps most) was, ap (steps most) is, steps_push most path (task, j), steps_push most path (task, j + 1))

-- a task is left
pub leave_falls : (most more : ℕ) (e : ℕ × ℕ) (old path : List (ℕ × ℕ)) → old ≡ path ++ e ∷ [] → steps most path + more < steps most old + more
leave_falls most more e old path was = omega (arith, ap (steps most) was, steps_push most path e)

-- ---- rows

pub empty_within : (n : ℕ) (rows : List (Vec (ℕ × ℕ) Global)) → rows_of rows ≡ replicate n [] → AreRows n rows
empty_within n rows is = record {
  long = omega (arith, rows_long rows, ap length is, length-replicate {A = List (ℕ × ℕ)} n []);
  within = λ k d inside. subst (IsWithin n) (sym (ap (λ l. get_or l k d) is ∙ get_or-replicate n k [] d (omega (arith, inside, ap length is, length-replicate {A = List (ℕ × ℕ)} n [])))) tt;
}

pub push_within : (n at : ℕ) (rows rows' : List (Vec (ℕ × ℕ) Global)) (e : ℕ × ℕ) → AreRows n rows → e.0 < n → at < n
    → rows_of rows' ≡ set (rows_of rows) at (row (rows_of rows) at ++ e ∷ []) → AreRows n rows'
push_within n at rows rows' e are inside there is =
    let r : List (ℕ × ℕ) = row (rows_of rows) at ++ e ∷ [] in
    let long : length (rows_of rows') ≡ length (rows_of rows) = ap length is ∙ length-set (rows_of rows) at r in
    record {
      long = omega (arith, rows_long rows, rows_long rows', long, are.long);
      within = λ k d low. elim (cases_eq k at) [
        | inl same ↦ subst (IsWithin n) (sym (ap (λ l. get_or l k d) is ∙ (ap (λ i. get_or (set (rows_of rows) at r) i d) same ∙ get_or-set_same (rows_of rows) at r d (omega (arith, rows_long rows, are.long, there)))))
            (within_push n (row (rows_of rows) at) e (are.within at [] (omega (arith, rows_long rows, are.long, there))) inside)
        | inr apart ↦ subst (IsWithin n) (sym (ap (λ l. get_or l k d) is ∙ get_or-set_other (rows_of rows) at k r d apart)) (are.within k d (omega (arith, low, long)))
      ];
    }

-- ---- numbers are spread

pub searching_popped : (n : ℕ) (seen : List Bool) (old left : List ℕ) (k : ℕ) → IsSearching n seen old → old ≡ left ++ k ∷ [] → IsSearching n seen left × (k < n)
searching_popped n seen old left k search is = (
  record { long = search.long; inside = λ i has. search.inside i (subst (λ l. Contains l i) (sym is) (Contains-append_left left (k ∷ []) i has)) },
  search.inside k (subst (λ l. Contains l k) (sym is) (Contains-push left k)),
)

pub searching_seen : (n : ℕ) (P : ℕ → Type 0) (seen : List Bool) (left : List ℕ) (seen' : List Bool) (left' : List ℕ) → IsSearching n seen left → Sees P seen left seen' left' → IsSearching n seen' left'
searching_seen n P seen left seen' left' search now = record {
  long = now.long ∙ search.long;
  inside = λ k has. elim (now.listed k has) [ inl before ↦ search.inside k before | inr is ↦ omega (arith, seen_inside seen' k is, now.long, search.long) ];
}

pub popped_below : (n : ℕ) (old order : List ℕ) (k : ℕ) → ((i : ℕ) → Contains old i → i < n) → old ≡ order ++ k ∷ [] → ((i : ℕ) → Contains order i → i < n) × (k < n)
popped_below n old order k all is = (
  (λ i has. all i (subst (λ l. Contains l i) (sym is) (Contains-append_left order (k ∷ []) i has))),
  all k (subst (λ l. Contains l k) (sym is) (Contains-push order k)),
)
