-- A search sees what leads to a task, and nothing else.
use Rattle.std.proofs.Common.{◌≡◌, ◌∙◌, ℕ, zero, suc, ◌+◌, ◌<◌, ◌≤◌, ◌⊎◌, inl, inr, Bool, true, false, cond, List, [], ◌∷◌, ◌++◌, length, get_or, set, refl, ap, sym, subst, arith, Contains, replicate, length-append}
use Rattle.std.specs.Prelude.{not}
use Rattle.std.proofs.lemmas.Bool.{cases_eq, cases_lt}
use Rattle.std.proofs.lemmas.List.{length-set, get_or-set_same, get_or-set_other, length-replicate}
use Rattle.std.proofs.lemmas.List.Sums.{sum_by-set}
use Rattle.std.proofs.lemmas.List.Elements.{Contains-push, Contains-append_left, Contains-push_cases}
use Rattle.audit_checks.specs.Rows.{row, Names, IsWithin}
use Rattle.audit_cycles.specs.Ancestors.{Reaches, here, up, IsSeen}
use Rattle.audit_cycles.specs.Searching.{unseen, Sees}

-- ---- names in a row

pub named_at : (es : List (ℕ × ℕ)) (j : ℕ) → j < length es → Names es (get_or es j (0, 0)).0
named_at [] j inside = absurd (omega arith)
named_at (e ∷ es) zero inside = inl refl
named_at (e ∷ es) (suc j) inside = inr (named_at es j (omega arith))

pub place_of : (es : List (ℕ × ℕ)) (p : ℕ) → Names es p → (j : ℕ) × (j < length es) × ((get_or es j (0, 0)).0 ≡ p)
place_of [] p names = absurd names
place_of (e ∷ es) p (inl same) = (0, omega arith, same)
place_of (e ∷ es) p (inr later) = let at = place_of es p later in (suc at.0, omega (arith, at.1), at.2)

pub named_within : (n : ℕ) (es : List (ℕ × ℕ)) (p : ℕ) → IsWithin n es → Names es p → p < n
named_within n [] p within names = absurd names
named_within n (e ∷ es) p within (inl same) = subst (λ m. m < n) same within.0
named_within n (e ∷ es) p within (inr later) = named_within n es p within.1 later

-- ---- flags

pub seen_inside : (seen : List Bool) (k : ℕ) → IsSeen seen k → k < length seen
seen_inside [] k is = absurd (cc)
seen_inside (x ∷ xs) zero is = omega arith
seen_inside (x ∷ xs) (suc k) is = omega (arith, seen_inside xs k is)

pub unseen_set : (seen : List Bool) (p : ℕ) → p < length seen → get_or seen p false ≡ false → unseen (set seen p true) + 1 ≡ unseen seen
unseen_set seen p inside new =
    let was : ◌≡◌ {A = ℕ} (cond (not (get_or seen p false)) 1 0) 1 = rw new refl in
    omega (arith, sum_by-set (λ b. cond (not b) 1 0) seen p true false inside, was)

-- ---- one task is seen

pub see_old : (P : ℕ → Type 0) (seen : List Bool) (left : List ℕ) → Sees P seen left seen left
see_old P seen left = record {
  long = refl;
  kept = λ k is. is;
  only = λ k is. inl is;
  still = λ k has. has;
  noted = λ k is. inl is;
  listed = λ k has. inl has;
  falls = omega arith;
}

pub see_new : (seen : List Bool) (left left' : List ℕ) (p : ℕ) → p < length seen → get_or seen p false ≡ false → left' ≡ left ++ p ∷ []
    → Sees (λ k. k ≡ p) seen left (set seen p true) left'
see_new seen left left' p inside new more = record {
  long = length-set seen p true;
  kept = λ k is. elim (cases_eq k p) [
    | inl same ↦ ap (λ i. get_or (set seen p true) i false) same ∙ get_or-set_same seen p true false inside
    | inr apart ↦ get_or-set_other seen p k true false apart ∙ is
  ];
  only = λ k is. elim (cases_eq k p) [
    | inl same ↦ inr same
    | inr apart ↦ inl (sym (get_or-set_other seen p k true false apart) ∙ is)
  ];
  still = λ k has. subst (λ l. Contains l k) (sym more) (Contains-append_left left (p ∷ []) k has);
  noted = λ k is. elim (cases_eq k p) [
    | inl same ↦ inr (subst (λ l. Contains l k) (sym more) (subst (Contains (left ++ p ∷ [])) (sym same) (Contains-push left p)))
    | inr apart ↦ inl (sym (get_or-set_other seen p k true false apart) ∙ is)
  ];
  listed = λ k has. elim (Contains-push_cases left p k (subst (λ l. Contains l k) more has)) [
    | inl before ↦ inl before
    | inr same ↦ inr (ap (λ i. get_or (set seen p true) i false) (sym same) ∙ get_or-set_same seen p true false inside)
  ];
  falls = omega (arith, unseen_set seen p inside new, ap length more, length-append left (p ∷ []));
}

-- ---- the tasks of a row, one by one

pub record IsSeeing (named : List (ℕ × ℕ)) (seen : List Bool) (left : List ℕ) (seen' : List Bool) (left' : List ℕ) (j : ℕ) : Type 0 where
  pub all : (i : ℕ) → i < j → i < length named → IsSeen seen' (get_or named i (0, 0)).0
  pub sees : Sees (Names named) seen left seen' left'

pub see_more : (named : List (ℕ × ℕ)) (a : List Bool) (x : List ℕ) (b : List Bool) (y : List ℕ) (c : List Bool) (z : List ℕ) (j p : ℕ) → IsSeeing named a x b y j
    → j < length named → (get_or named j (0, 0)).0 ≡ p → IsSeen c p → Sees (λ k. k ≡ p) b y c z → IsSeeing named a x c z (j + 1)
see_more named a x b y c z j p was inside at this now = record {
  all = λ i low in'. elim (cases_lt i j) [
    | inl early ↦ now.kept (get_or named i (0, 0)).0 (was.all i early in')
    | inr late ↦ let e : j ≡ i = omega arith in subst (λ m. IsSeen c (get_or named m (0, 0)).0) e (subst (IsSeen c) (sym at) this)
  ];
  sees = record {
    long = now.long ∙ was.sees.long;
    kept = λ k is. now.kept k (was.sees.kept k is);
    only = λ k is. elim (now.only k is) [
      | inl before ↦ was.sees.only k before
      | inr same ↦ inr (subst (Names named) (at ∙ sym same) (named_at named j inside))
    ];
    still = λ k has. now.still k (was.sees.still k has);
    noted = λ k is. elim (now.noted k is) [
      | inl before ↦ elim (was.sees.noted k before) [ inl early ↦ inl early | inr has ↦ inr (now.still k has) ]
      | inr has ↦ inr has
    ];
    listed = λ k has. elim (now.listed k has) [
      | inl before ↦ elim (was.sees.listed k before) [ inl early ↦ inl early | inr is ↦ inr (now.kept k is) ]
      | inr is ↦ inr is
    ];
    falls = omega (arith, was.sees.falls, now.falls);
  };
}

pub seen_all : (named : List (ℕ × ℕ)) (a : List Bool) (x : List ℕ) (b : List Bool) (y : List ℕ) (j : ℕ) → IsSeeing named a x b y j → length named ≤ j
    → (p : ℕ) → Names named p → IsSeen b p
seen_all named a x b y j is all p names =
    let at = place_of named p names in
    subst (IsSeen b) at.2 (is.all at.0 (omega (arith, at.1)) at.1)

-- ---- the search

pub record IsSearch (places : List (List (ℕ × ℕ))) (from : ℕ) (seen : List Bool) (left : List ℕ) : Type 0 where
  pub long : length seen ≡ length places
  pub first : IsSeen seen from
  pub sound : (k : ℕ) → IsSeen seen k → Reaches places from k
  pub listed : (k : ℕ) → Contains left k → IsSeen seen k
  pub closed : (k p : ℕ) → IsSeen seen k → Names (row places k) p → IsSeen seen p ⊎ Contains left k

none_seen : (n k : ℕ) → IsSeen (replicate n false) k → ⊥
none_seen zero k is = cc
none_seen (suc n) zero is = cc
none_seen (suc n) (suc k) is = none_seen n k is

pub begin : (places : List (List (ℕ × ℕ))) (from n : ℕ) (seen : List Bool) (left : List ℕ) → length places ≡ n → IsSeen seen from
    → Sees (λ k. k ≡ from) (replicate n false) [] seen left → IsSearch places from seen left
begin places from n seen left is first now = record {
  long = now.long ∙ (length-replicate n false ∙ sym is);
  first = first;
  sound = λ k seen_k. elim (now.only k seen_k) [
    | inl before ↦ absurd (none_seen n k before)
    | inr same ↦ subst (Reaches places from) (sym same) here
  ];
  listed = λ k has. elim (now.listed k has) [ inl before ↦ absurd (omega (arith, before.1)) | inr seen_k ↦ seen_k ];
  closed = λ k p seen_k names. elim (now.noted k seen_k) [ inl before ↦ absurd (none_seen n k before) | inr has ↦ inr has ];
}

pub popped : (places : List (List (ℕ × ℕ))) (from : ℕ) (seen : List Bool) (old left : List ℕ) (k : ℕ) → IsSearch places from seen old → old ≡ left ++ k ∷ [] → IsSeen seen k
popped places from seen old left k search is = search.listed k (subst (λ l. Contains l k) (sym is) (Contains-push left k))

pub popped_inside : (places : List (List (ℕ × ℕ))) (from : ℕ) (seen : List Bool) (old left : List ℕ) (k : ℕ) → IsSearch places from seen old → old ≡ left ++ k ∷ [] → k < length places
popped_inside places from seen old left k search is = omega (arith, search.long, seen_inside seen k (popped places from seen old left k search is))

pub step : (places : List (List (ℕ × ℕ))) (from : ℕ) (seen : List Bool) (old left : List ℕ) (seen' : List Bool) (left' : List ℕ) (k : ℕ) (named : List (ℕ × ℕ))
    → IsSearch places from seen old → old ≡ left ++ k ∷ [] → named ≡ row places k → ((p : ℕ) → Names named p → IsSeen seen' p)
    → Sees (Names named) seen left seen' left' → IsSearch places from seen' left'
step places from seen old left seen' left' k named search is row_is all now = record {
  long = now.long ∙ search.long;
  first = now.kept from search.first;
  sound = λ i seen_i. elim (now.only i seen_i) [
    | inl before ↦ search.sound i before
    | inr names ↦ up k i (search.sound k (popped places from seen old left k search is)) (subst (λ es. Names es i) row_is names)
  ];
  listed = λ i has. elim (now.listed i has) [
    | inl before ↦ now.kept i (search.listed i (subst (λ l. Contains l i) (sym is) (Contains-append_left left (k ∷ []) i before)))
    | inr seen_i ↦ seen_i
  ];
  closed = λ i p seen_i names. elim (now.noted i seen_i) [
    | inr has ↦ inr has
    | inl before ↦ elim (search.closed i p before names) [
      | inl seen_p ↦ inl (now.kept p seen_p)
      | inr has ↦ elim (Contains-push_cases left k i (subst (λ l. Contains l i) is has)) [
        | inl still ↦ inr (now.still i still)
        | inr same ↦ inl (all p (subst (λ es. Names es p) (sym row_is) (subst (λ m. Names (row places m) p) (sym same) names)))
      ]
    ]
  ];
}

pub finished : (places : List (List (ℕ × ℕ))) (from : ℕ) (seen : List Bool) (left : List ℕ) → IsSearch places from seen left → length left ≡ 0
    → (k : ℕ) → Reaches places from k → IsSeen seen k
finished places from seen left search done _ here = search.first
finished places from seen left search done _ (up k p reaches names) =
    elim (search.closed k p (finished places from seen left search done k reaches) names) [ inl seen_p ↦ seen_p | inr has ↦ absurd (omega (arith, has.1)) ]

pub falls : (seen : List Bool) (old left : List ℕ) (seen' : List Bool) (left' : List ℕ) (k : ℕ) (P : ℕ → Type 0) → old ≡ left ++ k ∷ [] → Sees P seen left seen' left'
    → unseen seen' + length left' < unseen seen + length old
falls seen old left seen' left' k P is now = omega (arith, now.falls, ap length is, length-append left (k ∷ []))
