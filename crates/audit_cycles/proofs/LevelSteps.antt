-- How a task gets its level, waits, or is told.
use Rattle.std.proofs.Common.{◌≡◌, ◌∙◌, ◌≢◌, ℕ, zero, suc, ◌+◌, ◌<◌, ◌≤◌, ◌⊎◌, inl, inr, cond, List, [], ◌∷◌, ◌++◌, length, get_or, set, refl, ap, sym, subst, arith, Contains, replicate, drop, length-append, length-drop}
use Rattle.std.specs.Prelude.{◌==◌}
use Rattle.std.proofs.lemmas.Bool.{cases_eq, eq-eqb, ne_eqb}
use Rattle.std.proofs.lemmas.List.{length-set, get_or-set_same, get_or-set_other, get_or-replicate, length-replicate, drop_more, get_or_default}
use Rattle.std.proofs.lemmas.List.Sums.{sum_by-set, count_by-le-length}
use Rattle.std.proofs.lemmas.List.Elements.{Contains-push, Contains-append_left, Contains-push_cases}
use Rattle.audit_checks.specs.Rows.{row, Names, IsWithin}
use Rattle.audit_cycles.specs.Levels.{level, most, HasLevels, IsPlaced, IsLevelling, left, IsSound, IsSettled, unrest}

-- ---- a task gets its level

left_set : (levels : List ℕ) (k n : ℕ) → k < length levels → level levels k ≡ 0 → left (set levels k (n + 1)) + 1 ≡ left levels
left_set levels k n inside zero_here =
    let was : ◌≡◌ {A = ℕ} (cond (get_or levels k 0 == 0) 1 0) 1 = rw (eq-eqb (get_or levels k 0) 0 zero_here) refl in
    let is : ◌≡◌ {A = ℕ} (cond ((n + 1) == 0) 1 0) 0 = rw (ne_eqb (n + 1) 0 (λ e. omega arith)) refl in
    omega (arith, sum_by-set (λ m. cond (m == 0) 1 0) levels k (n + 1) 0 inside, was, is)

level_same : (levels : List ℕ) (k n : ℕ) → k < length levels → level (set levels k n) k ≡ n
level_same levels k n inside = get_or-set_same levels k n 0 inside

level_other : (levels : List ℕ) (k n i : ℕ) → i ≢ k → level (set levels k n) i ≡ level levels i
level_other levels k n i apart = get_or-set_other levels k i n 0 apart

has_levels_set : (levels : List ℕ) (k n : ℕ) (es : List (ℕ × ℕ)) → level levels k ≡ 0 → HasLevels levels es → HasLevels (set levels k n) es
has_levels_set levels k n [] zero_here all = tt
has_levels_set levels k n (e ∷ es) zero_here all =
    let apart : e.0 ≢ k = λ same. omega (arith, all.0, ap (level levels) same) in
    (subst (λ m. 0 < m) (sym (level_other levels k n e.0 apart)) all.0, has_levels_set levels k n es zero_here all.1)

most_set : (levels : List ℕ) (k n : ℕ) (es : List (ℕ × ℕ)) → level levels k ≡ 0 → HasLevels levels es → most (set levels k n) es ≡ most levels es
most_set levels k n [] zero_here all = refl
most_set levels k n (e ∷ es) zero_here all =
    let apart : e.0 ≢ k = λ same. omega (arith, all.0, ap (level levels) same) in
    rw (level_other levels k n e.0 apart, most_set levels k n es zero_here all.1) refl

placed_set : (levels : List ℕ) (k n m : ℕ) (es : List (ℕ × ℕ)) → level levels k ≡ 0 → IsPlaced levels es m → IsPlaced (set levels k n) es m
placed_set levels k n m es zero_here placed = record {
  all = has_levels_set levels k n es zero_here placed.all;
  next = placed.next ∙ ap (λ x. x + 1) (sym (most_set levels k n es zero_here placed.all));
}

most_low : (places : List (List (ℕ × ℕ))) (levels : List ℕ) (waiting : List (List ℕ)) (ready : List ℕ) → IsSound places levels waiting ready → left levels ≤ length places
    → (es : List (ℕ × ℕ)) → IsWithin (length places) es → HasLevels levels es → most levels es + left levels ≤ length places
most_low places levels waiting ready sound few [] within all = omega arith
most_low places levels waiting ready sound few (e ∷ es) within all =
    grind (arith, sound.low e.0 within.0 all.0, most_low places levels waiting ready sound few es within.1 all.1)

pub give : (places : List (List (ℕ × ℕ))) (levels : List ℕ) (waiting : List (List ℕ)) (ready : List ℕ) (k : ℕ) → IsSound places levels waiting ready
    → k < length places → level levels k ≡ 0 → IsWithin (length places) (row places k) → HasLevels levels (row places k) → left levels ≤ length places
    → IsSound places (set levels k (most levels (row places k) + 1)) waiting (ready ++ k ∷ [])
give places levels waiting ready k sound inside zero_here within all few =
    let m = most levels (row places k) in
    let here : k < length levels = omega (arith, sound.long) in
    let fewer = left_set levels k m here zero_here in
    record {
      long = length-set levels k (m + 1) ∙ sound.long;
      placed = λ i below some. elim (cases_eq i k) [
        | inl same ↦ subst (λ j. IsPlaced (set levels k (m + 1)) (row places j) (level (set levels k (m + 1)) j)) (sym same)
            (rw (level_same levels k (m + 1) here) (placed_set levels k (m + 1) (m + 1) (row places k) zero_here (record { all = all; next = refl })))
        | inr apart ↦ let e = level_other levels k (m + 1) i apart in
            rw e (placed_set levels k (m + 1) (level levels i) (row places i) zero_here (sound.placed i below (subst (λ n. 0 < n) e some)))
      ];
      low = λ i below some. elim (cases_eq i k) [
        | inl same ↦ omega (arith, ap (level (set levels k (m + 1))) same, level_same levels k (m + 1) here, fewer, most_low places levels waiting ready sound few (row places k) within all)
        | inr apart ↦ omega (arith, level_other levels k (m + 1) i apart, fewer, sound.low i below (subst (λ n. 0 < n) (level_other levels k (m + 1) i apart) some))
      ];
      lists = sound.lists;
      noted = sound.noted;
      told = λ p has. elim (Contains-push_cases ready k p has) [ inl before ↦ sound.told p before | inr same ↦ subst (λ n. n < length places) same inside ];
    }

pub give_here : (places : List (List (ℕ × ℕ))) (levels : List ℕ) (waiting : List (List ℕ)) (ready : List ℕ) (k n : ℕ)
    → k < length levels → IsSettled places (set levels k (n + 1)) waiting ready k
give_here places levels waiting ready k n here = record { waits = λ none_yet. absurd (omega (arith, level_same levels k (n + 1) here)) }

pub give_rest : (places : List (List (ℕ × ℕ))) (levels : List ℕ) (waiting : List (List ℕ)) (ready : List ℕ) (k n i : ℕ)
    → k < length levels → IsSettled places levels waiting ready i → IsSettled places (set levels k (n + 1)) waiting (ready ++ k ∷ []) i
give_rest places levels waiting ready k n i here settled = record {
  waits = λ none_yet.
      let apart : i ≢ k = λ same. omega (arith, level_same levels k (n + 1) here, ap (level (set levels k (n + 1))) same) in
      let w = settled.waits (sym (level_other levels k (n + 1) i apart) ∙ none_yet) in
      record {
        by = w.by;
        names = w.names;
        noted = w.noted;
        pending = elim (cases_eq w.by k) [
          | inl same ↦ inr (subst (Contains (ready ++ k ∷ [])) (sym same) (Contains-push ready k))
          | inr other ↦ elim w.pending [
            | inl z ↦ inl (level_other levels k (n + 1) w.by other ∙ z)
            | inr has ↦ inr (Contains-append_left ready (k ∷ []) w.by has)
          ]
        ];
      };
}

pub give_falls : (levels ready : List ℕ) (k n : ℕ) → k < length levels → level levels k ≡ 0 → unrest (set levels k (n + 1)) (ready ++ k ∷ []) ≤ unrest levels ready
give_falls levels ready k n here zero_here = omega (arith, left_set levels k n here zero_here, length-append ready (k ∷ []))

-- the same over what the code has seen
pub give_seen : (places : List (List (ℕ × ℕ))) (levels : List ℕ) (waiting : List (List ℕ)) (ready after : List ℕ) (k m : ℕ) (seen : List ℕ) (r : List (ℕ × ℕ))
    → IsSound places levels waiting ready → k < length places → level levels k ≡ 0 → IsWithin (length places) (row places k)
    → seen ≡ levels → r ≡ row places k → HasLevels seen r → m ≡ most seen r → after ≡ ready ++ k ∷ []
    → IsSound places (set levels k (m + 1)) waiting after
give_seen places levels waiting ready after k m seen r sound inside zero_here within seen_is r_is all m_is after_is =
    let all' : HasLevels levels (row places k) = subst (λ l. HasLevels l (row places k)) seen_is (subst (HasLevels seen) r_is all) in
    let m' : m ≡ most levels (row places k) = m_is ∙ (ap (λ l. most l r) seen_is ∙ ap (most levels) r_is) in
    rw (after_is, m') (give places levels waiting ready k sound inside zero_here within all'
    (omega (arith, count_by-le-length (λ n. n == 0) levels, sound.long)))

pub give_fits : (places : List (List (ℕ × ℕ))) (levels : List ℕ) (waiting : List (List ℕ)) (ready : List ℕ) (k m : ℕ) (seen : List ℕ) (r : List (ℕ × ℕ))
    → IsSound places levels waiting ready → k < length places → level levels k ≡ 0 → IsWithin (length places) (row places k)
    → seen ≡ levels → r ≡ row places k → HasLevels seen r → m ≡ most seen r → m + 1 ≤ length places
give_fits places levels waiting ready k m seen r sound inside zero_here within seen_is r_is all m_is =
    let all' : HasLevels levels (row places k) = subst (λ l. HasLevels l (row places k)) seen_is (subst (HasLevels seen) r_is all) in
    let m' : m ≡ most levels (row places k) = m_is ∙ (ap (λ l. most l r) seen_is ∙ ap (most levels) r_is) in
    omega (
      arith,
      m',
      left_set levels k 0 (omega (arith, sound.long)) zero_here,
      most_low places levels waiting ready sound (omega (arith, count_by-le-length (λ n. n == 0) levels, sound.long)) (row places k) within all',
    )

-- ---- a task waits

row_same : (waiting : List (List ℕ)) (p : ℕ) (x : List ℕ) → p < length waiting → row (set waiting p x) p ≡ x
row_same waiting p x inside = get_or-set_same waiting p x [] inside

row_other : (waiting : List (List ℕ)) (p i : ℕ) (x : List ℕ) → i ≢ p → row (set waiting p x) i ≡ row waiting i
row_other waiting p i x apart = get_or-set_other waiting p i x [] apart

pub hold : (places : List (List (ℕ × ℕ))) (levels : List ℕ) (waiting : List (List ℕ)) (ready : List ℕ) (k p : ℕ) → IsSound places levels waiting ready
    → k < length places → p < length places → IsSound places levels (set waiting p (row waiting p ++ k ∷ [])) ready
hold places levels waiting ready k p sound inside there =
    let here : p < length waiting = omega (arith, sound.lists) in
    record {
      long = sound.long;
      placed = sound.placed;
      low = sound.low;
      lists = length-set waiting p (row waiting p ++ k ∷ []) ∙ sound.lists;
      noted = λ q i has. elim (cases_eq q p) [
        | inl same ↦ elim (Contains-push_cases (row waiting p) k i
            (subst (λ r. Contains r i) (ap (row (set waiting p (row waiting p ++ k ∷ []))) same ∙ row_same waiting p (row waiting p ++ k ∷ []) here) has)) [
              | inl before ↦ sound.noted p i before
              | inr e ↦ subst (λ n. n < length places) e inside
            ]
        | inr apart ↦ sound.noted q i (subst (λ r. Contains r i) (row_other waiting p q (row waiting p ++ k ∷ []) apart) has)
      ];
      told = sound.told;
    }

pub hold_here : (places : List (List (ℕ × ℕ))) (levels : List ℕ) (waiting : List (List ℕ)) (ready : List ℕ) (k p : ℕ) → p < length waiting
    → Names (row places k) p → level levels p ≡ 0 → IsSettled places levels (set waiting p (row waiting p ++ k ∷ [])) ready k
hold_here places levels waiting ready k p here names none_yet = record {
  waits = λ z. record {
    by = p;
    names = names;
    noted = subst (λ r. Contains r k) (sym (row_same waiting p (row waiting p ++ k ∷ []) here)) (Contains-push (row waiting p) k);
    pending = inl none_yet;
  };
}

pub hold_rest : (places : List (List (ℕ × ℕ))) (levels : List ℕ) (waiting : List (List ℕ)) (ready : List ℕ) (k p i : ℕ) → p < length waiting
    → IsSettled places levels waiting ready i → IsSettled places levels (set waiting p (row waiting p ++ k ∷ [])) ready i
hold_rest places levels waiting ready k p i here settled = record {
  waits = λ z.
      let w = settled.waits z in
      record {
        by = w.by;
        names = w.names;
        pending = w.pending;
        noted = elim (cases_eq w.by p) [
          | inl same ↦ subst (λ r. Contains r i) (sym (ap (row (set waiting p (row waiting p ++ k ∷ []))) same ∙ row_same waiting p (row waiting p ++ k ∷ []) here))
              (Contains-append_left (row waiting p) (k ∷ []) i (subst (λ q. Contains (row waiting q) i) same w.noted))
          | inr apart ↦ subst (λ r. Contains r i) (sym (row_other waiting p w.by (row waiting p ++ k ∷ []) apart)) w.noted
        ];
      };
}

-- ---- those that wait for a task are taken

pub take_sound : (places : List (List (ℕ × ℕ))) (levels : List ℕ) (waiting : List (List ℕ)) (ready : List ℕ) (p : ℕ) → IsSound places levels waiting ready
    → p < length places → IsSound places levels (set waiting p []) ready
take_sound places levels waiting ready p sound there =
    let here : p < length waiting = omega (arith, sound.lists) in
    record {
      long = sound.long;
      placed = sound.placed;
      low = sound.low;
      lists = length-set waiting p [] ∙ sound.lists;
      noted = λ q i has. elim (cases_eq q p) [
        | inl same ↦ absurd (let h = subst (λ r. Contains r i) (ap (row (set waiting p [])) same ∙ row_same waiting p [] here) has in omega (arith, h.1))
        | inr apart ↦ sound.noted q i (subst (λ r. Contains r i) (row_other waiting p q [] apart) has)
      ];
      told = sound.told;
    }

pub take_rest : (places : List (List (ℕ × ℕ))) (levels : List ℕ) (waiting : List (List ℕ)) (ready : List ℕ) (p i : ℕ)
    → IsSettled places levels waiting (ready ++ p ∷ []) i → IsSettled places levels (set waiting p []) ready i ⊎ Contains (row waiting p) i
take_rest places levels waiting ready p i settled = elim (cases_eq (level levels i) 0) [
  | inr some ↦ inl (record { waits = λ z. absurd (some z) })
  | inl z ↦ let w = settled.waits z in elim (cases_eq w.by p) [
    | inl same ↦ inr (subst (λ q. Contains (row waiting q) i) same w.noted)
    | inr apart ↦ inl (record {
      waits = λ _. record {
        by = w.by;
        names = w.names;
        noted = subst (λ r. Contains r i) (sym (row_other waiting p w.by [] apart)) w.noted;
        pending = elim w.pending [
          | inl none_yet ↦ inl none_yet
          | inr has ↦ elim (Contains-push_cases ready p w.by has) [ inl before ↦ inr before | inr same ↦ absurd (apart (sym same)) ]
        ];
      };
    })
  ]
]

-- ---- the begin and the end

pub start_sound : (places : List (List (ℕ × ℕ))) (n : ℕ) → length places ≡ n → IsSound places (replicate n 0) (replicate n []) []
start_sound places n is =
    let low_level = λ (k : ℕ) (inside : k < length places). let e : level (replicate n 0) k ≡ 0 = get_or-replicate n k 0 0 (omega arith) in e in
    record {
      long = length-replicate n 0 ∙ sym is;
      placed = λ k inside some. absurd (omega (arith, low_level k inside));
      low = λ k inside some. absurd (omega (arith, low_level k inside));
      lists = length-replicate n [] ∙ sym is;
      noted = λ p k has. absurd (rows_empty n p k has);
      told = λ p has. absurd (omega (arith, has.1));
    }
  where
    rows_empty : (n p k : ℕ) → Contains (row (replicate n []) p) k → ⊥
    rows_empty zero p k has = omega (arith, has.1)
    rows_empty (suc n) zero k has = omega (arith, has.1)
    rows_empty (suc n) (suc p) k has = rows_empty n p k has

pub pop_sound : (places : List (List (ℕ × ℕ))) (levels : List ℕ) (waiting : List (List ℕ)) (old ready : List ℕ) (p : ℕ) → old ≡ ready ++ p ∷ []
    → IsSound places levels waiting old → IsSound places levels waiting ready
pop_sound places levels waiting old ready p is sound = record {
  long = sound.long;
  placed = sound.placed;
  low = sound.low;
  lists = sound.lists;
  noted = sound.noted;
  told = λ q has. sound.told q (subst (λ r. Contains r q) (sym is) (Contains-append_left ready (p ∷ []) q has));
}

pub pop_inside : (places : List (List (ℕ × ℕ))) (levels : List ℕ) (waiting : List (List ℕ)) (old ready : List ℕ) (p : ℕ) → old ≡ ready ++ p ∷ []
    → IsSound places levels waiting old → p < length places
pop_inside places levels waiting old ready p is sound = sound.told p (subst (λ r. Contains r p) (sym is) (Contains-push ready p))

pub finish : (places : List (List (ℕ × ℕ))) (levels : List ℕ) (waiting : List (List ℕ)) (ready : List ℕ) → length ready ≡ 0 → IsSound places levels waiting ready
    → ((i : ℕ) → i < length places → IsSettled places levels waiting ready i) → IsLevelling places levels
finish places levels waiting ready done sound settled = record {
  long = sound.long;
  placed = sound.placed;
  held = λ k inside z. let w = (settled k inside).waits z in record {
    by = w.by;
    names = w.names;
    none_yet = elim w.pending [ inl none_yet ↦ none_yet | inr has ↦ absurd (omega (arith, has.1)) ];
  };
}

-- ---- those that were taken, one by one

pub record IsTelling (places : List (List (ℕ × ℕ))) (levels : List ℕ) (waiting : List (List ℕ)) (ready woken : List ℕ) (i most_work : ℕ) : Type 0 where
  pub sound : IsSound places levels waiting ready
  pub tasks : (k : ℕ) → Contains woken k → k < length places
  pub settled : (k : ℕ) → k < length places → IsSettled places levels waiting ready k ⊎ Contains (drop i woken) k
  pub falls : unrest levels ready ≤ most_work

pub start_telling : (places : List (List (ℕ × ℕ))) (levels : List ℕ) (waiting : List (List ℕ)) (ready : List ℕ) (p : ℕ) → IsSound places levels waiting ready
    → p < length places → ((k : ℕ) → k < length places → IsSettled places levels waiting (ready ++ p ∷ []) k)
    → IsTelling places levels (set waiting p []) ready (row waiting p) 0 (unrest levels ready)
start_telling places levels waiting ready p sound there settled = record {
  sound = take_sound places levels waiting ready p sound there;
  tasks = λ k has. sound.noted p k has;
  settled = λ k inside. take_rest places levels waiting ready p k (settled k inside);
  falls = omega arith;
}

pub told_all : (places : List (List (ℕ × ℕ))) (levels : List ℕ) (waiting : List (List ℕ)) (ready woken : List ℕ) (i n : ℕ) → IsTelling places levels waiting ready woken i n
    → length woken ≤ i → (k : ℕ) → k < length places → IsSettled places levels waiting ready k
told_all places levels waiting ready woken i n telling all k inside = elim (telling.settled k inside) [
  | inl done ↦ done
  | inr has ↦ absurd (omega (arith, has.1, length-drop i woken))
]

pub told_more : (places : List (List (ℕ × ℕ))) (levels : List ℕ) (waiting : List (List ℕ)) (ready : List ℕ)
    (levels' : List ℕ) (waiting' : List (List ℕ)) (ready' woken : List ℕ) (i n : ℕ) → IsTelling places levels waiting ready woken i n
    → i < length woken → IsSound places levels' waiting' ready'
    → IsSettled places levels' waiting' ready' (get_or woken i 0)
    → ((k : ℕ) → IsSettled places levels waiting ready k → IsSettled places levels' waiting' ready' k)
    → unrest levels' ready' ≤ unrest levels ready → IsTelling places levels' waiting' ready' woken (i + 1) n
told_more places levels waiting ready levels' waiting' ready' woken i n telling inside sound here rest falls = record {
  sound = sound;
  tasks = telling.tasks;
  settled = λ k below. elim (telling.settled k below) [
    | inl done ↦ inl (rest k done)
    | inr has ↦ contains_cases k (subst (λ l. Contains l k) (drop_more woken i 0 inside) has)
  ];
  falls = omega (arith, telling.falls, falls);
}
  where
    contains_cases : (k : ℕ) → Contains (get_or woken i 0 ∷ drop (i + 1) woken) k → IsSettled places levels' waiting' ready' k ⊎ Contains (drop (i + 1) woken) k
    contains_cases k (zero, in', e) = inl (subst (IsSettled places levels' waiting' ready') e here)
    contains_cases k (suc j, in', e) = inr (j, omega arith, e)

pub zero_read : (levels : List ℕ) (k x : ℕ) → k < length levels → x ≡ get_or levels k x → x ≡ 0 → level levels k ≡ 0
zero_read levels k x inside here z = get_or_default levels k 0 x inside ∙ (sym here ∙ z)
