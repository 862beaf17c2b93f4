-- Blocks whose versions are 1 to the last one: the number of writers is the last version, and each version has its writer.
use Rattle.std.proofs.Common.{◌≡◌, ◌∙◌, ℕ, zero, suc, ◌+◌, ◌-◌, ◌<◌, ◌≤◌, Bool, true, false, cond, List, [], ◌∷◌, length, get_or, take, refl, ap, sym, subst, arith, Some, slice_get, count_by, inl, inr, ◌⊎◌}
use Rattle.std.specs.Prelude.{◌==◌, ◌&&◌, nat_le}
use Rattle.std.specs.List.{position_or_len}
use Rattle.std.proofs.lemmas.Bool.{cases_lt, cases_eq, cases_Bool, and_parts, and_from, eq-eqb, eqb-true, leb-true, le-leb, both_ways}
use Rattle.std.proofs.lemmas.Option.{slice_get-get_or, slice_get_within, get_or_from_slice_get}
use Rattle.std.proofs.lemmas.List.Sums.{sum_by-cons, passes_at_first, fails_before_first}
use Rattle.graph_model.specs.declared.graph.Place.{Place}
use Rattle.audit_blocks.specs.Numbering.{versions_in}
use Rattle.audit_blocks.proofs.Counts.{count_yes, count_no, count_more, count_some, count_none, count_once}

pub mono : {X : Type 0} (p : X → Bool) (xs : List X) (m n : ℕ) → m ≤ n → count_by p (take m xs) ≤ count_by p (take n xs)
mono p [] zero n le = omega arith
mono p [] (suc m) zero le = absurd (omega arith)
mono p [] (suc m) (suc n) le = omega arith
mono p (x ∷ xs) zero n le = omega arith
mono p (x ∷ xs) (suc m) zero le = absurd (omega arith)
mono p (x ∷ xs) (suc m) (suc n) le = elim (cases_Bool (p x)) [
  | inl e ↦ omega (arith, count_yes p x (take m xs) e, count_yes p x (take n xs) e, mono p xs m n (omega arith))
  | inr e ↦ omega (arith, count_no p x (take m xs) e, count_no p x (take n xs) e, mono p xs m n (omega arith))
]

count_le : {X : Type 0} (p q : X → Bool) (xs : List X) → ((j : ℕ) (x : X) → slice_get xs j ≡ Some x → p x ≡ true → q x ≡ true) → count_by p xs ≤ count_by q xs
count_le p q [] gives = omega arith
count_le p q (x ∷ xs) gives =
    let rest : count_by p xs ≤ count_by q xs = count_le p q xs (λ j y here. gives (suc j) y here) in
    elim (cases_Bool (p x)) [
      | inl e ↦ omega (arith, count_yes p x xs e, count_yes q x xs (gives 0 x refl e), rest)
      | inr e ↦ omega (arith, count_no p x xs e, count_more q x xs, rest)
    ]

-- two tests that never pass together
count_both : {X : Type 0} (p q r : X → Bool) (xs : List X) → ((x : X) → cond (r x) 1 0 ≡ cond (p x) 1 0 + cond (q x) 1 0) → count_by r xs ≡ count_by p xs + count_by q xs
count_both p q r [] split = omega arith
count_both {X} p q r (x ∷ xs) split = omega (
  arith,
  sum_by-cons (λ (y : X). cond (p y) 1 0) x xs,
  sum_by-cons (λ (y : X). cond (q y) 1 0) x xs,
  sum_by-cons (λ (y : X). cond (r y) 1 0) x xs,
  split x,
  count_both p q r xs split,
)

abbrev pub is_at : ℕ → ℕ → Place → Bool
is_at b v p = (p.block == b) && (p.version == v)

abbrev up_to : ℕ → ℕ → Place → Bool
up_to b n p = (p.block == b) && nat_le p.version n

pub is_at_true : (b v : ℕ) (p : Place) → p.block ≡ b → p.version ≡ v → is_at b v p ≡ true
is_at_true b v p x y = and_from (p.block == b) (p.version == v) (eq-eqb p.block b x) (eq-eqb p.version v y)

pub is_at_is : (b v : ℕ) (p : Place) → is_at b v p ≡ true → (p.block ≡ b) × (p.version ≡ v)
is_at_is b v p e = let a = and_parts (p.block == b) (p.version == v) e in (eqb-true p.block b a.0, eqb-true p.version v a.1)

up_to_true : (b n : ℕ) (p : Place) → p.block ≡ b → p.version ≤ n → up_to b n p ≡ true
up_to_true b n p x y = and_from (p.block == b) (nat_le p.version n) (eq-eqb p.block b x) (le-leb p.version n y)

up_to_is : (b n : ℕ) (p : Place) → up_to b n p ≡ true → (p.block ≡ b) × (p.version ≤ n)
up_to_is b n p e = let a = and_parts (p.block == b) (nat_le p.version n) e in (eqb-true p.block b a.0, leb-true p.version n a.1)

tests : (e f g : Bool) → (f ≡ true → g ≡ true → ⊥) → (x : Bool) → (x ≡ true → (f ≡ true) ⊎ (g ≡ true)) → (f ≡ true → x ≡ true) → (g ≡ true → x ≡ true)
    → cond (e && x) 1 0 ≡ cond (e && f) 1 0 + cond (e && g) 1 0
tests false f g apart x a b c = omega arith
tests true true true apart x a b c = absurd (apart refl refl)
tests true true false apart x a b c = let e = b refl in rw e (omega arith)
tests true false true apart x a b c = let e = c refl in rw e (omega arith)
tests true false false apart true a b c = elim (a refl) [ inl e ↦ absurd (cc) | inr e ↦ absurd (cc) ]
tests true false false apart false a b c = omega arith

next_split : (b n : ℕ) (p : Place) → cond (up_to b (n + 1) p) 1 0 ≡ cond (up_to b n p) 1 0 + cond (is_at b (n + 1) p) 1 0
next_split b n p = tests (p.block == b) (nat_le p.version n) (p.version == n + 1)
    (λ f g. omega (arith, leb-true p.version n f, eqb-true p.version (n + 1) g)) (nat_le p.version (n + 1))
    (λ x. elim (cases_eq p.version (n + 1)) [
      | inl e ↦ inr (eq-eqb p.version (n + 1) e)
      | inr other ↦ inl (le-leb p.version n (omega (arith, leb-true p.version (n + 1) x)))
    ])
    (λ f. le-leb p.version (n + 1) (omega (arith, leb-true p.version n f)))
    (λ g. le-leb p.version (n + 1) (omega (arith, eqb-true p.version (n + 1) g)))

-- a place that has this version of this block
pub record HasVersion (places : List Place) (b v : ℕ) : Type 0 where
  pub at : ℕ
  pub place : Place
  pub here : slice_get places at ≡ Some place
  pub block : place.block ≡ b
  pub version : place.version ≡ v

-- each version has one writer, and those below it are written
pub record AreWhole (places : List Place) : Type 0 where
  pub apart : (i j : ℕ) (p q : Place) → i < j → slice_get places i ≡ Some p → slice_get places j ≡ Some q → p.block ≡ q.block → p.version ≡ q.version → ⊥
  pub below : (i w : ℕ) (p : Place) → slice_get places i ≡ Some p → 1 ≤ w → w < p.version → HasVersion places p.block w
  pub positive : (i : ℕ) (p : Place) → slice_get places i ≡ Some p → 1 ≤ p.version

one_more : (places : List Place) (b n : ℕ) → count_by (up_to b (n + 1)) places ≡ count_by (up_to b n) places + count_by (is_at b (n + 1)) places
one_more places b n = count_both (up_to b n) (is_at b (n + 1)) (up_to b (n + 1)) places (next_split b n)

has_some : (places : List Place) (b v : ℕ) → HasVersion places b v → 0 < count_by (is_at b v) places
has_some places b v h = count_some (is_at b v) places h.at h.place h.here (is_at_true b v h.place h.block h.version)

has_one_at : (places : List Place) (b v : ℕ) → AreWhole places → count_by (is_at b v) places ≤ 1
has_one_at places b v are = count_once (is_at b v) places (λ i j p q less here there x y.
    let a = is_at_is b v p x in
    let c = is_at_is b v q y in
    are.apart i j p q less here there (a.0 ∙ sym c.0) (a.1 ∙ sym c.1))

at_least : (places : List Place) (b v n : ℕ) → AreWhole places → HasVersion places b v → n ≤ v → n ≤ count_by (up_to b n) places
at_least places b v zero are h le = omega arith
at_least places b v (suc n) are h le =
    let here : HasVersion places b (n + 1) = elim (cases_eq v (n + 1)) [
      | inl e ↦ subst (HasVersion places b) e h
      | inr other ↦ subst (λ c. HasVersion places c (n + 1)) h.block (are.below h.at (n + 1) h.place h.here (omega arith) (omega (arith, h.version)))
    ] in
    let e : n + 1 ≡ suc n = omega arith in
    subst (λ m. m ≤ count_by (up_to b m) places) e (omega (arith, at_least places b v n are h (omega arith), one_more places b n, has_some places b (n + 1) here))

at_most : (places : List Place) (b n : ℕ) → AreWhole places → count_by (up_to b n) places ≤ n
at_most places b zero are = omega (arith, count_none (up_to b 0) places (λ j p here pass. omega (arith, are.positive j p here, (up_to_is b 0 p pass).1)))
at_most places b (suc n) are =
    let e : n + 1 ≡ suc n = omega arith in
    subst (λ m. count_by (up_to b m) places ≤ m) e (omega (arith, at_most places b n are, one_more places b n, has_one_at places b (n + 1) are))

-- a version that is written is at most the number of writers
pub version_le : (places : List Place) (b v : ℕ) → AreWhole places → HasVersion places b v → v ≤ versions_in places b
version_le places b v are h = omega (
  arith,
  at_least places b v v are h (omega arith),
  count_le (up_to b v) (λ p. p.block == b) places (λ j p here pass. eq-eqb p.block b (up_to_is b v p pass).0),
)

-- and the first place that has it is its writer
pub record IsFirstAt (places : List Place) (b v i : ℕ) : Type 0 where
  pub inside : i < length places
  pub place : Place
  pub here : slice_get places i ≡ Some place
  pub block : place.block ≡ b
  pub version : place.version ≡ v

none_there : (places : List Place) (b v : ℕ) → length places ≤ position_or_len (is_at b v) places → HasVersion places b v → ⊥
none_there places b v past h =
    let e = get_or_from_slice_get places h.at h.place h.place h.here in
    both_ways (is_at b v h.place) (sym (ap (is_at b v) e) ∙ fails_before_first (is_at b v) places h.at h.place (omega (arith, slice_get_within places h.at h.place h.here, past)))
    (is_at_true b v h.place h.block h.version)

first_at : (places : List Place) (b v : ℕ) → position_or_len (is_at b v) places < length places → IsFirstAt places b v (position_or_len (is_at b v) places)
first_at places b v inside =
    let d : Place = record { block = 0; version = 0 } in
    let i = position_or_len (is_at b v) places in
    let is = is_at_is b v (get_or places i d) (passes_at_first (is_at b v) places d inside) in
    record { inside = inside; place = get_or places i d; here = slice_get-get_or places i d inside; block = is.0; version = is.1 }

pub first_of_version : (places : List Place) (b v : ℕ) → HasVersion places b v → IsFirstAt places b v (position_or_len (is_at b v) places)
first_of_version places b v h = elim (cases_lt (position_or_len (is_at b v) places) (length places)) [
  | inl inside ↦ first_at places b v inside
  | inr past ↦ absurd (none_there places b v past h)
]

pub first_of_count : (places : List Place) (b v : ℕ) → AreWhole places → 1 ≤ v → v ≤ versions_in places b → IsFirstAt places b v (position_or_len (is_at b v) places)
first_of_count places b v are some le = elim (cases_lt (position_or_len (is_at b v) places) (length places)) [
  | inl inside ↦ first_at places b v inside
  | inr past ↦
      let low : (j : ℕ) (p : Place) → slice_get places j ≡ Some p → p.block ≡ b → p.version ≤ v - 1 = λ j p here block. elim (cases_lt p.version v) [
        | inl less ↦ omega arith
        | inr more ↦ elim (cases_eq p.version v) [
          | inl same ↦ absurd (none_there places b v past (record { at = j; place = p; here = here; block = block; version = same }))
          | inr other ↦ absurd (none_there places b v past (subst (λ c. HasVersion places c v) block (are.below j v p here some (omega arith))))
        ]
      ] in
      absurd (omega (
        arith,
        at_most places b (v - 1) are,
        count_le (λ p. p.block == b) (up_to b (v - 1)) places (λ j p here pass. up_to_true b (v - 1) p (eqb-true p.block b pass) (low j p here (eqb-true p.block b pass))),
      ))
]
