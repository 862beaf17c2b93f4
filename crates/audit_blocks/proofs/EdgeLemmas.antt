-- A task names another by number exactly where it does by key.
use Rattle.std.proofs.Common.{◌≡◌, ◌∙◌, ℕ, zero, suc, ◌<◌, Bool, true, List, [], ◌∷◌, length, get_or, refl, ap, sym, subst, arith, Contains, Some, slice_get, inl, inr}
use Rattle.std.specs.Prelude.{◌==◌}
use Rattle.std.specs.List.{list_any}
use Rattle.std.proofs.lemmas.Bool.{or_cases, or_left, or_right, eq-eqb, eqb-true, cases_lt}
use Rattle.std.proofs.lemmas.List.{get_or_default}
use Rattle.std.proofs.lemmas.Option.{slice_get-get_or, slice_get_within, get_or_from_slice_get}
use Rattle.raw_graph.specs.declared.raw.RawTask.{RawTask}
use Rattle.audit_checks.specs.Tasks.{IsAscending, key_of, keys_of, places_of}
use Rattle.audit_checks.specs.Rows.{row}
use Rattle.audit_checks.proofs.Keys.{ascending-≤, same_key}
use Rattle.audit_checks.proofs.LeastTask.{key_at, contains_at, keys_count}
use Rattle.audit_blocks.specs.Edges.{TellsPlaces, names_in}

pub any_index : {X : Type 0} (p : X → Bool) (xs : List X) → list_any p xs ≡ true → (j : ℕ) × (x : X) × (slice_get xs j ≡ Some x) × (p x ≡ true)
any_index p [] e = absurd (cc)
any_index p (x ∷ xs) e = elim (or_cases (p x) (list_any p xs) e) [
  | inl here ↦ (0, x, refl, here)
  | inr later ↦ let a = any_index p xs later in (suc a.0, a.1, a.2, a.3)
]

pub any_from : {X : Type 0} (p : X → Bool) (xs : List X) (j : ℕ) (x : X) → slice_get xs j ≡ Some x → p x ≡ true → list_any p xs ≡ true
any_from p [] j x here pass = absurd (cc)
any_from p (y ∷ ys) zero x here pass = let e : p y ≡ true = cc in or_left (p y) (list_any p ys) e
any_from p (y ∷ ys) (suc j) x here pass = or_right (p y) (list_any p ys) (any_from p ys j x here pass)

pub key_here : (ts : List RawTask) (keys : List ℕ) (i : ℕ) (t : RawTask) → keys_of ts ≡ keys → slice_get ts i ≡ Some t → get_or keys i 0 ≡ key_of t
key_here ts keys i t is here =
    sym (ap (λ xs. get_or xs i 0) is) ∙ key_at ts i t (slice_get_within ts i t here) (sym (get_or_from_slice_get ts i t t here))

pub key_inside : (ts : List RawTask) (keys : List ℕ) (i : ℕ) (t : RawTask) → keys_of ts ≡ keys → slice_get ts i ≡ Some t → i < length keys
key_inside ts keys i t is here = omega (arith, slice_get_within ts i t here, keys_count ts keys is)

pub index_less : (keys : List ℕ) (a b : ℕ) → IsAscending keys → a < length keys → get_or keys a 0 < get_or keys b 0 → a < b
index_less keys a b up inside less = elim (cases_lt a b) [ inl l ↦ l | inr m ↦ absurd (omega (arith, ascending-≤ keys up b a m inside)) ]

-- what place j of a task says
pub place_at : (ts : List RawTask) (keys : List ℕ) (rows : List (List (ℕ × ℕ))) (k j : ℕ) (t : RawTask) (e : ℕ × ℕ) → TellsPlaces ts keys rows
    → slice_get ts k ≡ Some t → slice_get (row rows k) j ≡ Some e → (e.0 < length keys) × (j < length (places_of t)) × (get_or keys e.0 0 ≡ get_or (places_of t) j 0)
place_at ts keys rows k j t e tp here names =
    let tells = tp.tells k t here in
    let is : get_or (row rows k) j (0, 0) ≡ e = get_or_from_slice_get (row rows k) j e (0, 0) names in
    let inside : j < length (places_of t) = omega (arith, slice_get_within (row rows k) j e names, tells.long) in (
      subst (λ (x : ℕ × ℕ). x.0 < length keys) is (tells.inside j inside),
      inside,
      ap (λ (x : ℕ × ℕ). get_or keys x.0 0) (sym is) ∙ tells.named j inside,
    )

-- a place that names the key of task s
pub place_of : (ts : List RawTask) (keys : List ℕ) (rows : List (List (ℕ × ℕ))) (k j s : ℕ) (t x : RawTask) → TellsPlaces ts keys rows
    → slice_get ts k ≡ Some t → slice_get ts s ≡ Some x → j < length (places_of t) → get_or (places_of t) j 0 ≡ key_of x
    → (e : ℕ × ℕ) × (slice_get (row rows k) j ≡ Some e) × (e.0 ≡ s)
place_of ts keys rows k j s t x tp here there inside key =
    let tells = tp.tells k t here in
    let e = get_or (row rows k) j (0, 0) in (
      e,
      slice_get-get_or (row rows k) j (0, 0) (omega (arith, tells.long)),
      same_key keys tp.up e.0 s (tells.inside j inside) (key_inside ts keys s x tp.is there) (tells.named j inside ∙ (key ∙ sym (key_here ts keys s x tp.is there))),
    )

pub named_contains : (ts : List RawTask) (keys : List ℕ) (rows : List (List (ℕ × ℕ))) (k s : ℕ) (t x : RawTask) → TellsPlaces ts keys rows
    → slice_get ts k ≡ Some t → slice_get ts s ≡ Some x → names_in rows k s ≡ true → Contains (places_of t) (key_of x)
named_contains ts keys rows k s t x tp here there named =
    let a = any_index (λ (e : ℕ × ℕ). e.0 == s) (row rows k) named in
    let at = place_at ts keys rows k a.0 t a.1 tp here a.2 in
    let same : a.1.0 ≡ s = eqb-true a.1.0 s a.3 in
    contains_at (places_of t) a.0 (key_of x) (at.1, sym at.2 ∙ (ap (λ n. get_or keys n 0) same ∙ key_here ts keys s x tp.is there))

pub contains_named : (ts : List RawTask) (keys : List ℕ) (rows : List (List (ℕ × ℕ))) (k s : ℕ) (t x : RawTask) → TellsPlaces ts keys rows
    → slice_get ts k ≡ Some t → slice_get ts s ≡ Some x → Contains (places_of t) (key_of x) → names_in rows k s ≡ true
contains_named ts keys rows k s t x tp here there has =
    let p = place_of ts keys rows k has.0 s t x tp here there has.1 (get_or_default (places_of t) has.0 0 (key_of x) has.1 ∙ has.2) in
    any_from (λ (e : ℕ × ℕ). e.0 == s) (row rows k) has.0 p.0 p.1 (eq-eqb p.0.0 s p.2)
