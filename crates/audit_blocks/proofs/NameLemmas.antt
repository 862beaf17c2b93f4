-- The names of the blocks, and the numbers.
use Rattle.std.proofs.Common.{◌≡◌, ◌∙◌, ◌≢◌, ℕ, ◌+◌, ◌-◌, ◌<◌, ◌≤◌, Bool, true, false, cond, List, [], ◌∷◌, ◌++◌, length, get_or, take, refl, ap, sym, subst, arith, Contains, Option, Some, None, slice_get, inl, inr, ◌⊎◌, MatchOption, is_some, not}
use Rattle.std.specs.Prelude.{⊤}
use Rattle.std.specs.Option.{option_map_or}
use Rattle.std.proofs.lemmas.Bool.{cases_lt, cases_eq, cases_Bool}
use Rattle.std.proofs.lemmas.List.{get_or_default, get_or_append_left, length-append, length-take, take_all}
use Rattle.std.proofs.lemmas.Option.{slice_get_within, get_or_from_slice_get}
use Rattle.std.proofs.lemmas.List.Elements.{Contains-append_left, Contains-push, Contains-push_cases}
use Rattle.std.proofs.lemmas.List.Sums.{count_by_more_yes, count_by_more_no, count_by-le-length}
use Rattle.std.proofs.Math.Seq.{get_or-append_seam}
use Rattle.graph_model.specs.declared.graph.Place.{Place}
use Rattle.raw_graph.specs.declared.raw.RawTask.{RawTask}
use Rattle.audit_checks.specs.Tasks.{IsAscending, Writes}
use Rattle.audit_blocks.specs.declared.written.Written.{Written}
use Rattle.audit_blocks.specs.Versions.{at, AreWritten, UpTo, IsOrdered}
use Rattle.audit_blocks.specs.Names.{AreNamesTo, ArePlacedTo}
use Rattle.audit_blocks.specs.Numbering.{is_own, own_count, HasPlace, AreNumbered}
use Rattle.audit_blocks.proofs.Counts.{get_push_cases}
use Rattle.audit_blocks.proofs.NextLemmas.{some_same}
use Rattle.audit_blocks.proofs.Places.{found, found_at, stated_at, writes_at}

contains_at_zero : (xs : List ℕ) (i : ℕ) → i < length xs → Contains xs (get_or xs i 0)
contains_at_zero xs i inside = (i, inside, get_or_default xs i (get_or xs i 0) 0 inside)

ascending_push : (xs : List ℕ) (b : ℕ) → IsAscending xs → ((c : ℕ) → Contains xs c → c < b) → IsAscending (xs ++ b ∷ [])
ascending_push xs b up low = record {
  rises = λ i j less inside.
      let long : length (xs ++ b ∷ []) ≡ length xs + 1 = length-append xs (b ∷ []) in
      let i_in : i < length xs = omega arith in
      let first : get_or (xs ++ b ∷ []) i 0 ≡ get_or xs i 0 = get_or_append_left xs (b ∷ []) 0 i i_in in
      elim (cases_lt j (length xs)) [
        | inl early ↦ omega (arith, first, get_or_append_left xs (b ∷ []) 0 j early, up.rises i j less early)
        | inr late ↦
            let e : length xs ≡ j = omega arith in
            let last : get_or (xs ++ b ∷ []) j 0 ≡ b = subst (λ n. get_or (xs ++ b ∷ []) n 0 ≡ b) e (get_or-append_seam xs b [] 0) in
            omega (arith, first, last, low (get_or xs i 0) (contains_at_zero xs i i_in))
      ];
}

up_block : (x y : Written) → UpTo x y → x.block ≤ y.block
up_block x y a = elim a [ inl l ↦ omega arith | inr l ↦ omega (arith, l.0) ]

pub names_none : (ws : List Written) → AreNamesTo ws 0 []
names_none ws = record {
  ascending = record { rises = λ i j less inside. absurd (omega arith) };
  complete = λ i low. absurd (omega arith);
  only = λ b has. absurd (omega (arith, has.1));
  few = omega arith;
}

pub names_push : (ws : List Written) (i : ℕ) (names : List ℕ) → IsOrdered ws → i < length ws → AreNamesTo ws i names → ((0 < i) → (at ws (i - 1)).block ≢ (at ws i).block)
    → AreNamesTo ws (i + 1) (names ++ (at ws i).block ∷ [])
names_push ws i names up inside are other =
    let b = (at ws i).block in record {
      ascending = ascending_push names b are.ascending (λ c has.
          let o = are.only c has in
          let low : 0 < i = omega (arith, o.1) in
          let near = up_block (at ws (i - 1)) (at ws i) (up.up (i - 1) i (omega arith) inside) in
          let far = up_block (at ws o.0) (at ws (i - 1)) (up.up o.0 (i - 1) (omega (arith, o.1)) (omega arith)) in
          elim (cases_eq (at ws (i - 1)).block b) [ inl e ↦ absurd (other low e) | inr n ↦ omega (arith, o.2) ]);
      complete = λ j early. elim (cases_lt j i) [
        | inl less ↦ Contains-append_left names (b ∷ []) (at ws j).block (are.complete j less)
        | inr late ↦ let e : i ≡ j = omega arith in subst (λ n. Contains (names ++ b ∷ []) (at ws n).block) e (Contains-push names b)
      ];
      only = λ c has. elim (Contains-push_cases names b c has) [
        | inl old ↦ let o = are.only c old in (o.0, omega (arith, o.1), o.2)
        | inr new ↦ (i, omega arith, new)
      ];
      few = omega (arith, length-append names (b ∷ []), are.few);
    }

pub names_same : (ws : List Written) (i : ℕ) (names : List ℕ) → AreNamesTo ws i names → 0 < i → (at ws (i - 1)).block ≡ (at ws i).block → AreNamesTo ws (i + 1) names
names_same ws i names are some same = record {
  ascending = are.ascending;
  complete = λ j early. elim (cases_lt j i) [
    | inl less ↦ are.complete j less
    | inr late ↦ let e : i ≡ j = omega arith in subst (λ n. Contains names (at ws n).block) e (subst (Contains names) same (are.complete (i - 1) (omega arith)))
  ];
  only = λ c has. let o = are.only c has in (o.0, omega (arith, o.1), o.2);
  few = omega (arith, are.few);
}

pub known_name : (ts : List RawTask) (ws : List Written) (names : List ℕ) (i : ℕ) (t : RawTask) (w : Option (ℕ × ℕ)) → AreWritten ts ws → AreNamesTo ws (length ws) names
    → slice_get ts i ≡ Some t → t.block ≡ w → MatchOption w ⊤ (λ w. Contains names w.0)
known_name ts ws names i t None are named here is = tt
known_name ts ws names i t (Some w) are named here is =
    let f = (found_at ts ws i t w.0 w.1 are here is).0 in subst (Contains names) f.block (named.complete f.place f.inside)

pub placed_none : (names : List ℕ) (ts : List RawTask) → ArePlacedTo names ts 0 [] (length names)
placed_none names ts = record {
  long = refl;
  count_is = omega arith;
  each = λ i t p here there. absurd (cc);
}

pub own_more : (ts : List RawTask) (i : ℕ) (t : RawTask) → slice_get ts i ≡ Some t → own_count (take (i + 1) ts) ≡ own_count (take i ts) + cond (is_own t) 1 0
own_more ts i t here =
    let inside = slice_get_within ts i t here in
    let is : get_or ts i t ≡ t = get_or_from_slice_get ts i t t here in
    elim (cases_Bool (is_own t)) [
      | inl e ↦ rw e (count_by_more_yes is_own ts i t inside (ap is_own is ∙ e))
      | inr e ↦ rw e (omega (arith, count_by_more_no is_own ts i t inside (ap is_own is ∙ e)))
    ]

pub placed_more : (names : List ℕ) (ts : List RawTask) (i : ℕ) (places : List Place) (count more : ℕ) (t : RawTask) (p : Place) → ArePlacedTo names ts i places count
    → slice_get ts i ≡ Some t → HasPlace names count t.block p → more ≡ count + cond (is_own t) 1 0 → ArePlacedTo names ts (i + 1) (places ++ p ∷ []) more
placed_more names ts i places count more t p are here place next = record {
  long = omega (arith, length-append places (p ∷ []), are.long);
  count_is = omega (arith, own_more ts i t here, are.count_is);
  each = λ j u q stands there. elim (get_push_cases places p j q there) [
    | inl old ↦ are.each j u q stands old
    | inr new ↦
        let e : i ≡ j = sym (new.0 ∙ are.long) in
        let same : t ≡ u = some_same t u (sym here ∙ (ap (slice_get ts) e ∙ stands)) in
        subst (λ n. HasPlace names (length names + own_count (take n ts)) u.block q) e
        (subst (λ x. HasPlace names (length names + own_count (take i ts)) u.block x) new.1
        (subst (λ x. HasPlace names (length names + own_count (take i ts)) x.block p) same (subst (λ n. HasPlace names n t.block p) are.count_is place)))
  ];
}

pub numbered : (ts : List RawTask) (ws : List Written) (names : List ℕ) (n : ℕ) (places : List Place) (count : ℕ) → AreWritten ts ws → AreNamesTo ws (length ws) names
    → ArePlacedTo names ts n places count → n ≡ length ts → AreNumbered ts places count
numbered ts ws names n places count are named placed all = record {
  names = names;
  ascending = named.ascending;
  stated = λ t b v writes. let f = found ts ws t b v are writes in subst (Contains names) f.block (named.complete f.place f.inside);
  only = λ b has.
      let o = named.only b has in
      let w = writes_at ts ws o.0 are o.1 in
      ((stated_at ts ws o.0 are o.1).task, (at ws o.0).version, subst (λ c. Writes ts (stated_at ts ws o.0 are o.1).task c (at ws o.0).version) o.2 w);
  long = placed.long ∙ all;
  count_is = placed.count_is ∙ ap (λ l. length names + own_count l) (take_all n ts (omega arith));
  each = placed.each;
  few = omega (arith, named.few, are.few);
}

pub own_small : (ts : List RawTask) (n : ℕ) → own_count (take n ts) ≤ n
own_small ts n = omega (arith, count_by-le-length is_own (take n ts), length-take n ts)

own_none : (o : Option (ℕ × ℕ)) (r : Bool) → is_some o ≡ not r → option_map_or (λ _. false) o true ≡ r
own_none None true e = refl
own_none None false e = absurd (cc)
own_none (Some w) true e = absurd (cc)
own_none (Some w) false e = refl

pub more_is : (t : RawTask) (count more : ℕ) (r : Bool) → is_some t.block ≡ not r → ((r ≡ true) × (more ≡ count + 1)) ⊎ ((r ≡ false) × (more ≡ count)) → more ≡ count + cond (is_own t) 1 0
more_is t count more r e cases =
    let own : is_own t ≡ r = own_none t.block r e in
    rw own (elim cases [ inl a ↦ rw a.0 a.1 | inr a ↦ rw a.0 (omega (arith, a.1)) ])
