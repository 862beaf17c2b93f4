-- Records stand in the order of print in one way, so a report is one text.
use Rattle.std.proofs.Common.{◌≡◌, refl, sym, ap, ◌∙◌, ℕ, ℤ, suc, ◌+◌, List, [], ◌∷◌, ◌++◌, Bool, true, false, arith}
use Rattle.std.specs.Prelude.{sum_by, IsSortedBy, slice_index_or}
use Rattle.std.specs.List.{flat_map}
use Rattle.std.specs.Ordering.{on, nat_cmp, is_lt, ordering_reverse}
use Rattle.std.specs.declared.cmp.Ordering.{Ordering}
use Rattle.std.specs.declared.cmp.Ordering.TheVariants.{Less, Equal, Greater}
use Rattle.std.specs.Cmp.{IsTotalOrder, alike_right, tied_itself}
use Rattle.std.specs.Cmp.Lexicographic.{slice_cmp}
use Rattle.std.proofs.lemmas.List.Sorted.{sum_by-IsPermutation}
use Rattle.std.proofs.lemmas.List.Sums.{sum_by-cons}
use Rattle.graph_model.specs.declared.record.Record.{Record}
use Rattle.run_records.specs.Print.{rank_of, IsInPrint}
use Rattle.run_records.specs.Text.{IsReport, line_of, value_line}
use Rattle.run_records.proofs.Laws.{print_order_total, print_order_ties}

get-cons : {X : Type 0} (x : X) (xs : List X) (k : ℕ) (d : X) → slice_index_or (x ∷ xs) (k + 1) d ≡ slice_index_or xs k d
get-cons x xs k d = let e : k + 1 ≡ suc k = omega arith in rw e refl

sorted-tail : {X : Type 0} (lt : X → X → Bool) (x : X) (xs : List X) → IsSortedBy lt (x ∷ xs) → IsSortedBy lt xs
sorted-tail lt x xs up k d a b = rw (get-cons x xs (k + 1) d, get-cons x xs k d) at (up (k + 1) d (omega arith) (omega (arith, b)))

sorted-head : {X : Type 0} (lt : X → X → Bool) (x y : X) (ys : List X) → IsSortedBy lt (x ∷ y ∷ ys) → lt y x ≡ false
sorted-head lt x y ys up = up 0 x (omega arith) (omega arith)

abbrev one : Ordering → ℕ
one Less = 0
one Equal = 1
one Greater = 0

module _ {X : Type 0} (R : X → X → Ordering) (o : IsTotalOrder R) (ties : (x y : X) → R x y ≡ Equal → x ≡ y) where
  -- how often a thing stands in a list
  abbrev count : X → List X → ℕ
  count k xs = sum_by (λ x. one (R x k)) xs

  abbrev Up : List X → Type 0
  Up xs = IsSortedBy (λ x y. is_lt (R x y)) xs

  below_on_by : (a x y : X) (r : Ordering) → R y x ≡ r → is_lt r ≡ false → R a x ≡ Less → R a y ≡ Less
  below_on_by a x y Less e up below = absurd (cc)
  below_on_by a x y Equal e up below = alike_right o y x a e ∙ below
  below_on_by a x y Greater e up below = o.trans a x y below (o.antisymm x y ∙ ap ordering_reverse e)

  below_on : (a x y : X) → is_lt (R y x) ≡ false → R a x ≡ Less → R a y ≡ Less
  below_on a x y up below = below_on_by a x y (R y x) refl up below

  apart : (a x : X) → R a x ≡ Less → one (R x a) ≡ 0
  apart a x below = ap one (o.antisymm x a ∙ ap ordering_reverse below)

  -- what is below the first of an ascending list is not in it
  none_below : (a x : X) (xs : List X) → R a x ≡ Less → Up (x ∷ xs) → count a (x ∷ xs) ≡ 0
  none_below a x [] below up = sum_by-cons (λ y. one (R y a)) x [] ∙ ap (λ n. n + 0) (apart a x below)
  none_below a x (y ∷ ys) below up =
      let first = apart a x below in
      let rest = none_below a y ys (below_on a x y (sorted-head (λ u v. is_lt (R u v)) x y ys up) below) (sorted-tail (λ u v. is_lt (R u v)) x (y ∷ ys) up) in
      let whole = sum_by-cons (λ z. one (R z a)) x (y ∷ ys) in
      omega (arith, first, rest, whole)

  own : (x : X) (xs : List X) → count x (x ∷ xs) ≡ count x xs + 1
  own x xs =
      let first : one (R x x) ≡ 1 = ap one (tied_itself o x) in
      let whole = sum_by-cons (λ z. one (R z x)) x xs in
      omega (arith, first, whole)

  tails : (x y : X) (xs ys : List X) → x ≡ y → ((k : X) → count k (x ∷ xs) ≡ count k (y ∷ ys)) → (k : X) → count k xs ≡ count k ys
  tails x y xs ys e same k =
      let a = sum_by-cons (λ z. one (R z k)) x xs in
      let b = sum_by-cons (λ z. one (R z k)) y ys in
      let c : one (R x k) ≡ one (R y k) = ap (λ z. one (R z k)) e in
      let d = same k in
      omega (arith, a, b, c, d)

  heads_by : (x y : X) (xs ys : List X) → Up (x ∷ xs) → Up (y ∷ ys) → ((k : X) → count k (x ∷ xs) ≡ count k (y ∷ ys)) → (r : Ordering) → R x y ≡ r → x ≡ y
  heads_by x y xs ys up vp same Less e = absurd (let a = none_below x y ys e vp in let b = own x xs in let c = same x in omega (arith, a, b, c))
  heads_by x y xs ys up vp same Equal e = ties x y e
  heads_by x y xs ys up vp same Greater e = absurd (let a = none_below y x xs (o.antisymm y x ∙ ap ordering_reverse e) up in let b = own y ys in let c = same y in omega (arith, a, b, c))

  -- ascending lists with the same things, as often each, are the same
  unique : (xs ys : List X) → Up xs → Up ys → ((k : X) → count k xs ≡ count k ys) → xs ≡ ys
  unique [] [] up vp same = refl
  unique [] (y ∷ ys) up vp same = absurd (let a = same y in let b = own y ys in omega (arith, a, b))
  unique (x ∷ xs) [] up vp same = absurd (let a = same x in let b = own x xs in omega (arith, a, b))
  unique (x ∷ xs) (y ∷ ys) up vp same =
      let first = heads_by x y xs ys up vp same (R x y) refl in
      let rest = unique xs ys (sorted-tail (λ u v. is_lt (R u v)) x xs up) (sorted-tail (λ u v. is_lt (R u v)) y ys vp) (tails x y xs ys first same) in
      ap (λ z. z ∷ xs) first ∙ ap (λ zs. y ∷ zs) rest

pub in_print-unique : (records list other : List Record) → IsInPrint records list → IsInPrint records other → list ≡ other
in_print-unique records list other p q =
    let R : Record → Record → Ordering = on rank_of (slice_cmp nat_cmp) in
    unique R print_order_total print_order_ties list other p.ascending q.ascending (λ k. sum_by-IsPermutation (λ x. one (R x k)) records list p.same ∙ sym (sum_by-IsPermutation (λ x. one (R x k)) records other q.same))

pub report-unique : (values : List ℤ) (records : List Record) (detail : Bool) (text other : List ℕ) → IsReport values records detail text → IsReport values records detail other → text ≡ other
report-unique values records true text other p q = p.is ∙ ap (λ list. flat_map value_line values ++ flat_map line_of list) (in_print-unique records p.list q.list p.order q.order) ∙ sym q.is
report-unique values records false text other p q = p ∙ sym q
