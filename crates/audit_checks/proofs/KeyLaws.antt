-- From numbers of tasks to their keys.
use Rattle.std.proofs.Common.{◌≡◌, ◌∙◌, ◌≢◌, ℕ, zero, suc, ◌<◌, true, false, List, [], ◌∷◌, length, get_or, map, refl, ap, sym, arith, Contains, Some, slice_get}
use Rattle.std.specs.Prelude.{◌==◌}
use Rattle.std.proofs.lemmas.Bool.{eq-eqb, ne_eqb}
use Rattle.std.proofs.lemmas.List.{get_or_default}
use Rattle.audit_checks.specs.Tasks.{IsAscending}
use Rattle.audit_checks.specs.Rows.{row, cell}
use Rattle.audit_checks.specs.Links.{IsMirrored, IsReverse}
use Rattle.audit_checks.specs.ByKey.{number_in, keyed, row_by, IsReverseByKey}

number_first : (xs : List ℕ) (i k : ℕ) → i < length xs → get_or xs i 0 ≡ k → ((j : ℕ) → j < i → get_or xs j 0 ≢ k) → number_in xs k ≡ i
number_first [] i k inside here before = absurd (omega arith)
number_first (x ∷ xs) zero k inside here before = let e : (x == k) ≡ true = eq-eqb x k here in rw e refl
number_first (x ∷ xs) (suc i) k inside here before =
    let e : (x == k) ≡ false = ne_eqb x k (before 0 (omega arith)) in
    rw e (ap suc (number_first xs i k (omega arith) here (λ j low. before (suc j) (omega arith))))

pub number_at : (keys : List ℕ) (i k : ℕ) → IsAscending keys → i < length keys → get_or keys i 0 ≡ k → number_in keys k ≡ i
number_at keys i k up inside here = number_first keys i k inside here (λ j low same. omega (arith, up.rises j i low inside, here, same))

get_map : {X Y : Type 0} (f : X → Y) (xs : List X) (i : ℕ) (x : X) → slice_get xs i ≡ Some x → slice_get (map f xs) i ≡ Some (f x)
get_map f [] i x e = absurd (cc)
get_map f (y ∷ ys) zero x e = cc
get_map f (y ∷ ys) (suc i) x e = get_map f ys i x e

pub get_map_cases : {X Y : Type 0} (f : X → Y) (xs : List X) (i : ℕ) (y : Y) → slice_get (map f xs) i ≡ Some y → (x : X) × (slice_get xs i ≡ Some x) × (f x ≡ y)
get_map_cases f [] i y e = absurd (cc)
get_map_cases f (x ∷ xs) zero y e = (x, refl, cc)
get_map_cases f (x ∷ xs) (suc i) y e = get_map_cases f xs i y e

pub cell_inside : (rows : List (List (ℕ × ℕ))) (a b : ℕ) (e : ℕ × ℕ) → cell rows a b ≡ Some e → a < length rows
cell_inside [] a b e is = absurd (cc)
cell_inside (r ∷ rs) zero b e is = omega arith
cell_inside (r ∷ rs) (suc a) b e is = omega (arith, cell_inside rs a b e is)

mirrored_by_key : (keys : List ℕ) (rows others : List (List (ℕ × ℕ))) → IsAscending keys → length others ≡ length keys → IsMirrored rows others
    → (k j p q : ℕ) → Contains keys k → slice_get (row_by keys rows k) j ≡ Some (p, q) → slice_get (row_by keys others p) q ≡ Some (k, j)
mirrored_by_key keys rows others up long mirrored k j p q has is =
    let i = has.0 in
    let key : get_or keys i 0 ≡ k = get_or_default keys i 0 k has.1 ∙ has.2 in
    let number : number_in keys k ≡ i = number_at keys i k up has.1 key in
    let f : ℕ × ℕ → ℕ × ℕ = λ e. (get_or keys e.0 0, e.1) in
    let found = get_map_cases f (row rows i) j (p, q) (ap (λ n. slice_get (keyed keys (row rows n)) j) (sym number) ∙ is) in
    let a = found.0.0 in
    let port : found.0.1 ≡ q = ap (λ r. r.1) found.2 in
    let back : cell others a found.0.1 ≡ Some (i, j) = mirrored i j a found.0.1 found.1 in
    let inside : a < length keys = omega (arith, cell_inside others a found.0.1 (i, j) back, long) in
    let number' : number_in keys p ≡ a = number_at keys a p up inside (ap (λ r. r.0) found.2) in
    ap (λ n. slice_get (keyed keys (row others n)) q) number' ∙ (ap (λ n. slice_get (keyed keys (row others a)) n) (sym port)
    ∙ (get_map f (row others a) found.0.1 (i, j) back ∙ ap (λ n. Some (n, j)) key))

pub reverse_by_key : (keys : List ℕ) (places succs : List (List (ℕ × ℕ))) → IsAscending keys → length places ≡ length keys → length succs ≡ length keys
    → IsReverse places succs → IsReverseByKey keys (row_by keys places) (row_by keys succs)
reverse_by_key keys places succs up places_long succs_long reverse = record {
  forth = mirrored_by_key keys places succs up succs_long reverse.forth;
  back = mirrored_by_key keys succs places up places_long reverse.back;
}
