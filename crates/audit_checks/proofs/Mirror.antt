-- A further edge, put at the end of a row on both sides.
use Rattle.std.proofs.Common.{◌≡◌, ◌∙◌, ◌≢◌, ℕ, zero, suc, ◌<◌, ◌⊎◌, inl, inr, List, [], ◌∷◌, ◌++◌, length, set, refl, ap, sym, arith, Some, slice_get}
use Rattle.std.proofs.lemmas.Bool.{cases_eq}
use Rattle.std.proofs.lemmas.List.{get_or-set_same, get_or-set_other}
use Rattle.audit_checks.specs.Rows.{row, cell}
use Rattle.audit_checks.specs.Links.{IsMirrored, IsReverse}

get_last : {X : Type 0} (xs : List X) (x : X) → slice_get (xs ++ x ∷ []) (length xs) ≡ Some x
get_last [] x = refl
get_last (y ∷ ys) x = get_last ys x

get_kept : {X : Type 0} (xs : List X) (x y : X) (i : ℕ) → slice_get xs i ≡ Some y → slice_get (xs ++ x ∷ []) i ≡ Some y
get_kept [] x y i e = absurd (cc)
get_kept (z ∷ zs) x y zero e = e
get_kept (z ∷ zs) x y (suc i) e = get_kept zs x y i e

get_cases : {X : Type 0} (xs : List X) (x y : X) (i : ℕ) → slice_get (xs ++ x ∷ []) i ≡ Some y → (slice_get xs i ≡ Some y) ⊎ ((i ≡ length xs) × (x ≡ y))
get_cases [] x y zero e = inr (refl, cc)
get_cases [] x y (suc i) e = absurd (cc)
get_cases (z ∷ zs) x y zero e = inl e
get_cases (z ∷ zs) x y (suc i) e = elim (get_cases zs x y i e) [ inl before ↦ inl before | inr last ↦ inr (ap suc last.0, last.1) ]

pub get_inside : {X : Type 0} (xs : List X) (y : X) (i : ℕ) → slice_get xs i ≡ Some y → i < length xs
get_inside [] y i e = absurd (cc)
get_inside (z ∷ zs) y zero e = omega arith
get_inside (z ∷ zs) y (suc i) e = omega (arith, get_inside zs y i e)

-- rows with x at the end of row a
abbrev pub pushed : {X : Type 0} → List (List X) → ℕ → X → List (List X)
pushed rows a x = set rows a (row rows a ++ x ∷ [])

pub row_pushed : {X : Type 0} (rows : List (List X)) (a : ℕ) (x : X) → a < length rows → row (pushed rows a x) a ≡ row rows a ++ x ∷ []
row_pushed rows a x inside = get_or-set_same rows a (row rows a ++ x ∷ []) [] inside

pub row_unpushed : {X : Type 0} (rows : List (List X)) (a b : ℕ) (x : X) → b ≢ a → row (pushed rows a x) b ≡ row rows b
row_unpushed rows a b x apart = get_or-set_other rows a b (row rows a ++ x ∷ []) [] apart

cell_last : {X : Type 0} (rows : List (List X)) (a : ℕ) (x : X) → a < length rows → cell (pushed rows a x) a (length (row rows a)) ≡ Some x
cell_last rows a x inside = ap (λ l. slice_get l (length (row rows a))) (row_pushed rows a x inside) ∙ get_last (row rows a) x

cell_kept : {X : Type 0} (rows : List (List X)) (a b i : ℕ) (x y : X) → a < length rows → cell rows b i ≡ Some y → cell (pushed rows a x) b i ≡ Some y
cell_kept rows a b i x y inside e = elim (cases_eq b a) [
  | inl same ↦ ap (λ c. cell (pushed rows a x) c i) same ∙ (ap (λ l. slice_get l i) (row_pushed rows a x inside)
      ∙ get_kept (row rows a) x y i (ap (λ c. cell rows c i) (sym same) ∙ e))
  | inr apart ↦ ap (λ l. slice_get l i) (row_unpushed rows a b x apart) ∙ e
]

pub cell_cases : {X : Type 0} (rows : List (List X)) (a b i : ℕ) (x y : X) → a < length rows → cell (pushed rows a x) b i ≡ Some y
    → (cell rows b i ≡ Some y) ⊎ ((b ≡ a) × (i ≡ length (row rows a)) × (x ≡ y))
cell_cases rows a b i x y inside e = elim (cases_eq b a) [
  | inl same ↦ elim (get_cases (row rows a) x y i (ap (λ l. slice_get l i) (sym (row_pushed rows a x inside)) ∙ (ap (λ c. cell (pushed rows a x) c i) (sym same) ∙ e))) [
    | inl before ↦ inl (ap (λ c. cell rows c i) same ∙ before)
    | inr last ↦ inr (same, last.0, last.1)
  ]
  | inr apart ↦ inl (ap (λ l. slice_get l i) (sym (row_unpushed rows a b x apart)) ∙ e)
]

mirror_pushed : (rows others : List (List (ℕ × ℕ))) (k p j q : ℕ) → k < length rows → p < length others → j ≡ length (row rows k) → q ≡ length (row others p)
    → IsMirrored rows others → IsMirrored (pushed rows k (p, q)) (pushed others p (k, j))
mirror_pushed rows others k p j q k_in p_in j_is q_is mirrored c d a b e = elim (cell_cases rows k c d (p, q) (a, b) k_in e) [
  | inl before ↦ cell_kept others p a b (k, j) (c, d) p_in (mirrored c d a b before)
  | inr last ↦
      let a_is : a ≡ p = sym (ap (λ r. r.0) last.2) in
      let b_is : b ≡ length (row others p) = sym (ap (λ r. r.1) last.2) ∙ q_is in
      let d_is : j ≡ d = j_is ∙ sym last.1 in
      ap (λ n. cell (pushed others p (k, j)) n b) a_is ∙ (ap (λ n. cell (pushed others p (k, j)) p n) b_is
      ∙ (cell_last others p (k, j) p_in ∙ (ap (λ n. Some (n, j)) (sym last.0) ∙ ap (λ n. Some (c, n)) d_is)))
]

pub reverse_pushed : (places succs : List (List (ℕ × ℕ))) (k p j q : ℕ) → k < length places → p < length succs → j ≡ length (row places k) → q ≡ length (row succs p)
    → IsReverse places succs → IsReverse (pushed places k (p, q)) (pushed succs p (k, j))
reverse_pushed places succs k p j q k_in p_in j_is q_is reverse = record {
  forth = mirror_pushed places succs k p j q k_in p_in j_is q_is reverse.forth;
  back = mirror_pushed succs places p k q j p_in k_in q_is j_is reverse.back;
}
