-- Rows of a vector of vectors.
use Rattle.std.proofs.Common.{◌≡◌, ◌∙◌, ℕ, zero, suc, ◌<◌, List, [], ◌∷◌, ◌++◌, length, get_or, refl, ap, sym, subst, arith, set, Vec, All}
use Rattle.std.proofs.lemmas.List.{map-set}
use Rattle.std.specs.declared.alloc.Global.{Global}
use Rattle.audit_checks.specs.Rows.{rows_of, row, IsWithin}

pub row_at : {X : Type 0} (rows : List (Vec X Global)) (i : ℕ) (v : Vec X Global) → i < length rows → v ≡ get_or rows i v → row (rows_of rows) i ≡ v.items
row_at [] i v inside here = absurd (omega arith)
row_at (x ∷ xs) zero v inside here = ap (λ w. w.items) (sym here)
row_at (x ∷ xs) (suc i) v inside here = row_at xs i v (omega arith) here

pub rows_long : {X : Type 0} (rows : List (Vec X Global)) → length (rows_of rows) ≡ length rows
rows_long [] = refl
rows_long (x ∷ xs) = ap suc (rows_long xs)

pub push_row : {X : Type 0} (rows : List (Vec X Global)) (i : ℕ) (v w : Vec X Global) (x : X) → i < length rows → v ≡ get_or rows i v → w.items ≡ v.items ++ x ∷ []
    → rows_of (set rows i w) ≡ set (rows_of rows) i (row (rows_of rows) i ++ x ∷ [])
push_row {X} rows i v w x inside here more =
    map-set (λ (u : Vec X Global). u.items) rows i w ∙ ap (λ l. set (rows_of rows) i l) (more ∙ ap (λ l. l ++ x ∷ []) (sym (row_at rows i v inside here)))

pub clear_row : {X : Type 0} (rows : List (Vec X Global)) (i : ℕ) (w : Vec X Global) → w.items ≡ [] → rows_of (set rows i w) ≡ set (rows_of rows) i []
clear_row {X} rows i w none_left = map-set (λ (u : Vec X Global). u.items) rows i w ∙ ap (λ l. set (rows_of rows) i l) none_left

pub within_at : (rows : List (Vec (ℕ × ℕ) Global)) (n i : ℕ) → i < length rows → All (IsWithin n) (rows_of rows) → IsWithin n (row (rows_of rows) i)
within_at rows n i inside all = all i [] (omega (arith, rows_long rows))

pub within_rows : (rows : List (Vec (ℕ × ℕ) Global)) → All (IsWithin (length rows)) (rows_of rows) → All (IsWithin (length (rows_of rows))) (rows_of rows)
within_rows rows all = subst (λ n. All (IsWithin n) (rows_of rows)) (sym (rows_long rows)) all
