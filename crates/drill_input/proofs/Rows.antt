-- What stands at each place of the list of tasks.
use Rattle.std.proofs.Common.{◌≡◌, ◌∙◌, ℕ, ◌+◌, ◌-◌, ◌<◌, ◌≤◌, List, [], ◌∷◌, ◌++◌, length, get_or, refl, ap, sym, subst, arith, inl, inr}
use Rattle.std.proofs.lemmas.Bool.{cases_lt, cases_eq}
use Rattle.std.proofs.lemmas.List.{length-append, get_or_append_left, get_or-append_right}
use Rattle.raw_graph.specs.Graph.{Task}
use Rattle.drill_input.specs.Drill.{each, first_task, later_task, first_version, next_version, last_task, drill_tasks}
use Rattle.drill_input.proofs.Listed.{length-each, get_or-each}

-- the task at place i
pub data IsRow (number i : ℕ) (x : Task) : Type 0 where
  first : i < 64 → x ≡ first_task number (1 + i) → IsRow number i x
  later : 64 ≤ i → i < 8192 → x ≡ later_task number (1 + i) → IsRow number i x
  start : i ≡ 8192 → x ≡ first_version → IsRow number i x
  next : 8193 ≤ i → i < 8256 → x ≡ next_version (i - 8191) → IsRow number i x
  last : i ≡ 8256 → x ≡ last_task → IsRow number i x

-- ---- lists of five parts

at_start : {X : Type 0} (x : X) (cs : List X) (y : X) (i : ℕ) (d : X) → i ≡ 0 → get_or (x ∷ (cs ++ y ∷ [])) i d ≡ x
at_start x cs y i d e = ap (λ n. get_or (x ∷ (cs ++ y ∷ [])) n d) e

behind_start : {X : Type 0} (x : X) (xs : List X) (i : ℕ) (d : X) → 1 ≤ i → get_or (x ∷ xs) i d ≡ get_or xs (i - 1) d
behind_start x xs i d some = get_or-append_right (x ∷ []) xs 1 i d refl some

at_end : {X : Type 0} (cs : List X) (y : X) (n i : ℕ) (d : X) → length cs ≡ n → i ≡ n → get_or (cs ++ y ∷ []) i d ≡ y
at_end cs y n i d long e = get_or-append_right cs (y ∷ []) n i d long (omega arith) ∙ ap (λ m. get_or (y ∷ []) m d) (let z : i - n ≡ 0 = omega arith in z)

-- ---- the rows

abbrev behind_first : ℕ → List Task
behind_first number = each (later_task number) 65 8128 ++ (first_version ∷ (each next_version 2 63 ++ last_task ∷ []))

row_chain : (number i : ℕ) (d : Task) → 8193 ≤ i → i < 8257 → IsRow number i (get_or (each next_version 2 63 ++ last_task ∷ []) (i - 8193) d)
row_chain number i d low high = elim (cases_lt i 8256) [
  | inl less ↦ next low less (get_or_append_left (each next_version 2 63) (last_task ∷ []) d (i - 8193) (omega (arith, length-each next_version 2 63)) ∙ get_or-each next_version 2 63 (i - 8193) (i - 8191) d (omega arith) (omega arith))
  | inr more ↦ last (omega arith) (at_end (each next_version 2 63) last_task 63 (i - 8193) d (length-each next_version 2 63) (omega arith))
]

row_start : (number i : ℕ) (d : Task) → 8192 ≤ i → i < 8257 → IsRow number i (get_or (first_version ∷ (each next_version 2 63 ++ last_task ∷ [])) (i - 8192) d)
row_start number i d low high = elim (cases_eq i 8192) [
  | inl same ↦ start same (at_start first_version (each next_version 2 63) last_task (i - 8192) d (omega arith))
  | inr other ↦ subst (IsRow number i)
      (sym (behind_start first_version (each next_version 2 63 ++ last_task ∷ []) (i - 8192) d (omega arith)
      ∙ ap (λ n. get_or (each next_version 2 63 ++ last_task ∷ []) n d) (let e : i - 8192 - 1 ≡ i - 8193 = omega arith in e)))
      (row_chain number i d (omega arith) high)
]

row_later : (number i : ℕ) (d : Task) → 64 ≤ i → i < 8257 → IsRow number i (get_or (behind_first number) (i - 64) d)
row_later number i d low high = elim (cases_lt i 8192) [
  | inl less ↦ later low less (get_or_append_left (each (later_task number) 65 8128) (first_version ∷ (each next_version 2 63 ++ last_task ∷ [])) d (i - 64) (omega (arith, length-each (later_task number) 65 8128))
      ∙ get_or-each (later_task number) 65 8128 (i - 64) (1 + i) d (omega arith) (omega arith))
  | inr more ↦ subst (IsRow number i)
      (sym (get_or-append_right (each (later_task number) 65 8128) (first_version ∷ (each next_version 2 63 ++ last_task ∷ [])) 8128 (i - 64) d (length-each (later_task number) 65 8128) (omega arith)
      ∙ ap (λ n. get_or (first_version ∷ (each next_version 2 63 ++ last_task ∷ [])) n d) (let e : i - 64 - 8128 ≡ i - 8192 = omega arith in e)))
      (row_start number i d more high)
]

pub row_at : (number i : ℕ) (d : Task) → i < 8257 → IsRow number i (get_or (drill_tasks number) i d)
row_at number i d high = elim (cases_lt i 64) [
  | inl less ↦ first less (get_or_append_left (each (first_task number) 1 64) (behind_first number) d i (omega (arith, length-each (first_task number) 1 64))
      ∙ get_or-each (first_task number) 1 64 i (1 + i) d less refl)
  | inr more ↦ subst (IsRow number i)
      (sym (get_or-append_right (each (first_task number) 1 64) (behind_first number) 64 i d (length-each (first_task number) 1 64) more))
      (row_later number i d more high)
]

pub length_drill : (number : ℕ) → length (drill_tasks number) ≡ 8257
length_drill number = omega (
  arith,
  length-append (each (first_task number) 1 64) (behind_first number),
  length-each (first_task number) 1 64,
  length-append (each (later_task number) 65 8128) (first_version ∷ (each next_version 2 63 ++ last_task ∷ [])),
  length-each (later_task number) 65 8128,
  length-append (each next_version 2 63) (last_task ∷ []),
  length-each next_version 2 63,
)
