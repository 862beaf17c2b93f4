-- The refusals that name a task: the least key with a fact is that of the first task with it.
use Rattle.std.proofs.Common.{◌≡◌, ◌∙◌, ℕ, zero, suc, ◌+◌, ◌-◌, ◌<◌, ◌≤◌, List, [], ◌∷◌, length, get_or, refl, ap, sym, arith, All, Contains, count_by, inl, inr, subst}
use Rattle.std.proofs.lemmas.Bool.{cases_lt, cases_eq}
use Rattle.std.proofs.lemmas.List.{get_or_default}
use Rattle.std.specs.List.Sorted.{IsNonDecreasing}
use Rattle.std.specs.Prelude.{◌==◌}
use Rattle.formula_text.specs.Trees.{Tree, Number, Input, Minus, Two, HasInputs, Uses}
use Rattle.raw_graph.specs.declared.raw.RawTask.{RawTask}
use Rattle.audit_checks.specs.Tasks.{IsAscending, key_of, keys_of, places_of}
use Rattle.audit_checks.specs.Accepted.{HasDistinctKeys, NamesTasks}
use Rattle.audit_checks.specs.Faults.{IsLeast, HasTask, StandsTwice, HasUnknown, IsFirstUnknown, HasNames}
use Rattle.audit_checks.proofs.Keys.{IsApart, times_map, twice_here, once_below, once_ascending}

pub key_at : (ts : List RawTask) (i : ℕ) (t : RawTask) → i < length ts → t ≡ get_or ts i t → get_or (keys_of ts) i 0 ≡ key_of t
key_at [] i t inside here = absurd (omega arith)
key_at (x ∷ xs) zero t inside here = ap key_of (sym here)
key_at (x ∷ xs) (suc i) t inside here = key_at xs i t (omega arith) here

pub keys_long : (ts : List RawTask) → length (keys_of ts) ≡ length ts
keys_long [] = refl
keys_long (x ∷ xs) = ap suc (keys_long xs)

pub twice_fault : (ts : List RawTask) (keys : List ℕ) (i : ℕ) → keys_of ts ≡ keys → IsNonDecreasing keys → IsApart keys i
    → 0 < i → i < length keys → get_or keys (i - 1) 0 ≡ get_or keys i 0 → IsLeast (StandsTwice ts) (get_or keys i 0)
twice_fault ts keys i is up apart some inside same = record {
  holds = omega (arith, times_map key_of (get_or keys i 0) ts, ap (λ xs. count_by (λ x. x == get_or keys i 0) xs) is, twice_here keys i some inside same);
  least = λ m low twice. omega (arith, times_map key_of m ts, ap (λ xs. count_by (λ x. x == m) xs) is, once_below keys i up apart some inside m low);
}

pub distinct : (ts : List RawTask) (keys : List ℕ) → keys_of ts ≡ keys → IsAscending keys → HasDistinctKeys ts
distinct ts keys is up k = omega (arith, times_map key_of k ts, ap (λ xs. count_by (λ x. x == k) xs) is, once_ascending k keys up)

pub has_task : (P : RawTask → Type 0) (ts : List RawTask) (i : ℕ) (t : RawTask) → i < length ts → t ≡ get_or ts i t → P t → HasTask ts P (key_of t)
has_task P ts i t inside here holds = record { task = t; stands = (i, inside, sym here); key_is = refl; holds = holds }

pub least_task : (P : RawTask → Type 0) (ts : List RawTask) (i : ℕ) (t : RawTask) → IsAscending (keys_of ts) → i < length ts → t ≡ get_or ts i t → P t
    → ((k : ℕ) (d : RawTask) → k < i → ¬ P (get_or ts k d)) → IsLeast (HasTask ts P) (key_of t)
least_task P ts i t up inside here holds none_before = record {
  holds = has_task P ts i t inside here holds;
  least = λ m low has.
      let j = has.stands.0 in
      let at : has.task ≡ get_or ts j has.task = sym has.stands.2 in
      elim (cases_lt j i) [
        | inl early ↦ none_before j has.task early (subst P at has.holds)
        | inr late ↦ elim (cases_eq i j) [
          | inl same ↦ omega (arith, ap (λ n. get_or (keys_of ts) n 0) same, key_at ts i t inside here, key_at ts j has.task has.stands.1 at, has.key_is)
          | inr apart ↦ omega (arith, up.rises i j (omega arith) (omega (arith, keys_long ts, has.stands.1)), key_at ts i t inside here, key_at ts j has.task has.stands.1 at, has.key_is)
        ]
      ];
}

pub known_apart : (keys : List ℕ) (t : RawTask) → All (Contains keys) (places_of t) → (name : ℕ) → IsFirstUnknown keys (places_of t) name → ⊥
known_apart keys t known name first = first.unknown (subst (Contains keys) first.named (known first.place 0 first.inside))

-- what holds of the first i tasks, and of the next
pub more_tasks : (P : RawTask → Type 0) (ts : List RawTask) (i : ℕ) (t : RawTask) → i < length ts → t ≡ get_or ts i t
    → ((k : ℕ) (d : RawTask) → k < i → P (get_or ts k d)) → P t → (k : ℕ) (d : RawTask) → k < i + 1 → P (get_or ts k d)
more_tasks P ts i t inside here before holds k d early = elim (cases_lt k i) [
  | inl less ↦ before k d less
  | inr late ↦ let e : k ≡ i = omega arith in
      subst P (here ∙ (get_or_default ts i t d inside ∙ ap (λ n. get_or ts n d) (sym e))) holds
]

pub names_known : (ts : List RawTask) (keys : List ℕ) (n : ℕ) → keys_of ts ≡ keys → length ts ≤ n
    → ((k : ℕ) (d : RawTask) → k < n → All (Contains keys) (places_of (get_or ts k d))) → NamesTasks ts
names_known ts keys n is all known k d inside =
    subst (λ xs. All (Contains xs) (places_of (get_or ts k d))) (sym is) (known k d (omega arith))

pub unknown_fault : (ts : List RawTask) (keys : List ℕ) (i : ℕ) (t : RawTask) (name : ℕ) → keys_of ts ≡ keys → IsAscending keys → i < length ts → t ≡ get_or ts i t
    → ((k : ℕ) (d : RawTask) → k < i → All (Contains keys) (places_of (get_or ts k d))) → IsFirstUnknown keys (places_of t) name
    → HasDistinctKeys ts × IsLeast (HasTask ts (HasUnknown ts)) (key_of t) × HasTask ts (λ task. IsFirstUnknown (keys_of ts) (places_of task) name) (key_of t)
unknown_fault ts keys i t name is up inside here known first =
    let first' : IsFirstUnknown (keys_of ts) (places_of t) name = subst (λ xs. IsFirstUnknown xs (places_of t) name) (sym is) first in (
      distinct ts keys is up,
      least_task (HasUnknown ts) ts i t (subst IsAscending (sym is) up) inside here (name, first')
          (λ k d early lacks. known_apart keys (get_or ts k d) (known k d early) lacks.0 (subst (λ xs. IsFirstUnknown xs (places_of (get_or ts k d)) lacks.0) is lacks.1)),
      has_task (λ task. IsFirstUnknown (keys_of ts) (places_of task) name) ts i t inside here first',
    )

-- an input that is used is among those that are given
pub uses_below : (t : Tree) (n i : ℕ) → HasInputs t n → Uses t i → i < n
uses_below (Number k) n i has uses = absurd uses
uses_below (Input j) n i has uses = subst (λ m. m < n) uses has
uses_below (Minus a) n i has uses = uses_below a n i has uses
uses_below (Two op a b) n i has uses = elim uses [ inl u ↦ uses_below a n i has.0 u | inr u ↦ uses_below b n i has.1 u ]

pub contains_at : (keys : List ℕ) (i name : ℕ) → (i < length keys) × (get_or keys i 0 ≡ name) → Contains keys name
contains_at keys i name at = (i, at.0, get_or_default keys i name 0 at.0 ∙ at.1)

pub known_place : (ts : List RawTask) (keys : List ℕ) (k : ℕ) (t : RawTask) (j : ℕ) → keys_of ts ≡ keys → NamesTasks ts → k < length ts → t ≡ get_or ts k t
    → j < length (places_of t) → Contains keys (get_or (places_of t) j 0)
known_place ts keys k t j is known inside here low =
    subst (λ xs. Contains xs (get_or (places_of t) j 0)) is (subst (λ u. All (Contains (keys_of ts)) (places_of u)) (sym here) (known k t inside) j 0 low)

pub keys_count : (ts : List RawTask) (keys : List ℕ) → keys_of ts ≡ keys → length keys ≡ length ts
keys_count ts keys is = omega (arith, ap length is, keys_long ts)

pub some_task : (ts : List RawTask) → 0 < length ts → RawTask
some_task [] some = absurd (omega arith)
some_task (t ∷ ts) some = t

pub key_of_at : (ts : List RawTask) (keys : List ℕ) (i : ℕ) (d : RawTask) → keys_of ts ≡ keys → i < length ts → key_of (get_or ts i d) ≡ get_or keys i 0
key_of_at ts keys i d is inside =
    sym (key_at ts i (get_or ts i d) inside (get_or_default ts i d (get_or ts i d) inside)) ∙ ap (λ xs. get_or xs i 0) is

pub has_names : (ts : List RawTask) (keys : List ℕ) (sink i : ℕ) → keys_of ts ≡ keys → IsAscending keys → NamesTasks ts → (i < length keys) × (get_or keys i 0 ≡ sink) → HasNames ts sink
has_names ts keys sink i is up known at = record {
  distinct = distinct ts keys is up;
  known = known;
  sink_task = subst (λ xs. Contains xs sink) (sym is) (contains_at keys i sink at);
}

pub no_sink : (ts : List RawTask) (keys : List ℕ) (sink : ℕ) → keys_of ts ≡ keys → IsAscending keys → NamesTasks ts → ¬ Contains keys sink
    → HasDistinctKeys ts × NamesTasks ts × (sink ≡ sink) × ¬ Contains (keys_of ts) sink
no_sink ts keys sink is up known lacks = (distinct ts keys is up, known, refl, λ has. lacks (subst (λ xs. Contains xs sink) is has))
