-- Where the predecessors of each task stand.
use Rattle.std.proofs.Common.{◌≡◌, ℕ, ◌+◌, ◌-◌, ◌<◌, ◌≤◌, true, false, List, [], ◌∷◌, ◌++◌, length, ap, sym, subst, arith, inl, inr, All}
use Rattle.std.specs.Prelude.{◌==◌}
use Rattle.std.proofs.lemmas.Bool.{eq-eqb, ne_eqb, cases_lt, cases_eq}
use Rattle.std.proofs.lemmas.List.Elements.{All-nil, All-cons}
use Rattle.raw_graph.specs.Graph.{Task}
use Rattle.formula_text.specs.Trees.{HasInputs}
use Rattle.drill_input.specs.Drill.{second_back, third_back, one_before}
use Rattle.drill_input.proofs.Rows.{IsRow, first, later, start, next, last}

abbrev pub places : Task → List ℕ
places x = x.inputs ++ x.after

-- k is the key of the task at place i
pub record IsKeyAt (i k : ℕ) : Type 0 where
  pub low : i < 8192 → k ≡ i + 1
  pub middle : 8192 ≤ i → i < 8256 → k ≡ i + 1809
  pub top : i ≡ 8256 → k ≡ 20000

key_from : (i k : ℕ) → (i < 8192 → k ≡ i + 1) → (8192 ≤ i → i < 8256 → k ≡ i + 1809) → (i ≡ 8256 → k ≡ 20000) → IsKeyAt i k
key_from i k a b c = record { low = a; middle = b; top = c }

pub key_row : (number i : ℕ) (x : Task) → IsRow number i x → IsKeyAt i x.key
key_row number i x (first low e) = let k : x.key ≡ 1 + i = ap (λ (y : Task). y.key) e in record { low = λ h. omega arith; middle = λ h l. omega arith; top = λ h. omega arith }
key_row number i x (later low high e) = let k : x.key ≡ 1 + i = ap (λ (y : Task). y.key) e in record { low = λ h. omega arith; middle = λ h l. omega arith; top = λ h. omega arith }
key_row number i x (start here e) = let k : x.key ≡ 10001 = ap (λ (y : Task). y.key) e in record { low = λ h. omega arith; middle = λ h l. omega arith; top = λ h. omega arith }
key_row number i x (next low high e) = let k : x.key ≡ 10000 + (i - 8191) = ap (λ (y : Task). y.key) e in record { low = λ h. omega arith; middle = λ h l. omega arith; top = λ h. omega arith }
key_row number i x (last here e) = let k : x.key ≡ 20000 = ap (λ (y : Task). y.key) e in record { low = λ h. omega arith; middle = λ h l. omega arith; top = λ h. omega arith }

pub keys_rise : (i j a b : ℕ) → IsKeyAt i a → IsKeyAt j b → i < j → j < 8257 → a < b
keys_rise i j a b at_i at_j less high = elim (cases_lt j 8192) [
  | inl low ↦ omega (arith, at_i.low (omega arith), at_j.low low)
  | inr middle ↦ elim (cases_lt j 8256) [
    | inl below ↦ elim (cases_lt i 8192) [ inl low ↦ omega (arith, at_i.low low, at_j.middle middle below) | inr late ↦ omega (arith, at_i.middle late (omega arith), at_j.middle middle below) ]
    | inr top ↦ elim (cases_lt i 8192) [ inl low ↦ omega (arith, at_i.low low, at_j.top (omega arith)) | inr late ↦ omega (arith, at_i.middle late (omega arith), at_j.top (omega arith)) ]
  ]
]

pub same_place : (i j k : ℕ) → IsKeyAt i k → IsKeyAt j k → i < 8257 → j < 8257 → i ≡ j
same_place i j k at_i at_j i_in j_in = elim (cases_lt i j) [
  | inl less ↦ absurd (omega (arith, keys_rise i j k k at_i at_j less j_in))
  | inr more ↦ elim (cases_lt j i) [ inl less ↦ absurd (omega (arith, keys_rise j i k k at_j at_i less i_in)) | inr same ↦ omega arith ]
]

pub same_key : (i j a b : ℕ) → IsKeyAt i a → IsKeyAt j b → i ≡ j → j < 8257 → a ≡ b
same_key i j a b at_i at_j same high = elim (cases_lt j 8192) [
  | inl low ↦ omega (arith, at_i.low (omega arith), at_j.low low)
  | inr middle ↦ elim (cases_lt j 8256) [
    | inl below ↦ omega (arith, at_i.middle (omega arith) (omega arith), at_j.middle middle below)
    | inr top ↦ omega (arith, at_i.top (omega arith), at_j.top (omega arith))
  ]
]

-- p is the key of one of the 65 tasks before place i
pub record LooksBack (i p : ℕ) : Type 0 where
  pub place : ℕ
  pub before : place < i
  pub near : i ≤ place + 65
  pub key : IsKeyAt place p

looks_low : (i q p : ℕ) → q < i → i ≤ q + 65 → q < 8192 → p ≡ q + 1 → LooksBack i p
looks_low i q p before close low e = record { place = q; before = before; near = close; key = record { low = λ h. e; middle = λ h l. omega arith; top = λ h. omega arith } }

looks_middle : (i q p : ℕ) → q < i → i ≤ q + 65 → 8192 ≤ q → q < 8256 → p ≡ q + 1809 → LooksBack i p
looks_middle i q p before close low high e = record { place = q; before = before; near = close; key = record { low = λ h. omega arith; middle = λ h l. e; top = λ h. omega arith } }

-- at most three places, each of which looks back
pub record HasPlaces (i : ℕ) (ps : List ℕ) : Type 0 where
  pub few : length ps ≤ 3
  pub back : All (LooksBack i) ps

none_back : (i : ℕ) → HasPlaces i []
none_back i = record { few = omega arith; back = All-nil (LooksBack i) }

one_back : (i a : ℕ) → LooksBack i a → HasPlaces i (a ∷ [])
one_back i a at_a = record { few = omega arith; back = All-cons (LooksBack i) a [] at_a (All-nil (LooksBack i)) }

two_back : (i a b : ℕ) → LooksBack i a → LooksBack i b → HasPlaces i (a ∷ b ∷ [])
two_back i a b at_a at_b = record { few = omega arith; back = All-cons (LooksBack i) a (b ∷ []) at_a (one_back i b at_b).back }

three_back : (i a b c : ℕ) → LooksBack i a → LooksBack i b → LooksBack i c → HasPlaces i (a ∷ b ∷ c ∷ [])
three_back i a b c at_a at_b at_c = record { few = omega arith; back = All-cons (LooksBack i) a (b ∷ c ∷ []) at_a (two_back i b c at_b at_c).back }

first_back : (i : ℕ) → i < 64 → HasPlaces i (one_before (1 + i))
first_back i low = elim (cases_eq (1 + i) 1) [
  | inl same ↦ let e : (1 + i == 1) ≡ true = eq-eqb (1 + i) 1 same in rw e (none_back i)
  | inr other ↦ let e : (1 + i == 1) ≡ false = ne_eqb (1 + i) 1 other in
      rw e (one_back i (1 + i - 1) (looks_low i (i - 1) (1 + i - 1) (omega arith) (omega arith) (omega arith) (omega arith)))
]

later_back : (i d e : ℕ) → 64 ≤ i → i < 8192 → (1 ≤ d) × (d ≤ 64) → (1 ≤ e) × (e ≤ 64) → HasPlaces i ((1 + i - 1) ∷ (1 + i - d) ∷ (1 + i - e) ∷ [])
later_back i d e low high d_in e_in = three_back i (1 + i - 1) (1 + i - d) (1 + i - e)
    (looks_low i (i - 1) (1 + i - 1) (omega arith) (omega arith) (omega arith) (omega arith))
    (looks_low i (i - d) (1 + i - d) (omega arith) (omega arith) (omega arith) (omega arith))
    (looks_low i (i - e) (1 + i - e) (omega arith) (omega arith) (omega arith) (omega arith))

pub second_small : (number k : ℕ) → (1 ≤ second_back number k) × (second_back number k ≤ 64)
second_small number k = (omega arith, omega arith)

pub third_small : (number k : ℕ) → (1 ≤ third_back number k) × (third_back number k ≤ 64)
third_small number k = (omega arith, omega arith)

next_back : (i : ℕ) → 8193 ≤ i → i < 8256 → HasPlaces i ((9999 + (i - 8191)) ∷ [])
next_back i low high = one_back i (9999 + (i - 8191)) (looks_middle i (i - 1) (9999 + (i - 8191)) (omega arith) (omega arith) (omega arith) (omega arith) (omega arith))

last_back : (i : ℕ) → i ≡ 8256 → HasPlaces i (8192 ∷ 10064 ∷ [])
last_back i here = two_back i 8192 10064
    (looks_low i 8191 8192 (omega arith) (omega arith) (omega arith) (omega arith))
    (looks_middle i 8255 10064 (omega arith) (omega arith) (omega arith) (omega arith) (omega arith))

pub places_row : (number i : ℕ) (x : Task) → IsRow number i x → HasPlaces i (places x)
places_row number i x (first low e) = subst (HasPlaces i) (sym (ap places e)) (first_back i low)
places_row number i x (later low high e) = subst (HasPlaces i) (sym (ap places e)) (later_back i (second_back number (1 + i)) (third_back number (1 + i)) low high (second_small number (1 + i)) (third_small number (1 + i)))
places_row number i x (start here e) = subst (HasPlaces i) (sym (ap places e)) (none_back i)
places_row number i x (next low high e) = subst (HasPlaces i) (sym (ap places e)) (next_back i low high)
places_row number i x (last here e) = subst (HasPlaces i) (sym (ap places e)) (last_back i here)

-- a formula uses inputs that are given
abbrev Uses_given : Task → Type 0
Uses_given x = HasInputs x.tree (length x.inputs)

pub given_row : (number i : ℕ) (x : Task) → IsRow number i x → HasInputs x.tree (length x.inputs)
given_row number i x (first low e) = subst Uses_given (sym e) tt
given_row number i x (later low high e) = subst Uses_given (sym e) (((((omega arith, omega arith), omega arith), tt), tt), tt)
given_row number i x (start here e) = subst Uses_given (sym e) tt
given_row number i x (next low high e) = subst Uses_given (sym e) (omega arith, tt)
given_row number i x (last here e) = subst Uses_given (sym e) (omega arith, omega arith)
