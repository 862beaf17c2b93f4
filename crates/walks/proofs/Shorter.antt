-- Where there is a walk, there is one that comes by no vertex twice, so of few edges.
use Rattle.std.proofs.Common.{◌≡◌, ◌≢◌, ℕ, zero, suc, ◌+◌, ◌<◌, ◌≤◌, List, [], ◌∷◌, length, Option, cond, eqb, inl, inr, sym, subst, ◌∙◌, arith, ◌⊎◌, eq-eqb}
use Rattle.std.specs.List.{range_with_len}
use Rattle.std.proofs.lemmas.Bool.{cases_eq, ne_eqb}
use Rattle.walks.specs.Walks.{LeadsTo}

-- ---- vertices in a list
abbrev pub IsIn : ℕ → List ℕ → Type 0
IsIn x [] = ⊥
IsIn x (y ∷ ys) = (x ≡ y) ⊎ IsIn x ys

abbrev pub EachOf : (ℕ → Type 0) → List ℕ → Type 0
EachOf P [] = Unit {0}
EachOf P (x ∷ xs) = P x × EachOf P xs

each_as : (P Q : ℕ → Type 0) → ((x : ℕ) → P x → Q x) → (xs : List ℕ) → EachOf P xs → EachOf Q xs
each_as P Q as' [] all = tt
each_as P Q as' (x ∷ xs) all = (as' x all.0, each_as P Q as' xs all.1)

pub in_numbers : (a n x : ℕ) → a ≤ x → x < a + n → IsIn x (range_with_len a n)
in_numbers a zero x ge lt = absurd (omega arith)
in_numbers a (suc n) x ge lt = elim (cases_eq x a) [
  | inl e ↦ inl e
  | inr ne ↦ inr (in_numbers (a + 1) n x (omega arith) (omega arith))
]

abbrev without : ℕ → List ℕ → List ℕ
without u [] = []
without u (x ∷ xs) = cond (eqb x u) (without u xs) (x ∷ without u xs)

without_at_most : (u : ℕ) (xs : List ℕ) → length (without u xs) ≤ length xs
without_at_most u [] = omega arith
without_at_most u (x ∷ xs) = let rest = without_at_most u xs in elim (cases_eq x u) [
  | inl e ↦ rw (eq-eqb x u e) (omega (arith, rest))
  | inr ne ↦ rw (ne_eqb x u ne) (omega (arith, rest))
]

without_less : (u : ℕ) (xs : List ℕ) → IsIn u xs → length (without u xs) < length xs
without_less u [] stands = absurd stands
without_less u (x ∷ xs) stands = elim (cases_eq x u) [
  | inl e ↦ let rest = without_at_most u xs in rw (eq-eqb x u e) (omega (arith, rest))
  | inr ne ↦ elim stands [
    | inl e ↦ absurd (ne (sym e))
    | inr later ↦ let rest = without_less u xs later in rw (ne_eqb x u ne) (omega (arith, rest))
  ]
]

kept : (u y : ℕ) (xs : List ℕ) → IsIn y xs → y ≢ u → IsIn y (without u xs)
kept u y [] stands ne = stands
kept u y (x ∷ xs) stands ne = elim (cases_eq x u) [
  | inl e ↦ rw (eq-eqb x u e) (elim stands [ inl same ↦ absurd (ne (same ∙ e)) | inr later ↦ kept u y xs later ne ])
  | inr other ↦ rw (ne_eqb x u other) (elim stands [ inl same ↦ inl same | inr later ↦ inr (kept u y xs later ne) ])
]

-- ---- behind the last time that a walk comes by u
abbrev Later : ℕ → (ℕ → Type 0) → ℕ → Type 0
Later u P x = P x × (x ≢ u)

abbrev Tail : ℕ → List (Option ℕ) → ℕ → ℕ → (ℕ → Type 0) → Type 0
Tail n ws u v P = (zs : List ℕ) × LeadsTo n ws u zs v × EachOf (Later u P) zs

last_time : (n : ℕ) (ws : List (Option ℕ)) (u s v : ℕ) (P : ℕ → Type 0) (xs : List ℕ) → LeadsTo n ws s xs v → EachOf P xs → Tail n ws u v P ⊎ EachOf (Later u P) xs
last_time n ws u s v P [] leads all = inr tt
last_time n ws u s v P (x ∷ xs) leads all = elim (last_time n ws u x v P xs leads.1 all.1) [
  | inl tail ↦ inl tail
  | inr clean ↦ elim (cases_eq x u) [
    | inl e ↦ inl (xs, subst (λ y. LeadsTo n ws y xs v) e leads.1, clean)
    | inr ne ↦ inr ((all.0, ne), clean)
  ]
]

tail_of : (n : ℕ) (ws : List (Option ℕ)) (u v : ℕ) (P : ℕ → Type 0) (xs : List ℕ) → LeadsTo n ws u xs v → EachOf P xs → Tail n ws u v P
tail_of n ws u v P xs leads all = elim (last_time n ws u u v P xs leads all) [
  | inl tail ↦ tail
  | inr clean ↦ (xs, leads, clean)
]

-- ---- a walk of fewer edges than there are vertices to come by
abbrev pub Short : ℕ → List (Option ℕ) → ℕ → ℕ → ℕ → Type 0
Short n ws u v k = (ys : List ℕ) × LeadsTo n ws u ys v × (length ys < k)

pub shorten : (n : ℕ) (ws : List (Option ℕ)) (k : ℕ) (open' : List ℕ) (u v : ℕ) (xs : List ℕ) → length open' ≤ k → IsIn u open' → EachOf (λ x. IsIn x open') xs → LeadsTo n ws u xs v → Short n ws u v k
shorten n ws zero open' u v xs few stands all leads = let less = without_less u open' stands in absurd (omega (arith, less))
shorten n ws (suc k) open' u v xs few stands all leads = onward n ws k open' u v few stands (tail_of n ws u v (λ x. IsIn x open') xs leads all)
    (λ x zs h near rest. shorten n ws k (without u open') x v zs h near rest)
  where
    onward : (n : ℕ) (ws : List (Option ℕ)) (k : ℕ) (open' : List ℕ) (u v : ℕ) → length open' ≤ suc k → IsIn u open' → Tail n ws u v (λ x. IsIn x open')
        → ((x : ℕ) (zs : List ℕ) → length (without u open') ≤ k → IsIn x (without u open') → EachOf (λ y. IsIn y (without u open')) zs → LeadsTo n ws x zs v → Short n ws x v k)
        → Short n ws u v (suc k)
    onward n ws k open' u v few stands ([], leads, clean) shorter = ([], leads, omega arith)
    onward n ws k open' u v few stands (x ∷ zs, leads, clean) shorter =
        let less = without_less u open' stands in
        let near : IsIn x (without u open') = kept u x open' clean.0.0 clean.0.1 in
        let rest : EachOf (λ y. IsIn y (without u open')) zs = each_as (Later u (λ y. IsIn y open')) (λ y. IsIn y (without u open')) (λ y h. kept u y open' h.0 h.1) zs clean.1 in
        let short = shorter x zs (omega (arith, less)) near rest leads.1 in
        (x ∷ short.0, (leads.0, short.1), (let less' : length short.0 < k = short.2 in omega arith))
