-- Checks in order: the first that fails decides.
use Rattle.std.proofs.Common.{◌≡◌, ◌⊎◌, ℕ, zero, suc, ◌+◌, ◌<◌, List, [], ◌∷◌, ◌++◌, length, take, get_or, Option, None, Some, decimal, refl, sym, ap, subst, inl, inr, arith, length-take}
use Rattle.std.proofs.lemmas.List.{take_more}
use Rattle.std.specs.Option.{option_or}
use Rattle.serde_json.specs.Data.{Data}
use Rattle.serde_json.specs.View.{view, items_view}
use Rattle.serde_json.specs.declared.value.Value.{Value}
use Rattle.graph_reader.specs.Checks.{Check, each}
use Rattle.graph_reader.specs.Content.{every}
use Rattle.graph_reader.specs.Faults.{within, first}
use Rattle.graph_reader.specs.declared.fault.TextFault.{TextFault}
use Rattle.graph_reader.specs.declared.fault.TextFault.TheVariants.{OutOfMemory}

-- checks that pass leave the answer to the later ones
pub passed : (check : Option TextFault) (checks : List (Option TextFault)) → check ≡ None → first (check ∷ checks) ≡ first checks
passed check checks none = rw none refl

-- one that fails decides, unless memory ran out
pub failed : (e : TextFault) (check : Option TextFault) (checks : List (Option TextFault)) → ((e ≡ OutOfMemory) ⊎ (check ≡ Some e))
    → (e ≡ OutOfMemory) ⊎ (first (check ∷ checks) ≡ Some e)
failed e check checks (inl memory) = inl memory
failed e check checks (inr fails) = inr (rw fails refl)

pub ruleset order = (passed, failed)

-- ---- the items of an array

pub or_none : (a b : Option TextFault) → option_or a b ≡ None → (a ≡ None) × (b ≡ None)
or_none None b none = (refl, none)
or_none (Some e) b none = absurd (cc)

or_passed : (a b : Option TextFault) → a ≡ None → b ≡ None → option_or a b ≡ None
or_passed a b p q = rw (p, q) refl

or_failed : (a b : Option TextFault) (e : TextFault) → a ≡ Some e → option_or a b ≡ Some e
or_failed a b e fails = rw fails refl

or_later : (a b : Option TextFault) (e : TextFault) → a ≡ None → b ≡ Some e → option_or a b ≡ Some e
or_later a b e none fails = rw (none, fails) refl

at_place : (check : Check Data) (k j : ℕ) (v w : Value) (r : Option TextFault) → j ≡ k → v ≡ w → within (decimal j) (check (view v)) ≡ r → within (decimal k) (check (view w)) ≡ r
at_place check k j v w r place same is = subst (λ u. within (decimal k) (check (view u)) ≡ r) same (subst (λ n. within (decimal n) (check (view v)) ≡ r) place is)

each_fails : (check : Check Data) (k : ℕ) (vs : List Value) (i : ℕ) (v : Value) (e : TextFault) → i < length vs → v ≡ get_or vs i v
    → each check k (items_view (take i vs)) ≡ None → within (decimal (k + i)) (check (view v)) ≡ Some e → each check k (items_view vs) ≡ Some e
each_fails check k [] i v e inside is before fails = absurd (omega arith)
each_fails check k (w ∷ vs) zero v e inside is before fails = or_failed _ _ e (at_place check k (k + 0) v w (Some e) (omega arith) is fails)
each_fails check k (w ∷ vs) (suc i) v e inside is before fails =
    let parts = or_none (within (decimal k) (check (view w))) (each check (suc k) (items_view (take i vs))) before in
    or_later _ _ e parts.0 (each_fails check (suc k) vs i v e (omega arith) is parts.1 (at_place check (suc k + i) (k + suc i) v v (Some e) (omega arith) refl fails))

each_push : (check : Check Data) (k : ℕ) (vs : List Value) (v : Value) → each check k (items_view vs) ≡ None
    → within (decimal (k + length vs)) (check (view v)) ≡ None → each check k (items_view (vs ++ v ∷ [])) ≡ None
each_push check k [] v before here = or_passed _ _ (at_place check k (k + 0) v v None (omega arith) refl here) refl
each_push check k (w ∷ vs) v before here =
    let parts = or_none (within (decimal k) (check (view w))) (each check (suc k) (items_view vs)) before in
    or_passed _ _ parts.0 (each_push check (suc k) vs v parts.1 (at_place check (suc k + length vs) (k + suc (length vs)) v v None (omega arith) refl here))

every_push : {X : Type 0} (content : Data → X) (vs : List Value) (v : Value) → every content (items_view (vs ++ v ∷ [])) ≡ every content (items_view vs) ++ content (view v) ∷ []
every_push content [] v = refl
every_push content (w ∷ vs) v = ap (λ xs. content (view w) ∷ xs) (every_push content vs v)

-- a loop over values has checked those before i, and found what they hold
abbrev pub IsChecked : {X : Type 0} → Check Data → (Data → X) → List Value → ℕ → List X → Type 0
IsChecked check content vs i xs = (each check 0 (items_view (take i vs)) ≡ None) × (xs ≡ every content (items_view (take i vs)))

pub checked_more : {X : Type 0} (check : Check Data) (content : Data → X) (vs : List Value) (i : ℕ) (v : Value) (xs : List X) (x : X)
    → i < length vs → v ≡ get_or vs i v → IsChecked check content vs i xs
    → (within (decimal i) (check (view v)) ≡ None) × (x ≡ content (view v)) → IsChecked check content vs (i + 1) (xs ++ x ∷ [])
checked_more check content vs i v xs x inside is before here =
    let place : i ≡ 0 + length (take i vs) = simp length-take (omega arith) in
    rw (take_more vs i v inside, ← is) (
      each_push check 0 (take i vs) v before.0 (at_place check (0 + length (take i vs)) i v v None place refl here.0),
      rw (before.1, here.1) (sym (every_push content (take i vs) v)),
    )

pub checked_fails : {X : Type 0} (check : Check Data) (content : Data → X) (vs : List Value) (i : ℕ) (v : Value) (xs : List X) (e : TextFault)
    → i < length vs → v ≡ get_or vs i v → IsChecked check content vs i xs
    → (e ≡ OutOfMemory) ⊎ (within (decimal i) (check (view v)) ≡ Some e) → (e ≡ OutOfMemory) ⊎ (each check 0 (items_view vs) ≡ Some e)
checked_fails check content vs i v xs e inside is before (inl memory) = inl memory
checked_fails check content vs i v xs e inside is before (inr fails) =
    inr (each_fails check 0 vs i v e inside is before.0 (at_place check (0 + i) i v v (Some e) (omega arith) refl fails))

-- ---- the six checks of a file

pub all_pass : (a b c d f g : Option TextFault) → a ≡ None → b ≡ None → c ≡ None → d ≡ None → f ≡ None → g ≡ None → first (a ∷ b ∷ c ∷ d ∷ f ∷ g ∷ []) ≡ None
all_pass a b c d f g pa pb pc pd pf pg = rw (pa, pb, pc, pd, pf, pg) refl

pub last_fails : (e : TextFault) (a b c d f g : Option TextFault) → a ≡ None → b ≡ None → c ≡ None → d ≡ None → f ≡ None → (e ≡ OutOfMemory) ⊎ (g ≡ Some e)
    → (e ≡ OutOfMemory) ⊎ (first (a ∷ b ∷ c ∷ d ∷ f ∷ g ∷ []) ≡ Some e)
last_fails e a b c d f g pa pb pc pd pf (inl memory) = inl memory
last_fails e a b c d f g pa pb pc pd pf (inr fails) = inr (rw (pa, pb, pc, pd, pf, fails) refl)
