-- One writer for each version.
use Rattle.std.proofs.Common.{◌≡◌, ◌∙◌, ℕ, ◌+◌, ◌-◌, ◌<◌, ◌≤◌, List, length, ap, sym, subst, arith, count_by, inl, inr, ◌⊎◌}
use Rattle.std.proofs.lemmas.Bool.{cases_lt}
use Rattle.std.proofs.lemmas.Option.{slice_get_within}
use Rattle.raw_graph.specs.declared.raw.RawTask.{RawTask}
use Rattle.audit_checks.specs.Accepted.{HasOneWriter}
use Rattle.audit_checks.specs.Faults.{IsLeastPair, HasTwoWriters}
use Rattle.audit_blocks.specs.declared.written.Written.{Written}
use Rattle.audit_blocks.specs.Versions.{at, tells, AreWritten, Below, UpTo, IsOrdered, IsRising}
use Rattle.audit_blocks.proofs.Counts.{count_twice, count_once}
use Rattle.audit_blocks.proofs.Places.{get_at, at_get, tells_true, tells_is}

-- the neighbours before place n are in order
pub record IsApart (ws : List Written) (n : ℕ) : Type 0 where
  pub apart : (j : ℕ) → 0 < j → j < n → Below (at ws (j - 1)) (at ws j)

below_after : (x y z : Written) → UpTo x y → Below y z → Below x z
below_after x y z a b = grind arith

pub rises_to : (ws : List Written) (n : ℕ) → IsOrdered ws → IsApart ws n → (i j : ℕ) → i < j → j < n → j < length ws → Below (at ws i) (at ws j)
rises_to ws n up apart i j less early inside =
    below_after (at ws i) (at ws (j - 1)) (at ws j) (up.up i (j - 1) (omega arith) (omega arith)) (apart.apart j (omega arith) early)

pub still_below : (x y : Written) → UpTo x y → (x.block ≡ y.block → x.version ≡ y.version → ⊥) → Below x y
still_below x y a other = elim a [
  | inl less ↦ inl less
  | inr same ↦ elim (cases_lt x.version y.version) [ inl less ↦ inr (same.0, less) | inr more ↦ absurd (other same.0 (omega arith)) ]
]

pub apart_more : (ws : List Written) (i : ℕ) (x y : Written) → IsOrdered ws → IsApart ws i → 0 < i → i < length ws → at ws (i - 1) ≡ x → at ws i ≡ y
    → (x.block ≡ y.block → x.version ≡ y.version → ⊥) → IsApart ws (i + 1)
apart_more ws i x y up apart some inside before here other = record {
  apart = λ j low high. elim (cases_lt j i) [
    | inl early ↦ apart.apart j low early
    | inr late ↦
        let e : i ≡ j = omega arith in
        subst (λ n. Below (at ws (n - 1)) (at ws n)) e (still_below (at ws (i - 1)) (at ws i) (up.up (i - 1) i (omega arith) inside)
        (λ p q. other (ap (λ w. w.block) (sym before) ∙ (p ∙ ap (λ w. w.block) here)) (ap (λ w. w.version) (sym before) ∙ (q ∙ ap (λ w. w.version) here))))
  ];
}

pub rising : (ws : List Written) (n : ℕ) → IsOrdered ws → IsApart ws n → length ws ≤ n → IsRising ws
rising ws n up apart all = record { rises = λ i j less inside. rises_to ws n up apart i j less (omega arith) inside }

pub not_below_itself : (x y : Written) (b v : ℕ) → Below x y → x.block ≡ b → x.version ≡ v → y.block ≡ b → y.version ≡ v → ⊥
not_below_itself x y b v less p q r s = elim less [ inl l ↦ omega arith | inr l ↦ omega (arith, l.1) ]

not_from : (x y : Written) (b v : ℕ) → UpTo x y → (b < x.block) ⊎ ((b ≡ x.block) × (v < x.version)) → y.block ≡ b → y.version ≡ v → ⊥
not_from x y b v up low p q = elim up [
  | inl l ↦ elim low [ inl m ↦ omega arith | inr m ↦ omega (arith, m.0) ]
  | inr l ↦ elim low [ inl m ↦ omega (arith, l.0) | inr m ↦ omega (arith, l.1, m.1) ]
]

once_before : (ws : List Written) (i c w : ℕ) → IsOrdered ws → IsApart ws i → i < length ws → (c < (at ws i).block) ⊎ ((c ≡ (at ws i).block) × (w < (at ws i).version))
    → count_by (tells c w) ws ≤ 1
once_before ws i c w up apart inside low = count_once (tells c w) ws (λ k l x z less here there p q.
    let a = at_get ws k x here in
    let b = at_get ws l z there in
    let pa = tells_is c w x p in
    let pb = tells_is c w z q in
    let l_in : l < length ws = slice_get_within ws l z there in
    elim (cases_lt l i) [
      | inl early ↦ not_below_itself (at ws k) (at ws l) c w (rises_to ws i up apart k l less early l_in)
          (ap (λ e. e.block) a ∙ pa.0) (ap (λ e. e.version) a ∙ pa.1) (ap (λ e. e.block) b ∙ pb.0) (ap (λ e. e.version) b ∙ pb.1)
      | inr late ↦ not_from (at ws i) (at ws l) c w (up.up i l late l_in) low (ap (λ e. e.block) b ∙ pb.0) (ap (λ e. e.version) b ∙ pb.1)
    ])

pub twice_fault : (ts : List RawTask) (ws : List Written) (i : ℕ) (x y : Written) → AreWritten ts ws → IsOrdered ws → IsApart ws i → 0 < i → i < length ws
    → at ws (i - 1) ≡ x → at ws i ≡ y → x.block ≡ y.block → x.version ≡ y.version → IsLeastPair (HasTwoWriters ts) y.block y.version
twice_fault ts ws i x y are up apart some inside before here block version =
    let b : (at ws i).block ≡ y.block = ap (λ w. w.block) here in
    let v : (at ws i).version ≡ y.version = ap (λ w. w.version) here in record {
      holds = omega (
        arith,
        are.counted y.block y.version,
        count_twice (tells y.block y.version) ws (i - 1) i (at ws (i - 1)) (at ws i) (omega arith) (get_at ws (i - 1) (omega arith)) (get_at ws i inside)
            (tells_true y.block y.version (at ws (i - 1)) (ap (λ w. w.block) before ∙ block) (ap (λ w. w.version) before ∙ version)) (tells_true y.block y.version (at ws i) b v),
      );
      least_block = λ c w less twice. omega (arith, are.counted c w, once_before ws i c w up apart inside (inl (omega arith)), twice);
      least_version = λ w less twice. omega (arith, are.counted y.block w, once_before ws i y.block w up apart inside (inr (sym b, omega arith)), twice);
    }

pub has_one : (ts : List RawTask) (ws : List Written) → AreWritten ts ws → IsRising ws → HasOneWriter ts
has_one ts ws are up b v = omega (
  arith,
  are.counted b v,
  count_once (tells b v) ws (λ k l x z less here there p q.
      let a = at_get ws k x here in
      let c = at_get ws l z there in
      let pa = tells_is b v x p in
      let pc = tells_is b v z q in
      not_below_itself (at ws k) (at ws l) b v (up.rises k l less (slice_get_within ws l z there))
      (ap (λ e. e.block) a ∙ pa.0) (ap (λ e. e.version) a ∙ pa.1) (ap (λ e. e.block) c ∙ pc.0) (ap (λ e. e.version) c ∙ pc.1)),
)
