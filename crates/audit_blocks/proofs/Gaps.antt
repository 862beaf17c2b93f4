-- Versions without a gap.
use Rattle.std.proofs.Common.{◌≡◌, ◌∙◌, ℕ, zero, suc, ◌+◌, ◌-◌, ◌<◌, ◌≤◌, List, length, refl, ap, sym, subst, arith, All, inl, inr}
use Rattle.std.proofs.lemmas.Bool.{cases_lt, cases_eq}
use Rattle.raw_graph.specs.declared.raw.RawTask.{RawTask}
use Rattle.audit_checks.specs.Tasks.{Writes}
use Rattle.audit_checks.specs.Accepted.{HasAllVersions}
use Rattle.audit_checks.specs.Faults.{IsLeastPair, LacksVersion}
use Rattle.audit_blocks.specs.declared.written.Written.{Written}
use Rattle.audit_blocks.specs.Versions.{entry, at, AreWritten, Below, IsRising, SameBlock, IsLast, IsWholeTo, IsWhole}
use Rattle.audit_blocks.proofs.Places.{found, stated_at, writes_at}

pub below_same : (x y : Written) → Below x y → x.block ≡ y.block → x.version < y.version
below_same x y less same = elim less [ inl l ↦ absurd (omega arith) | inr l ↦ l.1 ]

pub below_block : (x y : Written) → Below x y → x.block ≤ y.block
below_block x y less = elim less [ inl l ↦ omega arith | inr l ↦ omega (arith, l.0) ]

pub last_below : (ws : List Written) (i last : ℕ) → i < length ws → IsRising ws → All (λ w. 1 ≤ w.version) ws → IsLast ws i last → last < (at ws i).version
last_below ws i last inside up positive is = elim is [
  | inl a ↦ omega (arith, a.1, below_same (at ws (i - 1)) (at ws i) (up.rises (i - 1) i (omega (arith, a.0.0)) inside) a.0.1)
  | inr a ↦ omega (arith, a.1, positive i (entry 0 0 0) inside)
]

pub last_at : (ws : List Written) (i : ℕ) → (last : ℕ) × IsLast ws i last
last_at ws i = elim (cases_lt 0 i) [
  | inl some ↦ elim (cases_eq (at ws (i - 1)).block (at ws i).block) [
    | inl same ↦ ((at ws (i - 1)).version, inl ((some, same), refl))
    | inr apart ↦ (0, inr ((λ s. apart s.1), refl))
  ]
  | inr first ↦ (0, inr ((λ s. omega (arith, s.0)), refl))
]

one_last : (ws : List Written) (i m n : ℕ) → IsLast ws i m → IsLast ws i n → m ≡ n
one_last ws i m n a b = elim a [
  | inl x ↦ elim b [ inl y ↦ x.1 ∙ sym y.1 | inr y ↦ absurd (y.0 x.0) ]
  | inr x ↦ elim b [ inl y ↦ absurd (x.0 y.0) | inr y ↦ x.1 ∙ sym y.1 ]
]

-- a version up to the one at place i stands in its block
pub record IsBelow (ws : List Written) (i v : ℕ) : Type 0 where
  pub place : ℕ
  pub up_to : place ≤ i
  pub block : (at ws place).block ≡ (at ws i).block
  pub version : (at ws place).version ≡ v

from_before : (ws : List Written) (i v : ℕ) → SameBlock ws (suc i) → IsBelow ws i v → IsBelow ws (suc i) v
from_before ws i v same b =
    let e : suc i - 1 ≡ i = omega arith in
    record { place = b.place; up_to = omega (arith, b.up_to); block = b.block ∙ (sym (ap (λ n. (at ws n).block) e) ∙ same.1); version = b.version }

pub whole_down : (ws : List Written) (n i v : ℕ) → IsWholeTo ws n → i < n → 1 ≤ v → v ≤ (at ws i).version → IsBelow ws i v
whole_down ws n zero v whole inside some le =
    let last = last_at ws 0 in
    let next = whole.next 0 last.0 inside last.1 in
    elim last.1 [
      | inl a ↦ absurd (omega (arith, a.0.0))
      | inr a ↦ record { place = 0; up_to = omega arith; block = refl; version = omega (arith, next, a.1) }
    ]
whole_down ws n (suc i) v whole inside some le = elim (cases_eq (at ws (suc i)).version v) [
  | inl same ↦ record { place = suc i; up_to = omega arith; block = refl; version = same }
  | inr apart ↦
      let last = last_at ws (suc i) in
      let next = whole.next (suc i) last.0 inside last.1 in
      elim last.1 [
        | inl a ↦
            let e : suc i - 1 ≡ i = omega arith in
            from_before ws i v a.0 (whole_down ws n i v whole (omega arith) some (omega (arith, next, a.1, ap (λ m. (at ws m).version) e)))
        | inr a ↦ absurd (omega (arith, next, a.1))
      ]
]

-- between the last version and the one at place i there is none
pub no_between : (ws : List Written) (i last v : ℕ) → IsRising ws → i < length ws → IsLast ws i last → last < v → v < (at ws i).version
    → (j : ℕ) → j < length ws → (at ws j).block ≡ (at ws i).block → (at ws j).version ≡ v → ⊥
no_between ws i last v up inside is low high j j_in block version = elim (cases_lt j i) [
  | inl early ↦
      let near : Below (at ws (i - 1)) (at ws i) = up.rises (i - 1) i (omega arith) inside in
      elim (cases_lt j (i - 1)) [
        | inl earlier ↦
            let far : Below (at ws j) (at ws (i - 1)) = up.rises j (i - 1) earlier (omega arith) in
            let same : (at ws (i - 1)).block ≡ (at ws i).block = omega (arith, below_block (at ws (i - 1)) (at ws i) near, below_block (at ws j) (at ws (i - 1)) far) in
            elim is [
              | inl a ↦ omega (arith, a.1, below_same (at ws j) (at ws (i - 1)) far (block ∙ sym same))
              | inr a ↦ a.0 (omega arith, same)
            ]
        | inr there ↦
            let e : j ≡ i - 1 = omega arith in
            let same : (at ws (i - 1)).block ≡ (at ws i).block = sym (ap (λ n. (at ws n).block) e) ∙ block in
            elim is [
              | inl a ↦ omega (arith, a.1, ap (λ n. (at ws n).version) e)
              | inr a ↦ a.0 (omega arith, same)
            ]
      ]
  | inr late ↦ elim (cases_lt i j) [
    | inl later ↦ omega (arith, below_same (at ws i) (at ws j) (up.rises i j later j_in) (sym block))
    | inr here ↦ let e : j ≡ i = omega arith in omega (arith, ap (λ n. (at ws n).version) e)
  ]
]

-- a written block below that of place i stands before it
pub earlier : (ws : List Written) (i j : ℕ) → IsRising ws → i < length ws → j < length ws → (at ws j).block < (at ws i).block → j < i
earlier ws i j up inside j_in less = elim (cases_lt j i) [
  | inl early ↦ early
  | inr late ↦ elim (cases_lt i j) [
    | inl later ↦ absurd (omega (arith, below_block (at ws i) (at ws j) (up.rises i j later j_in)))
    | inr here ↦ let e : j ≡ i = omega arith in absurd (omega (arith, ap (λ n. (at ws n).block) e))
  ]
]

-- a task writes what stands below a place
below_writes : (ts : List RawTask) (ws : List Written) (i b v : ℕ) → AreWritten ts ws → i < length ws → (at ws i).block ≡ b → IsBelow ws i v → (t : RawTask) × Writes ts t b v
below_writes ts ws i b v are inside block is =
    let j_in : is.place < length ws = omega (arith, is.up_to) in (
      (stated_at ts ws is.place are j_in).task,
      subst (λ c. Writes ts (stated_at ts ws is.place are j_in).task c v) (is.block ∙ block)
          (subst (λ w. Writes ts (stated_at ts ws is.place are j_in).task (at ws is.place).block w) is.version (writes_at ts ws is.place are j_in)),
    )

pub gap_fault : (ts : List RawTask) (ws : List Written) (i last : ℕ) → AreWritten ts ws → IsRising ws → IsWholeTo ws i → i < length ws → IsLast ws i last
    → last + 1 < (at ws i).version → IsLeastPair (LacksVersion ts) (at ws i).block (last + 1)
gap_fault ts ws i last are up whole inside is gap = record {
  holds = record {
    some = omega arith;
    task = (stated_at ts ws i are inside).task;
    above = (at ws i).version;
    written = writes_at ts ws i are inside;
    below = gap;
    lacks = λ t w.
        let f = found ts ws t (at ws i).block (last + 1) are w in
        no_between ws i last (last + 1) up inside is (omega arith) gap f.place f.inside f.block f.version;
  };
  least_block = λ c w less lacks.
      let f = found ts ws lacks.task c lacks.above are lacks.written in
      let early : f.place < i = earlier ws i f.place up inside f.inside (omega (arith, f.block)) in
      let s = below_writes ts ws f.place c w are f.inside f.block (whole_down ws i f.place w whole early lacks.some (omega (arith, f.version, lacks.below))) in
      lacks.lacks s.0 s.1;
  least_version = λ w less lacks. elim is [
    | inl a ↦
        let s = below_writes ts ws (i - 1) (at ws i).block w are (omega arith) a.0.1 (whole_down ws i (i - 1) w whole (omega (arith, a.0.0)) lacks.some (omega (arith, a.1))) in
        lacks.lacks s.0 s.1
    | inr a ↦ omega (arith, a.1, lacks.some)
  ];
}

pub has_all : (ts : List RawTask) (ws : List Written) → AreWritten ts ws → IsWhole ws → HasAllVersions ts
has_all ts ws are whole t b v w writes some less =
    let f = found ts ws t b v are writes in
    below_writes ts ws f.place b w are f.inside f.block (whole_down ws (length ws) f.place w whole f.inside some (omega (arith, f.version)))

pub whole_more : (ws : List Written) (i last : ℕ) → IsWholeTo ws i → IsLast ws i last → (at ws i).version ≡ last + 1 → IsWholeTo ws (i + 1)
whole_more ws i last whole is next = record {
  next = λ j other inside is_last. elim (cases_lt j i) [
    | inl early ↦ whole.next j other early is_last
    | inr late ↦
        let e : j ≡ i = omega arith in
        let there : IsLast ws i other = subst (λ n. IsLast ws n other) e is_last in
        let same : other ≡ last = one_last ws i other last there is in
        ap (λ n. (at ws n).version) e ∙ (next ∙ ap (λ n. n + 1) (sym same))
  ];
}
