-- Writers that name the ones before them.
use Rattle.std.proofs.Common.{◌≡◌, ◌∙◌, ℕ, ◌+◌, ◌-◌, ◌<◌, true, List, length, refl, ap, sym, subst, arith, Contains, inl, inr}
use Rattle.std.proofs.lemmas.Bool.{cases_lt}
use Rattle.raw_graph.specs.declared.raw.RawTask.{RawTask}
use Rattle.audit_checks.specs.Tasks.{Writes, key_of, places_of}
use Rattle.audit_checks.specs.Accepted.{HasOrderedWriters}
use Rattle.audit_checks.specs.Faults.{IsLeastPair, LacksOrder}
use Rattle.audit_blocks.specs.declared.written.Written.{Written}
use Rattle.audit_blocks.specs.Versions.{at, AreWritten, Below, IsRising, SameBlock, IsWhole}
use Rattle.audit_blocks.specs.Edges.{TellsPlaces, names_in, IsInTurnTo, IsInTurn}
use Rattle.audit_blocks.proofs.Places.{IsFound, found, stated_at, writes_at}
use Rattle.audit_blocks.proofs.Gaps.{below_same, below_block, earlier}
use Rattle.audit_blocks.proofs.EdgeLemmas.{named_contains, contains_named}

-- the next version stands at the next place
pub next_place : (ws : List Written) (i j b v : ℕ) → IsRising ws → i < length ws → j < length ws → (at ws i).block ≡ b → (at ws i).version ≡ v
    → (at ws j).block ≡ b → (at ws j).version ≡ v + 1 → j ≡ i + 1
next_place ws i j b v up i_in j_in ib iv jb jv = elim (cases_lt i j) [
  | inl less ↦ elim (cases_lt (i + 1) j) [
    | inl more ↦
        let x : Below (at ws i) (at ws (i + 1)) = up.rises i (i + 1) (omega arith) (omega arith) in
        let y : Below (at ws (i + 1)) (at ws j) = up.rises (i + 1) j more j_in in
        let bx = below_block (at ws i) (at ws (i + 1)) x in
        let bys = below_block (at ws (i + 1)) (at ws j) y in
        let sx : (at ws i).block ≡ (at ws (i + 1)).block = omega arith in
        let sy : (at ws (i + 1)).block ≡ (at ws j).block = omega arith in
        absurd (omega (arith, below_same (at ws i) (at ws (i + 1)) x sx, below_same (at ws (i + 1)) (at ws j) y sy))
    | inr near ↦ omega arith
  ]
  | inr late ↦ elim (cases_lt j i) [
    | inl less ↦ absurd (omega (arith, below_same (at ws j) (at ws i) (up.rises j i less i_in) (jb ∙ sym ib)))
    | inr same ↦ let e : j ≡ i = omega arith in absurd (omega (arith, ap (λ n. (at ws n).version) e))
  ]
]

-- the places of two versions, one after the other
pub record ArePlaces (ts : List RawTask) (ws : List Written) (s t : RawTask) (b v : ℕ) : Type 0 where
  pub first : IsFound ts ws s b v
  pub second : IsFound ts ws t b (v + 1)
  pub same : SameBlock ws second.place
  pub writer : (at ws (second.place - 1)).writer ≡ first.writer

pub places_found : (ts : List RawTask) (ws : List Written) (s t : RawTask) (b v : ℕ) → AreWritten ts ws → IsRising ws → Writes ts s b v → Writes ts t b (v + 1) → ArePlaces ts ws s t b v
places_found ts ws s t b v are up ws' wt =
    let f = found ts ws s b v are ws' in
    let g = found ts ws t b (v + 1) are wt in
    let e : g.place ≡ f.place + 1 = next_place ws f.place g.place b v up f.inside g.inside f.block f.version g.block g.version in
    let before : g.place - 1 ≡ f.place = omega arith in record {
      first = f;
      second = g;
      same = (omega arith, ap (λ n. (at ws n).block) before ∙ (f.block ∙ sym g.block));
      writer = ap (λ n. (at ws n).writer) before ∙ f.writer_is;
    }

-- a lower version of the block stands before place i
before_version : (ws : List Written) (i j : ℕ) → IsRising ws → i < length ws → j < length ws → (at ws j).block ≡ (at ws i).block → (at ws j).version < (at ws i).version → j < i
before_version ws i j up inside j_in same less = elim (cases_lt j i) [
  | inl early ↦ early
  | inr late ↦ elim (cases_lt i j) [
    | inl later ↦ absurd (omega (arith, below_same (at ws i) (at ws j) (up.rises i j later j_in) (sym same)))
    | inr here ↦ let e : j ≡ i = omega arith in absurd (omega (arith, ap (λ n. (at ws n).version) e))
  ]
]

turn_named : (ts : List RawTask) (keys : List ℕ) (ws : List Written) (rows : List (List (ℕ × ℕ))) (n : ℕ) (s t : RawTask) (b v : ℕ) → TellsPlaces ts keys rows → IsInTurnTo ws rows n
    → (p : ArePlaces ts ws s t b v) → p.second.place < n → Contains (places_of t) (key_of s)
turn_named ts keys ws rows n s t b v tp turn p early =
    let named = turn.names p.second.place early p.same in
    named_contains ts keys rows p.second.writer p.first.writer t s tp p.second.stands p.first.stands
    (subst (λ m. names_in rows m p.first.writer ≡ true) p.second.writer_is (subst (λ m. names_in rows (at ws p.second.place).writer m ≡ true) p.writer named))

pub has_ordered : (ts : List RawTask) (keys : List ℕ) (ws : List Written) (rows : List (List (ℕ × ℕ))) → AreWritten ts ws → TellsPlaces ts keys rows → IsRising ws → IsInTurn ws rows
    → HasOrderedWriters ts
has_ordered ts keys ws rows are tp up turn s t b v ws' wt =
    let p = places_found ts ws s t b v are up ws' wt in turn_named ts keys ws rows (length ws) s t b v tp turn p p.second.inside

pub order_fault : (ts : List RawTask) (keys : List ℕ) (ws : List Written) (rows : List (List (ℕ × ℕ))) (i : ℕ) → AreWritten ts ws → TellsPlaces ts keys rows → IsRising ws → IsWhole ws
    → IsInTurnTo ws rows i → i < length ws → SameBlock ws i → (names_in rows (at ws i).writer (at ws (i - 1)).writer ≡ true → ⊥)
    → IsLeastPair (LacksOrder ts) (at ws (i - 1)).block (at ws (i - 1)).version
order_fault ts keys ws rows i are tp up whole turn inside same apart =
    let low : i - 1 < length ws = omega arith in
    let next : (at ws i).version ≡ (at ws (i - 1)).version + 1 = whole.next i (at ws (i - 1)).version inside (inl (same, refl)) in
    let s = stated_at ts ws (i - 1) are low in
    let t = stated_at ts ws i are inside in record {
      holds = record {
        first = s.task;
        second = t.task;
        writes_first = writes_at ts ws (i - 1) are low;
        writes_second = subst (λ v. Writes ts t.task (at ws (i - 1)).block v) next (subst (λ b. Writes ts t.task b (at ws i).version) (sym same.1) (writes_at ts ws i are inside));
        apart = λ has. apart (contains_named ts keys rows (at ws i).writer (at ws (i - 1)).writer t.task s.task tp t.stands s.stands has);
      };
      least_block = λ c w less lacks.
          let p = places_found ts ws lacks.first lacks.second c w are up lacks.writes_first lacks.writes_second in
          lacks.apart (turn_named ts keys ws rows i lacks.first lacks.second c w tp turn p
          (earlier ws i p.second.place up inside p.second.inside (omega (arith, p.second.block, same.1))));
      least_version = λ w less lacks.
          let p = places_found ts ws lacks.first lacks.second (at ws (i - 1)).block w are up lacks.writes_first lacks.writes_second in
          lacks.apart (turn_named ts keys ws rows i lacks.first lacks.second (at ws (i - 1)).block w tp turn p
          (before_version ws i p.second.place up inside p.second.inside (p.second.block ∙ same.1) (omega (arith, p.second.version, next))));
    }

pub turn_more : (ws : List Written) (rows : List (List (ℕ × ℕ))) (i : ℕ) → IsInTurnTo ws rows i → (SameBlock ws i → names_in rows (at ws i).writer (at ws (i - 1)).writer ≡ true)
    → IsInTurnTo ws rows (i + 1)
turn_more ws rows i turn here = record {
  names = λ j early same. elim (cases_lt j i) [
    | inl less ↦ turn.names j less same
    | inr late ↦
        let e : i ≡ j = omega arith in
        subst (λ n. names_in rows (at ws n).writer (at ws (n - 1)).writer ≡ true) e (here (subst (SameBlock ws) (sym e) same))
  ];
}
