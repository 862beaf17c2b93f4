-- The versions of block 0.
use Rattle.std.proofs.Common.{◌≡◌, ◌∙◌, ℕ, zero, suc, ◌+◌, ◌-◌, ◌<◌, ◌≤◌, [], ◌∷◌, ap, sym, subst, arith, Contains, Option, Some, None}
use Rattle.raw_graph.specs.Graph.{Task}
use Rattle.audit_blocks.proofs.Counts.{same_pair}
use Rattle.drill_input.specs.Drill.{second_back, third_back}
use Rattle.drill_input.proofs.Rows.{IsRow, first, later, start, next, last}
use Rattle.drill_input.proofs.Places.{places}

-- the version v of block 0 is written at place i
pub record IsWritten (i b v : ℕ) : Type 0 where
  pub block : b ≡ 0
  pub some : 1 ≤ v
  pub few : v ≤ 64
  pub place : i ≡ 8191 + v

none_written : (i b v : ℕ) (block : Option (ℕ × ℕ)) → block ≡ None → block ≡ Some (b, v) → IsWritten i b v
none_written i b v block none some = absurd (cc)

one_written : (i b v w : ℕ) (block : Option (ℕ × ℕ)) → block ≡ Some (0, w) → block ≡ Some (b, v) → 1 ≤ w → w ≤ 64 → i ≡ 8191 + w → IsWritten i b v
one_written i b v w block is written low high place =
    let pair = same_pair (0, w) (b, v) (sym is ∙ written) in
    record { block = omega (arith, pair.0); some = omega (arith, pair.1); few = omega (arith, pair.1); place = omega (arith, pair.1) }

pub block_row : (number i b v : ℕ) (x : Task) → IsRow number i x → x.block ≡ Some (b, v) → IsWritten i b v
block_row number i b v x (first low e) written = none_written i b v x.block (ap (λ (y : Task). y.block) e) written
block_row number i b v x (later low high e) written = none_written i b v x.block (ap (λ (y : Task). y.block) e) written
block_row number i b v x (start here e) written = one_written i b v 1 x.block (ap (λ (y : Task). y.block) e) written (omega arith) (omega arith) (omega arith)
block_row number i b v x (next low high e) written = one_written i b v (i - 8191) x.block (ap (λ (y : Task). y.block) e) written (omega arith) (omega arith) (omega arith)
block_row number i b v x (last here e) written = none_written i b v x.block (ap (λ (y : Task). y.block) e) written

pub row_block : (number i w : ℕ) (x : Task) → IsRow number i x → 1 ≤ w → w ≤ 64 → i ≡ 8191 + w → x.block ≡ Some (0, w)
row_block number i w x (first low e) some few place = absurd (omega arith)
row_block number i w x (later low high e) some few place = absurd (omega arith)
row_block number i w x (start here e) some few place = ap (λ (y : Task). y.block) e ∙ ap (λ (n : ℕ). Some (0, n)) (let h : 1 ≡ w = omega arith in h)
row_block number i w x (next low high e) some few place = ap (λ (y : Task). y.block) e ∙ ap (λ (n : ℕ). Some (0, n)) (let h : i - 8191 ≡ w = omega arith in h)
row_block number i w x (last here e) some few place = absurd (omega arith)

-- ---- elements of short lists

in_none : (p : ℕ) → ¬ Contains [] p
in_none p (k, inside, is) = absurd (omega arith)

pub in_one : (a p : ℕ) → Contains (a ∷ []) p → a ≡ p
in_one a p (zero, inside, is) = is
in_one a p (suc k, inside, is) = absurd (omega arith)

pub in_two : (a b p : ℕ) → Contains (a ∷ b ∷ []) p → (b ≡ p → ⊥) → a ≡ p
in_two a b p (zero, inside, is) other = is
in_two a b p (suc zero, inside, is) other = absurd (other is)
in_two a b p (suc (suc k), inside, is) other = absurd (omega arith)

pub in_three : (a b c p : ℕ) → Contains (a ∷ b ∷ c ∷ []) p → (b ≡ p → ⊥) → (c ≡ p → ⊥) → a ≡ p
in_three a b c p (zero, inside, is) u v = is
in_three a b c p (suc zero, inside, is) u v = absurd (u is)
in_three a b c p (suc (suc zero), inside, is) u v = absurd (v is)
in_three a b c p (suc (suc (suc k)), inside, is) u v = absurd (omega arith)

-- ---- who reads a version that is overwritten

-- the writer of the next version names the writer of this one
pub next_names : (number i v : ℕ) (x : Task) → IsRow number i x → 1 ≤ v → v < 64 → i ≡ 8192 + v → Contains (places x) (10000 + v)
next_names number i v x (first low e) some few place = absurd (omega arith)
next_names number i v x (later low high e) some few place = absurd (omega arith)
next_names number i v x (start here e) some few place = absurd (omega arith)
next_names number i v x (next low high e) some few place =
    subst (λ ps. Contains ps (10000 + v)) (sym (ap places e)) (0, omega arith, let h : 9999 + (i - 8191) ≡ 10000 + v = omega arith in h)
next_names number i v x (last here e) some few place = absurd (omega arith)

later_apart : (i d e p : ℕ) → i < 8192 → 10000 < p → ¬ Contains ((1 + i - 1) ∷ (1 + i - d) ∷ (1 + i - e) ∷ []) p
later_apart i d e p low high has =
    let same : 1 + i - 1 ≡ p = in_three (1 + i - 1) (1 + i - d) (1 + i - e) p has (λ h. omega arith) (λ h. omega arith) in omega arith

-- and no other task reads it
pub reads_row : (number i v : ℕ) (x : Task) → IsRow number i x → 1 ≤ v → v < 64 → Contains x.inputs (10000 + v) → i ≡ 8192 + v
reads_row number i v x (first low e) some few has = absurd (in_none (10000 + v) (subst (λ ps. Contains ps (10000 + v)) (ap (λ (y : Task). y.inputs) e) has))
reads_row number i v x (later low high e) some few has =
    absurd (later_apart i (second_back number (1 + i)) (third_back number (1 + i)) (10000 + v) high (omega arith) (subst (λ ps. Contains ps (10000 + v)) (ap (λ (y : Task). y.inputs) e) has))
reads_row number i v x (start here e) some few has = absurd (in_none (10000 + v) (subst (λ ps. Contains ps (10000 + v)) (ap (λ (y : Task). y.inputs) e) has))
reads_row number i v x (next low high e) some few has =
    let same : 9999 + (i - 8191) ≡ 10000 + v = in_one (9999 + (i - 8191)) (10000 + v) (subst (λ ps. Contains ps (10000 + v)) (ap (λ (y : Task). y.inputs) e) has) in omega arith
reads_row number i v x (last here e) some few has =
    let same : 8192 ≡ 10000 + v = in_two 8192 10064 (10000 + v) (subst (λ ps. Contains ps (10000 + v)) (ap (λ (y : Task). y.inputs) e) has) (λ h. omega arith) in absurd (omega arith)
