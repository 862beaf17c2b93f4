-- The laws of records, as counts: of a list, or of all views together.
use Rattle.std.specs.Prelude.{◌≡◌, ◌≢◌, ◌⊎◌, ℕ, zero, suc, ◌+◌, ◌-◌, ◌/◌, ◌<◌, ◌≤◌, Bool, true, false, cond, ◌&&◌, nat_lt, eqb, List, length}
use Rattle.core_state.specs.Graph.{Graph, Plan, Reached, Reads}
use Rattle.graph_model.specs.declared.plan.Strike.{Strike}
use Rattle.core_state.specs.Counts.{count}
use Rattle.core_state.specs.Tests.{two, is_created, is_spent, is_computed, is_written, is_version, is_later_version, is_miswritten, is_closed, is_closing, is_any_struck, is_struck, is_struck_from, is_struck_upto, is_struck_version, is_misstruck, is_replaced, is_replaced_for, is_replaced_below, is_any_replaced, is_of, strikes_upto}
use Rattle.graph_model.specs.declared.record.Hit.{Hit}
use Rattle.graph_model.specs.declared.record.Hit.TheVariants as hit_of
use Rattle.graph_model.specs.declared.record.Found.TheVariants as found
use Rattle.graph_model.specs.declared.record.Cause.{Cause}
use Rattle.graph_model.specs.declared.record.Cause.TheVariants as cause
use Rattle.graph_model.specs.declared.plan.Point.TheVariants as point
use Rattle.graph_model.specs.declared.plan.Target.TheVariants as target
use Rattle.graph_model.specs.declared.record.Record.{Record}
use Rattle.graph_model.specs.declared.record.Record.TheVariants as record_of

-- a place of the key: that of a predecessor, or the self place
abbrev pub IsPlace : Graph → ℕ → ℕ → Type 0
IsPlace g k j = (j < g.places k) ⊎ (j ≡ 40)

-- what the key writes, or reads as a data input
pub data Concerns (g : Graph) (k b v : ℕ) : Type 0 where
  own : g.block k ≡ b → g.version k ≡ v → Concerns g k b v
  input : Reads g k b v → Concerns g k b v

module _ (g : Graph) (many : (Record → Bool) → ℕ) where
  -- a chain of overwritten versions that ends at a landed strike
  pub data Grounded : Cause → Type 0 where
    descriptor : Grounded cause.Descriptor
    notify : Grounded cause.Notify
    struck : (b v w : ℕ) → Grounded (cause.Block b v (found.Struck w))
    newer : (b v u k l : ℕ) (c : Cause) → v < u → k ≢ g.root → Reads g k b v → 0 < many (is_replaced_for k l c) → Grounded c → Grounded (cause.Block b v (found.Other u))
    older : (b v u l : ℕ) (c : Cause) → u < v → 0 < many (is_replaced_for (g.writer b u) l c) → Grounded c → Grounded (cause.Block b v (found.Other u))

  -- the cause of a replacement is shown by records
  module _ (grounded : Cause → Type 0) where
    -- records show that the life of k had this cause to be replaced
    pub data Shown (k l : ℕ) : Cause → Type 0 where
      descriptor : 0 < many (is_struck k l hit_of.Descriptor) → Shown k l cause.Descriptor
      notify : (w : ℕ) → 0 < many (is_struck k l (hit_of.Notify w)) → Shown k l cause.Notify
      struck : (b v : ℕ) → Concerns g k b v → 0 < many (is_struck_version b v) → Shown k l (cause.Block b v (found.Struck v))
      other : (b v u : ℕ) → Concerns g k b v → u ≢ v → 0 < many (is_version b u) → grounded (cause.Block b v (found.Other u)) → Shown k l (cause.Block b v (found.Other u))

    -- each replacement has a shown cause
    pub record CausesShown : Type 0 where
      pub shown : (k l : ℕ) (c : Cause) → 0 < many (is_replaced_for k l c) → Shown k l c

  -- each place of a life is spent at most once, and is a place of the key
  pub record SpentOnce : Type 0 where
    pub once : (k l j : ℕ) → many (is_spent k l j) ≤ 1
    pub is_place : (k l j : ℕ) → 0 < many (is_spent k l j) → IsPlace g k j

  -- a result is made once, with all places spent; then written once, at its own place; then each word is closed at most once
  pub record ComputedOnce : Type 0 where
    pub computed_once : (k l : ℕ) → many (is_computed k l) ≤ 1
    pub computed_ready : (k l j : ℕ) → 0 < many (is_computed k l) → IsPlace g k j → 0 < many (is_spent k l j)
    pub written_once : (k l : ℕ) → many (is_written k l) ≤ 1
    pub written_place : many (is_miswritten g) ≡ 0
    pub written_computed : (k l : ℕ) → 0 < many (is_written k l) → 0 < many (is_computed k l)
    pub closed_once : (k l w : ℕ) → many (is_closed k l w) ≤ 1
    pub closed_word : (k l w : ℕ) → 0 < many (is_closed k l w) → w < g.notify_words k
    pub closed_written : (k l w : ℕ) → 0 < many (is_closed k l w) → 0 < many (is_written k l)

  -- each life is replaced at most once
  pub record ReplacedOnce : Type 0 where
    pub once : (k l : ℕ) → many (is_replaced k l) ≤ 1

  -- a record of a later life stands only where the life before was replaced; the key of a record has one row that was made, and the root depends on it
  pub record LivesNamed : Type 0 where
    pub replaced_before : (k l : ℕ) → 1 < l → 0 < many (is_of k l) → 0 < many (is_replaced k (l - 1))
    pub created_once : (k l : ℕ) → 0 < many (is_of k l) → many (is_created k) ≡ 1
    pub reached : (k l : ℕ) → 0 < many (is_of k l) → Reached g k

  -- a predecessor's place is spent only where the word of its edge was closed in some life
  pub record SpentByEdge : Type 0 where
    pub closed : (k l j : ℕ) → j < g.places k → 0 < many (is_spent k l j) → 0 < many (is_closing (g.pred k j).task ((g.pred k j).port / 40))

  -- of a run in which no strike landed, at its end
  pub record FaultFree : Type 0 where
    pub none_replaced : many is_any_struck ≡ 0 → many is_any_replaced ≡ 0
    pub each_computed : many is_any_struck ≡ 0 → (k : ℕ) → k ≢ g.root → Reached g k → many (is_computed k 1) ≡ 1
    pub only_computed : many is_any_struck ≡ 0 → (k l : ℕ) → 0 < many (is_computed k l) → (l ≡ 1) × Reached g k

-- The rounds in which replacements of a list are grounded, one chain longer in each.
abbrev pub reads_upto : Graph → ℕ → ℕ → ℕ → ℕ → Bool
reads_upto g k b v zero = false
reads_upto g k b v (suc i) = cond (two b v (g.block (g.pred k i).task) (g.version (g.pred k i).task)) true (reads_upto g k b v i)

-- a replacement with a grounded cause that accounts for version u where v was wanted
abbrev pub grounds : Graph → ℕ → ℕ → ℕ → (Cause → Bool) → Record → Bool
grounds g b v u ok (record_of.Replaced key life c) = cond (nat_lt v u) (reads_upto g key.0 b v (g.inputs key.0)) (nat_lt u v && eqb key.0 (g.writer b u)) && ok c
grounds g b v u ok _ = false

-- the cause is grounded by at most n - 1 replacements, one after the other
unfoldable pub grounded_upto : Graph → List Record → ℕ → Cause → Bool
grounded_upto g xs zero c = false
grounded_upto g xs (suc n) cause.Descriptor = true
grounded_upto g xs (suc n) cause.Notify = true
grounded_upto g xs (suc n) (cause.Block b v (found.Struck w)) = true
grounded_upto g xs (suc n) (cause.Block b v (found.Other u)) = nat_lt 0 (count (grounds g b v u (grounded_upto g xs n)) xs)

-- the cause is grounded by the records of the list
abbrev pub IsGrounded : Graph → List Record → Cause → Type 0
IsGrounded g xs c = grounded_upto g xs (length xs + 1) c ≡ true

-- the first six laws of a list, and all seven
pub record SixLaws (g : Graph) (xs : List Record) : Type 0 where
  pub spent : SpentOnce g (λ p. count p xs)
  pub computed : ComputedOnce g (λ p. count p xs)
  pub replaced : ReplacedOnce g (λ p. count p xs)
  pub causes : CausesShown g (λ p. count p xs) (IsGrounded g xs)
  pub lives : LivesNamed g (λ p. count p xs)
  pub edges : SpentByEdge g (λ p. count p xs)

-- all seven laws
pub record LawfulRecords (g : Graph) (xs : List Record) : Type 0 where
  pub six : SixLaws g xs
  pub fault_free : FaultFree g (λ p. count p xs)

-- Records play a plan: what landed was planned, and what was planned and passed had its effect.
module _ (g : Graph) (p : Plan) (many : (Record → Bool) → ℕ) where
  -- how many of the plan's first n strikes are on that target of the key with a life of at most l
  abbrev pub planned : ℕ → ℕ → Hit → ℕ → ℕ
  planned k l h zero = 0
  planned k l h (suc n) = planned k l h n + Rattle.core_state.specs.Counts.hit (strikes_upto p k l h n)

  -- the strikes that landed are no more than those planned, and a strike on a block names what its key writes
  pub record Planned : Type 0 where
    pub few : (k l : ℕ) (h : Hit) → many (is_struck_upto k l h) ≤ planned k l h p.count
    pub names_own : many (is_misstruck g) ≡ 0

  -- a strike on the block of k: the version was struck, or a higher one was written, or the writer of a lower one was replaced
  abbrev pub BlockStruck : ℕ → Type 0
  BlockStruck k = 0 < many (is_struck_version (g.block k) (g.version k)) + many (is_later_version (g.block k) (g.version k)) + many (is_replaced_below g (g.block k) (g.version k))

  -- all words of the life were closed
  abbrev pub AllClosed : ℕ → ℕ → Type 0
  AllClosed k l = (i : ℕ) → i < g.notify_words k → 0 < many (is_closed k l i)

  -- what a strike of the plan leads to
  pub record HasEffect (s : Strike) : Type 0 where
    pub explored_descriptor : s.point ≡ point.Explored → s.target ≡ target.Descriptor → s.life ≡ 1 → many (is_spent s.key.0 1 40) ≡ 0
    pub explored_notify : (w : ℕ) → s.point ≡ point.Explored → s.target ≡ target.Notify w → s.life ≡ 1 → many (is_closed s.key.0 1 w) ≡ 0
    pub ready_descriptor : s.point ≡ point.Ready → s.target ≡ target.Descriptor → many (is_computed s.key.0 s.life) ≡ 0
    pub ready_notify : (w : ℕ) → s.point ≡ point.Ready → s.target ≡ target.Notify w → many (is_closed s.key.0 s.life w) ≡ 0
    pub computed_notify : (w : ℕ) → s.point ≡ point.Computed → s.target ≡ target.Notify w → many (is_closed s.key.0 s.life w) ≡ 0
    pub computed_descriptor : s.point ≡ point.Computed → s.target ≡ target.Descriptor → 0 < many (is_closed s.key.0 s.life 0) → 0 < many (is_struck_from s.key.0 s.life hit_of.Descriptor)
    pub computed_block : s.point ≡ point.Computed → s.target ≡ target.Block → 0 < many (is_closed s.key.0 s.life 0) → BlockStruck s.key.0
    pub notified_descriptor : s.point ≡ point.Notified → s.target ≡ target.Descriptor → AllClosed s.key.0 s.life → 0 < many (is_struck_from s.key.0 s.life hit_of.Descriptor)
    pub notified_notify : (w : ℕ) → s.point ≡ point.Notified → s.target ≡ target.Notify w → w < g.notify_words s.key.0 → AllClosed s.key.0 s.life → 0 < many (is_struck_from s.key.0 s.life (hit_of.Notify w))
    pub notified_block : s.point ≡ point.Notified → s.target ≡ target.Block → AllClosed s.key.0 s.life → BlockStruck s.key.0

  -- the records play the plan
  pub record Played : Type 0 where
    pub planned : Planned
    pub effects : (n : ℕ) → n < p.count → HasEffect (p.strike n)
