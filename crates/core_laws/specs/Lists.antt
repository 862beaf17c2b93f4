-- What the two lists of a closed core hold.
use Rattle.std.specs.Prelude.{◌≡◌, ℕ, ◌-◌, ◌<◌, ◌≤◌, true, false, cond, eqb, List}
use Rattle.core_state.specs.Graph.{Graph, Setting, Reached, greatest_life}
use Rattle.core_state.specs.Counts.{count}
use Rattle.core_state.specs.Tests.{key_named, is_replaced, is_replaced_for}
use Rattle.core_state.specs.Laws.{IsGrounded, ReplacedOnce, Shown}
use Rattle.core_steps.specs.Table.{is_root_replaced}
use Rattle.graph_model.specs.declared.record.Cause.{Cause}
use Rattle.graph_model.specs.declared.record.Record.{Record}

-- no record of the list is of the root
abbrev pub AreOfTasks : Graph → List Record → Type 0
AreOfTasks g xs = count (λ x. eqb g.root (key_named x)) xs ≡ 0

-- the list has replacements of the root alone, of each life at most one, of no life 0 and of none from the root's greatest on, and with a life each one before it
pub record RootReplaced (g : Graph) (rs : List Record) : Type 0 where
  pub only : count (λ x. cond (is_root_replaced g.root x) false true) rs ≡ 0
  pub once : ReplacedOnce g (λ p. count p rs)
  pub some_life : count (is_replaced g.root 0) rs ≡ 0
  pub last : (l : ℕ) → 65535 ≤ l → count (is_replaced g.root l) rs ≡ 0
  pub before : (l : ℕ) → 1 < l → 0 < count (is_replaced g.root l) rs → 0 < count (is_replaced g.root (l - 1)) rs

-- the cause of each replacement of the root is shown by the records of tasks
pub record RootShown (g : Graph) (xs rs : List Record) : Type 0 where
  pub shown : (l : ℕ) (c : Cause) → 0 < count (is_replaced_for g.root l c) rs → Shown g (λ p. count p xs) (IsGrounded g xs) g.root l c

-- a life that is suspected: the root depends on its key, its cause is shown by the records of tasks, it is at most the greatest, and where it is the root's, each life before it was replaced once
pub record SuspectShown (e : Setting) (xs rs : List Record) (k l : ℕ) (c : Cause) : Type 0 where
  pub reached : Reached e.graph k
  pub shown : Shown e.graph (λ p. count p xs) (IsGrounded e.graph xs) k l c
  pub some_life : 0 < l
  pub most : l ≤ greatest_life e k
  pub root : k ≡ e.graph.root → (m : ℕ) → 0 < m → m < l → count (is_replaced e.graph.root m) rs ≡ 1
