-- The lists of a work in hand.
use Rattle.std.specs.Prelude.{ℕ, List, ◌++◌, ◌∷◌, []}
use Rattle.audit_checks.specs.Rows.{rows_of}
use Rattle.audit_cycles.specs.Levels.{IsSound, IsSettled, unrest}
use Rattle.audit_cycles.specs.declared.levels.Levelling.{Levelling}

abbrev pub Sound : List (List (ℕ × ℕ)) → Levelling → Type 0
Sound places w = IsSound places w.levels.items (rows_of w.waiting.items) w.ready.items

abbrev pub Settled : List (List (ℕ × ℕ)) → Levelling → ℕ → Type 0
Settled places w k = IsSettled places w.levels.items (rows_of w.waiting.items) w.ready.items k

-- where task p has just left the list of those that are ready
abbrev pub SettledBut : List (List (ℕ × ℕ)) → Levelling → ℕ → ℕ → Type 0
SettledBut places w p k = IsSettled places w.levels.items (rows_of w.waiting.items) (w.ready.items ++ p ∷ []) k

abbrev pub work_left : Levelling → ℕ
work_left w = unrest w.levels.items w.ready.items
