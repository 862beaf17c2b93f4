-- Who lent a table to a seat learns by its numbers that the pass is still one of the table, with as many parts.
use Rattle.std.proofs.Common.{◌≡◌, ℕ, List, ap, drop, get_or}
use Rattle.atomic_table.specs.Seated.{TableId}
use Rattle.task_table.specs.Passes.{Passing, lender_of}

-- the table by its numbers
abbrev table_by : List ℕ → TableId
table_by xs = record { words = get_or xs 2 0; slots = get_or xs 3 0; views_name = get_or xs 4 0; atom = get_or xs 5 0; block = get_or xs 6 0; offset = get_or xs 7 0; slot_names = drop 8 xs }

pub same_table : (p q : Passing) → lender_of q ≡ lender_of p → q.table ≡ p.table
same_table p q lent j = table_by (lent j)

pub same_parts : (p q : Passing) → lender_of q ≡ lender_of p → q.view.parts ≡ p.view.parts
same_parts p q lent = ap (λ (ns : List ℕ). get_or ns 0 0) lent
