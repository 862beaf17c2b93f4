-- How far a function of the reader has come.
use Rattle.std.specs.Prelude.{◌≡◌, ℕ, ◌+◌, List, ◌∷◌, ◌++◌, replicate, Option, Some, None, Result, Ok, Err}
use Rattle.formula_text.specs.declared.node.Node.{Node}
use Rattle.formula_text.specs.declared.fault.FormulaFault.{FormulaFault}
use Rattle.formula_text.specs.declared.fault.FormulaFault.TheVariants as faults
use Rattle.formula_text.specs.declared.mark.Mark.{Mark}
use Rattle.formula_text.specs.declared.mark.Mark.TheVariants as marks
use Rattle.formula_text.specs.declared.cursor.Cursor.{Cursor}
use Rattle.formula_text.specs.Trees.{Tree, tree_of}
use Rattle.formula_text.specs.Grammar.{Level, IsText, IsNumeral, IsName}
use Rattle.formula_text.specs.declared.node.Op.{Op}
use Rattle.formula_text.specs.declared.mark.Kind.{Kind}
use Rattle.formula_text.specs.Machine.{Frame, Negative, Product, Sum, State, step, complete, leaf, too_large, run}

-- what is made of the text from a place on
abbrev pub run_from : Cursor → State → Result Tree FormulaFault
run_from c state = run c.place c.rest.now state

-- A function ended with the machine's fault, unless memory ran out.
abbrev pub Fails : FormulaFault → Result Tree FormulaFault → Type 0
Fails faults.OutOfMemory outcome = Unit {0}
Fails e outcome = outcome ≡ Err e

-- A function that has read a tree brings the machine to `next`.
abbrev pub Follows : Result (Node × Cursor) FormulaFault → Result Tree FormulaFault → (Tree → State) → Type 0
Follows (Ok x) outcome next = outcome ≡ run_from x.1 (next (tree_of x.0))
Follows (Err e) outcome next = Fails e outcome

-- the text between two places stands for the tree
pub record Spans (level : Level) (room : ℕ) (from to : List ℕ) (t : Tree) : Type 0 where
  pub text : List ℕ
  pub parts : from ≡ text ++ to
  pub stands : IsText level room text t

-- where a term may stand: not behind a unary minus, nor as an operand of a product
abbrev pub TakesTerm : List Frame → Type 0
TakesTerm (Negative ∷ s) = ⊥
TakesTerm (Product op x ∷ s) = ⊥
TakesTerm s = Unit {0}

-- where an expression may stand: nor as an operand of a sum
abbrev pub TakesExpression : List Frame → Type 0
TakesExpression (Negative ∷ s) = ⊥
TakesExpression (Product op x ∷ s) = ⊥
TakesExpression (Sum op x ∷ s) = ⊥
TakesExpression s = Unit {0}

-- a mark that can stand behind a factor and its spaces: no space
abbrev pub EndsFactor : Mark → Type 0
EndsFactor marks.Space = ⊥
EndsFactor m = Unit {0}

-- behind a term: also no `*`, `/` or `%`
abbrev pub EndsTerm : Mark → Type 0
EndsTerm marks.Space = ⊥
EndsTerm (marks.Product o) = ⊥
EndsTerm m = Unit {0}

-- behind an expression: also no `+` or `-`
abbrev pub EndsExpression : Mark → Type 0
EndsExpression marks.Space = ⊥
EndsExpression (marks.Product o) = ⊥
EndsExpression (marks.Sum o) = ⊥
EndsExpression m = Unit {0}

-- a state that a space leaves as it is
abbrev pub IsIdle : State → Type 0
IsIdle state = (p : ℕ) → step p marks.Space state ≡ state

-- spaces between two places
pub record Skips (from to : List ℕ) : Type 0 where
  pub spaces : ℕ
  pub parts : from ≡ replicate spaces 32 ++ to

-- more digits of a number that began with `first`
pub record Counts (first : ℕ) (from to : List ℕ) (n : ℕ) : Type 0 where
  pub digits : List ℕ
  pub parts : from ≡ digits ++ to
  pub stands : IsNumeral ((48 + first) ∷ digits) n

-- what digits that began at a place bring the machine to
abbrev pub Numbers : Kind → ℕ → List Frame → Option (ℕ × Cursor) → Result Tree FormulaFault → Type 0
Numbers kind begin s (Some x) outcome = outcome ≡ run_from x.1 (complete (leaf kind x.0) s)
Numbers kind begin s None outcome = outcome ≡ Err (too_large kind begin)

-- the name of a function between two places
pub record Names (from to : List ℕ) (op : Op) : Type 0 where
  pub letters : List ℕ
  pub parts : from ≡ letters ++ to
  pub stands : IsName letters op

-- what is wrong where one certain mark is wanted
abbrev pub missing : Mark → ℕ → FormulaFault
missing marks.End p = faults.End
missing m p = faults.Char p

-- a bracket or a comma
abbrev pub IsPunctuation : Mark → Type 0
IsPunctuation marks.Open = Unit {0}
IsPunctuation marks.Comma = Unit {0}
IsPunctuation marks.Close = Unit {0}
IsPunctuation m = ⊥

-- A function answers for the whole text as the machine does, unless memory ran out.
abbrev pub Answers : Result Node FormulaFault → Result Tree FormulaFault → Type 0
Answers (Ok node) outcome = outcome ≡ Ok (tree_of node)
Answers (Err e) outcome = Fails e outcome
