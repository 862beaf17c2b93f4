-- A reader of formulas that takes one byte at a time, from left to right, and never goes back.
-- It says which fault is the first, and at which place.
use Rattle.std.specs.Prelude.{ℕ, suc, ◌+◌, ◌*◌, ◌==◌, nat_lt, if◌then◌else◌, pos, List, [], ◌∷◌, length, Result, Ok, Err}
use Rattle.formula_text.specs.declared.node.Op.{Op}
use Rattle.formula_text.specs.declared.node.Op.TheVariants as ops
use Rattle.formula_text.specs.declared.fault.FormulaFault.{FormulaFault}
use Rattle.formula_text.specs.declared.fault.FormulaFault.TheVariants as faults
use Rattle.formula_text.specs.declared.mark.Mark.{Mark}
use Rattle.formula_text.specs.declared.mark.Mark.TheVariants as marks
use Rattle.formula_text.specs.declared.mark.Kind.{Kind}
use Rattle.formula_text.specs.declared.mark.Kind.TheVariants as kinds
use Rattle.formula_text.specs.Marks.{mark_of, limit}
use Rattle.formula_text.specs.Trees.{Tree, Number, Input, Minus, Two}

-- what is open around a place, with the operands that are complete
pub data Frame : Type 0 where
  Negative : Frame
  Bracket : Frame
  First : (op : Op) → Frame
  Second : (op : Op) (left : Tree) → Frame
  Sum : (op : Op) (left : Tree) → Frame
  Product : (op : Op) (left : Tree) → Frame

-- how many brackets and unary minuses are open
unfoldable pub opened : List Frame → ℕ
opened [] = 0
opened (Negative ∷ s) = suc (opened s)
opened (Bracket ∷ s) = suc (opened s)
opened (First op ∷ s) = suc (opened s)
opened (Second op t ∷ s) = suc (opened s)
opened (Sum op t ∷ s) = opened s
opened (Product op t ∷ s) = opened s

-- the fault of digits that write too large a number
abbrev pub too_large : Kind → ℕ → FormulaFault
too_large kinds.Number place = faults.Number place
too_large kinds.Input place = faults.Input place

-- the tree of digits
abbrev pub leaf : Kind → ℕ → Tree
leaf kinds.Number n = Number (pos n)
leaf kinds.Input n = Input n

-- what the machine knows between two bytes
pub data State : Type 0 where
  -- a factor is wanted
  Wanted : (stack : List Frame) → State
  -- in digits, which with their `$` began at a place, and give n so far
  Digits : (kind : Kind) (first n : ℕ) (stack : List Frame) → State
  AfterDollar : (first : ℕ) (stack : List Frame) → State
  -- after `m`, and after `mi` or `ma`, where one letter is still to come
  AfterM : (first : ℕ) (stack : List Frame) → State
  AfterTwo : (first letter : ℕ) (op : Op) (stack : List Frame) → State
  -- after the name of a function, whose bracket is wanted
  Named : (op : Op) (stack : List Frame) → State
  -- an operand is complete
  Done : (operand : Tree) (stack : List Frame) → State
  Failed : (fault : FormulaFault) → State

-- A factor ends the unary minuses before it, and the product that it is the right operand of.
unfoldable pub complete : Tree → List Frame → State
complete t (Negative ∷ s) = complete (Minus t) s
complete t (Product op x ∷ s) = complete (Two op x t) s
complete t s = Done t s

-- one more open bracket or unary minus, of at most 64
abbrev pub opening : Frame → List Frame → State
opening f s = if nat_lt (opened s) 64 then Wanted (f ∷ s) else Failed faults.Deep

-- ---- what a mark at place p does where a factor is wanted

abbrev pub at_factor : ℕ → Mark → List Frame → State
at_factor p marks.Space s = Wanted s
at_factor p (marks.Digit d) s = Digits kinds.Number p d s
at_factor p marks.Dollar s = AfterDollar p s
at_factor p (marks.Sum ops.Less) s = opening Negative s
at_factor p marks.Open s = opening Bracket s
at_factor p (marks.Other b) s = if b == 109 then AfterM p s else Failed (faults.Char p)
at_factor p m s = Failed (faults.Char p)

-- ---- and where an operand is complete

-- an expression that nothing continues: at the top the text has too much
unfoldable pub unexpected : ℕ → List Frame → FormulaFault
unexpected p [] = faults.Extra p
unexpected p (Sum op x ∷ s) = unexpected p s
unexpected p s = faults.Char p

-- a sum goes on
unfoldable pub at_sum : Op → Tree → List Frame → State
at_sum o t (Sum op x ∷ s) = Wanted (Sum o (Two op x t) ∷ s)
at_sum o t s = Wanted (Sum o t ∷ s)

-- a bracket closes, where one is open
unfoldable pub at_close : ℕ → Tree → List Frame → State
at_close p t (Sum op x ∷ s) = at_close p (Two op x t) s
at_close p t (Bracket ∷ s) = complete t s
at_close p t (Second op x ∷ s) = complete (Two op x t) s
at_close p t s = Failed (unexpected p s)

-- a comma, inside the first bracket of a function
unfoldable pub at_comma : ℕ → Tree → List Frame → State
at_comma p t (Sum op x ∷ s) = at_comma p (Two op x t) s
at_comma p t (First op ∷ s) = Wanted (Second op t ∷ s)
at_comma p t s = Failed (unexpected p s)

-- any mark
abbrev pub at_operand : ℕ → Mark → Tree → List Frame → State
at_operand p marks.Space t s = Done t s
at_operand p (marks.Sum o) t s = at_sum o t s
at_operand p (marks.Product o) t s = Wanted (Product o t ∷ s)
at_operand p marks.Close t s = at_close p t s
at_operand p marks.Comma t s = at_comma p t s
at_operand p m t s = Failed (unexpected p s)

-- a mark right behind what may have completed an operand
abbrev pub after : ℕ → Mark → State → State
after p m (Done t s) = at_operand p m t s
after p m state = state

-- ---- inside a number, an input or a name

-- one more digit, within the limit
abbrev pub more_digits : Kind → ℕ → ℕ → List Frame → State
more_digits kind first n s = if nat_lt (limit kind) n then Failed (too_large kind first) else Digits kind first n s

-- a mark behind a digit
abbrev pub at_digits : ℕ → Mark → Kind → ℕ → ℕ → List Frame → State
at_digits p (marks.Digit d) kind first n s = more_digits kind first (10 * n + d) s
at_digits p m kind first n s = after p m (complete (leaf kind n) s)

-- a mark behind `$`
abbrev pub after_dollar : Mark → ℕ → List Frame → State
after_dollar (marks.Digit d) first s = Digits kinds.Input first d s
after_dollar m first s = Failed (faults.Input first)

-- a mark behind `m`
abbrev pub second_letter : Mark → ℕ → List Frame → State
second_letter (marks.Other b) first s =
    if b == 105 then AfterTwo first 110 ops.Min s
    else if b == 97 then AfterTwo first 120 ops.Max s
    else Failed (faults.Char first)
second_letter m first s = Failed (faults.Char first)

-- a mark behind `mi` or `ma`
abbrev pub third_letter : Mark → ℕ → ℕ → Op → List Frame → State
third_letter (marks.Other b) first letter op s = if b == letter then Named op s else Failed (faults.Char first)
third_letter m first letter op s = Failed (faults.Char first)

-- a mark behind the name of a function
abbrev pub at_name : ℕ → Mark → Op → List Frame → State
at_name p marks.Space op s = Named op s
at_name p marks.Open op s = opening (First op) s
at_name p m op s = Failed (faults.Char p)

-- ---- one byte, and all of them

-- one mark at a place
unfoldable pub step : ℕ → Mark → State → State
step p m (Wanted s) = at_factor p m s
step p m (Digits kind first n s) = at_digits p m kind first n s
step p m (AfterDollar first s) = after_dollar m first s
step p m (AfterM first s) = second_letter m first s
step p m (AfterTwo first letter op s) = third_letter m first letter op s
step p m (Named op s) = at_name p m op s
step p m (Done t s) = at_operand p m t s
step p m (Failed e) = Failed e

-- the end of the text after an operand
unfoldable pub at_end : Tree → List Frame → Result Tree FormulaFault
at_end t [] = Ok t
at_end t (Sum op x ∷ s) = at_end (Two op x t) s
at_end t s = Err faults.End

-- the end of the text behind what may have completed an operand
abbrev pub ended : State → Result Tree FormulaFault
ended (Done t s) = at_end t s
ended state = Err faults.End

-- the end of the text
unfoldable pub finish : State → Result Tree FormulaFault
finish (Wanted s) = Err faults.End
finish (Digits kind first n s) = ended (complete (leaf kind n) s)
finish (AfterDollar first s) = Err (faults.Input first)
finish (AfterM first s) = Err (faults.Char first)
finish (AfterTwo first letter op s) = Err (faults.Char first)
finish (Named op s) = Err faults.End
finish (Done t s) = at_end t s
finish (Failed e) = Err e

-- what is made of the bytes from place p on
unfoldable pub run : ℕ → List ℕ → State → Result Tree FormulaFault
run p [] state = finish state
run p (b ∷ bytes) state = run (p + 1) bytes (step p (mark_of b) state)

-- the tree of a text, or its first fault
unfoldable pub reading : List ℕ → Result Tree FormulaFault
reading text = if nat_lt 4096 (length text) then Err faults.Long else run 0 text (Wanted [])
