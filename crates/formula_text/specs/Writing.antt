-- The text of a tree, with no space and with brackets only where they are needed.
use Rattle.std.specs.Prelude.{ℕ, suc, Bool, true, false, if◌then◌else◌, ◌^◌, ◌<◌, ◌≤◌, max, pos, negsuc, List, [], ◌∷◌, ◌++◌, length, unsigned_abs}
use Rattle.std.specs.Fmt.{decimal}
use Rattle.std.specs.Coded.{×_prop, le_prop}
use Rattle.formula_text.specs.declared.node.Op.{Op}
use Rattle.formula_text.specs.declared.node.Op.TheVariants.{Plus, Less, Times, Over, Rest, Min, Max}
use Rattle.formula_text.specs.declared.writing.Line.{Line}
use Rattle.formula_text.specs.declared.writing.Line.TheVariants.{Expression, Term, Factor}
use Rattle.formula_text.specs.Trees.{Tree, Number, Input, Minus, Two}

-- the line of the grammar that an operator belongs to
abbrev pub line_of_op : Op → Line
line_of_op Plus = Expression
line_of_op Less = Expression
line_of_op Times = Term
line_of_op Over = Term
line_of_op Rest = Term
line_of_op Min = Factor
line_of_op Max = Factor

-- and a tree: numbers, inputs and minuses are factors
abbrev pub line_of : Tree → Line
line_of (Two op a b) = line_of_op op
line_of t = Factor

-- whether a text of one line wants brackets where another is wanted: if it is of a lower one
abbrev pub wants_brackets : Line → Line → Bool
wants_brackets Term Expression = true
wants_brackets Factor Expression = true
wants_brackets Factor Term = true
wants_brackets wanted line = false

-- a text of one line where another is wanted
abbrev pub around : Line → Line → List ℕ → List ℕ
around Term Expression text = 40 ∷ (text ++ 41 ∷ [])
around Factor Expression text = 40 ∷ (text ++ 41 ∷ [])
around Factor Term text = 40 ∷ (text ++ 41 ∷ [])
around wanted line text = text

-- two operands, with their operator
abbrev pub joined : Op → List ℕ → List ℕ → List ℕ
joined Plus a b = a ++ 43 ∷ b
joined Less a b = a ++ 45 ∷ b
joined Times a b = a ++ 42 ∷ b
joined Over a b = a ++ 47 ∷ b
joined Rest a b = a ++ 37 ∷ b
joined Min a b = (109 ∷ 105 ∷ 110 ∷ 40 ∷ []) ++ (a ++ 44 ∷ (b ++ 41 ∷ []))
joined Max a b = (109 ∷ 97 ∷ 120 ∷ 40 ∷ []) ++ (a ++ 44 ∷ (b ++ 41 ∷ []))

-- the same in three parts, where a line is wanted: what stands before the operands
abbrev pub before : Line → Op → List ℕ
before wanted Min = 109 ∷ 105 ∷ 110 ∷ 40 ∷ []
before wanted Max = 109 ∷ 97 ∷ 120 ∷ 40 ∷ []
before wanted op = if wants_brackets wanted (line_of_op op) then 40 ∷ [] else []

-- what stands between them
abbrev pub sign : Op → ℕ
sign Plus = 43
sign Less = 45
sign Times = 42
sign Over = 47
sign Rest = 37
sign Min = 44
sign Max = 44

-- what stands behind them
abbrev pub behind : Line → Op → List ℕ
behind wanted Min = 41 ∷ []
behind wanted Max = 41 ∷ []
behind wanted op = if wants_brackets wanted (line_of_op op) then 41 ∷ [] else []

-- what an operator of a line wants on its right
abbrev pub right_of : Op → Line
right_of Plus = Term
right_of Less = Term
right_of Times = Factor
right_of Over = Factor
right_of Rest = Factor
right_of Min = Expression
right_of Max = Expression

-- and on its left
abbrev pub left_of : Op → Line
left_of Plus = Expression
left_of Less = Expression
left_of Times = Term
left_of Over = Term
left_of Rest = Term
left_of Min = Expression
left_of Max = Expression

-- the text of a tree
abbrev pub text_of : Tree → List ℕ
text_of (Number n) = decimal (unsigned_abs n)
text_of (Input i) = 36 ∷ decimal i
text_of (Minus a) = 45 ∷ around Factor (line_of a) (text_of a)
text_of (Two op a b) = joined op (around (left_of op) (line_of a) (text_of a)) (around (right_of op) (line_of b) (text_of b))

-- ---- how deep a written text nests, its brackets and unary minuses counted

-- with the bracket that a wanted line may cost
abbrev pub room_around : Line → Line → ℕ → ℕ
room_around Term Expression n = suc n
room_around Factor Expression n = suc n
room_around Factor Term n = suc n
room_around wanted line n = n

-- with the bracket of a function
abbrev pub room_joined : Op → ℕ → ℕ
room_joined Min n = suc n
room_joined Max n = suc n
room_joined op n = n

-- the depth of a tree's text
abbrev pub room_of : Tree → ℕ
room_of (Number n) = 0
room_of (Input i) = 0
room_of (Minus a) = suc (room_around Factor (line_of a) (room_of a))
room_of (Two op a b) = room_joined op (max (room_around (left_of op) (line_of a) (room_of a)) (room_around (right_of op) (line_of b) (room_of b)))

-- numbers and inputs within their limits
abbrev pub IsWritable : Tree → Type 0
IsWritable (Number (pos n)) = n < 2 ^ 63
IsWritable (Number (negsuc n)) = ⊥
IsWritable (Input i) = i < 40
IsWritable (Minus a) = IsWritable a
IsWritable (Two op a b) = IsWritable a × IsWritable b

IsWritable-prop : (t : Tree) → IsProp (IsWritable t)
IsWritable-prop (Number (pos n)) = hlevel le_prop
IsWritable-prop (Number (negsuc n)) = hlevel
IsWritable-prop (Input i) = hlevel le_prop
IsWritable-prop (Minus a) = IsWritable-prop a
IsWritable-prop (Two op a b) = ×_prop (IsWritable-prop a) (IsWritable-prop b)

-- a tree whose text is within the limits
pub record IsWithin (t : Tree) : Type 0 where
  pub writable : IsWritable t
  pub deep : room_of t ≤ 64
  pub long : length (text_of t) ≤ 4096

pub IsWithin-prop : (t : Tree) → IsProp (IsWithin t)
IsWithin-prop t = hlevel (IsWritable-prop t, le_prop)
