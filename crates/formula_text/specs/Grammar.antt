-- The grammar of formulas: which text stands for which tree. Redundant brackets and spaces leave no trace in a tree.
use Rattle.std.specs.Prelude.{ℕ, suc, ◌+◌, ◌*◌, ◌^◌, ◌<◌, ◌≤◌, pos, List, [], ◌∷◌, ◌++◌, length, replicate}
use Rattle.formula_text.specs.declared.node.Op.{Op}
use Rattle.formula_text.specs.declared.node.Op.TheVariants.{Plus, Less, Times, Over, Rest, Min, Max}
use Rattle.formula_text.specs.Trees.{Tree, Number, Input, Minus, Two}

-- the bytes of `+` and `-`
pub data IsSumSign : ℕ → Op → Type 0 where
  plus : IsSumSign 43 Plus
  less : IsSumSign 45 Less

-- the bytes of `*`, `/` and `%`
pub data IsProductSign : ℕ → Op → Type 0 where
  times : IsProductSign 42 Times
  over : IsProductSign 47 Over
  rest : IsProductSign 37 Rest

-- `min` and `max`
pub data IsName : List ℕ → Op → Type 0 where
  min : IsName (109 ∷ 105 ∷ 110 ∷ []) Min
  max : IsName (109 ∷ 97 ∷ 120 ∷ []) Max

-- digits, and the number that they write
pub data IsNumeral : List ℕ → ℕ → Type 0 where
  one : {d : ℕ} → d < 10 → IsNumeral ((48 + d) ∷ []) d
  more : {digits : List ℕ} {n d : ℕ} → IsNumeral digits n → d < 10 → IsNumeral (digits ++ (48 + d) ∷ []) (10 * n + d)

-- the lines of the grammar
pub data Level : Type 0 where
  Expression : Level
  Term : Level
  Factor : Level

-- IsText level room text t: the text stands for t, and opens at most `room` brackets and unary minuses around any place.
pub data IsText : Level → ℕ → List ℕ → Tree → Type 0 where
  sum : {room : ℕ} {a b : List ℕ} {x y : Tree} {sign : ℕ} {op : Op} → IsText Expression room a x → IsSumSign sign op → IsText Term room b y → IsText Expression room (a ++ sign ∷ b) (Two op x y)
  term : {room : ℕ} {a : List ℕ} {x : Tree} → IsText Term room a x → IsText Expression room a x
  product : {room : ℕ} {a b : List ℕ} {x y : Tree} {sign : ℕ} {op : Op} → IsText Term room a x → IsProductSign sign op → IsText Factor room b y → IsText Term room (a ++ sign ∷ b) (Two op x y)
  factor : {room : ℕ} {a : List ℕ} {x : Tree} → IsText Factor room a x → IsText Term room a x
  minus : {room : ℕ} {a : List ℕ} {x : Tree} → IsText Factor room a x → IsText Factor (suc room) (45 ∷ a) (Minus x)
  brackets : {room : ℕ} {a : List ℕ} {x : Tree} → IsText Expression room a x → IsText Factor (suc room) (40 ∷ (a ++ 41 ∷ [])) x
  number : {room : ℕ} {digits : List ℕ} {n : ℕ} → IsNumeral digits n → n < 2 ^ 63 → IsText Factor room digits (Number (pos n))
  input : {room : ℕ} {digits : List ℕ} {n : ℕ} → IsNumeral digits n → n < 40 → IsText Factor room (36 ∷ digits) (Input n)
  call : {room : ℕ} {name a b : List ℕ} {x y : Tree} {op : Op} (spaces : ℕ) → IsName name op → IsText Expression room a x → IsText Expression room b y
      → IsText Factor (suc room) (name ++ (replicate spaces 32 ++ 40 ∷ (a ++ 44 ∷ (b ++ 41 ∷ [])))) (Two op x y)
  before : {level : Level} {room : ℕ} {a : List ℕ} {x : Tree} → IsText level room a x → IsText level room (32 ∷ a) x
  behind : {level : Level} {room : ℕ} {a : List ℕ} {x : Tree} → IsText level room a x → IsText level room (a ++ 32 ∷ []) x

-- a formula within the limits
pub record IsFormula (text : List ℕ) (t : Tree) : Type 0 where
  pub size : length text ≤ 4096
  pub whole : IsText Expression 64 text t
