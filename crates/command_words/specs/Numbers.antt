-- The numbers in the words.
use Rattle.std.specs.Prelude.{◌≡◌, ℕ, ◌≤◌, ◌-◌, List, [], ◌∷◌, ◌++◌, length, Option, MatchOption, Contains}
use Rattle.std.specs.Str.Parse.{IsNumeral, digits_value}
use Rattle.command_words.specs.Options.{Text}

-- 1 to 10 decimal digits without a sign write a number within its limits
pub record IsNumber (least most : ℕ) (text : Text) (n : ℕ) : Type 0 where
  pub digits : IsNumeral 10 text
  pub short : length text ≤ 10
  pub value : n ≡ digits_value 10 text
  pub at_least : least ≤ n
  pub at_most : n ≤ most

-- the number that an option gives, or its default
abbrev pub HasValue : ℕ → ℕ → ℕ → Option Text → ℕ → Type 0
HasValue least most default slot n = MatchOption slot (n ≡ default) (λ text. IsNumber least most text n)

-- numbers joined by commas, each at most `most`
pub data IsList (most : ℕ) : Text → List ℕ → Type 0 where
  last : (text : Text) (n : ℕ) → IsNumber 0 most text n → IsList most text (n ∷ [])
  more : (text first rest : Text) (n : ℕ) (ns : List ℕ) → IsNumber 0 most first n → IsList most rest ns → text ≡ first ++ 44 ∷ rest → IsList most text (n ∷ ns)

-- 1 to 4,096 numbers, each below the number of workers and at least one of them 0
pub record IsSchedule (workers : ℕ) (text : Text) (numbers : List ℕ) : Type 0 where
  pub listed : IsList (workers - 1) text numbers
  pub few : length numbers ≤ 4096
  pub with_zero : Contains numbers 0

-- the schedule that an option gives, or `0`
abbrev pub HasSchedule : ℕ → Option Text → List ℕ → Type 0
HasSchedule workers slot numbers = MatchOption slot (numbers ≡ 0 ∷ []) (λ text. IsSchedule workers text numbers)
