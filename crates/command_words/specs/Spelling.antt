-- How words spell what is given.
use Rattle.std.specs.Prelude.{◌≡◌, ◌≢◌, ◌⊎◌, true, List, [], ◌∷◌, ◌++◌, None, codes, slice_index}
use Rattle.command_words.specs.Options.{Text, dashed, takes, takes_value}
use Rattle.command_words.specs.Given.{Given, slot, put}
use Rattle.command_words.specs.declared.options.Kind.{Kind}
use Rattle.command_words.specs.declared.options.Name.{Name}
use Rattle.command_words.specs.declared.options.Name.TheVariants.{Records, Number}

-- the word does not begin with a dash
abbrev pub IsPlain : Text → Type 0
IsPlain word = slice_index word 0 ≢ 45

-- one word that gives an option its value: `--name=value`, `--records`, or a number that belongs to no option
pub data Gives : Text → Name → Text → Type 0 where
  joined : (word value : Text) (name : Name) → takes_value name ≡ true → word ≡ dashed name ++ 61 ∷ value → Gives word name value
  flag : (word : Text) → word ≡ dashed Records → Gives word Records []
  plain : (word : Text) → IsPlain word → Gives word Number word

-- the words behind the first one, in any order, give a command options that it takes, each at most once, over what was given before them
pub data Spells (kind : Kind) : Given → List Text → Given → Type 0 where
  done : (given : Given) → Spells kind given [] given
  one : (before after : Given) (word value : Text) (name : Name) (rest : List Text)
      → Gives word name value → takes kind name ≡ true → slot name before ≡ None
      → Spells kind (put name value before) rest after → Spells kind before (word ∷ rest) after
  two : (before after : Given) (word value : Text) (name : Name) (rest : List Text)
      → takes_value name ≡ true → word ≡ dashed name → IsPlain value → takes kind name ≡ true → slot name before ≡ None
      → Spells kind (put name value before) rest after → Spells kind before (word ∷ value ∷ rest) after

-- the words that are refused wherever they stand
abbrev pub IsReserved : Text → Type 0
IsReserved word = (word ≡ codes "--") ⊎ (word ≡ codes "-h") ⊎ (word ≡ codes "--help") ⊎ (word ≡ codes "help") ⊎ (word ≡ codes "-V") ⊎ (word ≡ codes "--version")

-- words that spell nothing, and that clap alone may take: `--`, and what begins with a single dash
abbrev pub IsLetThrough : Text → Type 0
IsLetThrough word = (word ≡ codes "--") ⊎ ((slice_index word 0 ≡ 45) × (slice_index word 1 ≢ 45))

-- words that clap alone decides
abbrev pub IsFree : Text → Type 0
IsFree word = (¬ IsReserved word) × (¬ IsLetThrough word)
