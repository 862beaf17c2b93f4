-- The table of options as clap fills it in, and what clap makes of one word over it.
use Rattle.std.proofs.Common.{◌≡◌, ◌≢◌, ℕ, Bool, true, false, List, [], ◌∷◌, ◌++◌, Option, Some, None, codes, refl, ap, arith}
use Rattle.std.specs.Prelude.{◌==◌, slice_index, ◌&&◌, ◌||◌, if◌then◌else◌, is_some}
use Rattle.clap.specs.Lexer.{name_and_value, short_of}
use Rattle.clap.specs.Walk.{Held, Row, Rule, Waiting, Walk, arg_by_long, finished, has_row, idle, is_empty, is_pending, option, positional, positional_held, pushed, settled, settled_rows, used, nothing_held, rows_after, takes_values, walked}
use Rattle.clap.specs.Simple.{Shape, filled, matches_of, new_rule, new_shape, with_index}
use Rattle.clap.specs.Faults.{default_fault, fault_of, given_default_fault, level_fault, long_fault, option_fault, positional_fault, react_fault, settle_fault, repeat_fault, turn_fault}
use Rattle.clap.specs.Kinds.{Kinds, or_else}
use Rattle.clap.specs.declared.error.kind.ErrorKind.{ErrorKind}
use Rattle.clap.specs.declared.error.kind.ErrorKind.TheVariants as kinds
use Rattle.clap.proofs.FaultLemmas.{leaf_fault}
use Rattle.command_words.specs.Options.{Text, dashed, takes_value}
use Rattle.command_words.specs.Spelling.{IsPlain}
use Rattle.command_words.specs.ByClap.{flagged, table_app, valued}
use Rattle.command_words.specs.declared.options.Name.{Name}
use Rattle.command_words.specs.declared.options.Name.TheVariants.{Workers, Lives, Records, Schedule, Turns, Number}

-- how clap names an option
abbrev pub id_of : Name → Text
id_of Workers = codes "workers"
id_of Lives = codes "lives"
id_of Records = codes "records"
id_of Schedule = codes "schedule"
id_of Turns = codes "turns"
id_of Number = codes "number"

-- an option with what it left out
abbrev pub rule : Name → Rule
rule Workers = filled (valued (codes "workers"))
rule Lives = filled (valued (codes "lives"))
rule Records = filled (flagged (codes "records"))
rule Schedule = filled (valued (codes "schedule"))
rule Turns = filled (valued (codes "turns"))
rule Number = with_index 1 (filled (new_rule (codes "number")))

abbrev pub rules : List Rule
rules = rule Workers ∷ rule Lives ∷ rule Records ∷ rule Schedule ∷ rule Turns ∷ rule Number ∷ []

abbrev pub shape : Shape
shape = record (new_shape (codes "words")) { rules = rules; no_binary_name = true; disable_help_flag = true; disable_help_subcommand = true; is_built = true }

-- clap's verdict and its matches, over that table
pub table_fault : (words : List Text) → fault_of table_app words ≡ level_fault shape [] nothing_held words false []
unfolding table_app
table_fault words = leaf_fault (record { top = shape; subs = [] }) nothing_held words refl

pub table_rows : (words : List Text) → matches_of table_app words ≡ rows_after rules [] words
unfolding table_app
table_rows words = refl

-- what is held between two words, where the last option may still wait to be entered
abbrev pub held : List Row → Option (Text × List Text) → Held
held r q = record { rows = r; pending = q; skip = 0 }

abbrev pub standing : Held → Waiting → ℕ → Walk
standing h g p = record { held = h; waiting = g; position = p; is_trailing = false; stopped = None }

-- between two words, where no option waits for its value
abbrev pub at : List Row → Option (Text × List Text) → ℕ → Walk
at r q p = standing (held r q) idle p

-- where one does
abbrev pub within : Name → List Row → ℕ → Walk
within n r p = standing (held r (Some (id_of n, []))) (option (id_of n)) p

-- an option with its value that waits to be entered
abbrev pub pending : Name → Text → Option (Text × List Text)
pending n v = Some (id_of n, v ∷ [])

abbrev pub entered : List Row → Option (Text × List Text) → List Row
entered r q = settled_rows rules q r

-- the values that a use hands to clap
abbrev pub values : Name → Text → List Text
values Records v = []
values n v = v ∷ []

-- an option that is entered
abbrev pub use_kinds : Name → List Row → Option (Text × List Text) → Kinds
use_kinds n r q = or_else (or_else (settle_fault rules false (held r q)) (or_else (repeat_fault false (id_of n) (entered r q)) [])) []

module _ (r : List Row) (q : Option (Text × List Text)) (p : ℕ) where
  -- `--name=value`
  pub joined_turn : (n : Name) (v : Text) → takes_value n ≡ true → turn_fault shape [] (at r q p) (dashed n ++ 61 ∷ v) ≡ use_kinds n r q
  joined_turn Workers v e = refl
  joined_turn Lives v e = refl
  joined_turn Records v e = absurd cc
  joined_turn Schedule v e = refl
  joined_turn Turns v e = refl
  joined_turn Number v e = absurd cc

  pub joined_walk : (n : Name) (v : Text) → takes_value n ≡ true → walked rules [] (at r q p) (dashed n ++ 61 ∷ v) ≡ at (used (rule n) (values n v) (entered r q)) None p
  unfolding walked
  joined_walk Workers v e = refl
  joined_walk Lives v e = refl
  joined_walk Records v e = absurd cc
  joined_walk Schedule v e = refl
  joined_walk Turns v e = refl
  joined_walk Number v e = absurd cc

  -- `--records`
  pub flag_turn : turn_fault shape [] (at r q p) (dashed Records) ≡ use_kinds Records r q
  flag_turn = refl

  pub flag_walk : walked rules [] (at r q p) (dashed Records) ≡ at (used (rule Records) [] (entered r q)) None p
  unfolding walked
  flag_walk = refl

  -- `--name`, whose value is the next word
  pub alone_turn : (n : Name) → takes_value n ≡ true → turn_fault shape [] (at r q p) (dashed n) ≡ or_else (settle_fault rules false (held r q)) []
  alone_turn Workers e = refl
  alone_turn Lives e = refl
  alone_turn Records e = absurd cc
  alone_turn Schedule e = refl
  alone_turn Turns e = refl
  alone_turn Number e = absurd cc

  pub alone_walk : (n : Name) → takes_value n ≡ true → walked rules [] (at r q p) (dashed n) ≡ within n (entered r q) p
  unfolding walked
  alone_walk Workers e = refl
  alone_walk Lives e = refl
  alone_walk Records e = absurd cc
  alone_walk Schedule e = refl
  alone_walk Turns e = refl
  alone_walk Number e = absurd cc

-- a word that begins with no dash is no flag
plain_test : (w : Text) → IsPlain w → (slice_index w 0 == 45) ≡ false
plain_test w p = grind (arith)

plain_short : (word : Text) → IsPlain word → short_of word ≡ None
plain_short [] h = refl
plain_short (x ∷ xs) h = let e = plain_test (x ∷ xs) h in rw e refl

-- that value
pub value_turn : (n : Name) (r : List Row) (p : ℕ) (word : Text) → IsPlain word → turn_fault shape [] (within n r p) word ≡ []
value_turn n r p [] h = refl
value_turn n r p (x ∷ xs) h = let e = plain_test (x ∷ xs) h in let s = plain_short (x ∷ xs) h in rw (e, s) refl

pub value_walk : (n : Name) (r : List Row) (p : ℕ) (word : Text) → takes_value n ≡ true → IsPlain word → walked rules [] (within n r p) word ≡ at r (pending n word) p
unfolding walked
value_walk Workers r p [] t h = refl
value_walk Workers r p (x ∷ xs) t h = let e = plain_test (x ∷ xs) h in let s = plain_short (x ∷ xs) h in rw (e, s) refl
value_walk Lives r p [] t h = refl
value_walk Lives r p (x ∷ xs) t h = let e = plain_test (x ∷ xs) h in let s = plain_short (x ∷ xs) h in rw (e, s) refl
value_walk Records r p word t h = absurd cc
value_walk Schedule r p [] t h = refl
value_walk Schedule r p (x ∷ xs) t h = let e = plain_test (x ∷ xs) h in let s = plain_short (x ∷ xs) h in rw (e, s) refl
value_walk Turns r p [] t h = refl
value_walk Turns r p (x ∷ xs) t h = let e = plain_test (x ∷ xs) h in let s = plain_short (x ∷ xs) h in rw (e, s) refl
value_walk Number r p word t h = absurd cc

-- the one word that belongs to no option
module _ (r : List Row) (q : Option (Text × List Text)) where
  settles_first : positional_fault rules false (rule Number) (held r q) ≡ settle_fault rules false (held r q)
  settles_first = by (is_pending (rule Number) q)
    where
      by : (b : Bool) → (if b && false then [] else settle_fault rules false (held r q)) ≡ settle_fault rules false (held r q)
      by true = refl
      by false = refl

  pub number_turn : (word : Text) → IsPlain word → turn_fault shape [] (at r q 1) word ≡ settle_fault rules false (held r q)
  number_turn [] h = settles_first
  number_turn (x ∷ xs) h = let e = plain_test (x ∷ xs) h in let s = plain_short (x ∷ xs) h in rw (e, s) settles_first

  entered_first : (word : Text) → positional_held rules (rule Number) word (held r q) ≡ held (entered r q) (pending Number word)
  entered_first word = by (is_pending (rule Number) q)
    where
      by : (b : Bool) → pushed (codes "number") word (if b && false then held r q else settled rules (held r q)) ≡ held (entered r q) (pending Number word)
      by true = refl
      by false = refl

  pub number_walk : (word : Text) → IsPlain word → walked rules [] (at r q 1) word ≡ at (entered r q) (pending Number word) 2
  unfolding walked
  number_walk [] h = ap (λ x. standing x idle 2) (entered_first [])
  number_walk (x ∷ xs) h = let e = plain_test (x ∷ xs) h in let s = plain_short (x ∷ xs) h in rw (e, s) (ap (λ x. standing x idle 2) (entered_first (x ∷ xs)))

  -- and a second one
  pub second_turn : (word : Text) → IsPlain word → turn_fault shape [] (at r q 2) word ≡ kinds.UnknownArgument ∷ []
  second_turn [] h = refl
  second_turn (x ∷ xs) h = let e = plain_test (x ∷ xs) h in let s = plain_short (x ∷ xs) h in rw (e, s) refl

-- ---- faults

pub first_none : (a b : Kinds) → or_else a b ≡ [] → a ≡ []
first_none [] b e = refl
first_none (k ∷ ks) b e = e

pub second_none : (a b : Kinds) → or_else a b ≡ [] → b ≡ []
second_none [] b e = e
second_none (k ∷ ks) b e = absurd cc

-- no list of faults is empty and has one
pub not_both_ways : (k : ErrorKind) (a : Kinds) → a ≡ k ∷ [] → a ≡ [] → ⊥
not_both_ways k a e f = absurd cc

-- a word that begins with two dashes is refused if the name behind them is
pub long_turn : (h : Held) (g : Waiting) (p x : ℕ) (xs : Text) → turn_fault shape [] (standing h g p) (45 ∷ 45 ∷ x ∷ xs) ≡ []
    → long_fault rules false (arg_by_long rules (name_and_value (x ∷ xs)).0) (name_and_value (x ∷ xs)).1 h ≡ []
long_turn h idle p x xs e = first_none _ _ e
long_turn h (option id) p x xs e = first_none _ _ e
long_turn h positional p x xs e = first_none _ _ e

-- and so it is if what was held is refused
long_settles : (o : Option Rule) (v : Option Text) (h : Held) → long_fault rules false o v h ≡ [] → settle_fault rules false h ≡ []
long_settles None v h e = absurd cc
long_settles (Some a) v h e = by (takes_values a) v e
  where
    by : (b : Bool) (v : Option Text) → (if b then option_fault rules false a v h else (if is_some v then kinds.TooManyValues ∷ [] else react_fault rules false a [] h)) ≡ []
        → settle_fault rules false h ≡ []
    by true None e = e
    by true (Some t) e = first_none _ _ e
    by false None e = first_none _ _ e
    by false (Some t) e = absurd cc

pub held_passes : (h : Held) (g : Waiting) (p x : ℕ) (xs : Text) → turn_fault shape [] (standing h g p) (45 ∷ 45 ∷ x ∷ xs) ≡ [] → settle_fault rules false h ≡ []
held_passes h g p x xs e = long_settles (arg_by_long rules (name_and_value (x ∷ xs)).0) (name_and_value (x ∷ xs)).1 h (long_turn h g p x xs e)

-- an option that still waits for its value is refused
pub valueless : (n : Name) (r : List Row) → takes_value n ≡ true → settle_fault rules false (held r (Some (id_of n, []))) ≡ kinds.InvalidValue ∷ []
valueless Workers r e = refl
valueless Lives r e = refl
valueless Records r e = absurd cc
valueless Schedule r e = refl
valueless Turns r e = refl
valueless Number r e = absurd cc

-- an option that waits to be entered is refused where it was given before
pub pending_fault : (n : Name) (v : Text) (r : List Row) → n ≢ Records → settle_fault rules false (held r (pending n v)) ≡ or_else (repeat_fault false (id_of n) r) []
pending_fault Workers v r e = refl
pending_fault Lives v r e = refl
pending_fault Records v r e = absurd (e refl)
pending_fault Schedule v r e = refl
pending_fault Turns v r e = refl
pending_fault Number v r e = refl

pub pending_rows : (n : Name) (v : Text) (r : List Row) → n ≢ Records → entered r (pending n v) ≡ used (rule n) (values n v) r
pending_rows Workers v r e = refl
pending_rows Lives v r e = refl
pending_rows Records v r e = absurd (e refl)
pending_rows Schedule v r e = refl
pending_rows Turns v r e = refl
pending_rows Number v r e = refl

pub not_repeated : (n : Name) (r : List Row) → or_else (repeat_fault false (id_of n) r) [] ≡ [] → has_row (id_of n) r ≡ false
not_repeated n r = by (has_row (id_of n) r)
  where
    by : (b : Bool) → or_else (if b && true then kinds.ArgumentConflict ∷ [] else []) [] ≡ [] → b ≡ false
    by true e = absurd cc
    by false e = refl

pub first_time : (n : Name) (r : List Row) → has_row (id_of n) r ≡ false → or_else (repeat_fault false (id_of n) r) [] ≡ []
first_time n r e = rw e refl

-- the rows that the words leave, and the faults behind the last word
abbrev pub left : Held → List Row
left h = finished rules h

pub default_none : (n : Name) (rows : List Row) → default_fault rows (rule n) ≡ []
default_none n rows = by n (has_row (rule n).id rows)
  where
    by : (n : Name) (b : Bool) → ◌≡◌ {A = Kinds} (if b || is_empty (rule n).defaults then [] else given_default_fault (rule n) (rule n).defaults) []
    by Workers true = refl
    by Workers false = refl
    by Lives true = refl
    by Lives false = refl
    by Records true = refl
    by Records false = refl
    by Schedule true = refl
    by Schedule false = refl
    by Turns true = refl
    by Turns false = refl
    by Number true = refl
    by Number false = refl
