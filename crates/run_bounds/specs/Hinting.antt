-- Hints at rows with posted jobs: so many as need be are kept, or are at hand.
use Rattle.std.specs.Prelude.{◌≡◌, ℕ, ◌+◌, ◌<◌, ◌≤◌, min, eqb, List, length}
use Rattle.core_state.specs.Counts.{count, hit}

-- Hints at a row: a that have not asked for exploring, b that have; x and c are the row's job words, for exploring and for computing. A hint that asked too early for exploring would lose it.
pub record HasHints (a b x c : ℕ) : Type 0 where
  pub for_exploring : 0 < x → 0 < a
  pub enough : min 1 x + min 1 c ≤ a + b

-- how often the row stands in a list
abbrev pub times : ℕ → List ℕ → ℕ
times r rows = count (eqb r) rows

-- a hint was taken from a list
pub record HintTaken (before : List ℕ) (r : ℕ) (now : List ℕ) : Type 0 where
  pub one_less : length before ≡ length now + 1
  pub the_row : (q : ℕ) → times q before ≡ times q now + hit (eqb q r)

-- hints were put into a list, in whatever order
pub record HintsPut (before rows now : List ℕ) : Type 0 where
  pub all : length now ≡ length before + length rows
  pub each : (q : ℕ) → times q now ≡ times q before + times q rows
