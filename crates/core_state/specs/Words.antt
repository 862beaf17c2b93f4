-- The words of the table by name, where each lies in the list of words, and what a word shows.
use Rattle.std.specs.Prelude.{ℕ, ◌+◌, ◌-◌, ◌*◌, ◌/◌, ◌%◌, ◌^◌, Bool, true, cond, ◌&&◌, nat_lt, List, slice_index}
use Rattle.std.specs.Int.{bit_at}
use Rattle.core_state.specs.declared.job.Job.{Job}
use Rattle.core_state.specs.declared.job.Job.TheVariants.{Explore, Compute}
use Rattle.core_state.specs.declared.views.Word.{Word}
use Rattle.core_state.specs.declared.views.Word.TheVariants.{Descriptor, Notify, Recovery}

-- how many rows a table has, how many notify words each row has, and how many blocks there are
pub record Shape : Type 0 where
  pub rows : ℕ
  pub notify_words : ℕ
  pub blocks : ℕ

-- the words of a table by name, by row, notify word and block
pub data Spot : Type 0 where
  pending : Spot
  stop : Spot
  key : ℕ → Spot
  descriptor : ℕ → Spot
  notify : ℕ → ℕ → Spot
  recovery : ℕ → Spot
  posted : Job → ℕ → Spot
  turn : ℕ → Spot

-- the words of one row
abbrev pub width : Shape → ℕ
width h = h.notify_words + 5

-- the job word for exploring stands before that for computing
abbrev pub job_offset : Job → ℕ
job_offset Explore = 0
job_offset Compute = 1

-- where a word stands: pending, stop, the rows with their words in order, the turn words
abbrev pub place_of : Shape → Spot → ℕ
place_of h pending = 0
place_of h stop = 1
place_of h (key r) = r * width h + 2
place_of h (descriptor r) = r * width h + 3
place_of h (notify r w) = r * width h + 4 + w
place_of h (recovery r) = r * width h + h.notify_words + 4
place_of h (posted j r) = r * width h + h.notify_words + 5 + job_offset j
place_of h (turn b) = h.rows * width h + 2 + b

-- the table has a word of this name
abbrev pub inside : Shape → Spot → Bool
inside h pending = true
inside h stop = true
inside h (key r) = nat_lt r h.rows
inside h (descriptor r) = nat_lt r h.rows
inside h (notify r w) = nat_lt r h.rows && nat_lt w h.notify_words
inside h (recovery r) = nat_lt r h.rows
inside h (posted j r) = nat_lt r h.rows
inside h (turn b) = nat_lt b h.blocks

-- a word by its name; a name beyond the shape reads as 0
unfoldable pub read : Shape → List ℕ → Spot → ℕ
read h ws a = cond (inside h a) (slice_index ws (place_of h a)) 0

-- what a descriptor or a notify word shows
abbrev pub life_of : ℕ → ℕ
life_of n = n / 2 ^ 48 + 1

-- whether a descriptor or a notify word shows the mark
abbrev pub mark_of : ℕ → ℕ
mark_of n = bit_at n 41

-- whether a notify word shows that it is closed
abbrev pub closed_bit : ℕ → ℕ
closed_bit n = bit_at n 40

-- what a recovery word shows: a life, and 1 where it is being replaced
abbrev pub standing_life : ℕ → ℕ
standing_life n = n / 2 + 1

-- whether that life is being replaced
abbrev pub replacing : ℕ → ℕ
replacing n = n % 2

-- a descriptor or a notify word of a life with nothing done in it
abbrev pub empty_word : ℕ → ℕ
empty_word l = (l - 1) * 2 ^ 48

-- the bits that a strike sets: the mark, and all places or ports of even number; in a notify word the closed bit too
abbrev pub even_bits : ℕ
even_bits = (2 ^ 40 - 1) / 3

-- the bits that a strike sets in a descriptor
abbrev pub descriptor_strike : ℕ
descriptor_strike = 2 ^ 41 + even_bits

-- the bits that a strike sets in a notify word
abbrev pub notify_strike : ℕ
notify_strike = 2 ^ 41 + 2 ^ 40 + even_bits

-- the words of a row that show a life, by name
abbrev pub spot_of : ℕ → Word → Spot
spot_of r Descriptor = descriptor r
spot_of r (Notify w) = notify r w
spot_of r Recovery = recovery r

-- the life that the word with this number shows
abbrev pub life_shown : Word → ℕ → ℕ
life_shown Descriptor n = life_of n
life_shown (Notify w) n = life_of n
life_shown Recovery n = standing_life n

-- whether the word with this number shows the mark; a recovery word has none
abbrev pub mark_shown : Word → ℕ → ℕ
mark_shown Descriptor n = mark_of n
mark_shown (Notify w) n = mark_of n
mark_shown Recovery n = 0
