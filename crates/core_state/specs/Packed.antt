-- The packed words as values. Bits 0 to 39 of a descriptor say which predecessors' places are spent, bit 40 says it of the self place; bits 0 to 39 of a notify word say which ports are registered, bit 40 that it is closed. In both bit 41 is the mark, bits 48 to 63 are the life less 1, and the others are 0. A recovery word is twice the life less 1, and one more while the life is being replaced.
use Rattle.std.specs.Prelude.{ℕ, ◌+◌, ◌-◌, ◌*◌, ◌/◌, ◌%◌, ◌^◌, ◌≤◌, ◌==◌, Bool, true, false}
use Rattle.core_state.specs.Words.{life_of, mark_of, closed_bit}
use Rattle.core_state.specs.declared.words.Descriptor.{Descriptor}
use Rattle.core_state.specs.declared.words.NotifyWord.{NotifyWord}
use Rattle.core_state.specs.declared.words.Recovery.{Recovery}

-- a truth value as a bit
abbrev pub bit_of : Bool → ℕ
bit_of true = 1
bit_of false = 0

-- a life that a word can show
abbrev pub IsLife : ℕ → Type 0
IsLife life = (1 ≤ life) × (life ≤ 65536)

-- what a descriptor word shows
abbrev pub descriptor_of : ℕ → Descriptor
descriptor_of n = record { life = life_of n; struck = mark_of n == 1; spent = n % 2 ^ 41 }

-- the word that shows it
abbrev pub descriptor_word : Descriptor → ℕ
descriptor_word d = (d.life - 1) * 2 ^ 48 + bit_of d.struck * 2 ^ 41 + d.spent

-- what a notify word shows
abbrev pub notify_of : ℕ → NotifyWord
notify_of n = record { life = life_of n; struck = mark_of n == 1; closed = closed_bit n == 1; ports = n % 2 ^ 40 }

-- the word that shows it
abbrev pub notify_word : NotifyWord → ℕ
notify_word d = (d.life - 1) * 2 ^ 48 + bit_of d.struck * 2 ^ 41 + bit_of d.closed * 2 ^ 40 + d.ports

-- what a recovery word shows
abbrev pub recovery_of : ℕ → Recovery
recovery_of n = record { life = n / 2 % 65536 + 1; renewing = n % 2 == 1 }

-- the word that shows it
abbrev pub recovery_word : Recovery → ℕ
recovery_word d = 2 * (d.life - 1) + bit_of d.renewing
