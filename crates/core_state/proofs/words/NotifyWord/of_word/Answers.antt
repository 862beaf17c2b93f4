use Rattle.core_state.proofs.Base.Bits.{low_bits}
use Rattle.core_state.proofs.words.NotifyWord.of_word.Goals as goal

pub returns-clause-registered : goal.returns-clause-registered
returns-clause-registered c = λ b low. low_bits 40 c.args.word b low
