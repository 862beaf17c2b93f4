use Rattle.std.proofs.Common.{arith}
use Rattle.core_state.proofs.Base.Bits.{low_bits}
use Rattle.core_state.proofs.words.Descriptor.of_word.Goals as goal

pub returns-clause-places : goal.returns-clause-places
returns-clause-places c = λ j low. low_bits 41 c.args.word j (omega arith)
