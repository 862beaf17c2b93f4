-- What is written is read again.
use Rattle.std.proofs.Common.{◌≡◌, Ok}
use Rattle.formula_text.specs.Trees.{Tree}
use Rattle.formula_text.specs.Machine.{reading}
use Rattle.formula_text.specs.Writing.{text_of, IsWithin}
use Rattle.formula_text.proofs.Completeness.{is_read}
use Rattle.formula_text.proofs.WritingLaws.{text_is_formula}

-- for a formula f it holds by `reads_again (tree f) f.within`
pub reads_again : (t : Tree) → IsWithin t → reading (text_of t) ≡ Ok t
reads_again t within = is_read (text_of t) t (text_is_formula t within)
