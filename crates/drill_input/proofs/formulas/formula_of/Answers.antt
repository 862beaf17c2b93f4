use Rattle.std.proofs.Common.{◌≡◌, sym, subst, List, ℕ}
use Rattle.formula_text.specs.Trees.{Tree}
use Rattle.formula_text.specs.Grammar.{IsFormula}
use Rattle.formula_text.specs.Writing.{text_of, IsWithin}
use Rattle.formula_text.proofs.WritingLaws.{text_is_formula}
use Rattle.drill_input.proofs.formulas.formula_of.Goals as goal

stands : (text : List ℕ) (t : Tree) → IsWithin t → text ≡ text_of t → IsFormula text t
stands text t within is = subst (λ (bytes : List ℕ). IsFormula bytes t) (sym is) (text_is_formula t within)

pub want_of_memory-requires : goal.want_of_memory-requires
want_of_memory-requires c = c.in-Err.ensures.only c.requires.0 (stands c.args.text.now c.requires.0 c.requires.1 c.requires.2)

pub returns-in-Ok : goal.returns-in-Ok
returns-in-Ok c = λ t within is. c.in-Ok.ensures.only t (stands c.args.text.now t within is)
