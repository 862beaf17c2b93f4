use Rattle.std.proofs.Common.{sym, subst}
use Rattle.formula_text.specs.Writing.{IsWithin}
use Rattle.formula_text.proofs.MinimalLaws.{is_within}
use Rattle.formula_text.proofs.formula.Formula.parse.Goals as goal

pub code_of-requires : goal.code_of-requires
code_of-requires c = (is_within _ _ c.in_ok-node.ensures.found).writable

pub invariant_of-result : goal.invariant_of-result
invariant_of-result c = record { within = subst IsWithin (sym c.in_ok-code_of.ensures) (is_within _ _ c.in_ok-node.ensures.found) }
