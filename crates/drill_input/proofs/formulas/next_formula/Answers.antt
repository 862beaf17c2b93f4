use Rattle.std.proofs.Common.{◌∷◌, [], sym}
use Rattle.drill_input.specs.Drill.{next_tree}
use Rattle.drill_input.proofs.Texts.{next_within, next_text, known}
use Rattle.drill_input.proofs.formulas.next_formula.Goals as goal

pub formula_of-requires : goal.formula_of-requires
formula_of-requires c = (next_tree, next_within, sym next_text)

pub returns : goal.returns
returns c = known c.formula_of.result (36 ∷ 48 ∷ 43 ∷ 49 ∷ []) next_tree c.formula_of.ensures next_within (sym next_text)
