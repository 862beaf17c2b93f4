use Rattle.std.proofs.Common.{◌∷◌, [], sym}
use Rattle.drill_input.specs.Drill.{last_tree}
use Rattle.drill_input.proofs.Texts.{last_within, last_text, known}
use Rattle.drill_input.proofs.formulas.last_formula.Goals as goal

pub formula_of-requires : goal.formula_of-requires
formula_of-requires c = (last_tree, last_within, sym last_text)

pub returns : goal.returns
returns c = known c.formula_of.result (36 ∷ 48 ∷ 43 ∷ 36 ∷ 49 ∷ []) last_tree c.formula_of.ensures last_within (sym last_text)
