use Rattle.std.proofs.Common.{◌∙◌, pos}
use Rattle.formula_text.specs.Trees.{Number}
use Rattle.drill_input.proofs.Texts.{number_within, known}
use Rattle.drill_input.proofs.formulas.number_formula.Goals as goal

pub formula_of-requires : goal.formula_of-requires
formula_of-requires c = (Number (pos c.args.value), number_within c.args.value c.requires, c.as_str.ensures.value ∙ c.in_ok-text.ensures.ok)

pub returns : goal.returns
returns c = known c.formula_of.result c.as_str.result.now (Number (pos c.args.value)) c.formula_of.ensures (number_within c.args.value c.requires) (c.as_str.ensures.value ∙ c.in_ok-text.ensures.ok)
