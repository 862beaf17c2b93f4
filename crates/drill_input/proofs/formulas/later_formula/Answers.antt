use Rattle.std.proofs.Common.{◌∙◌, sym}
use Rattle.drill_input.specs.Drill.{later_tree}
use Rattle.drill_input.proofs.Texts.{later_within, later_text, known}
use Rattle.drill_input.proofs.formulas.later_formula.Goals as goal

pub formula_of-requires : goal.formula_of-requires
formula_of-requires c = (
  later_tree c.args.d c.args.e,
  later_within c.args.d c.args.e c.requires.near c.requires.far,
  c.as_str.ensures.value ∙ (c.in_ok-text.ensures.ok ∙ sym (later_text c.args.d c.args.e)),
)

pub returns : goal.returns
returns c = known c.formula_of.result c.as_str.result.now (later_tree c.args.d c.args.e) c.formula_of.ensures (later_within c.args.d c.args.e c.requires.near c.requires.far)
    (c.as_str.ensures.value ∙ (c.in_ok-text.ensures.ok ∙ sym (later_text c.args.d c.args.e)))
