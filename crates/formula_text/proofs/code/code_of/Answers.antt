use Rattle.formula_text.specs.Trees.{tree_of}
use Rattle.formula_text.proofs.CodeLaws.{whole_code}
use Rattle.formula_text.proofs.code.code_of.Goals as goal

pub returns : goal.returns
returns c = whole_code _ _ _ (tree_of c.args.node.now) c.in_ok-code.ensures.items c.in_ok-put.ensures c.shrink_to_fit.ensures.items
