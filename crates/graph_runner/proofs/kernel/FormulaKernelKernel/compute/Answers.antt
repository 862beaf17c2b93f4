use mir.Val.{SFits}
use mir.Syntax.{w64}
use Rattle.std.proofs.lemmas.Int.{to_z-of_z}
use Rattle.std.proofs.Common.{◌∙◌, [], ◌∷◌, length, sym, subst, ap, rules}
use Rattle.formula_text.specs.Trees.{HasInputs, Tree, value_of}
use Rattle.formula_text.specs.Formulas.{tree}
use Rattle.acyclic_audit.specs.Views.{tree_at}
use Rattle.graph_runner.proofs.Formulas.{single_cells, one_set}
use Rattle.graph_runner.proofs.kernel.FormulaKernelKernel.compute.Goals as goal

pub eval-requires : goal.eval-requires
eval-requires g c =
    subst (HasInputs (tree c.formula.result.now))
    (sym (ap length c.cells.ensures ∙ single_cells c.args.inputs.now.lists c.requires.fits.single ∙ c.requires.fits.count)) c.formula.ensures.inputs

pub returns-clause-outcome : goal.returns-clause-outcome
returns-clause-outcome g c =
    let fits : SFits w64 c.eval.result = search rules in
    let value = c.eval.ensures ∙ ap (λ (t : Tree). value_of t c.cells.result.now) c.formula.ensures.tree ∙ ap (value_of (tree_at c.args.self.now.graph.now c.args.key.0)) c.cells.ensures in
    simp to_z-of_z (one_set c.args.out.now c.eval.result c.requires.cells ∙ ap (λ z. z ∷ []) value)
