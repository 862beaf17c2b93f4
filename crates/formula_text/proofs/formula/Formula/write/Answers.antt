use Rattle.std.proofs.lemmas.Result.{IfOk-weaker}
use Rattle.formula_text.specs.Formulas.{tree}
use Rattle.formula_text.proofs.AsciiLaws.{text_is_ascii}
use Rattle.formula_text.proofs.RoundTrip.{reads_again}
use Rattle.formula_text.proofs.WritingLaws.{text_is_formula}
use Rattle.formula_text.proofs.formula.Formula.write.Goals as goal

pub returns-clause-back : goal.returns-clause-back
returns-clause-back c =
    let f = c.args.self.now in
    IfOk-weaker c.text.result _ _ (λ text e. rw e (rw c.as_slice.ensures.value (text_is_formula (tree f) f.within))) c.text.ensures

pub returns-clause-again : goal.returns-clause-again
returns-clause-again c =
    let f = c.args.self.now in
    IfOk-weaker c.text.result _ _ (λ text e. rw e (rw c.as_slice.ensures.value (reads_again (tree f) f.within))) c.text.ensures

pub returns-clause-ascii : goal.returns-clause-ascii
returns-clause-ascii c =
    let f = c.args.self.now in
    IfOk-weaker c.text.result _ _ (λ text e. rw e (rw c.as_slice.ensures.value (text_is_ascii (tree f) f.within.writable))) c.text.ensures
