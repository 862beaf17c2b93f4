use Rattle.std.proofs.Common.{◌∙◌, pos, refl, arith}
use Rattle.apsp_graph.proofs.WritingLemmas.{empty_line, whole_line, all_of_rest}
use Rattle.apsp_graph.proofs.writing.push_row.Goals as goal

pub returns-then-row-eq0 : goal.returns-then-row-eq0
returns-then-row-eq0 c = c.in_ok-push.ensures.items ∙ empty_line c.args.row.now c.args.text.now.items c.if-row-eq0.true

pub returns : goal.returns
returns c = whole_line c.args.row.now _ (pos 0) c.args.text.now.items c.push_weight.new.text.items c.push_spaced.new.text.items c.push-2.new.self.items (omega arith) (all_of_rest c.args.row.now _ refl) c.in_ok-push_weight.ensures c.in_ok-push_spaced.ensures c.in_ok-push-2.ensures.items
