use Rattle.formula_text.specs.declared.code.Head.TheVariants as heads
use Rattle.formula_text.proofs.HeadLaws.{behind_first, trees_by, two_text}
use Rattle.formula_text.proofs.writing.+push.Goals as goal

pub returns-in_ok-extend_from_slice-in-Two-2-clause-text : goal.returns-in_ok-extend_from_slice-in-Two-2-clause-text
returns-in_ok-extend_from_slice-in-Two-2-clause-text t c =
    let code = c.args.code.now in
    let whole = trees_by code (heads.Two c.in-Two.op) c.of.result c.in-len1-up.len_at_least c.of.ensures c.in-Two.is in
    two_text code (behind_first code) c.in_ok-rest-in-Two.rest.now c.in-Two.op c.args.wanted c.left_of.result c.right_of.result
    c.args.out.now.items c.extend_from_slice.new.self.items c.push.new.out.items c.push-in-Two.new.self.items c.push-in-Two-2.new.out.items c.extend_from_slice-in-Two.new.self.items
    c.before-in-Two.result.now c.behind.result.now c.sign.result
    whole c.in_ok-rest-in-Two.ensures.rest c.before-in-Two.ensures c.in_ok-extend_from_slice-in-Two.ensures.items c.left_of.ensures c.in_ok-rest-in-Two.ensures.text
    c.sign.ensures c.in_ok-push-in-Two.ensures.items c.right_of.ensures c.in_ok-rest-in-Two-2.ensures.text c.behind.ensures c.in_ok-extend_from_slice-in-Two-2.ensures.items
