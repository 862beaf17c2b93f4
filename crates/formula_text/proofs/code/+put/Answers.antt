use Rattle.std.proofs.Common.{arith}
use Rattle.std.proofs.lemmas.Result.{on_ok_weaker}
use Rattle.formula_text.specs.Trees.{tree_of}
use Rattle.formula_text.proofs.CodeLaws.{put_input, put_minus, put_operands}
use Rattle.formula_text.proofs.code.+put.Goals as goal

pub returns-in_ok-push-in-Input : goal.returns-in_ok-push-in-Input
returns-in_ok-push-in-Input t c =
    let small = rw c.in-Input.is at c.requires in
    rw c.in-Input.is (put_input c.args.out.now.items c.push.new.self.items _ c.in-Input.i c.in_ok-push-in-Input.ensures.items (omega (arith, small)) small)

pub returns-in_ok-push-in-Minus : goal.returns-in_ok-push-in-Minus
returns-in_ok-push-in-Minus t c =
    rw c.in-Minus.is
    (on_ok_weaker c.put.result (put_minus c.args.out.now.items c.push-in-Minus.new.self.items c.put.new.out.items (tree_of c.in-Minus.a.value) c.in_ok-push-in-Minus.ensures.items) (rw c.deref.ensures at c.put.ensures))

pub returns-in_ok-put-in-Two : goal.returns-in_ok-put-in-Two
returns-in_ok-put-in-Two t c =
    let left = rw c.deref-in-Two.ensures at c.in_ok-put-in-Two.ensures in
    rw c.in-Two.is
    (on_ok_weaker c.put-in-Two-2.result
    (put_operands c.args.out.now.items c.push-in-Two.new.self.items c.put-in-Two.new.out.items c.put-in-Two-2.new.out.items c.op_byte.result c.in-Two.op (tree_of c.in-Two.a.value) (tree_of c.in-Two.b.value) c.in_ok-push-in-Two.ensures.items c.op_byte.ensures left)
    (rw c.deref-in-Two-2.ensures at c.put-in-Two-2.ensures))
