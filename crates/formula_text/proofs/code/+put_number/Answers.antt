use Rattle.std.proofs.Common.{arith}
use Rattle.std.proofs.lemmas.Result.{on_ok_weaker}
use Rattle.formula_text.proofs.CodeLaws.{put_small, put_digit}
use Rattle.formula_text.proofs.code.+put_number.Goals as goal

pub returns-then-n-lt80 : goal.returns-then-n-lt80
returns-then-n-lt80 t c = put_small _ _ _ c.args.n c.in_ok-push.ensures.items (omega arith) c.if-n-lt80.true

pub returns : goal.returns
returns t c =
    on_ok_weaker c.put_number.result (put_digit c.args.out.now.items c.push-2.new.self.items c.put_number.new.out.items _ c.args.n c.in_ok-push-2.ensures.items (omega arith)) c.put_number.ensures
