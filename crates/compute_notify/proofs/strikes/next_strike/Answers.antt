use Rattle.std.proofs.Common.{sym, ◌∙◌, arith}
use Rattle.graph_model.specs.Plans.{hits}
use Rattle.compute_notify.proofs.Striking.Hitting.{hit_none, hit_all, hit_here, hit_past, few_hits}
use Rattle.compute_notify.proofs.strikes.next_strike.Goals as goal

pub loop-at-preserved : goal.loop-at-preserved
loop-at-preserved c =
    let ts = hits c.args.point c.args.duty.key c.args.duty.life c.args.plan.now in
    hit_past c.args.words c.loop-at.at ts _ c.loop-at.invariant c.in_ok-target.target (sym c.strikes_at.ensures ∙ c.in_ok-target.was) (sym c.is_there.ensures ∙ c.if-is_there.false)

pub returns-in_err-target : goal.returns-in_err-target
returns-in_err-target c =
    let ts = hits c.args.point c.args.duty.key c.args.duty.life c.args.plan.now in
    c.from_residual.ensures ∙ sym (hit_none c.args.words c.loop-at.at ts _ c.loop-at.invariant (sym c.strikes_at.ensures ∙ c.in_err-target.was))

pub returns : goal.returns
returns c =
    let ts = hits c.args.point c.args.duty.key c.args.duty.life c.args.plan.now in
    let few = few_hits c.args.point c.args.duty.key c.args.duty.life c.args.plan.now in
    let count = c.len-at-end.ensures.count in
    let end = c.loop-at-test.false in
    sym (hit_all c.args.words c.loop-at.at ts _ c.loop-at.invariant c.len-at-end.result (omega (arith, few, count)) end)

pub returns-then-is_there : goal.returns-then-is_there
returns-then-is_there c =
    let ts = hits c.args.point c.args.duty.key c.args.duty.life c.args.plan.now in
    sym (hit_here c.args.words c.loop-at.at ts _ c.loop-at.invariant c.in_ok-target.target (sym c.strikes_at.ensures ∙ c.in_ok-target.was) (sym c.is_there.ensures ∙ c.if-is_there.true))
