use Rattle.std.proofs.Common.{pos}
use Rattle.apsp_graph.proofs.WritingLemmas.{spaced_step, spaced_end, cut_at}
use Rattle.apsp_graph.proofs.writing.push_spaced.Goals as goal

pub loop-weight-preserved : goal.loop-weight-preserved
loop-weight-preserved c =
    let ws = c.args.weights.now in
    let i = c.loop-weight.weight-index in
    spaced_step c.loop-weight.text.items c.push_weight.new.text.items c.push.new.self.items ws i _ _ (cut_at ws i (pos 0) c.loop-weight-test.true) c.in_ok-push.ensures.items c.in_ok-push_weight.ensures c.loop-weight.invariant

pub returns : goal.returns
returns c = spaced_end c.loop-weight.text.items c.args.weights.now c.loop-weight.weight-index _ c.loop-weight-test.false c.loop-weight.invariant
