use Rattle.std.proofs.Common.{◌∙◌, ap, sym}
use Rattle.core_state.specs.Graph.{Setting, greatest_life}
use Rattle.worker_pool.proofs.Calls.{called_still}
use Rattle.worker_pool.proofs.serving.turned.Goals as goal

pub stopped-requires : goal.stopped-requires
stopped-requires g c = let e = g.T.Steps.setting c.args.steps.now in let w = g.T.Steps.view c.turn.new.steps in let turn = c.turn.ensures in let shown = rw c.in-Ok-Some.field-0-is at c.in-Ok-Some.ensures.spent in
    record {
      ends = (
        c.has_block.ensures.none c.if-has_block.false (g.G.TaskGraph.graph c.args.terms.now.graph.now) e w turn.holds,
        (shown.0 ∙ ap (λ (d : Setting). greatest_life d c.in-Ok-Some.spent.key.0) (sym turn.table.same_setting), shown.1),
      );
    }

pub returns-else-has_block-clause-calls : goal.returns-else-has_block-clause-calls
returns-else-has_block-clause-calls g c = λ before has. called_still before _ _ _ c.stopped.ensures.results (c.turn.ensures.calls before has)

pub returns-in-Err-clause-calls : goal.returns-in-Err-clause-calls
returns-in-Err-clause-calls g c = λ before has. called_still before _ _ _ c.stopped-in-Err.ensures.results (c.turn.ensures.calls before has)
