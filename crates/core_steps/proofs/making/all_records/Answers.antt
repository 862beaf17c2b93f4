use Rattle.std.proofs.Common.{ap, ◌∙◌, arith}
use Rattle.core_state.specs.Counts.{count}
use Rattle.core_steps.specs.Table.{Stored}
use Rattle.core_steps.proofs.Growing.{all_more}
use Rattle.core_steps.proofs.making.all_records.Goals as goal

pub loop-worker-preserved : goal.loop-worker-preserved
loop-worker-preserved c p = ap (count p) c.in_ok-extend_from_slice.ensures.items
    ∙ all_more c.args.stores.now c.loop-worker.worker c.index-stores-worker.result c.loop-worker.all.items c.as_slice.result.now (let a = c.loop-worker-test.true in let b = c.loop-worker.auto.worker-end in omega (arith, a, b)) (c.as_slice.ensures ∙ ap (λ (s : Stored). s.records) c.index-stores-worker.is) c.loop-worker.invariant p
