use Rattle.std.proofs.Common.{ltb, ltb-true, ltb-false, rules}
use Rattle.std.proofs.lemmas.List.Sorted.{IsPartitionPoint-from_clause, IsPartitionedBy-ltb}
use Rattle.graph_model.specs.Plans.{code_in}
use Rattle.graph_model.proofs.plan.places_before.Goals as goal

pub returns-clause-point : goal.returns-clause-point
returns-clause-point c =
    let parted = IsPartitionedBy-ltb (code_in c.args.strikes.now) _ c.args.code c.requires in
    let point = IsPartitionPoint-from_clause (λ place. ltb (code_in c.args.strikes.now place) c.args.code) _ _ c.partition_point.ensures.partitioned parted (λ a r q k. search rules) in
    (λ k d low high. ltb-true _ _ (point.0 k d low high), λ k d low high. ltb-false _ _ (point.1 k d low high))
