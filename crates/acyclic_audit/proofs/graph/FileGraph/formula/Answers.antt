use Rattle.std.proofs.Common.{arith}
use Rattle.acyclic_audit.proofs.Lookups.{given_at}
use Rattle.acyclic_audit.proofs.graph.FileGraph.formula.Goals as goal

pub returns-clause-inputs : goal.returns-clause-inputs
returns-clause-inputs c =
    let t = c.args.self.now in
    given_at t.keys.items t.tasks.items c.args.key.0 c.number.result c.index.result.now c.number.ensures.is (omega arith) c.index.ensures
    (λ i uses. c.args.self.now.whole.given c.args.key.0 i c.requires uses)
