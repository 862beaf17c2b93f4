use Rattle.std.proofs.Common.{sym, subst}
use Rattle.audit_checks.specs.Tasks.{IsAscending}
use Rattle.audit_checks.proofs.KeyLaws.{number_at}
use Rattle.acyclic_audit.proofs.graph.FileGraph.number.Goals as goal

pub returns-clause-is : goal.returns-clause-is
returns-clause-is c =
    rw (← c.as_slice.ensures.value)
    (sym (number_at c.as_slice.result.now c.number_of.result c.args.key.0 (subst IsAscending (sym c.as_slice.ensures.value) c.args.self.now.whole.ascending) c.number_of.ensures.inside c.number_of.ensures.key))
