use Rattle.std.proofs.Common.{◌∙◌, subst, sym, get_or, ap, arith, length}
use Rattle.acyclic_audit.specs.Found.{IsFound}
use Rattle.acyclic_audit.specs.Meaning.{IsGraphOf}
use Rattle.audit_checks.specs.Tasks.{key_of}
use Rattle.audit_checks.proofs.LeastTask.{keys_count}
use Rattle.acyclic_audit.proofs.Laws.{whole_of, lawful_of}
use Rattle.acyclic_audit.proofs.Meant.{meaning_of, trees_told}
use Rattle.acyclic_audit.proofs.whole.audit_sorted.Goals as goal

pub of-requires : goal.of-requires
of-requires c =
    omega (
      arith,
      c.requires.limits.few_tasks,
      ap length c.as_slice.ensures.value,
      ap length c.as_slice-2.ensures.value,
      keys_count c.as_slice.result.now c.in-Ok.keys.items c.in-Ok.ensures,
    )

pub of-requires-2-clause-whole : goal.of-requires-2-clause-whole
of-requires-2-clause-whole c =
    let found : IsFound c.in-Ok.keys.items c.args.tasks.items c.args.sink.0 c.in_ok-found.found =
    rw (← c.as_slice-3.ensures.value, ← c.as_slice-4.ensures.value) c.in_ok-found.ensures.found in
    whole_of c.in-Ok.keys.items c.args.tasks.items c.args.sink.0 c.in_ok-found.found found

pub of-requires-2-clause-lawful : goal.of-requires-2-clause-lawful
of-requires-2-clause-lawful c =
    let found : IsFound c.in-Ok.keys.items c.args.tasks.items c.args.sink.0 c.in_ok-found.found =
    rw (← c.as_slice-3.ensures.value, ← c.as_slice-4.ensures.value) c.in_ok-found.ensures.found in
    lawful_of c.in-Ok.keys.items c.args.tasks.items c.args.sink.0 c.in_ok-found.found found

pub returns-clause-graph : goal.returns-clause-graph
returns-clause-graph c =
    let found : IsFound c.in-Ok.keys.items c.args.tasks.items c.args.sink.0 c.in_ok-found.found =
    rw (← c.as_slice-3.ensures.value, ← c.as_slice-4.ensures.value) c.in_ok-found.ensures.found in
    subst (IsGraphOf c.args.tasks.items c.args.sink.0) (sym c.of-2.ensures.graph) (meaning_of c.in-Ok.keys.items c.args.tasks.items c.args.sink.0 c.in_ok-found.found found)

pub returns-clause-trees : goal.returns-clause-trees
returns-clause-trees c =
    let found : IsFound c.in-Ok.keys.items c.args.tasks.items c.args.sink.0 c.in_ok-found.found =
    rw (← c.as_slice-3.ensures.value, ← c.as_slice-4.ensures.value) c.in_ok-found.ensures.found in
    λ i d inside. c.of-2.ensures.trees (key_of (get_or c.args.tasks.items i d)) ∙ trees_told c.in-Ok.keys.items c.args.tasks.items c.args.sink.0 c.in_ok-found.found found i d inside
