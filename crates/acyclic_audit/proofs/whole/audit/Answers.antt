use Rattle.std.proofs.Common.{◌≡◌, All}
use Rattle.std.proofs.lemmas.Result.{IfOk-weaker, IfErr-weaker, on_ok_weaker}
use Rattle.std.proofs.lemmas.List.Sorted.{IsPermutation-sym, All-permutation}
use Rattle.formula_text.specs.Formulas.{tree}
use Rattle.raw_graph.specs.declared.raw.RawTask.{RawTask}
use Rattle.audit_checks.specs.Tasks.{key_of}
use Rattle.audit_checks.specs.Faults.{IsFault}
use Rattle.acyclic_audit.specs.Meaning.{IsGraphOf}
use Rattle.acyclic_audit.specs.Refusals.{Refuses}
use Rattle.acyclic_audit.specs.Views.{graph, tree_at}
use Rattle.acyclic_audit.proofs.Orders.{limits_moved, accepted_moved, fault_moved, meaning_moved}
use Rattle.acyclic_audit.proofs.Refusing.{refuses}
use Rattle.acyclic_audit.proofs.whole.audit.Goals as goal

pub audit_sorted-requires-clause-limits : goal.audit_sorted-requires-clause-limits
audit_sorted-requires-clause-limits c = limits_moved c.args.raw.tasks.items c.sorted.result.items c.args.raw.sink.0 c.sorted.ensures.moved c.requires

pub returns-clause-accepted : goal.returns-clause-accepted
returns-clause-accepted c =
    let back = IsPermutation-sym c.args.raw.tasks.items c.sorted.result.items c.sorted.ensures.moved in
    on_ok_weaker c.audit_sorted.result (accepted_moved c.sorted.result.items c.args.raw.tasks.items c.args.raw.sink.0 back) c.audit_sorted.ensures.accepted

pub returns-clause-refused : goal.returns-clause-refused
returns-clause-refused c =
    let back = IsPermutation-sym c.args.raw.tasks.items c.sorted.result.items c.sorted.ensures.moved in
    IfErr-weaker c.audit_sorted.result (IsFault c.sorted.result.items c.args.raw.sink.0) (Refuses c.args.raw.tasks.items c.args.raw.sink.0)
    (λ e fault. refuses c.args.raw.tasks.items c.args.raw.sink.0 e (fault_moved c.sorted.result.items c.args.raw.tasks.items c.args.raw.sink.0 e back fault))
    c.audit_sorted.ensures.err

pub returns-clause-err : goal.returns-clause-err
returns-clause-err c =
    let back = IsPermutation-sym c.args.raw.tasks.items c.sorted.result.items c.sorted.ensures.moved in
    IfErr-weaker c.audit_sorted.result (IsFault c.sorted.result.items c.args.raw.sink.0) (IsFault c.args.raw.tasks.items c.args.raw.sink.0)
    (λ e fault. fault_moved c.sorted.result.items c.args.raw.tasks.items c.args.raw.sink.0 e back fault)
    c.audit_sorted.ensures.err

pub returns-clause-graph : goal.returns-clause-graph
returns-clause-graph c =
    let back = IsPermutation-sym c.args.raw.tasks.items c.sorted.result.items c.sorted.ensures.moved in
    IfOk-weaker c.audit_sorted.result (λ g. IsGraphOf c.sorted.result.items c.args.raw.sink.0 (graph g)) (λ g. IsGraphOf c.args.raw.tasks.items c.args.raw.sink.0 (graph g))
    (λ g is. meaning_moved c.sorted.result.items c.args.raw.tasks.items c.args.raw.sink.0 (graph g) back is)
    c.audit_sorted.ensures.graph

pub returns-clause-trees : goal.returns-clause-trees
returns-clause-trees c =
    let back = IsPermutation-sym c.args.raw.tasks.items c.sorted.result.items c.sorted.ensures.moved in
    IfOk-weaker c.audit_sorted.result (λ g. All (λ (t : RawTask). tree_at g (key_of t) ≡ tree t.formula) c.sorted.result.items) (λ g. All (λ (t : RawTask). tree_at g (key_of t) ≡ tree t.formula) c.args.raw.tasks.items)
    (λ g is. All-permutation (λ (t : RawTask). tree_at g (key_of t) ≡ tree t.formula) c.sorted.result.items c.args.raw.tasks.items back is)
    c.audit_sorted.ensures.trees
