use Rattle.std.proofs.Common.{rules}
use Rattle.std.proofs.lemmas.List.Sorted.{IsNonDecreasingBy-from_sort_by_key}
use Rattle.audit_checks.specs.Tasks.{key_of}
use Rattle.acyclic_audit.proofs.Laws.{keys_up}
use Rattle.acyclic_audit.proofs.whole.sorted.Goals as goal

pub returns-clause-sorted : goal.returns-clause-sorted
returns-clause-sorted c =
    keys_up c.sort_unstable_by_key.new.self.items
    (IsNonDecreasingBy-from_sort_by_key key_of c.sort_unstable_by_key.new.self.items c.sort_unstable_by_key.ensures.sorted (λ a r f called. search rules))
