use Rattle.std.proofs.Common.{subst, arith, rules}
use Rattle.std.proofs.lemmas.List.{take_all}
use Rattle.audit_blocks.specs.Versions.{AreWritten}
use Rattle.audit_blocks.proofs.WrittenLemmas.{written_none, written_more, written_same, written_moved, ordered_from_sort}
use Rattle.audit_blocks.proofs.written.written_in.Goals.{in-Some+in_ok-push, in_default}
use Rattle.audit_blocks.proofs.written.written_in.Goals as goal

pub loop-i-init : goal.loop-i-init
loop-i-init c = rw c.new-written.ensures.items written_none

pub loop-i-preserved : goal.loop-i-preserved
loop-i-preserved c = elim c.match-task.branch [
  | in-Some+in_ok-push w ↦ rw (w.written-is, w.in_ok-push.ensures.items)
      (written_more c.args.tasks.now c.loop-i.written.items c.loop-i.i c.index-tasks-i.result w.in-Some.block w.in-Some.version (omega arith) c.index-tasks-i.is w.in-Some.is c.loop-i.invariant)
  | in_default w ↦ rw w.written-is
      (written_same c.args.tasks.now c.loop-i.written.items c.loop-i.i c.index-tasks-i.result (omega arith) c.index-tasks-i.is w.in_default.is c.loop-i.invariant)
]

pub returns-clause-written : goal.returns-clause-written
returns-clause-written c = written_moved c.args.tasks.now c.loop-i.written.items c.sort_unstable_by_key.new.self.items c.sort_unstable_by_key.ensures.permutation
    (subst (λ l. AreWritten l c.loop-i.written.items) (take_all c.loop-i.i c.args.tasks.now (omega arith)) c.loop-i.invariant)

pub returns-clause-ordered : goal.returns-clause-ordered
returns-clause-ordered c = ordered_from_sort c.sort_unstable_by_key.new.self.items c.sort_unstable_by_key.ensures.sorted (λ a r h k. search rules)
