use Rattle.audit_checks.specs.Rows.{rows_of}
use Rattle.audit_cycles.specs.Work.{work_left}
use Rattle.audit_cycles.proofs.LevelSteps.{IsTelling}
use Rattle.audit_cycles.proofs.levels.Levelling.tell.Given as goal

abbrev pub invariant-loop-k : goal.invariant-loop-k
invariant-loop-k l =
    IsTelling (rows_of l.places) l.self.levels.items (rows_of l.self.waiting.items) l.self.ready.items l.k-items l.k-index (work_left l.initial.self)
