use Rattle.audit_checks.specs.Rows.{rows_of}
use Rattle.audit_cycles.specs.Ancestors.{HasNoCycleBefore}
use Rattle.audit_cycles.proofs.cycles.first_on_cycle.Given as goal

abbrev pub invariant-loop-k : goal.invariant-loop-k
invariant-loop-k l = HasNoCycleBefore (rows_of l.places) l.k
