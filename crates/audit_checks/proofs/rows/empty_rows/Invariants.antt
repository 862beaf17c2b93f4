use Rattle.std.proofs.Common.{◌≡◌, [], replicate}
use Rattle.audit_checks.specs.Rows.{rows_of}
use Rattle.audit_checks.proofs.rows.empty_rows.Given as goal

abbrev pub invariant-loop : goal.invariant-loop
invariant-loop g l = rows_of l.rows.items ≡ replicate l.counter []
