use Rattle.std.proofs.Common.{arith}
use Rattle.audit_checks.proofs.RowLemmas.{push_row}
use Rattle.audit_checks.proofs.rows.push_at.Goals as goal

pub returns-clause-ok : goal.returns-clause-ok
returns-clause-ok g c = push_row c.args.rows.now.items c.args.at c.index_mut.result.now c.push.new.self c.args.item (omega arith) c.index_mut.ensures.value c.in_ok-push.ensures.items
