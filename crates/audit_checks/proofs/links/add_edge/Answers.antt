use Rattle.std.proofs.Common.{◌≡◌, length, ap, arith}
use Rattle.audit_checks.specs.Rows.{row}
use Rattle.audit_checks.specs.Links.{places_in, succs_in}
use Rattle.audit_checks.proofs.RowLemmas.{row_at, rows_long}
use Rattle.audit_checks.proofs.Mirror.{reverse_pushed}
use Rattle.audit_checks.proofs.links.add_edge.Goals as goal

pub overflow_cast-port : goal.overflow_cast-port
overflow_cast-port c =
    omega (arith, c.requires.few c.args.p, ap length (row_at c.args.links.now.succs.items c.args.p c.index.result.now (omega (arith, c.requires.pred)) c.index.ensures), c.len-port.ensures)

pub returns-clause-reverse : goal.returns-clause-reverse
returns-clause-reverse c =
    let port : c.len-port.result ≡ length (row (succs_in c.args.links.now) c.args.p) =
    omega (arith, c.len-port.ensures, ap length (row_at c.args.links.now.succs.items c.args.p c.index.result.now (omega (arith, c.requires.pred)) c.index.ensures)) in
    rw (c.in_ok-push_at-2.ensures.ok, c.in_ok-push_at.ensures.ok)
    (reverse_pushed (places_in c.args.links.now) (succs_in c.args.links.now) c.args.k c.args.p c.args.j c.len-port.result
    (omega (arith, rows_long c.args.links.now.places.items, c.requires.task)) (omega (arith, rows_long c.args.links.now.succs.items, c.requires.pred))
    c.requires.place port c.requires.reverse)
