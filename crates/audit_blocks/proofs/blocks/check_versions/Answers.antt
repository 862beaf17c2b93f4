use Rattle.std.proofs.Common.{vec_len, arith}
use Rattle.std.proofs.lemmas.Result.{err_from_is_err_and}
use Rattle.audit_checks.specs.Links.{places_in}
use Rattle.audit_checks.specs.Tasks.{keys_of}
use Rattle.audit_checks.proofs.RowLemmas.{rows_long}
use Rattle.audit_blocks.proofs.Gaps.{has_all}
use Rattle.audit_blocks.proofs.Once.{has_one}
use Rattle.audit_blocks.proofs.Orders.{has_ordered}
use Rattle.audit_blocks.proofs.PlaceLaws.{writers_inside}
use Rattle.audit_blocks.proofs.blocks.check_versions.Goals as goal

pub returns-in_err-check_once-clause-err : goal.returns-in_err-check_once-clause-err
returns-in_err-check_once-clause-err c =
    let p = err_from_is_err_and c.from_residual.result c.from_residual.ensures.1 in
    rw (p.1, p.2) (λ sink sizes acyclic. c.in_err-check_once.ensures.err c.args.tasks.now sink c.requires.written sizes acyclic)

pub returns-in_err-check_gaps-clause-err : goal.returns-in_err-check_gaps-clause-err
returns-in_err-check_gaps-clause-err c =
    let p = err_from_is_err_and c.from_residual-in_err-check_gaps.result c.from_residual-in_err-check_gaps.ensures.1 in
    rw (p.1, p.2) (λ sink sizes acyclic. c.in_err-check_gaps.ensures.err c.args.tasks.now sink c.requires.written sizes acyclic
    (has_one c.args.tasks.now c.args.written.now c.requires.written c.in_ok-check_once.ensures.ok))

pub check_order-requires-clause-inside : goal.check_order-requires-clause-inside
check_order-requires-clause-inside c =
    writers_inside c.args.tasks.now c.args.written.now c.requires.written (vec_len c.args.links.now.places) (omega (arith, c.requires.tells.long, rows_long c.args.links.now.places.items))

pub returns-in_err-check_order-clause-err : goal.returns-in_err-check_order-clause-err
returns-in_err-check_order-clause-err c =
    let p = err_from_is_err_and c.from_residual-in_err-check_order.result c.from_residual-in_err-check_order.ensures.1 in
    rw (p.1, p.2) (λ sink sizes acyclic. c.in_err-check_order.ensures.err c.args.tasks.now (keys_of c.args.tasks.now) sink c.requires.written c.requires.tells (record {
      sizes = sizes;
      acyclic = acyclic;
      once = has_one c.args.tasks.now c.args.written.now c.requires.written c.in_ok-check_once.ensures.ok;
      whole = has_all c.args.tasks.now c.args.written.now c.requires.written c.in_ok-check_gaps.ensures.ok;
    }))

pub returns-in_err-check_readers-clause-err : goal.returns-in_err-check_readers-clause-err
returns-in_err-check_readers-clause-err c =
    let p = err_from_is_err_and c.from_residual-in_err-check_readers.result c.from_residual-in_err-check_readers.ensures.1 in
    rw (p.1, p.2) (λ sink sizes acyclic. c.in_err-check_readers.ensures.err sink
    (record {
      sizes = sizes;
      acyclic = acyclic;
      once = has_one c.args.tasks.now c.args.written.now c.requires.written c.in_ok-check_once.ensures.ok;
      whole = has_all c.args.tasks.now c.args.written.now c.requires.written c.in_ok-check_gaps.ensures.ok;
    })
    (has_ordered c.args.tasks.now (keys_of c.args.tasks.now) c.args.written.now (places_in c.args.links.now) c.requires.written c.requires.tells c.in_ok-check_once.ensures.ok c.in_ok-check_order.ensures.ok))

pub returns-clause-once : goal.returns-clause-once
returns-clause-once c = has_one c.args.tasks.now c.args.written.now c.requires.written c.in_ok-check_once.ensures.ok

pub returns-clause-whole : goal.returns-clause-whole
returns-clause-whole c = has_all c.args.tasks.now c.args.written.now c.requires.written c.in_ok-check_gaps.ensures.ok

pub returns-clause-ordered : goal.returns-clause-ordered
returns-clause-ordered c =
    has_ordered c.args.tasks.now (keys_of c.args.tasks.now) c.args.written.now (places_in c.args.links.now) c.requires.written c.requires.tells c.in_ok-check_once.ensures.ok c.in_ok-check_order.ensures.ok
