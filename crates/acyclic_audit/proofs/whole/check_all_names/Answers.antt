use Rattle.std.proofs.lemmas.Result.{err_from_is_err_and}
use Rattle.audit_checks.proofs.LeastTask.{no_sink, has_names}
use Rattle.acyclic_audit.proofs.whole.check_all_names.Goals as goal

pub returns-in_err-check_keys-clause-err : goal.returns-in_err-check_keys-clause-err
returns-in_err-check_keys-clause-err c =
    let p = err_from_is_err_and c.from_residual.result c.from_residual.ensures.1 in rw (p.1, p.2) (c.in_err-check_keys.ensures.err c.args.sink.0)

pub returns-in_err-check_names-clause-err : goal.returns-in_err-check_names-clause-err
returns-in_err-check_names-clause-err c =
    let p = err_from_is_err_and c.from_residual-in_err-check_names.result c.from_residual-in_err-check_names.ensures.1 in rw (p.1, p.2) (c.in_err-check_names.ensures.err c.args.sink.0)

pub returns-in_default-clause-err : goal.returns-in_default-clause-err
returns-in_default-clause-err c =
    no_sink c.args.tasks.now c.args.keys.now c.args.sink.0 c.requires.keys c.in_ok-check_keys.ensures.ok c.in_ok-check_names.ensures.ok c.in_default.ensures

pub returns-in_err-check_places-clause-err : goal.returns-in_err-check_places-clause-err
returns-in_err-check_places-clause-err c =
    let p = err_from_is_err_and c.from_residual-in_err-check_places.result c.from_residual-in_err-check_places.ensures.1 in
    rw (p.1, p.2) (c.in_err-check_places.ensures.err c.args.sink.0
    (has_names c.args.tasks.now c.args.keys.now c.args.sink.0 c.in-Some.number c.requires.keys c.in_ok-check_keys.ensures.ok c.in_ok-check_names.ensures.ok c.in-Some.ensures))

pub returns-clause-names : goal.returns-clause-names
returns-clause-names c =
    has_names c.args.tasks.now c.args.keys.now c.args.sink.0 c.in-Some.number c.requires.keys c.in_ok-check_keys.ensures.ok c.in_ok-check_names.ensures.ok c.in-Some.ensures
