use Rattle.std.proofs.lemmas.Result.{err_from_is_err_and}
use Rattle.audit_checks.specs.Faults.{HasSizes, HasVersions}
use Rattle.acyclic_audit.proofs.Meant.{file_versions}
use Rattle.acyclic_audit.proofs.whole.check_all.Goals as goal

pub returns-in_err-levels-clause-err : goal.returns-in_err-levels-clause-err
returns-in_err-levels-clause-err c =
    let p = err_from_is_err_and c.from_residual-in_err-levels.result c.from_residual-in_err-levels.ensures.1 in
    let sizes : HasSizes c.args.tasks.now c.args.sink.0 = record { names = c.in_ok-number.ensures.names; places = c.in_ok-number.ensures.places; edges = c.in_ok-check_edges.ensures.ok } in
    rw (p.1, p.2) (c.in_err-levels.ensures.err c.args.sink.0 sizes)

pub blocks_of-requires-clause-versions : goal.blocks_of-requires-clause-versions
blocks_of-requires-clause-versions c = file_versions c.args.tasks.now c.args.sink.0 c.requires.limits

pub returns-in_err-blocks-clause-err : goal.returns-in_err-blocks-clause-err
returns-in_err-blocks-clause-err c =
    let p = err_from_is_err_and c.from_residual-in_err-blocks.result c.from_residual-in_err-blocks.ensures.1 in
    let sizes : HasSizes c.args.tasks.now c.args.sink.0 = record { names = c.in_ok-number.ensures.names; places = c.in_ok-number.ensures.places; edges = c.in_ok-check_edges.ensures.ok } in
    rw (p.1, p.2) (c.in_err-blocks.ensures.err c.args.sink.0 sizes c.in_ok-levels.ensures.acyclic)

pub returns-in_err-check_inputs-clause-err : goal.returns-in_err-check_inputs-clause-err
returns-in_err-check_inputs-clause-err c =
    let p = err_from_is_err_and c.from_residual-in_err-check_inputs.result c.from_residual-in_err-check_inputs.ensures.1 in
    let sizes : HasSizes c.args.tasks.now c.args.sink.0 = record { names = c.in_ok-number.ensures.names; places = c.in_ok-number.ensures.places; edges = c.in_ok-check_edges.ensures.ok } in
    let versions : HasVersions c.args.tasks.now c.args.sink.0 = record { sizes = sizes; acyclic = c.in_ok-levels.ensures.acyclic; once = c.in_ok-blocks.ensures.once; whole = c.in_ok-blocks.ensures.whole } in
    rw (p.1, p.2) (c.in_err-check_inputs.ensures.err c.args.sink.0 versions c.in_ok-blocks.ensures.ordered c.in_ok-blocks.ensures.read)
