use Rattle.std.proofs.Common.{refl}
use Rattle.std.proofs.lemmas.Result.{err_from_is_err_and}
use Rattle.serde_json.specs.View.{view}
use Rattle.graph_reader.proofs.Fits.{strikes_have_keys}
use Rattle.graph_reader.proofs.Order.{all_pass, last_fails}
use Rattle.graph_reader.proofs.Passed.{file_is_within}
use Rattle.graph_reader.proofs.read.file.Goals as goal

pub returns-in_err-strikes-clause-answers : goal.returns-in_err-strikes-clause-answers
returns-in_err-strikes-clause-answers c =
    let p = err_from_is_err_and c.from_residual-in_err-strikes.result c.from_residual-in_err-strikes.ensures.1 in
    let strikes = rw (c.as_slice.ensures.value, c.in_ok-tasks.ensures.1) at c.in_err-strikes.ensures in
    rw (p.1, p.2)
    (last_fails _ _ _ _ _ _ _ c.in_ok-check_object.ensures.0 c.in_ok-version_at.ensures.0 c.in_ok-check_names.ensures.0 c.in_ok-sink.ensures.0 c.in_ok-tasks.ensures.0 strikes)

pub returns-clause-answers : goal.returns-clause-answers
returns-clause-answers c =
    let strikes = rw (c.as_slice.ensures.value, c.in_ok-tasks.ensures.1) at c.in_ok-strikes.ensures in (
      all_pass _ _ _ _ _ _ c.in_ok-check_object.ensures.0 c.in_ok-version_at.ensures.0 c.in_ok-check_names.ensures.0 c.in_ok-sink.ensures.0 c.in_ok-tasks.ensures.0 strikes.0,
      rw (c.in_ok-sink.ensures.1, c.in_ok-tasks.ensures.1, strikes.1) refl,
    )

pub returns-clause-within : goal.returns-clause-within
returns-clause-within c = file_is_within (view c.args.value.now) _ (returns-clause-answers c)

pub returns-clause-few : goal.returns-clause-few
returns-clause-few c = (returns-clause-within c).few

pub returns-clause-keys : goal.returns-clause-keys
returns-clause-keys c = strikes_have_keys _ (returns-clause-within c)
