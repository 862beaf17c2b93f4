use Rattle.std.proofs.Common.{◌∙◌, ap, [], ◌∷◌, ◌++◌}
use Rattle.std.proofs.lemmas.Result.{err_from_is_err_and}
use Rattle.graph_runner.proofs.Opens.{halted}
use Rattle.graph_runner.proofs.serve.printed.Goals as goal

pub returns : goal.returns
returns g c = record {
  raw = c.in_ok-raw.raw;
  plan = c.in_ok-raw.plan;
  loaded = c.in_ok-raw.ensures.0;
  says = c.in_ok-push.ensures.ok ∙ ap (λ text. text ++ 10 ∷ []) c.in_ok-text.ensures.text;
}

pub returns-in_err-text : goal.returns-in_err-text
returns-in_err-text g c =
    let p = err_from_is_err_and c.from_residual-in_err-text.result c.from_residual-in_err-text.ensures.1 in
    rw (p.1, p.2) (halted _ c.in_ok-raw.raw c.in_ok-raw.plan c.in_ok-raw.ensures.0)

pub returns-in_err-push : goal.returns-in_err-push
returns-in_err-push g c =
    let p = err_from_is_err_and c.from_residual-in_err-push.result c.from_residual-in_err-push.ensures.1 in
    rw (p.1, p.2) (halted _ c.in_ok-raw.raw c.in_ok-raw.plan c.in_ok-raw.ensures.0)
