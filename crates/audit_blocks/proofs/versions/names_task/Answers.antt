use Rattle.std.proofs.Common.{◌∙◌, ℕ, ap, sym, arith}
use Rattle.std.specs.Prelude.{◌==◌}
use Rattle.std.specs.List.{list_any}
use Rattle.audit_checks.proofs.RowLemmas.{row_at}
use Rattle.audit_blocks.proofs.versions.names_task.Goals as goal

pub returns : goal.returns
returns c = c.names.ensures ∙ ap (list_any (λ (e : ℕ × ℕ). e.0 == c.args.p))
    (c.as_slice.ensures.value ∙ sym (row_at c.args.links.now.places.items c.args.k c.index.result.now (omega (arith, c.requires)) c.index.ensures))
