use Rattle.std.proofs.Common.{sym, ◌∙◌}
use Rattle.core_laws.proofs.Holding.{value_shown, value_written}
use Rattle.core_laws.proofs.laws.quiet.Goals as goal

pub returns-clause-written : goal.returns-clause-written
returns-clause-written g c none = let o = c.args.closed.now in value_shown g.C.Course.setting _ _ _ _ o.meets _ o.root_is (sym o.pending_is ∙ none)

pub returns-clause-value : goal.returns-clause-value
returns-clause-value g c x is = let o = c.args.closed.now in value_written g.C.Course.setting _ _ _ _ o.meets _ o.root_is x is
