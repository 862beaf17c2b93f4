use Rattle.std.proofs.Common.{sym, ◌∙◌}
use Rattle.core_laws.proofs.Holding.{without_fault, root_unreplaced}
use Rattle.core_laws.proofs.laws.no_fault.Goals as goal

pub returns-clause-tasks : goal.returns-clause-tasks
returns-clause-tasks g c none = let o = c.args.closed.now in without_fault g.C.Course.setting _ _ _ _ o.meets (sym o.pending_is ∙ none)

pub returns-clause-root : goal.returns-clause-root
returns-clause-root g c none = root_unreplaced g.C.Course.setting _ _ _ _ c.args.closed.now.meets none
