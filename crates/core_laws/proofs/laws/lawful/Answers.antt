use Rattle.std.proofs.Common.{sym, ◌∙◌}
use Rattle.core_laws.proofs.Holding.{six_laws, all_laws}
use Rattle.core_laws.proofs.laws.lawful.Goals as goal

pub returns-clause-six : goal.returns-clause-six
returns-clause-six g c = six_laws g.C.Course.setting _ _ _ _ c.args.closed.now.meets

pub returns-clause-all : goal.returns-clause-all
returns-clause-all g c none = let o = c.args.closed.now in all_laws g.C.Course.setting _ _ _ _ o.meets (sym o.pending_is ∙ none)
