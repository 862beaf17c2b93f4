use Rattle.std.proofs.Common.{sym, ◌∙◌}
use Rattle.core_laws.proofs.Holding.{landed_planned, played_plan}
use Rattle.core_laws.proofs.laws.played.Goals as goal

pub returns-clause-planned : goal.returns-clause-planned
returns-clause-planned g c = landed_planned g.C.Course.setting _ _ _ _ c.args.closed.now.meets

pub returns-clause-played : goal.returns-clause-played
returns-clause-played g c none = let o = c.args.closed.now in played_plan g.C.Course.setting _ _ _ _ o.meets (sym o.pending_is ∙ none)
