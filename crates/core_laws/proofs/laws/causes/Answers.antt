use Rattle.core_laws.proofs.Holding.{causes_shown, lives_named, spent_by_edge, root_causes}
use Rattle.core_laws.proofs.laws.causes.Goals as goal

pub returns-clause-shown : goal.returns-clause-shown
returns-clause-shown g c = causes_shown g.C.Course.setting _ _ _ _ c.args.closed.now.meets

pub returns-clause-lives : goal.returns-clause-lives
returns-clause-lives g c = lives_named g.C.Course.setting _ _ _ _ c.args.closed.now.meets

pub returns-clause-edges : goal.returns-clause-edges
returns-clause-edges g c = spent_by_edge g.C.Course.setting _ _ _ _ c.args.closed.now.meets

pub returns-clause-root : goal.returns-clause-root
returns-clause-root g c = root_causes g.C.Course.setting _ _ _ _ c.args.closed.now.meets
