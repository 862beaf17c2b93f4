use Rattle.core_laws.proofs.Holding.{of_tasks, from_one, spent_once, computed_once, replaced_once, root_replaced}
use Rattle.core_laws.proofs.laws.once.Goals as goal

pub returns-clause-tasks : goal.returns-clause-tasks
returns-clause-tasks g c = of_tasks g.C.Course.setting _ _ _ _ c.args.closed.now.meets

pub returns-clause-spent : goal.returns-clause-spent
returns-clause-spent g c = spent_once g.C.Course.setting _ _ _ _ c.args.closed.now.meets

pub returns-clause-computed : goal.returns-clause-computed
returns-clause-computed g c = computed_once g.C.Course.setting _ _ _ _ c.args.closed.now.meets

pub returns-clause-replaced : goal.returns-clause-replaced
returns-clause-replaced g c = replaced_once g.C.Course.setting _ _ _ _ c.args.closed.now.meets

pub returns-clause-root : goal.returns-clause-root
returns-clause-root g c = root_replaced g.C.Course.setting _ _ _ _ c.args.closed.now.meets

pub returns-clause-lives : goal.returns-clause-lives
returns-clause-lives g c k = from_one g.C.Course.setting _ _ _ _ c.args.closed.now.meets k
