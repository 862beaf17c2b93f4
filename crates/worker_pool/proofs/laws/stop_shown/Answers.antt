use Rattle.worker_pool.proofs.Threading.Joining.{shown_by}
use Rattle.worker_pool.proofs.laws.stop_shown.Goals as goal

pub returns : goal.returns
returns g c = λ vs ended tells. shown_by g.C.Course.setting _ _ _ _ c.suspected.ensures vs ended c.args.stop tells
