use Rattle.core_laws.proofs.Holding.{suspect_shown}
use Rattle.core_laws.proofs.laws.suspected.Goals as goal

pub returns : goal.returns
returns g c vs i k l cause z some = suspect_shown g.C.Course.setting _ _ _ _ vs z i k l cause some
