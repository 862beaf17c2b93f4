use Rattle.walks.proofs.Least.{has_least}
use Rattle.walks.proofs.laws.Goals as goal

pub returns : goal.returns
returns c = has_least c.args.bytes.now
