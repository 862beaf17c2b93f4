use Rattle.recovery.proofs.Resting.{new_rest}
use Rattle.recovery.proofs.recover.Recover.new.Goals as goal

pub returns-clause-rest : goal.returns-clause-rest
returns-clause-rest c = λ tasks e serves key some. new_rest tasks e c.args.key.0 serves key some
