use Rattle.std.proofs.Common.{inr, refl}
use Rattle.graph_runner.specs.declared.ending.Ending.TheVariants.{OutOfMemory}
use Rattle.graph_runner.proofs.finish.told.Goals as goal

pub returns-in-Err : goal.returns-in-Err
returns-in-Err c = (OutOfMemory, inr refl, record { status_is = c.status-in-Err.ensures; message_is = c.new.ensures })
