use Rattle.std.proofs.Common.{refl}
use Rattle.graph_runner.specs.declared.ending.Ending.TheVariants.{Done, WriteFault, OutOfMemory}
use Rattle.graph_runner.proofs.finish.deliver.Goals as goal

pub returns-in_default : goal.returns-in_default
returns-in_default g c = (OutOfMemory, record { status_is = c.status.ensures; message_is = c.new.ensures }, refl)

pub returns-in-Ok-write_all : goal.returns-in-Ok-write_all
returns-in-Ok-write_all g c = (Done, record { status_is = c.status-in-Ok-write_all.ensures; message_is = c.new-in-Ok-write_all.ensures }, c.in-Ok-write_all.ensures.bytes)

pub returns-in-Err : goal.returns-in-Err
returns-in-Err g c =
    let front = c.in-Err.ensures.bytes in
    (WriteFault, record { status_is = c.status-in-Err.ensures; message_is = c.in-Ok.ensures }, record { rose = c.in-Err.ensures.cause.failed; count = front.0; front = front.1; added = front.2 })
