use Rattle.block_store.proofs.Turning.{reads_work}
use Rattle.block_store.proofs.reading.end_read.Goals as goal

pub returns-clause-work : goal.returns-clause-work
returns-clause-work g c = reads_work _ _ _ _ _ c.args.taken 0 _ c.told-read.ensures c.give_read.ensures.step.view_is c.requires.reads
