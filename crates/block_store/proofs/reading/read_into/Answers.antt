use Rattle.block_store.proofs.Halves.{turned, took, reads_home}
use Rattle.block_store.proofs.Turning.{takes_next}
use Rattle.block_store.proofs.reading.read_into.Goals as goal

pub end_read-requires-clause-reads : goal.end_read-requires-clause-reads
end_read-requires-clause-reads g c = let take = c.take_turn.ensures in takes_next _ _ _ _ _ _ _ _ take.step.table.same_setting take.step.view_is c.requires.reads

pub returns-in-Some-clause-step : goal.returns-in-Some-clause-step
returns-in-Some-clause-step g c = let told = c.in-Some.ensures in let home = c.end_read.ensures in
    turned _ c.in-Some.taken (reads_home _ c.args.version c.in-Some.taken _ home.told) told.step told.tells (took c.in-Some.taken told.step told.tells told.cells told.value) home.told home.step
