use Rattle.block_store.proofs.Halves.{turned, took, blows_home}
use Rattle.block_store.proofs.Blows.{takes_next_strike, takes_made}
use Rattle.block_store.proofs.striking.strike.Goals as goal

pub end_strike-requires-clause-strikes : goal.end_strike-requires-clause-strikes
end_strike-requires-clause-strikes g c = let take = c.take_turn.ensures in takes_next_strike _ _ _ _ _ _ _ _ _ _ take.step.table.same_setting take.step.view_is c.requires.words c.requires.strikes

pub returns-in-Some-clause-strike : goal.returns-in-Some-clause-strike
returns-in-Some-clause-strike g c n next = let told = c.in-Some.ensures in takes_made _ _ _ _ _ _ c.in-Some.taken _ _ _ c.args.version _ _ _ told.step.table.same_setting told.step.view_is c.requires.words c.requires.strikes next c.end_strike.ensures.told c.end_strike.ensures.strike

pub returns-in-Some-clause-step : goal.returns-in-Some-clause-step
returns-in-Some-clause-step g c = let told = c.in-Some.ensures in let home = c.end_strike.ensures in
    turned _ c.in-Some.taken (blows_home c.args.key.0 _ _ c.args.version c.in-Some.taken _ home.told) told.step told.tells (took c.in-Some.taken told.step told.tells told.cells told.value) home.told home.step
