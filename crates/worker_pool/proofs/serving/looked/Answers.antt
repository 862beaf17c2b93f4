use Rattle.worker_pool.specs.Threads.{StationHolds}
use Rattle.worker_pool.proofs.Threading.Serving.{station_holds}
use Rattle.worker_pool.proofs.serving.looked.Goals as goal

pub returns-then-row-rows-clause-holds : goal.returns-then-row-rows-clause-holds
returns-then-row-rows-clause-holds g c tasks names holds = let e = g.T.Steps.setting c.args.steps.now in let v = g.T.Steps.view c.args.steps.now in
    let found : StationHolds tasks e v c.hint.new.self = station_holds tasks e v c.args.station.now c.hint.new.self c.hint.ensures.same holds in
    record { worker = c.look.ensures.holds tasks names found.worker; posted = found.posted }
