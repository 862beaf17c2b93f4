use Rattle.std.proofs.Common.{refl}
use Rattle.worker_pool.proofs.Threading.Serving.{kept_back, station_on}
use Rattle.worker_pool.proofs.slot.Station.put_out.Goals as goal

pub returns-then-is_err : goal.returns-then-is_err
returns-then-is_err c = let inv = c.loop.invariant in record { same = station_on _ _ _ inv (kept_back c.loop.self _ c.oldest_hint.new.self c.in-Some.row refl refl c.oldest_hint.ensures.same c.keep_oldest.ensures.same c.oldest_hint.ensures.hints (λ rows all. c.in-Some.ensures.row rows all) c.keep_oldest.ensures.hints) }
