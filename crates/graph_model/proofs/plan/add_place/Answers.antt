use Rattle.std.proofs.Common.{arith, ◌+◌, ◌<◌, ◌^◌, ℕ, set, take, length-take, length-set}
use Rattle.std.proofs.lemmas.List.{take_at, take_more_set}
use Rattle.graph_model.proofs.Index.{index_more, some_at}
use Rattle.graph_model.proofs.plan.add_place.Goals as goal

pub returns : goal.returns
returns c =
    let strikes = c.args.strikes.now in
    let place = c.args.place in
    let put = c.put_last_at.ensures (take place c.args.order.now) place (take_more_set c.args.order.now place place c.requires.room) in
    let found = some_at strikes place c.requires.strike in
    let life : found.0.life < 2 ^ 32 = rw found.1 at c.code_at.ensures.life in
    rw (take_at c.put_last_at.new.places _ (place + 1) (omega (arith, c.put_last_at.auto.places, length-take (place + 1) (set c.args.order.now place place), length-set {A = ℕ})), put)
    (index_more strikes place (take place c.args.order.now) c.places_before-at.result found.0 c.requires.index found.1
    (rw c.code_at.ensures.code at c.places_before-at.ensures.point) c.places_before-at.ensures.inside life)
