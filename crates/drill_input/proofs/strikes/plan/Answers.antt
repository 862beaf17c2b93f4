use Rattle.std.proofs.Common.{[], ◌∷◌, length, ap, arith}
use Rattle.std.proofs.lemmas.List.{length-append}
use Rattle.drill_input.proofs.Building.{no_strikes, more_keys, more_strikes}
use Rattle.drill_input.proofs.strikes.plan.Goals as goal

pub loop-init : goal.loop-init
loop-init c = no_strikes c.args.draws.now.state c.new-strikes.result.items c.new-strikes.ensures.items

pub loop-preserved : goal.loop-preserved
loop-preserved c = (
  omega (arith, ap length c.in_ok-push.ensures.items, length-append c.loop.strikes.items (c.drawn_strike.result ∷ []), c.loop.invariant.0),
  more_keys c.loop.strikes.items c.push.new.self.items c.drawn_strike.result c.loop.invariant.1 c.in_ok-push.ensures.items c.drawn_strike.ensures.key,
  λ number begins.
      let before = c.loop.invariant.2 number begins in (
        more_strikes number c.loop.counter c.loop.strikes.items c.push.new.self.items c.drawn_strike.result before.0 c.in_ok-push.ensures.items (c.drawn_strike.ensures.strike number c.loop.counter before.1),
        c.drawn_strike.ensures.drawn number c.loop.counter before.1,
      ),
)
