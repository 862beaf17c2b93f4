use Rattle.std.proofs.Common.{refl, ◌≡◌, ◌∙◌, cond, ap, sym}
use Rattle.compute_notify.proofs.Striking.Making.{stepped_view, strikes_task}
use Rattle.compute_notify.proofs.Striking.Turns.{explore_asks, explore_falls, explore_goes}
use Rattle.compute_notify.proofs.explore.Explore.strike.Goals as goal
use Rattle.compute_notify.proofs.explore.Explore.strike.Goals.{then-make_strike, else-make_strike}

pub make_strike-requires-clause-key : goal.make_strike-requires-clause-key
make_strike-requires-clause-key g c κs within = rw c.of-graph.ensures c.requires.stands.fits.duty.is_key

pub make_strike-requires-clause-strikes : goal.make_strike-requires-clause-strikes
make_strike-requires-clause-strikes g c κs within = explore_asks (g.G.TaskGraph.graph c.args.terms.now.graph.now) c.args.terms.now.plan.now c.args.terms.now.lives (g.T.Steps.setting c.args.steps.now) (g.T.Steps.view c.args.steps.now) c.requires.runs c.args.next c.args.self c.requires.stands c.requires.next

pub make_strike-requires-clause-task : goal.make_strike-requires-clause-task
make_strike-requires-clause-task g c κs within =
    let asks = explore_asks (g.G.TaskGraph.graph c.args.terms.now.graph.now) c.args.terms.now.plan.now c.args.terms.now.lives (g.T.Steps.setting c.args.steps.now) (g.T.Steps.view c.args.steps.now) c.requires.runs c.args.next c.args.self c.requires.stands c.requires.next in
    strikes_task (g.G.TaskGraph.graph c.args.terms.now.graph.now) c.args.terms.now.plan.now c.args.terms.now.lives (g.T.Steps.setting c.args.steps.now) (g.T.Steps.view c.args.steps.now) c.args.self.duty.key.0 c.args.self.duty.life c.args.next.target c.requires.runs asks

pub returns-clause-goes : goal.returns-clause-goes
returns-clause-goes g c =
    let made : c.if-make_strike.made ≡ cond c.make_strike.result c.args.next.made c.args.self.made = elim c.if-make_strike.branch [ then-make_strike w ↦ w.made-is ∙ sym (ap (λ b. cond b c.args.next.made c.args.self.made) w.if-make_strike.true) | else-make_strike w ↦ w.made-is ∙ sym (ap (λ b. cond b c.args.next.made c.args.self.made) w.if-make_strike.false) ] in
    rw made (explore_goes (g.G.TaskGraph.graph c.args.terms.now.graph.now) c.args.terms.now.plan.now c.args.terms.now.lives (g.T.Steps.setting c.args.steps.now) (g.T.Steps.view c.args.steps.now) c.requires.runs c.args.next c.args.self c.requires.stands c.requires.next
    (g.T.Steps.view c.make_strike.new.steps) c.args.hand.now c.make_strike.new.hand (g.T.Steps.shown c.make_strike.new.steps).1 c.make_strike.result c.make_strike.ensures.struck (stepped_view _ c.make_strike.ensures.step))

pub returns-clause-rest : goal.returns-clause-rest
returns-clause-rest g c =
    let made : c.if-make_strike.made ≡ cond c.make_strike.result c.args.next.made c.args.self.made = elim c.if-make_strike.branch [ then-make_strike w ↦ w.made-is ∙ sym (ap (λ b. cond b c.args.next.made c.args.self.made) w.if-make_strike.true) | else-make_strike w ↦ w.made-is ∙ sym (ap (λ b. cond b c.args.next.made c.args.self.made) w.if-make_strike.false) ] in
    rw made (explore_falls (g.G.TaskGraph.graph c.args.terms.now.graph.now) c.args.terms.now.plan.now c.args.terms.now.lives (g.T.Steps.setting c.args.steps.now) (g.T.Steps.view c.args.steps.now) c.requires.runs c.args.next c.args.self c.requires.stands c.requires.next
    (g.T.Steps.view c.make_strike.new.steps) c.args.hand.now c.make_strike.new.hand (g.T.Steps.shown c.make_strike.new.steps).1 c.make_strike.result c.make_strike.ensures.struck)

pub returns-clause-plain : goal.returns-clause-plain
returns-clause-plain g c = refl
