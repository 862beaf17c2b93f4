use Rattle.std.proofs.Common.{◌≡◌, ◌+◌, ◌<◌, ◌≤◌, arith, ap, sym, ◌∙◌, subst}
use mathlib.Core.Bool.{true≢false}
use mathlib.Core.Logic.{dite}
use native.Mathlib.Decide.{dec_lt}
use Rattle.core_state.specs.Graph.{Edge}
use Rattle.core_state.proofs.Start.Asked.{in_some}
use Rattle.compute_notify.specs.declared.scratch.Need.{Need}
use Rattle.compute_notify.proofs.Computing.Needs.{IsUpTo, few_places, up_to_all, up_to_input, up_to_none, up_to_other}
use Rattle.compute_notify.proofs.scratch.Need.of.Goals as goal
use Rattle.compute_notify.proofs.scratch.Need.of.Goals.{then-is_input+in_ok-need, else-is_input}

pub loop-place-init : goal.loop-place-init
loop-place-init g c = let laws = ((g.met.G.TaskGraph g.world.𝓛 g.world.𝓜 g.world.𝓡 ((λ s x. x), (λ x. x), (λ x. x), λ x. x)).lawful c.args.graph.now.graph.now) in let some = in_some (g.G.TaskGraph.graph c.args.graph.now.graph.now) (λ r. c.own-need.result ≡ record { lists = 0; read = 0; longest = r.cells (r.block c.args.key.0) }) laws c.own-need.ensures in
    let none : c.own-need.result.lists ≡ 0 = ap (λ (n : Need). n.lists) some.3 in let least : c.own-need.result.lists ≤ 0 = omega (arith, none) in
    (least, λ outcome r is. up_to_none r c.args.key.0 c.own-need.result (c.own-need.ensures outcome r is))

pub pred-requires-clause-place : goal.pred-requires-clause-place
pred-requires-clause-place g c κs within = let graph = g.G.TaskGraph.graph c.args.graph.now.graph.now in let laws = (g.met.G.TaskGraph g.world.𝓛 g.world.𝓜 g.world.𝓡 ((λ s x. x), (λ x. x), (λ x. x), λ x. x)).lawful c.args.graph.now.graph.now in
    let low = c.loop-place-test.true in
    in_some graph (λ r. c.loop-place.place < r.places c.args.key.0) laws (λ outcome r is. let e = c.pred_count-place-end.ensures outcome r is in omega (arith, e, low))

pub with-requires : goal.with-requires
with-requires g c = let graph = g.G.TaskGraph.graph c.args.graph.now.graph.now in let low = c.loop-place-test.true in
    let few = few_places graph c.args.key.0 c.pred_count-place-end.result ((g.met.G.TaskGraph g.world.𝓛 g.world.𝓜 g.world.𝓡 ((λ s x. x), (λ x. x), (λ x. x), λ x. x)).lawful c.args.graph.now.graph.now) c.requires c.pred_count-place-end.ensures in
    let most = c.loop-place.invariant.0 in omega (arith, few, low, most)

pub loop-place-preserved : goal.loop-place-preserved
loop-place-preserved g c = let most = c.loop-place.invariant.0 in let graph = g.G.TaskGraph.graph c.args.graph.now.graph.now in elim c.if-is_input.branch [
  | then-is_input+in_ok-need w ↦ let now = w.need-is ∙ w.in_ok-need.ensures in
      let more : c.if-is_input.need.lists ≡ c.loop-place.need.lists + 1 = ap (λ (n : Need). n.lists) now in (
        (omega (arith, most, more)),
        λ outcome r is. up_to_input r c.args.key.0 c.loop-place.place w.cells.result c.loop-place.need c.if-is_input.need (c.loop-place.invariant.1 outcome r is) ((c.is_input.ensures outcome r is).0 w.if-is_input.true)
            (w.cells.ensures outcome r is ∙ ap r.cells (w.block.ensures.block outcome r is) ∙ ap (λ (e : Edge). r.cells (r.block e.task)) (sym (w.pred.ensures.pred outcome r is))) now,
      )
  | else-is_input w ↦ let same : c.if-is_input.need.lists ≡ c.loop-place.need.lists = ap (λ (n : Need). n.lists) w.need-is in (
    (omega (arith, most, same)),
    λ outcome r is. subst (λ n. IsUpTo r c.args.key.0 (c.loop-place.place + 1) n) (sym w.need-is) (up_to_other r c.args.key.0 c.loop-place.place c.loop-place.need (c.loop-place.invariant.1 outcome r is)
        (dite (dec_lt c.loop-place.place (r.inputs c.args.key.0)) (λ low. absurd (true≢false (sym ((c.is_input.ensures outcome r is).1 low) ∙ w.if-is_input.false))) (λ no. omega (arith, no)))),
  )
]

pub returns : goal.returns
returns g c = let graph = g.G.TaskGraph.graph c.args.graph.now.graph.now in let past = c.loop-place-test.false in
    up_to_all graph c.args.key.0 c.loop-place.place c.loop-place.need ((g.met.G.TaskGraph g.world.𝓛 g.world.𝓜 g.world.𝓡 ((λ s x. x), (λ x. x), (λ x. x), λ x. x)).lawful c.args.graph.now.graph.now) c.requires (λ outcome r is. let e = c.pred_count-place-end.ensures outcome r is in let high = c.loop-place.auto.place-end in omega (arith, e, past, high)) c.loop-place.invariant.1
