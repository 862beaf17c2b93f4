use Rattle.std.proofs.Common.{◌≡◌, ℕ, ◌<◌, ◌≤◌, List, [], ◌∷◌, length, refl, subst, arith}
use Rattle.run_bounds.proofs.Enough.{enough_ample}
use Rattle.graph_runner.proofs.Places.{few_tasks}
use Rattle.graph_runner.proofs.terms.turns_for.Goals as goal

some_long : (ns : List ℕ) → (ns ≡ [] → ⊥) → 0 < length ns
some_long [] some = absurd (some refl)
some_long (n ∷ ns) some = omega arith

pub returns-in-None-clause-enough : goal.returns-in-None-clause-enough
returns-in-None-clause-enough g c = λ none some.
    let graph = g.G.TaskGraph.graph c.args.graph.now in
    let lawful = (g.met.G.TaskGraph g.world.𝓛 g.world.𝓜 g.world.𝓡 ((λ s x. x), (λ x. x), (λ x. x), λ x. x)).lawful c.args.graph.now in
    let places = subst (λ n. n ≤ 41943040) c.place_count.ensures.count c.place_count.ensures.few in
    rw (c.ample_turns.ensures, c.task_count.ensures, c.place_count.ensures.count) (enough_ample graph (length c.args.schedule.now) c.len.result (some_long c.args.schedule.now some) (few_tasks graph lawful) places)
