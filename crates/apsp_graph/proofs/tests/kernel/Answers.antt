use Rattle.std.proofs.Common.{◌≡◌, ◌∙◌, ℕ, ◌+◌, ◌*◌, ℤ, List, [], length, refl, sym, ap, subst, arith}
use Rattle.std.proofs.lemmas.List.Elements.{All-nil}
use Rattle.lane_kernels.specs.MinPlus.{IsNonNegative}
use Rattle.path_tasks.specs.declared.Task.{Task}
use Rattle.path_tasks.specs.declared.Task.TheVariants.{Tile}
use Rattle.path_tasks.specs.declared.Part.TheVariants.{Load}
use Rattle.path_tasks.specs.Tasks.{input_count_of}
use Rattle.path_tasks.specs.Keys.{task_of, task_total}
use Rattle.path_tasks.specs.Paths.{tiles_of}
use Rattle.path_tasks.proofs.EdgeLists.{in_range_at}
use Rattle.path_tasks.proofs.KeyLemmas.{task_of_key}
use Rattle.apsp_graph.specs.Blocked.{task_made}
use Rattle.apsp_graph.specs.Kernels.{path_outcome, cells_in, AreInputs, FitsPath}
use Rattle.apsp_graph.specs.declared.graph.PathGraph.{PathGraph}
use Rattle.apsp_graph.proofs.CellLemmas.{made_long}
use Rattle.apsp_graph.proofs.tests.kernel.Goals as goal

first_task : (b : ℕ) → b ≡ 1 → task_of b 0 ≡ Tile 0 0 0
first_task b one = ap (task_of b) (let e : 0 ≡ 0 * (b * b) + 0 * b + 0 = omega arith in e) ∙ task_of_key b (Tile 0 0 0) (omega arith, omega arith, omega arith)

one_tile : (n side : ℕ) → n ≡ 1 → side ≡ 1 → tiles_of n side ≡ 1
one_tile n side e f = ap (λ v. tiles_of v side) e ∙ ap (tiles_of 1) f

fits_one : (g : PathGraph) (lists : List (List ℤ)) → g.n ≡ 1 → g.side ≡ 1 → lists ≡ [] → FitsPath g 0 lists
fits_one g lists e f none =
    let b = tiles_of g.n g.side in
    let one : b ≡ 1 = one_tile g.n g.side e f in
    let start = first_task b one in
    record {
      task = in_range_at (task_total b) 0 (omega arith);
      inputs =
          subst (λ (x : Task). AreInputs (input_count_of b x) (cells_in b g.side x) lists) (sym start)
          (subst (λ (ls : List (List ℤ)). AreInputs 0 (g.side * g.side) ls) (sym none) (record { many = refl; sized = All-nil (λ (xs : List ℤ). length xs ≡ g.side * g.side); weights = All-nil IsNonNegative }));
    }

cells_one : (g : PathGraph) (lists : List (List ℤ)) → g.n ≡ 1 → g.side ≡ 1 → 1 ≡ length (path_outcome g 0 lists)
cells_one g lists e f =
    let b = tiles_of g.n g.side in
    let long = made_long g.n g.side g.weights.items 0 0 Load lists g.wide in
    let square : g.side * g.side ≡ 1 = ap (λ v. v * v) f in
    sym (ap (λ (x : Task). length (task_made g.n g.side g.weights.items b x lists)) (first_task b (one_tile g.n g.side e f)) ∙ long ∙ square)

pub compute-requires-clause-fits : goal.compute-requires-clause-fits
compute-requires-clause-fits g c =
    let lists = c.in_ok-inputs.inputs.lists in
    let graph = c.new-kernel.ensures.graph in
    let n : c.new-kernel.result.graph.now.n ≡ 1 = ap (λ (h : PathGraph). h.n) graph ∙ c.new-graph.ensures.n in
    let side : c.new-kernel.result.graph.now.side ≡ 1 = ap (λ (h : PathGraph). h.side) graph ∙ c.new-graph.ensures.side in
    (c.reserve.ensures.same_fits 0 lists).1 (fits_one c.new-kernel.result.graph.now lists n side (ap (λ i. i.lists) c.in_ok-inputs.ensures))

pub compute-requires-clause-cells : goal.compute-requires-clause-cells
compute-requires-clause-cells g c =
    let lists = c.in_ok-inputs.inputs.lists in
    let graph = c.new-kernel.ensures.graph in
    let n : c.new-kernel.result.graph.now.n ≡ 1 = ap (λ (h : PathGraph). h.n) graph ∙ c.new-graph.ensures.n in
    let side : c.new-kernel.result.graph.now.side ≡ 1 = ap (λ (h : PathGraph). h.side) graph ∙ c.new-graph.ensures.side in
    cells_one c.new-kernel.result.graph.now lists n side ∙ ap (λ f. length (f 0 lists)) (sym c.reserve.ensures.same_outcome)
