use Rattle.std.proofs.Common.{ap, sym, ◌∙◌, subst}
use Rattle.core_state.specs.Asked.{IsCoreKey, IsGraphOf}
use Rattle.std.proofs.lemmas.Bool.{eqb-true}
use Rattle.graph_model.specs.Gathered.{Gathered}
use Rattle.core_state.specs.Rooted.{root_key}
use Rattle.core_state.proofs.Start.Asked.{task_of}
use Rattle.compute_notify.proofs.Computing.Writes.{may_compute}
use Rattle.compute_notify.proofs.Computing.Rooms.{holds_all, kernel_can, kernel_cells, output_as, room_kept, root_output, task_output}
use Rattle.compute_notify.proofs.compute.Compute.compute.Goals as goal
use Rattle.compute_notify.proofs.compute.Compute.compute.Goals.{then-eq, else-eq}

pub block-requires-after_bounds : goal.block-requires-after_bounds
block-requires-after_bounds g c κs within = subst (λ h. IsCoreKey (g.G.TaskGraph.graph h) c.args.self.duty.key.0) (sym c.of-graph.ensures) c.requires.stands.fits.duty.is_key

pub make-requires-clause-fits : goal.make-requires-clause-fits
make-requires-clause-fits g c κs within = let e = g.T.Steps.setting c.args.steps.now in
    kernel_can _ e _ _ c.requires.runs _ _ c.requires.outcome c.args.self.duty.key.0 c.args.scratch.now (holds_all _ e c.args.self c.args.scratch.now c.requires.phase c.requires.scratch)
    (task_of (g.G.TaskGraph.graph c.args.terms.now.graph.now) c.args.self.duty.key.0 c.eq.result c.requires.stands.fits.duty.is_key c.eq.ensures c.if-eq.false)

pub make-requires-clause-cells : goal.make-requires-clause-cells
make-requires-clause-cells g c κs within = let e = g.T.Steps.setting c.args.steps.now in
    let asked = subst (λ h. IsGraphOf (g.G.TaskGraph.graph h) c.requires.runs.serves.outcome e.graph) (sym c.of-graph.ensures) c.requires.runs.serves.graph in
    kernel_cells _ e _ _ c.requires.runs _ _ c.requires.outcome c.args.self.duty.key.0 c.args.scratch.now (holds_all _ e c.args.self c.args.scratch.now c.requires.phase c.requires.scratch)
    (task_of (g.G.TaskGraph.graph c.args.terms.now.graph.now) c.args.self.duty.key.0 c.eq.result c.requires.stands.fits.duty.is_key c.eq.ensures c.if-eq.false) c.cells-len.result c.block.result.block (c.block.ensures.block c.requires.runs.serves.outcome e.graph asked) (c.cells-len.ensures c.requires.runs.serves.outcome e.graph asked)

pub computed-requires-clause-can : goal.computed-requires-clause-can
computed-requires-clause-can g c = may_compute _ (g.T.Steps.setting c.args.steps.now) _ c.args.self c.requires.stands c.requires.phase

pub returns-clause-output : goal.returns-clause-output
returns-clause-output g c = let e = g.T.Steps.setting c.args.steps.now in let k = c.args.self.duty.key.0 in let key = c.requires.stands.fits.duty.is_key in
    let holds = holds_all _ e c.args.self c.args.scratch.now c.requires.phase c.requires.scratch in elim c.if-eq.branch [
      | then-eq w ↦ output_as _ e k c.if-eq.scratch w.pass_on.new.self w.scratch-is (room_kept _ c.args.scratch.now w.pass_on.new.self (ap (λ (i : Gathered). i.most_lists) w.pass_on.ensures.inputs) (ap (λ (i : Gathered). i.most_cells) w.pass_on.ensures.inputs) w.pass_on.ensures.length c.requires.scratch.0)
          (root_output _ e _ _ c.requires.runs _ _ c.requires.outcome k c.args.scratch.now holds (eqb-true k root_key (sym c.eq.ensures ∙ w.if-eq.true)) w.pass_on.new.self.cells.items key w.pass_on.ensures.cells)
      | else-eq w ↦ output_as _ e k c.if-eq.scratch w.make.new.scratch w.scratch-is (room_kept _ c.args.scratch.now w.make.new.scratch (ap (λ (i : Gathered). i.most_lists) w.make.ensures.inputs) (ap (λ (i : Gathered). i.most_cells) w.make.ensures.inputs) w.make.ensures.length c.requires.scratch.0)
          (task_output _ e _ _ c.requires.runs _ _ c.requires.outcome k c.args.scratch.now holds (task_of (g.G.TaskGraph.graph c.args.terms.now.graph.now) k c.eq.result key c.eq.ensures w.if-eq.false) w.cells-len.result w.block.result.block w.make.new.scratch.cells.items
          (w.block.ensures.block c.requires.runs.serves.outcome e.graph (subst (λ h. IsGraphOf (g.G.TaskGraph.graph h) c.requires.runs.serves.outcome e.graph) (sym c.of-graph.ensures) c.requires.runs.serves.graph))
          (w.cells-len.ensures c.requires.runs.serves.outcome e.graph (subst (λ h. IsGraphOf (g.G.TaskGraph.graph h) c.requires.runs.serves.outcome e.graph) (sym c.of-graph.ensures) c.requires.runs.serves.graph))
          w.make.ensures.outcome)
    ]
