use Rattle.std.proofs.Common.{◌≡◌, ℕ, ◌+◌, ◌<◌, ◌≤◌, Some, None, take, arith, ap, sym, refl, ◌∙◌, subst}
use Rattle.graph_model.specs.Gathered.{Gathered}
use Rattle.graph_model.specs.declared.record.Cause.TheVariants as cause
use Rattle.core_state.specs.Asked.{IsCoreKey, IsGraphOf}
use Rattle.core_state.specs.Graph.{Edge}
use Rattle.compute_notify.specs.Rooms.{input_values}
use Rattle.compute_notify.proofs.Computing.Lines.{took_hand}
use Rattle.compute_notify.proofs.Computing.Reads.{bad_falls, bad_goes, bad_was, good_goes, good_was, is_place, may_take, next_read, none_taken, not_good, take_falls, take_goes, took_top}
use Rattle.compute_notify.proofs.Computing.Rooms.{cells_room, holds_in, input_inside, kept_values, list_room, look_scratch, pred_key, reading_scratch, room_kept, some_version, value_of}
use Rattle.compute_notify.proofs.compute.Compute.read.Goals as goal

pub pred-requires-clause-key : goal.pred-requires-clause-key
pred-requires-clause-key g c κs within = subst (λ h. IsCoreKey (g.G.TaskGraph.graph h) c.args.self.duty.key.0) (sym c.of-graph.ensures) c.requires.stands.fits.duty.is_key

pub take_turn-requires-clause-can : goal.take_turn-requires-clause-can
take_turn-requires-clause-can g c =
    let e = g.T.Steps.setting c.args.steps.now in let k = c.args.self.duty.key.0 in let runs = c.requires.runs in let place = c.block-place.result in
    let asked = subst (λ h. IsGraphOf (g.G.TaskGraph.graph h) runs.serves.outcome e.graph) (sym c.of-graph.ensures) runs.serves.graph in
    let pred : e.graph.pred k c.args.input ≡ record { task = c.pred.result.key.0; port = c.pred.result.port } = c.pred.ensures.pred runs.serves.outcome e.graph asked in
    let here : place.block ≡ e.graph.block (e.graph.pred k c.args.input).task = c.block-place.ensures.block runs.serves.outcome e.graph asked ∙ ap (λ (x : Edge). e.graph.block x.task) (sym pred) in
    may_take _ e (g.T.Steps.view c.args.steps.now) c.args.self c.args.input _ _ runs c.requires.stands c.requires.phase c.requires.input place.block here
    (subst (λ h. place.block ≤ (g.G.TaskGraph.graph h).block_count) c.of-graph.ensures c.block-place.ensures.inside) (none_taken _ e (g.T.Steps.view c.args.steps.now) c.args.self c.args.input _ _ runs c.requires.stands c.requires.phase c.requires.input c.args.hand.now (sym c.take.ensures.value ∙ c.in_default.is) c.requires.top)

pub returns-in_default-clause-goes : goal.returns-in_default-clause-goes
returns-in_default-clause-goes g c =
    let e = g.T.Steps.setting c.args.steps.now in let k = c.args.self.duty.key.0 in let runs = c.requires.runs in let place = c.block-place.result in
    let asked = subst (λ h. IsGraphOf (g.G.TaskGraph.graph h) runs.serves.outcome e.graph) (sym c.of-graph.ensures) runs.serves.graph in
    let pred : e.graph.pred k c.args.input ≡ record { task = c.pred.result.key.0; port = c.pred.result.port } = c.pred.ensures.pred runs.serves.outcome e.graph asked in
    let here : place.block ≡ e.graph.block (e.graph.pred k c.args.input).task = c.block-place.ensures.block runs.serves.outcome e.graph asked ∙ ap (λ (x : Edge). e.graph.block x.task) (sym pred) in
    take_goes _ e (g.T.Steps.view c.args.steps.now) c.args.self c.args.input _ _ runs c.requires.stands c.requires.phase c.requires.input _ (g.T.Steps.shown c.take_turn.new.self).1 place.block c.take_turn.result c.take_turn.ensures.step.view_is _ refl

pub returns-in_default-clause-top : goal.returns-in_default-clause-top
returns-in_default-clause-top g c =
    let e = g.T.Steps.setting c.args.steps.now in let k = c.args.self.duty.key.0 in let runs = c.requires.runs in let place = c.block-place.result in
    let asked = subst (λ h. IsGraphOf (g.G.TaskGraph.graph h) runs.serves.outcome e.graph) (sym c.of-graph.ensures) runs.serves.graph in
    let pred : e.graph.pred k c.args.input ≡ record { task = c.pred.result.key.0; port = c.pred.result.port } = c.pred.ensures.pred runs.serves.outcome e.graph asked in
    let here : place.block ≡ e.graph.block (e.graph.pred k c.args.input).task = c.block-place.ensures.block runs.serves.outcome e.graph asked ∙ ap (λ (x : Edge). e.graph.block x.task) (sym pred) in
    took_top _ e (g.T.Steps.view c.args.steps.now) c.args.self c.args.input _ _ runs c.requires.stands c.requires.phase c.requires.input _ place.block c.take_turn.result _ refl here
    (took_hand e _ _ (g.T.Steps.shown c.take_turn.new.self).1 place.block c.take_turn.result c.take_turn.ensures.step.view_is c.take_turn.ensures.tells c.take_turn.ensures.cells c.take_turn.ensures.value (none_taken _ e (g.T.Steps.view c.args.steps.now) c.args.self c.args.input _ _ runs c.requires.stands c.requires.phase c.requires.input c.args.hand.now (sym c.take.ensures.value ∙ c.in_default.is) c.requires.top))

pub returns-in_default-clause-rest : goal.returns-in_default-clause-rest
returns-in_default-clause-rest g c =
    let e = g.T.Steps.setting c.args.steps.now in let k = c.args.self.duty.key.0 in let runs = c.requires.runs in let place = c.block-place.result in
    let asked = subst (λ h. IsGraphOf (g.G.TaskGraph.graph h) runs.serves.outcome e.graph) (sym c.of-graph.ensures) runs.serves.graph in
    let pred : e.graph.pred k c.args.input ≡ record { task = c.pred.result.key.0; port = c.pred.result.port } = c.pred.ensures.pred runs.serves.outcome e.graph asked in
    let here : place.block ≡ e.graph.block (e.graph.pred k c.args.input).task = c.block-place.ensures.block runs.serves.outcome e.graph asked ∙ ap (λ (x : Edge). e.graph.block x.task) (sym pred) in
    take_falls _ e (g.T.Steps.view c.args.steps.now) c.args.self c.args.input _ _ runs c.requires.stands c.requires.phase c.requires.input (g.T.Steps.shown c.take_turn.new.self).1 place.block c.args.hand.now c.take_turn.result _ refl (sym c.take.ensures.value ∙ c.in_default.is) here c.take_turn.ensures.tells

pub end_input-requires-clause-reads : goal.end_input-requires-clause-reads
end_input-requires-clause-reads g c =
    let e = g.T.Steps.setting c.args.steps.now in let k = c.args.self.duty.key.0 in let runs = c.requires.runs in let place = c.block-place.result in
    let asked = subst (λ h. IsGraphOf (g.G.TaskGraph.graph h) runs.serves.outcome e.graph) (sym c.of-graph.ensures) runs.serves.graph in
    let pred : e.graph.pred k c.args.input ≡ record { task = c.pred.result.key.0; port = c.pred.result.port } = c.pred.ensures.pred runs.serves.outcome e.graph asked in
    let here : place.block ≡ e.graph.block (e.graph.pred k c.args.input).task = c.block-place.ensures.block runs.serves.outcome e.graph asked ∙ ap (λ (x : Edge). e.graph.block x.task) (sym pred) in
    let of_version : place.version ≡ e.graph.version (e.graph.pred k c.args.input).task = c.block-place.ensures.version runs.serves.outcome e.graph asked ∙ ap (λ (x : Edge). e.graph.version x.task) (sym pred) in
    next_read _ e (g.T.Steps.view c.args.steps.now) c.args.self c.args.input _ _ runs c.requires.stands c.requires.phase c.requires.input place.block place.version here of_version

pub keep-requires-clause-inside : goal.keep-requires-clause-inside
keep-requires-clause-inside g c =
    let e = g.T.Steps.setting c.args.steps.now in let k = c.args.self.duty.key.0 in let runs = c.requires.runs in let place = c.block-place.result in
    let asked = subst (λ h. IsGraphOf (g.G.TaskGraph.graph h) runs.serves.outcome e.graph) (sym c.of-graph.ensures) runs.serves.graph in
    let pred : e.graph.pred k c.args.input ≡ record { task = c.pred.result.key.0; port = c.pred.result.port } = c.pred.ensures.pred runs.serves.outcome e.graph asked in
    let here : place.block ≡ e.graph.block (e.graph.pred k c.args.input).task = c.block-place.ensures.block runs.serves.outcome e.graph asked ∙ ap (λ (x : Edge). e.graph.block x.task) (sym pred) in
    let long : c.cells-len.result ≡ e.graph.cells (e.graph.block (e.graph.pred k c.args.input).task) = c.cells-len.ensures runs.serves.outcome e.graph asked ∙ ap e.graph.cells here in
    let inside = input_inside _ e _ _ runs k c.args.input c.requires.stands.fits.duty.is_key c.requires.input c.args.scratch.now c.requires.scratch.0 c.cells-len.result long in
    let same = c.end_input.ensures.length in omega (arith, inside, same)

pub keep-requires-clause-list : goal.keep-requires-clause-list
keep-requires-clause-list g c =
    let e = g.T.Steps.setting c.args.steps.now in let k = c.args.self.duty.key.0 in let runs = c.requires.runs in let place = c.block-place.result in
    let asked = subst (λ h. IsGraphOf (g.G.TaskGraph.graph h) runs.serves.outcome e.graph) (sym c.of-graph.ensures) runs.serves.graph in
    let pred : e.graph.pred k c.args.input ≡ record { task = c.pred.result.key.0; port = c.pred.result.port } = c.pred.ensures.pred runs.serves.outcome e.graph asked in
    let here : place.block ≡ e.graph.block (e.graph.pred k c.args.input).task = c.block-place.ensures.block runs.serves.outcome e.graph asked ∙ ap (λ (x : Edge). e.graph.block x.task) (sym pred) in
    let key = c.requires.stands.fits.duty.is_key in let now = c.end_input.new.scratch in
    let room = room_kept (g.G.TaskGraph.graph c.args.terms.now.graph.now) c.args.scratch.now now (ap (λ (i : Gathered). i.most_lists) c.end_input.ensures.inputs) (ap (λ (i : Gathered). i.most_cells) c.end_input.ensures.inputs) c.end_input.ensures.length c.requires.scratch.0 in
    let holds : now.inputs.lists ≡ input_values e.graph k c.args.input = ap (λ (i : Gathered). i.lists) c.end_input.ensures.inputs ∙ holds_in _ e c.args.self c.args.scratch.now c.args.input c.requires.phase c.requires.scratch in
    let keys = pred_key (g.G.TaskGraph.graph c.args.terms.now.graph.now) runs.serves.outcome e.graph runs.laws runs.serves.graph k key in
    list_room _ e _ _ runs k c.args.input key c.requires.input now room holds

pub keep-requires-clause-room : goal.keep-requires-clause-room
keep-requires-clause-room g c =
    let e = g.T.Steps.setting c.args.steps.now in let k = c.args.self.duty.key.0 in let runs = c.requires.runs in let place = c.block-place.result in
    let asked = subst (λ h. IsGraphOf (g.G.TaskGraph.graph h) runs.serves.outcome e.graph) (sym c.of-graph.ensures) runs.serves.graph in
    let pred : e.graph.pred k c.args.input ≡ record { task = c.pred.result.key.0; port = c.pred.result.port } = c.pred.ensures.pred runs.serves.outcome e.graph asked in
    let here : place.block ≡ e.graph.block (e.graph.pred k c.args.input).task = c.block-place.ensures.block runs.serves.outcome e.graph asked ∙ ap (λ (x : Edge). e.graph.block x.task) (sym pred) in
    let long : c.cells-len.result ≡ e.graph.cells (e.graph.block (e.graph.pred k c.args.input).task) = c.cells-len.ensures runs.serves.outcome e.graph asked ∙ ap e.graph.cells here in
    let key = c.requires.stands.fits.duty.is_key in let now = c.end_input.new.scratch in
    let room = room_kept (g.G.TaskGraph.graph c.args.terms.now.graph.now) c.args.scratch.now now (ap (λ (i : Gathered). i.most_lists) c.end_input.ensures.inputs) (ap (λ (i : Gathered). i.most_cells) c.end_input.ensures.inputs) c.end_input.ensures.length c.requires.scratch.0 in
    let holds : now.inputs.lists ≡ input_values e.graph k c.args.input = ap (λ (i : Gathered). i.lists) c.end_input.ensures.inputs ∙ holds_in _ e c.args.self c.args.scratch.now c.args.input c.requires.phase c.requires.scratch in
    let keys = pred_key (g.G.TaskGraph.graph c.args.terms.now.graph.now) runs.serves.outcome e.graph runs.laws runs.serves.graph k key in
    cells_room _ e _ _ runs k c.args.input key c.requires.input keys now room holds c.cells-len.result long

pub returns-in-Good-clause-goes : goal.returns-in-Good-clause-goes
returns-in-Good-clause-goes g c =
    let e = g.T.Steps.setting c.args.steps.now in let k = c.args.self.duty.key.0 in let runs = c.requires.runs in let place = c.block-place.result in
    let asked = subst (λ h. IsGraphOf (g.G.TaskGraph.graph h) runs.serves.outcome e.graph) (sym c.of-graph.ensures) runs.serves.graph in
    let pred : e.graph.pred k c.args.input ≡ record { task = c.pred.result.key.0; port = c.pred.result.port } = c.pred.ensures.pred runs.serves.outcome e.graph asked in
    let here : place.block ≡ e.graph.block (e.graph.pred k c.args.input).task = c.block-place.ensures.block runs.serves.outcome e.graph asked ∙ ap (λ (x : Edge). e.graph.block x.task) (sym pred) in
    let of_version : place.version ≡ e.graph.version (e.graph.pred k c.args.input).task = c.block-place.ensures.version runs.serves.outcome e.graph asked ∙ ap (λ (x : Edge). e.graph.version x.task) (sym pred) in
    good_goes _ e (g.T.Steps.view c.args.steps.now) c.args.self c.args.input _ _ runs c.requires.stands c.requires.phase c.requires.input _ (g.T.Steps.shown c.end_input.new.steps).1 place.block c.in-Some.taken here c.end_input.ensures.step.view_is place.version _ of_version refl
    (good_was place.version c.in-Some.taken (sym c.in-Good.is ∙ c.end_input.ensures.told))

pub returns-in-Good-clause-scratch : goal.returns-in-Good-clause-scratch
returns-in-Good-clause-scratch g c =
    let e = g.T.Steps.setting c.args.steps.now in let k = c.args.self.duty.key.0 in let runs = c.requires.runs in let place = c.block-place.result in
    let asked = subst (λ h. IsGraphOf (g.G.TaskGraph.graph h) runs.serves.outcome e.graph) (sym c.of-graph.ensures) runs.serves.graph in
    let pred : e.graph.pred k c.args.input ≡ record { task = c.pred.result.key.0; port = c.pred.result.port } = c.pred.ensures.pred runs.serves.outcome e.graph asked in
    let here : place.block ≡ e.graph.block (e.graph.pred k c.args.input).task = c.block-place.ensures.block runs.serves.outcome e.graph asked ∙ ap (λ (x : Edge). e.graph.block x.task) (sym pred) in
    let of_version : place.version ≡ e.graph.version (e.graph.pred k c.args.input).task = c.block-place.ensures.version runs.serves.outcome e.graph asked ∙ ap (λ (x : Edge). e.graph.version x.task) (sym pred) in
    let key = c.requires.stands.fits.duty.is_key in let now = c.end_input.new.scratch in
    let room = room_kept (g.G.TaskGraph.graph c.args.terms.now.graph.now) c.args.scratch.now now (ap (λ (i : Gathered). i.most_lists) c.end_input.ensures.inputs) (ap (λ (i : Gathered). i.most_cells) c.end_input.ensures.inputs) c.end_input.ensures.length c.requires.scratch.0 in
    let holds : now.inputs.lists ≡ input_values e.graph k c.args.input = ap (λ (i : Gathered). i.lists) c.end_input.ensures.inputs ∙ holds_in _ e c.args.self c.args.scratch.now c.args.input c.requires.phase c.requires.scratch in
    let keys = pred_key (g.G.TaskGraph.graph c.args.terms.now.graph.now) runs.serves.outcome e.graph runs.laws runs.serves.graph k key in
    let of_key = keys c.args.input (is_place _ e (g.T.Steps.view c.args.steps.now) c.args.self c.args.input _ _ runs c.requires.stands c.requires.phase c.requires.input) in
    reading_scratch _ e _ _ runs c.args.self c.keep.new.self _ (c.args.input + 1) refl
    (room_kept (g.G.TaskGraph.graph c.args.terms.now.graph.now) now c.keep.new.self (ap (λ (i : Gathered). i.most_lists) c.keep.ensures.inputs) (ap (λ (i : Gathered). i.most_cells) c.keep.ensures.inputs) (ap Rattle.std.proofs.Common.length c.keep.ensures.cells) room)
    (kept_values _ e _ _ runs k c.args.input key c.requires.input now c.keep.new.self c.cells-len.result holds (ap (λ (i : Gathered). i.lists) c.keep.ensures.inputs)
    (c.end_input.ensures.value c.in-Good.is (some_version _ e _ _ runs place.version (e.graph.pred k c.args.input).task of_version of_key) ∙ value_of _ e _ _ runs place.block place.version (e.graph.pred k c.args.input).task here of_version of_key))

pub returns-in-Bad-clause-goes : goal.returns-in-Bad-clause-goes
returns-in-Bad-clause-goes g c =
    let e = g.T.Steps.setting c.args.steps.now in let k = c.args.self.duty.key.0 in let runs = c.requires.runs in let place = c.block-place.result in
    let asked = subst (λ h. IsGraphOf (g.G.TaskGraph.graph h) runs.serves.outcome e.graph) (sym c.of-graph.ensures) runs.serves.graph in
    let pred : e.graph.pred k c.args.input ≡ record { task = c.pred.result.key.0; port = c.pred.result.port } = c.pred.ensures.pred runs.serves.outcome e.graph asked in
    let here : place.block ≡ e.graph.block (e.graph.pred k c.args.input).task = c.block-place.ensures.block runs.serves.outcome e.graph asked ∙ ap (λ (x : Edge). e.graph.block x.task) (sym pred) in
    let of_version : place.version ≡ e.graph.version (e.graph.pred k c.args.input).task = c.block-place.ensures.version runs.serves.outcome e.graph asked ∙ ap (λ (x : Edge). e.graph.version x.task) (sym pred) in
    let poor = bad_was place.version c.in-Some.taken c.in-Bad.found (sym c.in-Bad.is ∙ c.end_input.ensures.told) in
    bad_goes _ e (g.T.Steps.view c.args.steps.now) c.args.self c.args.input _ _ runs c.requires.stands c.requires.phase c.requires.input _ (g.T.Steps.shown c.end_input.new.steps).1 place.block c.in-Some.taken here c.end_input.ensures.step.view_is place.version c.in-Bad.found _ of_version
    refl poor.0 poor.1

pub returns-in-Bad-clause-scratch : goal.returns-in-Bad-clause-scratch
returns-in-Bad-clause-scratch g c =
    let e = g.T.Steps.setting c.args.steps.now in let k = c.args.self.duty.key.0 in let runs = c.requires.runs in let place = c.block-place.result in
    let asked = subst (λ h. IsGraphOf (g.G.TaskGraph.graph h) runs.serves.outcome e.graph) (sym c.of-graph.ensures) runs.serves.graph in
    let pred : e.graph.pred k c.args.input ≡ record { task = c.pred.result.key.0; port = c.pred.result.port } = c.pred.ensures.pred runs.serves.outcome e.graph asked in
    let here : place.block ≡ e.graph.block (e.graph.pred k c.args.input).task = c.block-place.ensures.block runs.serves.outcome e.graph asked ∙ ap (λ (x : Edge). e.graph.block x.task) (sym pred) in
    let key = c.requires.stands.fits.duty.is_key in let now = c.end_input.new.scratch in
    let room = room_kept (g.G.TaskGraph.graph c.args.terms.now.graph.now) c.args.scratch.now now (ap (λ (i : Gathered). i.most_lists) c.end_input.ensures.inputs) (ap (λ (i : Gathered). i.most_cells) c.end_input.ensures.inputs) c.end_input.ensures.length c.requires.scratch.0 in
    let holds : now.inputs.lists ≡ input_values e.graph k c.args.input = ap (λ (i : Gathered). i.lists) c.end_input.ensures.inputs ∙ holds_in _ e c.args.self c.args.scratch.now c.args.input c.requires.phase c.requires.scratch in
    let keys = pred_key (g.G.TaskGraph.graph c.args.terms.now.graph.now) runs.serves.outcome e.graph runs.laws runs.serves.graph k key in
    look_scratch _ e c.args.self now _ c.args.input (cause.Block place.block place.version c.in-Bad.found) refl room

pub returns-in-Bad-clause-rest : goal.returns-in-Bad-clause-rest
returns-in-Bad-clause-rest g c =
    let e = g.T.Steps.setting c.args.steps.now in let k = c.args.self.duty.key.0 in let runs = c.requires.runs in let place = c.block-place.result in
    let asked = subst (λ h. IsGraphOf (g.G.TaskGraph.graph h) runs.serves.outcome e.graph) (sym c.of-graph.ensures) runs.serves.graph in
    let pred : e.graph.pred k c.args.input ≡ record { task = c.pred.result.key.0; port = c.pred.result.port } = c.pred.ensures.pred runs.serves.outcome e.graph asked in
    let here : place.block ≡ e.graph.block (e.graph.pred k c.args.input).task = c.block-place.ensures.block runs.serves.outcome e.graph asked ∙ ap (λ (x : Edge). e.graph.block x.task) (sym pred) in
    let of_version : place.version ≡ e.graph.version (e.graph.pred k c.args.input).task = c.block-place.ensures.version runs.serves.outcome e.graph asked ∙ ap (λ (x : Edge). e.graph.version x.task) (sym pred) in
    let poor = bad_was place.version c.in-Some.taken c.in-Bad.found (sym c.in-Bad.is ∙ c.end_input.ensures.told) in
    bad_falls _ e (g.T.Steps.view c.args.steps.now) c.args.self c.args.input _ _ runs c.requires.stands c.requires.phase c.requires.input (g.T.Steps.shown c.end_input.new.steps).1 place.block c.args.hand.now c.take.new.self c.in-Some.taken _ (sym c.take.ensures.value ∙ c.in-Some.is) c.take.ensures.after here place.version (cause.Block place.block place.version c.in-Bad.found)
    refl of_version poor.0

pub returns-in-Bad-clause-good : goal.returns-in-Bad-clause-good
returns-in-Bad-clause-good g c good =
    let e = g.T.Steps.setting c.args.steps.now in let k = c.args.self.duty.key.0 in let runs = c.requires.runs in let place = c.block-place.result in
    let asked = subst (λ h. IsGraphOf (g.G.TaskGraph.graph h) runs.serves.outcome e.graph) (sym c.of-graph.ensures) runs.serves.graph in
    let pred : e.graph.pred k c.args.input ≡ record { task = c.pred.result.key.0; port = c.pred.result.port } = c.pred.ensures.pred runs.serves.outcome e.graph asked in
    let of_version : place.version ≡ e.graph.version (e.graph.pred k c.args.input).task = c.block-place.ensures.version runs.serves.outcome e.graph asked ∙ ap (λ (x : Edge). e.graph.version x.task) (sym pred) in
    let poor = bad_was place.version c.in-Some.taken c.in-Bad.found (sym c.in-Bad.is ∙ c.end_input.ensures.told) in
    absurd (not_good e c.args.hand.now c.args.self c.args.input place.version c.in-Some.taken c.requires.phase (sym c.take.ensures.value ∙ c.in-Some.is) of_version poor.0 good)

pub returns-in_default-clause-spent : goal.returns-in_default-clause-spent
returns-in_default-clause-spent g c = refl

pub returns-in-Good-clause-spent : goal.returns-in-Good-clause-spent
returns-in-Good-clause-spent g c = refl

pub returns-in-Bad-clause-spent : goal.returns-in-Bad-clause-spent
returns-in-Bad-clause-spent g c = refl
