use Rattle.std.proofs.Common.{arith, ◌≡◌, ◌+◌, ◌<◌, ◌≤◌, [], ◌∷◌, ◌++◌, length, length-append, subst, sym, refl, ap}
use Rattle.graph_model.specs.Gathered.{Gathered, cells_in, pieces}
use Rattle.graph_model.proofs.Pieces.{length_pieces, held, pieces-push, rising-push}
use Rattle.graph_model.proofs.kernel.Inputs.push.Goals as goal

-- there is room for the list in both vectors
room : (c : goal.After-push) → (length c.self.inside.cells.items + length c.args.cells.now ≤ c.self.inside.most_cells) × (length c.self.inside.ends.items < c.self.inside.most_lists)
room c =
    let i = c.self.inside in
    let cells : cells_in (pieces 0 i.ends.items i.cells.items) + length c.args.cells.now ≤ i.most_cells =
    subst (λ (g : Gathered). cells_in g.lists + length c.args.cells.now ≤ g.most_cells) (sym c.self.view_is) c.requires.cells in
    let lists : length (pieces 0 i.ends.items i.cells.items) < i.most_lists =
    subst (λ (g : Gathered). length g.lists < g.most_lists) (sym c.self.view_is) c.requires.list in (
      omega (arith, held 0 i.ends.items (length i.cells.items) i.cells.items c.self.invariant.0 (omega arith)),
      omega (arith, length_pieces 0 i.ends.items i.cells.items),
    )

new_cells : (c : goal.After-push) → c.extend_from_slice.new.self.items ≡ c.self.inside.cells.items ++ c.args.cells.now
new_cells c = let r = room c in rw (c.extend_from_slice.ensures.succeeds (omega (arith, c.self.invariant))) at c.extend_from_slice.ensures.items

new_count : (c : goal.After-push) → c.len.result ≡ length c.self.inside.cells.items + length c.args.cells.now
new_count c = omega (arith, simp length-append at (ap length (new_cells c)))

new_ends : (c : goal.After-push) → c.push.new.self.items ≡ c.self.inside.ends.items ++ (length c.self.inside.cells.items + length c.args.cells.now) ∷ []
new_ends c =
    let r = room c in
    let pushed = rw (c.push.ensures.succeeds (omega (arith, c.self.invariant))) at c.push.ensures.items in
    rw (new_count c) at pushed

pub invariant_of-self : goal.invariant_of-self
invariant_of-self c =
    let i = c.self.inside in
    let r = room c in
    rw (new_ends c, new_cells c, length-append i.cells.items c.args.cells.now) (
      rising-push 0 i.ends.items (length i.cells.items) (length c.args.cells.now) c.self.invariant.0,
      rw (length-append i.ends.items ((length i.cells.items + length c.args.cells.now) ∷ [])) (omega arith),
      omega arith,
      omega (arith, c.self.invariant, c.push.ensures.capacity),
      omega (arith, c.self.invariant, c.extend_from_slice.ensures.capacity),
      c.self.invariant.5,
    )

pub returns : goal.returns
returns c =
    let i = c.self.inside in
    rw (← c.self.view_is, new_cells c, new_ends c, pieces-push 0 i.ends.items i.cells.items c.args.cells.now c.self.invariant.0) refl
