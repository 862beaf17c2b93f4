-- The views of the table are such views.
use Rattle.std.proofs.Common.{sym, subst}
use Rattle.core_steps.specs.Table.{Plain, HasRoom, IsClosing, ShowsCells, home_at}
use Rattle.core_steps.proofs.Growing.{some_worker, closing}
use Rattle.core_steps.proofs.Rooting.{root_fits}
use Rattle.core_steps.proofs.plain.PlainTable.close.Goals as goal

pub joined_records-requires-clause-some : goal.joined_records-requires-clause-some
joined_records-requires-clause-some g c = some_worker g.C.Course.setting _ c.self.invariant

pub joined_records-requires-clause-room : goal.joined_records-requires-clause-room
joined_records-requires-clause-room g c = subst (λ (p : Plain). HasRoom p.stores) (sym c.self.view_is) c.requires

pub invariant_of-result-clause-root_is : goal.invariant_of-result-clause-root_is
invariant_of-result-clause-root_is g c = ∣ subst (λ b. ShowsCells (home_at c.self.inside.blocks.items b) c.written_cells.result) c.root_block-root.ensures.block
    (subst (λ bs. ShowsCells (home_at bs c.root_block-root.result) c.written_cells.result) c.as_slice.ensures.value c.written_cells.ensures) ∣₁

pub written_cells-requires-clause-fits : goal.written_cells-requires-clause-fits
written_cells-requires-clause-fits g c = rw (c.as_slice.ensures.value, c.root_block-root.ensures.block) (root_fits g.C.Course.setting _ c.self.invariant)

pub invariant_of-result-clause-meets : goal.invariant_of-result-clause-meets
invariant_of-result-clause-meets g c = ∣ (c.self.inside.views, closing g.C.Course.setting _ c.joined_records.result.items c.self.invariant c.joined_records.ensures) ∣₁

pub returns-clause-views : goal.returns-clause-views
returns-clause-views g c = let i = c.self.inside in
    subst (λ (p : Plain). IsClosing g.C.Course.setting p.views i.words.items i.blocks.items c.joined_records.result.items i.root_replaced.items) c.self.view_is
    (closing g.C.Course.setting _ c.joined_records.result.items c.self.invariant c.joined_records.ensures)
