use Rattle.std.proofs.Common.{◌≡◌, ◌∙◌, ap, List, ℤ, length, ◌≤◌, subst, sym, true}
use Rattle.core_state.specs.declared.block.BlockCells.{BlockCells}
use Rattle.block_store.proofs.Flipping.{one_flipped, all_flipped, whole}
use Rattle.block_store.proofs.striking.spoil.Goals as goal

pub loop-cell-preserved : goal.loop-cell-preserved
loop-cell-preserved c = one_flipped _ _ _ _ _ c.loop-cell.invariant (c.deref_mut-cell-items.ensures.value ∙ c.into_vec-cells.ensures) c.loop-cell-test.true c.complement.ensures

pub returns : goal.returns
returns c =
    let over = let P : List ℤ → Type 0 = λ l. length l ≤ c.loop-cell.cell-index in subst P (c.deref_mut-cell-items.ensures.value ∙ c.into_vec-cells.ensures) c.loop-cell-test.false in
    let long : c.into_vec-cells.result.len ≡ length c.loop-cell.cell-items = sym (c.loop-cell.auto.cell-items ∙ c.deref_mut-cell-items.ensures.len) in
    ap (λ (l : List ℤ). let x : BlockCells = record { tag = c.args.taken.tag; struck = true; cells = l } in x) (c.from_vec.ensures ∙ whole _ c.loop-cell.cell-items _ long ∙ c.loop-cell.invariant ∙ all_flipped _ _ over)
