-- The first state of a table.
use Rattle.std.proofs.Common.{◌≡◌, length, sym, ap, ◌∙◌, ℕ}
use Rattle.core_state.specs.Words.{Shape}
use Rattle.core_steps.specs.Table.{words_of}
use Rattle.core_steps.proofs.First.{last_fits, sound_new}
use Rattle.core_steps.proofs.plain.PlainTable.new.Goals as goal

pub invariant_of-result : goal.invariant_of-result
invariant_of-result g c = let e = g.C.Course.setting in let x = c.args.layout in
    let with_blocks : ℕ → Shape = λ n. record { rows = x.rows; notify_words = x.words_per_row; blocks = n } in
    let held : length c.in_ok-blocks.blocks.items ≡ length x.cells.items = c.in_ok-blocks.ensures.length ∙ ap length c.as_slice-cells.ensures.value in
    sound_new e c.requires.setting c.args.workers c.in_ok-blocks.blocks.items c.in_ok-blocks.ensures.unwritten c.requires.root c.in_ok-stores.stores.items c.as_slice-cells.result.now x.cells.items c.in_ok-words.words.items c.of.result c.new.result.items (with_blocks (length c.in_ok-blocks.blocks.items)) (length c.in_ok-root_cells.root_cells.items) _
    c.as_slice-cells.ensures.value (sym (ap (λ (h : Shape). h.blocks) c.requires.shape)) c.in_ok-blocks.ensures.length c.in_ok-blocks.ensures.filled c.requires.cells c.in_ok-stores.ensures.bare c.in_ok-stores.ensures.length c.requires.workers.0
    (c.requires.root_last ∙ sym (ap (λ (h : Shape). h.blocks) c.requires.shape)) (c.in_ok-root_cells.ensures ∙ last_fits c.as_slice-cells.result.now x.cells.items (e.graph.block e.graph.root) e.graph.cells c.as_slice-cells.ensures.value c.requires.root_last c.requires.cells)
    (c.in_ok-words.ensures ∙ (λ j. words_of ((ap with_blocks (ap length c.as_slice-cells.ensures.value) ∙ sym c.requires.shape) j) (sym c.requires.root j)))
    c.of.ensures c.new.ensures.items (ap with_blocks held ∙ sym c.requires.shape)
