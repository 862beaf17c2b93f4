-- The first state of a table.
use Rattle.std.proofs.Common.{◌≡◌, ℕ, ◌<◌, arith, length, get_or, ap, subst, sym, ◌∙◌}
use Rattle.core_state.specs.Words.{Shape}
use Rattle.core_steps.specs.Table.{words_of}
use Rattle.core_steps.proofs.First.{last_fits}
use Rattle.task_table.proofs.Opening.{first_pass, first_seated, opens}
use Rattle.task_table.proofs.table.TaskTable.new.Goals as goal

pub new-requires : goal.new-requires
new-requires g c = let e = g.C.Course.setting in let x = c.args.layout in
    let with_blocks : ℕ → Shape = λ n. record { rows = x.rows; notify_words = x.words_per_row; blocks = n } in
    let long : length c.in_ok-blocks.blocks.items ≡ length x.cells.items = c.in_ok-blocks.ensures.length ∙ ap length c.as_slice-cells.ensures.value in
    opens e c.requires.setting c.in_ok-blocks.blocks.items c.in_ok-blocks.ensures.unwritten c.requires.root c.as_slice-cells.result.now c.in_ok-blocks.ensures.filled (long ∙ sym (ap (λ (h : Shape). h.blocks) c.requires.shape))
    (λ b low. ap (λ xs. get_or xs b 0) c.as_slice-cells.ensures.value ∙ c.requires.cells b (subst (λ n. b < n) long low)) (c.requires.root_last ∙ sym (ap (λ (h : Shape). h.blocks) c.requires.shape))
    c.as_slice.result.now (c.as_slice.ensures.value ∙ c.in_ok-words.ensures ∙ (λ j. words_of ((ap with_blocks (ap length c.as_slice-cells.ensures.value) ∙ sym c.requires.shape) j) (sym c.requires.root j)))

pub invariant_of-table-in-Ok : goal.invariant_of-table-in-Ok
invariant_of-table-in-Ok g c = let e = g.C.Course.setting in let x = c.args.layout in
    let with_blocks : ℕ → Shape = λ n. record { rows = x.rows; notify_words = x.words_per_row; blocks = n } in
    let long : length c.in_ok-blocks.blocks.items ≡ length x.cells.items = c.in_ok-blocks.ensures.length ∙ ap length c.as_slice-cells.ensures.value in
    let kept = opens e c.requires.setting c.in_ok-blocks.blocks.items c.in_ok-blocks.ensures.unwritten c.requires.root c.as_slice-cells.result.now c.in_ok-blocks.ensures.filled (long ∙ sym (ap (λ (h : Shape). h.blocks) c.requires.shape))
    (λ b low. ap (λ xs. get_or xs b 0) c.as_slice-cells.ensures.value ∙ c.requires.cells b (subst (λ n. b < n) long low)) (c.requires.root_last ∙ sym (ap (λ (h : Shape). h.blocks) c.requires.shape))
    c.in_ok-words.words.items (c.in_ok-words.ensures ∙ (λ j. words_of ((ap with_blocks (ap length c.as_slice-cells.ensures.value) ∙ sym c.requires.shape) j) (sym c.requires.root j))) in (
      kept.sound.fits,
      c.in_ok-room.ensures.items,
      let a = c.in_ok-room.ensures.capacity in let b = ap (λ (h : Shape). h.blocks) c.requires.shape in let d = ap length c.as_slice-cells.ensures.value in omega (arith, a, b, d),
      c.in_ok-root.ensures ∙ last_fits c.as_slice-cells.result.now x.cells.items (e.graph.block e.graph.root) e.graph.cells c.as_slice-cells.ensures.value c.requires.root_last c.requires.cells,
    )

pub invariant_of-pass : goal.invariant_of-pass
invariant_of-pass g c = let e = g.C.Course.setting in let x = c.args.layout in
    let long : length c.in_ok-blocks.blocks.items ≡ length x.cells.items = c.in_ok-blocks.ensures.length ∙ ap length c.as_slice-cells.ensures.value in
    let seated = first_seated e c.requires.setting c.in_ok-blocks.blocks.items c.in_ok-blocks.ensures.unwritten c.requires.root c.as_slice-cells.result.now c.in_ok-blocks.ensures.filled (long ∙ sym (ap (λ (h : Shape). h.blocks) c.requires.shape))
    (λ b low. ap (λ xs. get_or xs b 0) c.as_slice-cells.ensures.value ∙ c.requires.cells b (subst (λ n. b < n) long low)) (c.requires.root_last ∙ sym (ap (λ (h : Shape). h.blocks) c.requires.shape)) in
    first_pass e seated c.in-Ok.seat.me c.in-Ok.ensures.ok.4 c.new-in-Ok.result c.new-in-Ok-2.result.items c.new-in-Ok.ensures c.new-in-Ok-2.ensures.items _ _ _
