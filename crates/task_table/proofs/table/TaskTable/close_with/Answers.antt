-- What the last pass leaves meets the words and blocks that are copied.
use Rattle.std.proofs.Common.{◌≡◌, ℕ, ◌+◌, ◌-◌, ◌≤◌, ap, arith, length, subst, sym, ◌∙◌, List, Option}
use Rattle.std.specs.Mem.Slots.{slots_counts, slots_items, slots_len}
use Rattle.core_state.specs.Views.{all_parts}
use Rattle.core_state.specs.Words.{Shape, place_of, turn}
use Rattle.core_state.specs.declared.block.BlockCells.{BlockCells}
use Rattle.graph_model.specs.declared.record.Record.{Record}
use Rattle.core_steps.specs.Table.{FitsCells, ShowsCells, home_at}
use Rattle.task_table.specs.Passes.{Passing}
use Rattle.task_table.specs.Ends.{IsLast}
use Rattle.task_table.proofs.Last.{IsCopied, copied_of, turns_fit}
use Rattle.task_table.proofs.table.TaskTable.close_with.Goals as goal

pub home_blocks-blocks-requires-clause-words : goal.home_blocks-blocks-requires-clause-words
home_blocks-blocks-requires-clause-words g c = let e = g.C.Course.setting in let x = c.close_with-closed.result in
    subst (λ (ws : List ℕ). c.turn-turns.result + slots_len x.slots ≤ length ws) (sym (c.as_slice.ensures.value ∙ c.copied_words-words.ensures))
    (turns_fit e c.pass.inside.seat.id c.pass.inside.seat.me.0 (slots_items x.words) (slots_items x.slots) c.close_with-closed.ensures.values.2 c.turn-turns.result (c.turn-turns.ensures e.shape.blocks ∙ ap (λ (h : Shape). place_of h (turn 0)) c.places.ensures.places) (slots_len x.slots) (sym (slots_counts x.slots).0))

pub written_cells-requires-clause-fits : goal.written_cells-requires-clause-fits
written_cells-requires-clause-fits g c = let e = g.C.Course.setting in let x = c.close_with-closed.result in
    let copied : IsCopied e c.pass.inside.seat.me.0 c.as_slice.result.now c.home_blocks-blocks.result.items = copied_of e c.pass.inside.seat.id c.pass.inside.seat.me.0 (slots_items x.words) (slots_items x.slots) c.close_with-closed.ensures.values.2 c.turn-turns.result (c.turn-turns.ensures e.shape.blocks ∙ ap (λ (h : Shape). place_of h (turn 0)) c.places.ensures.places)
    c.home_blocks-blocks.result.items (slots_len x.slots) (sym (slots_counts x.slots).0) c.home_blocks-blocks.ensures.length c.as_slice.result.now (c.as_slice.ensures.value ∙ c.copied_words-words.ensures) c.home_blocks-blocks.ensures.home in
    let last : c.len-last.result - 1 ≡ e.graph.block e.graph.root = (let a = c.len-last.ensures in let b = copied.last in omega (arith, a, b)) in
    subst (λ (o : List (Option BlockCells) × ℕ). FitsCells (home_at o.0 o.1) (length c.rooms.inside.root.items)) (λ j. (sym c.as_slice-2.ensures.value j, sym last j)) (copied.room (length c.rooms.inside.root.items) c.rooms.invariant.3)

pub invariant_of-result-clause-root_is : goal.invariant_of-result-clause-root_is
invariant_of-result-clause-root_is g c = let e = g.C.Course.setting in let x = c.close_with-closed.result in
    let copied : IsCopied e c.pass.inside.seat.me.0 c.as_slice.result.now c.home_blocks-blocks.result.items = copied_of e c.pass.inside.seat.id c.pass.inside.seat.me.0 (slots_items x.words) (slots_items x.slots) c.close_with-closed.ensures.values.2 c.turn-turns.result (c.turn-turns.ensures e.shape.blocks ∙ ap (λ (h : Shape). place_of h (turn 0)) c.places.ensures.places)
    c.home_blocks-blocks.result.items (slots_len x.slots) (sym (slots_counts x.slots).0) c.home_blocks-blocks.ensures.length c.as_slice.result.now (c.as_slice.ensures.value ∙ c.copied_words-words.ensures) c.home_blocks-blocks.ensures.home in
    let last : c.len-last.result - 1 ≡ e.graph.block e.graph.root = (let a = c.len-last.ensures in let b = copied.last in omega (arith, a, b)) in
    ∣ subst (λ (o : List (Option BlockCells) × ℕ). ShowsCells (home_at o.0 o.1) c.written_cells.result) (λ j. (c.as_slice-2.ensures.value j, last j)) c.written_cells.ensures ∣₁

pub invariant_of-result-clause-meets : goal.invariant_of-result-clause-meets
invariant_of-result-clause-meets g c = let e = g.C.Course.setting in let x = c.close_with-closed.result in
    let copied : IsCopied e c.pass.inside.seat.me.0 c.as_slice.result.now c.home_blocks-blocks.result.items = copied_of e c.pass.inside.seat.id c.pass.inside.seat.me.0 (slots_items x.words) (slots_items x.slots) c.close_with-closed.ensures.values.2 c.turn-turns.result (c.turn-turns.ensures e.shape.blocks ∙ ap (λ (h : Shape). place_of h (turn 0)) c.places.ensures.places)
    c.home_blocks-blocks.result.items (slots_len x.slots) (sym (slots_counts x.slots).0) c.home_blocks-blocks.ensures.length c.as_slice.result.now (c.as_slice.ensures.value ∙ c.copied_words-words.ensures) c.home_blocks-blocks.ensures.home in
    let is : IsLast e c.pass.inside.seat.me.0 c.copied_words-words.result.items c.home_blocks-blocks.result.items c.into_records.result.items c.pass.inside.root_replaced.items =
    subst (λ (o : List ℕ × List Record). IsLast e c.pass.inside.seat.me.0 o.0 c.home_blocks-blocks.result.items o.1 c.pass.inside.root_replaced.items) (λ j. (c.as_slice.ensures.value j, sym c.into_records.ensures j))
    (copied.views (subst (λ (o : Passing). o.view.parts ≡ all_parts) (sym c.pass.view_is) c.requires.only) c.pass.inside.store c.pass.inside.root_replaced.items c.pass.invariant.1.keeps) in
    ∣ (is.views, is.closing) ∣₁

pub returns-clause-views : goal.returns-clause-views
returns-clause-views g c = let e = g.C.Course.setting in let x = c.close_with-closed.result in
    let copied : IsCopied e c.pass.inside.seat.me.0 c.as_slice.result.now c.home_blocks-blocks.result.items = copied_of e c.pass.inside.seat.id c.pass.inside.seat.me.0 (slots_items x.words) (slots_items x.slots) c.close_with-closed.ensures.values.2 c.turn-turns.result (c.turn-turns.ensures e.shape.blocks ∙ ap (λ (h : Shape). place_of h (turn 0)) c.places.ensures.places)
    c.home_blocks-blocks.result.items (slots_len x.slots) (sym (slots_counts x.slots).0) c.home_blocks-blocks.ensures.length c.as_slice.result.now (c.as_slice.ensures.value ∙ c.copied_words-words.ensures) c.home_blocks-blocks.ensures.home in
    subst (λ (o : Passing). IsLast e o.view c.copied_words-words.result.items c.home_blocks-blocks.result.items c.into_records.result.items c.pass.inside.root_replaced.items) c.pass.view_is
    (subst (λ (o : List ℕ × List Record). IsLast e c.pass.inside.seat.me.0 o.0 c.home_blocks-blocks.result.items o.1 c.pass.inside.root_replaced.items) (λ j. (c.as_slice.ensures.value j, sym c.into_records.ensures j))
    (copied.views (subst (λ (o : Passing). o.view.parts ≡ all_parts) (sym c.pass.view_is) c.requires.only) c.pass.inside.store c.pass.inside.root_replaced.items c.pass.invariant.1.keeps))
