use Rattle.std.proofs.Common.{◌++◌, ◌∷◌, [], ap, arith, ◌∙◌}
use Rattle.std.specs.Mem.Slots.{slots_filled, slots_items, slots_len}
use Rattle.task_table.proofs.Last.{gone_more, home_more, left_more}
use Rattle.task_table.proofs.ending.home_blocks.Goals as goal

pub loop-i-preserved : goal.loop-i-preserved
loop-i-preserved c = let i = c.loop-i.invariant in let o = c.take-home.ensures.others in let now = c.take-home.new.self.slots in let old = c.loop-i.closed.slots in record {
  left = left_more (slots_filled old) (slots_filled now) c.loop-i.i (slots_len old) (slots_len now) o.1 o.2 i.left;
  gone = gone_more (slots_filled old) (slots_filled now) c.loop-i.i o.1 i.gone;
  same = (o.0 ∙ i.same.0, o.2 ∙ i.same.1);
  room = let a = i.room in let b = a.0 in let d = a.1 in let f = c.push_reserved.ensures.capacity in let h = o.2 in let t = c.loop-i-test.true in let u = c.slot_count.ensures in let l = ap Rattle.std.proofs.Common.length c.push_reserved.ensures.items in
      (l ∙ Rattle.std.proofs.lemmas.List.length_push c.loop-i.blocks.items _ ∙ omega (arith, b), omega (arith, d, f, h), omega (arith, h, t, u));
  home = home_more c.args.words.now c.args.turns c.loop-i.i c.loop-i.blocks.items c.push_reserved.new.self.items (slots_items old) (slots_items now) c.take-home.result (c.push_reserved.ensures.items ∙ ap (λ x. c.loop-i.blocks.items ++ x ∷ []) c.at_home.ensures) i.room.0 o.0 c.take-home.ensures.value i.home;
}
