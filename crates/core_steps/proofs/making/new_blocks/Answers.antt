use Rattle.std.proofs.Common.{length, ap, refl, sym, ◌∙◌}
use Rattle.core_steps.proofs.Housing.{more_blocks}
use Rattle.core_steps.proofs.making.new_blocks.Goals as goal

pub loop-i-preserved : goal.loop-i-preserved
loop-i-preserved c = more_blocks c.args.cells.now c.loop-i.blocks.items c.push.new.self.items _ c.loop-i.i c.in_ok-push.ensures.items refl refl (ap length c.from_vec.ensures ∙ sym c.in_ok-zeros.zeros.ok.0 ∙ c.in_ok-zeros.ensures.len) c.loop-i.invariant
