use Rattle.std.proofs.Common.{◌≡◌, ◌∙◌, ◌+◌, ap, arith, length}
use Rattle.worker_pool.proofs.Hinting.{kept_rows}
use Rattle.worker_pool.proofs.Sharing.Hints.{keeping_none, keeps_one, one_longer}
use Rattle.worker_pool.proofs.worker.keep.Goals as goal

pub loop-row-init : goal.loop-row-init
loop-row-init c = record { are_rows = λ rows kept given. (kept, given); keeping = keeping_none c.args.hints.now.items c.args.posted.now; room = c.requires.room }

pub push_back_reserved-requires : goal.push_back_reserved-requires
push_back_reserved-requires c = let more : length c.loop-row.posted ≡ length c.pop.new.self + 1 = ap length c.in-Some.ensures ∙ one_longer c.in-Some.row c.pop.new.self in omega (arith, more, c.loop-row.invariant.room)

pub loop-row-preserved : goal.loop-row-preserved
loop-row-preserved c = let push = c.push_back_reserved.ensures in let before = c.loop-row.invariant in record {
  are_rows = λ rows kept given. let both = before.are_rows rows kept given in
      kept_rows rows c.in-Some.row c.loop-row.hints.items c.push_back_reserved.new.self.items c.loop-row.posted c.pop.new.self push.items c.in-Some.ensures both.0 both.1;
  keeping = keeps_one _ _ c.loop-row.hints.items c.loop-row.posted c.push_back_reserved.new.self.items c.pop.new.self c.in-Some.row c.in-Some.ensures push.items before.keeping;
  room = let more : length c.loop-row.posted ≡ length c.pop.new.self + 1 = ap length c.in-Some.ensures ∙ one_longer c.in-Some.row c.pop.new.self in omega (arith, more, before.room, push.len, push.capacity);
}
