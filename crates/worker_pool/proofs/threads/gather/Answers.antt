use Rattle.std.proofs.Common.{arith, subst, sym}
use Rattle.worker_pool.specs.Joining.{views_of}
use Rattle.worker_pool.specs.Threads.{AllTell, EndsWell, IsOf, slot_view}
use Rattle.worker_pool.proofs.Threading.Tells.{put_table, put_view, tell_more}
use Rattle.worker_pool.proofs.Threading.Turned.{all_taken, turned_taken}
use Rattle.worker_pool.proofs.threads.gather.Goals as goal

pub loop-slot-preserved : goal.loop-slot-preserved
loop-slot-preserved g c = let e = g.C.Course.setting in let inv = c.loop-slot.invariant in let taken = c.in-Some.ensures.items in let slot = c.in-Some.slot in let ps = c.loop-slot.passes.items in let more = c.put.new.passes.items in
    let z = c.requires.tables.0 in
    let of_table = (all_taken (λ s. IsOf z s.pass) _ _ _ taken (inv.tables z c.requires.tables.1).1).1 in
    let view = put_view z ps more slot.pass of_table c.put.ensures.items in
    let well = all_taken (λ s. EndsWell e (slot_view s) s.ending) _ _ _ taken inv.ends in record {
      kernels = turned_taken (λ s. s.kernel) _ _ _ _ _ _ taken c.push_reserved.ensures.items inv.kernels;
      views = turned_taken slot_view (views_of ps) (views_of more) _ _ _ _ taken view inv.views;
      tables = λ y all. let old = inv.tables y all in let one = all_taken (λ s. IsOf y s.pass) _ _ _ taken old.1 in (put_table y ps more slot.pass one.1 c.put.ensures.items old.0, one.0);
      ends = well.0;
      tells = subst (λ vs. AllTell e vs c.or-all.result) (sym view) (subst (AllTell e _) (sym c.or-all.ensures) (tell_more e (views_of ps) (slot_view slot) c.loop-slot.all slot.ending inv.tells well.1));
      sure = c.put.ensures.sure inv.sure;
      kernel_room = let a = c.in-Some.ensures.len in let b = c.push_reserved.ensures.len in let d = c.push_reserved.ensures.capacity in omega (arith, a, b, d, inv.kernel_room);
      pass_room = let a = c.in-Some.ensures.len in let b = c.put.ensures.few in let d = c.put.ensures.capacity in omega (arith, a, b, d, inv.pass_room);
    }

pub returns-clause-tables : goal.returns-clause-tables
returns-clause-tables g c = λ z all. (c.loop-slot.invariant.tables z all).0
