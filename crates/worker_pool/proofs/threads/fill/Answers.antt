use Rattle.std.proofs.Common.{◌≡◌, ◌∙◌, [], ◌∷◌, ap, arith}
use Rattle.std.proofs.lemmas.List.{map-append}
use Rattle.task_table.specs.Passes.{Passing}
use Rattle.worker_pool.specs.Joining.{views_of}
use Rattle.worker_pool.specs.Threads.{IsOf, slot_view}
use Rattle.worker_pool.proofs.Threading.Turned.{all_put, all_taken, turned_put}
use Rattle.worker_pool.proofs.threads.fill.Goals as goal

pub loop-kernel-preserved : goal.loop-kernel-preserved
loop-kernel-preserved g c = let inv = c.loop-kernel.invariant in let put = c.push_reserved.ensures.items in let all = c.in-Some-Some-Some in record {
  kernels = turned_put (λ s. s.kernel) _ _ _ _ _ _ c.in-Some.ensures.items put inv.kernels;
  views = turned_put slot_view (views_of c.loop-kernel.passes.items) (views_of c.pop-in-Some.new.self.items) _ _ _ _ (ap views_of all.ensures.items ∙ map-append (λ (q : Passing). q.view) c.pop-in-Some.new.self.items (all.pass ∷ [])) put inv.views;
  workers = turned_put (λ s. s.station.worker) _ _ _ _ _ _ all.ensures'.items put inv.workers;
  tables = λ z of_table. let old = inv.tables z of_table in let taken = all_taken (λ (p : Passing). p.table ≡ z) _ _ _ all.ensures.items old.0 in (taken.0, all_put (λ s. IsOf z s.pass) _ _ _ put old.1 taken.1);
  posted = let taken = all_taken (λ r. r.posted ≡ []) _ _ _ all.ensures''.items inv.posted.0 in (taken.0, all_put (λ s. s.station.posted ≡ []) _ _ _ put inv.posted.1 taken.1);
  passes_left = let a = c.in-Some.ensures.len in let b = all.ensures.len in omega (arith, a, b, inv.passes_left);
  workers_left = let a = c.in-Some.ensures.len in let b = all.ensures'.len in omega (arith, a, b, inv.workers_left);
  racks_left = let a = c.in-Some.ensures.len in let b = all.ensures''.len in omega (arith, a, b, inv.racks_left);
  room = let a = c.in-Some.ensures.len in let b = c.push_reserved.ensures.len in let d = c.push_reserved.ensures.capacity in omega (arith, a, b, d, inv.room);
  kernel_room = c.pop.ensures.capacity ∙ inv.kernel_room;
  pass_room = c.pop-in-Some.ensures.capacity ∙ inv.pass_room;
}
