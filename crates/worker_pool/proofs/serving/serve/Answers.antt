use Rattle.std.proofs.Common.{◌∙◌, refl, subst, sym}
use Rattle.task_table.specs.Passes.{Passing, lender_of}
use Rattle.worker_pool.specs.Calling.{HasCalled}
use Rattle.worker_pool.specs.Threads.{EndsWell}
use Rattle.worker_pool.proofs.Threading.Served.{served_by}
use Rattle.worker_pool.proofs.serving.serve.Goals as goal

pub returns : goal.returns
returns g c = let e = g.C.Course.setting in let calls = g.Ke.Kernel.calls in let p = c.in-Some.pass in let q = c.leave.result in let work = c.work-slot.ensures in let at = c.seat-seat.ensures in let left = c.leave.ensures in record {
  served = served_by e c.args.table.now g.Ke.Kernel.outcome g.Ke.Kernel.fits calls c.args.slot.now _ p q (sym c.take.ensures.value ∙ c.in-Some.is) refl c.requires.ready.of_table
      ((λ j. lender_of (left j)) ∙ work.seat ∙ (λ j. lender_of (at j)))
      (subst (λ (x : Passing). EndsWell e x.view c.work-slot.result) (sym left) work.ends)
      (λ before has. subst (λ (x : Passing). HasCalled before (calls c.work-slot.new.kernel) x.view) (sym left) (work.calls before (subst (λ (x : Passing). HasCalled before (calls c.args.slot.now.kernel) x.view) (sym at) has)))
      work.kernel;
}
