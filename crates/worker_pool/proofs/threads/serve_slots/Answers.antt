use Rattle.std.proofs.Common.{◌≡◌, ◌∙◌, ◌++◌, ap, arith, drop, length, subst, sym, take}
use Rattle.worker_pool.specs.Threads.{AreServed}
use Rattle.worker_pool.proofs.Threading.Served.{take_whole}
use Rattle.worker_pool.proofs.threads.serve_slots.Goals as goal

pub returns : goal.returns
returns g c = let o = g.Ke.Kernel.outcome in let f = g.Ke.Kernel.fits in let n = g.Ke.Kernel.calls in let e = g.C.Course.setting in let z = c.args.table.now in let served = c.serve_all.ensures.served in
    let ts = c.serve_all.new.slots in let rest = drop (length ts) c.args.slots.items in
    let many : c.args.slots.len ≡ length ts = (let a = served.same_count in let b = c.as_mut_slice.ensures.len in omega (arith, a, b)) in
    record { served = subst (λ xs. AreServed e z o f n xs (take c.args.slots.len (ts ++ rest))) c.as_mut_slice.ensures.value (subst (AreServed e z o f n c.as_mut_slice.result.now) (sym (ap (λ k. take k (ts ++ rest)) many ∙ take_whole ts rest)) served) }
