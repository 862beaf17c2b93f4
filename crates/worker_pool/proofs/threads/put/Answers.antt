use Rattle.core_state.specs.Sure.{IsSure}
use Rattle.task_table.proofs.Sitting.{sure_seated}
use Rattle.task_table.specs.Passes.{Passing}
use Rattle.worker_pool.proofs.Threading.Turned.{all_put}
use Rattle.worker_pool.proofs.threads.put.Goals as goal

pub returns-in-Some-clause-sure : goal.returns-in-Some-clause-sure
returns-in-Some-clause-sure g c = λ all. let e = g.C.Course.setting in all_put (λ (p : Passing). IsSure e p.view) c.args.passes.now.items c.push_reserved.new.self.items c.in-Some.pass c.push_reserved.ensures.items all (sure_seated e c.in-Some.pass.view c.is_pass.ensures.seated)
