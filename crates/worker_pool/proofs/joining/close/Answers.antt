use Rattle.worker_pool.specs.Joining.{views_of}
use Rattle.worker_pool.proofs.Threading.Joining.{all_joined, last_ended}
use Rattle.worker_pool.proofs.joining.close.Goals as goal

pub close_with-requires-clause-only : goal.close_with-requires-clause-only
close_with-requires-clause-only g c = all_joined (views_of c.args.passes.items) _ c.in_ok-pass.ensures.views c.requires.parts

pub returns : goal.returns
returns g c = last_ended g.C.Course.setting (views_of c.args.passes.items) c.in_ok-pass.pass.view _ _ _ _ c.in_ok-pass.ensures.views c.close_with.ensures.views
