use Rattle.std.proofs.Common.{All, List, ap, subst}
use Rattle.core_state.specs.Sure.{IsSure}
use Rattle.core_state.specs.declared.views.View.{View}
use Rattle.core_steps.specs.Table.{IsSound, Plain}
use Rattle.worker_pool.proofs.First.{views_sure}
use Rattle.worker_pool.proofs.pool.Pool.close.Goals as goal

pub returns-then-is_err-clause-sure : goal.returns-then-is_err-clause-sure
returns-then-is_err-clause-sure g c = let e = g.C.Course.setting in let table = c.gather.new.self in
    subst (λ (vs : List View). All (IsSure e) vs) (ap (λ (p : Plain). p.views) c.gather.ensures.table) (views_sure e table (subst (IsSound e) c.table.view_is c.table.invariant))

pub returns-clause-sure : goal.returns-clause-sure
returns-clause-sure g c = let e = g.C.Course.setting in let table = c.gather.new.self in
    subst (λ (vs : List View). All (IsSure e) vs) (ap (λ (p : Plain). p.views) c.gather.ensures.table) (views_sure e table (subst (IsSound e) c.table.view_is c.table.invariant))
