use Rattle.std.proofs.Common.{◌≡◌, ◌+◌, arith, subst}
use Rattle.core_state.specs.Counts.{known_key}
use Rattle.core_state.specs.Words.{key, place_of}
use Rattle.task_table.specs.Moments.{Glance}
use Rattle.task_table.specs.Passes.{Passing}
use Rattle.task_table.proofs.Counting.{key_seen}
use Rattle.task_table.proofs.pass.Pass.key_of.Goals as goal
use Rattle.task_table.proofs.pass.Pass.key_of.Given as given

-- what the key word held
shown : (g : given.Over) (c : goal.After-glance g) → c.glance.result ≡ known_key c.args.row c.args.self.now.view + 1
shown g c = let e = g.C.Course.setting in key_seen e c.args.self.now.view c.glance.result c.args.row c.requires.can
    (subst (λ (o : Passing). Glance e (place_of e.shape (key c.args.row)) o.view c.glance.result) c.self.view_is (subst (λ w. Glance e w c.self.inside.seat.me.0 c.glance.result) c.key_place-word.ensures c.glance.ensures.looked.glance))

pub overflow_sub-result : goal.overflow_sub-result
overflow_sub-result g c = let a = shown g c in omega (arith, a)

pub returns-clause-key : goal.returns-clause-key
returns-clause-key g c = let a = shown g c in omega (arith, a)
