use Rattle.std.proofs.Common.{arith, subst}
use Rattle.core_state.specs.Words.{place_of, recovery}
use Rattle.task_table.specs.Moments.{Glance}
use Rattle.task_table.specs.Passes.{Passing}
use Rattle.task_table.proofs.Counting.{life_seen}
use Rattle.task_table.proofs.pass.Pass.next_life.Goals as goal

pub returns-clause-life : goal.returns-clause-life
returns-clause-life g c = let e = g.C.Course.setting in let a = life_seen e c.args.self.now.view c.glance.result c.args.row c.requires.renews
    (subst (λ (o : Passing). Glance e (place_of e.shape (recovery c.args.row)) o.view c.glance.result) c.self.view_is (subst (λ w. Glance e w c.self.inside.seat.me.0 c.glance.result) c.recovery_place-word.ensures c.glance.ensures.looked.glance)) in
    let b = c.of_word.ensures.life a.2 in let d = a.0 in omega (arith, b, d)

pub returns-clause-few : goal.returns-clause-few
returns-clause-few g c = let e = g.C.Course.setting in let a = life_seen e c.args.self.now.view c.glance.result c.args.row c.requires.renews
    (subst (λ (o : Passing). Glance e (place_of e.shape (recovery c.args.row)) o.view c.glance.result) c.self.view_is (subst (λ w. Glance e w c.self.inside.seat.me.0 c.glance.result) c.recovery_place-word.ensures c.glance.ensures.looked.glance)) in
    let b = c.of_word.ensures.life a.2 in let d = a.0 in let f = a.1 in omega (arith, b, d, f)
