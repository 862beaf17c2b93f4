use Rattle.std.proofs.Common.{◌≡◌, [], false, None, sym, subst}
use Rattle.core_state.specs.Outcome.{entries}
use Rattle.core_steps.specs.Kinds.{event_of, moves_block}
use Rattle.task_table.specs.Passes.{Passing}
use Rattle.task_table.proofs.Passing.{noted_pass}
use Rattle.task_table.proofs.pass.Pass.or.Goals as goal

pub invariant_of-self : goal.invariant_of-self
invariant_of-self g c = let e = g.C.Course.setting in let n = c.or-found.result in
    noted_pass e _ (event_of c.self.inside.seat.me.0 c.args.kind) n c.self.inside.seat.me.1 c.or-found.new.seat.me c.or-found.ensures.did None
    (subst (λ (o : Passing). entries e (event_of o.view c.args.kind) n ≡ []) (sym c.self.view_is) (c.requires.quiet n)) c.self.invariant
    (subst (λ (o : Passing). moves_block (event_of o.view c.args.kind) n ≡ false) (sym c.self.view_is) (c.requires.calm n)) _ _ _
