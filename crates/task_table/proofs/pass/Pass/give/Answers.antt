use Rattle.std.proofs.Common.{◌≡◌, sym, subst}
use Rattle.core_state.specs.Outcome.{entries}
use Rattle.core_steps.specs.Kinds.{block_event}
use Rattle.core_steps.specs.Table.{as_list}
use Rattle.task_table.specs.Passes.{Passing}
use Rattle.task_table.proofs.Handing.{given_pass}
use Rattle.task_table.proofs.pass.Pass.give.Goals as goal

pub invariant_of-self : goal.invariant_of-self
invariant_of-self g c = let e = g.C.Course.setting in given_pass e _ c.self.inside.seat.me.1 c.self.invariant c.args.kind c.args.block c.args.cells c.exchange.new.seat.me c.requires.gives c.exchange.ensures.3 c.give-found.result c.give-found.new.seat.me c.give-found.ensures.did
    c.args.entry (subst (λ (o : Passing). entries e (block_event o.view c.args.kind c.args.block c.args.cells) c.give-found.result ≡ as_list c.args.entry) (sym c.self.view_is) (c.requires.entry c.give-found.result))
    c.keep.new.store c.keep.new.root_replaced.items c.keep.ensures.store c.keep.ensures.list _ _ _
