use Rattle.task_table.proofs.Handing.{made_pass}
use Rattle.task_table.proofs.pass.Pass.computed.Goals as goal

pub invariant_of-self : goal.invariant_of-self
invariant_of-self g c = made_pass g.C.Course.setting _ c.self.inside.seat.me.1 c.self.invariant c.args.key.0 c.args.life c.make.new.seat.me c.make.ensures.made c.keep.new.store c.keep.new.root_replaced.items c.keep.ensures.store c.keep.ensures.list _ _ _

pub returns-clause-pass : goal.returns-clause-pass
returns-clause-pass g c = (made_pass g.C.Course.setting _ c.self.inside.seat.me.1 c.self.invariant c.args.key.0 c.args.life c.make.new.seat.me c.make.ensures.made c.keep.new.store c.keep.new.root_replaced.items c.keep.ensures.store c.keep.ensures.list _ _ _).1
