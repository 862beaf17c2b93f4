use Rattle.std.proofs.Common.{true, length, sym, subst}
use Rattle.std.proofs.lemmas.List.{length-set}
use Rattle.audit_cycles.specs.Components.{IsWalk}
use Rattle.audit_cycles.proofs.Walking.{walk_pushed}
use Rattle.audit_cycles.proofs.components.Walk.enter.Goals as goal

pub returns-in_ok-push-clause-walks : goal.returns-in_ok-push-clause-walks
returns-in_ok-push-clause-walks c =
    subst (λ n. IsWalk n c.push.new.self.items c.args.self.now.order.items) (sym (length-set c.args.self.now.seen.items c.args.p true))
    (walk_pushed (length c.args.self.now.seen.items) c.args.self.now.path.items c.push.new.self.items c.args.self.now.order.items (c.args.p, 0) c.requires.walks c.requires.task c.in_ok-push.ensures.items)
