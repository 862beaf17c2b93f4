use Rattle.std.proofs.Common.{refl, length, get_or, arith}
use Rattle.audit_cycles.proofs.Searching.{see_more, seen_all, named_at, named_within}
use Rattle.audit_cycles.proofs.search.Search.see_all.Goals as goal

pub see-requires : goal.see-requires
see-requires c = omega (
  arith,
  c.loop-p.invariant.sees.long,
  named_within (length c.args.self.now.seen.items) c.args.named.now (get_or c.args.named.now c.loop-p.p-index (0, 0)).0 c.requires (named_at c.args.named.now c.loop-p.p-index (omega arith)),
)

pub loop-p-preserved : goal.loop-p-preserved
loop-p-preserved c =
    see_more c.args.named.now c.args.self.now.seen.items c.args.self.now.left.items c.loop-p.self.seen.items c.loop-p.self.left.items c.see.new.self.seen.items c.see.new.self.left.items
    c.loop-p.p-index _ c.loop-p.invariant (omega arith) refl c.in_ok-see.ensures.here c.in_ok-see.ensures.sees

pub returns-clause-all : goal.returns-clause-all
returns-clause-all c =
    seen_all c.args.named.now c.args.self.now.seen.items c.args.self.now.left.items c.loop-p.self.seen.items c.loop-p.self.left.items c.loop-p.p-index c.loop-p.invariant (omega arith)
