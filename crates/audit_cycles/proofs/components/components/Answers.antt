use Rattle.std.proofs.Common.{◌≡◌, ◌∙◌, ℕ, length, ap, subst, arith}
use Rattle.audit_cycles.specs.Components.{IsSearching}
use Rattle.audit_cycles.proofs.Walking.{popped_below, searching_seen}
use Rattle.audit_cycles.proofs.components.components.Goals as goal

pub see-requires : goal.see-requires
see-requires c =
    let w = popped_below (length c.args.places.now) c.loop-k.order.items c.pop.new.self.items c.in-Some.k c.loop-k.invariant.0 c.in-Some.ensures.items in
    omega (arith, w.1, c.loop-k.invariant.3.long)

pub spread-requires-clause-searches : goal.spread-requires-clause-searches
spread-requires-clause-searches c =
    let e : length c.args.places.now ≡ length c.as_slice.result.now = omega (arith, ap length c.as_slice.ensures.value, c.loop-k.invariant.1.long) in
    subst (λ n. IsSearching n c.see.new.self.seen.items c.see.new.self.left.items) e
    (searching_seen (length c.args.places.now) (λ (k : ℕ). k ≡ c.in-Some.k) c.loop-k.search.seen.items c.loop-k.search.left.items c.see.new.self.seen.items c.see.new.self.left.items c.loop-k.invariant.3 c.in_ok-see.ensures.sees)

pub loop-k-preserved : goal.loop-k-preserved
loop-k-preserved c =
    let w = popped_below (length c.args.places.now) c.loop-k.order.items c.pop.new.self.items c.in-Some.k c.loop-k.invariant.0 c.in-Some.ensures.items in
    let e : length c.as_slice.result.now ≡ length c.args.places.now = omega (arith, ap length c.as_slice.ensures.value, c.loop-k.invariant.1.long) in (
      w.0,
      c.loop-k.invariant.1,
      c.in_ok-spread.ensures.long ∙ e,
      subst (λ n. IsSearching n c.spread.new.search.seen.items c.spread.new.search.left.items) e c.in_ok-spread.ensures.searches,
    )
