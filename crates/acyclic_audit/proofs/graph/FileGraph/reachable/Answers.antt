use Rattle.std.proofs.Common.{◌≡◌, ◌∙◌, sym, subst, ap, count_by}
use Rattle.acyclic_audit.specs.Views.{graph}
use Rattle.acyclic_audit.specs.Reaching.{IsReachedCount}
use Rattle.acyclic_audit.proofs.Reached.{reached_count}
use Rattle.acyclic_audit.proofs.graph.FileGraph.reachable.Goals as goal

pub returns : goal.returns
returns c =
    let t = c.args.self.now in
    let seen = c.in_ok-seen.seen.items in
    let count : count_by (λ flag. flag) seen ≡ c.count_set.result = sym (c.count_set.ensures ∙ ap (λ flags. count_by (λ flag. flag) flags) c.as_slice.ensures.value) in
    subst (IsReachedCount (graph c.args.self.now)) count (reached_count t.keys.items t.tasks.items t.found t.whole seen c.in_ok-seen.ensures)
