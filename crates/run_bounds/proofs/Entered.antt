-- What a step records stays, and a job that came is begun once more.
use Rattle.std.proofs.Common.{◌≡◌, ℕ, suc, ◌+◌, ◌≤◌, Bool, List, arith, ap, sym, ◌∙◌, subst}
use Rattle.core_state.specs.Counts.{begun, count, hit, noted}
use Rattle.core_state.specs.Events.{Event, after}
use Rattle.core_state.specs.Events.Event.{post, take}
use Rattle.core_state.specs.Graph.{Setting}
use Rattle.core_state.specs.Lines.{Line, begins, counted, drop_first, flat, settled}
use Rattle.core_state.specs.Tests.{carries, is_ended}
use Rattle.graph_model.specs.declared.record.Record.{Record}
use Rattle.core_state.specs.declared.job.Job.{Job}
use Rattle.core_state.specs.declared.views.Item.TheVariants as item
use Rattle.core_state.specs.declared.views.View.{View}
use Rattle.core_state.proofs.Base.Counting.{bump_is}
use Rattle.core_state.proofs.Lines.Counts.{items_counted}
use Rattle.core_state.proofs.Lines.Ends.{ended_settled}
use Rattle.core_state.proofs.Lines.Entries.{noted_entered}
use Rattle.core_state.proofs.Lines.Leaves.{stepped}
use Rattle.run_bounds.proofs.JobChanges.{owe_bare}
use Rattle.run_bounds.proofs.JobEvents.{Serves, begins_one}
use Rattle.run_bounds.proofs.Jobs.{settled_begun}

module _ (e : Setting) where
  pub noted_grows : (p : Record → Bool) (x : Event) (n : ℕ) (v w : View) → w ≡ after e x n v → noted p v ≤ noted p w
  noted_grows p x n v w is = let a = noted_entered e p x n v w is in omega (arith, a)

  module _ (n : ℕ) (v w : View) where
    -- a job that came is begun once more
    came_begun : (i : Job) (k m : ℕ) (b : List Line) → n ≡ suc m → counted (carries i k n) (Rattle.core_state.specs.Lines.came_lines i k n b) ≡ counted (carries i k n) b + 1
    came_begun i k m b some = subst (λ z. counted (carries i k z) (Rattle.core_state.specs.Lines.came_lines i k z b) ≡ counted (carries i k z) b + 1) (sym some)
        (let d = bump_is (carries i k (suc m) (begins i k (suc m))) (counted (carries i k (suc m)) b) in let f = begins_one i k (suc m) in omega (arith, d, f))

    pub take_begins : (r k m : ℕ) (i : Job) → n ≡ suc m → w ≡ after e (take r i k) n v → begun i k n w ≡ begun i k n v + 1
    take_begins r k m i some is =
        let a = items_counted (carries i k n) v in let b = items_counted (carries i k n) w in let c = ap (counted (carries i k n)) (stepped e (take r i k) n v w (λ q. absurd cc) is).lines_are in
        let d = ap (count (is_ended i k n)) (ended_settled e (take r i k) n v w (λ q. absurd cc) is) in
        let f = settled_begun i k n e.graph e.plan w.strikes (Rattle.core_state.specs.Lines.came_lines i k n (flat v.stacks)) v.ended in let g = came_begun i k m (flat v.stacks) some in omega (arith, a, b, c, d, f, g)

    pub post_begins : (r k l m : ℕ) (i : Job) → n ≡ suc m → Serves (post r i k l) (flat v.stacks) → w ≡ after e (post r i k l) n v → begun i k n w ≡ begun i k n v + 1
    post_begins r k l m i some serves is =
        let below : List Line = serves.0 in let left : List Line = Rattle.core_state.specs.Lines.came_lines i k n below in
        let a = items_counted (carries i k n) v in let b = items_counted (carries i k n) w in
        let lines : flat w.stacks ≡ settled e.graph e.plan w.strikes left = (stepped e (post r i k l) n v w (λ q. absurd cc) is).lines_are ∙ ap (λ z. settled e.graph e.plan w.strikes (Rattle.core_state.specs.Lines.came_lines i k n (drop_first z))) serves.1 in
        let c = ap (counted (carries i k n)) lines in
        let d = ap (count (is_ended i k n)) (ended_settled e (post r i k l) n v w (λ q. absurd cc) is ∙ ap (λ z. Rattle.core_state.specs.Lines.settled_ended e.graph e.plan w.strikes (Rattle.core_state.specs.Lines.came_lines i k n (drop_first z)) v.ended) serves.1) in
        let f = settled_begun i k n e.graph e.plan w.strikes left v.ended in let g = came_begun i k m below some in
        let h = ap (counted (carries i k n)) serves.1 in let o = bump_is (carries i k n (item.Owe k i l)) (counted (carries i k n) below) in let p = ap hit (owe_bare i k n k l i) in omega (arith, a, b, c, d, f, g, h, o, p)
