-- No job is lost by an event: what a view has begun it has begun.
use Rattle.std.proofs.Common.{◌≡◌, ℕ, zero, suc, ◌+◌, ◌≤◌, Bool, true, false, cond, eqb, List, [], ◌∷◌, arith, refl, ap, sym, subst}
use Rattle.core_state.specs.Counts.{begun, count, hit}
use Rattle.core_state.specs.Effects.{claim_of, closing_of, ends_top, blamed_items, loaded_ended, loaded_items, moved_ended, moved_items, ports_from, read_ended, read_items, registered_of, skipped_items, told_of}
use Rattle.core_state.specs.Events.{Event, after}
use Rattle.core_state.specs.Events.Event.{claim, look, load_descriptor, load_notify, load_recovery, register, spend, close, elect, renew_notify, renew_descriptor, finish, post, take, drop_credit, give_read, give_written}
use Rattle.core_state.specs.Graph.{Setting}
use Rattle.core_state.specs.Lines.{Line, begins, came_lines, change_first, claimed_lines, closed_lines, counted, credit, drop_first, dropped, first_ended, flat, of, registered_lines, swap_first, told_lines}
use Rattle.core_state.specs.Outcome.{closed_ended, ended_left, lines_left, registered_ended}
use Rattle.core_state.specs.Tests.{carries, is_ended}
use Rattle.core_state.specs.Views.{ends_with}
use Rattle.graph_model.specs.declared.record.Cause.TheVariants as cause
use Rattle.core_state.specs.declared.answers.Claim.{Claim}
use Rattle.core_state.specs.declared.answers.Claim.TheVariants as claimed
use Rattle.core_state.specs.declared.answers.Closing.{Closing}
use Rattle.core_state.specs.declared.answers.Closing.TheVariants as closing
use Rattle.core_state.specs.declared.answers.Registered.{Registered}
use Rattle.core_state.specs.declared.answers.Registered.TheVariants as registered
use Rattle.core_state.specs.declared.answers.Told.{Told}
use Rattle.core_state.specs.declared.answers.Told.TheVariants as told
use Rattle.core_state.specs.declared.job.Job.{Job}
use Rattle.core_state.specs.declared.job.Job.TheVariants as job
use Rattle.core_state.specs.declared.views.Ended.{Ended}
use Rattle.core_state.specs.declared.views.Item.{Item}
use Rattle.core_state.specs.declared.views.Item.TheVariants as item
use Rattle.core_state.specs.declared.views.View.{View}
use Rattle.core_state.proofs.Base.Counting.{bump_is, two_here}
use Rattle.core_state.proofs.Lines.Counts.{items_counted}
use Rattle.core_state.proofs.Lines.Ends.{ended_settled}
use Rattle.core_state.proofs.Lines.Leaves.{HasLine, pushes, stepped}
use Rattle.core_state.proofs.Settle.View.{ends_carry}
use Rattle.run_bounds.proofs.JobChanges.{blamed_keeps, close_same, compute_close, loaded_keeps, moved_keeps, owe_bare, read_keeps, skipped_keeps}
use Rattle.run_bounds.proofs.Jobs.{Grow, change_grows, settled_begun}

-- what stands first, where an event puts something else in its place; events of replacements are left out
abbrev pub Serves : Event → List Line → Type 0
Serves (close r k l w seen) ls = (b : List Line) × (ls ≡ of (item.Close k l w) ∷ b)
Serves (post r i k l) ls = (b : List Line) × (ls ≡ of (item.Owe k i l) ∷ b)
Serves (give_written k l b was now) ls = (loaded : Bool) × (read : ℕ) × (made : Bool) × (rest : List Line) × (ls ≡ of (item.Compute k l loaded read made) ∷ rest)
Serves (load_recovery r k) ls = ⊥
Serves (elect r k l c waits) ls = ⊥
Serves (renew_notify r k l w) ls = ⊥
Serves (renew_descriptor r k l) ls = ⊥
Serves (finish r k l) ls = ⊥
Serves _ ls = Unit {0}

pub begins_one : (j : Job) (k l : ℕ) → hit (carries j k l (begins j k l)) ≡ 1
begins_one job.Explore k l = ap hit (two_here k l)
begins_one job.Compute k l = ap hit (two_here k l)

-- where a change ends none
none_more : (ls : List Line) (es : List Ended) → first_ended (λ xs es. es) ls es ≡ es
none_more [] es = refl
none_more (credit ∷ b) es = refl
none_more (of x ∷ b) es = refl

module _ (i : Job) (k l : ℕ) where
  still : (ls : List Line) (es : List Ended) → Grow i k l ls es ls es
  still ls es = omega arith

  -- an item above the others takes nothing away
  above : (x : Item) (ls now : List Line) (es now_es : List Ended) → Grow i k l ls es now now_es → Grow i k l ls es (of x ∷ now) now_es
  above x ls now es now_es g = let c = bump_is (carries i k l x) (counted (carries i k l) now) in omega (arith, g, c)

  dropped_same : (p : Item → Bool) (s : Bool) (ls : List Line) → counted p (dropped s ls) ≡ counted p ls
  dropped_same p s [] = refl
  dropped_same p true (credit ∷ b) = refl
  dropped_same p false (credit ∷ b) = dropped_same p true b
  dropped_same p true (of x ∷ b) = let a = dropped_same p false b in let c = bump_is (p x) (counted p (dropped false b)) in let d = bump_is (p x) (counted p b) in omega (arith, a, c, d)
  dropped_same p false (of x ∷ b) = let a = dropped_same p false b in let c = bump_is (p x) (counted p (dropped false b)) in let d = bump_is (p x) (counted p b) in omega (arith, a, c, d)

  came_grows : (j : Job) (a n : ℕ) (ls now : List Line) (es : List Ended) → Grow i k l ls es now es → Grow i k l ls es (came_lines j a n now) es
  came_grows j a zero ls now es g = g
  came_grows j a (suc n) ls now es g = above (begins j a (suc n)) ls (credit ∷ now) es es g

  module _ (e : Setting) (n : ℕ) (v : View) where
    abbrev Grows : Event → Type 0
    Grows x = Grow i k l (flat v.stacks) v.ended (lines_left e x n v (flat v.stacks)) (ended_left e x n v)

    moved_on : Grow i k l (flat v.stacks) v.ended (change_first (moved_items e.graph) (flat v.stacks)) (first_ended (moved_ended e.graph) (flat v.stacks) v.ended)
    moved_on = change_grows i k l (moved_items e.graph) (moved_ended e.graph) (moved_keeps i k l e.graph e.plan v.strikes) (flat v.stacks) v.ended

    closed : (a m w : ℕ) (c : Closing) (b : List Line) → flat v.stacks ≡ of (item.Close a m w) ∷ b → Grow i k l (flat v.stacks) v.ended (closed_lines a m w n c (flat v.stacks)) (closed_ended c (first_ended ends_top (flat v.stacks) v.ended) v.ended)
    closed a m w c b is = subst (λ z. Grow i k l z v.ended (closed_lines a m w n c z) (closed_ended c (first_ended ends_top z v.ended) v.ended)) (sym is) (by c)
      where
        top : counted (carries i k l) (of (item.Close a m w) ∷ b) ≡ hit (carries i k l (item.Close a m w)) + counted (carries i k l) b
        top = bump_is (carries i k l (item.Close a m w)) (counted (carries i k l) b)

        by : (c : Closing) → Grow i k l (of (item.Close a m w) ∷ b) v.ended (closed_lines a m w n c (of (item.Close a m w) ∷ b)) (closed_ended c (first_ended ends_top (of (item.Close a m w) ∷ b) v.ended) v.ended)
        by (closing.Edges ports) = above (item.Notify a m w (ports_from w n 0 40)) (of (item.Close a m w) ∷ b) (of (item.Close a m (w + 1)) ∷ b) v.ended v.ended
            (let c = ap hit (close_same i k l a m w (w + 1)) in let d = top in let f = bump_is (carries i k l (item.Close a m (w + 1))) (counted (carries i k l) b) in omega (arith, c, d, f))
        by (closing.Stale y) = let c = ends_carry e.graph e.plan v.strikes i k l (item.Close a m w) v.ended in let d = top in omega (arith, c, d)
        by (closing.Struck y) = above (item.Suspect a y cause.Notify false) (of (item.Close a m w) ∷ b) b v.ended (ends_with (item.Close a m w) v.ended)
            (let c = ends_carry e.graph e.plan v.strikes i k l (item.Close a m w) v.ended in let d = top in omega (arith, c, d))
        by (closing.Moved y) = still (of (item.Close a m w) ∷ b) v.ended

    event_grows : (x : Event) → Serves x (flat v.stacks) → Grows x
    event_grows (claim r a) serves = by (claim_of a n)
      where
        by : (c : Claim) → Grow i k l (flat v.stacks) v.ended (claimed_lines a c (flat v.stacks)) v.ended
        by claimed.Made = above (item.Owe a job.Explore 1) (flat v.stacks) (flat v.stacks) v.ended v.ended (still (flat v.stacks) v.ended)
        by claimed.Found = still (flat v.stacks) v.ended
        by (claimed.Other key) = still (flat v.stacks) v.ended
    event_grows (look r) serves = by (eqb n 0) (change_grows i k l (skipped_items e.graph e.shape.rows r v.known) (λ xs es. es) (skipped_keeps i k l e.graph e.plan v.strikes e.shape.rows r v.known) (flat v.stacks) v.ended)
      where
        by : (b : Bool) → Grow i k l (flat v.stacks) v.ended (change_first (skipped_items e.graph e.shape.rows r v.known) (flat v.stacks)) (first_ended (λ xs es. es) (flat v.stacks) v.ended)
            → Grow i k l (flat v.stacks) v.ended (cond b (change_first (skipped_items e.graph e.shape.rows r v.known) (flat v.stacks)) (flat v.stacks)) v.ended
        by true g = subst (λ es. Grow i k l (flat v.stacks) v.ended (change_first (skipped_items e.graph e.shape.rows r v.known) (flat v.stacks)) es) (none_more (flat v.stacks) v.ended) g
        by false g = still (flat v.stacks) v.ended
    event_grows (load_descriptor r a) serves = change_grows i k l (loaded_items e.graph e.plan v.strikes a n) (loaded_ended e.graph e.plan v.strikes a n) (loaded_keeps i k l e.graph e.plan v.strikes a n) (flat v.stacks) v.ended
    event_grows (load_notify r a w) serves = subst (λ es. Grow i k l (flat v.stacks) v.ended (change_first (blamed_items e.graph a n) (flat v.stacks)) es) (none_more (flat v.stacks) v.ended) (change_grows i k l (blamed_items e.graph a n) (λ xs es. es) (blamed_keeps i k l e.graph e.plan v.strikes a n) (flat v.stacks) v.ended)
    event_grows (load_recovery r a) serves = absurd serves
    event_grows (register r p q) serves = by (registered_of n)
      where
        by : (x : Registered) → Grow i k l (flat v.stacks) v.ended (registered_lines p x (change_first (moved_items e.graph) (flat v.stacks)) (flat v.stacks)) (registered_ended x (first_ended (moved_ended e.graph) (flat v.stacks) v.ended) v.ended)
        by (registered.Waiting m) = moved_on
        by (registered.Closed m) = still (flat v.stacks) v.ended
        by (registered.Struck m) = above (item.Suspect p m cause.Notify false) (flat v.stacks) (flat v.stacks) v.ended v.ended (still (flat v.stacks) v.ended)
    event_grows (spend r a j) serves = by (told_of (e.graph.places a) j n)
      where
        by : (t : Told) → Grow i k l (flat v.stacks) v.ended (told_lines a t (change_first (moved_items e.graph) (flat v.stacks))) (first_ended (moved_ended e.graph) (flat v.stacks) v.ended)
        by (told.Spent m) = moved_on
        by (told.Last m) = above (item.Owe a job.Compute m) (flat v.stacks) (change_first (moved_items e.graph) (flat v.stacks)) v.ended (first_ended (moved_ended e.graph) (flat v.stacks) v.ended) moved_on
        by (told.Already m) = moved_on
        by (told.Struck m) = above (item.Suspect a m cause.Descriptor false) (flat v.stacks) (change_first (moved_items e.graph) (flat v.stacks)) v.ended (first_ended (moved_ended e.graph) (flat v.stacks) v.ended) moved_on
    event_grows (close r a m w seen) serves = closed a m w (closing_of m seen n) serves.0 serves.1
    event_grows (elect r a m c waits) serves = absurd serves
    event_grows (renew_notify r a m w) serves = absurd serves
    event_grows (renew_descriptor r a m) serves = absurd serves
    event_grows (finish r a m) serves = absurd serves
    event_grows (post r j a m) serves = subst (λ z. Grow i k l z v.ended (came_lines j a n (drop_first z)) v.ended) (sym serves.1)
        (came_grows j a n (of (item.Owe a j m) ∷ serves.0) serves.0 v.ended
        (let c = bump_is (carries i k l (item.Owe a j m)) (counted (carries i k l) serves.0) in let d = ap hit (owe_bare i k l a m j) in omega (arith, c, d)))
    event_grows (take r j a) serves = came_grows j a n (flat v.stacks) (flat v.stacks) v.ended (still (flat v.stacks) v.ended)
    event_grows drop_credit serves = let a = dropped_same (carries i k l) true (flat v.stacks) in omega (arith, a)
    event_grows (give_read b was) serves = change_grows i k l (read_items e.graph b was) (read_ended e.graph b was) (read_keeps i k l e.graph e.plan v.strikes b was) (flat v.stacks) v.ended
    event_grows (give_written a m b was now) serves = subst (λ z. Grow i k l z v.ended (swap_first (item.Close a m 0) z) v.ended) (sym serves.4)
        (let rest : List Line = serves.3 in let top = bump_is (carries i k l (item.Compute a m serves.0 serves.1 serves.2)) (counted (carries i k l) rest) in let next = bump_is (carries i k l (item.Close a m 0)) (counted (carries i k l) rest) in
        let same = ap hit (compute_close i k l a m 0 serves.0 serves.1 serves.2) in omega (arith, top, next, same))
    event_grows x serves = still (flat v.stacks) v.ended

    module _ (x : Event) (w : View) (line : pushes x ≡ true → HasLine v) (serves : Serves x (flat v.stacks)) (is : w ≡ after e x n v) where
      pub begun_grows : begun i k l v ≤ begun i k l w
      begun_grows = let a = items_counted (carries i k l) v in let b = items_counted (carries i k l) w in let g = event_grows x serves in
          let c = ap (counted (carries i k l)) (stepped e x n v w line is).lines_are in let d = ap (count (is_ended i k l)) (ended_settled e x n v w line is) in
          let f = settled_begun i k l e.graph e.plan w.strikes (lines_left e x n v (flat v.stacks)) (ended_left e x n v) in omega (arith, a, b, c, d, f, g)
