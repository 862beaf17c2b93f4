-- Jobs stay begun also where a life is replaced.
use Rattle.std.proofs.Common.{◌≡◌, ℕ, ◌+◌, ◌≤◌, Bool, true, false, cond, eqb, List, ◌∷◌, arith, refl, ap}
use Rattle.graph_model.specs.declared.record.Cause.{Cause}
use Rattle.core_state.specs.Counts.{begun, count, hit}
use Rattle.core_state.specs.Effects.{all_ports, elected_of}
use Rattle.core_state.specs.Events.{Event, after}
use Rattle.core_state.specs.Events.Event.{elect, finish, renew_descriptor, renew_notify}
use Rattle.core_state.specs.Graph.{Setting}
use Rattle.core_state.specs.Lines.{Line, counted, elected_lines, flat, of}
use Rattle.core_state.specs.Outcome.{ended_left, lines_left}
use Rattle.core_state.specs.Tests.{carries, is_ended}
use Rattle.core_state.specs.declared.answers.Elected.{Elected}
use Rattle.core_state.specs.declared.answers.Elected.TheVariants as elected
use Rattle.core_state.specs.declared.job.Job.{Job}
use Rattle.core_state.specs.declared.job.Job.TheVariants as job
use Rattle.core_state.specs.declared.views.Item.{Item}
use Rattle.core_state.specs.declared.views.Item.TheVariants as item
use Rattle.core_state.specs.declared.views.View.{View}
use Rattle.core_state.proofs.Base.Counting.{bump_is}
use Rattle.core_state.proofs.Lines.Counts.{items_counted}
use Rattle.core_state.proofs.Lines.Ends.{ended_settled}
use Rattle.core_state.proofs.Lines.Leaves.{HasLine, pushes, stepped}
use Rattle.run_bounds.proofs.JobChanges.{suspect_bare}
use Rattle.run_bounds.proofs.Jobs.{settled_begun}

-- a renewal carries no job
bare_renewal : (i : Job) (k l a m d : ℕ) → hit (carries i k l (item.Renew a m d)) ≡ 0
bare_renewal job.Explore k l a m d = refl
bare_renewal job.Compute k l a m d = refl

module _ (e : Setting) (n : ℕ) (v w : View) (i : Job) (k l : ℕ) where
  -- the jobs that the view has begun after an event
  begun_after : (x : Event) → (pushes x ≡ true → HasLine v) → w ≡ after e x n v → begun i k l w ≡ counted (carries i k l) (lines_left e x n v (flat v.stacks)) + count (is_ended i k l) (ended_left e x n v)
  begun_after x line is = let a = items_counted (carries i k l) w in let b = ap (counted (carries i k l)) (stepped e x n v w line is).lines_are in let c = ap (count (is_ended i k l)) (ended_settled e x n v w line is) in
      let d = settled_begun i k l e.graph e.plan w.strikes (lines_left e x n v (flat v.stacks)) (ended_left e x n v) in omega (arith, a, b, c, d)

  -- an event that ends none, with these lines on top
  grown : (x : Event) (y : Item) (b : List Line) → flat v.stacks ≡ of y ∷ b → hit (carries i k l y) ≡ 0 → ended_left e x n v ≡ v.ended → counted (carries i k l) b ≤ counted (carries i k l) (lines_left e x n v (of y ∷ b)) → w ≡ after e x n v → begun i k l v ≤ begun i k l w
  grown x y b top bare ends more is = let a = begun_after x (λ z. record { first = of y; rest = b; lines_are = top }) is in let c = ap (λ ls. counted (carries i k l) (lines_left e x n v ls)) top in let d = ap (count (is_ended i k l)) ends in
      let f = items_counted (carries i k l) v in let g = ap (counted (carries i k l)) top in let h = bump_is (carries i k l y) (counted (carries i k l) b) in omega (arith, a, c, d, f, g, h, bare, more)

  pub elected_grows : (r a m : ℕ) (c : Cause) (waits : Bool) (b : List Line) → flat v.stacks ≡ of (item.Suspect a m c waits) ∷ b → w ≡ after e (elect r a m c waits) n v → begun i k l v ≤ begun i k l w
  elected_grows r a m c waits b top is = grown (elect r a m c waits) (item.Suspect a m c waits) b top (ap hit (suspect_bare i k l a m c waits)) refl (by (elected_of m n)) is
    where
      here : counted (carries i k l) b ≤ counted (carries i k l) (of (item.Suspect a m c waits) ∷ b)
      here = let z = bump_is (carries i k l (item.Suspect a m c waits)) (counted (carries i k l) b) in omega (arith, z)

      to : (f g : Bool) → counted (carries i k l) b ≤ counted (carries i k l) (cond f (cond g (of (item.Suspect a m c waits) ∷ b) b) (of (item.Suspect a m c waits) ∷ b))
      to true true = here
      to true false = omega arith
      to false g = here

      by : (x : Elected) → counted (carries i k l) b ≤ counted (carries i k l) (elected_lines a m waits x (of (item.Suspect a m c waits) ∷ b))
      by elected.Yes = let z = bump_is (carries i k l (item.Renew a m 0)) (counted (carries i k l) b) in omega (arith, z)
      by (elected.Replaced y) = omega arith
      by (elected.Renewing y) = to (eqb y m) waits

  module _ (r a m d : ℕ) (b : List Line) (top : flat v.stacks ≡ of (item.Renew a m d) ∷ b) where
    pub word_grows : (y : ℕ) → w ≡ after e (renew_notify r a m y) n v → begun i k l v ≤ begun i k l w
    word_grows y is = grown (renew_notify r a m y) (item.Renew a m d) b top (bare_renewal i k l a m d) refl (let z = bump_is (carries i k l (item.Renew a m (y + 1))) (counted (carries i k l) b) in omega (arith, z)) is

    pub descriptor_grows : w ≡ after e (renew_descriptor r a m) n v → begun i k l v ≤ begun i k l w
    descriptor_grows is = grown (renew_descriptor r a m) (item.Renew a m d) b top (bare_renewal i k l a m d) refl (let z = bump_is (carries i k l (item.Renew a m (e.graph.notify_words a + 1))) (counted (carries i k l) b) in omega (arith, z)) is

    pub finish_grows : w ≡ after e (finish r a m) n v → begun i k l v ≤ begun i k l w
    finish_grows is = grown (finish r a m) (item.Renew a m d) b top (bare_renewal i k l a m d) refl
        (let ports : Item = item.Reenter a (m + 1) (all_ports 0 (e.graph.ports a)) in let owe : Item = item.Owe a job.Explore (m + 1) in
        let y = bump_is (carries i k l ports) (counted (carries i k l) b) in let z = bump_is (carries i k l owe) (counted (carries i k l) (of ports ∷ b)) in omega (arith, y, z)) is
