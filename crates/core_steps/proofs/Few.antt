-- Credits and posted lives are few, and a credit that goes is counted.
use Rattle.std.proofs.Common.{ℕ, ◌+◌, ◌≤◌, arith}
use Rattle.core_state.specs.Graph.{Setting}
use Rattle.core_state.specs.Words.{pending, posted}
use Rattle.core_state.specs.Change.{Core}
use Rattle.core_state.specs.Counts.{stack_count, spare}
use Rattle.core_state.specs.Guards.{CanDropCredit, KnowsRow}
use Rattle.core_state.specs.Guards.CanDropCredit.{idle_stack, spare_credit}
use Rattle.core_state.specs.declared.job.Job.{Job}
use Rattle.core_state.specs.declared.views.View.{View}
use Rattle.core_state.proofs.Credit.Keeps.{idle_length}
use Rattle.core_steps.proofs.AnyCore.{IsViewOf, known_has}
use Rattle.core_steps.proofs.Bound.{posted_low}

module _ {e : Setting} {s : Core} {v : View} (x : IsViewOf e s v) where
  -- a credit that can go is counted
  pub some_credit : CanDropCredit e v → 1 ≤ s.word pending
  some_credit can = let a = x.within stack_count in let b = x.within spare in let c = x.holds.work.credits.sum in let d = by can in omega (arith, a, b, c, d)
    where
      by : CanDropCredit e v → 1 ≤ stack_count v + spare v
      by (idle_stack q) = let a = idle_length v.stacks q in omega (arith, a)
      by (spare_credit q) = omega (arith, q)

  -- a posted life is one that a word of 32 bits holds
  pub posted_few : (r k : ℕ) (j : Job) → KnowsRow e v r k → s.word (posted j r) ≤ 65535
  posted_few r k j can = posted_low e x.fit s x.sums x.holds r k j (known_has x r k can)
