-- What holds of a core with several views, as one of them sees it.
use Rattle.std.proofs.Common.{◌≡◌, ◌≢◌, ℕ, ◌+◌, ◌-◌, ◌<◌, ◌≤◌, ◌&&◌, Bool, true, false, nat_lt, List, inl, inr, arith, eqb, ap, refl, subst}
use mathlib.Core.Logic.{dite}
use native.Mathlib.Decide.{ℕ_discrete, dec_lt}
use Rattle.std.proofs.lemmas.Bool.{le-ltb, lt-ltb}
use Rattle.graph_model.specs.declared.record.Record.{Record}
use Rattle.core_state.specs.Change.{Core}
use Rattle.core_state.specs.Counts.{begun, count, ended, held, hit, items, knows_row, noted, owed}
use Rattle.core_state.specs.Graph.{Setting, Sound}
use Rattle.core_state.specs.Invariant.{Invariant}
use Rattle.core_state.specs.Rows.{HasKey, HasRow, LifeOf}
use Rattle.core_state.specs.Tests.{carries, is_any_struck, is_any_suspect, is_owed, is_replaced}
use Rattle.core_state.specs.Words.{descriptor, life_of, posted, recovery, replacing, standing_life}
use Rattle.core_state.specs.declared.job.Job.{Job}
use Rattle.core_state.specs.declared.job.Job.TheVariants.{Explore, Compute}
use Rattle.core_state.specs.declared.views.View.{View}
use Rattle.core_state.proofs.Own.Sure.{job_once, row_of}
use Rattle.core_state.proofs.Row.Made.{carries_at, owed_at}
use Rattle.run_bounds.specs.Shared.{IsPart}
use Rattle.run_bounds.specs.Storm.{IsComeTo}
use Rattle.run_bounds.specs.Struck.{lives_of}

module _ {e : Setting} {s : Core} {v : View} (part : IsPart e s v) where
  -- a row that the view knows is that of its key
  pub known_row : (r k : ℕ) → 0 < knows_row r k v → HasKey e s r k
  known_row r k some = part.holds.keys.known r k (let a = part.within (knows_row r k) in omega (arith, a, some))

  -- the key of a job has a row
  pub job_row : (i : Job) (k l : ℕ) → 0 < owed i k l v + begun i k l v → HasRow e s k
  job_row i k l some = dite (ℕ_discrete (owed i k l v) 0)
      (λ none. dite (ℕ_discrete (held i k l v) 0)
      (λ z. part.holds.keys.of_ended i k l (let a = part.within (ended i k l) in omega (arith, a, none, z, some)))
      (λ ne. row_of e s part.holds v part.within k (carries i k l) (carries_at i k l) (omega (arith, ne))))
      (λ ne. row_of e s part.holds v part.within k (is_owed i k l) (owed_at i k l) (omega (arith, ne)))

  -- where somebody is suspected a strike has landed
  pub suspected_struck : 0 < items is_any_suspect v → 0 < s.total (noted is_any_struck)
  suspected_struck some = dite (ℕ_discrete (s.total (noted is_any_struck)) 0)
      (λ none. absurd (let a = (part.holds.no_fault.faultless none).none_suspected in let b = part.within (items is_any_suspect) in omega (arith, a, b, some)))
      (λ ne. omega (arith, ne))

  module _ (r k : ℕ) (has : HasKey e s r k) where
    pub life : LifeOf e s r k (s.word (recovery r))
    life = part.holds.lives.each r k has

    -- a job of a life exists at most once
    pub job_few : (i : Job) (l : ℕ) → 0 < l → s.total (owed i k l) + s.total (held i k l) + s.total (ended i k l) + hit (eqb l (s.word (posted i r))) ≤ 1
    job_few i l some = job_once e s part.holds i r k l has some

-- the lives of a key, as all views together tell them
module _ {e : Setting} {s : Core} (sound : Sound e) (holds : Invariant e s) (r k : ℕ) (has : HasKey e s r k) where
  descriptor_low : life_of (s.word (descriptor r)) ≤ lives_of s r
  descriptor_low = let life = holds.lives.each r k has in dite (ℕ_discrete (replacing (s.word (recovery r))) 0)
      (λ z. let a = (life.standing z).descriptor_life in omega (arith, a))
      (λ ne. let one : replacing (s.word (recovery r)) ≡ 1 = one_at_most (s.word (recovery r)) ne in let it = life.being_replaced one in let few = it.at_most in
      dite (ℕ_discrete it.done (e.graph.notify_words k + 1)) (λ all. let a = it.descriptor_after all in omega (arith, a, one)) (λ more. let a = it.descriptor_before (omega (arith, few, more)) in omega (arith, a)))
    where
      one_at_most : (n : ℕ) → replacing n ≢ 0 → replacing n ≡ 1
      one_at_most n some = omega (arith, some)

  -- a job that is owed, held, ended or posted is of a life up to now
  pub job_high : (i : Job) (l : ℕ) → 0 < s.total (owed i k l) + s.total (held i k l) + s.total (ended i k l) + hit (eqb l (s.word (posted i r))) → l ≤ lives_of s r
  job_high Explore l some = dite (dec_lt (standing_life (s.word (recovery r))) l) (λ above. absurd (let a = holds.work.jobs.not_explored r k l has above in omega (arith, a, some))) (λ low. omega (arith, low))
  job_high Compute l some = dite (dec_lt (life_of (s.word (descriptor r))) l) (λ above. absurd (let a = holds.work.jobs.not_computed r k l has above in omega (arith, a, some))) (λ low. let a = descriptor_low in omega (arith, low, a))

  -- what began or is owed is of a life
  pub job_life : (i : Job) (l : ℕ) → 0 < s.total (owed i k l) + s.total (held i k l) + s.total (ended i k l) → (0 < l) × (l ≤ lives_of s r)
  job_life i l some = (
    dite (ℕ_discrete l 0) (λ z. absurd (let a = holds.work.jobs.some_life i k in let f = subst (λ m. 0 < s.total (owed i k m) + s.total (held i k m) + s.total (ended i k m)) z some in omega (arith, a, f))) (λ ne. omega (arith, ne)),
    job_high i l (omega (arith, some)),
  )

  -- exactly the lives before the last were replaced
  pub replaced_low : (l : ℕ) → 0 < s.total (noted (is_replaced k l)) → l < lives_of s r
  replaced_low l some = dite (dec_lt l (lives_of s r)) (λ low. low) (λ high. absurd (let a = holds.records.replaced r k l has in
      let none : hit (nat_lt 0 l && nat_lt l (lives_of s r)) ≡ 0 = by (nat_lt 0 l) (nat_lt l (lives_of s r)) (le-ltb l (lives_of s r) (omega (arith, high))) in omega (arith, a, none, some)))
    where
      by : (a b : Bool) → b ≡ false → hit (a && b) ≡ 0
      by true b is = ap hit is
      by false b is = refl

  pub low_replaced : (l : ℕ) → 0 < l → l < lives_of s r → 0 < s.total (noted (is_replaced k l))
  low_replaced l some low = let a = holds.records.replaced r k l has in let one : hit (nat_lt 0 l && nat_lt l (lives_of s r)) ≡ 1 = rw (lt-ltb 0 l some, lt-ltb l (lives_of s r) low) in omega (arith, a, one)

  -- by the records of all views
  pub come_to : (rs : List Record) → ((m : ℕ) → s.total (noted (is_replaced k m)) ≡ count (is_replaced k m) rs) → (l : ℕ) → 0 < l → l ≤ lives_of s r → IsComeTo e.keys rs k l
  come_to rs all l some low = (
    sound.listed k (holds.keys.reached r k has),
    dite (ℕ_discrete l 1) (λ one. inl one) (λ ne. inr (
      l - 1,
      omega (arith, some, ne),
      let a = low_replaced (l - 1) (omega (arith, some, ne)) (omega (arith, some, low)) in let b = all (l - 1) in omega (arith, a, b),
    )),
  )
