-- The words that a step leaves: all but its own.
use Rattle.std.proofs.Common.{◌≡◌, ◌≢◌, ℕ, ◌+◌, ◌<◌, Bool, true, false, cond, ne_eqb, arith, refl, sym, ◌∙◌, ap, subst}
use mathlib.Core.Logic.{dite}
use native.Mathlib.Decide.{ℕ_discrete}
use Rattle.std.proofs.lemmas.Bool.{lt-ltb}
use Rattle.core_state.specs.Change.{Core}
use Rattle.core_state.specs.Events.{Event, at, left}
use Rattle.core_state.specs.Events.Event.{claim, look}
use Rattle.core_state.specs.Graph.{Setting}
use Rattle.core_state.specs.Rows.{HasKey}
use Rattle.core_state.specs.Words.{Spot, key, posted, recovery}
use Rattle.core_state.specs.declared.job.Job.{Job}
use Rattle.core_state.specs.declared.job.Job.TheVariants as job
use Rattle.core_state.specs.declared.views.View.{View}
use Rattle.run_bounds.specs.Hinting.{HasHints}
use Rattle.run_bounds.specs.Struck.{IsMade}

-- which word it is
abbrev is_job : Spot → Bool
is_job (posted i r) = true
is_job _ = false

-- the event steps on a job word
abbrev pub on_job : Event → Bool
on_job x = is_job (at x)

module _ {e : Setting} {s t : Core} {v w : View} {x : Event} {n : ℕ} (step : IsMade e x n s t v w) where
  jobs_stay : on_job x ≡ false → (i : Job) (r : ℕ) → t.word (posted i r) ≡ s.word (posted i r)
  jobs_stay off i r = step.others (posted i r) (λ same. let a : true ≡ false = ap is_job same ∙ off in cc)

  pub hints_stay : on_job x ≡ false → (r : ℕ) {a b : ℕ} → HasHints a b (s.word (posted job.Explore r)) (s.word (posted job.Compute r)) → HasHints a b (t.word (posted job.Explore r)) (t.word (posted job.Compute r))
  hints_stay off r {a} {b} has = subst (λ m. HasHints a b m (t.word (posted job.Compute r))) (sym (jobs_stay off job.Explore r)) (subst (λ m. HasHints a b (s.word (posted job.Explore r)) m) (sym (jobs_stay off job.Compute r)) has)

-- a key word that is not empty stays as it is
key_left : (e : Setting) (x : Event) (n q : ℕ) → key q ≡ at x → n ≢ 0 → left e x n ≡ n
key_left e (claim r k) n q is some = ap (λ b. cond b (k + 1) n) (ne_eqb n 0 some)
key_left e (look r) n q is some = refl
key_left e x n q is some = absurd cc

-- the row of a key word
abbrev row_of : Spot → ℕ
row_of (key r) = r
row_of _ = 0

abbrev is_key : Spot → Bool
is_key (key r) = true
is_key _ = false

key_word : (a : Spot) → is_key a ≡ true → a ≡ key (row_of a)
key_word (key r) is = refl
key_word a is = absurd cc

module _ {e : Setting} {s t : Core} {v w : View} (x : Event) (n : ℕ) (step : IsMade e x n s t v w) where
  key_stays : (q : ℕ) → q < e.shape.rows → s.word (key q) ≢ 0 → t.word (key q) ≡ s.word (key q)
  key_stays q low some = by (is_key (at x)) refl
    where
      by : (b : Bool) → is_key (at x) ≡ b → t.word (key q) ≡ s.word (key q)
      by true is = dite (ℕ_discrete q (row_of (at x)))
          (λ here. let there : key q ≡ at x = ap key here ∙ sym (key_word (at x) is) in
          let inside : Rattle.core_state.specs.Words.inside e.shape (at x) ≡ true = subst (λ a. Rattle.core_state.specs.Words.inside e.shape a ≡ true) there (lt-ltb q e.shape.rows low) in
          let found : s.word (key q) ≡ n = ap s.word there ∙ step.found_is inside in
          let now : t.word (key q) ≡ left e x n = ap t.word there ∙ step.left_is inside in
          now ∙ key_left e x n q there (λ z. some (found ∙ z)) ∙ sym found)
          (λ other. step.others (key q) (λ same. other (ap row_of same)))
      by false is = step.others (key q) (λ same. let a : true ≡ false = ap is_key same ∙ is in cc)

  pub keys_on : (q k : ℕ) → HasKey e s q k → HasKey e t q k
  keys_on q k has = (has.0, key_stays q has.0 (let a = has.1 in omega (arith, a)) ∙ has.1)
