-- The step of a search that makes the row, as a claim: what it asks, what it teaches, and the lines that it leaves.
use Rattle.std.proofs.Common.{◌≡◌, ◌≢◌, ℕ, zero, suc, ◌+◌, ◌-◌, ◌<◌, Bool, true, false, cond, eqb, ne_eqb, List, ◌∷◌, ◌++◌, Some, None, arith, sym, ap, refl, ◌∙◌, subst}
use Rattle.std.specs.Prelude.{if◌then◌else◌}
use Rattle.std.proofs.lemmas.Bool.{eq-eqb}
use Rattle.core_state.specs.Counts.{word_in}
use Rattle.core_state.specs.Effects.{claim_of}
use Rattle.core_state.specs.Graph.{Setting}
use Rattle.core_state.specs.Events.{Can, Event, after}
use Rattle.core_state.specs.Events.Event.{claim}
use Rattle.core_state.specs.Lines.{Line, HasLines, claimed_lines, flat, of}
use Rattle.core_state.specs.Outcome.{learned}
use Rattle.core_state.specs.Views.{key_of}
use Rattle.core_state.specs.declared.answers.Claim.TheVariants as answer
use Rattle.core_state.specs.declared.job.Job.TheVariants as job
use Rattle.core_state.specs.declared.views.Item.TheVariants as line
use Rattle.core_state.specs.declared.views.View.{View}
use Rattle.core_state.proofs.Lines.After as lines_after
use Rattle.core_state.proofs.Lines.Outcomes.{leaves}
use Rattle.core_state.proofs.Lines.Remembers.{IsRight, right_here}
use Rattle.core_steps.specs.Seat.{IsStep, key_event, key_in, known_of}
use Rattle.core_steps.proofs.Telling.{key_in-suc}
use Rattle.key_table.specs.Path.{IsOther}
use Rattle.key_table.specs.Seeking.{Seeking, claimed, next_row}

-- the number by which a row is known, where it is known
known_number : (m n : ℕ) → 0 < m → ((k : ℕ) → key_in m ≡ Some k → n ≡ k + 1) → m ≡ n
known_number zero n some stays = omega (arith, some)
known_number (suc k) n some stays = let a = stays k refl in omega (arith, a)

-- the step of a search that makes the row is a claim
module _ (s : Seeking) (claims : s.makes ≡ true) where
  claim_event : key_event (next_row s) (claimed s) ≡ claim (next_row s) s.key
  claim_event = ap (key_event (next_row s)) (ap (λ b. if b then Some s.key else None) claims)

module _ {S : Type 0} {setting : S → Setting} {view : S → View} {made : S → ℕ} {last shown : S → ℕ × ℕ} {happened : S → Event → ℕ → S → Type 0} {lender : S → List ℕ} {others : S → List View} {before after_it : S} (s : Seeking) (claims : s.makes ≡ true) (step : Can (setting before) (view before) (key_event (next_row s) (claimed s)) × IsStep setting view made last shown happened lender others (key_event (next_row s) (claimed s)) before after_it) where
  pub claim_step : IsStep setting view made last shown happened lender others (claim (next_row s) s.key) before after_it
  claim_step = subst (λ x. IsStep setting view made last shown happened lender others x before after_it) (claim_event s claims) step.1

  told_is : (last after_it).1 ≡ (shown after_it).1
  told_is = ap (λ (x : ℕ × ℕ). x.1) claim_step.last_is

  pub claim_is : view after_it ≡ after (setting before) (claim (next_row s) s.key) (last after_it).1 (view before)
  claim_is = claim_step.view_is ∙ ap (λ n. after (setting before) (claim (next_row s) s.key) n (view before)) (sym told_is)

  pub claim_right : ((k : ℕ) → known_of (view before) (next_row s) ≡ Some k → (last after_it).1 ≡ k + 1) → IsRight (view before) (claim (next_row s) s.key) (shown after_it).1
  claim_right stays = right_here (view before) (claim (next_row s) s.key) (shown after_it).1 (next_row s) refl (λ some. known_number (word_in (next_row s) (view before).known) (shown after_it).1 some (λ k is. sym told_is ∙ stays k is))

module _ (e : Setting) (v w : View) (n r k : ℕ) (is : w ≡ after e (claim r k) n v) where
  -- an empty row becomes the key's
  pub made_known : n ≡ 0 → known_of w r ≡ Some k
  made_known empty = key_in-suc (word_in r w.known) k (ap (word_in r) ((leaves e (claim r k) n v w is).known_is ∙ ap (λ m. learned e (claim r k) m ++ v.known) empty) ∙ ap (λ b. cond b (k + 1) (word_in r v.known)) (eq-eqb r r refl))

  -- so one that another key is known of was not empty
  pub other_full : IsOther (known_of w r) k → n ≢ 0
  other_full other empty = absurd (other.differs (one other.other k (sym other.is ∙ made_known empty)))
    where
      one : (a b : ℕ) → Some a ≡ Some b → a ≡ b
      one a b same = cc

  module _ (y : Line) (b : List Line) (top : flat v.stacks ≡ y ∷ b) where
    lines_are : HasLines e w (claimed_lines k (claim_of k n) (y ∷ b))
    lines_are = lines_after.claimed e v w n r k (claim_of k n) y b top refl is

    pub full_lines : n ≢ 0 → HasLines e w (y ∷ b)
    full_lines full = subst (HasLines e w) (ap (λ z. claimed_lines k (cond z answer.Made (cond (eqb n (k + 1)) answer.Found (answer.Other (key_of (n - 1))))) (y ∷ b)) (ne_eqb n 0 full) ∙ by (eqb n (k + 1))) lines_are
      where
        by : (z : Bool) → claimed_lines k (cond z answer.Found (answer.Other (key_of (n - 1)))) (y ∷ b) ≡ y ∷ b
        by true = refl
        by false = refl

    pub made_lines : n ≡ 0 → HasLines e w (of (line.Owe k job.Explore 1) ∷ y ∷ b)
    made_lines empty = subst (HasLines e w) (ap (λ z. claimed_lines k (cond z answer.Made (cond (eqb n (k + 1)) answer.Found (answer.Other (key_of (n - 1))))) (y ∷ b)) (eq-eqb n 0 empty)) lines_are
