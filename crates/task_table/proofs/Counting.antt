-- What a seat knows of numbers that it has not found yet.
use Rattle.std.proofs.Common.{◌≡◌, ◌≢◌, ℕ, ◌+◌, ◌-◌, ◌*◌, ◌<◌, ◌^◌, ◌%◌, Bool, true, false, cond, eqb, eq-eqb, ne_eqb, bit_or, [], arith, ap, refl, sym, subst, ◌∙◌}
use Rattle.std.specs.Prelude.{◌==◌}
use mathlib.Core.Logic.{dite}
use native.Mathlib.Decide.{ℕ_discrete}
use prog.Atomic.{either}
use Rattle.core_state.specs.Graph.{Setting}
use Rattle.core_state.specs.Words.{pending, key, recovery, standing_life}
use Rattle.core_state.specs.Counts.{known_key}
use Rattle.core_state.specs.Effects.{claim_of, close_left, elect_left}
use Rattle.core_state.specs.Events.Event.{buy, drop_credit, elect, look, load_recovery}
use Rattle.core_state.specs.Outcome.{claimed_entries}
use Rattle.core_state.specs.Views.{key_of}
use Rattle.core_state.specs.declared.answers.Claim.TheVariants as claim
use Rattle.graph_model.specs.declared.record.Cause.{Cause}
use Rattle.core_state.specs.Guards.{CanBuy, CanDropCredit, CanElect, KnowsRow}
use Rattle.core_state.specs.declared.views.View.{View}
use Rattle.core_steps.specs.Serving.{Renews, work_life, work_waits}
use Rattle.core_steps.proofs.AnyCore.{known_word}
use Rattle.core_steps.proofs.Bound.{pending_few}
use Rattle.core_steps.proofs.Few.{some_credit}
use Rattle.core_steps.proofs.Numbers.{recovery_few, renewed_life}
use Rattle.task_table.specs.Moments.{Glance, Moment}
use Rattle.task_table.proofs.Passing.{found_before, glance_found, seat_viewed, view_before}

module _ (e : Setting) (v : View) (n : ℕ) where
  -- pending doesn't wrap
  pub buy_leaves : CanBuy e v → Glance e 0 v n → n + 1 ≡ (n + 1) % 2 ^ 64
  buy_leaves can o = let x = seat_viewed e v o.seated in let a = pending_few e x.fit _ x.sums x.holds in let b = glance_found e buy v n o can in omega (arith, a, b)

  -- a credit that is dropped was counted
  pub drop_credit_leaves : CanDropCredit e v → Glance e 0 v n → n - 1 ≡ (n + (2 ^ 64 - 1)) % 2 ^ 64
  drop_credit_leaves can o = let a = some_credit (seat_viewed e v o.seated) can in let b = glance_found e drop_credit v n o can in let c = o.few in omega (arith, a, b, c)

  -- the key word of a row that the view knows
  pub key_seen : (r : ℕ) → KnowsRow e v r (known_key r v) → Glance e (Rattle.core_state.specs.Words.place_of e.shape (key r)) v n → n ≡ known_key r v + 1
  key_seen r can o = let a = known_word (seat_viewed e v o.seated) r (known_key r v) can in let b = glance_found e (look r) v n o (record { low = can.low }) in omega (arith, a, b)

  -- the recovery word of a life that the view replaces
  pub life_seen : (r : ℕ) → Renews e v r (known_key r v) (work_life v) → Glance e (Rattle.core_state.specs.Words.place_of e.shape (recovery r)) v n → (standing_life n ≡ work_life v) × (work_life v < 65535) × (n < 2 ^ 17)
  life_seen r can o = subst (λ m. (standing_life m ≡ work_life v) × (work_life v < 65535) × (m < 2 ^ 17)) (glance_found e (load_recovery r (known_key r v)) v n o can.row)
      (renewed_life (seat_viewed e v o.seated) r (known_key r v) (work_life v) can)

-- a recovery word that an election found is small
pub recovery_found : (e : Setting) (v w : View) (r l : ℕ) (c : Cause) (n : ℕ) → Moment e (elect r (known_key r v) l c (work_waits v)) n v w → CanElect e v r (known_key r v) l c (work_waits v) → n < 2 ^ 17
recovery_found e v w r l c n m can = subst (λ o. o < 2 ^ 17) (found_before e (elect r (known_key r v) l c (work_waits v)) n v w m can) (recovery_few (view_before e (elect r (known_key r v) l c (work_waits v)) n v w m) r (known_key r v) can.row)

-- an exchange of a number that was seen
exchanged_is : (f : ℕ → ℕ) (old new n : ℕ) → new ≡ f old → cond (eqb n old) (f n) n ≡ either (n == old) new n
exchanged_is f old new n is = dite (ℕ_discrete n old)
    (λ q. ap (λ (b : Bool). cond b (f n) n) (eq-eqb n old q) ∙ ap f q ∙ sym is ∙ sym (ap (λ (b : Bool). either b new n) (eq-eqb n old q)))
    (λ ne. ap (λ (b : Bool). cond b (f n) n) (ne_eqb n old ne) ∙ sym (ap (λ (b : Bool). either b new n) (ne_eqb n old ne)))

pub close_leaves : (seen bit n : ℕ) → bit ≡ 2 ^ 40 → close_left seen n ≡ either (n == seen) (bit_or seen bit) n
close_leaves seen bit n is = exchanged_is (λ m. bit_or m (2 ^ 40)) seen (bit_or seen bit) n (ap (bit_or seen) is)

pub elect_leaves : (l stands n : ℕ) → stands ≡ 2 * (l - 1) → elect_left l n ≡ either (n == stands) (stands + 1) n
elect_leaves l stands n is = ap (λ m. cond (eqb n m) (n + 1) n) (sym is) ∙ exchanged_is (λ m. m + 1) stands (stands + 1) n refl

-- who meets a key has made no row
pub none_claimed : (k n : ℕ) → n ≢ 0 → claimed_entries k (claim_of k n) ≡ []
none_claimed k n ne = ap (λ (b : Bool). claimed_entries k (cond b claim.Made (cond (eqb n (k + 1)) claim.Found (claim.Other (key_of (n - 1)))))) (ne_eqb n 0 ne) ∙ by (eqb n (k + 1))
  where
    by : (b : Bool) → claimed_entries k (cond b claim.Found (claim.Other (key_of (n - 1)))) ≡ []
    by true = refl
    by false = refl
