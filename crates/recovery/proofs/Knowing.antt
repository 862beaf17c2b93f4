-- What a view knows of a row, in the words of calls and events, and that it goes on knowing it.
use Rattle.std.proofs.Common.{◌≡◌, ℕ, ◌+◌, ◌-◌, ◌<◌, false, arith, sym, ◌∙◌, subst, Some}
use Rattle.core_state.specs.Guards.{KnowsRow}
use Rattle.core_state.specs.Counts.{word_in, known_word, known_key, knows_row}
use Rattle.core_state.specs.Graph.{Setting}
use Rattle.core_state.specs.Events.{Event, after}
use Rattle.core_state.specs.Outcome.{strikes_left, hands_left}
use Rattle.core_state.specs.declared.views.View.{View}
use Rattle.core_state.proofs.Row.View.{word_known}
use Rattle.core_state.proofs.Lines.Outcomes.{leaves}
use Rattle.core_state.proofs.Lines.Remembers.{names_row, right_apart, IsRight, word_stays, facts_grow}
use Rattle.core_steps.specs.Seat.{known_of}
use Rattle.core_steps.proofs.Telling.{number_of, key_in-suc}
use Rattle.recovery.specs.Memory.{KnowsKey, Remembers, SameHands}

-- the number by which a row is known
pub word_is : (v : View) (r k : ℕ) → known_of v r ≡ Some k → word_in r v.known ≡ k + 1
word_is v r k is = number_of (word_in r v.known) k is

pub key_is : (v : View) (r k : ℕ) → known_of v r ≡ Some k → known_key r v ≡ k
unfolding known_key known_word
key_is v r k is = let a = word_is v r k is in omega (arith, a)

module _ (e : Setting) (v : View) (r k : ℕ) (knows : KnowsKey e v r k) where
  pub row_known : KnowsRow e v r k
  row_known = let a = word_is v r k knows.key_is in let same : word_in r v.known - 1 ≡ k = omega (arith, a) in
      record { low = knows.low; row_known = subst (λ m. 0 < knows_row r m v) same (word_known r v.known (omega (arith, a))) }

  pub known_is : known_key r v ≡ k
  known_is = key_is v r k knows.key_is

  -- as calls ask for it
  pub row_here : KnowsRow e v r (known_key r v)
  row_here = subst (KnowsRow e v r) (sym known_is) row_known

-- an event that finds no row known by another key lets the view forget nothing
pub remembers : (e : Setting) (x : Event) (n : ℕ) (v w : View) → IsRight v x n → w ≡ after e x n v → Remembers v w
remembers e x n v w right is = record {
  rows_stay = λ r k known. let a = word_is v r k known in key_in-suc (word_in r w.known) k (word_stays e x n v w is right r (omega (arith, a)) ∙ a);
  facts_stay = facts_grow e x n v w is;
}

-- so does each event but claims and looks
pub remembers_apart : (e : Setting) (x : Event) (n : ℕ) (v w : View) → names_row x ≡ false → w ≡ after e x n v → Remembers v w
remembers_apart e x n v w apart is = remembers e x n v w (right_apart v x n apart) is

pub hands_kept : (e : Setting) (x : Event) (n : ℕ) (v w : View) → strikes_left e x v ≡ v.strikes → hands_left e x n v ≡ v.hands → w ≡ after e x n v → SameHands v w
hands_kept e x n v w strikes hands is = let a = leaves e x n v w is in record { same_hands = a.hands_are ∙ hands; same_strikes = a.strikes_are ∙ strikes }

-- what one view remembers of another it remembers of those before
pub remembers_on : (u v w : View) → Remembers u v → Remembers v w → Remembers u w
remembers_on u v w a b = record {
  rows_stay = λ r k known. b.rows_stay r k (a.rows_stay r k known);
  facts_stay = λ f. let x = a.facts_stay f in let y = b.facts_stay f in omega (arith, x, y);
}

pub key_stays : (e : Setting) (v w : View) (r k : ℕ) → Remembers v w → KnowsKey e v r k → KnowsKey e w r k
key_stays e v w r k more knows = record { low = knows.low; key_is = more.rows_stay r k knows.key_is }
