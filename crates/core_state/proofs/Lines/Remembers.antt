-- What a view knows it knows after each event of its seat.
use Rattle.std.proofs.Common.{◌≡◌, ◌≢◌, ℕ, zero, suc, ◌+◌, ◌-◌, ◌/◌, ◌%◌, ◌<◌, ◌≤◌, Bool, true, false, cond, eqb, ne_eqb, eq-eqb, ◌&&◌, List, [], ◌∷◌, ◌++◌, refl, ap, sym, ◌∙◌, subst, arith, ⊎_elim}
use mathlib.Core.Logic.{dite}
use native.Mathlib.Decide.{ℕ_discrete}
use Rattle.std.proofs.lemmas.Bool.Decides.{eqb_tells}
use Rattle.core_state.specs.Graph.{Setting}
use Rattle.core_state.specs.Words.{key, mark_of, closed_bit, life_of, mark_shown, life_shown}
use Rattle.core_state.specs.Counts.{count, facts, word_in, known_word, known_key}
use Rattle.core_state.specs.Tests.{is_row, is_seen_closed}
use Rattle.core_state.specs.Effects.{seen, claim_of, claim_left, registered_of, closing_of, others_before, is_other}
use Rattle.core_state.specs.Views.{key_of}
use Rattle.core_state.specs.Guards.{KnowsRow, KnowsClosed}
use Rattle.core_state.specs.Events.{Event, at, after}
use Rattle.core_state.specs.Events.Event.{claim, look, load_descriptor, load_notify, load_recovery, load_pending, load_stop, register, spend, close, elect, renew_notify, renew_descriptor, finish, strike_descriptor, strike_notify, post, take, buy, drop_credit, take_turn, give_read, give_written, give_struck, halt}
use Rattle.core_state.specs.Outcome.{learned, registered_known, closed_known, key_told}
use Rattle.core_state.specs.declared.answers.Claim.TheVariants as claimed
use Rattle.core_state.specs.declared.answers.Registered.{Registered}
use Rattle.core_state.specs.declared.answers.Registered.TheVariants as registered
use Rattle.core_state.specs.declared.answers.Closing.{Closing}
use Rattle.core_state.specs.declared.answers.Closing.TheVariants as closing
use Rattle.core_state.specs.declared.views.Known.{Known}
use Rattle.core_state.specs.declared.views.Known.TheVariants as known
use Rattle.core_state.specs.declared.views.Word.{Word}
use Rattle.core_state.specs.declared.views.Word.TheVariants as word
use Rattle.core_state.specs.declared.views.View.{View}
use Rattle.core_state.proofs.Base.Counting.{eqb_here, both}
use Rattle.core_state.proofs.Seats.View.{count_both}
use Rattle.core_state.proofs.Lines.Outcomes.{leaves}

-- no fact of a row is among these
no_row : List Known → Bool
no_row [] = true
no_row (known.Row r k ∷ xs) = false
no_row (x ∷ xs) = no_row xs

past_rows : (r : ℕ) (xs ys : List Known) → no_row xs ≡ true → word_in r (xs ++ ys) ≡ word_in r ys
unfolding no_row
past_rows r [] ys is = refl
past_rows r (known.Row s k ∷ xs) ys is = absurd cc
past_rows r (known.Idle ∷ xs) ys is = past_rows r xs ys is
past_rows r (known.Stopped ∷ xs) ys is = past_rows r xs ys is
past_rows r (known.Stops ∷ xs) ys is = past_rows r xs ys is
past_rows r (known.Life k w l ∷ xs) ys is = past_rows r xs ys is
past_rows r (known.Mark k w l ∷ xs) ys is = past_rows r xs ys is
past_rows r (known.Closed k l w ∷ xs) ys is = past_rows r xs ys is
past_rows r (known.Waits k l q ∷ xs) ys is = past_rows r xs ys is

seen_no_row : (k : ℕ) (w : Word) (n : ℕ) → no_row (seen k w n []) ≡ true
unfolding no_row
seen_no_row k w n = by (eqb (mark_shown w n) 1)
  where
    by : (b : Bool) → no_row (cond b (known.Mark k w (life_shown w n) ∷ known.Life k w (life_shown w n) ∷ []) (known.Life k w (life_shown w n) ∷ [])) ≡ true
    by true = refl
    by false = refl

-- the events that tell of a row
abbrev pub names_row : Event → Bool
names_row (claim r k) = true
names_row (look r) = true
names_row _ = false

learned_no_row : (e : Setting) (x : Event) (n : ℕ) → names_row x ≡ false → no_row (learned e x n) ≡ true
unfolding no_row
learned_no_row e (claim r k) n is = absurd cc
learned_no_row e (look r) n is = absurd cc
learned_no_row e (load_descriptor r k) n is = seen_no_row k word.Descriptor n
learned_no_row e (load_notify r k w) n is = by (eqb (mark_of n) 0 && eqb (closed_bit n) 1)
  where
    by : (b : Bool) → no_row (cond b (known.Closed k (life_of n) w ∷ known.Life k (word.Notify w) (life_of n) ∷ []) (seen k (word.Notify w) n [])) ≡ true
    by true = refl
    by false = seen_no_row k (word.Notify w) n
learned_no_row e (load_recovery r k) n is = seen_no_row k word.Recovery n
learned_no_row e load_pending n is = by (eqb n 0)
  where
    by : (b : Bool) → no_row (cond b (known.Idle ∷ []) []) ≡ true
    by true = refl
    by false = refl
learned_no_row e load_stop n is = by (eqb n 1)
  where
    by : (b : Bool) → no_row (cond b (known.Stopped ∷ []) []) ≡ true
    by true = refl
    by false = refl
learned_no_row e (register r p q) n is = by (registered_of n)
  where
    by : (x : Registered) → no_row (registered_known p q x (seen p (word.Notify (q / 40)) n [])) ≡ true
    by (registered.Waiting m) = seen_no_row p (word.Notify (q / 40)) n
    by (registered.Closed m) = seen_no_row p (word.Notify (q / 40)) n
    by (registered.Struck m) = seen_no_row p (word.Notify (q / 40)) n
learned_no_row e (spend r k j) n is = seen_no_row k word.Descriptor n
learned_no_row e (close r k l w m) n is = by (closing_of l m n)
  where
    by : (c : Closing) → no_row (closed_known k l w c (seen k (word.Notify w) n [])) ≡ true
    by (closing.Edges ports) = seen_no_row k (word.Notify w) n
    by (closing.Stale y) = seen_no_row k (word.Notify w) n
    by (closing.Struck y) = seen_no_row k (word.Notify w) n
    by (closing.Moved y) = seen_no_row k (word.Notify w) n
learned_no_row e (elect r k l c waits) n is = seen_no_row k word.Recovery n
learned_no_row e (renew_notify r k l w) n is = refl
learned_no_row e (renew_descriptor r k l) n is = refl
learned_no_row e (finish r k l) n is = refl
learned_no_row e (strike_descriptor r k l) n is = seen_no_row k word.Descriptor n
learned_no_row e (strike_notify r k l w) n is = seen_no_row k (word.Notify w) n
learned_no_row e (post r i k l) n is = refl
learned_no_row e (take r i k) n is = refl
learned_no_row e buy n is = refl
learned_no_row e drop_credit n is = refl
learned_no_row e (take_turn b was) n is = refl
learned_no_row e (give_read b was) n is = refl
learned_no_row e (give_written k l b was now) n is = refl
learned_no_row e (give_struck k l b was now) n is = refl
learned_no_row e halt n is = refl

-- the number by which a row is known after a claim
claim_tells : (k n : ℕ) → key_told k (claim_of k n) + 1 ≡ claim_left k n
claim_tells k n = dite (ℕ_discrete n 0)
    (λ z. subst (λ m. key_told k (claim_of k m) + 1 ≡ claim_left k m) (sym z) refl)
    (λ ne. let a : key_told k (claim_of k n) ≡ key_told k (cond (eqb n (k + 1)) claimed.Found (claimed.Other (key_of (n - 1)))) = ap (λ (b : Bool). key_told k (cond b claimed.Made (cond (eqb n (k + 1)) claimed.Found (claimed.Other (key_of (n - 1)))))) (ne_eqb n 0 ne) in
    let b : claim_left k n ≡ n = ap (λ (b : Bool). cond b (k + 1) n) (ne_eqb n 0 ne) in
    dite (ℕ_discrete n (k + 1))
    (λ y. let c : key_told k (cond (eqb n (k + 1)) claimed.Found (claimed.Other (key_of (n - 1)))) ≡ k = ap (λ (b : Bool). key_told k (cond b claimed.Found (claimed.Other (key_of (n - 1))))) (eq-eqb n (k + 1) y) in omega (arith, a, b, c, y))
    (λ y. let c : key_told k (cond (eqb n (k + 1)) claimed.Found (claimed.Other (key_of (n - 1)))) ≡ n - 1 = ap (λ (b : Bool). key_told k (cond b claimed.Found (claimed.Other (key_of (n - 1))))) (ne_eqb n (k + 1) y) in omega (arith, a, b, c, ne)))

-- no claim and no look finds another key in a row than the one by which the view knows it
pub record IsRight (v : View) (x : Event) (n : ℕ) : Type 0 where
  pub tells : (r : ℕ) → at x ≡ key r → 0 < word_in r v.known → word_in r v.known ≡ n

-- facts that are known of rows stay, however many others come
others_over : (rows k : ℕ) (xs ys : List Known) → ((r : ℕ) → 0 < word_in r xs → word_in r ys ≡ word_in r xs) → (d : ℕ) → others_before rows k xs d ≡ true → others_before rows k ys d ≡ true
others_over rows k xs ys stays zero is = refl
others_over rows k xs ys stays (suc d) is = let q = both (others_before rows k xs d) (is_other k (word_in ((k + d) % rows) xs)) is in let r : ℕ = (k + d) % rows in
    let some : 0 < word_in r xs = dite (ℕ_discrete (word_in r xs) 0) (λ z. absurd (let a : is_other k (word_in r xs) ≡ false = ap (is_other k) z in let b = q.1 in cc)) (λ ne. omega (arith, ne)) in
    let here : is_other k (word_in r ys) ≡ true = ap (is_other k) (stays r some) ∙ q.1 in
    ap (λ (b : Bool). b && is_other k (word_in r ys)) (others_over rows k xs ys stays d q.0) ∙ here

module _ (e : Setting) (x : Event) (n : ℕ) (v w : View) (is : w ≡ after e x n v) where
  known_is : w.known ≡ learned e x n ++ v.known
  known_is = (leaves e x n v w is).known_is

  -- facts are only added
  pub facts_are : (f : Known → Bool) → facts f w ≡ count f (learned e x n) + facts f v
  facts_are f = ap (count f) known_is ∙ count_both f (learned e x n) v.known

  pub facts_grow : (f : Known → Bool) → facts f v ≤ facts f w
  facts_grow f = let a = facts_are f in omega (arith, a)

  pub still_known : (f : Known → Bool) → 0 < facts f v → 0 < facts f w
  still_known f some = let a = facts_grow f in omega (arith, a, some)

  pub still_row : (r k : ℕ) → KnowsRow e v r k → KnowsRow e w r k
  still_row r k i = record { low = i.low; row_known = still_known (is_row r k) i.row_known }

  pub still_closed : (p q : ℕ) → KnowsClosed e v p q → KnowsClosed e w p q
  still_closed p q i = record { life = i.life; closed_known = still_known (is_seen_closed p i.life (q / 40)) i.closed_known }

  -- what is known of a row's key word stays, but for the row of a claim or a look
  pub word_apart : (r : ℕ) → at x ≢ key r → word_in r w.known ≡ word_in r v.known
  word_apart r ne = ap (word_in r) known_is ∙ by x ne
    where
      other : (x : Event) → names_row x ≡ false → word_in r (learned e x n ++ v.known) ≡ word_in r v.known
      other x f = past_rows r (learned e x n) v.known (learned_no_row e x n f)

      by : (x : Event) → at x ≢ key r → word_in r (learned e x n ++ v.known) ≡ word_in r v.known
      by (claim s k) ne = ap (λ (b : Bool). cond b (key_told k (claim_of k n) + 1) (word_in r v.known)) (ne_eqb r s (λ z. ne (ap key (sym z))))
      by (look s) ne = of (eqb n 0)
        where
          of : (b : Bool) → word_in r (cond b [] (known.Row s (n - 1) ∷ []) ++ v.known) ≡ word_in r v.known
          of true = refl
          of false = ap (λ (b : Bool). cond b (n - 1 + 1) (word_in r v.known)) (ne_eqb r s (λ z. ne (ap key (sym z))))
      by (load_descriptor s k) ne = other (load_descriptor s k) refl
      by (load_notify s k y) ne = other (load_notify s k y) refl
      by (load_recovery s k) ne = other (load_recovery s k) refl
      by load_pending ne = other load_pending refl
      by load_stop ne = other load_stop refl
      by (register s p q) ne = other (register s p q) refl
      by (spend s k j) ne = other (spend s k j) refl
      by (close s k l y m) ne = other (close s k l y m) refl
      by (elect s k l c waits) ne = other (elect s k l c waits) refl
      by (renew_notify s k l y) ne = refl
      by (renew_descriptor s k l) ne = refl
      by (finish s k l) ne = refl
      by (strike_descriptor s k l) ne = other (strike_descriptor s k l) refl
      by (strike_notify s k l y) ne = other (strike_notify s k l y) refl
      by (post s i k l) ne = refl
      by (take s i k) ne = refl
      by buy ne = refl
      by drop_credit ne = refl
      by (take_turn b was) ne = refl
      by (give_read b was) ne = refl
      by (give_written k l b was now) ne = refl
      by (give_struck k l b was now) ne = refl
      by halt ne = refl

  -- nor does it change there, where what the view knows is right
  pub word_stays : IsRight v x n → (r : ℕ) → 0 < word_in r v.known → word_in r w.known ≡ word_in r v.known
  word_stays right r some = ap (word_in r) known_is ∙ by x right.tells
    where
      other : (x : Event) → names_row x ≡ false → word_in r (learned e x n ++ v.known) ≡ word_in r v.known
      other x f = past_rows r (learned e x n) v.known (learned_no_row e x n f)

      left_is : (k : ℕ) → word_in r v.known ≡ n → claim_left k n ≡ word_in r v.known
      left_is k q = ap (λ (b : Bool). cond b (k + 1) n) (ne_eqb n 0 (λ z. omega (arith, q, z, some))) ∙ sym q

      by : (x : Event) → ((s : ℕ) → at x ≡ key s → 0 < word_in s v.known → word_in s v.known ≡ n) → word_in r (learned e x n ++ v.known) ≡ word_in r v.known
      by (claim s k) tells = ⊎_elim (λ z. ap (λ (b : Bool). cond b (key_told k (claim_of k n) + 1) (word_in r v.known)) z.0 ∙ claim_tells k n ∙ left_is k (tells r (ap key (sym z.1)) some))
          (λ z. ap (λ (b : Bool). cond b (key_told k (claim_of k n) + 1) (word_in r v.known)) z.0) (eqb_tells r s)
      by (look s) tells = of (eqb n 0)
        where
          of : (b : Bool) → word_in r (cond b [] (known.Row s (n - 1) ∷ []) ++ v.known) ≡ word_in r v.known
          of true = refl
          of false = ⊎_elim (λ z. ap (λ (b : Bool). cond b (n - 1 + 1) (word_in r v.known)) z.0 ∙ (let a = tells r (ap key (sym z.1)) some in omega (arith, a, some)))
              (λ z. ap (λ (b : Bool). cond b (n - 1 + 1) (word_in r v.known)) z.0) (eqb_tells r s)
      by (load_descriptor s k) tells = other (load_descriptor s k) refl
      by (load_notify s k y) tells = other (load_notify s k y) refl
      by (load_recovery s k) tells = other (load_recovery s k) refl
      by load_pending tells = other load_pending refl
      by load_stop tells = other load_stop refl
      by (register s p q) tells = other (register s p q) refl
      by (spend s k j) tells = other (spend s k j) refl
      by (close s k l y m) tells = other (close s k l y m) refl
      by (elect s k l c waits) tells = other (elect s k l c waits) refl
      by (renew_notify s k l y) tells = refl
      by (renew_descriptor s k l) tells = refl
      by (finish s k l) tells = refl
      by (strike_descriptor s k l) tells = other (strike_descriptor s k l) refl
      by (strike_notify s k l y) tells = other (strike_notify s k l y) refl
      by (post s i k l) tells = refl
      by (take s i k) tells = refl
      by buy tells = refl
      by drop_credit tells = refl
      by (take_turn b was) tells = refl
      by (give_read b was) tells = refl
      by (give_written k l b was now) tells = refl
      by (give_struck k l b was now) tells = refl
      by halt tells = refl

  pub key_stays : IsRight v x n → (r : ℕ) → 0 < word_in r v.known → known_key r w ≡ known_key r v
  unfolding known_key known_word
  key_stays right r some = ap (λ m. m - 1) (word_stays right r some)

  pub others_stay : IsRight v x n → (rows k d : ℕ) → others_before rows k v.known d ≡ true → others_before rows k w.known d ≡ true
  others_stay right rows k d = others_over rows k v.known w.known (word_stays right) d

-- an event that is no claim and no look finds nothing of a row
pub right_apart : (v : View) (x : Event) (n : ℕ) → names_row x ≡ false → IsRight v x n
right_apart v x n f = record { tells = λ r there. absurd (by x f r there) }
  where
    by : (x : Event) → names_row x ≡ false → (r : ℕ) → at x ≡ key r → ⊥
    by (claim s k) f r there = cc
    by (look s) f r there = cc
    by (load_descriptor s k) f r there = cc
    by (load_notify s k y) f r there = cc
    by (load_recovery s k) f r there = cc
    by load_pending f r there = cc
    by load_stop f r there = cc
    by (register s p q) f r there = cc
    by (spend s k j) f r there = cc
    by (close s k l y m) f r there = cc
    by (elect s k l c waits) f r there = cc
    by (renew_notify s k l y) f r there = cc
    by (renew_descriptor s k l) f r there = cc
    by (finish s k l) f r there = cc
    by (strike_descriptor s k l) f r there = cc
    by (strike_notify s k l y) f r there = cc
    by (post s i k l) f r there = cc
    by (take s i k) f r there = cc
    by buy f r there = cc
    by drop_credit f r there = cc
    by (take_turn b was) f r there = cc
    by (give_read b was) f r there = cc
    by (give_written k l b was now) f r there = cc
    by (give_struck k l b was now) f r there = cc
    by halt f r there = cc

-- of the row of a claim or a look, only that row's number has to be right
pub right_here : (v : View) (x : Event) (n r : ℕ) → at x ≡ key r → (0 < word_in r v.known → word_in r v.known ≡ n) → IsRight v x n
right_here v x n r here right = record { tells = λ s there. let same : r ≡ s = one r s (sym here ∙ there) in subst (λ y. 0 < word_in y v.known → word_in y v.known ≡ n) same right }
  where
    one : (r s : ℕ) → key r ≡ key s → r ≡ s
    one r s is = cc

-- the number by which the row of a claim or a look is known after it
module _ (e : Setting) (n : ℕ) (v w : View) where
  pub claim_word : (r k : ℕ) → w ≡ after e (claim r k) n v → word_in r w.known ≡ claim_left k n
  claim_word r k is = ap (word_in r) (leaves e (claim r k) n v w is).known_is ∙ ap (λ (b : Bool). cond b (key_told k (claim_of k n) + 1) (word_in r v.known)) (eqb_here r) ∙ claim_tells k n

  pub look_word : (r : ℕ) → n ≢ 0 → w ≡ after e (look r) n v → word_in r w.known ≡ n
  look_word r full is = ap (word_in r) (leaves e (look r) n v w is).known_is ∙ ap (λ (b : Bool). word_in r (cond b [] (known.Row r (n - 1) ∷ []) ++ v.known)) (ne_eqb n 0 full)
      ∙ ap (λ (b : Bool). cond b (n - 1 + 1) (word_in r v.known)) (eqb_here r) ∙ (let a : n - 1 + 1 ≡ n = omega (arith, full) in a)
