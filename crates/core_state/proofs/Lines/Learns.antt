-- What events let the view of their seat know.
use Rattle.std.proofs.Common.{◌≡◌, ◌≢◌, ℕ, ◌+◌, ◌-◌, ◌/◌, ◌<◌, Bool, true, cond, ne_eqb, List, [], ◌∷◌, refl, ap, sym, ◌∙◌, subst, arith}
use Rattle.std.proofs.lemmas.Bool.{eq-eqb}
use Rattle.core_state.specs.Graph.{Setting}
use Rattle.core_state.specs.Words.{life_of, mark_of, closed_bit}
use Rattle.core_state.specs.Counts.{hit, count, facts}
use Rattle.core_state.specs.Tests.{is_row, is_seen_closed, three}
use Rattle.core_state.specs.Effects.{claim_of, registered_of, closing_of, seen}
use Rattle.core_state.specs.Guards.{KnowsRow, KnowsClosed}
use Rattle.core_state.specs.Events.{Event, after}
use Rattle.core_state.specs.Events.Event.{claim, look, load_notify, register, close}
use Rattle.core_state.specs.Outcome.{learned, key_told, registered_known, closed_known}
use Rattle.core_state.specs.declared.answers.Claim.{Claim}
use Rattle.core_state.specs.declared.answers.Registered.TheVariants as registered
use Rattle.core_state.specs.declared.answers.Closing.TheVariants as closing
use Rattle.core_state.specs.declared.views.Known.{Known}
use Rattle.core_state.specs.declared.views.Known.TheVariants as known
use Rattle.core_state.specs.declared.views.Word.TheVariants as word
use Rattle.core_state.specs.declared.views.View.{View}
use Rattle.core_state.proofs.Base.Counting.{bump_is, two_here, three_here}
use Rattle.core_state.proofs.Lines.Remembers.{facts_are}

module _ (e : Setting) (n : ℕ) (v w : View) where
  -- a fact that the event adds
  pub learns : (x : Event) (f : Known → Bool) → w ≡ after e x n v → 0 < count f (learned e x n) → 0 < facts f w
  learns x f is some = let a = facts_are e x n v w is f in omega (arith, a, some)

  first : (f : Known → Bool) (y : Known) (ys : List Known) → hit (f y) ≡ 1 → 0 < count f (y ∷ ys)
  first f y ys one = let a = bump_is (f y) (count f ys) in omega (arith, a, one)

  -- a claim tells the key of its row, and so does a look at a row that holds one
  pub claim_knows : (r k : ℕ) (c : Claim) → r < e.shape.rows → c ≡ claim_of k n → w ≡ after e (claim r k) n v → KnowsRow e w r (key_told k c)
  claim_knows r k c low told is = subst (λ z. KnowsRow e w r (key_told k z)) (sym told) (record { low = low; row_known = learns (claim r k) (is_row r (key_told k (claim_of k n))) is (first (is_row r (key_told k (claim_of k n))) (known.Row r (key_told k (claim_of k n))) [] (ap hit (two_here r (key_told k (claim_of k n))))) })

  pub look_knows : (r : ℕ) → r < e.shape.rows → n ≢ 0 → w ≡ after e (look r) n v → KnowsRow e w r (n - 1)
  look_knows r low full is = record { low = low; row_known = learns (look r) (is_row r (n - 1)) is (subst (λ xs. 0 < count (is_row r (n - 1)) xs) (sym list) (first (is_row r (n - 1)) (known.Row r (n - 1)) [] (ap hit (two_here r (n - 1))))) }
    where
      list : cond (Rattle.std.proofs.Common.eqb n 0) [] (known.Row r (n - 1) ∷ []) ≡ known.Row r (n - 1) ∷ []
      list = ap (λ (b : Bool). cond b [] (known.Row r (n - 1) ∷ [])) (ne_eqb n 0 full)

  -- a port at a word that is closed may be told
  pub register_closes : (r p q m : ℕ) → registered.Closed m ≡ registered_of n → w ≡ after e (register r p q) n v → KnowsClosed e w p q
  register_closes r p q m told is = record {
    life = m;
    closed_known = learns (register r p q) (is_seen_closed p m (q / 40)) is
        (subst (λ x. 0 < count (is_seen_closed p m (q / 40)) (registered_known p q x (seen p (word.Notify (q / 40)) n []))) told (first (is_seen_closed p m (q / 40)) (known.Closed p m (q / 40)) (seen p (word.Notify (q / 40)) n []) (three_here p m (q / 40))));
  }

  -- so may each port of a word that was closed
  pub close_closes : (r k l y m ports q : ℕ) → closing.Edges ports ≡ closing_of l m n → q / 40 ≡ y → w ≡ after e (close r k l y m) n v → KnowsClosed e w k q
  close_closes r k l y m ports q told here is = record {
    life = l;
    closed_known = learns (close r k l y m) (is_seen_closed k l (q / 40)) is
        (subst (λ x. 0 < count (is_seen_closed k l (q / 40)) (closed_known k l y x (seen k (word.Notify y) n []))) told
        (first (is_seen_closed k l (q / 40)) (known.Closed k l y) (seen k (word.Notify y) n []) (subst (λ z. hit (three k l (q / 40) k l z) ≡ 1) here (three_here k l (q / 40)))));
  }

  -- so may each port of a word that was seen closed without a mark
  pub load_closes : (r k y q : ℕ) → mark_of n ≡ 0 → closed_bit n ≡ 1 → q / 40 ≡ y → w ≡ after e (load_notify r k y) n v → KnowsClosed e w k q
  load_closes r k y q unmarked shut here is = record {
    life = life_of n;
    closed_known = learns (load_notify r k y) (is_seen_closed k (life_of n) (q / 40)) is
        (rw (eq-eqb (mark_of n) 0 unmarked, eq-eqb (closed_bit n) 1 shut) (first (is_seen_closed k (life_of n) (q / 40)) (known.Closed k (life_of n) y) (known.Life k (word.Notify y) (life_of n) ∷ []) (subst (λ z. hit (three k (life_of n) (q / 40) k (life_of n) z) ≡ 1) here (three_here k (life_of n) (q / 40)))));
  }
