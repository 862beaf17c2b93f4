-- Registering a port keeps every part, whatever it told.
use Rattle.std.proofs.Common.{◌≡◌, ℕ, ◌+◌, ◌/◌, ◌<◌, Bool, true, false, cond, eqb, ◌∷◌, ⊎_elim, inl, inr, arith, sym, ap, refl, ◌∙◌, subst}
use Rattle.std.proofs.lemmas.Bool.{eqb-true}
use Rattle.std.proofs.lemmas.Nat.Bits.{bit_at-lt}
use Rattle.core_state.specs.Graph.{Setting, Sound}
use Rattle.core_state.specs.Words.{notify, life_of, mark_of, closed_bit}
use Rattle.core_state.specs.Counts.{hit, bump, count, items, in_stacks, knows_row}
use Rattle.core_state.specs.Tests.{is_at}
use Rattle.core_state.specs.Change.{Core, Change, Sums}
use Rattle.core_state.specs.Rows.{HasKey, HasRow}
use Rattle.core_state.specs.Invariant.{Invariant}
use Rattle.core_state.specs.Guards.{AtWork, Registers, CanRegister}
use Rattle.core_state.specs.Guards.Registers.{exploring, reentering}
use Rattle.core_state.specs.Effects.{after_register, registered_of, register_left, moved_items}
use Rattle.graph_model.specs.declared.record.Cause.TheVariants as cause
use Rattle.core_state.specs.declared.answers.Registered.{Registered}
use Rattle.core_state.specs.declared.answers.Registered.TheVariants as registered
use Rattle.core_state.specs.declared.views.Item.{Item}
use Rattle.core_state.specs.declared.views.Item.TheVariants as item
use Rattle.core_state.specs.declared.views.View.{View}
use Rattle.core_state.proofs.Base.Counting.{bump_is, eqb_here}
use Rattle.core_state.proofs.Base.Tops.{push_came, push_length}
use Rattle.core_state.proofs.Base.ItemMoves.{Serves, moved_selfs, moved_edges, moved_ends, serves_stack}
use Rattle.core_state.proofs.Register.Parts.{register_keeps}
use Rattle.core_state.proofs.Spend.Keeps.{pushed}
use Rattle.core_state.proofs.Register.View.{IsRegistered, RegisterView}

bit_none : (n i : ℕ) → eqb (Rattle.std.specs.Int.bit_at n i) 1 ≡ false → Rattle.std.specs.Int.bit_at n i ≡ 0
bit_none n i z = let a = bit_at-lt n i in let b = Rattle.std.proofs.lemmas.Bool.eqb-false (Rattle.std.specs.Int.bit_at n i) 1 z in omega (arith, a, b)

-- the answer says what the bits say
registered_is : (n : ℕ) → IsRegistered n (registered_of n)
registered_is n = by (eqb (mark_of n) 1) (eqb (closed_bit n) 1) refl refl
  where
    by : (a b : Bool) → eqb (mark_of n) 1 ≡ a → eqb (closed_bit n) 1 ≡ b → IsRegistered n (cond a (registered.Struck (life_of n)) (cond b (registered.Closed (life_of n)) (registered.Waiting (life_of n))))
    by true b f g = (refl, eqb-true (mark_of n) 1 f)
    by false true f g = (refl, bit_none n 41 f, eqb-true (closed_bit n) 1 g)
    by false false f g = (refl, bit_none n 41 f, bit_none n 40 g)

module _ (e : Setting) (k j p q n : ℕ) (v : View) (sp : Serves e v k j) where
  pub register_view : (x : Registered) → IsRegistered n x → RegisterView e k j p q n x v (after_register e.graph p q n x v)
  register_view (registered.Waiting m) is = record {
    added = λ y. omega arith;
    records_are = refl;
    known_is = refl;
    ended_is = refl;
    hands_are = refl;
    strikes_are = refl;
    comes = λ i a b. push_came i a b (moved_items e.graph) v.stacks;
    stacks_as_many = push_length (moved_items e.graph) v.stacks;
    spare_same = refl;
    selfs = λ a b i at. ⊎_elim (λ z. inl z) (λ z. inr (z.0, z.1, refl)) (moved_selfs e v k j sp a b i at);
    edges = λ a b. ⊎_elim (λ z. inl z) (λ z. inr (z.0, z.1, refl)) (moved_edges e v k j sp a b);
    ends = moved_ends e v k j sp;
  }
  register_view (registered.Closed m) is = record {
    added = λ y. omega arith;
    records_are = refl;
    known_is = refl;
    ended_is = refl;
    hands_are = refl;
    strikes_are = refl;
    comes = λ i a b. refl;
    stacks_as_many = refl;
    spare_same = refl;
    selfs = λ a b i at. inl (omega arith);
    edges = λ a b. inl (omega arith);
    ends = λ i a b. inl refl;
  }
  register_view (registered.Struck m) is = record {
    added = λ y. let f = serves_stack e v k j sp in let a = pushed y (item.Suspect p m cause.Notify false) v.stacks f.1.0 f.0 f.1.1 in let b = ap (λ o. hit (y (item.Suspect p o cause.Notify false))) is.0 in omega (arith, a, b);
    records_are = refl;
    known_is = refl;
    ended_is = refl;
    hands_are = refl;
    strikes_are = refl;
    comes = λ i a b. push_came i a b (λ xs. item.Suspect p m cause.Notify false ∷ xs) v.stacks;
    stacks_as_many = push_length (λ xs. item.Suspect p m cause.Notify false ∷ xs) v.stacks;
    spare_same = refl;
    selfs = λ a b i at. inl (omega arith);
    edges = λ a b. inl (omega arith);
    ends = λ i a b. inl refl;
  }

module _ (e : Setting) (fit : Sound e) (s t : Core) (sums : Sums s) (r p q n : ℕ) (v : View) (can : CanRegister e v r p q) (c : Change s t (notify r (q / 40)) n (register_left q n) v (after_register e.graph p q n (registered_of n) v)) (inv : Invariant e s) where
  row_is : HasKey e s r p
  row_is = inv.keys.known r p (let a = c.within (knows_row r p) in let b = can.row.row_known in omega (arith, a, b))

  -- the key of an item at work has a row
  item_row : (k : ℕ) (x : Item) → AtWork v x → is_at k x ≡ true → HasRow e s k
  item_row k x at is = inv.keys.of_item k (let a = c.within (items (is_at k)) in let b : in_stacks (is_at k) v.stacks ≡ count (is_at k) at.stack.items + in_stacks (is_at k) at.others = ap (in_stacks (is_at k)) at.stacks_are in
      let d : count (is_at k) at.stack.items ≡ bump (is_at k x) (count (is_at k) at.below) = ap (count (is_at k)) at.items_are in let f = bump_is (is_at k x) (count (is_at k) at.below) in let g = ap hit is in omega (arith, a, b, d, f, g))

  keeps_for : (k j : ℕ) → Serves e v k j → j < e.graph.places k → (e.graph.pred k j).task ≡ p → (e.graph.pred k j).port ≡ q → HasRow e s k → q < e.graph.ports p → HasRow e s (e.graph.succ p q).task → q / 40 < e.graph.notify_words p → Invariant e t
  keeps_for k j sp low task port here own there inside = register_keeps e fit s t r k j p q n (registered_of n) v (after_register e.graph p q n (registered_of n) v) c row_is inside (registered_is n) (register_view e k j p q n v sp (registered_of n) (registered_is n)) low task port here own there inv sums

  pub keeps_register : Invariant e t
  keeps_register = by can.edge
    where
      by : Registers e v p q → Invariant e t
      by (exploring k l j at low task port) = let back = fit.lawful.back k j low in let here = item_row k (item.Explore k l j) at (eqb_here k) in
          let succ : (e.graph.succ p q).task ≡ k = ap (λ o. (e.graph.succ o q).task) (sym task) ∙ ap (λ o. (e.graph.succ (e.graph.pred k j).task o).task) (sym port) ∙ back.1 in
          let ports : q < e.graph.ports p = subst (λ o. o < e.graph.ports p) port (subst (λ o. (e.graph.pred k j).port < e.graph.ports o) task back.0) in
          keeps_for k j (Rattle.core_state.proofs.Base.ItemMoves.Serves.exploring l at low) low task port here ports (subst (HasRow e s) (sym succ) here) (fit.lawful.enough_words p q ports)
      by (reentering l r' qs at low known) = let forth = fit.lawful.forth p q low in let k : ℕ = (e.graph.succ p q).task in
          let there : HasRow e s (e.graph.succ p q).task = (r', inv.keys.known r' (e.graph.succ p q).task (let a = c.within (knows_row r' (e.graph.succ p q).task) in omega (arith, a, known))) in
          keeps_for (e.graph.succ p q).task (e.graph.succ p q).place (Rattle.core_state.proofs.Base.ItemMoves.Serves.reentering p l q qs at refl refl) forth.0 forth.1 forth.2 there low there (fit.lawful.enough_words p q low)
