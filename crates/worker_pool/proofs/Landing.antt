-- Strikes that landed on words in lives of keys, as a list of records says, and how many of them a plan has.
use Rattle.std.proofs.Common.{◌≡◌, ◌⊎◌, ◌∙◌, ℕ, zero, suc, ◌+◌, ◌<◌, ◌≤◌, Bool, true, false, eqb, ◌&&◌, nat_le, List, inl, inr, ap, subst, sym, refl, arith}
use Rattle.std.proofs.lemmas.Bool.{and_from, and_left, and_right, eq-eqb, eqb-true, le-leb, leb-true, lt-leb}
use mathlib.Core.Logic.{dite}
use native.Mathlib.Decide.{ℕ_discrete}
use Rattle.graph_model.specs.declared.plan.Target.{Target}
use Rattle.graph_model.specs.declared.plan.Target.TheVariants as target
use Rattle.graph_model.specs.declared.record.Hit.{Hit}
use Rattle.graph_model.specs.declared.record.Hit.TheVariants as hit_of
use Rattle.graph_model.specs.declared.record.Record.{Record}
use Rattle.graph_model.specs.declared.record.Record.TheVariants as record_of
use Rattle.core_state.specs.Counts.{count, hit}
use Rattle.core_state.specs.Graph.{Graph, Plan}
use Rattle.core_state.specs.Laws.{planned}
use Rattle.core_state.specs.Tests.{is_struck, is_struck_upto, names_hit, same_hit, strikes_upto, two}
use Rattle.core_state.proofs.Base.Counting.{eqb_here, two_here, both}
use Rattle.core_state.proofs.Blocks.Versions.{count_some}
use Rattle.core_state.proofs.Row.View.{count_below}
use Rattle.worker_pool.proofs.Places.{below, count_or, count_two}

-- a descriptor or a notify word
abbrev pub IsWord : Hit → Type 0
IsWord hit_of.Descriptor = Unit {0}
IsWord (hit_of.Notify w) = Unit {0}
IsWord (hit_of.Block b v) = ⊥

pub same_hit_is : (a b : Hit) → same_hit a b ≡ true → a ≡ b
same_hit_is hit_of.Descriptor hit_of.Descriptor z = refl
same_hit_is (hit_of.Notify w) (hit_of.Notify u) z = ap hit_of.Notify (eqb-true w u z)
same_hit_is (hit_of.Block b v) (hit_of.Block c u) z = let o = both (eqb b c) (eqb v u) z in ap (λ x. hit_of.Block x v) (eqb-true b c o.0) ∙ ap (hit_of.Block c) (eqb-true v u o.1)
same_hit_is a b z = absurd cc

pub same_hit_here : (a : Hit) → same_hit a a ≡ true
same_hit_here hit_of.Descriptor = refl
same_hit_here (hit_of.Notify w) = eqb_here w
same_hit_here (hit_of.Block b v) = two_here b v

-- a strike's target names one word
pub names_one : (t : Target) (a b : Hit) → IsWord a → IsWord b → names_hit t a ≡ true → names_hit t b ≡ true → a ≡ b
names_one target.Descriptor hit_of.Descriptor hit_of.Descriptor p q y z = refl
names_one (target.Notify w) (hit_of.Notify u) (hit_of.Notify v) p q y z = ap hit_of.Notify (sym (eqb-true w u y) ∙ eqb-true w v z)
names_one t (hit_of.Block b v) c p q y z = absurd p
names_one t a (hit_of.Block b v) p q y z = absurd q
names_one t a b p q y z = absurd cc

-- what was planned, as a count of places
pub planned_below : (g : Graph) (p : Plan) (many : (Record → Bool) → ℕ) (k l : ℕ) (h : Hit) (n : ℕ) → planned g p many k l h n ≡ below (strikes_upto p k l h) n
planned_below g p many k l h zero = refl
planned_below g p many k l h (suc n) = ap (λ x. x + hit (strikes_upto p k l h n)) (planned_below g p many k l h n)

-- a strike that landed on a word in a life of a key
pub record Landing (xs : List Record) : Type 0 where
  pub key : ℕ
  pub life : ℕ
  pub on : Hit
  pub is_word : IsWord on
  pub landed : 0 < count (is_struck key life on) xs

module _ {xs : List Record} where
  -- of this life of the key; on this word of the key, in any life, in this one, and in one of the first
  abbrev pub in_life : ℕ → ℕ → Landing xs → Bool
  in_life k l d = two k l d.key d.life

  abbrev pub on_word : ℕ → Hit → Landing xs → Bool
  on_word k h d = eqb k d.key && same_hit h d.on

  abbrev pub on_word_at : ℕ → ℕ → Hit → Landing xs → Bool
  on_word_at k l h d = two k l d.key d.life && same_hit h d.on

  abbrev pub on_word_upto : ℕ → ℕ → Hit → Landing xs → Bool
  on_word_upto k l h d = eqb k d.key && (nat_le d.life l && same_hit h d.on)

struck_first : (k l : ℕ) (h : Hit) (x : Record) → is_struck k l h x ≡ true → is_struck_upto k l h x ≡ true
struck_first k l h (record_of.Struck key life on) z = let o = both (two k l key.0 life) (same_hit h on) z in let t = both (eqb k key.0) (eqb l life) o.0 in let is = eqb-true l life t.1 in
    and_from (eqb k key.0) (nat_le life l && same_hit h on) t.0 (and_from (nat_le life l) (same_hit h on) (le-leb life l (omega (arith, is))) o.1)
struck_first k l h x z = absurd cc

struck_before : (k l : ℕ) (h : Hit) (x : Record) → is_struck_upto k l h x ≡ true → is_struck_upto k (suc l) h x ≡ true
struck_before k l h (record_of.Struck key life on) z = let o = both (eqb k key.0) (nat_le life l && same_hit h on) z in let t = both (nat_le life l) (same_hit h on) o.1 in let low = leb-true life l t.0 in
    and_from (eqb k key.0) (nat_le life (suc l) && same_hit h on) o.0 (and_from (nat_le life (suc l)) (same_hit h on) (le-leb life (suc l) (omega (arith, low))) t.1)
struck_before k l h x z = absurd cc

struck_after : (k l : ℕ) (h : Hit) (x : Record) → is_struck k (suc l) h x ≡ true → (is_struck_upto k (suc l) h x ≡ true) × (is_struck_upto k l h x ≡ false)
struck_after k l h (record_of.Struck key life on) z = let o = both (two k (suc l) key.0 life) (same_hit h on) z in let t = both (eqb k key.0) (eqb (suc l) life) o.0 in let is = eqb-true (suc l) life t.1 in
    (struck_first k (suc l) h (record_of.Struck key life on) z, and_right (eqb k key.0) (nat_le life l && same_hit h on) (and_left (nat_le life l) (same_hit h on) (lt-leb life l (omega (arith, is)))))
struck_after k l h x z = absurd cc

module _ {xs : List Record} where
  first_life : (k : ℕ) (h : Hit) (d : Landing xs) → on_word_upto k 0 h d ≡ true → on_word_at k 0 h d ≡ true
  first_life k h d z = let o = both (eqb k d.key) (nat_le d.life 0 && same_hit h d.on) z in let t = both (nat_le d.life 0) (same_hit h d.on) o.1 in let low = leb-true d.life 0 t.0 in
      and_from (two k 0 d.key d.life) (same_hit h d.on) (and_from (eqb k d.key) (eqb 0 d.life) o.0 (eq-eqb 0 d.life (omega (arith, low)))) t.1

  next_life : (k l : ℕ) (h : Hit) (d : Landing xs) → on_word_upto k (suc l) h d ≡ true → (on_word_upto k l h d ≡ true) ⊎ (on_word_at k (suc l) h d ≡ true)
  next_life k l h d z = let o = both (eqb k d.key) (nat_le d.life (suc l) && same_hit h d.on) z in let t = both (nat_le d.life (suc l)) (same_hit h d.on) o.1 in let low = leb-true d.life (suc l) t.0 in
      dite (ℕ_discrete d.life (suc l))
      (λ is. inr (and_from (two k (suc l) d.key d.life) (same_hit h d.on) (and_from (eqb k d.key) (eqb (suc l) d.life) o.0 (eq-eqb (suc l) d.life (sym is))) t.1))
      (λ ne. inl (and_from (eqb k d.key) (nat_le d.life l && same_hit h d.on) o.0 (and_from (nat_le d.life l) (same_hit h d.on) (le-leb d.life l (omega (arith, low, ne))) t.1)))

  module _ (ds : List (Landing xs)) (once : (k l : ℕ) → count (in_life k l) ds ≤ 1) where
    -- the strikes on a word in one life
    at_most_struck : (k l : ℕ) (h : Hit) → count (on_word_at k l h) ds ≤ count (is_struck k l h) xs
    at_most_struck k l h = dite (ℕ_discrete (count (on_word_at k l h) ds) 0) (λ none. omega (arith, none))
        (λ some. let r = count_some (on_word_at k l h) ds (omega (arith, some)) in let d = r.0 in let o = both (two k l d.key d.life) (same_hit h d.on) r.1 in let t = both (eqb k d.key) (eqb l d.life) o.0 in
        let few = count_below (on_word_at k l h) (in_life k l) (λ x z. (both (two k l x.key x.life) (same_hit h x.on) z).0) ds in let one = once k l in
        let here : 0 < count (is_struck k l h) xs = subst (λ a. 0 < count (is_struck a l h) xs) (sym (eqb-true k d.key t.0)) (subst (λ a. 0 < count (is_struck d.key a h) xs) (sym (eqb-true l d.life t.1)) (subst (λ a. 0 < count (is_struck d.key d.life a) xs) (sym (same_hit_is h d.on o.1)) d.landed)) in
        omega (arith, few, one, here))

    -- and in the first lives
    pub upto_struck : (k l : ℕ) (h : Hit) → count (on_word_upto k l h) ds ≤ count (is_struck_upto k l h) xs
    upto_struck k zero h = let a = count_below (on_word_upto k 0 h) (on_word_at k 0 h) (first_life k h) ds in let b = at_most_struck k 0 h in let c = count_below (is_struck k 0 h) (is_struck_upto k 0 h) (struck_first k 0 h) xs in omega (arith, a, b, c)
    upto_struck k (suc l) h = let a = count_or (on_word_upto k (suc l) h) (on_word_upto k l h) (on_word_at k (suc l) h) (next_life k l h) ds in let b = at_most_struck k (suc l) h in let c = upto_struck k l h in
        let d = count_two (is_struck_upto k (suc l) h) (is_struck_upto k l h) (is_struck k (suc l) h) (struck_before k l h) (struck_after k l h) xs in omega (arith, a, b, c, d)
