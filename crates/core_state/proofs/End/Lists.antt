-- A list that has the records of all views but the root's: what it counts of all records, and which laws it keeps.
use Rattle.std.proofs.Common.{◌≡◌, ◌≢◌, ℕ, ◌+◌, ◌-◌, ◌/◌, ◌<◌, ◌≤◌, Bool, true, false, cond, ◌&&◌, nat_lt, eqb, ne_eqb, List, [], ◌∷◌, arith, sym, ap, refl, ◌∙◌}
use mathlib.Core.Logic.{dite}
use native.Mathlib.Decide.{ℕ_discrete}
use Rattle.std.proofs.lemmas.Bool.{eqb-true, and_from}
use Rattle.core_state.specs.Graph.{Setting, Sound}
use Rattle.core_state.specs.Words.{recovery, standing_life, replacing}
use Rattle.core_state.specs.Counts.{hit, count, noted, struck_upto}
use Rattle.core_state.specs.Tests.{key_named, life_named, is_of, is_created, is_spent, is_computed, is_written, is_miswritten, is_closed, is_closing, is_struck_upto, is_any_struck, is_replaced, strikes_upto, same_hit}
use Rattle.core_state.specs.Change.{Core, Sums, many}
use Rattle.core_state.specs.Laws.{SpentOnce, ComputedOnce, ReplacedOnce, LivesNamed, SpentByEdge}
use Rattle.core_state.specs.Invariant.{Invariant}
use Rattle.graph_model.specs.declared.record.Hit.{Hit}
use Rattle.graph_model.specs.declared.record.Hit.TheVariants as hit_of
use Rattle.graph_model.specs.declared.record.Record.{Record}
use Rattle.graph_model.specs.declared.record.Record.TheVariants as record_of
use Rattle.core_state.proofs.Base.Counting.{bump_is, eqb_here, hit_le, two_here, both}
use Rattle.core_state.proofs.Blocks.Versions.{count_some, many_some}
use Rattle.core_state.proofs.Row.Made.{spent_of, computed_of, written_of, closed_of, replaced_of}

-- what passes one test passes another
pub count_below : {A : Type 0} (p q : A → Bool) → ((x : A) → p x ≡ true → q x ≡ true) → (xs : List A) → count p xs ≤ count q xs
count_below p q h [] = omega arith
count_below p q h (x ∷ xs) = let a = bump_is (p x) (count p xs) in let b = bump_is (q x) (count q xs) in let c = count_below p q h xs in let d = by (p x) refl in omega (arith, a, b, c, d)
  where
    by : (t : Bool) → p x ≡ t → hit (p x) ≤ hit (q x)
    by true e = let a = ap hit (h x e) in let b = hit_le (p x) in omega (arith, a, b)
    by false e = let a = ap hit e in omega (arith, a)

-- whom a record of a life names
pub named_key : (k l : ℕ) (x : Record) → is_of k l x ≡ true → key_named x ≡ k
named_key k l x z = sym (eqb-true k (key_named x) (both (eqb k (key_named x)) (eqb l (life_named x)) z).0)

-- a record of another key
abbrev pub is_other_than : ℕ → Record → Bool
is_other_than k x = cond (eqb k (key_named x)) false true

same_hit_here : (h : Hit) → same_hit h h ≡ true
same_hit_here hit_of.Descriptor = refl
same_hit_here (hit_of.Notify w) = eqb_here w
same_hit_here (hit_of.Block b v) = two_here b v

module _ (e : Setting) (fit : Sound e) (s : Core) (sums : Sums s) (i : Invariant e s) where
  -- nothing of the root was struck
  pub struck_other : (x : Record) → is_any_struck x ≡ true → ((q : Record → Bool) → q x ≡ true → 0 < many s q) → key_named x ≢ e.graph.root
  struck_other (record_of.Struck a l h) t tests is = let few = i.strikes.few a.0 l h in
      let some : 0 < many s (is_struck_upto a.0 l h) = tests (is_struck_upto a.0 l h) (and_from (eqb a.0 a.0) _ (eqb_here a.0) (and_from _ (same_hit h h) (grind arith) (same_hit_here h))) in
      let v = sums.some (struck_upto e.plan a.0 l h) (omega (arith, few, some)) in let n = count_some (strikes_upto e.plan a.0 l h) v.0.strikes v.1 in
      let low = both (nat_lt n.0 e.plan.count) _ n.1 in let key = both (eqb a.0 (e.plan.strike n.0).key.0) _ low.1 in
      fit.root_free n.0 (grind (arith, low.0)) (sym (eqb-true a.0 (e.plan.strike n.0).key.0 key.0) ∙ is)
  struck_other x t tests is = absurd cc

  -- each replaced life has one record
  pub replaced_once : (k l : ℕ) → many s (is_replaced k l) ≤ 1
  replaced_once k l = dite (ℕ_discrete (many s (is_replaced k l)) 0) (λ z. omega (arith, z)) (λ ne. let r = many_some e fit s sums i.records (is_replaced k l) (omega (arith, ne)) in
      let row = i.keys.of_created k (let a = i.records.lives.created_once k l (r.2 (is_of k l) (replaced_of k l r.0 r.1)) in omega (arith, a)) in
      let a = i.records.replaced row.0 k l row.1 in let b = hit_le (nat_lt 0 l && nat_lt l (standing_life (s.word (recovery row.0)) + replacing (s.word (recovery row.0)))) in omega (arith, a, b))

  -- a list of the records that pass a test counts no more than all records
  pub within : (f : Record → Bool) (xs : List Record) → ((p : Record → Bool) → count p xs ≡ many s (λ x. p x && f x)) → (p : Record → Bool) → count p xs ≤ many s p
  within f xs kept p = let a = kept p in let b = sums.below (noted (λ x. p x && f x)) (noted p) (λ v. count_below (λ x. p x && f x) p (λ x z. (both (p x) (f x) z).0) v.records) in omega (arith, a, b)

  -- and has nothing else
  pub nothing_else : (f : Record → Bool) (xs : List Record) → ((p : Record → Bool) → count p xs ≡ many s (λ x. p x && f x)) → count (λ x. cond (f x) false true) xs ≡ 0
  nothing_else f xs kept = dite (ℕ_discrete (count (λ x. cond (f x) false true) xs) 0) (λ z. z) (λ ne. absurd (let a = kept (λ x. cond (f x) false true) in let r = many_some e fit s sums i.records (λ x. cond (f x) false true && f x) (omega (arith, a, ne)) in by (f r.0) r.1))
    where
      by : (t : Bool) → (cond t false true && t) ≡ true → ⊥
      by true z = cc
      by false z = cc

  module _ (xs : List Record) (kept : (p : Record → Bool) → count p xs ≡ many s (λ x. p x && is_other_than e.graph.root x)) where
    pub fewer : (p : Record → Bool) → count p xs ≤ many s p
    fewer p = within (is_other_than e.graph.root) xs kept p

    -- a record of a task is in the list
    pub present : (x : Record) → ((q : Record → Bool) → q x ≡ true → 0 < many s q) → key_named x ≢ e.graph.root → (p : Record → Bool) → p x ≡ true → 0 < count p xs
    present x tests ne p z = let a = kept p in let b = tests (λ y. p y && is_other_than e.graph.root y) (and_from (p x) (is_other_than e.graph.root x) z (ap (λ (t : Bool). cond t false true) (ne_eqb e.graph.root (key_named x) (λ q. ne (sym q))))) in omega (arith, a, b)

    -- no record in the list is of the root
    pub none_of_root : count (λ x. eqb e.graph.root (key_named x)) xs ≡ 0
    none_of_root = let a = nothing_else (is_other_than e.graph.root) xs kept in let b = count_below (λ x. eqb e.graph.root (key_named x)) (λ x. cond (is_other_than e.graph.root x) false true) (λ x z. ap (λ (t : Bool). cond (cond t false true) false true) z) xs in omega (arith, a, b)

    -- a record in the list, of a task, and what else it passes
    pub listed : (p : Record → Bool) → 0 < count p xs → (x : Record) × (p x ≡ true) × (key_named x ≢ e.graph.root) × ((q : Record → Bool) → q x ≡ true → 0 < count q xs)
    listed p z = let r = count_some p xs z in (r.0, r.1, λ is. (let a = none_of_root in let b = r.2 (λ x. eqb e.graph.root (key_named x)) (ap (λ y. eqb e.graph.root y) is ∙ eqb_here e.graph.root) in omega (arith, a, b)), r.2)

    pub other_than_root : (k l : ℕ) (p : Record → Bool) → ((x : Record) → p x ≡ true → is_of k l x ≡ true) → 0 < count p xs → k ≢ e.graph.root
    other_than_root k l p of z is = let r = listed p z in r.2 (named_key k l r.0 (of r.0 r.1) ∙ is)

    -- what all records have of a task, the list has
    pub has_of : (k l : ℕ) (p : Record → Bool) → ((x : Record) → p x ≡ true → is_of k l x ≡ true) → k ≢ e.graph.root → 0 < many s p → 0 < count p xs
    has_of k l p of ne z = let r = many_some e fit s sums i.records p z in present r.0 r.2 (λ is. ne (sym (named_key k l r.0 (of r.0 r.1)) ∙ is)) p r.1

    pub list_spent : SpentOnce e.graph (λ p. count p xs)
    list_spent = record {
      once = λ k l j. let a = fewer (is_spent k l j) in let b = i.records.spent.once k l j in omega (arith, a, b);
      is_place = λ k l j z. i.records.spent.is_place k l j (let a = fewer (is_spent k l j) in omega (arith, a, z));
    }

    pub list_computed : ComputedOnce e.graph (λ p. count p xs)
    list_computed = record {
      computed_once = λ k l. let a = fewer (is_computed k l) in let b = i.records.computed.computed_once k l in omega (arith, a, b);
      computed_ready = λ k l j z place. has_of k l (is_spent k l j) (spent_of k l j) (other_than_root k l (is_computed k l) (computed_of k l) z) (i.records.computed.computed_ready k l j (let a = fewer (is_computed k l) in omega (arith, a, z)) place);
      written_once = λ k l. let a = fewer (is_written k l) in let b = i.records.computed.written_once k l in omega (arith, a, b);
      written_place = let a = fewer (is_miswritten e.graph) in let b = i.records.computed.written_place in omega (arith, a, b);
      written_computed = λ k l z. has_of k l (is_computed k l) (computed_of k l) (other_than_root k l (is_written k l) (written_of k l) z) (i.records.computed.written_computed k l (let a = fewer (is_written k l) in omega (arith, a, z)));
      closed_once = λ k l w. let a = fewer (is_closed k l w) in let b = i.records.computed.closed_once k l w in omega (arith, a, b);
      closed_word = λ k l w z. i.records.computed.closed_word k l w (let a = fewer (is_closed k l w) in omega (arith, a, z));
      closed_written = λ k l w z. has_of k l (is_written k l) (written_of k l) (other_than_root k l (is_closed k l w) (closed_of k l w) z) (i.records.computed.closed_written k l w (let a = fewer (is_closed k l w) in omega (arith, a, z)));
    }

    pub list_replaced : ReplacedOnce e.graph (λ p. count p xs)
    list_replaced = record { once = λ k l. let a = fewer (is_replaced k l) in let b = replaced_once k l in omega (arith, a, b) }

    -- a task's row was made once, and the list says so
    created_here : (k : ℕ) → k ≢ e.graph.root → many s (is_created k) ≡ 1 → count (is_created k) xs ≡ 1
    created_here k ne z = let a = fewer (is_created k) in let r = many_some e fit s sums i.records (is_created k) (omega (arith, z)) in let b = present r.0 r.2 (λ is. ne (sym (created_key r.0 r.1) ∙ is)) (is_created k) r.1 in omega (arith, a, b, z)
      where
        created_key : (x : Record) → is_created k x ≡ true → key_named x ≡ k
        created_key (record_of.Created a) t = sym (eqb-true k a.0 t)
        created_key x t = absurd cc

    pub list_lives : LivesNamed e.graph (λ p. count p xs)
    list_lives = record {
      replaced_before = λ k l later z. has_of k (l - 1) (is_replaced k (l - 1)) (replaced_of k (l - 1)) (other_than_root k l (is_of k l) (λ x t. t) z) (i.records.lives.replaced_before k l later (let a = fewer (is_of k l) in omega (arith, a, z)));
      created_once = λ k l z. created_here k (other_than_root k l (is_of k l) (λ x t. t) z) (i.records.lives.created_once k l (let a = fewer (is_of k l) in omega (arith, a, z)));
      reached = λ k l z. i.records.lives.reached k l (let a = fewer (is_of k l) in omega (arith, a, z));
    }

    pub list_edges : SpentByEdge e.graph (λ p. count p xs)
    list_edges = record {
      closed = λ k l j low z. let p : ℕ = (e.graph.pred k j).task in let w : ℕ = (e.graph.pred k j).port / 40 in
          let r = many_some e fit s sums i.records (is_closing p w) (i.records.edges.closed k l j low (let a = fewer (is_spent k l j) in omega (arith, a, z))) in
          present r.0 r.2 (λ is. fit.lawful.root_alone k j low (sym (closing_key p w r.0 r.1) ∙ is)) (is_closing p w) r.1;
    }
      where
        closing_key : (p w : ℕ) (x : Record) → is_closing p w x ≡ true → key_named x ≡ p
        closing_key p w (record_of.Closed a m u) t = sym (eqb-true p a.0 (both (eqb p a.0) (eqb w u) t).0)
        closing_key p w x t = absurd cc
