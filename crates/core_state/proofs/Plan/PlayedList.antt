-- A list that has the records of all tasks plays the plan where all records do: nothing of the root was struck, and its block is its own.
use Rattle.std.proofs.Common.{◌≡◌, ◌≢◌, ℕ, zero, suc, ◌+◌, ◌<◌, Bool, true, false, cond, ◌&&◌, nat_lt, eqb, List, ⊎_elim, arith, sym, ap, refl, ◌∙◌}
use Rattle.std.proofs.lemmas.Bool.{eqb-true}
use mathlib.Core.Logic.{dite}
use native.Mathlib.Decide.{ℕ_discrete}
use Rattle.core_state.specs.Graph.{Setting, Sound, Graph, Plan}
use Rattle.core_state.specs.Counts.{hit, count}
use Rattle.core_state.specs.Tests.{strikes_upto, key_named, is_spent, is_computed, is_closed, is_any_struck, is_struck_from, is_struck_upto, is_struck_version, is_later_version, is_misstruck, is_miswritten, is_replaced_below}
use Rattle.core_state.specs.Change.{Core, Sums, many}
use Rattle.core_state.specs.Laws.{AllClosed, BlockStruck, Planned, HasEffect, Played, planned}
use Rattle.core_state.specs.Cover.{Passed}
use Rattle.core_state.specs.Prevented.{Prevented}
use Rattle.core_state.specs.Invariant.{Invariant, IsQuiet}
use Rattle.graph_model.specs.declared.record.Hit.{Hit}
use Rattle.graph_model.specs.declared.record.Hit.TheVariants as hit_of
use Rattle.graph_model.specs.declared.record.Record.{Record}
use Rattle.graph_model.specs.declared.record.Record.TheVariants as record_of
use Rattle.core_state.proofs.Base.Counting.{two_tells, both}
use Rattle.core_state.proofs.Blocks.Versions.{many_some}
use Rattle.core_state.proofs.End.Lists.{is_other_than, struck_other, fewer, present}
use Rattle.core_state.proofs.Plan.Played.{records_planned, records_played}

from_any : (k l : ℕ) (h : Hit) (x : Record) → is_struck_from k l h x ≡ true → is_any_struck x ≡ true
from_any k l h (record_of.Struck a m d) z = refl
from_any k l h x z = absurd cc

version_any : (b v : ℕ) (x : Record) → is_struck_version b v x ≡ true → is_any_struck x ≡ true
version_any b v (record_of.Struck a m d) z = refl
version_any b v x z = absurd cc

-- what was planned is the same, whichever records are asked
same_planned : (g : Graph) (p : Plan) (m o : (Record → Bool) → ℕ) (k l : ℕ) (h : Hit) (n : ℕ) → planned g p m k l h n ≡ planned g p o k l h n
same_planned g p m o k l h zero = refl
same_planned g p m o k l h (suc n) = ap (λ y. y + hit (strikes_upto p k l h n)) (same_planned g p m o k l h n)

module _ (e : Setting) (fit : Sound e) (s : Core) (sums : Sums s) (i : Invariant e s) where
  -- who writes the block of a task, or has a lower version of it, is no root
  own_block : (k : ℕ) → k ≢ e.graph.root → e.graph.block k ≢ e.graph.block e.graph.root
  own_block k ne q = ne (fit.lawful.root_block.1 k q)

  replaced_other : (k v : ℕ) (x : Record) → is_replaced_below e.graph (e.graph.block k) v x ≡ true → k ≢ e.graph.root → key_named x ≢ e.graph.root
  replaced_other k v (record_of.Replaced a m c) z ne q = own_block k ne (eqb-true (e.graph.block k) (e.graph.block a.0) (both (eqb (e.graph.block k) (e.graph.block a.0)) (nat_lt (e.graph.version a.0) v) z).0 ∙ ap e.graph.block q)
  replaced_other k v x z ne q = absurd cc

  written_other : (k v : ℕ) (x : Record) → is_later_version (e.graph.block k) v x ≡ true → ((q : Record → Bool) → q x ≡ true → 0 < many s q) → k ≢ e.graph.root → key_named x ≢ e.graph.root
  written_other k v (record_of.Written a m b u) z tests ne q = ⊎_elim
      (λ o. let f = tests (is_miswritten e.graph) (ap (λ (y : Bool). cond y false true) o) in let g = i.records.computed.written_place in omega (arith, f, g))
      (λ o. own_block k ne (eqb-true (e.graph.block k) b (both (eqb (e.graph.block k) b) (nat_lt v u) z).0 ∙ sym o.1 ∙ ap e.graph.block q)) (two_tells (e.graph.block a.0) (e.graph.version a.0) b u)
  written_other k v x z tests ne q = absurd cc

  module _ (xs : List Record) (kept : (p : Record → Bool) → count p xs ≡ many s (λ x. p x && is_other_than e.graph.root x)) where
    -- what was struck is in the list
    struck_here : (p : Record → Bool) → ((x : Record) → p x ≡ true → is_any_struck x ≡ true) → 0 < many s p → 0 < count p xs
    struck_here p any z = let r = many_some e fit s sums i.records p z in present e fit s sums i xs kept r.0 r.2 (struck_other e fit s sums i r.0 (any r.0 r.1) r.2) p r.1

    all_closed : (k l : ℕ) → AllClosed e.graph e.plan (λ p. count p xs) k l → AllClosed e.graph e.plan (many s) k l
    all_closed k l all w low = let a = all w low in let b = fewer e fit s sums i xs kept (is_closed k l w) in omega (arith, a, b)

    block_struck : (k : ℕ) → k ≢ e.graph.root → BlockStruck e.graph e.plan (many s) k → BlockStruck e.graph e.plan (λ p. count p xs) k
    block_struck k ne z = dite (ℕ_discrete (many s (is_struck_version (e.graph.block k) (e.graph.version k))) 0)
        (λ y. dite (ℕ_discrete (many s (is_later_version (e.graph.block k) (e.graph.version k))) 0)
        (λ w. let r = many_some e fit s sums i.records (is_replaced_below e.graph (e.graph.block k) (e.graph.version k)) (omega (arith, z, y, w)) in let a = present e fit s sums i xs kept r.0 r.2 (replaced_other k (e.graph.version k) r.0 r.1 ne) (is_replaced_below e.graph (e.graph.block k) (e.graph.version k)) r.1 in omega (arith, a))
        (λ w. let r = many_some e fit s sums i.records (is_later_version (e.graph.block k) (e.graph.version k)) (omega (arith, w)) in let a = present e fit s sums i xs kept r.0 r.2 (written_other k (e.graph.version k) r.0 r.1 r.2 ne) (is_later_version (e.graph.block k) (e.graph.version k)) r.1 in omega (arith, a)))
        (λ y. let a = struck_here (is_struck_version (e.graph.block k) (e.graph.version k)) (version_any (e.graph.block k) (e.graph.version k)) (omega (arith, y)) in omega (arith, a))

    pub list_planned : Planned e.graph e.plan (λ p. count p xs)
    list_planned = record {
      few = λ k l h. let a = fewer e fit s sums i xs kept (is_struck_upto k l h) in let b = (records_planned e s sums i).few k l h in let c = same_planned e.graph e.plan (many s) (λ p. count p xs) k l h e.plan.count in omega (arith, a, b, c);
      names_own = let a = fewer e fit s sums i xs kept (is_misstruck e.graph) in let b = i.records.names_own in omega (arith, a, b);
    }

    list_effect : (n : ℕ) → n < e.plan.count → HasEffect e.graph e.plan (many s) (e.plan.strike n) → HasEffect e.graph e.plan (λ p. count p xs) (e.plan.strike n)
    list_effect n low old = record {
      explored_descriptor = λ at on one. none_here (is_spent (e.plan.strike n).key.0 1 40) (old.explored_descriptor at on one);
      explored_notify = λ w at on one. none_here (is_closed (e.plan.strike n).key.0 1 w) (old.explored_notify w at on one);
      ready_descriptor = λ at on. none_here (is_computed (e.plan.strike n).key.0 (e.plan.strike n).life) (old.ready_descriptor at on);
      ready_notify = λ w at on. none_here (is_closed (e.plan.strike n).key.0 (e.plan.strike n).life w) (old.ready_notify w at on);
      computed_notify = λ w at on. none_here (is_closed (e.plan.strike n).key.0 (e.plan.strike n).life w) (old.computed_notify w at on);
      computed_descriptor = λ at on z. from_here hit_of.Descriptor (old.computed_descriptor at on (first z));
      computed_block = λ at on z. block_struck (e.plan.strike n).key.0 (fit.root_free n low) (old.computed_block at on (first z));
      notified_descriptor = λ at on all. from_here hit_of.Descriptor (old.notified_descriptor at on (all_closed (e.plan.strike n).key.0 (e.plan.strike n).life all));
      notified_notify = λ w at on inside all. from_here (hit_of.Notify w) (old.notified_notify w at on inside (all_closed (e.plan.strike n).key.0 (e.plan.strike n).life all));
      notified_block = λ at on all. block_struck (e.plan.strike n).key.0 (fit.root_free n low) (old.notified_block at on (all_closed (e.plan.strike n).key.0 (e.plan.strike n).life all));
    }
      where
        none_here : (p : Record → Bool) → many s p ≡ 0 → count p xs ≡ 0
        none_here p z = let a = fewer e fit s sums i xs kept p in omega (arith, a, z)

        first : 0 < count (is_closed (e.plan.strike n).key.0 (e.plan.strike n).life 0) xs → 0 < many s (is_closed (e.plan.strike n).key.0 (e.plan.strike n).life 0)
        first z = let a = fewer e fit s sums i xs kept (is_closed (e.plan.strike n).key.0 (e.plan.strike n).life 0) in omega (arith, a, z)

        from_here : (h : Hit) → 0 < many s (is_struck_from (e.plan.strike n).key.0 (e.plan.strike n).life h) → 0 < count (is_struck_from (e.plan.strike n).key.0 (e.plan.strike n).life h) xs
        from_here h z = struck_here (is_struck_from (e.plan.strike n).key.0 (e.plan.strike n).life h) (from_any (e.plan.strike n).key.0 (e.plan.strike n).life h) z

    -- such a list plays the plan
    pub list_played : Passed e s → Prevented e s → IsQuiet e s → Played e.graph e.plan (λ p. count p xs)
    list_played passed prevented quiet = record {
      planned = list_planned;
      effects = λ n low. list_effect n low ((records_played e s sums i fit passed prevented quiet).effects n low);
    }
