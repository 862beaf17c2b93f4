-- Where no strike landed and pending is 0, the list of the records of tasks says that each task was made once, in its first life.
use Rattle.std.proofs.Common.{◌≡◌, ℕ, ◌+◌, ◌-◌, ◌<◌, Bool, true, ◌&&◌, nat_lt, eqb, List, arith, ap, ◌∙◌}
use mathlib.Core.Logic.{dite}
use native.Mathlib.Decide.{ℕ_discrete}
use Rattle.std.proofs.lemmas.Bool.{and_right, le-ltb}
use Rattle.core_state.specs.Graph.{Setting, Sound, Reached}
use Rattle.core_state.specs.Words.{recovery, standing_life, replacing}
use Rattle.core_state.specs.Counts.{hit, count}
use Rattle.core_state.specs.Tests.{key_named, is_of, is_computed, is_any_struck, is_replaced, is_any_replaced}
use Rattle.core_state.specs.Change.{Core, Sums, many}
use Rattle.core_state.specs.Laws.{FaultFree}
use Rattle.core_state.specs.Rows.{HasKey}
use Rattle.core_state.specs.Invariant.{Invariant, IsQuiet}
use Rattle.graph_model.specs.declared.record.Record.{Record}
use Rattle.graph_model.specs.declared.record.Record.TheVariants as record_of
use Rattle.core_state.proofs.Base.Counting.{two_here}
use Rattle.core_state.proofs.Blocks.Versions.{many_some}
use Rattle.core_state.proofs.End.Lists.{is_other_than, struck_other, within, fewer, present, has_of}
use Rattle.core_state.proofs.Row.Made.{computed_of, replaced_of}
use Rattle.core_state.proofs.End.Quiet.{has_computed, reached_row}

module _ (e : Setting) (fit : Sound e) (s : Core) (sums : Sums s) (i : Invariant e s) where
  module _ (none : many s is_any_struck ≡ 0) where
    first_stands : (r k : ℕ) → HasKey e s r k → s.word (recovery r) ≡ 0
    first_stands r k has = (i.no_fault.faultless none).first_life r k has

    none_below : (l : ℕ) → hit (nat_lt 0 l && nat_lt l 1) ≡ 0
    none_below l = dite (ℕ_discrete l 0) (λ q. ap (λ y. hit (nat_lt 0 y && nat_lt y 1)) q) (λ ne. ap hit (and_right (nat_lt 0 l) (nat_lt l 1) (le-ltb l 1 (omega (arith, ne)))))

    -- no life of a key was replaced
    not_replaced : (k l : ℕ) → many s (is_replaced k l) ≡ 0
    not_replaced k l = dite (ℕ_discrete (many s (is_replaced k l)) 0) (λ z. z) (λ ne. absurd (let r = many_some e fit s sums i.records (is_replaced k l) (omega (arith, ne)) in
        let row = i.keys.of_created k (let a = i.records.lives.created_once k l (r.2 (is_of k l) (replaced_of k l r.0 r.1)) in omega (arith, a)) in
        let a = i.records.replaced row.0 k l row.1 ∙ ap (λ n. hit (nat_lt 0 l && nat_lt l (standing_life n + replacing n))) (first_stands row.0 k row.1) ∙ none_below l in ne a))

    none_replaced : many s is_any_replaced ≡ 0
    none_replaced = dite (ℕ_discrete (many s is_any_replaced) 0) (λ z. z) (λ ne. absurd (let r = many_some e fit s sums i.records is_any_replaced (omega (arith, ne)) in of r.0 r.1 r.2))
      where
        of : (x : Record) → is_any_replaced x ≡ true → ((q : Record → Bool) → q x ≡ true → 0 < many s q) → ⊥
        of (record_of.Replaced a m d) t tests = let some = tests (is_replaced a.0 m) (two_here a.0 m) in let no = not_replaced a.0 m in omega (arith, some, no)
        of x t tests = absurd cc

    -- a result was made in the first life alone
    made_first : (k l : ℕ) → 0 < many s (is_computed k l) → (l ≡ 1) × Reached e.graph k
    made_first k l z = let r = many_some e fit s sums i.records (is_computed k l) z in let here = r.2 (is_of k l) (computed_of k l r.0 r.1) in (
      dite (ℕ_discrete l 1) (λ q. q)
          (λ ne. dite (ℕ_discrete l 0) (λ q. absurd (let a = i.records.some_life k in let b = ap (λ y. many s (is_of k y)) q in omega (arith, a, b, here)))
          (λ ne'. absurd (let a = i.records.lives.replaced_before k l (omega (arith, ne, ne')) here in let b = not_replaced k (l - 1) in omega (arith, a, b)))),
      i.records.lives.reached k l here,
    )

    made_once : IsQuiet e s → (k : ℕ) → Reached e.graph k → 0 < many s (is_computed k 1)
    made_once quiet k reached = let row = reached_row e fit s sums i quiet k reached in let a = has_computed e fit s sums i quiet row.0 k row.1 in
        let b = ap (λ n. many s (is_computed k (standing_life n))) (first_stands row.0 k row.1) in omega (arith, a, b)

  module _ (xs : List Record) (kept : (p : Record → Bool) → count p xs ≡ many s (λ x. p x && is_other_than e.graph.root x)) where
    -- the root's words are not struck, so a list of the records of tasks has each strike that landed
    none_struck : count is_any_struck xs ≡ 0 → many s is_any_struck ≡ 0
    none_struck z = dite (ℕ_discrete (many s is_any_struck) 0) (λ q. q) (λ ne. absurd (let r = many_some e fit s sums i.records is_any_struck (omega (arith, ne)) in
        let a = present e fit s sums i xs kept r.0 r.2 (struck_other e fit s sums i r.0 r.1 r.2) is_any_struck r.1 in omega (arith, a, z)))

    pub fault_free : IsQuiet e s → FaultFree e.graph (λ p. count p xs)
    fault_free quiet = record {
      none_replaced = λ z. let a = fewer e fit s sums i xs kept is_any_replaced in let b = none_replaced (none_struck z) in omega (arith, a, b);
      each_computed = λ z k ne reached. let a = has_of e fit s sums i xs kept k 1 (is_computed k 1) (computed_of k 1) ne (made_once (none_struck z) quiet k reached) in
          let b = fewer e fit s sums i xs kept (is_computed k 1) in let c = i.records.computed.computed_once k 1 in omega (arith, a, b, c);
      only_computed = λ z k l some. made_first (none_struck z) k l (let a = fewer e fit s sums i xs kept (is_computed k l) in omega (arith, a, some));
    }

    -- nor was the root replaced
    pub root_stays : (rs : List Record) → ((p : Record → Bool) → count p rs ≡ many s (λ x. p x && (eqb e.graph.root (key_named x) && is_any_replaced x))) → count is_any_struck xs ≡ 0 → count is_any_replaced rs ≡ 0
    root_stays rs kept_root z = let a = within e fit s sums i (λ x. eqb e.graph.root (key_named x) && is_any_replaced x) rs kept_root is_any_replaced in let b = none_replaced (none_struck z) in omega (arith, a, b)
