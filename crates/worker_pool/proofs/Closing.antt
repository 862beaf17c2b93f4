-- The lists of a closed table: which results they have, and that the root's has replacements alone.
use Rattle.std.proofs.Common.{◌≡◌, ◌≢◌, ◌∙◌, ℕ, ◌<◌, Bool, true, false, cond, eqb, ne_eqb, ◌&&◌, List, ◌++◌, ap, sym, refl, arith}
use Rattle.std.proofs.lemmas.Bool.{and_from, eqb-true}
use mathlib.Core.Logic.{dite}
use native.Mathlib.Decide.{ℕ_discrete}
use Rattle.graph_model.specs.declared.record.Cause.{Cause}
use Rattle.graph_model.specs.declared.record.Record.{Record}
use Rattle.graph_model.specs.declared.record.Record.TheVariants as record_of
use Rattle.core_state.specs.Counts.{count, noted, total_of}
use Rattle.core_state.specs.Tests.{is_any_replaced, is_any_struck, is_computed, is_replaced_for, key_named, same_cause, two}
use Rattle.core_state.specs.Graph.{Graph}
use Rattle.core_state.specs.Laws.{IsGrounded, Shown}
use Rattle.core_state.specs.declared.views.View.{View}
use Rattle.core_state.proofs.Base.Counting.{eqb_here, both}
use Rattle.core_state.proofs.Base.Sums.{total_below}
use Rattle.core_state.proofs.Blocks.Blame.{cause_here}
use Rattle.core_state.proofs.Blocks.Versions.{count_some}
use Rattle.core_state.proofs.Row.View.{count_below, fewer}
use Rattle.core_state.proofs.Seats.View.{count_both}
use Rattle.core_laws.specs.Lists.{AreOfTasks, RootReplaced, RootShown}
use Rattle.core_steps.specs.Table.{is_kept, is_root_replaced}

not_replacing : (b : Bool) → cond (b && false) false true ≡ true
not_replacing true = refl
not_replacing false = refl

-- a result is no replacement of the root
computed_apart : (root k l : ℕ) (x : Record) → is_computed k l x ≡ true → cond (is_root_replaced root x) false true ≡ true
computed_apart root k l (record_of.Computed key life) z = not_replacing (eqb root key.0)
computed_apart root k l x z = absurd cc

struck_apart : (root : ℕ) (x : Record) → is_any_struck x ≡ true → cond (is_root_replaced root x) false true ≡ true
struck_apart root (record_of.Struck key life on) z = not_replacing (eqb root key.0)
struck_apart root x z = absurd cc

-- a result names its key
computed_named : (k l : ℕ) (x : Record) → is_computed k l x ≡ true → eqb k (key_named x) ≡ true
computed_named k l (record_of.Computed key life) z = (both (eqb k key.0) (eqb l life) z).0
computed_named k l x z = absurd cc

-- the root's replacements have no result
none_computed : (g : Graph) (k l : ℕ) (rs : List Record) → RootReplaced g rs → count (is_computed k l) rs ≡ 0
none_computed g k l rs root = fewer (λ x. cond (is_root_replaced g.root x) false true) (is_computed k l) (computed_apart g.root k l) rs root.only

-- nor a strike
pub none_struck : (g : Graph) (rs : List Record) → RootReplaced g rs → count is_any_struck rs ≡ 0
none_struck g rs root = fewer (λ x. cond (is_root_replaced g.root x) false true) is_any_struck (struck_apart g.root) rs root.only

-- where no cause of the root is shown it was not replaced
pub root_unreplaced : (g : Graph) (xs rs : List Record) → ((l : ℕ) (c : Cause) → Shown g (λ q. count q xs) (IsGrounded g xs) g.root l c → ⊥) → RootReplaced g rs → RootShown g xs rs → count is_any_replaced rs ≡ 0
root_unreplaced g xs rs never root causes = dite (ℕ_discrete (count is_any_replaced rs) 0) (λ none. none) (λ some. absurd (let r = count_some is_any_replaced rs (omega (arith, some)) in of r.0 r.1 r.2))
  where
    of : (x : Record) → is_any_replaced x ≡ true → ((q : Record → Bool) → q x ≡ true → 0 < count q rs) → ⊥
    of (record_of.Replaced key life c) z tests = by (eqb g.root key.0) refl
      where
        by : (t : Bool) → eqb g.root key.0 ≡ t → ⊥
        by false y = let a = tests (λ x. cond (is_root_replaced g.root x) false true) (ap (λ (t : Bool). cond (t && true) false true) y) in let b = root.only in omega (arith, a, b)
        by true y = never life c (causes.shown life c (tests (is_replaced_for g.root life c) (and_from (two g.root life key.0 life) (same_cause c c) (and_from (eqb g.root key.0) (eqb life life) y (eqb_here life)) (cause_here c))))
    of x z tests = absurd cc

-- with the root's replacements behind them the records have the same results
pub same_computed : (g : Graph) (k l : ℕ) (tasks rs : List Record) → RootReplaced g rs → count (is_computed k l) (tasks ++ rs) ≡ count (is_computed k l) tasks
same_computed g k l tasks rs root = let a = count_both (is_computed k l) tasks rs in let b = none_computed g k l rs root in omega (arith, a, b)

-- records of tasks have no result of the root
pub no_root_computed : (g : Graph) (l : ℕ) (tasks : List Record) → AreOfTasks g tasks → count (is_computed g.root l) tasks ≡ 0
no_root_computed g l tasks none = fewer (λ x. eqb g.root (key_named x)) (is_computed g.root l) (computed_named g.root l) tasks none

-- the results of a task are all among the records that are kept
module _ (root k l : ℕ) (ne : k ≢ root) where
  kept_too : (x : Record) → is_computed k l x ≡ true → (is_computed k l x && is_kept root x) ≡ true
  kept_too x z = and_from (is_computed k l x) (is_kept root x) z (ap (λ (t : Bool). cond t false true) (ne_eqb root (key_named x) (λ q. ne (eqb-true k (key_named x) (computed_named k l x z) ∙ sym q))))

  kept_first : (x : Record) → (is_computed k l x && is_kept root x) ≡ true → is_computed k l x ≡ true
  kept_first x z = (both (is_computed k l x) (is_kept root x) z).0

  pub kept_computed : (vs : List View) (n : ℕ) → n ≡ total_of vs (noted (λ x. is_computed k l x && is_kept root x)) → n ≡ total_of vs (noted (is_computed k l))
  kept_computed vs n is =
      let a = total_below vs (noted (λ x. is_computed k l x && is_kept root x)) (noted (is_computed k l)) (λ v. count_below _ _ kept_first v.records) in
      let b = total_below vs (noted (is_computed k l)) (noted (λ x. is_computed k l x && is_kept root x)) (λ v. count_below _ _ kept_too v.records) in omega (arith, is, a, b)
