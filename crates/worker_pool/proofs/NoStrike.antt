-- Where no strike landed no cause is shown: each chain of overwritten versions would have to end at one.
use Rattle.std.proofs.Common.{◌≡◌, ℕ, zero, suc, ◌+◌, ◌<◌, Bool, true, cond, eqb, ◌&&◌, nat_lt, List, length, arith}
use Rattle.std.proofs.lemmas.Bool.{and_from, ltb-true}
use mathlib.Core.Logic.{dite}
use native.Mathlib.Decide.{ℕ_discrete}
use Rattle.graph_model.specs.declared.record.Cause.{Cause}
use Rattle.graph_model.specs.declared.record.Cause.TheVariants as cause
use Rattle.graph_model.specs.declared.record.Found.TheVariants as found
use Rattle.graph_model.specs.declared.record.Hit.{Hit}
use Rattle.graph_model.specs.declared.record.Hit.TheVariants as hit_of
use Rattle.graph_model.specs.declared.record.Record.{Record}
use Rattle.graph_model.specs.declared.record.Record.TheVariants as record_of
use Rattle.core_state.specs.Counts.{count}
use Rattle.core_state.specs.Graph.{Graph}
use Rattle.core_state.specs.Laws.{CausesShown, IsGrounded, Shown, grounded_upto, grounds, reads_upto}
use Rattle.core_state.specs.Laws.Shown.{descriptor as s_descriptor, notify as s_notify, struck as s_struck, other}
use Rattle.core_state.specs.Tests.{is_any_replaced, is_any_struck, is_replaced_for, is_struck, is_struck_version, same_cause, two}
use Rattle.core_state.proofs.Base.Counting.{two_here, both}
use Rattle.core_state.proofs.Blocks.Blame.{cause_here}
use Rattle.core_state.proofs.Blocks.Versions.{count_some}
use Rattle.core_state.proofs.Row.View.{fewer}

struck_any : (k l : ℕ) (h : Hit) (x : Record) → is_struck k l h x ≡ true → is_any_struck x ≡ true
struck_any k l h (record_of.Struck key life hit) z = cc
struck_any k l h x z = absurd cc

version_any : (b v : ℕ) (x : Record) → is_struck_version b v x ≡ true → is_any_struck x ≡ true
version_any b v (record_of.Struck key life hit) z = cc
version_any b v x z = absurd cc

module _ (g : Graph) (xs : List Record) (causes : CausesShown g (λ p. count p xs) (IsGrounded g xs)) (none : count is_any_struck xs ≡ 0) where
  none_of : (p : Record → Bool) → ((x : Record) → p x ≡ true → is_any_struck x ≡ true) → 0 < count p xs → ⊥
  none_of p any some = let a = fewer is_any_struck p any xs none in omega (arith, a, some)

  -- the replacement by which a cause is grounded
  grounding : (b v u : ℕ) (ok : Cause → Bool) → 0 < count (grounds g b v u ok) xs → (k : ℕ) × (l : ℕ) × (c : Cause) × (0 < count (is_replaced_for k l c) xs) × (ok c ≡ true)
  grounding b v u ok some = let r = count_some (grounds g b v u ok) xs some in of r.0 r.1 r.2
    where
      of : (x : Record) → grounds g b v u ok x ≡ true → ((q : Record → Bool) → q x ≡ true → 0 < count q xs) → (k : ℕ) × (l : ℕ) × (c : Cause) × (0 < count (is_replaced_for k l c) xs) × (ok c ≡ true)
      of (record_of.Replaced key life c) z tests = (
        key.0,
        life,
        c,
        tests (is_replaced_for key.0 life c) (and_from (two key.0 life key.0 life) (same_cause c c) (two_here key.0 life) (cause_here c)),
        (both (cond (nat_lt v u) (reads_upto g key.0 b v (g.inputs key.0)) (nat_lt u v && eqb key.0 (g.writer b u))) (ok c) z).1,
      )
      of x z tests = absurd cc

  -- no chain of replacements grounds another version
  no_chain : (n b v u : ℕ) → grounded_upto g xs n (cause.Block b v (found.Other u)) ≡ true → ⊥
  unfolding grounded_upto
  no_chain zero b v u z = cc
  no_chain (suc n) b v u z = let r = grounding b v u (grounded_upto g xs n) (ltb-true 0 _ z) in by (no_chain n) r.0 r.1 r.2 (causes.shown r.0 r.1 r.2 r.3) r.4
    where
      by : ((d w o : ℕ) → grounded_upto g xs n (cause.Block d w (found.Other o)) ≡ true → ⊥) → (k l : ℕ) (c : Cause) → Shown g (λ p. count p xs) (IsGrounded g xs) k l c → grounded_upto g xs n c ≡ true → ⊥
      by chain k l c (s_descriptor some) up = none_of (is_struck k l hit_of.Descriptor) (struck_any k l hit_of.Descriptor) some
      by chain k l c (s_notify w some) up = none_of (is_struck k l (hit_of.Notify w)) (struck_any k l (hit_of.Notify w)) some
      by chain k l c (s_struck d w of some) up = none_of (is_struck_version d w) (version_any d w) some
      by chain k l c (other d w o of ne some grounded) up = chain d w o up

  -- so no cause is shown
  pub not_shown : (k l : ℕ) (c : Cause) → Shown g (λ p. count p xs) (IsGrounded g xs) k l c → ⊥
  not_shown k l c (s_descriptor some) = none_of (is_struck k l hit_of.Descriptor) (struck_any k l hit_of.Descriptor) some
  not_shown k l c (s_notify w some) = none_of (is_struck k l (hit_of.Notify w)) (struck_any k l (hit_of.Notify w)) some
  not_shown k l c (s_struck b v of some) = none_of (is_struck_version b v) (version_any b v) some
  not_shown k l c (other b v u of ne some grounded) = no_chain (length xs + 1) b v u grounded

  -- nor was any life replaced
  pub none_replaced : count is_any_replaced xs ≡ 0
  none_replaced = dite (ℕ_discrete (count is_any_replaced xs) 0) (λ q. q) (λ some. absurd (let r = count_some is_any_replaced xs (omega (arith, some)) in of r.0 r.1 r.2))
    where
      of : (x : Record) → is_any_replaced x ≡ true → ((q : Record → Bool) → q x ≡ true → 0 < count q xs) → ⊥
      of (record_of.Replaced key life c) z tests = not_shown key.0 life c (causes.shown key.0 life c (tests (is_replaced_for key.0 life c) (and_from (two key.0 life key.0 life) (same_cause c c) (two_here key.0 life) (cause_here c))))
      of x z tests = absurd cc
