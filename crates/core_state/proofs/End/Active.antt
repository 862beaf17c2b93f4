-- Each key in a row is active, or has closed all words of the life that stands.
use Rattle.std.proofs.Common.{◌≡◌, ◌⊎◌, ℕ, ◌+◌, ◌<◌, true, ◌&&◌, eqb, ⊎_elim, inl, inr, arith, sym, ap, refl, subst}
use mathlib.Core.Logic.{dite}
use native.Mathlib.Decide.{ℕ_discrete}
use Rattle.core_state.specs.Graph.{Setting}
use Rattle.core_state.specs.Words.{descriptor, recovery, posted, life_of, standing_life, replacing}
use Rattle.core_state.specs.Counts.{hit, items}
use Rattle.core_state.specs.Tests.{is_renew_of, is_renew_at, is_spent}
use Rattle.core_state.specs.Change.{Core, Sums, many}
use Rattle.core_state.specs.Laws.{IsPlace, AllClosed}
use Rattle.core_state.specs.Rows.{HasKey}
use Rattle.core_state.specs.Cover.{works, works_at_all, ActiveOrClosed}
use Rattle.core_state.specs.Cover.Active.{at_work, needs_place}
use Rattle.core_state.specs.Invariant.{Invariant}
use Rattle.core_state.specs.declared.job.Job.TheVariants.{Compute}
use Rattle.core_state.specs.declared.views.Item.{Item}
use Rattle.core_state.specs.declared.views.Item.TheVariants as item
use Rattle.core_state.proofs.Row.View.{fewer_items}
use Rattle.core_state.proofs.Base.Counting.{both}
use Rattle.core_state.proofs.End.Quiet.{all_or_one}

renews_life : (k l n : ℕ) (x : Item) → is_renew_at k l n x ≡ true → is_renew_of k l x ≡ true
renews_life k l n (item.Renew a m b) q = let o = both (eqb k a) (eqb l m && eqb n b) q in let i = both (eqb l m) (eqb n b) o.1 in rw (o.0, i.0)
renews_life k l n x q = absurd cc

module _ (e : Setting) (s : Core) (sums : Sums s) (inv : Invariant e s) (r k : ℕ) (has : HasKey e s r k) where
  abbrev l : ℕ
  l = standing_life (s.word (recovery r))

  -- a life that is being replaced is renewed by a view
  renewed : replacing (s.word (recovery r)) ≡ 1 → ActiveOrClosed e s r k
  renewed is = inl (at_work (let one = ((inv.lives.each r k has).being_replaced is) in let some = one.one_view in
      dite (ℕ_discrete (s.total (works_at_all k l)) 0)
      (λ z. absurd (let none = sums.none (works_at_all k l) (items (is_renew_at k l one.done)) (λ v f. fewer_items (is_renew_of k l) (is_renew_at k l one.done) (renews_life k l one.done) v.stacks (omega (arith, f))) z in omega (arith, some, none)))
      (λ ne. omega (arith, ne))))

  module _ (stands : replacing (s.word (recovery r)) ≡ 0) where
    shown : life_of (s.word (descriptor r)) ≡ l
    shown = ((inv.lives.each r k has).standing stands).descriptor_life

    -- a place that is not spent needs cover
    unspent : (j : ℕ) → IsPlace e.graph k j → many s (is_spent k l j) ≡ 0 → ActiveOrClosed e s r k
    unspent j place none = inl (needs_place j place (record { has_key = has; stands = stands; life_stands = refl; life_shown = shown; unspent = none }))

    -- with all places spent it is at work or has closed all words
    spent : ((j : ℕ) → IsPlace e.graph k j → 0 < many s (is_spent k l j)) → ActiveOrClosed e s r k
    spent all = ⊎_elim (λ z. inl (at_work (let a = sums.below (works k l) (works_at_all k l) (λ v. omega arith) in omega (arith, a, z)))) (λ z. inr z)
        (subst (λ o. (0 < s.total (works k o) + hit (eqb o (s.word (posted Compute r)))) ⊎ AllClosed e.graph e.plan (many s) k o) shown
        (inv.activity.each r k has (λ j place. subst (λ o. 0 < many s (is_spent k o j)) (sym shown) (all j place))))

    standing : ActiveOrClosed e s r k
    standing = dite (ℕ_discrete (many s (is_spent k l 40)) 0) (λ z. unspent 40 (inr refl) z)
        (λ self. ⊎_elim (λ all. spent (λ j place. ⊎_elim (all j) (λ is. let a = ap (λ o. many s (is_spent k l o)) is in omega (arith, a, self)) place)) (λ one. unspent one.0 (inl one.1) one.2)
        (all_or_one (λ j. many s (is_spent k l j)) (e.graph.places k)))

  pub active_or_closed : ActiveOrClosed e s r k
  active_or_closed = dite (ℕ_discrete (replacing (s.word (recovery r))) 0) standing (λ ne. renewed (omega (arith, ne)))
