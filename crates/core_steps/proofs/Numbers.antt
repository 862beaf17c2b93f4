-- The numbers of a row's words, and the lives that a view works for, are small.
use Rattle.std.proofs.Common.{◌≡◌, ℕ, ◌+◌, ◌-◌, ◌^◌, ◌<◌, ◌≤◌, ◌&&◌, eqb, Bool, true, false, arith, ap, subst, inl, inr, ⊎_elim}
use Rattle.core_state.specs.Graph.{Setting, Sound}
use Rattle.core_state.specs.Words.{recovery, standing_life, replacing}
use Rattle.core_state.specs.Laws.{IsPlace}
use Rattle.core_state.specs.Change.{Core}
use Rattle.core_state.specs.Guards.{CanClose, CanElect, CanSpend, Spends, KnowsRow}
use Rattle.core_state.specs.Guards.Spends.{exploring, notifying, reentering, itself}
use Rattle.core_state.specs.Counts.{hit, held, items, in_stacks}
use Rattle.core_state.specs.Tests.{carries, is_renew, is_renew_at, is_suspect}
use Rattle.core_state.specs.Effects.{finish_left}
use Rattle.core_state.specs.Packed.{IsLife, bit_of, recovery_word}
use Rattle.core_state.specs.Rows.{Replacing}
use Rattle.core_state.specs.Views.{on_top, without_first}
use Rattle.core_state.specs.declared.job.Job.TheVariants.{Compute}
use Rattle.core_state.specs.declared.views.Item.{Item}
use Rattle.core_state.specs.declared.views.Item.TheVariants as item
use Rattle.core_state.specs.declared.views.View.{View}
use Rattle.core_state.specs.declared.words.Recovery.{Recovery}
use Rattle.graph_model.specs.declared.record.Cause.{Cause}
use Rattle.core_state.proofs.Base.Counting.{eqb_here, three_else, two_here, both}
use Rattle.core_state.proofs.Close.View.{at_top}
use Rattle.core_state.proofs.Credit.JobView.{popped_items}
use Rattle.core_state.proofs.Replace.Lost.{taken}
use Rattle.core_state.proofs.Row.View.{fewer_items, items_below}
use Rattle.core_steps.proofs.AnyCore.{IsViewOf, known_has}
use Rattle.core_steps.proofs.Bound.{greatest, held_life}
use Rattle.core_steps.specs.Serving.{Renews}

renew_of : (k a b : ℕ) (y : Item) → is_renew_at k a b y ≡ true → is_renew k y ≡ true
renew_of k a b (item.Renew m i j) z = (both (eqb k m) (eqb a i && eqb b j) z).0
renew_of k a b y z = absurd cc

module _ {e : Setting} {s : Core} {v : View} (x : IsViewOf e s v) where
  -- a recovery word shows a life that its key may have
  pub recovery_few : (r k : ℕ) → KnowsRow e v r k → s.word (recovery r) < 2 ^ 17
  recovery_few r k can = let most = (x.holds.lives.each r k (known_has x r k can)).at_most in let a = greatest e x.fit s x.sums x.holds k in
      let less : standing_life (s.word (recovery r)) < 65536 = omega (arith, most, a) in omega (arith, less)

  -- a closing is of a life that a word can show
  pub close_life : (r k l w seen : ℕ) → CanClose e v r k l w seen → IsLife l
  close_life r k l w seen can = let a = x.within (held Compute k l) in let b = at_top k l w 0 v can.at_work (carries Compute k l) in let c = ap hit (two_here k l) in
      let f = held_life e x.fit s x.sums x.holds r k l (known_has x r k can.row) (omega (arith, a, b, c)) in let y = f.0 in let z = f.1 in (omega (arith, y), omega (arith, z))

  -- and so is a suspected life
  pub elect_life : (r k l : ℕ) (c : Cause) (waits : Bool) → CanElect e v r k l c waits → IsLife l
  elect_life r k l c waits can = let a = (x.holds.lives.each r k (known_has x r k can.row)).suspected l (let a = x.within (items (is_suspect k l)) in let b = taken k l c waits v can.at_work (is_suspect k l) in let d = ap hit (two_here k l) in omega (arith, a, b, d)) in
      let b = a.0 in let d = greatest e x.fit s x.sums x.holds k in let f = can.not_last in (omega (arith, b), omega (arith, d, f))

  -- where the view has all items that pass a test, it has all that pass a narrower one
  all_here : (p q : Item → Bool) → ((y : Item) → p y ≡ true → q y ≡ true) → s.total (items q) ≤ items q v → s.total (items p) ≡ items p v
  all_here p q h most = let other : View → ℕ = λ u. items q u - items p u in
      let a = x.sums.below (λ u. items p u + other u) (items q) (λ u. let y = items_below p q h u.stacks in omega (arith, y)) in let b = x.sums.add (items p) other in
      let c = x.within (items p) in let d = x.within other in let f = items_below p q h v.stacks in omega (arith, a, b, c, d, f, most)

  module _ (r k l : ℕ) (renews : Renews e v r k l) where
    abbrev others : (Item → Bool) → ℕ
    others p = in_stacks p (on_top without_first v.stacks)

    at_work : (p : Item → Bool) → others p + hit (p (item.Renew k l renews.done)) ≡ items p v
    at_work p = let w = renews.at_work in popped_items p v.stacks w.stack (item.Renew k l renews.done) w.below w.others w.stacks_are w.items_are

    -- the renewal at work is the only one of its key
    renewing : (replacing (s.word (recovery r)) ≡ 1) × (s.total (items (is_renew k)) ≡ 1) × (others (is_renew k) ≡ 0)
    renewing = let a = (x.holds.lives.each r k (known_has x r k renews.row)).renewing in let b = x.within (items (is_renew k)) in let c = at_work (is_renew k) in let d = ap hit (eqb_here k) in
        (omega (arith, a, b, c, d), omega (arith, a, b, c, d), omega (arith, a, b, c, d))

    stage : Replacing e s r k (standing_life (s.word (recovery r)))
    stage = (x.holds.lives.each r k (known_has x r k renews.row)).being_replaced renewing.0

    renewed_is : standing_life (s.word (recovery r)) ≡ l
    renewed_is = let p : Item → Bool = is_renew_at k (standing_life (s.word (recovery r))) stage.done in let of = renew_of k (standing_life (s.word (recovery r))) stage.done in
        ⊎_elim (λ z. absurd (let a = all_here p (is_renew k) of (let c = at_work (is_renew k) in let d = ap hit (eqb_here k) in let f = renewing.1 in omega (arith, c, d, f)) in let b = stage.one_view in
        let c = at_work p in let d = fewer_items (is_renew k) p of (on_top without_first v.stacks) renewing.2 in omega (arith, a, b, c, d, z)))
        (λ z. z.1) (three_else k (standing_life (s.word (recovery r))) stage.done k l renews.done)

    -- the recovery word of a life that the view replaces
    pub renewed_life : let n : ℕ = s.word (recovery r) in (standing_life n ≡ l) × (l < 65535) × (n < 2 ^ 17)
    renewed_life = let now = renewing.0 in let life = renewed_is in let most = (x.holds.lives.each r k (known_has x r k renews.row)).at_most in let few = greatest e x.fit s x.sums x.holds k in
        let less : l < 65535 = omega (arith, life, now, most, few) in (life, less, omega (arith, life, less))

module _ (e : Setting) (fit : Sound e) (v : View) (r k j : ℕ) (can : CanSpend e v r k j) where
  -- the place is one of the task, or that which exploring itself spends
  spends_place : Spends e v k j → IsPlace e.graph k j
  spends_place (exploring l at less known) = inl less
  spends_place (notifying a l w q qs at less task is known) = inl (subst (λ o. o < e.graph.places k) is (subst (λ o. (e.graph.succ a q).place < e.graph.places o) task (fit.lawful.forth a q less).0))
  spends_place (reentering a l q qs at less task is known) = inl (subst (λ o. o < e.graph.places k) is (subst (λ o. (e.graph.succ a q).place < e.graph.places o) task (fit.lawful.forth a q less).0))
  spends_place (itself l at is) = inr is

  pub place_few : j ≤ 40
  place_few = let a = fit.lawful.few_places k in ⊎_elim (λ less. omega (arith, a, less)) (λ is. omega (arith, is)) (spends_place can.edge)

pub next_stands : (x : Recovery) (l : ℕ) → x.life ≡ l + 1 → x.renewing ≡ false → recovery_word x ≡ finish_left l
next_stands x l life stands = let a = ap bit_of stands in omega (arith, life, a)
