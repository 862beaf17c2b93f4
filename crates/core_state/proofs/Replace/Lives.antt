-- What the recovery word says of the lives that the other words of its row show, and of records.
use Rattle.std.proofs.Common.{◌≡◌, ℕ, ◌+◌, ◌-◌, ◌≤◌, ◌<◌, true, ◌&&◌, eqb, nat_lt, arith, sym, ◌∙◌, subst}
use mathlib.Core.Logic.{dite}
use native.Mathlib.Decide.{ℕ_discrete}
use Rattle.std.proofs.lemmas.Bool.{lt-ltb}
use Rattle.core_state.specs.Graph.{Setting}
use Rattle.core_state.specs.Words.{descriptor, notify, recovery, life_of, standing_life, replacing}
use Rattle.core_state.specs.Counts.{hit, items}
use Rattle.core_state.specs.Tests.{is_renew_at, is_renew_of, is_replaced}
use Rattle.core_state.specs.Change.{Core, Sums, many}
use Rattle.core_state.specs.Rows.{HasKey, Lives}
use Rattle.core_state.specs.Records.{Records}
use Rattle.core_state.specs.declared.views.Item.{Item}
use Rattle.core_state.specs.declared.views.Item.TheVariants as item
use Rattle.core_state.proofs.Row.View.{fewer_items}
use Rattle.core_state.proofs.Base.Counting.{both}

-- a life that is being replaced is renewed by some view
pub being_renewed : (e : Setting) (s : Core) (r k : ℕ) → Sums s → Lives e s → HasKey e s r k → replacing (s.word (recovery r)) ≡ 1 → 0 < s.total (items (is_renew_of k (standing_life (s.word (recovery r)))))
being_renewed e s r k sums lives has one = let l : ℕ = standing_life (s.word (recovery r)) in let st = (lives.each r k has).being_replaced one in dite (ℕ_discrete (s.total (items (is_renew_of k l))) 0)
    (λ q. absurd (let a = sums.none (items (is_renew_of k l)) (items (is_renew_at k l st.done)) (λ u f. fewer_items (is_renew_of k l) (is_renew_at k l st.done) (of k l st.done) u.stacks f) q in let g = st.one_view in omega (arith, a, g)))
    (λ q. omega (arith, q))
  where
    of : (k l d : ℕ) (x : Item) → is_renew_at k l d x ≡ true → is_renew_of k l x ≡ true
    of k l d (item.Renew a m b) f = let g = both (eqb k a) (eqb l m && eqb d b) f in let h = both (eqb l m) (eqb d b) g.1 in rw (g.0, h.0)
    of k l d x f = absurd cc

-- where a notify word shows another life than the descriptor, the descriptor's life is being renewed
pub renewed_here : (e : Setting) (s : Core) (r k w : ℕ) → Sums s → Lives e s → HasKey e s r k → w < e.graph.notify_words k → (life_of (s.word (notify r w)) ≡ life_of (s.word (descriptor r)) → ⊥) → 0 < s.total (items (is_renew_of k (life_of (s.word (descriptor r)))))
renewed_here e s r k w sums lives has low ne = let o = lives.each r k has in let z : ℕ = s.word (recovery r) in dite (ℕ_discrete (replacing z) 0)
    (λ y. let st = o.standing y in absurd (ne (st.notify_life w low ∙ sym st.descriptor_life)))
    (λ not. let one : replacing z ≡ 1 = omega (arith, not) in let st = o.being_replaced one in dite (ℕ_discrete st.done (e.graph.notify_words k + 1))
    (λ y. absurd (ne (st.done_words w low (omega (arith, y, low)) ∙ sym (st.descriptor_after y))))
    (λ y. let b = st.at_most in subst (λ x. 0 < s.total (items (is_renew_of k x))) (sym (st.descriptor_before (omega (arith, b, y)))) (being_renewed e s r k sums lives has one)))

-- a later life that stands or comes was reached by a replacement
pub replaced_below : (e : Setting) (s : Core) (r k l : ℕ) → Records e s → HasKey e s r k → 1 < l → l ≤ standing_life (s.word (recovery r)) + replacing (s.word (recovery r)) → 0 < many s (is_replaced k (l - 1))
replaced_below e s r k l recs has later low = let z : ℕ = s.word (recovery r) in let a = recs.replaced r k (l - 1) has in
    let b : hit (nat_lt 0 (l - 1) && nat_lt (l - 1) (standing_life z + replacing z)) ≡ 1 = rw (lt-ltb 0 (l - 1) (omega (arith, later)), lt-ltb (l - 1) (standing_life z + replacing z) (omega (arith, low, later))) in omega (arith, a, b)
