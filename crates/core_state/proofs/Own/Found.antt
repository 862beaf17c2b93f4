-- What a word shows to a view that knows something of it already.
use Rattle.std.proofs.Common.{◌≡◌, ◌⊎◌, ℕ, ◌+◌, ◌*◌, ◌/◌, ◌%◌, ◌≤◌, ◌<◌, ⊎_elim, inl, inr, arith, sym, ap, subst}
use mathlib.Core.Logic.{dite}
use native.Mathlib.Decide.{ℕ_discrete, dec_lt}
use Rattle.std.specs.Int.{bit_at}
use Rattle.std.proofs.lemmas.Nat.Bits.{bit_at-lt}
use Rattle.core_state.specs.Graph.{Setting, Sound}
use Rattle.core_state.specs.Words.{Spot, descriptor, notify, life_of, mark_of, life_shown, mark_shown}
use Rattle.core_state.specs.Counts.{noted, facts, waits}
use Rattle.core_state.specs.Tests.{is_seen_life, is_seen_mark, is_spent}
use Rattle.core_state.specs.Change.{Core, many}
use Rattle.core_state.specs.Rows.{HasKey}
use Rattle.core_state.specs.Invariant.{Invariant}
use Rattle.core_state.specs.Sure.{IsFound}
use Rattle.core_state.specs.declared.views.View.{View}
use Rattle.core_state.proofs.Own.Sure.{row_known}

module _ (e : Setting) (fit : Sound e) (s : Core) (inv : Invariant e s) (v : View) (within : (f : View → ℕ) → f v ≤ s.total f) where
  -- a place that the view has spent is found spent, or the mark, or a later life
  place_found : (r k l j : ℕ) → HasKey e s r k → 0 < noted (is_spent k l j) v → let n : ℕ = s.word (descriptor r) in (l < life_of n) ⊎ ((l ≡ life_of n) × ((mark_of n ≡ 1) ⊎ (bit_at n j ≡ 1)))
  place_found r k l j has z = let n : ℕ = s.word (descriptor r) in let shows = inv.content.descriptors r k has in let w = within (noted (is_spent k l j)) in let some : 0 < many s (is_spent k l j) = omega (arith, w, z) in
      dite (dec_lt l (life_of n)) (λ later. inl later) (λ low. dite (dec_lt (life_of n) l)
      (λ early. absurd (let a = shows.spent_later l j early in omega (arith, a, some)))
      (λ high. let same : l ≡ life_of n = omega (arith, low, high) in inr (
        same,
        dite (ℕ_discrete (mark_of n) 1) (λ q. inl q)
            (λ ne. let plain : mark_of n ≡ 0 = (let a = bit_at-lt n 41 in omega (arith, a, ne)) in
            let few = fit.lawful.few_places k in let small : j ≤ 40 = ⊎_elim (λ q. omega (arith, few, q)) (λ q. omega (arith, q)) (inv.records.spent.is_place k l j some) in
            inr (let a = shows.spent plain j small in let b = inv.records.spent.once k l j in let c = ap (λ o. many s (is_spent k o j)) same in omega (arith, a, b, c, some))),
      )))

  -- a port that the view has registered is found registered, or the mark, or a later life
  port_found : (r p l q : ℕ) → HasKey e s r p → 0 < waits p l q v → let n : ℕ = s.word (notify r (q / 40)) in (l < life_of n) ⊎ ((l ≡ life_of n) × ((mark_of n ≡ 1) ⊎ (bit_at n (q % 40) ≡ 1)))
  port_found r p l q has z = let n : ℕ = s.word (notify r (q / 40)) in let a = within (waits p l q) in let some : 0 < s.total (waits p l q) = omega (arith, a, z) in let inside = fit.lawful.enough_words p q (inv.keys.of_waiting p l q some).0 in
      let whole : q ≡ 40 * (q / 40) + q % 40 = omega arith in let there : 0 < s.total (waits p l (40 * (q / 40) + q % 40)) = subst (λ o. 0 < s.total (waits p l o)) whole some in
      dite (dec_lt l (life_of n)) (λ later. inl later) (λ low. dite (dec_lt (life_of n) l)
      (λ early. absurd (let b = (inv.content.notify_words r p (q / 40) has inside).waiting_later l (q % 40) early (omega arith) in omega (arith, b, there)))
      (λ high. let same : l ≡ life_of n = omega (arith, low, high) in inr (
        same,
        dite (ℕ_discrete (mark_of n) 1) (λ y. inl y)
            (λ ne. inr ((inv.content.notify_words r p (q / 40) has inside).registered (let b = bit_at-lt n 41 in omega (arith, b, ne)) (q % 40) (omega arith) (subst (λ o. 0 < s.total (waits p o (40 * (q / 40) + q % 40))) same there))),
      )))

  -- each word shows what the view knows of it
  pub found_of : (a : Spot) → IsFound e v a (s.word a)
  found_of a = record {
    life = λ r k l w at row z. subst (λ o. l ≤ life_shown w (s.word o)) (sym at) (inv.facts.life r k l w (row_known e s inv v within r k row) (let b = within (facts (is_seen_life k w l)) in omega (arith, b, z)));
    mark = λ r k l w at row z. subst (λ o. (l < life_shown w (s.word o)) ⊎ ((l ≡ life_shown w (s.word o)) × (mark_shown w (s.word o) ≡ 1))) (sym at) (inv.facts.mark r k l w (row_known e s inv v within r k row) (let b = within (facts (is_seen_mark k w l)) in omega (arith, b, z)));
    place = λ r k l j at row z. subst (λ o. (l < life_of (s.word o)) ⊎ ((l ≡ life_of (s.word o)) × ((mark_of (s.word o) ≡ 1) ⊎ (bit_at (s.word o) j ≡ 1)))) (sym at) (place_found r k l j (row_known e s inv v within r k row) z);
    port = λ r p l q at row z. subst (λ o. (l < life_of (s.word o)) ⊎ ((l ≡ life_of (s.word o)) × ((mark_of (s.word o) ≡ 1) ⊎ (bit_at (s.word o) (q % 40) ≡ 1)))) (sym at) (port_found r p l q (row_known e s inv v within r p row) z);
  }
