-- Closing a word keeps that the strikes of passed points were made: word 0 passes a point, and a closing that is given up has still a word to close.
use Rattle.std.proofs.Common.{◌≡◌, ℕ, ◌^◌, ◌%◌, ◌<◌, ◌≤◌, Bool, true, false, cond, nat_lt, nat_eq, eqb, bit_or, ⊎_elim, inl, inr, arith, sym, ap, refl, ◌∙◌, subst}
use Rattle.std.proofs.lemmas.Bool.{le-ltb}
use Rattle.core_state.specs.Graph.{Setting}
use Rattle.core_state.specs.Words.{notify, life_of, mark_of}
use Rattle.core_state.specs.Packed.{notify_of}
use Rattle.core_state.specs.Counts.{hit, count, items, noted, struck_by}
use Rattle.core_state.specs.Tests.{two, three, is_loaded, is_close, is_close_from, is_spent, is_computed, is_closed}
use Rattle.core_state.specs.Change.{Core, Change, Sums, many}
use Rattle.core_state.specs.Laws.{AllClosed}
use Rattle.core_state.specs.Rows.{HasKey}
use Rattle.core_state.specs.Cover.{Passed}
use Rattle.core_state.specs.Invariant.{Invariant}
use Rattle.core_state.specs.Guards.{CanClose}
use Rattle.core_state.specs.Effects.{closing_of, close_left, after_close, saw}
use Rattle.graph_model.specs.declared.plan.Point.TheVariants as point
use Rattle.graph_model.specs.declared.record.Record.{Record}
use Rattle.core_state.specs.declared.answers.Closing.TheVariants as closing
use Rattle.core_state.specs.declared.views.Item.TheVariants as item
use Rattle.core_state.specs.declared.views.View.{View}
use Rattle.core_state.specs.declared.views.Word.TheVariants as word
use Rattle.core_state.proofs.Base.Counting.{two_here, two_tells, three_here, three_else}
use Rattle.core_state.proofs.Close.Keeps.{row_is, some_life}
use Rattle.core_state.proofs.Close.View.{LeftView, ClosedView, stale_view, struck_view, closed_view}
use Rattle.core_state.proofs.Plan.PassesEach.{quiet_computed}
use Rattle.core_state.proofs.Plan.PassesNone.{plain}
use Rattle.core_state.proofs.Plan.Passes.{AllMade, view_made, passes_keep, none_passed}
use Rattle.core_state.proofs.Spend.View.{and_fails}
use Rattle.core_state.proofs.Blocks.AtWork.{at_work}

module _ (e : Setting) (s t : Core) (sums : Sums s) (r k l w n seen : ℕ) (v : View) (can : CanClose e v r k l w seen) (inv : Invariant e s) where
  -- word 0 is closed where no strike is left; a word that is closed leaves the closing
  closed_on : (left : ℕ) (u : View) → Change s t (notify r w) n left v u → ClosedView k l w n v u → Passed e s → Passed e t
  closed_on left u c x = passes_keep e s t record {
    struck = λ m. let a = c.sums (struck_by m) in let b = kept m in omega (arith, a, b);
    explored = λ a z. inl (let d = c.sums (noted (is_spent a 1 40)) in let f = x.noted_more (is_spent a 1 40) in omega (arith, d, f, z));
    ready = λ a b z. inl (let d = c.sums (noted (is_computed a b)) in let f = x.noted_more (is_computed a b) in let g = c.sums (items (is_loaded a b)) in let h = x.added (is_loaded a b) in omega (arith, d, f, g, h, z));
    computed = λ a b z. ⊎_elim (λ q. inl (let d = c.sums (noted (is_closed a b 0)) in let f = x.noted_more (is_closed a b 0) in omega (arith, d, f, q, z)))
        (λ q. inr (subst (λ o. AllMade e t point.Computed o b) (sym q.0) (subst (AllMade e t point.Computed k) (sym q.1) (view_made e s t v u c.sums c.within kept point.Computed k l (quiet_computed e v k l w (sym q.2) can.order can.at_work))))) (three_else a b 0 k l w);
    notified = λ a b all. ⊎_elim (λ q. inr (inr ((λ i low. let d = c.sums (noted (is_closed a b i)) in let f = x.noted_more (is_closed a b i) in let g = apart a b i q in let h = all i low in omega (arith, d, f, g, h)), let d = c.sums (items (is_close a b)) in let f = x.added (is_close a b) in omega (arith, d, f))))
        (λ q. inl (let d = c.sums (items (is_close a b)) in let f = x.added (is_close a b) in let g = c.within (items (is_close a b)) in let h = at_work (is_close a b) v (item.Close k l w) can.at_work in let i = ap hit q.0 in omega (arith, d, f, g, h, i))) (two_tells a b k l);
  }
    where
      kept : (m : ℕ) → struck_by m v ≤ struck_by m u
      kept m = let a = ap (count (eqb m)) x.strikes_are in omega (arith, a)

      apart : (a b i : ℕ) → two a b k l ≡ false → hit (three a b i k l w) ≡ 0
      apart a b i q = ⊎_elim (λ z. z) (λ z. absurd (let f : two a b k l ≡ true = ap (λ o. two o b k l) z.0 ∙ ap (λ o. two k o k l) z.1 ∙ two_here k l in let g : true ≡ false = sym f ∙ q in cc)) (three_else a b i k l w)

  -- a closing that is given up has still this word to close
  still_open : ((f : View → ℕ) → f v ≤ s.total f) → HasKey e s r k → 0 < l → many s (is_closed k l w) ≡ 0
  still_open within has some = (inv.work.computings.each r k l has some).closing w w (let a = within (items (is_close_from k l w)) in let b = at_work (is_close_from k l w) v (item.Close k l w) can.at_work in let d = three_here k l w in omega (arith, a, b, d)) ∙ ap hit (le-ltb w w (omega arith))

  given_up : (left : ℕ) (marked : Bool) (u : View) → HasKey e s r k → 0 < l → Change s t (notify r w) n left v u → LeftView k l w n marked v u → Passed e s → Passed e t
  given_up left marked u has some c x = passes_keep e s t record {
    struck = λ m. let a = c.sums (struck_by m) in let b = ap (count (eqb m)) x.strikes_are in omega (arith, a, b);
    explored = λ a z. inl (let d = same (is_spent a 1 40) in omega (arith, d, z));
    ready = λ a b z. inl (let d = same (is_computed a b) in let g = c.sums (items (is_loaded a b)) in let h = x.added (is_loaded a b) in let i = and_fails marked false refl in omega (arith, d, g, h, i, z));
    computed = λ a b z. inl (let d = same (is_closed a b 0) in omega (arith, d, z));
    notified = λ a b all. ⊎_elim (λ q. inr (inr (before a b all, let d = c.sums (items (is_close a b)) in let f = x.added (is_close a b) in let g = and_fails marked false refl in let h : hit (two a b k l) ≡ 0 = ap hit q in omega (arith, d, f, g, h))))
        (λ q. absurd (let open_word = still_open c.within has some in let f : 0 < many s (is_closed k l w) = before k l (subst (λ o. AllClosed e.graph e.plan (many t) o l) q.1 (subst (λ o. AllClosed e.graph e.plan (many t) a o) q.2 all)) w can.word_in in omega (arith, open_word, f))) (two_tells a b k l);
  }
    where
      same : (p : Record → Bool) → many t p ≡ many s p
      same p = let a = c.sums (noted p) in let b = ap (count p) x.records_are in omega (arith, a, b)

      before : (a b : ℕ) → AllClosed e.graph e.plan (many t) a b → AllClosed e.graph e.plan (many s) a b
      before a b all i low = let d = same (is_closed a b i) in let f = all i low in omega (arith, d, f)

  pub passed_close : Change s t (notify r w) n (close_left seen n) v (after_close k l w n (closing_of l seen n) v) → Passed e s → Passed e t
  passed_close c = by (nat_eq n seen) (nat_eq (mark_of n) 1) (nat_lt l (life_of n)) c
    where
      by : (a b d : Bool) → Change s t (notify r w) n (cond a (bit_or n (2 ^ 40)) n) v (after_close k l w n (cond a (closing.Edges (n % 2 ^ 40)) (cond b (closing.Struck (life_of n)) (cond d (closing.Stale (life_of n)) (closing.Moved (notify_of n))))) v) → Passed e s → Passed e t
      by true b d c' = closed_on (bit_or n (2 ^ 40)) (after_close k l w n (closing.Edges (n % 2 ^ 40)) v) c' (closed_view k l w n v can.at_work (n % 2 ^ 40))
      by false true d c' = given_up n true (after_close k l w n (closing.Struck (life_of n)) v) (row_is e s t sums r k l w n seen v can c inv) (some_life e s t sums r k l w n seen v can c inv) c' (struck_view k l w n v can.at_work)
      by false false true c' = given_up n false (after_close k l w n (closing.Stale (life_of n)) v) (row_is e s t sums r k l w n seen v can c inv) (some_life e s t sums r k l w n seen v can c inv) c' (stale_view k l w n v can.at_work (life_of n))
      by false false false c' = none_passed e s t v (saw k (word.Notify w) n v) c'.sums (plain v (saw k (word.Notify w) n v) refl refl (λ a b. refl) (λ a b. refl))
