-- A strike that was made is made once, by its job, and has left its record; the others stay as they were. It may land, meet a mark, or miss its block.
use Rattle.std.proofs.Common.{◌≡◌, ◌⊎◌, ℕ, ◌+◌, ◌≤◌, ◌<◌, Bool, true, false, cond, ◌&&◌, eqb, ne_eqb, nat_le, ◌∷◌, arith, sym, ap, refl, ◌∙◌, subst}
use mathlib.Core.Logic.{dite}
use native.Mathlib.Decide.{ℕ_discrete}
use Rattle.std.proofs.lemmas.Bool.{eq-eqb, eqb-true, le-leb, leb-true, lt-ltb}
use Rattle.core_state.specs.Graph.{Setting}
use Rattle.core_state.specs.Words.{descriptor, notify}
use Rattle.core_state.specs.Counts.{hit, count, begun, struck_by, struck_idly, struck_upto}
use Rattle.core_state.specs.Tests.{same_hit, job_of, strikes_upto, names_hit, is_struck_upto}
use Rattle.core_state.specs.Change.{Core, Sums, many}
use Rattle.core_state.specs.Laws.{BlockStruck}
use Rattle.core_state.specs.Rows.{HasKey}
use Rattle.core_state.specs.Records.{Landed, StrikeOk, Strikes}
use Rattle.core_state.specs.Invariant.{Invariant}
use Rattle.core_state.specs.Guards.{MakesStrike}
use Rattle.graph_model.specs.declared.plan.Strike.{Strike}
use Rattle.graph_model.specs.declared.plan.Point.TheVariants as point
use Rattle.graph_model.specs.declared.plan.Target.{Target}
use Rattle.graph_model.specs.declared.plan.Target.TheVariants as target
use Rattle.graph_model.specs.declared.record.Hit.{Hit}
use Rattle.graph_model.specs.declared.record.Hit.TheVariants as hit_of
use Rattle.core_state.specs.declared.job.Job.{Job}
use Rattle.core_state.specs.declared.views.View.{View}
use Rattle.core_state.specs.declared.views.Word.TheVariants as word
use Rattle.core_state.proofs.Base.Counting.{bump_is, eqb_here, not_here, both}
use Rattle.core_state.proofs.Base.Frame.{SameKeys, had}
use Rattle.core_state.proofs.Base.MoreRecords.{block_struck_grows}
use Rattle.core_state.proofs.Strike.View.{StrikeView, StrikeStep, more, one_more, same_begun}
use Rattle.core_state.proofs.Strike.Next.{NextStrike, next_strike_is, holds_job, not_made}
use Rattle.core_state.proofs.Base.WeakFrame.{SameLives, KeptMarks, MoreRecords, marked_landed}

-- what the strike at the place n of the plan has left now
pub record Struck (e : Setting) (t : Core) (n : ℕ) : Type 0 where
  pub on_descriptor : (r : ℕ) → HasKey e t r (e.plan.strike n).key.0 → (e.plan.strike n).target ≡ target.Descriptor → Landed e t (e.plan.strike n).key.0 (e.plan.strike n).life (t.word (descriptor r)) hit_of.Descriptor
  pub on_notify : (r d : ℕ) → HasKey e t r (e.plan.strike n).key.0 → (e.plan.strike n).target ≡ target.Notify d → Landed e t (e.plan.strike n).key.0 (e.plan.strike n).life (t.word (notify r d)) (hit_of.Notify d)
  pub on_block : (e.plan.strike n).target ≡ target.Block → ((e.plan.strike n).point ≡ point.Computed) ⊎ ((e.plan.strike n).point ≡ point.Notified) → BlockStruck e.graph e.plan (many t) (e.plan.strike n).key.0

-- one more strike of the plan was made
module _ (e : Setting) (s t : Core) (sums : Sums s) (v w : View) (n : ℕ) (change : (f : View → ℕ) → t.total f + f v ≡ s.total f + f w) (within : (f : View → ℕ) → f v ≤ s.total f) (inv : Invariant e s) (next : NextStrike e v n) (unmade : s.total (struck_by n) ≡ 0) where
  pub one_strike : SameKeys s t → SameLives e s t → KeptMarks e s t → MoreRecords e s t → w.strikes ≡ n ∷ v.strikes → ((i : Job) (k l : ℕ) → begun i k l w ≡ begun i k l v) → Struck e t n
      → ((k l : ℕ) (h : Hit) → many t (is_struck_upto k l h) ≤ t.total (struck_upto e.plan k l h)) → Strikes e t
  one_strike kw sw kept more strikes begins left few = record {
    each = λ m low. dite (ℕ_discrete m n) (λ q. subst (λ o. StrikeOk e t o (e.plan.strike o)) (sym q) made) (λ ne. let x : Strike = e.plan.strike m in let old = inv.strikes.each m low in let by = other m ne in let was : 0 < t.total (struck_by m) → 0 < s.total (struck_by m) = (λ z. omega (arith, by, z)) in record {
      once = let a = old.once in omega (arith, a, by);
      by_its_job = let a = change (struck_idly x m) in let b = idly_same m ne in let d = old.by_its_job in omega (arith, a, b, d);
      has_word = λ z. old.has_word (was z);
      on_descriptor = λ r it z on'. marked_landed e s t sw kept more x.key.0 x.life r hit_of.Descriptor word.Descriptor (λ o. refl) (λ o. refl) (old.on_descriptor r (had e s t kw r x.key.0 it) (was z) on');
      on_notify = λ r d it z on'. marked_landed e s t sw kept more x.key.0 x.life r (hit_of.Notify d) (word.Notify d) (λ o. refl) (λ o. refl) (old.on_notify r d (had e s t kw r x.key.0 it) (was z) on');
      on_block = λ z on' at. block_struck_grows e.graph (many s) (many t) more e.plan x.key.0 (old.on_block (was z) on' at);
    });
    planned = λ m low. let a = inv.strikes.planned m low in let b = other m (λ q. let d = next.low in omega (arith, d, q, low)) in omega (arith, a, b);
    few = few;
  }
    where
      view : (m : ℕ) → struck_by m w ≡ hit (eqb m n) + struck_by m v
      view m = ap (count (eqb m)) strikes ∙ bump_is (eqb m n) (count (eqb m) v.strikes)

      view_same : (m : ℕ) → (m ≡ n → ⊥) → struck_by m w ≡ struck_by m v
      view_same m ne = let a = view m in let b = not_here m n ne in omega (arith, a, b)

      other : (m : ℕ) → (m ≡ n → ⊥) → t.total (struck_by m) ≡ s.total (struck_by m)
      other m ne = let a = change (struck_by m) in let b = view_same m ne in omega (arith, a, b)

      idly_same : (m : ℕ) → (m ≡ n → ⊥) → struck_idly (e.plan.strike m) m w ≡ struck_idly (e.plan.strike m) m v
      idly_same m ne = let x : Strike = e.plan.strike m in ap (λ o. cond (eqb o 0) (struck_by m w) 0) (begins (job_of (e.plan.strike m).point) (e.plan.strike m).key.0 (e.plan.strike m).life) ∙ ap (λ o. cond (eqb (begun (job_of (e.plan.strike m).point) (e.plan.strike m).key.0 (e.plan.strike m).life v) 0) o 0) (view_same m ne)

      busy : struck_idly (e.plan.strike n) n w ≡ 0
      busy = ap (λ (o : Bool). cond o (struck_by n w) 0) (ne_eqb (begun (job_of (e.plan.strike n).point) (e.plan.strike n).key.0 (e.plan.strike n).life w) 0 (λ q. let a = begins (job_of (e.plan.strike n).point) (e.plan.strike n).key.0 (e.plan.strike n).life in let d = holds_job e s sums v n within inv next in omega (arith, a, d, q)))

      made : StrikeOk e t n (e.plan.strike n)
      made = record {
        once = let a = change (struck_by n) in let b = view n in let d = ap hit (eqb_here n) in omega (arith, a, b, d, unmade);
        by_its_job = let a = change (struck_idly (e.plan.strike n) n) in let b = busy in let d = (inv.strikes.each n next.low).by_its_job in omega (arith, a, b, d);
        has_word = λ z. next.word;
        on_descriptor = λ r it z. left.on_descriptor r it;
        on_notify = λ r d it z. left.on_notify r d it;
        on_block = λ z. left.on_block;
      }

hit_below : (a b : Bool) → (a ≡ true → b ≡ true) → hit a ≤ hit b
hit_below true b f = let a = ap hit (f refl) in omega (arith, a)
hit_below false b f = omega arith

module _ (e : Setting) (s t : Core) (sums : Sums s) (k l m : ℕ) (on : Target) (h : Hit) (landed : Bool) (v w : View) (makes : MakesStrike e v k l on) (c : StrikeStep e s t v w) (u : StrikeView makes.strike k m h landed v w) (inv : Invariant e s) (low : l ≤ m) (names : (i : Hit) → same_hit i h ≡ true → names_hit on i ≡ true)
    (on_descriptor : (r : ℕ) → HasKey e s r k → on ≡ target.Descriptor → Landed e t k l (t.word (descriptor r)) hit_of.Descriptor) (on_notify : (r d : ℕ) → HasKey e s r k → on ≡ target.Notify d → Landed e t k l (t.word (notify r d)) (hit_of.Notify d))
    (on_block : on ≡ target.Block → BlockStruck e.graph e.plan (many t) k) where
  next : NextStrike e v makes.strike
  next = next_strike_is e v makes.strike makes.is_next

  now : Struck e t makes.strike
  now = let x : Strike = e.plan.strike makes.strike in record {
    on_descriptor = λ r it at. subst (λ o. Landed e t o x.life (t.word (descriptor r)) hit_of.Descriptor) (sym makes.of_key) (subst (λ o. Landed e t k o (t.word (descriptor r)) hit_of.Descriptor) (sym makes.of_life)
        (on_descriptor r (subst (HasKey e s r) makes.of_key (had e s t c.keys r x.key.0 it)) (sym makes.on_target ∙ at)));
    on_notify = λ r d it at. subst (λ o. Landed e t o x.life (t.word (notify r d)) (hit_of.Notify d)) (sym makes.of_key) (subst (λ o. Landed e t k o (t.word (notify r d)) (hit_of.Notify d)) (sym makes.of_life)
        (on_notify r d (subst (HasKey e s r) makes.of_key (had e s t c.keys r x.key.0 it)) (sym makes.on_target ∙ at)));
    on_block = λ at point. subst (BlockStruck e.graph e.plan (many t)) (sym makes.of_key) (on_block (sym makes.on_target ∙ at));
  }

  -- a strike that landed was made on what it hit, with no later life
  counted : (a b : ℕ) (i : Hit) → (landed && (eqb a k && (nat_le m b && same_hit i h))) ≡ true → strikes_upto e.plan a b i makes.strike ≡ true
  counted a b i z = let x : Strike = e.plan.strike makes.strike in let y = both landed (eqb a k && (nat_le m b && same_hit i h)) z in let o = both (eqb a k) (nat_le m b && same_hit i h) y.1 in let q = both (nat_le m b) (same_hit i h) o.1 in
      let key : a ≡ (e.plan.strike makes.strike).key.0 = eqb-true a k o.0 ∙ sym makes.of_key in
      let life : (e.plan.strike makes.strike).life ≤ b = (let f = leb-true m b q.0 in let g = makes.of_life in omega (arith, f, g, low)) in
      let named : names_hit (e.plan.strike makes.strike).target i ≡ true = subst (λ o. names_hit o i ≡ true) (sym makes.on_target) (names i q.1) in
      rw (lt-ltb makes.strike e.plan.count next.low, eq-eqb a (e.plan.strike makes.strike).key.0 key, le-leb (e.plan.strike makes.strike).life b life, named)

  pub made_strikes : Strikes e t
  made_strikes = one_strike e s t sums v w makes.strike c.sums c.within inv next (not_made e s sums v makes.strike c.within inv next c.alone) c.keys c.lives c.marks (more e s t makes.strike k m h landed v w c u inv) u.strikes_are (same_begun e s t makes.strike k m h landed v w c u inv) now
      (λ a b i. let x = one_more e s t makes.strike k m h landed v w c u inv (is_struck_upto a b i) in let y = c.sums (struck_upto e.plan a b i) in
      let o : struck_upto e.plan a b i w ≡ struck_upto e.plan a b i v + hit (strikes_upto e.plan a b i makes.strike) = ap (count (strikes_upto e.plan a b i)) u.strikes_are ∙ (let f = bump_is (strikes_upto e.plan a b i makes.strike) (count (strikes_upto e.plan a b i) v.strikes) in omega (arith, f)) in
      let q = hit_below (landed && (eqb a k && (nat_le m b && same_hit i h))) (strikes_upto e.plan a b i makes.strike) (counted a b i) in let g = inv.strikes.few a b i in omega (arith, x, y, o, q, g))
