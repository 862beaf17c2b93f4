-- What the words of a row say after a strike on one of them.
use Rattle.std.proofs.Common.{◌≡◌, ◌≢◌, ◌⊎◌, ℕ, ◌+◌, ◌*◌, ◌%◌, ◌^◌, ◌<◌, Bool, ◌&&◌, false, min, ⊎_elim, inl, inr, arith, sym, ap, refl, ◌∙◌, subst}
use mathlib.Core.Logic.{dite}
use native.Mathlib.Decide.{ℕ_discrete}
use Rattle.std.proofs.lemmas.Bool.Decides.{eqb_tells}
use Rattle.core_state.specs.Graph.{Setting}
use Rattle.core_state.specs.Words.{key, descriptor, notify, life_of, mark_of}
use Rattle.core_state.specs.Tests.{two, same_hit, waits_at, is_spent, is_closed, is_struck}
use Rattle.core_state.specs.Change.{Core, Change, many}
use Rattle.core_state.specs.Rows.{HasKey, Empty, Shows, Lists, Content}
use Rattle.core_state.specs.Invariant.{Invariant}
use Rattle.core_state.specs.Views.{key_of}
use Rattle.graph_model.specs.declared.record.Hit.{Hit}
use Rattle.graph_model.specs.declared.record.Hit.TheVariants as hit_of
use Rattle.graph_model.specs.declared.record.Record.TheVariants as record_of
use Rattle.core_state.specs.declared.views.View.{View}
use Rattle.core_state.proofs.Base.Counting.{two_tells}
use Rattle.core_state.proofs.Base.Frame.{had}
use Rattle.core_state.proofs.Credit.JobView.{and_false}
use Rattle.core_state.proofs.Strike.View.{StrikeView, StrikeStep, rec, more, fact}

-- a strike that hit this key, life and target, or another one
pub not_hit : (a l k m : ℕ) (i h : Hit) → ((a ≡ k) × (l ≡ m) → same_hit i h ≡ false) → is_struck a l i (record_of.Struck (key_of k) m h) ≡ false
not_hit a l k m i h apart = ⊎_elim (λ z. ap (λ (o : Bool). o && same_hit i h) z) (λ z. ap (λ (o : Bool). two a l k m && o) (apart (z.1, z.2)) ∙ and_false (two a l k m)) (two_tells a l k m)

module _ (e : Setting) (s t : Core) (strike k m : ℕ) (h : Hit) (landed : Bool) (v w : View) (step : StrikeStep e s t v w) (u : StrikeView strike k m h landed v w) (inv : Invariant e s) where
  -- a word of another key, or another word
  pub else_shows : (a o : ℕ) → (a ≡ k → same_hit hit_of.Descriptor h ≡ false) → Shows e s a o → Shows e t a o
  else_shows a o apart i = record {
    other_bits = i.other_bits;
    spent = λ z j low. i.spent z j low ∙ sym (rec e s t strike k m h landed v w step u inv (is_spent a (life_of o) j) refl);
    struck = λ z. let x = i.struck z in let y = more e s t strike k m h landed v w step u inv (is_struck a (life_of o) hit_of.Descriptor) in omega (arith, x, y);
    root = i.root;
    spent_later = λ l j less. rec e s t strike k m h landed v w step u inv (is_spent a l j) refl ∙ i.spent_later l j less;
    struck_later = λ l less. rec e s t strike k m h landed v w step u inv (is_struck a l hit_of.Descriptor) (not_hit a l k m hit_of.Descriptor h (λ q. apart q.0)) ∙ i.struck_later l less;
  }

  pub else_lists : (a d o : ℕ) → (a ≡ k → same_hit (hit_of.Notify d) h ≡ false) → Lists e s a d o → Lists e t a d o
  else_lists a d o apart i = record {
    other_bits = i.other_bits;
    closing = λ z. i.closing z ∙ sym (rec e s t strike k m h landed v w step u inv (is_closed a (life_of o) d) refl);
    waiting = λ z open_word b low. i.waiting z open_word b low ∙ ap (min 1) (sym (fact e s t strike k m h landed v w step u inv (waits_at a (life_of o) (40 * d + b)) (λ y q. refl) (λ y q. refl)));
    registered = λ z b low some. i.registered z b low (let x = fact e s t strike k m h landed v w step u inv (waits_at a (life_of o) (40 * d + b)) (λ y q. refl) (λ y q. refl) in omega (arith, x, some));
    struck = λ z. let x = i.struck z in let y = more e s t strike k m h landed v w step u inv (is_struck a (life_of o) (hit_of.Notify d)) in omega (arith, x, y);
    root = i.root;
    closed_later = λ l less. rec e s t strike k m h landed v w step u inv (is_closed a l d) refl ∙ i.closed_later l less;
    waiting_later = λ l b less low. fact e s t strike k m h landed v w step u inv (waits_at a l (40 * d + b)) (λ y q. refl) (λ y q. refl) ∙ i.waiting_later l b less low;
    struck_later = λ l less. rec e s t strike k m h landed v w step u inv (is_struck a l (hit_of.Notify d)) (not_hit a l k m (hit_of.Notify d) h (λ q. apart q.0)) ∙ i.struck_later l less;
  }

module _ (e : Setting) (s t : Core) (strike k : ℕ) (h : Hit) (landed : Bool) (r n left : ℕ) (v w : View) (step : StrikeStep e s t v w) (u : StrikeView strike k (life_of n) h landed v w) (has : HasKey e s r k) (life : life_of left ≡ life_of n) (marked : mark_of left ≡ 1) (low : n % 2 ^ 48 < 2 ^ 42 → left % 2 ^ 48 < 2 ^ 42) (not_root : k ≢ e.graph.root) (inv : Invariant e s) where
  -- the record is of no later life than the word
  none_later : (i : Hit) (l : ℕ) → life_of left < l → many s (is_struck k l i) ≡ 0 → many t (is_struck k l i) ≡ 0
  none_later i l less old = rec e s t strike k (life_of n) h landed v w step u inv (is_struck k l i) (not_hit k l k (life_of n) i h (λ q. absurd (let a = q.1 in omega (arith, a, less, life)))) ∙ old

  below : (l : ℕ) → life_of left < l → life_of n < l
  below l less = subst (λ o. o < l) life less

  here_shows : 0 < many t (is_struck k (life_of n) hit_of.Descriptor) → Shows e s k n → Shows e t k left
  here_shows recorded i = record {
    other_bits = low i.other_bits;
    spent = λ z. absurd (omega (arith, marked, z));
    struck = λ z. subst (λ o. 0 < many t (is_struck k o hit_of.Descriptor)) (sym life) recorded;
    root = λ z. absurd (not_root z);
    spent_later = λ l j less. rec e s t strike k (life_of n) h landed v w step u inv (is_spent k l j) refl ∙ i.spent_later l j (below l less);
    struck_later = λ l less. none_later hit_of.Descriptor l less (i.struck_later l (below l less));
  }

  here_lists : (d : ℕ) → 0 < many t (is_struck k (life_of n) (hit_of.Notify d)) → Lists e s k d n → Lists e t k d left
  here_lists d recorded i = record {
    other_bits = low i.other_bits;
    closing = λ z. absurd (omega (arith, marked, z));
    waiting = λ z. absurd (omega (arith, marked, z));
    registered = λ z. absurd (omega (arith, marked, z));
    struck = λ z. subst (λ o. 0 < many t (is_struck k o (hit_of.Notify d))) (sym life) recorded;
    root = λ z. absurd (not_root z);
    closed_later = λ l less. rec e s t strike k (life_of n) h landed v w step u inv (is_closed k l d) refl ∙ i.closed_later l (below l less);
    waiting_later = λ l b less low. fact e s t strike k (life_of n) h landed v w step u inv (waits_at k l (40 * d + b)) (λ y q. refl) (λ y q. refl) ∙ i.waiting_later l b (below l less) low;
    struck_later = λ l less. none_later (hit_of.Notify d) l less (i.struck_later l (below l less));
  }

  row_of : (y a : ℕ) → HasKey e s y a → y ≡ r → a ≡ k
  row_of y a it z = let x = it.1 in let b = has.1 in let d = ap (λ o. s.word (key o)) z in omega (arith, x, b, d)

  at_row : (y a : ℕ) → HasKey e s y a → a ≡ k → y ≡ r
  at_row y a old z = inv.keys.one_row y r k (subst (HasKey e s y) z old) has

  old_key : (y : ℕ) → s.word (key y) ≡ 0 → y ≡ r → ⊥
  old_key y none z = let a = has.1 in let b = ap (λ o. s.word (key o)) z in omega (arith, a, b, none)

  module _ (c : Change s t (descriptor r) n left v w) (hit_is : h ≡ hit_of.Descriptor) where
    other_descriptor : (y : ℕ) → (y ≡ r → ⊥) → t.word (descriptor y) ≡ s.word (descriptor y)
    other_descriptor y ne = c.others (descriptor y) (λ q. ne (let z : y ≡ r = cc in z))

    pub struck_descriptor_empty : Empty e t
    struck_descriptor_empty = record {
      no_descriptor = λ y z. let old : s.word (key y) ≡ 0 = sym (step.keys y) ∙ z in other_descriptor y (old_key y old) ∙ inv.empty.no_descriptor y old;
      no_notify = λ y a z. c.others (notify y a) (λ q. cc) ∙ inv.empty.no_notify y a (sym (step.keys y) ∙ z);
      no_recovery = λ y z. step.recoveries y ∙ inv.empty.no_recovery y (sym (step.keys y) ∙ z);
      no_job = λ i y z. step.posts i y ∙ inv.empty.no_job i y (sym (step.keys y) ∙ z);
      beyond = λ y a d it low. c.others (notify y d) (λ q. cc) ∙ inv.empty.beyond y a d (had e s t step.keys y a it) low;
    }

    pub struck_descriptor_content : 0 < many t (is_struck k (life_of n) hit_of.Descriptor) → Content e t
    struck_descriptor_content recorded = record {
      descriptors = λ y a it. let old = had e s t step.keys y a it in dite (ℕ_discrete y r)
          (λ q. subst (λ o. Shows e t o (t.word (descriptor y))) (sym (row_of y a old q)) (subst (Shows e t k) (sym (ap (λ o. t.word (descriptor o)) q ∙ c.left_is)) (here_shows recorded (subst (Shows e s k) c.found_is (inv.content.descriptors r k has)))))
          (λ ne. subst (Shows e t a) (sym (other_descriptor y ne)) (else_shows e s t strike k (life_of n) h landed v w step u inv a (s.word (descriptor y)) (λ q. absurd (ne (at_row y a old q))) (inv.content.descriptors y a old)));
      notify_words = λ y a d it low. let old = had e s t step.keys y a it in subst (Lists e t a d) (sym (c.others (notify y d) (λ q. cc))) (else_lists e s t strike k (life_of n) h landed v w step u inv a d (s.word (notify y d)) (λ q. ap (same_hit (hit_of.Notify d)) hit_is) (inv.content.notify_words y a d old low));
    }

  module _ (d : ℕ) (inside : d < e.graph.notify_words k) (c : Change s t (notify r d) n left v w) (hit_is : h ≡ hit_of.Notify d) where
    other_notify : (y z : ℕ) → ((y ≡ r) × (z ≡ d) → ⊥) → t.word (notify y z) ≡ s.word (notify y z)
    other_notify y z ne = c.others (notify y z) (λ q. ne (let a : y ≡ r = cc in let b : z ≡ d = cc in (a, b)))

    here_or : (y z : ℕ) → ((y ≡ r) × (z ≡ d)) ⊎ ((y ≡ r) × (z ≡ d) → ⊥)
    here_or y z = dite (ℕ_discrete y r) (λ a. dite (ℕ_discrete z d) (λ b. inl (a, b)) (λ ne. inr (λ f. ne f.1))) (λ ne. inr (λ f. ne f.0))

    pub struck_notify_empty : Empty e t
    struck_notify_empty = record {
      no_descriptor = λ y z. c.others (descriptor y) (λ q. cc) ∙ inv.empty.no_descriptor y (sym (step.keys y) ∙ z);
      no_notify = λ y a z. let old : s.word (key y) ≡ 0 = sym (step.keys y) ∙ z in other_notify y a (λ q. old_key y old q.0) ∙ inv.empty.no_notify y a old;
      no_recovery = λ y z. step.recoveries y ∙ inv.empty.no_recovery y (sym (step.keys y) ∙ z);
      no_job = λ i y z. step.posts i y ∙ inv.empty.no_job i y (sym (step.keys y) ∙ z);
      beyond = λ y a z it low. let old = had e s t step.keys y a it in other_notify y z (λ q. let b = ap e.graph.notify_words (row_of y a old q.0) in let f = q.1 in omega (arith, b, f, inside, low)) ∙ inv.empty.beyond y a z old low;
    }

    pub struck_notify_content : 0 < many t (is_struck k (life_of n) (hit_of.Notify d)) → Content e t
    struck_notify_content recorded = record {
      descriptors = λ y a it. let old = had e s t step.keys y a it in subst (Shows e t a) (sym (c.others (descriptor y) (λ q. cc))) (else_shows e s t strike k (life_of n) h landed v w step u inv a (s.word (descriptor y)) (λ q. ap (same_hit hit_of.Descriptor) hit_is) (inv.content.descriptors y a old));
      notify_words = λ y a z it low. let old = had e s t step.keys y a it in ⊎_elim
          (λ q. subst (λ o. Lists e t o z (t.word (notify y z))) (sym (row_of y a old q.0)) (subst (λ o. Lists e t k o (t.word (notify y z))) (sym q.1) (subst (Lists e t k d) (sym (ap (λ o. t.word (notify o z)) q.0 ∙ ap (λ o. t.word (notify r o)) q.1 ∙ c.left_is))
          (here_lists d recorded (subst (Lists e s k d) c.found_is (inv.content.notify_words r k d has inside))))))
          (λ ne. subst (Lists e t a z) (sym (other_notify y z ne)) (else_lists e s t strike k (life_of n) h landed v w step u inv a z (s.word (notify y z)) (λ q. ap (same_hit (hit_of.Notify z)) hit_is ∙ ⊎_elim (λ f. absurd (ne (at_row y a old q, f.1))) (λ f. f.0) (eqb_tells z d)) (inv.content.notify_words y a z old low))) (here_or y z);
    }
