-- That strikes of the plan prevent what they forestall: it stays so where nothing of the kind happens, or only at a word of the life without the mark, as on this no strike was made.
use Rattle.std.proofs.Common.{◌≡◌, ◌⊎◌, ℕ, ◌+◌, ◌<◌, ◌≤◌, Bool, true, ⊎_elim, arith, sym, ap, refl, ◌∙◌}
use mathlib.Core.Logic.{dite}
use native.Mathlib.Decide.{ℕ_discrete}
use Rattle.std.proofs.lemmas.Bool.{lt-ltb}
use Rattle.core_state.specs.Graph.{Setting}
use Rattle.core_state.specs.Words.{descriptor, notify, life_of, mark_of}
use Rattle.core_state.specs.Counts.{items, noted, struck_by}
use Rattle.core_state.specs.Tests.{is_loaded, is_spent, is_computed, is_closed}
use Rattle.core_state.specs.Change.{Core, many}
use Rattle.core_state.specs.Rows.{HasKey}
use Rattle.core_state.specs.Records.{Strikes}
use Rattle.core_state.specs.Cover.{Passed}
use Rattle.core_state.specs.Prevented.{Prevented}
use Rattle.core_state.specs.Views.{has_word}
use Rattle.graph_model.specs.declared.plan.Target.TheVariants as target
use Rattle.graph_model.specs.declared.record.Record.{Record}
use Rattle.core_state.specs.declared.views.Item.{Item}
use Rattle.core_state.specs.declared.views.View.{View}
use Rattle.core_state.proofs.Plan.Passes.{PassesNone}

-- the descriptor of the key shows this life without the mark
pub record Clean (e : Setting) (s : Core) (k l : ℕ) : Type 0 where
  pub row : ℕ
  pub has_key : HasKey e s row k
  pub life_is : life_of (s.word (descriptor row)) ≡ l
  pub unmarked : mark_of (s.word (descriptor row)) ≡ 0

-- the notify word was closed in this step, in the life that it shows without the mark, with all that comes before
pub record NewlyClosed (e : Setting) (s t : Core) (k l w : ℕ) : Type 0 where
  pub row : ℕ
  pub has_key : HasKey e s row k
  pub word_in : w < e.graph.notify_words k
  pub life_is : life_of (s.word (notify row w)) ≡ l
  pub unmarked : mark_of (s.word (notify row w)) ≡ 0
  pub spent : 0 < many t (is_spent k l 40)
  pub made : 0 < many t (is_computed k l)
  pub first : 0 < many t (is_closed k l 0)

-- what a step that makes no strike leaves
pub record Prevents (e : Setting) (s t : Core) : Type 0 where
  pub struck : (n : ℕ) → t.total (struck_by n) ≤ s.total (struck_by n)
  pub explored : (k : ℕ) → 0 < many t (is_spent k 1 40) → (0 < many s (is_spent k 1 40)) ⊎ Clean e s k 1
  pub ready : (k l : ℕ) → 0 < many t (is_computed k l) + t.total (items (is_loaded k l)) → (0 < many s (is_computed k l) + s.total (items (is_loaded k l))) ⊎ Clean e s k l
  pub closed : (k l w : ℕ) → 0 < many t (is_closed k l w) → (0 < many s (is_closed k l w)) ⊎ NewlyClosed e s t k l w

-- a number that can't be above 0 is 0
pub none_above : (n : ℕ) → (0 < n → ⊥) → n ≡ 0
none_above n f = dite (ℕ_discrete n 0) (λ z. z) (λ ne. absurd (f (omega (arith, ne))))

module _ (e : Setting) (s t : Core) (strikes : Strikes e s) (passed : Passed e t) (u : Prevents e s t) where
  -- a strike that was made leaves its mark or a later life, so none was made on a word of its life without the mark
  not_landed : (n l : ℕ) → life_of n ≡ l → mark_of n ≡ 0 → (l < life_of n) ⊎ ((l ≤ life_of n) × (mark_of n ≡ 1)) → ⊥
  not_landed n l life unmarked stands = ⊎_elim (λ q. omega (arith, q, life)) (λ q. let a = q.1 in omega (arith, a, unmarked)) stands

  module _ (n : ℕ) (low : n < e.plan.count) where
    on_descriptor : (l : ℕ) → (e.plan.strike n).target ≡ target.Descriptor → (e.plan.strike n).life ≡ l → Clean e s (e.plan.strike n).key.0 l → 0 < t.total (struck_by n) → ⊥
    on_descriptor l on life clean made = not_landed (s.word (descriptor clean.row)) (e.plan.strike n).life (clean.life_is ∙ sym life) clean.unmarked
        ((strikes.each n low).on_descriptor clean.row clean.has_key (let a = u.struck n in omega (arith, a, made)) on).stands

    on_notify : (l w : ℕ) → (e.plan.strike n).target ≡ target.Notify w → (e.plan.strike n).life ≡ l → NewlyClosed e s t (e.plan.strike n).key.0 l w → 0 < t.total (struck_by n) → ⊥
    on_notify l w on life new made = not_landed (s.word (notify new.row w)) (e.plan.strike n).life (new.life_is ∙ sym life) new.unmarked
        ((strikes.each n low).on_notify new.row w new.has_key (let a = u.struck n in omega (arith, a, made)) on).stands

    word_there : (w : ℕ) → (e.plan.strike n).target ≡ target.Notify w → w < e.graph.notify_words (e.plan.strike n).key.0 → has_word e.graph (e.plan.strike n).key.0 (e.plan.strike n).target ≡ true
    word_there w on inside = ap (has_word e.graph (e.plan.strike n).key.0) on ∙ lt-ltb w (e.graph.notify_words (e.plan.strike n).key.0) inside

  pub prevents_keep : Prevented e s → Prevented e t
  prevents_keep i = record {
    each = λ n low. let old = i.each n low in record {
      explored_descriptor = λ at on one. none_above (many t (is_spent (e.plan.strike n).key.0 1 40)) (λ z. ⊎_elim (λ q. let a = old.explored_descriptor at on one in omega (arith, a, q))
          (λ q. on_descriptor n low 1 on one q ((passed.each n low (ap (has_word e.graph (e.plan.strike n).key.0) on)).explored at one z)) (u.explored (e.plan.strike n).key.0 z));
      explored_notify = λ w at on one. none_above (many t (is_closed (e.plan.strike n).key.0 1 w)) (λ z. ⊎_elim (λ q. let a = old.explored_notify w at on one in omega (arith, a, q))
          (λ q. on_notify n low 1 w on one q ((passed.each n low (word_there n low w on q.word_in)).explored at one q.spent)) (u.closed (e.plan.strike n).key.0 1 w z));
      ready_descriptor = λ at on. none_above (many t (is_computed (e.plan.strike n).key.0 (e.plan.strike n).life) + t.total (items (is_loaded (e.plan.strike n).key.0 (e.plan.strike n).life))) (λ z. ⊎_elim (λ q. let a = old.ready_descriptor at on in omega (arith, a, q))
          (λ q. on_descriptor n low (e.plan.strike n).life on refl q ((passed.each n low (ap (has_word e.graph (e.plan.strike n).key.0) on)).ready at z)) (u.ready (e.plan.strike n).key.0 (e.plan.strike n).life z));
      ready_notify = λ w at on. none_above (many t (is_closed (e.plan.strike n).key.0 (e.plan.strike n).life w)) (λ z. ⊎_elim (λ q. let a = old.ready_notify w at on in omega (arith, a, q))
          (λ q. on_notify n low (e.plan.strike n).life w on refl q ((passed.each n low (word_there n low w on q.word_in)).ready at (let a = q.made in omega (arith, a)))) (u.closed (e.plan.strike n).key.0 (e.plan.strike n).life w z));
      computed_notify = λ w at on. none_above (many t (is_closed (e.plan.strike n).key.0 (e.plan.strike n).life w)) (λ z. ⊎_elim (λ q. let a = old.computed_notify w at on in omega (arith, a, q))
          (λ q. on_notify n low (e.plan.strike n).life w on refl q ((passed.each n low (word_there n low w on q.word_in)).computed at q.first)) (u.closed (e.plan.strike n).key.0 (e.plan.strike n).life w z));
    };
  }

-- where none of these come, whatever strikes are made
pub prevented_falls : (e : Setting) (s t : Core) → ((k : ℕ) → many t (is_spent k 1 40) ≤ many s (is_spent k 1 40)) → ((k l : ℕ) → many t (is_computed k l) + t.total (items (is_loaded k l)) ≤ many s (is_computed k l) + s.total (items (is_loaded k l)))
    → ((k l w : ℕ) → many t (is_closed k l w) ≤ many s (is_closed k l w)) → Prevented e s → Prevented e t
prevented_falls e s t spent ready closed i = record {
  each = λ n low. let old = i.each n low in record {
    explored_descriptor = λ at on one. let a = old.explored_descriptor at on one in let b = spent (e.plan.strike n).key.0 in omega (arith, a, b);
    explored_notify = λ w at on one. let a = old.explored_notify w at on one in let b = closed (e.plan.strike n).key.0 1 w in omega (arith, a, b);
    ready_descriptor = λ at on. let a = old.ready_descriptor at on in let b = ready (e.plan.strike n).key.0 (e.plan.strike n).life in omega (arith, a, b);
    ready_notify = λ w at on. let a = old.ready_notify w at on in let b = closed (e.plan.strike n).key.0 (e.plan.strike n).life w in omega (arith, a, b);
    computed_notify = λ w at on. let a = old.computed_notify w at on in let b = closed (e.plan.strike n).key.0 (e.plan.strike n).life w in omega (arith, a, b);
  };
}

-- a view that passes no point
pub none_prevented : (e : Setting) (s t : Core) (v w : View) → ((f : View → ℕ) → t.total f + f v ≡ s.total f + f w) → PassesNone v w → Prevented e s → Prevented e t
none_prevented e s t v w change u = prevented_falls e s t (λ k. let a = change (noted (is_spent k 1 40)) in let b = u.spent k in omega (arith, a, b))
    (λ k l. let a = change (noted (is_computed k l)) in let b = u.computed k l in let c = change (items (is_loaded k l)) in let d = u.loads k l in omega (arith, a, b, c, d))
    (λ k l i. let a = change (noted (is_closed k l i)) in let b = u.closed k l i in omega (arith, a, b))

-- no such item or record comes or goes
pub same_prevented : (e : Setting) (s t : Core) → ((p : Item → Bool) → t.total (items p) ≡ s.total (items p)) → ((p : Record → Bool) → many t p ≡ many s p) → Prevented e s → Prevented e t
same_prevented e s t its recs = prevented_falls e s t (λ k. let a = recs (is_spent k 1 40) in omega (arith, a)) (λ k l. let a = recs (is_computed k l) in let b = its (is_loaded k l) in omega (arith, a, b)) (λ k l w. let a = recs (is_closed k l w) in omega (arith, a))
