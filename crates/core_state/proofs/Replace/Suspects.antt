-- What a suspect that comes owes: no word shows a life beyond the one that stands or comes next, a mark has landed, and its cause is told from others.
use Rattle.std.proofs.Common.{◌≡◌, ◌⊎◌, ℕ, ◌+◌, ◌<◌, ◌≤◌, Bool, true, false, ◌&&◌, ⊎_elim, inl, inr, arith, ap, refl, ◌∙◌}
use mathlib.Core.Logic.{dite}
use native.Mathlib.Decide.{ℕ_discrete, dec_lt}
use Rattle.std.proofs.lemmas.Bool.Decides.{eqb_tells}
use Rattle.core_state.specs.Graph.{Setting}
use Rattle.core_state.specs.Words.{descriptor, notify, life_of, standing_life, replacing}
use Rattle.core_state.specs.Counts.{noted}
use Rattle.core_state.specs.Tests.{two, same_found, same_cause, is_any_struck, is_struck}
use Rattle.core_state.specs.Change.{Core, Sums, many}
use Rattle.core_state.specs.Rows.{LifeOf}
use Rattle.graph_model.specs.declared.record.Cause.{Cause}
use Rattle.graph_model.specs.declared.record.Cause.TheVariants as cause
use Rattle.graph_model.specs.declared.record.Found.{Found}
use Rattle.graph_model.specs.declared.record.Found.TheVariants as found
use Rattle.graph_model.specs.declared.record.Hit.{Hit}
use Rattle.graph_model.specs.declared.record.Record.{Record}
use Rattle.graph_model.specs.declared.record.Record.TheVariants as record_of
use Rattle.core_state.proofs.Base.Counting.{two_tells}
use Rattle.core_state.proofs.Row.View.{fewer}
use Rattle.core_state.proofs.Credit.JobView.{and_false}

module _ (e : Setting) (s : Core) (r k n : ℕ) (life : LifeOf e s r k n) where
  pub descriptor_low : life_of (s.word (descriptor r)) ≤ standing_life n + replacing n
  descriptor_low = dite (ℕ_discrete (replacing n) 0) (λ q. let a = (life.standing q).descriptor_life in omega (arith, a))
      (λ ne. let st = life.being_replaced (omega (arith, ne)) in dite (ℕ_discrete st.done (e.graph.notify_words k + 1)) (λ q. let a = st.descriptor_after q in omega (arith, a, ne)) (λ q. let b = st.at_most in let a = st.descriptor_before (omega (arith, b, q)) in omega (arith, a)))

  pub notify_low : (w : ℕ) → w < e.graph.notify_words k → life_of (s.word (notify r w)) ≤ standing_life n + replacing n
  notify_low w inside = dite (ℕ_discrete (replacing n) 0) (λ q. let a = (life.standing q).notify_life w inside in omega (arith, a))
      (λ ne. let st = life.being_replaced (omega (arith, ne)) in dite (dec_lt w st.done) (λ q. let a = st.done_words w inside q in omega (arith, a, ne)) (λ q. let a = st.other_words w inside (omega (arith, q)) in omega (arith, a)))

  -- no word shows an earlier life than the one that stands, and a notify word none earlier than the descriptor
  pub descriptor_high : standing_life n ≤ life_of (s.word (descriptor r))
  descriptor_high = dite (ℕ_discrete (replacing n) 0) (λ q. let a = (life.standing q).descriptor_life in omega (arith, a))
      (λ ne. let st = life.being_replaced (omega (arith, ne)) in dite (ℕ_discrete st.done (e.graph.notify_words k + 1)) (λ q. let a = st.descriptor_after q in omega (arith, a)) (λ q. let b = st.at_most in let a = st.descriptor_before (omega (arith, b, q)) in omega (arith, a)))

  pub notify_high : (w : ℕ) → w < e.graph.notify_words k → life_of (s.word (descriptor r)) ≤ life_of (s.word (notify r w))
  notify_high w inside = dite (ℕ_discrete (replacing n) 0) (λ q. let a = (life.standing q).descriptor_life in let b = (life.standing q).notify_life w inside in omega (arith, a, b))
      (λ ne. let st = life.being_replaced (omega (arith, ne)) in dite (ℕ_discrete st.done (e.graph.notify_words k + 1)) (λ q. let a = st.descriptor_after q in let b = st.done_words w inside (omega (arith, q, inside)) in omega (arith, a, b))
      (λ q. let b = st.at_most in let a = st.descriptor_before (omega (arith, b, q)) in dite (dec_lt w st.done) (λ low. let d = st.done_words w inside low in omega (arith, a, d)) (λ high. let d = st.other_words w inside (omega (arith, high)) in omega (arith, a, d))))

-- while no strike has landed, none has on this word
pub none_struck : (s : Core) → Sums s → many s is_any_struck ≡ 0 → (k l : ℕ) (h : Hit) → many s (is_struck k l h) ≡ 0
none_struck s sums unstruck k l h = sums.none (noted is_any_struck) (noted (is_struck k l h)) (λ o f. fewer is_any_struck (is_struck k l h) any o.records f) unstruck
  where
    any : (x : Record) → is_struck k l h x ≡ true → is_any_struck x ≡ true
    any (record_of.Struck a m i) z = refl
    any x z = absurd cc

found_tells : (f g : Found) → (same_found f g ≡ false) ⊎ (f ≡ g)
found_tells (found.Struck v) (found.Struck u) = ⊎_elim (λ q. inr (ap found.Struck q.1)) (λ q. inl q.0) (eqb_tells v u)
found_tells (found.Other v) (found.Other u) = ⊎_elim (λ q. inr (ap found.Other q.1)) (λ q. inl q.0) (eqb_tells v u)
found_tells (found.Struck v) (found.Other u) = inl refl
found_tells (found.Other v) (found.Struck u) = inl refl

pub cause_tells : (c d : Cause) → (same_cause c d ≡ false) ⊎ (c ≡ d)
cause_tells cause.Descriptor cause.Descriptor = inr refl
cause_tells cause.Notify cause.Notify = inr refl
cause_tells (cause.Block b v f) (cause.Block a u g) = ⊎_elim (λ q. inl (ap (λ (o : Bool). o && same_found f g) q))
    (λ q. ⊎_elim (λ o. inl (ap (λ (x : Bool). two b v a u && x) o ∙ and_false (two b v a u))) (λ o. inr (ap (λ x. cause.Block x v f) q.1 ∙ ap (λ x. cause.Block a x f) q.2 ∙ ap (cause.Block a u) o)) (found_tells f g)) (two_tells b v a u)
cause_tells cause.Descriptor cause.Notify = inl refl
cause_tells cause.Descriptor (cause.Block a u g) = inl refl
cause_tells cause.Notify cause.Descriptor = inl refl
cause_tells cause.Notify (cause.Block a u g) = inl refl
cause_tells (cause.Block b v f) cause.Descriptor = inl refl
cause_tells (cause.Block b v f) cause.Notify = inl refl
